-- The run of the root's fork, from the words at the start to the bytes written. Assumes nothing.
use Prim.Native.Nat.{ℕ, ◌≤◌, ◌<◌}
use mathlib.Core.Path.{◌≡◌, refl, sym, ◌∙◌, ap}
use mathlib.Core.List.{List}
use native.Mathlib.Omega.{arith}
use lib.ListN.{length, get_or}
use Rattle.session.specs.Parts.{level_count, object_count}
use Rattle.session.specs.Meaning.{level_of, root_object, root_of}
use Rattle.session.specs.Program.{Program, program_of}
use Rattle.session.proofs.Laws.Accepted.{level_present, root_present, root_named}
use Rattle.session.proofs.Laws.Contents.{level_limit, object_limit, masks_length}
use Rattle.session.proofs.Laws.Numbers.{number_own, number_few}
use Rattle.scripts.specs.declared.Ended.{Ended}
use Rattle.model.specs.Limits.{max_managers, result_bytes}
use Rattle.model.specs.Fork as model
use Rattle.model.specs.DepthFirst.{Progress, tally_at, run_fork, depth_first}
use Rattle.model.specs.Result.{result_of_depth_first}
use Rattle.histories.specs.Histories.{histories_at, ended_in}
use Rattle.results.specs.Writing.{result_in, bytes_in, Ready}
use Rattle.lists.specs.Placed.{Written}
use Rattle.results.proofs.Laws.Depends.{bytes_depend}
use Rattle.results.proofs.Laws.Written.{bytes_fit}
use Rattle.progress.specs.Representation.{Tables, Words, Represents}
use Rattle.descent.specs.Forks.{Runnable, Same, RunDone}
use Rattle.depth_first.specs.Runs.{RootFork, initial_progress, bytes_shown, RanOver}
use Rattle.progress.specs.declared.Fork.{Fork}
use Rattle.depth_first.proofs.Laws.Start.{start_tally}

module _ (s masks index : List ℕ) (a : Tables s masks index) where
  abbrev p : Program
  p = program_of s

  table_length : length masks ≡ level_count s
  table_length = ap length a.masks_are ∙ masks_length s a.accepted

  root_level : level_of s (root_object s) < level_count s
  root_level = level_present s a.accepted (root_object s)

  -- the words of a run, and the bytes that they make
  module _ (g : Progress) (w : Words) (q : Represents s g w) (c : ℕ) where
    levels_are : (program_of s).levels ≡ level_count s
    levels_are = unfold program_of in refl

    objects_are : (program_of s).objects ≡ object_count s
    objects_are = unfold program_of in refl

    same_ended : (l : ℕ) → l < level_count s → ended_in w.ended w.tallies l ≡ (tally_at g l).ended
    same_ended l h =
        let k = q.counted l h in
        ap (histories_at w.ended l) k.count ∙ k.histories

    same_bytes : bytes_in s (result_in w.current w.ended w.tallies) c (level_of s (root_object s)) ≡ bytes_in s (result_of_depth_first p g) c (level_of s (root_object s))
    same_bytes =
        bytes_depend s (result_in w.current w.ended w.tallies) (result_of_depth_first p g) c (level_of s (root_object s)) root_level
        (λ o k n h. q.field o k (number_few s a.accepted o n) (omega (arith, h)))
        (λ l h _. same_ended l h)

    bytes_few : length (bytes_in s (result_of_depth_first p g) c (level_of s (root_object s))) ≤ result_bytes
    bytes_few =
        bytes_fit p (result_of_depth_first p g) c (level_of s (root_object s)) (rw levels_are (level_limit s a.accepted)) (rw objects_are (object_limit s a.accepted))
        (λ l h. (q.counted l (rw (sym levels_are) h)).few)

  -- the root's fork runs
  module _ (f : Fork) (r : RootFork s f) where
    pub root_runnable : Runnable s (length masks) f
    root_runnable =
        record {
          placed = rw r.level root_level;
          present = rw r.message (number_own s (root_object s) (root_present s a.accepted));
          named = rw r.message (root_named s a.accepted);
          shallow = omega (arith, r.depth, table_length, level_limit s a.accepted);
          fits = rw (r.stamp, r.depth) (omega arith);
        }

    root_same : Same f (model.root_fork (level_count s) (root_of s))
    root_same = record { stamp = sym r.stamp; depth = sym r.depth; message = sym r.message }

    pub root_room : (w : Words) → Represents s (initial_progress s) w → get_or w.tallies f.level 0 < max_managers
    root_room w q =
        let h : f.level < level_count s = rw r.level root_level in
        let e = start_tally s a.accepted f.level h in
        omega (arith, (q.counted f.level h).count, ap (λ t. length t.ended) e)

    run_is : run_fork (length masks) p f.level (model.root_fork (level_count s) (root_of s)) (initial_progress s) ≡ depth_first p (root_of s)
    unfolding depth_first program_of
    run_is = rw (table_length, r.level) refl

    -- the words then say the whole run
    pub run_represents : (w w' : Words) (h : Ended) → Represents s (initial_progress s) w → RunDone s (length masks) f w w' h → Represents s (depth_first p (root_of s)) w'
    run_represents w w' h q d =
        rw (sym run_is) (d.1 (initial_progress s) (model.root_fork (level_count s) (root_of s)) q root_same).0

    module _ (w w' : Words) (h : Ended) (q : Represents s (initial_progress s) w) (d : RunDone s (length masks) f w w' h) where
      pub write_ready : (buffer : List ℕ) → result_bytes ≤ length buffer → Ready s masks w'.current w'.ended w'.tallies f.level buffer
      write_ready buffer room =
          let k = run_represents w w' h q d in
          record {
            fields_ready = record { accepted = a.accepted; table = a.masks_are; room = k.fields_there };
            histories_ready = record {
              room = k.histories_there;
              levels = omega (arith, k.tallies_there);
              counted = k.counts_few;
            };
            root = rw r.level root_level;
            room = room;
          }

      pub run_shown : (c count : ℕ) (before after : List ℕ) → Written (bytes_in s (result_in w'.current w'.ended w'.tallies) c f.level) before after count → RanOver s c w w' before after count
      run_shown c count before after t =
          let k = run_represents w w' h q d in
          let e : bytes_in s (result_in w'.current w'.ended w'.tallies) c f.level ≡ bytes_shown s c =
          ap (bytes_in s (result_in w'.current w'.ended w'.tallies) c) r.level ∙ same_bytes (depth_first p (root_of s)) w' k c in
          let t' : Written (bytes_shown s c) before after count = rw e at t in
          record {
            represents = k;
            spared = d.0;
            shown = record { written = t'; fits = omega (arith, t'.number, bytes_few (depth_first p (root_of s)) w' k c) };
          }
