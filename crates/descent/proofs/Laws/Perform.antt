-- What a script step did outside its manager, done to the words of the run. Assumes nothing.
use Prim.Native.Nat.{ℕ, ◌+◌, ◌-◌, ◌^◌, ◌≤◌, ◌<◌}
use mathlib.Core.Path.{◌≡◌, refl, sym, ap, subst}
use mathlib.Core.List.{List}
use native.Mathlib.Omega.{arith}
use Rattle.session.specs.Program.{Program, program_of}
use Rattle.session.specs.Value.{Value}
use Rattle.session.specs.declared.Message.{Message}
use Rattle.session.proofs.Laws.Numbering.{few_levels}
use Rattle.session.proofs.Laws.Numbers.{number_few}
use Rattle.session.proofs.Laws.Verdict.{accepted}
use Rattle.scripts.specs.Effect as effect
use Rattle.scripts.specs.State.{Manager}
use Rattle.fields.specs.Fields.{FieldThere, FieldSet}
use Rattle.cores.specs.Core.{effect_of, Present}
use Rattle.cores.specs.declared.Effect.{Effect}
use Rattle.cores.specs.declared.Effect.TheVariants.{Write, Fork}
use Rattle.model.specs.Fork as model
use Rattle.model.specs.DepthFirst.{effected, run_fork}
use Rattle.model.proofs.Laws.Stamps.{child_within}
use Rattle.progress.specs.Representation.{Tables, RepresentsSome, Words, Represents}
use Rattle.descent.specs.Forks.{Runnable, Same, Performable, Performed, ForkDone}
use Rattle.progress.specs.declared.Fork as fork
use Rattle.progress.proofs.Laws.Representation.{kept_write}
use Rattle.progress.proofs.Laws.Spared.{spared_none, spared_write}

-- the fork that a step makes
abbrev pub child : fork.Fork → ℕ → ℕ → Message → fork.Fork
child f u stamp message = record { level = u; stamp = stamp; depth = f.depth + 1; message = message }

module _ {s masks index : List ℕ} (a : Tables s masks index) {left : ℕ} {f : fork.Fork} {forks : ℕ} {e : Effect} (can : Performable s left f forks e) where
  abbrev p : Program
  p = program_of s

  -- a step that did nothing outside its manager
  pub perform_nothing : (w : Words) → effect_of e ≡ effect.Nothing → Performed s left f forks e w w
  unfolding effected
  perform_nothing w none = (
    spared_none s w,
    λ g x n represents same forking. subst (λ t. Represents s (effected (run_fork left p) f.level x n t g) w) (sym none) represents,
  )

  -- one that wrote a field
  module _ {o i : ℕ} {v : Value} (is : e ≡ Write o i v) where
    there : Present s (Write o i v)
    there = subst (Present s) is can.present

    pub write_there : {w : Words} → RepresentsSome s w → FieldThere w.current o i
    write_there q =
        record {
          room = q.1.fields_there;
          object = number_few s a.accepted o there.0;
          field = omega (arith, there.1);
        }

    pub perform_writes : (w : Words) (c' : List ℕ) → FieldSet w.current c' o i v → Performed s left f forks e w (record { current = c'; ended = w.ended; tallies = w.tallies })
    unfolding effected
    perform_writes w c' set = (
      spared_write s a.accepted w c' o i v there.0 (omega (arith, there.1)) set,
      λ g x n represents same forking.
          rw is (kept_write s g w.current c' w.ended w.tallies o i v represents set there.1 (few_levels s (accepted s a.accepted).three)),
    )

  -- one that made a fork: it runs whole, if its level keeps it
  module _ {u o b : ℕ} {v : Value} (is : e ≡ Fork u o b v) where
    abbrev message : Message
    message = record { object = o; name = b; parameter = v }

    some : forks ≡ forks - 1 + 1
    some = can.forking u o b v is

    pub fork_some : 1 ≤ forks
    fork_some = omega (arith, some)

    pub fork_stamps : (f.depth ≤ 7) × (forks - 1 < 15) × (f.stamp + 16 ^ (8 - f.depth) ≤ 2 ^ 32)
    fork_stamps = (omega (arith, can.fork.shallow), omega (arith, some, can.forked), can.fork.fits)

    module _ {stamp : ℕ} (stamped : stamp ≡ model.child_stamp f.stamp f.depth (forks - 1 + 1)) where
      pub fork_runs : Runnable s left (child f u stamp message)
      fork_runs =
          let there : Present s (Fork u o b v) = subst (Present s) is can.present in
          record {
            placed = there.0;
            present = there.1.0;
            named = there.1.1;
            shallow = omega (arith, can.fork.shallow);
            fits = rw stamped (omega (arith, child_within f.stamp f.depth (forks - 1) fork_stamps.0 fork_stamps.1, can.fork.fits));
          }

      same_child : (x : model.Fork) (n : Manager) → Same f x → forks ≡ n.forks + 1 → Same (child f u stamp message) (model.child_of f.level x n message)
      unfolding model.child_of
      same_child x n same one =
          let k : forks - 1 + 1 ≡ n.forks + 1 = omega (arith, one) in
          record {
            stamp = rw (same.stamp, same.depth, sym k) (sym stamped);
            depth = ap (λ d. d + 1) same.depth;
            message = refl;
          }

      pub perform_forks : (w w' : Words) → ForkDone s left (child f u stamp message) w w' → Performed s left f forks e w w'
      unfolding effected
      perform_forks w w' done = (
        done.0,
        λ g x n represents same forking. rw is (done.1 g (model.child_of f.level x n message) represents (same_child x n same (forking u o b v is))),
      )
