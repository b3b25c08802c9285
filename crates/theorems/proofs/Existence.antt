-- Objects made and withdrawn: the statements of specs/Existence.antt, proved, and computed cases. Assumes nothing.
use Prim.Native.Nat.{ℕ, ◌≤◌, ◌<◌}
use mathlib.Core.Path.{◌≡◌, refl, sym, ◌∙◌, ap}
use mathlib.Core.Bool.{Bool, true, false}
use mathlib.Core.List.{List, [], ◌∷◌, map}
use mathlib.Core.Logic.{inl, inr}
use native.Mathlib.Omega.{arith}
use lib.ListN.{length}
use Rattle.lists.proofs.Laws.Range.{not_both, and_left, and_right, and_both}
use Rattle.session.specs.Limits.{max_levels, max_objects}
use Rattle.lists.specs.Lists.{select}
use Rattle.session.specs.Record.{byte_of}
use Rattle.session.specs.Questions.{verdict_of, Accepted}
use Rattle.session.specs.Meaning.{root_of}
use Rattle.session.specs.Program.{Program, program_of}
use Rattle.session.specs.Value.{Value}
use Rattle.std.specs.Prelude.{None, Some}
use Rattle.lists.proofs.Laws.Lists.{holds, fails, truth}
use Rattle.session.proofs.Laws.Numbering.{few_levels, few_objects}
use Rattle.session.proofs.Laws.Verdict.{accepted}
use Rattle.scripts.specs.Existence.{existence, is_there}
use Rattle.model.specs.Level.{Version}
use Rattle.model.specs.Step.{State, level_at, step_at}
use Rattle.model.specs.Schedule.{read_in, Leads}
use Rattle.model.specs.Result.{object_record, numbers_of, is_shown, objects_shown}
use Rattle.theorems.specs.Existence.{stepped_at, AllowedSteps, level_after, is_making, numbers_made, NumbersHandedOut, NumbersApart, VersionsLimited, Among, ShownAreThere, WithdrawnNotShown, ThereAreShown}
use Rattle.theorems.proofs.Laws.Invariant.State.{StateInvariant}
use Rattle.theorems.proofs.Laws.Invariant.Handed.{makings, Handed, handed_out, step_handed}
use Rattle.theorems.proofs.Laws.Invariant.AnySteps.{any_steps}
use Rattle.theorems.proofs.Laws.Order.Accepted.{sound}
use Rattle.theorems.proofs.Laws.Deep.Root.{each_level, root_steady}
use Rattle.theorems.proofs.Laws.Reader.Bytes.{objects_found}
use Rattle.theorems.proofs.Laws.Code.Bounds.{Paced, paced_versions, step_paced}
use Rattle.theorems.proofs.Laws.Code.Reached.{present}

pub allowed_steps : AllowedSteps
unfolding Leads stepped_at
allowed_steps p a [] b e = e
allowed_steps p a (l ∷ ls) b e = allowed_steps p (step_at p l a) ls b e.1

-- the versions of each level, in every state that steps lead to
record Kept (p : Program) (st : State) : Type 0 where
  handed : (l : ℕ) → l < p.levels → Handed p l (level_at st l).versions
  paced : (l : ℕ) → l < p.levels → Paced (level_at st l)

module _ (s : List ℕ) (a : verdict_of s ≡ Accepted) where
  few : (program_of s).objects ≤ max_objects
  unfolding program_of
  few = few_objects s (accepted s a).three

  levels : (program_of s).levels ≤ max_levels
  unfolding program_of
  levels = few_levels s (accepted s a).three

  kept_start : Kept (program_of s) (read_in (program_of s) (root_of s))
  kept_start =
      let p = program_of s in
      record {
        handed = λ l h. each_level p (sound s a) levels (root_of s) (λ v. Handed p l v.versions) (unfold Handed in tt) (unfold Handed in tt) l;
        paced = λ l h. each_level p (sound s a) levels (root_of s) Paced (omega arith, omega arith) (omega arith, omega arith) l;
      }

  kept_step : (st : State) → StateInvariant (program_of s) st → Kept (program_of s) st → (l : ℕ) → l < (program_of s).levels → Kept (program_of s) (step_at (program_of s) l st)
  kept_step st i k l h =
      record {
        handed = step_handed (program_of s) (sound s a) few st i.fork_invariant i.contained k.handed l h;
        paced = step_paced (program_of s) (sound s a) st i.fork_invariant k.paced l h;
      }

  kept : (ls : List ℕ) → StateInvariant (program_of s) (stepped_at (program_of s) ls (read_in (program_of s) (root_of s))) × Kept (program_of s) (stepped_at (program_of s) ls (read_in (program_of s) (root_of s)))
  kept ls =
      any_steps (program_of s) (sound s a) (Kept (program_of s)) kept_step ls (read_in (program_of s) (root_of s))
      (root_steady (program_of s) (sound s a) levels (root_of s)) kept_start

pub numbers_handed_out : NumbersHandedOut
numbers_handed_out s a ls l h =
    let vs = (level_after s ls l).versions in
    (makings vs, handed_out (program_of s) l vs ((kept s a ls).1.handed l (present s l h)))

pub numbers_apart : NumbersApart
numbers_apart =
    record {
      owned = λ s a l i h k. (sound s a).owned l i (present s l h) k;
      apart = λ k l i j h g e. (omega (arith, h, g, e), omega (arith, h, g, e));
      beyond = λ s a l i. omega (arith, few_objects s (accepted s a).three);
    }

pub versions_limited : VersionsLimited
versions_limited s a ls l h =
    let v = level_after s ls l in
    let i = kept s a ls in
    (paced_versions v.activity v.next (length v.ended) (length v.versions) (i.1.paced l (present s l h)), omega (arith, (i.0.bounded l).room))

-- what is made of the elements that a test chooses
module _ {A B : Type 0} (t : A → Bool) (f : A → B) where
  -- y is made of such an element
  abbrev Made : List A → B → Type 0
  Made xs y = (x : A) × (Among x xs × ((t x ≡ true) × (y ≡ f x)))

  more_made : (x : A) (xs : List A) (y : B) → Made xs y → Made (x ∷ xs) y
  more_made x xs y (z, (m, q)) = (z, (inr m, q))

  chosen_made : (xs : List A) (y : B) → Among y (map f (select t xs)) → Made xs y
  unfolding select
  chosen_made [] y m = absurd m
  chosen_made (x ∷ xs) y m = elim (truth (t x)) [
    | holds e ↦ elim (rw e at m) [
      | inl q ↦ (x, (inl refl, (e, q)))
      | inr n ↦ more_made x xs y (chosen_made xs y n)
    ]
    | fails e ↦ more_made x xs y (chosen_made xs y (rw e at m))
  ]

  made_chosen : (xs : List A) (x : A) → Among x xs → t x ≡ true → Among (f x) (map f (select t xs))
  unfolding select
  made_chosen [] x m e = absurd m
  made_chosen (y ∷ xs) x (inl q) e = rw (sym q, e) (inl refl)
  made_chosen (y ∷ xs) x (inr m) e = elim (truth (t y)) [
    | holds d ↦ rw d (inr (made_chosen xs x m e))
    | fails d ↦ rw d (made_chosen xs x m e)
  ]

pub shown_are_there : ShownAreThere
unfolding objects_shown
shown_are_there p rootLevel r c rec m =
    let (o, (i, (e, q))) = chosen_made (is_shown p r c) (λ o. object_record o (p.level o) (r.field o)) (numbers_of p) rec (rw (objects_found p rootLevel r c) at m) in
    record {
      object = o;
      numbered = i;
      there = and_right (p.dom c (p.level o)) (is_there (r.field o existence)) e;
      dominated = and_left (p.dom c (p.level o)) (is_there (r.field o existence)) e;
      is = q;
    }

pub withdrawn_not_shown : WithdrawnNotShown
withdrawn_not_shown p rootLevel r c rec m e =
    let x = shown_are_there p rootLevel r c rec m in
    let number : byte_of rec 1 ≡ x.object = ap (λ rec. byte_of rec 1) x.is ∙ unfold object_record in refl in
    not_both (is_there (r.field x.object existence)) x.there (rw number at e)

pub there_are_shown : ThereAreShown
unfolding objects_shown
there_are_shown p rootLevel r c o m t d =
    rw (objects_found p rootLevel r c)
    (made_chosen (is_shown p r c) (λ o. object_record o (p.level o) (r.field o)) (numbers_of p) o m (and_both (p.dom c (p.level o)) (is_there (r.field o existence)) d t))

-- a version of object 32 or 33: of a field or of existence, with a value
abbrev version : ℕ → ℕ → Value → Version
version o k v = record { stamp = 1; object = o; field = k; value = v }

pub record Makings : Type 0 where
  -- a field's version makes nothing, nor does a withdrawal, nor NIL; existence with a script does
  field : is_making (version 32 2 (Some 1)) ≡ false
  withdrawal : is_making (version 32 3 (Some 0)) ≡ false
  nil : is_making (version 32 3 None) ≡ false
  there : is_making (version 32 3 (Some 1)) ≡ true
  -- two objects, the first withdrawn before the second is made: newest first among the versions, oldest first among the numbers
  two : numbers_made (version 33 3 (Some 1) ∷ version 33 0 (Some 7) ∷ version 32 3 (Some 0) ∷ version 32 3 (Some 1) ∷ []) ≡ 32 ∷ 33 ∷ []

pub makings_computed : Makings
unfolding numbers_made
makings_computed = record { field = refl; withdrawal = refl; nil = refl; there = refl; two = refl }
