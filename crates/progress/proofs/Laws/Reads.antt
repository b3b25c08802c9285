-- What a script step of a depth-first run reads is what the words say, and they say all of it: only a CREATE or WITHDRAW waits. Assumes
-- nothing.
use Prim.Native.Nat.{ℕ, ◌≤◌, ◌<◌}
use mathlib.Core.Path.{◌≡◌, refl, sym, ◌∙◌, ap}
use mathlib.Core.Bool.{Bool, true, false, cond}
use mathlib.Core.List.{List}
use native.Mathlib.Decide.{dec_lt}
use native.Mathlib.Omega.{arith}
use borrow.Author.Tests.{lt-ltb, le-ltb}
use lib.Dec.{eqb}
use Rattle.dominance.specs.Table.{dominates}
use Rattle.session.specs.Limits.{max_objects, max_numbers}
use Rattle.session.specs.Parts.{level_count, masks_of}
use Rattle.session.specs.Meaning.{Numbered, level_of}
use Rattle.session.specs.Questions.{verdict_of, Accepted}
use Rattle.session.specs.Program.{program_of}
use Rattle.session.specs.Value.{Value}
use Rattle.session.specs.declared.Step.{Step}
use Rattle.session.specs.declared.Step.TheVariants as op
use Rattle.lists.proofs.Laws.Lists.{holds, fails, truth}
use Rattle.session.proofs.Laws.Numbering.{few_objects}
use Rattle.session.proofs.Laws.Numbers.{number_low, number_few}
use Rattle.session.proofs.Laws.Verdict.{accepted}
use Rattle.fates.specs.Filter.{fate_of}
use Rattle.fates.specs.declared.Fate.{Fate}
use Rattle.fates.specs.declared.Fate.TheVariants as fate
use Rattle.scripts.specs.Existence.{existence, initially, script_seen}
use Rattle.scripts.specs.Valid.{Aimed}
use Rattle.scripts.specs.Value.{number_in}
use Rattle.scripts.proofs.Laws.Existence.{first_there, first_none}
use Rattle.fields.specs.Fields.{script_in}
use Rattle.fields.specs.Reads.{own_script_of, unknown, is_own, script_found, found_of, Small, Agrees}
use Rattle.fields.specs.declared.reads.Missing.{Missing}
use Rattle.std.specs.Prelude.{Result, Ok, Err}
use Rattle.fields.proofs.Laws.Reads.{own_known}
use Rattle.operations.specs.Operations.{none, on, change, missing, unseen, waits_for, pause_on}
use Rattle.changes.specs.Changes.{IsChange, OwnExistence}
use Rattle.model.specs.DepthFirst.{Progress, field_now}
use Rattle.tallies.specs.Places.{unchanged}
use Rattle.progress.specs.Representation.{RepresentedBy}

module _ {s : List ℕ} (a : verdict_of s ≡ Accepted) (g : Progress) {c e t : List ℕ} (q : RepresentedBy s g c e t) where
  abbrev read : ℕ → ℕ → Value
  read = field_now (program_of s) g

  pub script_seen_lem : (o : ℕ) → Numbered s o → script_seen read o ≡ script_in c o
  script_seen_lem o n = ap number_in (sym (q.field o existence (number_few s a o n) (omega arith)))

  pub own_existence : (level : ℕ) → OwnExistence s c level read
  own_existence level o n _ = sym (q.field o existence (number_few s a o n) (omega arith))

  -- at first each object has its own methods, or none
  first_script : (o : ℕ) → Numbered s o → number_in (initially (program_of s) o existence) ≡ own_script_of o
  first_script o n = elim (dec_lt o max_objects) [
    | yes h ↦ rw (lt-ltb o max_objects h) (ap number_in (first_there s o (number_low s a o n h)))
    | no h ↦
        let above : max_objects ≤ o = omega (arith, h) in
        rw (le-ltb o max_objects above) (ap number_in (first_none s o existence (omega (arith, above, few_objects s (accepted s a).three))))
  ]

  found_script : (b : Bool) → unchanged t ≡ b → (cache : List ℕ) (o : ℕ) → Numbered s o → script_seen read o ≡ script_found c cache true b o
  unfolding script_found
  found_script true u cache o n = ap number_in (q.existing u o) ∙ first_script o n
  found_script false u cache o n = script_seen_lem o n

  pub agrees : (cache : List ℕ) (level : ℕ) → Agrees s c cache true (unchanged t) level read
  agrees cache level =
      record {
        shown = λ o k n h _. sym (q.field o k (number_few s a o n) (omega (arith, h)));
        existing = λ o n _. found_script (unchanged t) refl cache o n;
      }

-- none of these is another
not_on : (o k : ℕ) → none ≡ on o k → ⊥
not_on o k q = let z : ◌≡◌ {A = ℕ} 0 1 = cc in omega (arith, z)

not_change : none ≡ change → ⊥
not_change q = let z : ◌≡◌ {A = ℕ} 0 1 = cc in omega (arith, z)

on_not_change : (o k : ℕ) → on o k ≡ change → ⊥
on_not_change o k q = let z : ◌≡◌ {A = ℕ} 0 1 = cc in omega (arith, z)

change_not_on : (o k : ℕ) → change ≡ on o k → ⊥
change_not_on o k q = let z : ◌≡◌ {A = ℕ} 0 1 = cc in omega (arith, z)

-- a step that waits to be made is a CREATE or WITHDRAW
missing_not_change : (o : ℕ) (f : Result Value Missing) → missing o f ≡ change → ⊥
missing_not_change o (Err m) q = on_not_change o m.value q
missing_not_change o (Ok v) q = not_change q

asked_not_change : (b : Bool) (o : ℕ) → cond b (on o existence) none ≡ change → ⊥
asked_not_change true o q = on_not_change o existence q
asked_not_change false o q = not_change q

unseen_not_change : (o script : ℕ) (t : Fate) → unseen o script t ≡ change → ⊥
unseen_not_change o script fate.Call q = asked_not_change (eqb script unknown) o q
unseen_not_change o script fate.Discard q = asked_not_change (eqb script unknown) o q
unseen_not_change o script fate.Block q = not_change q
unseen_not_change o script (fate.Fork u) q = not_change q

waits_change : (found : ℕ → ℕ → Result Value Missing) (script : ℕ → ℕ) (becomes : ℕ → ℕ → Fate) (o : ℕ) (i : Step) → waits_for found script becomes o i ≡ change → IsChange i
waits_change found script becomes o op.End q = not_change q
waits_change found script becomes o (op.Set a n) q = not_change q
waits_change found script becomes o (op.Add a b) q = not_change q
waits_change found script becomes o (op.Jump a b) q = not_change q
waits_change found script becomes o (op.Read a b) q = missing_not_change o (found o b) q
waits_change found script becomes o (op.Write a b) q = not_change q
waits_change found script becomes o (op.Send a b c) q = unseen_not_change c (script c) (becomes o c) q
waits_change found script becomes o (op.Quit a) q = not_change q
waits_change found script becomes o (op.Create a) q = tt
waits_change found script becomes o op.Withdraw q = tt

pub pause_change : (s current cache : List ℕ) (all unchanged : Bool) (level o : ℕ) (i : Step) → pause_on s current cache all unchanged level o i ≡ change → IsChange i
unfolding pause_on
pause_change s current cache all unchanged level o i q =
    waits_change
    (λ x. found_of current cache (is_own s all level x) unchanged x)
    (λ x. script_found current cache (is_own s all level x) unchanged x)
    (λ x y. fate_of (level_count s) (dominates (masks_of s)) level (level_of s x) (level_of s y))
    o i q

-- where every object is shown, no step waits for a value
module _ (s : List ℕ) (a : verdict_of s ≡ Accepted) (current cache : List ℕ) (unchanged : Bool) (level : ℕ) (small : Small current) (x k : ℕ) where
  field_shown : (o b : ℕ) → o < max_numbers → missing o (found_of current cache true unchanged o b) ≡ on x k → ⊥
  unfolding found_of
  field_shown o b h q =
      let known = own_known current cache unchanged o small h in
      elim (truth (eqb (script_found current cache true unchanged o) 0)) [
        | holds z ↦ not_on x k (rw (known, z) at q)
        | fails z ↦ not_on x k (rw (known, z) at q)
      ]

  script_shown : (o : ℕ) (t : Fate) → o < max_numbers → unseen o (script_found current cache true unchanged o) t ≡ on x k → ⊥
  script_shown o fate.Call h q = not_on x k (rw (own_known current cache unchanged o small h) at q)
  script_shown o fate.Discard h q = not_on x k (rw (own_known current cache unchanged o small h) at q)
  script_shown o fate.Block h q = not_on x k q
  script_shown o (fate.Fork u) h q = not_on x k q

  pub all_shown : (o : ℕ) (i : Step) → Numbered s o → Aimed s i → pause_on s current cache true unchanged level o i ≡ on x k → ⊥
  unfolding pause_on
  all_shown o op.End n h q = not_on x k q
  all_shown o (op.Set r v) n h q = not_on x k q
  all_shown o (op.Add r b) n h q = not_on x k q
  all_shown o (op.Jump r b) n h q = not_on x k q
  all_shown o (op.Read r b) n h q = field_shown o b (number_few s a o n) q
  all_shown o (op.Write r b) n h q = not_on x k q
  all_shown o (op.Send r b c) n h q = script_shown c (fate_of (level_count s) (dominates (masks_of s)) level (level_of s o) (level_of s c)) (number_few s a c h) q
  all_shown o (op.Quit r) n h q = not_on x k q
  all_shown o (op.Create r) n h q = change_not_on x k q
  all_shown o op.Withdraw n h q = change_not_on x k q
