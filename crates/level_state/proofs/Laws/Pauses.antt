-- What a script step waits for: the existence of one object, then, if it is a READ, a field of it. Assumes nothing.
use Prim.Native.Nat.{ℕ, ◌<◌}
use mathlib.Core.Path.{◌≡◌, refl, sym, ◌∙◌, ap, subst}
use mathlib.Core.Bool.{Bool, true, false, cond}
use mathlib.Core.List.{List}
use native.Mathlib.Omega.{arith}
use borrow.Author.Tests.{ne_eqb}
use lib.Dec.{eqb}
use Rattle.dominance.specs.Table.{dominates}
use Rattle.lists.proofs.Laws.Range.{not_both}
use Rattle.session.specs.Limits.{max_numbers}
use Rattle.session.specs.Parts.{level_count, masks_of}
use Rattle.session.specs.Meaning.{level_of}
use Rattle.session.specs.Value.{Value}
use Rattle.std.specs.Prelude.{None}
use Rattle.session.specs.declared.Step.{Step}
use Rattle.session.specs.declared.Step.TheVariants as op
use Rattle.lists.proofs.Laws.Lists.{holds, fails, truth}
use Rattle.fates.specs.Filter.{fate_of}
use Rattle.fates.specs.declared.Fate.{Fate}
use Rattle.fates.specs.declared.Fate.TheVariants as fate
use Rattle.scripts.specs.Existence.{existence}
use Rattle.fields.specs.Fields.{field_at, script_in, known_at}
use Rattle.fields.specs.Reads.{own_script_of, unknown, script_found, found_of, Small, is_own}
use Rattle.fields.specs.declared.reads.Missing.{Missing}
use Rattle.std.specs.Prelude.{Result, Ok, Err}
use Rattle.fields.proofs.Laws.Reads.{own_known, lacked, same_missing, no_missing}
use Rattle.changes.specs.Changes.{IsChange}
use Rattle.operations.specs.Operations.{none, on, change, missing, unseen, pause_on}

same_object : (x k x' k' : ℕ) → on x k ≡ on x' k' → x ≡ x'
same_object x k x' k' e = cc

same_field : (x k x' k' : ℕ) → on x k ≡ on x' k' → k ≡ k'
same_field x k x' k' e = cc

none_on : (x k : ℕ) → none ≡ on x k → ⊥
none_on x k e = let z : ◌≡◌ {A = ℕ} 0 1 = cc in omega arith

change_on : (x k : ℕ) → change ≡ on x k → ⊥
change_on x k e = let z : ◌≡◌ {A = ℕ} 0 1 = cc in omega arith

none_change : none ≡ change → ⊥
none_change e = let z : ◌≡◌ {A = ℕ} 0 1 = cc in omega arith

-- the object that a step may ask about
abbrev target : ℕ → Step → ℕ
target o op.End = 0
target o (op.Set a n) = 0
target o (op.Add a b) = 0
target o (op.Jump a b) = 0
target o (op.Read a b) = o
target o (op.Write a b) = 0
target o (op.Send a b c) = c
target o (op.Quit a) = 0
target o (op.Create a) = 0
target o op.Withdraw = 0

module _ (s current cache : List ℕ) (u : Bool) (level : ℕ) where
  abbrev script : ℕ → ℕ
  script x = script_found current cache (is_own s false level x) u x

  -- why it waits for x's value k
  pub data Reason (i : Step) (x k : ℕ) : Type 0 where
    of_existence : k ≡ existence → eqb (script x) unknown ≡ true → Reason i x k
    of_field : (a : ℕ) → i ≡ op.Read a k → eqb (script x) unknown ≡ false → is_own s false level x ≡ false → known_at cache x k ≡ false → Reason i x k

  found_reason : (a o b k : ℕ) → found_of current cache (is_own s false level o) u o b ≡ lacked k → Reason (op.Read a b) o k
  unfolding found_of
  found_reason a o b k q = elim (truth (eqb (script o) unknown)) [
    | holds e ↦ of_existence (sym (same_missing existence k (rw e at q))) e
    | fails e ↦ elim (truth (eqb (script o) 0)) [
      | holds z ↦ absurd (no_missing k None (rw (e, z) at q))
      | fails z ↦ elim (truth (is_own s false level o)) [
        | holds i ↦ absurd (no_missing k (field_at current o b) (rw i at (rw (e, z) at q)))
        | fails i ↦ elim (truth (known_at cache o b)) [
          | holds j ↦ absurd (no_missing k (field_at cache o b) (rw (i, j) at (rw (e, z) at q)))
          | fails j ↦
              let same = same_missing b k (rw (i, j) at (rw (e, z) at q)) in
              rw (sym same) (of_field a refl e i j)
        ]
      ]
    ]
  ]

  unseen_reason : (i : Step) (c x k : ℕ) (f : Fate) → unseen c (script c) f ≡ on x k → (x ≡ c) × Reason i x k
  unseen_reason i c x k fate.Block q = absurd (none_on x k q)
  unseen_reason i c x k (fate.Fork v) q = absurd (none_on x k q)
  unseen_reason i c x k fate.Call q = elim (truth (eqb (script c) unknown)) [
    | holds e ↦ let is = same_object c existence x k (rw e at q) in (sym is, of_existence (sym (same_field c existence x k (rw e at q))) (rw (sym is) e))
    | fails e ↦ absurd (none_on x k (rw e at q))
  ]
  unseen_reason i c x k fate.Discard q = elim (truth (eqb (script c) unknown)) [
    | holds e ↦ let is = same_object c existence x k (rw e at q) in (sym is, of_existence (sym (same_field c existence x k (rw e at q))) (rw (sym is) e))
    | fails e ↦ absurd (none_on x k (rw e at q))
  ]

  pub pause_reason : (o : ℕ) (i : Step) (x k : ℕ) → pause_on s current cache false u level o i ≡ on x k → (x ≡ target o i) × Reason i x k
  unfolding pause_on
  pause_reason o op.End x k q = absurd (none_on x k q)
  pause_reason o (op.Set a n) x k q = absurd (none_on x k q)
  pause_reason o (op.Add a b) x k q = absurd (none_on x k q)
  pause_reason o (op.Jump a b) x k q = absurd (none_on x k q)
  pause_reason o (op.Read a b) x k q = by (found_of current cache (is_own s false level o) u o b) refl q
    where
      by : (f : Result Value Missing) → found_of current cache (is_own s false level o) u o b ≡ f → missing o f ≡ on x k → (x ≡ o) × Reason (op.Read a b) x k
      by (Ok v) e q = absurd (none_on x k q)
      by (Err j) e q =
          let is = same_object o j.value x k q in
          (sym is, rw (sym is, sym (same_field o j.value x k q)) (found_reason a o b j.value e))
  pause_reason o (op.Write a b) x k q = absurd (none_on x k q)
  pause_reason o (op.Send a b c) x k q =
      unseen_reason (op.Send a b c) c x k (fate_of (level_count s) (dominates (masks_of s)) level (level_of s o) (level_of s c)) q
  pause_reason o (op.Quit a) x k q = absurd (none_on x k q)
  pause_reason o (op.Create a) x k q = absurd (change_on x k q)
  pause_reason o op.Withdraw x k q = absurd (change_on x k q)

  -- what is waited for is not known
  pub pause_unknown : (o : ℕ) (i : Step) (x k : ℕ) → Small current → Small cache → x < max_numbers → pause_on s current cache false u level o i ≡ on x k → known_at cache x k ≡ false
  unfolding script_found
  pause_unknown o i x k f g h q = by (pause_reason o i x k q).1
    where
      unseen-unknown : (own : Bool) (u : Bool) → eqb (script_found current cache own u x) unknown ≡ true → known_at cache x existence ≡ false
      unseen-unknown true u e = absurd (not_both (eqb (script_found current cache true u x) unknown) e (own_known current cache u x f h))
      unseen-unknown false true e = absurd (not_both (eqb (own_script_of x) unknown) e (own_known current cache true x f h))
      unseen-unknown false false e = elim (truth (known_at cache x existence)) [
        | fails k ↦ k
        | holds k ↦
            let z : eqb (script_in cache x) unknown ≡ true = rw k at e in
            absurd (not_both (eqb (script_in cache x) unknown) z (ne_eqb (script_in cache x) unknown (λ y. omega (arith, y, g x h))))
      ]

      by : Reason i x k → known_at cache x k ≡ false
      by (of_existence is e) = rw is (unseen-unknown (is_own s false level x) u e)
      by (of_field a is e own shut) = shut

-- no SEND waits to be made
unseen_change : (s current cache : List ℕ) (u : Bool) (level c : ℕ) (f : Fate) → unseen c (script_found current cache (is_own s false level c) u c) f ≡ change → ⊥
unseen_change s current cache u level c fate.Block q = none_change q
unseen_change s current cache u level c (fate.Fork v) q = none_change q
unseen_change s current cache u level c fate.Call q = asks (eqb (script_found current cache (is_own s false level c) u c) unknown) q
  where
    asks : (t : Bool) → cond t (on c existence) none ≡ change → ⊥
    asks true q = change_on c existence (sym q)
    asks false q = none_change q
unseen_change s current cache u level c fate.Discard q = asks (eqb (script_found current cache (is_own s false level c) u c) unknown) q
  where
    asks : (t : Bool) → cond t (on c existence) none ≡ change → ⊥
    asks true q = change_on c existence (sym q)
    asks false q = none_change q

-- what stands before a CREATE or WITHDRAW
pub pause_change : (s current cache : List ℕ) (u : Bool) (level o : ℕ) (i : Step) → pause_on s current cache false u level o i ≡ change → IsChange i
unfolding pause_on
pause_change s current cache u level o op.End q = none_change q
pause_change s current cache u level o (op.Set a n) q = none_change q
pause_change s current cache u level o (op.Add a b) q = none_change q
pause_change s current cache u level o (op.Jump a b) q = none_change q
pause_change s current cache u level o (op.Read a b) q = by (found_of current cache (is_own s false level o) u o b) q
  where
    by : (f : Result Value Missing) → missing o f ≡ change → ⊥
    by (Ok v) q = none_change q
    by (Err j) q = change_on o j.value (sym q)
pause_change s current cache u level o (op.Write a b) q = none_change q
pause_change s current cache u level o (op.Send a b c) q = unseen_change s current cache u level c (fate_of (level_count s) (dominates (masks_of s)) level (level_of s o) (level_of s c)) q
pause_change s current cache u level o (op.Quit a) q = none_change q
pause_change s current cache u level o (op.Create a) q = tt
pause_change s current cache u level o op.Withdraw q = tt

-- a step that waits for a value never becomes one of these
pub pause_values : (s current cache cache' : List ℕ) (u u' : Bool) (level o : ℕ) (i : Step) (x k : ℕ) → pause_on s current cache false u level o i ≡ on x k → pause_on s current cache' false u' level o i ≡ change → ⊥
unfolding pause_on
pause_values s current cache cache' u u' level o i x k e q = by i (pause_change s current cache' u' level o i q) e
  where
    by : (i : Step) → IsChange i → pause_on s current cache false u level o i ≡ on x k → ⊥
    by op.End c e = c
    by (op.Set a n) c e = c
    by (op.Add a b) c e = c
    by (op.Jump a b) c e = c
    by (op.Read a b) c e = c
    by (op.Write a b) c e = c
    by (op.Send a b d) c e = c
    by (op.Quit a) c e = c
    by (op.Create a) c e = change_on x k e
    by op.Withdraw c e = change_on x k e

-- two steps that read are one
same_read : (a b a' b' : ℕ) → op.Read a b ≡ op.Read a' b' → b ≡ b'
same_read a b a' b' e = cc

-- one step, before and after what it waited for was told
module _ (s current cache cache' : List ℕ) (u u' : Bool) (level o : ℕ) (i : Step) (x k x' k' : ℕ) (first : pause_on s current cache false u level o i ≡ on x k) (then : pause_on s current cache' false u' level o i ≡ on x' k') where
  pub same_target : x' ≡ x
  same_target =
      (pause_reason s current cache' u' level o i x' k' then).0 ∙ sym (pause_reason s current cache u level o i x k first).0

  -- told a field it waits for nothing more
  pub field_told : (k ≡ existence → ⊥) → script_found current cache' (is_own s false level x) u' x ≡ script_found current cache (is_own s false level x) u x → known_at cache' x k ≡ true → ⊥
  field_told field same known = by (pause_reason s current cache u level o i x k first).1 (pause_reason s current cache' u' level o i x' k' then).1
    where
      by : Reason s current cache u level i x k → Reason s current cache' u' level i x' k' → ⊥
      by (of_existence e z) r = field e
      by (of_field a is seen own shut) (of_existence e z) =
          not_both (eqb (script_found current cache (is_own s false level x) u x) unknown) (ap (λ n. eqb n unknown) (sym same) ∙ subst (λ x. eqb (script_found current cache' (is_own s false level x) u' x) unknown ≡ true) same_target z) seen
      by (of_field a is seen own shut) (of_field a' is' seen' own' shut') =
          let k_is = same_read a' k' a k (sym is' ∙ is) in
          not_both (known_at cache' x k) known (rw (same_target, k_is) at shut')

  module _ (small : Small current) (small' : Small cache') (few : x' < max_numbers) (seen : known_at cache' x existence ≡ true) where
    -- told existence it waits for a field of that object at most
    pub existence_told : k' ≡ existence → ⊥
    existence_told e =
        let shut = pause_unknown s current cache' u' level o i x' k' small small' few then in
        not_both (known_at cache' x existence) seen (rw (same_target, e) at shut)

    -- told both it waits for nothing more
    pub both_told : (k ≡ existence → ⊥) → known_at cache' x k ≡ true → ⊥
    both_told field known = by (pause_reason s current cache u level o i x k first).1 (pause_reason s current cache' u' level o i x' k' then).1
      where
        by : Reason s current cache u level i x k → Reason s current cache' u' level i x' k' → ⊥
        by (of_existence e z) r = field e
        by (of_field a is seen own shut) (of_existence e z) = existence_told e
        by (of_field a is seen own shut) (of_field a' is' seen' own' shut') =
            let k_is = same_read a' k' a k (sym is' ∙ is) in
            not_both (known_at cache' x k) known (rw (same_target, k_is) at shut')

-- the script that is found depends on what is known of existence
pub script_same : (current cache cache' : List ℕ) (own u : Bool) (x : ℕ) → known_at cache' x existence ≡ known_at cache x existence → field_at cache' x existence ≡ field_at cache x existence → script_found current cache' own u x ≡ script_found current cache own u x
unfolding script_found
script_same current cache cache' own u x e q = rw (e, q) refl
