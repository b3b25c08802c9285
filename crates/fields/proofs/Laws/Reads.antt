-- What the words find of objects, where a read agrees with them. Assumes nothing.
use Prim.Native.Nat.{ℕ, ◌≤◌, ◌<◌}
use mathlib.Core.Path.{◌≡◌, refl, sym, ◌∙◌, ap}
use mathlib.Core.Bool.{Bool, true, false, not}
use mathlib.Core.List.{List}
use native.Mathlib.Omega.{arith}
use borrow.Author.Tests.{ne_eqb, ltb-true}
use lib.Dec.{eqb, ltb}
use Rattle.lists.proofs.Laws.Range.{not_both}
use Rattle.session.specs.Limits.{fields, max_objects, max_numbers}
use Rattle.session.specs.Parts.{object_count}
use Rattle.session.specs.Meaning.{Numbered}
use Rattle.session.specs.Value.{Value}
use Rattle.std.specs.Prelude.{None}
use Rattle.lists.proofs.Laws.Lists.{holds, fails, truth}
use Rattle.scripts.specs.Existence.{existence, script_seen, is_there, field_seen}
use Rattle.scripts.proofs.Laws.Existence.{there_script}
use Rattle.fields.specs.Fields.{field_at, known_at}
use Rattle.fields.specs.Reads.{own_script_of, unknown, lacking, script_told, script_found, found_of, Scripted, Small, is_own, Agrees}
use Rattle.fields.specs.declared.reads.Missing.{Missing}
use Rattle.std.specs.Prelude.{Result, Ok, Err}

-- what is found of a field, and what is asked for in its place
abbrev pub held : Value → Result Value Missing
held v = Ok v

abbrev pub lacked : ℕ → Result Value Missing
lacked k = Err (lacking k)

-- what is found is one value, and something missing is no value
same_value : (v w : Value) → held v ≡ held w → v ≡ w
same_value v w e = cc

no_value : (k : ℕ) (v : Value) → lacked k ≡ held v → ⊥
no_value k v e = cc

-- what is told of a script: it is at hand, and which; or it is not
abbrev at_hand : ℕ → Result ℕ Missing
at_hand w = Ok w

abbrev out_of_hand : Missing → Result ℕ Missing
out_of_hand m = Err m

pub told_script : (w v : ℕ) → script_told w ≡ Ok v → (eqb w unknown ≡ false) × (v ≡ w)
told_script w v e = elim (truth (eqb w unknown)) [
  | holds q ↦ absurd (let z : out_of_hand (lacking existence) ≡ at_hand v = rw q at e in cc)
  | fails q ↦ (q, (let z : at_hand w ≡ at_hand v = rw q at e in cc))
]

pub told_missing : (w : ℕ) (m : Missing) → script_told w ≡ Err m → (eqb w unknown ≡ true) × (m ≡ lacking existence)
told_missing w m e = elim (truth (eqb w unknown)) [
  | holds q ↦ (q, (let z : out_of_hand (lacking existence) ≡ out_of_hand m = rw q at e in cc))
  | fails q ↦ absurd (let z : at_hand w ≡ out_of_hand m = rw q at e in cc)
]

pub told_small : (w : ℕ) → w ≤ max_objects → script_told w ≡ Ok w
told_small w h = rw (ne_eqb w unknown (λ e. omega (arith, e, h)))

-- scripts of objects of the session are small
pub scripted_small : (s ws : List ℕ) → object_count s ≤ max_objects → Scripted s ws → Small ws
scripted_small s ws few h o l = omega (arith, few, h o l)

own_small : (o : ℕ) → own_script_of o ≤ max_objects
own_small o = elim (truth (ltb o max_objects)) [
  | holds e ↦ rw e (ltb-true o max_objects e)
  | fails e ↦ rw e (omega arith)
]

-- the script of an object of the level is always found
pub own_found : (current cache : List ℕ) (unchanged : Bool) (o : ℕ) → Small current → o < max_numbers → script_found current cache true unchanged o ≤ max_objects
unfolding script_found
own_found current cache true o small h = own_small o
own_found current cache false o small h = small o h

pub own_known : (current cache : List ℕ) (unchanged : Bool) (o : ℕ) → Small current → o < max_numbers → eqb (script_found current cache true unchanged o) unknown ≡ false
own_known current cache unchanged o small h =
    ne_eqb (script_found current cache true unchanged o) unknown (λ e. absurd (omega (arith, e, own_found current cache unchanged o small h)))

-- a found script is that of an object of the session, or none
pub found_scripted : (s current cache : List ℕ) (own unchanged : Bool) (o : ℕ) → Scripted s current → Scripted s cache → own_script_of o ≤ object_count s → o < max_numbers → eqb (script_found current cache own unchanged o) unknown ≡ false → script_found current cache own unchanged o ≤ object_count s
unfolding script_found
found_scripted s current cache own true o f g own_low h e = own_low
found_scripted s current cache true false o f g own_low h e = f o h
found_scripted s current cache false false o f g own_low h e = elim (truth (known_at cache o existence)) [
  | holds k ↦ rw k (g o h)
  | fails k ↦ absurd (unknown_is (rw k at e))
]
  where
    unknown_is : true ≡ false → ⊥
    unknown_is q = not_both true refl q

-- what is missing is the field, or existence
pub same_missing : (j k : ℕ) → lacked j ≡ lacked k → j ≡ k
same_missing j k e = let z : lacking j ≡ lacking k = cc in ap (λ m. m.value) z

pub no_missing : (k : ℕ) (v : Value) → held v ≡ lacked k → ⊥
no_missing k v e = cc

pub missing_low : (current cache : List ℕ) (own unchanged : Bool) (o b k : ℕ) → b < fields → found_of current cache own unchanged o b ≡ lacked k → k ≤ existence
unfolding found_of
missing_low current cache own unchanged o b k h q = elim (truth (eqb (script_found current cache own unchanged o) unknown)) [
  | holds e ↦ omega (arith, same_missing existence k (rw e at q))
  | fails e ↦ elim (truth (eqb (script_found current cache own unchanged o) 0)) [
    | holds z ↦ absurd (no_missing k None (rw (e, z) at q))
    | fails z ↦ elim (truth own) [
      | holds i ↦ absurd (no_missing k (field_at current o b) (rw i at (rw (e, z) at q)))
      | fails i ↦ elim (truth (known_at cache o b)) [
        | holds j ↦ absurd (no_missing k (field_at cache o b) (rw (i, j) at (rw (e, z) at q)))
        | fails j ↦ omega (arith, h, same_missing b k (rw (i, j) at (rw (e, z) at q)))
      ]
    ]
  ]
]

module _ (s current cache : List ℕ) (all unchanged : Bool) (level : ℕ) (read : ℕ → ℕ → Value) (a : Agrees s current cache all unchanged level read) (o : ℕ) (n : Numbered s o) where
  abbrev script : ℕ
  script = script_found current cache (is_own s all level o) unchanged o

  pub seen_script : eqb script unknown ≡ false → script_seen read o ≡ script
  seen_script e = a.existing o n (ap not e)

  -- whether it is there
  pub seen_there_lem : eqb script unknown ≡ false → is_there (read o existence) ≡ not (eqb script 0)
  seen_there_lem e = sym (there_script (read o existence)) ∙ ap (λ w. not (eqb w 0)) (seen_script e)

  -- a found field is what a READ sees
  pub found_seen : (k : ℕ) (v : Value) → k < fields → found_of current cache (is_own s all level o) unchanged o k ≡ held v → v ≡ field_seen read o k
  unfolding found_of
  found_seen k v h q = elim (truth (eqb script unknown)) [
    | holds e ↦ absurd (no_value existence v (rw e at q))
    | fails e ↦ elim (truth (eqb script 0)) [
      | holds z ↦ rw (seen_there_lem e, z) (sym (same_value None v (rw (e, z) at q)))
      | fails z ↦ elim (truth (is_own s all level o)) [
        | holds i ↦
            let shown : read o k ≡ field_at current o k = rw i at (a.shown o k n h (rw i refl)) in
            rw (seen_there_lem e, z, shown) (sym (same_value (field_at current o k) v (rw i at (rw (e, z) at q))))
        | fails i ↦ elim (truth (known_at cache o k)) [
          | holds j ↦
              let shown : read o k ≡ field_at cache o k = rw i at (a.shown o k n h (rw (i, j) refl)) in
              rw (seen_there_lem e, z, shown) (sym (same_value (field_at cache o k) v (rw (i, j) at (rw (e, z) at q))))
          | fails j ↦ absurd (no_value k v (rw (i, j) at (rw (e, z) at q)))
        ]
      ]
    ]
  ]
