-- What a manager that runs sees is what the definition reads: at its level what is current, elsewhere what it was told. Assumes nothing.
use Prim.Native.Nat.{ℕ, ◌≤◌, ◌<◌}
use mathlib.Core.Path.{◌≡◌, refl, sym, ◌∙◌, ap}
use mathlib.Core.Bool.{Bool, true, false, not}
use mathlib.Core.List.{List}
use native.Mathlib.Decide.{ℕ_discrete, dec_lt}
use native.Mathlib.Omega.{arith}
use borrow.Author.Tests.{eqb-true}
use lib.Dec.{eqb, ltb}
use lib.ListN.{length, get_or, replicate, length-replicate, get_or-replicate, get_or-eq_default}
use Rattle.lists.proofs.Laws.Range.{not_both}
use Rattle.session.specs.Limits.{max_objects, max_numbers, fields}
use Rattle.session.specs.Parts.{level_count, object_count}
use Rattle.session.specs.Meaning.{Numbered, level_of}
use Rattle.session.specs.Program.{program_of}
use Rattle.session.specs.Value.{Value}
use Rattle.lists.proofs.Laws.Lists.{holds, fails, truth}
use Rattle.session.proofs.Laws.Accepted.{level_present}
use Rattle.session.proofs.Laws.Numbers.{number_few}
use Rattle.scripts.specs.Value.{number_in}
use Rattle.scripts.specs.Existence.{existence, script_seen}
use Rattle.scripts.specs.State.{Manager}
use Rattle.scripts.specs.Valid.{Leveled}
use Rattle.scripts.proofs.Laws.Accepted.{legible_low}
use Rattle.fields.specs.Limits.{field_words}
use Rattle.fields.specs.Fields.{field_place, field_at, existence_at_first, known_at, Forgotten}
use Rattle.fields.specs.Reads.{own_script_of, script_found, Scripted, shown_in, is_own, is_available, is_seen, Agrees}
use Rattle.model.specs.Fork.{Fork}
use Rattle.model.specs.Step.{State, read_at}
use Rattle.theorems.proofs.Laws.Order.Accepted.{sound}
use Rattle.theorems.proofs.Laws.Invariant.Contained.{read_legible}
use Rattle.theorems.proofs.Laws.Code.Reached.{ReachedState}
use Rattle.tallies.specs.Places.{all_changes_place}
use Rattle.level_state.specs.Representation.{Words, RunInvariant}
use Rattle.level_state.specs.Steps.{running_fork, ReadIs, Answered}
use Rattle.level_state.specs.Script.{Blank}
use Rattle.level_state.proofs.Laws.Step.{invariant_live}
use Rattle.level_state.proofs.Laws.Reads.{first-existence, read_here, read_first}

-- words that hold 0 say 0 at every place
zeros : (n i : ℕ) → get_or {A = ℕ} (replicate n 0) i 0 ≡ 0
zeros n i = elim (dec_lt i n) [
  | yes h ↦ get_or-replicate n i 0 0 h
  | no h ↦ get_or-eq_default (replicate n 0) 0 (rw (length-replicate {A = ℕ} n 0) (omega (arith, h)))
]

-- so nothing is kept in them of what was read
pub blank_zeros : (n : ℕ) → Blank (replicate n 0)
blank_zeros n o k h = rw (zeros n (field_place o k)) refl

-- what is kept is what the manager of the fork that runs at level l, or is about to, reads
abbrev pub Kept : List ℕ → Words → ℕ → List ℕ → Type 0
Kept s w l cache = (o k : ℕ) → o < max_numbers → k ≤ existence → known_at cache o k ≡ true → ReadIs s w l o k (field_at cache o k)

pub kept-blank : (s : List ℕ) (w : Words) (l : ℕ) (cache : List ℕ) → Blank cache → Kept s w l cache
kept-blank s w l cache f o k ho hk known = absurd (not_both (known_at cache o k) known (f o k hk))

-- what was answered is kept with the rest
pub kept_answered : {s : List ℕ} {w : Words} {l : ℕ} {cache cache' : List ℕ} {o k : ℕ} → Kept s w l cache → Answered s w cache cache' l o k → Kept s w l cache'
kept_answered {s} {w} {l} {cache} {cache'} {o} {k} f q o' k' ho hk known = by (ℕ_discrete o' o) (ℕ_discrete k' k)
  where
    other : (o' ≡ o → k' ≡ k → ⊥) → ReadIs s w l o' k' (field_at cache' o' k')
    other d ms st y =
        f o' k' ho hk (sym (q.kept.others o' k' (omega (arith, hk)) d) ∙ known) ms st y
        ∙ sym (q.kept.field.others o' k' (omega (arith, hk)) d)

    by : Dec (o' ≡ o) → Dec (k' ≡ k) → ReadIs s w l o' k' (field_at cache' o' k')
    by (yes x) (yes z) ms st y = rw (x, z) (q.is ms st y ∙ sym q.kept.field.set)
    by (no x) d ms st y = other (λ z _. x z) ms st y
    by (yes x) (no z) ms st y = other (λ _ e. z e) ms st y

-- what the manager of level l may look at: what it was told, and whether existence was written in the run
pub record Seeing (s : List ℕ) (w : Words) (l : ℕ) (cache : List ℕ) (u : Bool) : Type 0 where
  pub kept : Kept s w l cache
  pub there : field_words ≤ length cache
  pub flag : u ≡ true → get_or w.tallies all_changes_place 0 ≡ 0

-- an object's own script is the one that its existence says at first
own_script_lem : (o : ℕ) → number_in (existence_at_first o) ≡ own_script_of o
own_script_lem o = elim (truth (ltb o max_objects)) [
  | holds e ↦ rw e refl
  | fails e ↦ rw e refl
]

module _ {s masks : List ℕ} (a : Leveled s masks) {w : Words} {ms : ℕ → Manager} {st : State} (y : RunInvariant s w ms st) where
  live : ReachedState s st
  live = invariant_live s a.accepted w ms st y

  -- every script that is read is one of the session's
  pub read_low : (l : ℕ) (x : Fork) (o : ℕ) → script_seen (read_at (program_of s) st l x) o ≤ object_count s
  read_low l x o =
      legible_low s (read_at (program_of s) st l x) (read_legible (program_of s) (sound s a.accepted) st live.reachable.steady.contained l x) o

  -- where no existence was written it is the object's own
  pub script_first : (l : ℕ) (x : Fork) (o : ℕ) → Numbered s o → get_or w.tallies all_changes_place 0 ≡ 0 → script_seen (read_at (program_of s) st l x) o ≡ own_script_of o
  script_first l x o n z =
      ap number_in (read_first s st l x o ((y.represents.level (level_of s o) (level_present s a.accepted o)).unchanged_any z))
      ∙ ap number_in (sym (first-existence s a.accepted o n))
      ∙ own_script_lem o

  pub current_scripted : Fork → Scripted s w.current
  current_scripted x o h =
      let same = ap number_in (read_here y x o existence h (omega arith) refl) in
      rw (sym same) (read_low (level_of s o) x o)

  module _ {l : ℕ} {cache : List ℕ} {u : Bool} (see : Seeing s w l cache u) where
    abbrev x : Fork
    x = running_fork (level_count s) w.tallies w.queue l

    abbrev read : ℕ → ℕ → Value
    read = read_at (program_of s) st l x

    pub cache_scripted : Scripted s cache
    unfolding field_at
    cache_scripted o h = elim (truth (known_at cache o existence)) [
      | holds e ↦ rw (sym (ap number_in (see.kept o existence h (omega arith) e ms st y))) (read_low l x o)
      | fails e ↦ rw (empty (get_or cache (field_place o existence) 0) e) (omega arith)
    ]
      where
        empty : (t : ℕ) → not (eqb t 0) ≡ false → t ≡ 0
        empty t e = elim (truth (eqb t 0)) [
          | holds z ↦ eqb-true t 0 z
          | fails z ↦ absurd (not_both true refl (rw z at e))
        ]

    pub agrees : Agrees s w.current cache false u l read
    agrees = record { shown = shown; existing = λ o n seen. existing u refl o n seen }
      where
        small : (o : ℕ) → Numbered s o → o < max_numbers
        small o n = number_few s a.accepted o n

        shown : (o k : ℕ) → Numbered s o → k < fields → is_available s cache false l o k ≡ true → read o k ≡ shown_in s w.current cache false l o k
        shown o k n hk known = elim (truth (eqb (level_of s o) l)) [
          | holds e ↦ rw e (read_here y x o k (small o n) (omega (arith, hk)) (eqb-true (level_of s o) l e))
          | fails e ↦ rw e (see.kept o k (small o n) (omega (arith, hk)) (rw e at known) ms st y)
        ]

        existing : (v : Bool) → u ≡ v → (o : ℕ) → Numbered s o → is_seen s w.current cache false v l o ≡ true → script_seen read o ≡ script_found w.current cache (is_own s false l o) v o
        existing true e o n seen = unfold script_found in script_first l x o n (see.flag e)
        existing false e o n seen = unfold script_found in elim (truth (eqb (level_of s o) l)) [
          | holds h ↦ rw h (ap number_in (read_here y x o existence (small o n) (omega arith) (eqb-true (level_of s o) l h)))
          | fails h ↦ elim (truth (known_at cache o existence)) [
            | holds k ↦ rw (h, k) (ap number_in (see.kept o existence (small o n) (omega arith) k ms st y))
            | fails k ↦ absurd (not_both false (rw (h, k) at seen) refl)
          ]
        ]

-- what was forgotten is not known, and the rest is as it was
pub forgotten_others : {cache cache' : List ℕ} {o k : ℕ} → Forgotten cache cache' o k → ((o' k' : ℕ) → k' ≤ existence → (o' ≡ o → k' ≡ k → ⊥) → known_at cache o' k' ≡ false) → Blank cache'
forgotten_others {cache} {cache'} {o} {k} f others o' k' hk = by (ℕ_discrete o' o) (ℕ_discrete k' k)
  where
    by : Dec (o' ≡ o) → Dec (k' ≡ k) → known_at cache' o' k' ≡ false
    by (yes x) (yes z) = rw (x, z) f.known
    by (no x) d = (f.others o' k' (omega (arith, hk)) (λ z _. x z)).0 ∙ others o' k' hk (λ z _. x z)
    by (yes x) (no z) = (f.others o' k' (omega (arith, hk)) (λ _ e. z e)).0 ∙ others o' k' hk (λ _ e. z e)
