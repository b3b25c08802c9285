-- Steps that commute: any two lists of them that finish from one state end in the same state. For any states and any steps.
-- Assumes nothing.
use Prim.Native.Nat.{ℕ}
use mathlib.Core.Path.{◌≡◌, refl, sym, ◌∙◌}
use mathlib.Core.List.{List, [], ◌∷◌}
use native.Mathlib.Decide.{ℕ_discrete}

-- the state after the steps at these places
unfoldable pub ran : {S : Type 0} → (ℕ → S → S) → List ℕ → S → S
ran act [] s = s
ran act (l ∷ ls) s = ran act ls (act l s)

-- each step is allowed where it is made
unfoldable pub Allowed : {S : Type 0} → (ℕ → S → S) → (S → ℕ → Type 0) → List ℕ → S → Type 0
Allowed act May [] s = Unit
Allowed act May (l ∷ ls) s = May s l × Allowed act May ls (act l s)

-- two steps that are both allowed in a state with the invariant commute, and each stays allowed after the other
pub record Commuting (S : Type 0) (act : ℕ → S → S) (May : S → ℕ → Type 0) (Inv : S → Type 0) : Type 0 where
  pub preserves : (s : S) (l : ℕ) → Inv s → May s l → Inv (act l s)
  pub stays : (s : S) (l k : ℕ) → (l ≡ k → ⊥) → Inv s → May s l → May s k → May (act k s) l
  pub commute : (s : S) (l k : ℕ) → (l ≡ k → ⊥) → Inv s → May s l → May s k → act l (act k s) ≡ act k (act l s)

-- no step is allowed
abbrev pub Over : {S : Type 0} → (S → ℕ → Type 0) → S → Type 0
Over May s = (l : ℕ) → May s l → ⊥

module _ (S : Type 0) (act : ℕ → S → S) (May : S → ℕ → Type 0) (Inv : S → Type 0) (c : Commuting S act May Inv) where
  -- the invariant holds after allowed steps
  pub kept : (ls : List ℕ) (s : S) → Inv s → Allowed act May ls s → Inv (ran act ls s)
  unfolding ran Allowed
  kept [] s i a = i
  kept (l ∷ ls) s i a = kept ls (act l s) (c.preserves s l i a.0) a.1

  -- what is left of a list that finishes when one of its steps is made first
  abbrev pub Rest : ℕ → List ℕ → S → Type 0
  Rest l ks s = (ks' : List ℕ) × (Allowed act May ks' (act l s) × (ran act ks' (act l s) ≡ ran act ks s))

  -- a step made first, before one at another place
  swapped : (l k : ℕ) (ks : List ℕ) (s : S) → (l ≡ k → ⊥) → Inv s → May s l → May s k → Rest l ks (act k s) → Rest l (k ∷ ks) s
  unfolding ran Allowed
  swapped l k ks s n i m h (ks', (a, e)) =
      let same = c.commute s l k n i m h in
      (k ∷ ks', ((c.stays s k l (λ q. n (sym q)) i h m, rw same at a), rw same at e))

  -- a list that finishes makes every step that is allowed at its start, and it can be made first
  pub first_made : (l : ℕ) (ks : List ℕ) (s : S) → Inv s → May s l → Allowed act May ks s → Over May (ran act ks s) → Rest l ks s
  unfolding ran Allowed
  first_made l [] s i m a o = absurd (o l m)
  first_made l (k ∷ ks) s i m a o =
      let later : (l ≡ k → ⊥) → Rest l ks (act k s) = λ n. first_made l ks (act k s) (c.preserves s k i a.0) (c.stays s l k n i m a.0) a.1 o in
      made l k ks s i m a later (ℕ_discrete l k)
    where
      made : (l k : ℕ) (ks : List ℕ) (s : S) → Inv s → May s l → Allowed act May (k ∷ ks) s → ((l ≡ k → ⊥) → Rest l ks (act k s)) → Dec (l ≡ k) → Rest l (k ∷ ks) s
      made l k ks s i m a later (yes e) = rw e (ks, (a.1, refl))
      made l k ks s i m a later (no n) = swapped l k ks s n i m a.0 (later n)

  -- any two lists that finish end in the same state
  pub confluent : (ls ks : List ℕ) (s : S) → Inv s → Allowed act May ls s → Over May (ran act ls s) → Allowed act May ks s → Over May (ran act ks s) → ran act ls s ≡ ran act ks s
  unfolding ran Allowed
  confluent [] [] s i a o b q = refl
  confluent [] (k ∷ ks) s i a o b q = absurd (o k b.0)
  confluent (l ∷ ls) ks s i a o b q =
      let (ks', (b', e)) = first_made l ks s i a.0 b q in
      confluent ls ks' (act l s) (c.preserves s l i a.0) a.1 o b' (rw e q) ∙ e
