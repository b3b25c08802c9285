-- How the numbers of made objects are handed out: a version of existence at a level makes its next number's object, or withdraws an object
-- that is there. Every step keeps this. Assumes nothing.
use Prim.Native.Nat.{ℕ, suc, ◌≤◌, ◌<◌}
use mathlib.Core.Path.{◌≡◌, refl, sym, ◌∙◌, ap, ap₂, subst}
use mathlib.Core.Bool.{Bool, true, false, not, cond}
use mathlib.Core.List.{List, [], ◌∷◌, ◌++◌, map, append-nil}
use native.Mathlib.Decide.{ℕ_discrete, dec_lt}
use native.Mathlib.Omega.{arith}
use borrow.Author.Tests.{eq-eqb, ne_eqb, lt-ltb, le-ltb}
use lib.Dec.{eqb, ltb}
use Rattle.lists.proofs.Laws.Range.{not_both, first_at_lem, first_none}
use Rattle.session.specs.Limits.{max_objects, made_objects}
use Rattle.lists.specs.Lists.{tab}
use Rattle.session.specs.Meaning.{made_number}
use Rattle.session.specs.Program.{Program}
use Rattle.session.specs.Value.{Value}
use Rattle.std.specs.Prelude.{None, Some}
use Rattle.lists.proofs.Laws.Lists.{holds, fails, truth}
use Rattle.lists.proofs.Laws.Fill.{tab_more}
use Rattle.scripts.specs.Existence.{existence, initially, is_there, is_unmade, used_of, withdrawn}
use Rattle.scripts.specs.Manager.{stepped}
use Rattle.scripts.specs.State.{Manager}
use Rattle.scripts.specs.Effect.{Written, Effect}
use Rattle.scripts.specs.Effect as effect
use Rattle.scripts.proofs.Laws.Effects.{Sound}
use Rattle.scripts.proofs.Laws.Writes as writes
use Rattle.model.specs.Fork.{Fork}
use Rattle.model.specs.Level.{Version, version_of, Activity, idle, busy, Level, newest, arrived}
use Rattle.model.specs.Step.{State, level_at, read_at, versions_after, begun, advanced, moved, move_at, step_at}
use Rattle.theorems.specs.Existence.{is_making, numbers_made}
use Rattle.theorems.proofs.Laws.Steps.Moves.{AtLevel}
use Rattle.theorems.proofs.Laws.Steps.Reads.{read_own}
use Rattle.theorems.proofs.Laws.Invariant.Forks.{ForkInvariant}
use Rattle.theorems.proofs.Laws.Invariant.WriteStamps.{after_versions}
use Rattle.theorems.proofs.Laws.Invariant.Became.{Became, own, got, stayed, became}
use Rattle.theorems.proofs.Laws.Invariant.Contained.{AllContained, move_direct}

-- how many objects versions make
unfoldable pub makings : List Version → ℕ
makings [] = 0
makings (w ∷ vs) = cond (is_making w) (suc (makings vs)) (makings vs)

-- an object's existence, by its newest version
abbrev pub existence_in : Program → List Version → ℕ → Value
existence_in p vs o = newest (initially p o existence) o existence vs

-- a version at level l in front of older ones: it is of a field, or it makes the level's next object, or it withdraws one that is there
pub data Fitting (p : Program) (l : ℕ) (w : Version) (vs : List Version) : Type 0 where
  other : (w.field ≡ existence → ⊥) → Fitting p l w vs
  makes : (k : ℕ) → w.field ≡ existence → w.value ≡ Some (suc k) → w.object ≡ made_number l (makings vs) → makings vs < made_objects → Fitting p l w vs
  withdraws : w.field ≡ existence → w.value ≡ withdrawn → is_there (existence_in p vs w.object) ≡ true → Fitting p l w vs

unfoldable pub Handed : Program → ℕ → List Version → Type 0
Handed p l [] = Unit
Handed p l (w ∷ vs) = Fitting p l w vs × Handed p l vs

-- which of them makes an object
field_makes_none : (w : Version) → (w.field ≡ existence → ⊥) → is_making w ≡ false
field_makes_none w n = rw (ne_eqb w.field existence n) refl

there_makes : (w : Version) (k : ℕ) → w.field ≡ existence → w.value ≡ Some (suc k) → is_making w ≡ true
there_makes w k e v = rw (e, v) (ap not (ne_eqb (suc k) 0 (omega arith)))

withdrawn_makes_none : (w : Version) → w.field ≡ existence → w.value ≡ withdrawn → is_making w ≡ false
withdrawn_makes_none w e v = rw (e, v) refl

-- the numbers that are made are the level's, upward, each once, and four at most
abbrev pub Upward : ℕ → List Version → Type 0
Upward l vs = (makings vs ≤ made_objects) × (numbers_made vs ≡ tab (makings vs) (made_number l))

pub handed_out : (p : Program) (l : ℕ) (vs : List Version) → Handed p l vs → Upward l vs
unfolding Handed makings numbers_made tab
handed_out p l [] h = (omega arith, refl)
handed_out p l (w ∷ vs) h = by h.0 (handed_out p l vs h.1)
  where
    none : is_making w ≡ false → Upward l vs → Upward l (w ∷ vs)
    none q i = unfold makings numbers_made in rw q (i.0, append-nil (numbers_made vs) ∙ i.1)

    by : Fitting p l w vs → Upward l vs → Upward l (w ∷ vs)
    by (other n) i = none (field_makes_none w n) i
    by (makes k e v o f) i =
        unfold makings numbers_made in
        rw (there_makes w k e v) (omega (arith, f), ap₂ (λ ns n. ns ++ (n ∷ [])) i.1 o ∙ sym (tab_more (makings vs) (made_number l)))
    by (withdraws e v t) i = none (withdrawn_makes_none w e v) i

-- a version is found of its own object and field
found_own : (i : Value) (o : ℕ) (w : Version) (vs : List Version) → w.object ≡ o → w.field ≡ existence → newest i o existence (w ∷ vs) ≡ w.value
unfolding newest
found_own i o w vs q e = rw (eq-eqb w.object o q, eq-eqb w.field existence e) refl

found_behind : (i : Value) (o : ℕ) (w : Version) (vs : List Version) → (w.object ≡ o → ⊥) → newest i o existence (w ∷ vs) ≡ newest i o existence vs
unfolding newest
found_behind i o w vs n = rw (ne_eqb w.object o n) refl

found_field : (i : Value) (o : ℕ) (w : Version) (vs : List Version) → (w.field ≡ existence → ⊥) → newest i o existence (w ∷ vs) ≡ newest i o existence vs
unfolding newest
found_field i o w vs n = elim (truth (eqb w.object o)) [
  | holds q ↦ rw (q, ne_eqb w.field existence n) refl
  | fails q ↦ rw q refl
]

-- an object that is there was made
there_made : (v : Value) → is_there v ≡ true → is_unmade v ≡ false
there_made None e = absurd (not_both false e refl)
there_made (Some n) e = refl

module _ (p : Program) (l : ℕ) (few : p.objects ≤ max_objects) where
  -- of the level's numbers those are unmade that are still to come
  unmade : (vs : List Version) → Handed p l vs → (i : ℕ) → is_unmade (existence_in p vs (made_number l i)) ≡ not (ltb i (makings vs))
  unfolding Handed makings newest initially
  unmade [] h i = rw (le-ltb (made_number l i) p.objects (omega (arith, few)), le-ltb i 0 (omega arith)) refl
  unmade (w ∷ vs) h i = by h.0 (unmade vs h.1 i)
    where
      o : ℕ
      o = made_number l i

      -- as before
      same : is_making w ≡ false → existence_in p (w ∷ vs) o ≡ existence_in p vs o → is_unmade (existence_in p vs o) ≡ not (ltb i (makings vs)) → is_unmade (existence_in p (w ∷ vs) o) ≡ not (ltb i (makings (w ∷ vs)))
      same q f e = unfold makings in rw (f, q) e

      by : Fitting p l w vs → is_unmade (existence_in p vs o) ≡ not (ltb i (makings vs)) → is_unmade (existence_in p (w ∷ vs) o) ≡ not (ltb i (makings (w ∷ vs)))
      by (other n) e = same (field_makes_none w n) (found_field _ o w vs n) e
      by (makes k x v q f) e = elim (ℕ_discrete i (makings vs)) [
        | yes t ↦
            unfold makings in
            rw (there_makes w k x v, found_own (initially p o existence) o w vs (q ∙ ap (made_number l) (sym t)) x, v, lt-ltb i (suc (makings vs)) (omega (arith, t))) refl
        | no t ↦
            let skip : w.object ≡ o → ⊥ = λ z. t (omega (arith, z, q)) in
            unfold makings in rw (there_makes w k x v, found_behind (initially p o existence) o w vs skip) (e ∙ ap not (later t))
      ]
        where
          later : (i ≡ makings vs → ⊥) → ltb i (makings vs) ≡ ltb i (suc (makings vs))
          later t = elim (dec_lt i (makings vs)) [
            | yes g ↦ lt-ltb i (makings vs) g ∙ sym (lt-ltb i (suc (makings vs)) (omega (arith, g)))
            | no g ↦ le-ltb i (makings vs) (omega (arith, g)) ∙ sym (le-ltb i (suc (makings vs)) (omega (arith, g, t)))
          ]
      by (withdraws x v t) e = elim (ℕ_discrete w.object o) [
        | yes q ↦
            let made : is_unmade (existence_in p vs o) ≡ false = there_made (existence_in p vs o) (rw q at t) in
            unfold makings in
            rw (withdrawn_makes_none w x v, found_own (initially p o existence) o w vs q x, v) (sym made ∙ e)
        | no n ↦ same (withdrawn_makes_none w x v) (found_behind _ o w vs n) e
      ]

  -- so as many of its numbers are used as it has made objects
  pub used_made : (vs : List Version) → Handed p l vs → (read : ℕ → ℕ → Value) → ((i : ℕ) → i < made_objects → read (made_number l i) existence ≡ existence_in p vs (made_number l i)) → used_of read l ≡ makings vs
  unfolding used_of
  used_made vs h read r = elim (dec_lt (makings vs) made_objects) [
    | yes g ↦ first_at_lem made_objects test (makings vs) g (says (makings vs) g ∙ ap not (le-ltb (makings vs) (makings vs) (omega arith))) before
    | no g ↦
        let all : makings vs ≡ made_objects = omega (arith, g, (handed_out p l vs h).0) in
        first_none made_objects test (λ i k. before i (rw all k)) ∙ sym all
  ]
    where
      test : ℕ → Bool
      test i = is_unmade (read (made_number l i) existence)

      says : (i : ℕ) → i < made_objects → test i ≡ not (ltb i (makings vs))
      says i k = ap is_unmade (r i k) ∙ unmade vs h i

      before : (i : ℕ) → i < makings vs → test i ≡ false
      before i k = says i (omega (arith, k, (handed_out p l vs h).0)) ∙ ap not (lt-ltb i (makings vs) k)

  -- what a step writes goes on in this way, where it reads the newest versions
  written_handed : (vs : List Version) → Handed p l vs → (read : ℕ → ℕ → Value) → ((o : ℕ) → p.level o ≡ l → read o existence ≡ existence_in p vs o) → ((i : ℕ) → i < made_objects → p.level (made_number l i) ≡ l) → (stamp : ℕ) (ws : List Written) → writes.Writes p read l ws → Handed p l (map (version_of stamp) ws ++ vs)
  unfolding Handed
  written_handed vs h read r placed stamp ws (writes.field o k v f q) = rw q (other (λ e. omega (arith, e, f)), h)
  written_handed vs h read r placed stamp ws (writes.withdraws o q t e) = rw e (withdraws refl refl (rw (sym (r o q)) t), h)
  written_handed vs h read r placed stamp ws (writes.makes v0 v1 v2 w u q) =
      let used = used_made vs h read (λ i k. r (made_number l i) (placed i k)) in
      rw q (unfold makings in (makes w refl refl (ap (made_number l) used) (rw (sym used) u), (other (omega arith), (other (omega arith), (other (omega arith), h)))))

-- a step at level l
module _ (p : Program) (so : Sound p) (few : p.objects ≤ max_objects) (st : State) (l : ℕ) (h : l < p.levels) (i : Handed p l (level_at st l).versions) where
  effect_handed : (x : Fork) (m : Manager) (e : Effect) → writes.Writing p (read_at p st l x) l e → Handed p l (versions_after m e (level_at st l).versions)
  effect_handed x m effect.Nothing w = i
  effect_handed x m (effect.Write ws) w =
      written_handed p l few (level_at st l).versions i (read_at p st l x)
      (λ o q. read_own p st l x o existence q ∙ ap (λ j. existence_in p (level_at st j).versions o) q)
      (λ i k. so.owned l i h k) m.stamp ws w
  effect_handed x m (effect.Fork u message) w = i

  moved_handed : (a : Activity) → AtLevel l a → Handed p l (moved p st l (level_at st l) a).own.versions
  unfolding moved advanced
  moved_handed idle q = starts (level_at st l).waiting
    where
      starts : (xs : List Fork) → Handed p l (begun p st l (level_at st l) xs).own.versions
      starts [] = unfold begun in i
      starts (x ∷ xs) = unfold begun in rw (after_versions (level_at st l) xs (level_at st l).versions x _) i
  moved_handed (busy x m) q =
      rw (after_versions (level_at st l) (level_at st l).waiting _ x _)
      (effect_handed x m (stepped p (read_at p st l x) m).effect
      (subst (λ j. writes.Writing p (read_at p st l x) j (stepped p (read_at p st l x) m).effect) q (writes.stepped_writing p (read_at p st l x) m so)))

-- every step keeps it at all levels
pub step_handed : (p : Program) → Sound p → p.objects ≤ max_objects → (st : State) → ForkInvariant p st → AllContained p st → ((l : ℕ) → l < p.levels → Handed p l (level_at st l).versions) → (l : ℕ) → l < p.levels → (k : ℕ) → k < p.levels → Handed p k (level_at (step_at p l st) k).versions
step_handed p so few st o c i l h k hk = by (level_at (step_at p l st) k) (became p so st o l h k)
  where
    own_handed : Handed p l (move_at p l st).own.versions
    own_handed =
        rw (ap (λ m. m.own.versions) (move_direct p so st o c l h)) (moved_handed p so few st l h (i l h) (level_at st l).activity (o.placed l h))

    by : (v : Level) → Became p l st k v → Handed p k v.versions
    by v (own e q) = rw (ap (λ v. v.versions) q, e) own_handed
    by v (got x e s q) = rw (ap (λ v. v.versions) q) (unfold arrived in i k hk)
    by v (stayed n q) = rw (ap (λ v. v.versions) q) (i k hk)
