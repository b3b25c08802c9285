-- Ways from the root: a way's stamps lie in the interval of each manager on it, so of two ways the intervals tell whether one goes on from the
-- other; and every step keeps that each manager has a way. Assumes nothing.
use Prim.Native.Nat.{ℕ, suc, ◌+◌, ◌*◌, ◌-◌, ◌≤◌, ◌<◌}
use mathlib.Core.Path.{◌≡◌, refl, sym, ◌∙◌, ap}
use mathlib.Core.Bool.{Bool, true, false, ◌&&◌}
use mathlib.Core.List.{List, [], ◌∷◌, ◌++◌}
use native.Mathlib.Decide.{ℕ_discrete, dec_lt}
use native.Mathlib.Nat.{mul-le-mul_right}
use native.Mathlib.Omega.{arith}
use borrow.Author.Tests.{lt-ltb, le-ltb, le-leb, leb-true, eq-eqb, ne_eqb}
use lib.Dec.{leb, ltb}
use lib.ListN.{length, length-append}
use Rattle.lists.proofs.Laws.Range.{and_left, and_right, and_both, and_fails_left, and_fails_right}
use Rattle.lists.specs.Lists.{every}
use Rattle.session.specs.Program.{Program}
use Rattle.session.specs.declared.Message.{Message}
use Rattle.scripts.specs.Limits.{max_forks}
use Rattle.scripts.specs.State.{Manager}
use Rattle.scripts.proofs.Laws.Effects.{Sound}
use Rattle.model.specs.Limits.{stamp_digits}
use Rattle.model.specs.Fork.{Fork, root_fork, child_stamp, child_of, span}
use Rattle.model.specs.Level.{Activity, idle, busy, Level, forks_by, forks_of}
use Rattle.model.specs.Step.{State, level_at, Arrival, none, at, move_at, step_at}
use Rattle.theorems.specs.Ancestors.{stamp_along, is_child, Way, goes_on}
use Rattle.lists.specs.Each.{Each}
use Rattle.theorems.proofs.Laws.Invariant.Rank.{rank, rank_positive}
use Rattle.theorems.proofs.Laws.Invariant.Tree.{Entry}
use Rattle.theorems.proofs.Laws.Invariant.Forest.{rest_each}
use Rattle.theorems.proofs.Laws.Invariant.Entries.{running_entry, entries_by, entries_of}
use Rattle.theorems.proofs.Laws.Invariant.Change.{Change, internal, forks}
use Rattle.theorems.proofs.Laws.Invariant.Forks.{entries_in, step_change, ForkInvariant}
use Rattle.theorems.proofs.Laws.Invariant.Preserved.{first_of}
use Rattle.theorems.proofs.Laws.Invariant.Became.{Became, own, got, stayed, became, step_marks}
use Rattle.theorems.proofs.Laws.Invariant.State.{arrived_forks}
use Rattle.model.proofs.Laws.Stamps.{span_positive, child_at, child_within, child_after}

-- a child by its number: within its parent's interval, behind its stamp
child_number : (k : ℕ) → is_child k ≡ true → (1 ≤ k) × (k ≤ max_forks)
child_number k c = (leb-true 1 k (and_left (leb 1 k) (leb k max_forks) c), leb-true k max_forks (and_right (leb 1 k) (leb k max_forks) c))

module _ (s d : ℕ) where
  child_inside : (k : ℕ) → d ≤ stamp_digits → is_child k ≡ true → child_stamp s d k + span (d + 1) ≤ s + span d
  child_inside k h c =
      let (low, high) = child_number k c in
      let e : k - 1 + 1 ≡ k = omega (arith, low) in
      rw e at (child_within s d (k - 1) h (omega (arith, low, high)))

  child_behind : (k : ℕ) → is_child k ≡ true → s < child_stamp s d k
  child_behind k c =
      let (low, high) = child_number k c in
      let e : k - 1 + 1 ≡ k = omega (arith, low) in
      rw e at (child_after s d (k - 1))

  -- of two children the later one's interval lies behind that of the other
  child_order : (k h : ℕ) → k < h → child_stamp s d k + span (d + 1) ≤ child_stamp s d h
  child_order k h l =
      let part : (k + 1) * span (d + 1) ≤ h * span (d + 1) = mul-le-mul_right (span (d + 1)) (omega (arith, l)) in
      rw (child_at s d k, child_at s d h) (omega (arith, part))

-- a way leads on: the interval of its last manager lies in that of its first
pub along_from : (s d : ℕ) (ks : List ℕ) → s ≤ stamp_along s d ks
unfolding stamp_along
along_from s d [] = omega arith
along_from s d (k ∷ ks) = omega (arith, along_from (child_stamp s d k) (d + 1) ks)

pub along_within : (s d : ℕ) (ks : List ℕ) → d + length ks ≤ stamp_digits + 1 → every is_child ks ≡ true → stamp_along s d ks + span (d + length ks) ≤ s + span d
unfolding stamp_along every
along_within s d [] h c =
    let e : d + length {A = ℕ} [] ≡ d = omega arith in
    let here : stamp_along s d [] ≡ s = refl in
    rw e (omega (arith, here))
along_within s d (k ∷ ks) h c =
    let e : d + length (k ∷ ks) ≡ d + 1 + length ks = omega arith in
    let inside = child_inside s d k (omega (arith, h)) (and_left (is_child k) (every is_child ks) c) in
    rw e (omega (arith, inside, along_within (child_stamp s d k) (d + 1) ks (omega (arith, h)) (and_right (is_child k) (every is_child ks) c)))

-- by intervals, a manager with stamp y, so many forks deep, is an ancestor of the one with stamp x
abbrev pub spans : ℕ → ℕ → ℕ → Bool
spans y depth x = ltb y x && ltb x (y + span depth)

-- ways that part at their first children
parted : (s d k h : ℕ) (ks hs : List ℕ) → d + 1 + length ks ≤ stamp_digits + 1 → d + 1 + length hs ≤ stamp_digits + 1 → every is_child ks ≡ true → every is_child hs ≡ true → (k ≡ h → ⊥) → spans (stamp_along (child_stamp s d k) (d + 1) ks) (d + 1 + length ks) (stamp_along (child_stamp s d h) (d + 1) hs) ≡ false
parted s d k h ks hs m n a b q =
    let y = stamp_along (child_stamp s d k) (d + 1) ks in
    let x = stamp_along (child_stamp s d h) (d + 1) hs in
    elim (dec_lt k h) [
      | yes l ↦
          let past : y + span (d + 1 + length ks) ≤ x =
          omega (arith, along_within (child_stamp s d k) (d + 1) ks m a, child_order s d k h l, along_from (child_stamp s d h) (d + 1) hs) in
          and_fails_right (ltb y x) _ (le-ltb x (y + span (d + 1 + length ks)) past)
      | no l ↦
          let past : x ≤ y =
          omega (arith, along_within (child_stamp s d h) (d + 1) hs n b, child_order s d h k (omega (arith, q, l)), along_from (child_stamp s d k) (d + 1) ks) in
          and_fails_left (ltb y x) _ (le-ltb y x past)
    ]

-- from one manager, by two ways: the last of the one is an ancestor of the last of the other exactly where the second goes on from the first
pub ancestor_along : (s d : ℕ) (ks hs : List ℕ) → d + length ks ≤ stamp_digits + 1 → d + length hs ≤ stamp_digits + 1 → every is_child ks ≡ true → every is_child hs ≡ true → spans (stamp_along s d ks) (d + length ks) (stamp_along s d hs) ≡ goes_on ks hs
unfolding stamp_along every goes_on
ancestor_along s d [] [] m n a b = and_fails_left (ltb s s) _ (le-ltb s s (omega arith))
ancestor_along s d [] (h ∷ hs) m n a b =
    let e : d + length {A = ℕ} [] ≡ d = omega arith in
    let t = stamp_along (child_stamp s d h) (d + 1) hs in
    let child = and_left (is_child h) (every is_child hs) b in
    let within = along_within (child_stamp s d h) (d + 1) hs (omega (arith, n)) (and_right (is_child h) (every is_child hs) b) in
    let after : s < t = omega (arith, child_behind s d h child, along_from (child_stamp s d h) (d + 1) hs) in
    let before : t < s + span d = omega (arith, child_inside s d h (omega (arith, n)) child, within, span_positive (d + 1 + length hs)) in
    rw e (and_both (ltb s t) (ltb t (s + span d)) (lt-ltb s t after) (lt-ltb t (s + span d) before))
ancestor_along s d (k ∷ ks) [] m n a b =
    let t = stamp_along (child_stamp s d k) (d + 1) ks in
    let after : s ≤ t = omega (arith, child_behind s d k (and_left (is_child k) (every is_child ks) a), along_from (child_stamp s d k) (d + 1) ks) in
    and_fails_left (ltb t s) _ (le-ltb t s after)
ancestor_along s d (k ∷ ks) (h ∷ hs) m n a b =
    let e : d + length (k ∷ ks) ≡ d + 1 + length ks = omega arith in
    let c = and_right (is_child k) (every is_child ks) a in
    let f = and_right (is_child h) (every is_child hs) b in
    elim (ℕ_discrete k h) [
      | yes q ↦ rw (q, eq-eqb h h refl, e) (ancestor_along (child_stamp s d h) (d + 1) ks hs (omega (arith, m)) (omega (arith, n)) c f)
      | no q ↦ rw (ne_eqb k h q, e) (parted s d k h ks hs (omega (arith, m)) (omega (arith, n)) c f q)
    ]

-- one child more
along_more : (s d : ℕ) (ks : List ℕ) (k : ℕ) → stamp_along s d (ks ++ (k ∷ [])) ≡ child_stamp (stamp_along s d ks) (d + length ks) k
unfolding stamp_along
along_more s d [] k =
    let e : d + length {A = ℕ} [] ≡ d = omega arith in
    rw e refl
along_more s d (h ∷ ks) k =
    let e : d + length (h ∷ ks) ≡ d + 1 + length ks = omega arith in
    rw e (along_more (child_stamp s d h) (d + 1) ks k)

every_more : {A : Type 0} (p : A → Bool) (xs : List A) (x : A) → every p xs ≡ true → p x ≡ true → every p (xs ++ (x ∷ [])) ≡ true
unfolding every
every_more p [] x e q = and_both (p x) true q refl
every_more p (y ∷ xs) x e q =
    and_both (p y) (every p (xs ++ (x ∷ []))) (and_left (p y) (every p xs) e) (every_more p xs x (and_right (p y) (every p xs) e) q)

-- the way to the root, and to a made fork: its maker's way, and the number of the child
pub root_way : (n : ℕ) (message : Message) → Way [] (root_fork n message)
root_way n message =
    record { stamp = unfold stamp_along in refl; depth = refl; short = omega arith; children = unfold every in refl }

pub child_way : (l : ℕ) (x : Fork) (m : Manager) (message : Message) (ks : List ℕ) → Way ks x → x.depth ≤ stamp_digits → m.forks < max_forks → Way (ks ++ ((m.forks + 1) ∷ [])) (child_of l x m message)
unfolding child_of
child_way l x m message ks w h f =
    let k = m.forks + 1 in
    let long : length (ks ++ (k ∷ [])) ≡ length ks + 1 = length-append ks (k ∷ []) in
    let deep : 0 + length ks ≡ x.depth = omega (arith, w.depth) in
    record {
      stamp = rw (along_more 0 0 ks k, sym w.stamp, deep) refl;
      depth = omega (arith, long, deep);
      short = omega (arith, long, deep, h);
      children = every_more is_child ks k w.children
          (and_both (leb 1 k) (leb k max_forks) (le-leb 1 k (omega arith)) (le-leb k max_forks (omega (arith, f))));
    }

-- a manager to which a way leads
abbrev pub HasWay : Fork → Type 0
HasWay x = (ks : List ℕ) × Way ks x

-- a way leads to a stamp and a depth
same_way : (y x : Fork) → y.stamp ≡ x.stamp → y.depth ≡ x.depth → HasWay y → HasWay x
same_way y x s d (ks, w) =
    (ks, record { stamp = sym s ∙ w.stamp; depth = sym d ∙ w.depth; short = w.short; children = w.children })

-- the first of a level's entries is that of its first fork
first_way : (l : ℕ) (v : Level) (x : Fork) (n : ℕ) (W : List Entry) → entries_of l v ≡ running_entry l x n ∷ W → Each HasWay (forks_of v) → HasWay x
unfolding Each
first_way l v x n W q e = by v.activity v.waiting q e
  where
    first : List Entry → Entry
    first [] = running_entry l x n
    first (a ∷ es) = a

    same : (y : Fork) (es : List Entry) → es ≡ running_entry l x n ∷ W → (first es).stamp ≡ y.stamp → (first es).depth ≡ y.depth → HasWay y → HasWay x
    same y es g s d = same_way y x (sym s ∙ ap (λ es. (first es).stamp) g) (sym d ∙ ap (λ es. (first es).depth) g)

    by : (a : Activity) (ws : List Fork) → entries_by l a ws ≡ running_entry l x n ∷ W → Each HasWay (forks_by a ws) → HasWay x
    by idle [] g f =
        let none : 0 ≡ suc (length W) = ap length g in
        absurd (omega (arith, none))
    by idle (w ∷ ws) g f = same w (entries_by l idle (w ∷ ws)) g refl refl f.0
    by (busy y m) ws g f = same y (entries_by l (busy y m) ws) g refl refl f.0

-- so has the fork that a step makes
abbrev ArrivesWith : Arrival → Type 0
ArrivesWith none = Unit
ArrivesWith (at u c) = HasWay c

module _ (p : Program) (so : Sound p) (st : State) (o : ForkInvariant p st) (i : (l : ℕ) → l < p.levels → Each HasWay (forks_of (level_at st l))) (l : ℕ) (h : l < p.levels) where
  arrives : ArrivesWith (move_at p l st).arrival
  arrives = by (step_change p l st so h (o.placed l h) (o.positive l h))
    where
      by : {G : List Entry} {b : Arrival} → Change p l (entries_in st l) G b → ArrivesWith b
      by (internal e r) = rw e tt
      by (forks u x m message W e g r hu s f z) =
          let a = running_entry l x m.forks in
          let d = first_of (λ a. a.depth + rank p.levels p.dom l ≤ stamp_digits + 1) a W (entries_in st l) g (o.grown.shallow l h) in
          let shallow : x.depth ≤ stamp_digits = omega (arith, d, rank_positive p.levels p.dom so.lattice.order l h) in
          let (ks, w) = first_way l (level_at st l) x m.forks W g (i l h) in
          rw e (ks ++ ((m.forks + 1) ∷ []), child_way l x m message ks w shallow f)

  -- every step keeps that each manager has a way
  pub step_ways : (k : ℕ) → k < p.levels → Each HasWay (forks_of (level_at (step_at p l st) k))
  step_ways k hk = by (level_at (step_at p l st) k) (became p so st o l h k)
    where
      sent : (b : Arrival) (c : Fork) → b ≡ at k c → ArrivesWith b → HasWay c
      sent b c q g = rw q at g

      by : (v : Level) → Became p l st k v → Each HasWay (forks_of v)
      by v (own e q) = rw q (rest_each HasWay (forks_of (level_at st l)) (forks_of (move_at p l st).own) (step_marks p so st o l h).forks (i l h))
      by v (got c e s q) = rw q (arrived_forks HasWay c (level_at st k) (sent (move_at p l st).arrival c e arrives) (i k hk))
      by v (stayed n q) = rw q (i k hk)
