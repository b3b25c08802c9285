-- The session as read in has the invariant, so any two whole lists of scheduler steps that finish end in the same state. Assumes nothing.
use Prim.Native.Nat.{ℕ, zero, suc, ◌+◌, ◌≤◌, ◌<◌}
use mathlib.Core.Path.{◌≡◌, refl, sym, ◌∙◌, ap}
use mathlib.Core.Bool.{false}
use mathlib.Core.List.{List, [], ◌∷◌}
use native.Mathlib.Decide.{ℕ_discrete}
use native.Mathlib.Omega.{arith}
use lib.ListN.{length, get_or, replicate, length-replicate}
use Rattle.lists.proofs.Laws.Range.{not_both}
use Rattle.session.specs.Program.{Program}
use Rattle.session.specs.declared.Message.{Message}
use Rattle.session.specs.Limits.{max_levels}
use Rattle.scripts.proofs.Laws.Effects.{Sound}
use Rattle.lists.specs.Changed.{inserted}
use Rattle.model.specs.Fork.{Fork, root_fork}
use Rattle.model.specs.Level.{Level, new_level, is_busy, forks_of, arrived}
use Rattle.model.specs.Step.{State, level_at}
use Rattle.model.specs.Schedule.{read_in, finished, run_of}
use Rattle.model.specs.Limits.{stamp_digits}
use Rattle.lists.proofs.Laws.Changed.{modify-length, modify_at, modify_other}
use Rattle.lists.specs.Each.{Each, Pairwise}
use Rattle.theorems.proofs.Laws.Invariant.Rank.{rank, count_most}
use Rattle.theorems.proofs.Laws.Invariant.Tree.{Entry, Related}
use Rattle.theorems.proofs.Laws.Steps.Moves.{AtLevel}
use Rattle.theorems.proofs.Laws.Invariant.Entries.{entries_of, waiting_entry}
use Rattle.theorems.proofs.Laws.Invariant.WriteStamps.{write_stamp}
use Rattle.theorems.proofs.Laws.Invariant.Forks.{entries_in, ForkInvariant}
use Rattle.theorems.proofs.Laws.Invariant.Measure.{Bounded, arrived_bounded}
use Rattle.theorems.proofs.Laws.Invariant.Bounded.{AllBounded}
use Rattle.theorems.proofs.Laws.Invariant.Contained.{AllContained}
use Rattle.theorems.proofs.Laws.Invariant.State.{WriteStampInvariant, StateInvariant}
use Rattle.theorems.proofs.Laws.Order.Orderly.{Rises, OrderInvariant}
use Rattle.theorems.proofs.Laws.Order.Finish.{finishes, same_end}

-- the same at every place, and beyond
pub repeated : {A : Type 0} (n : ℕ) (a : A) (j : ℕ) → get_or (replicate n a) j a ≡ a
repeated zero a j = refl
repeated (suc n) a zero = refl
repeated (suc n) a (suc j) = repeated n a j

new_bounded : Bounded new_level
new_bounded = record { room = omega arith; live = tt }

-- no level but the root's has a manager
new_level_lem : (n k : ℕ) → level_at (replicate n new_level) k ≡ new_level
new_level_lem n k = repeated n new_level k

-- the root's level has the root's fork
arrived_new : (l : ℕ) (x : Fork) → entries_of l (arrived x new_level) ≡ waiting_entry l x ∷ []
unfolding arrived inserted
arrived_new l x = refl

module _ (p : Program) (so : Sound p) (few : p.levels ≤ max_levels) (root : Message) where
  abbrev pub r : ℕ
  r = p.level root.object

  abbrev pub x : Fork
  x = root_fork p.levels root

  pub at_root : level_at (read_in p root) r ≡ arrived x new_level
  unfolding read_in
  at_root =
      modify_at new_level r (arrived x) (replicate p.levels new_level) (rw (length-replicate p.levels new_level) (so.placed root.object))
      ∙ ap (arrived x) (new_level_lem p.levels r)

  pub elsewhere : (k : ℕ) → (r ≡ k → ⊥) → level_at (read_in p root) k ≡ new_level
  unfolding read_in
  elsewhere k n = modify_other new_level r k (arrived x) (replicate p.levels new_level) n ∙ new_level_lem p.levels k

  root_entry : entries_in (read_in p root) r ≡ waiting_entry r x ∷ []
  root_entry = ap (entries_of r) at_root ∙ arrived_new r x

  no_entry : (k : ℕ) → (r ≡ k → ⊥) → entries_in (read_in p root) k ≡ []
  no_entry k n = ap (entries_of k) (elsewhere k n)

  abbrev F : ℕ → List Entry
  F = entries_in (read_in p root)

  -- what holds of no entries, and of the root's alone, holds of those of each level
  pub read_in_alone : (P : List Entry → Type 0) → P [] → ((l : ℕ) → P (waiting_entry l x ∷ [])) → (k : ℕ) → P (F k)
  read_in_alone P a b k = elim (ℕ_discrete r k) [
    | yes e ↦ rw (sym e, root_entry) (b r)
    | no n ↦ rw (no_entry k n) a
  ]

  home : (k : ℕ) → Dec (r ≡ k) → Each (λ a. a.level ≡ k) (F k)
  unfolding Each
  home k (yes e) = rw (sym e, root_entry) (refl, tt)
  home k (no n) = rw (no_entry k n) tt

  same : (k : ℕ) → Dec (r ≡ k) → Pairwise (Related p.dom) (F k)
  unfolding Each Pairwise
  same k (yes e) = rw (sym e, root_entry) (tt, tt)
  same k (no n) = rw (no_entry k n) tt

  across : (j k : ℕ) → (j ≡ k → ⊥) → Dec (r ≡ j) → Each (λ a. Each (Related p.dom a) (F k)) (F j)
  unfolding Each
  across j k d (no n) = rw (no_entry j n) tt
  across j k d (yes e) = rw (sym e, root_entry) (rw (no_entry k (λ q. d (sym e ∙ q))) tt, tt)

  shallow : (k : ℕ) → Dec (r ≡ k) → Each (λ a. a.depth + rank p.levels p.dom k ≤ stamp_digits + 1) (F k)
  unfolding Each
  shallow k (yes e) = rw (sym e, root_entry) (omega (arith, few, count_most p.levels (λ j. p.dom j r)), tt)
  shallow k (no n) = rw (no_entry k n) tt

  wide : (k : ℕ) → Dec (r ≡ k) → Each (λ a. length a.carried ≡ p.levels) (F k)
  unfolding Each
  wide k (yes e) = rw (sym e, root_entry) (length-replicate p.levels 0, tt)
  wide k (no n) = rw (no_entry k n) tt

  positive : (k : ℕ) → Dec (r ≡ k) → 0 < write_stamp (level_at (read_in p root) k)
  positive k (yes e) = rw (sym e) (rw (ap write_stamp at_root) (unfold arrived in omega arith))
  positive k (no n) = rw (ap write_stamp (elsewhere k n)) (omega arith)

  placed : (k : ℕ) → Dec (r ≡ k) → AtLevel k (level_at (read_in p root) k).activity
  placed k (yes e) = rw (sym e) (rw (ap (λ v. v.activity) at_root) (unfold arrived in tt))
  placed k (no n) = rw (ap (λ v. v.activity) (elsewhere k n)) tt

  pub read_in_lem : ForkInvariant p (read_in p root)
  read_in_lem =
      record {
        size = unfold read_in in modify-length r (arrived x) (replicate p.levels new_level) ∙ length-replicate p.levels new_level;
        placed = λ k h. placed k (ℕ_discrete r k);
        grown = record {
          forest = record {
            home = λ k h. home k (ℕ_discrete r k);
            same = λ k h. same k (ℕ_discrete r k);
            across = λ j k hj hk d. across j k d (ℕ_discrete r j);
          };
          shallow = λ k h. shallow k (ℕ_discrete r k);
          wide = λ k h. wide k (ℕ_discrete r k);
        };
        positive = λ k h. positive k (ℕ_discrete r k);
      }

  pub read_in_bounded : AllBounded (read_in p root)
  read_in_bounded k = elim (ℕ_discrete r k) [
    | yes e ↦ rw (sym e, at_root) (arrived_bounded x new_level new_bounded)
    | no n ↦ rw (elsewhere k n) new_bounded
  ]

  -- what holds of a level where the root waits and of a new one holds of each
  each_start : (P : Level → Type 0) → P (arrived x new_level) → P new_level → (j : ℕ) → P (level_at (read_in p root) j)
  each_start P a b j = elim (ℕ_discrete r j) [
    | yes e ↦ rw (sym e, at_root) a
    | no n ↦ rw (elsewhere j n) b
  ]

  stamped : WriteStampInvariant p (read_in p root)
  unfolding Each arrived inserted
  stamped =
      record {
        ended = λ l h. each_start (λ v. Each (λ h. h.last < write_stamp v) v.ended) tt tt l;
        carried = λ l j hl hj.
            each_start (λ w. Each (λ y. get_or y.carried j 0 < write_stamp w) (forks_of (level_at (read_in p root) l))) (low l j) (low l j) j;
      }
    where
      low : (l j : ℕ) → Each (λ y. get_or y.carried j 0 < 1) (forks_of (level_at (read_in p root) l))
      low l j =
          each_start (λ v. Each (λ y. get_or y.carried j 0 < 1) (forks_of v)) (rw (repeated {A = ℕ} p.levels 0 j) (omega arith), tt) tt l

  contained : AllContained p (read_in p root)
  unfolding Each
  contained l h = elim (ℕ_discrete r l) [
    | yes e ↦
        rw (sym e, at_root) (unfold arrived inserted in record { waiting = (so.lattice.order.itself r (so.placed root.object), tt); activity = tt; versions = tt })
    | no n ↦ rw (elsewhere l n) (record { waiting = tt; activity = tt; versions = tt })
  ]

  pub read_in_steady : StateInvariant p (read_in p root)
  read_in_steady = record { fork_invariant = read_in_lem; contained = contained; bounded = read_in_bounded; stamped = stamped }

  -- one fork waits, and none runs
  pub read_in_ordered : OrderInvariant p (read_in p root)
  unfolding Each Pairwise arrived inserted
  read_in_ordered =
      record {
        rising = λ l h. each_start (λ v. Rises v.waiting) (tt, tt) tt l;
        running = λ l h b. absurd (not_both false (rw (each_start (λ v. is_busy v.activity ≡ false) refl refl l) at b) refl);
      }

  -- any two whole lists of scheduler steps that finish end in the same state
  pub one_result : (ls ks : List ℕ) (t w : State) → run_of p root ls ≡ finished t → run_of p root ks ≡ finished w → t ≡ w
  unfolding run_of
  one_result ls ks t w a b =
      same_end p so (read_in p root) read_in_steady ls ks t w (finishes 0 p ls (read_in p root) t a) (finishes 0 p ks (read_in p root) w b)
