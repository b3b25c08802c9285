-- The managers of a state that have not ended, as a forest, and what a scheduler step does to them. Assumes nothing.
use Prim.Native.Nat.{ℕ, ◌+◌, ◌-◌}
use mathlib.Core.Path.{◌≡◌, refl, ◌∙◌, ap}
use mathlib.Core.List.{List, ◌∷◌, map}
use native.Mathlib.Nat.{one-mul}
use native.Mathlib.Omega.{arith}
use lib.ListN.{take, set}
use Rattle.session.specs.declared.Message.{Message}
use Rattle.scripts.specs.State.{Manager}
use Rattle.model.specs.Limits.{max_managers}
use Rattle.lists.specs.Changed.{inserted}
use Rattle.model.specs.Fork.{Fork, child_stamp, child_of, span}
use Rattle.model.specs.Level.{Activity, idle, busy, Level, started_count, arrived}
use Rattle.lists.specs.Each.{Each, Pairwise}
use Rattle.lists.proofs.Laws.Each.{each_take, each_inserted, pairwise_take, pairwise_inserted, inserted-map, take-map}
use Rattle.model.proofs.Laws.Stamps.{child_at, child_next}
use Rattle.theorems.proofs.Laws.Invariant.Tree.{Entry, forked_from, child_in}
use Rattle.theorems.proofs.Laws.Invariant.Forest.{Joins}

-- a manager that waits, and one that runs, at level l
abbrev pub waiting_entry : ℕ → Fork → Entry
waiting_entry l x =
    record { level = l; stamp = x.stamp; depth = x.depth; next = child_stamp x.stamp x.depth 1; carried = x.carried }

abbrev pub running_entry : ℕ → Fork → ℕ → Entry
running_entry l x forks =
    record { level = l; stamp = x.stamp; depth = x.depth; next = child_stamp x.stamp x.depth (forks + 1); carried = x.carried }

-- those of a level, the running one first
abbrev pub entries_by : ℕ → Activity → List Fork → List Entry
entries_by l idle ws = map (waiting_entry l) ws
entries_by l (busy x m) ws = running_entry l x m.forks ∷ map (waiting_entry l) ws

abbrev pub entries_of : ℕ → Level → List Entry
entries_of l v = entries_by l v.activity v.waiting

-- a running manager after a fork, and its child
pub forked_entry : (l : ℕ) (x : Fork) (forks : ℕ) → running_entry l x (forks + 1) ≡ forked_from (running_entry l x forks)
forked_entry l x forks =
    ap (λ k. record { level = l; stamp = x.stamp; depth = x.depth; next = k; carried = x.carried }) (child_next x.stamp x.depth (forks + 1))

pub child_entry : (l u : ℕ) (x : Fork) (m : Manager) (message : Message) → waiting_entry u (child_of l x m message) ≡ child_in u m.stamp (running_entry l x m.forks)
unfolding child_of
child_entry l u x m message =
    let s = child_stamp x.stamp x.depth (m.forks + 1) in
    let e : x.depth + 1 + 1 ≡ x.depth + 2 = omega arith in
    ap (λ k. record { level = u; stamp = s; depth = x.depth + 1; next = k; carried = set x.carried l m.stamp })
    (child_at s (x.depth + 1) 1 ∙ ap (λ k. s + k) (one-mul (span (x.depth + 1 + 1))) ∙ ap (λ d. s + span d) e)

-- an element put in among the first r; one more before them
joins_taken : (r : ℕ) (c : Entry) (xs : List Entry) → Joins c xs (take r (inserted (λ e. e.stamp) c xs))
joins_taken r c xs =
    record {
      each = λ P p e. each_take P r (inserted (λ e. e.stamp) c xs) (each_inserted (λ e. e.stamp) P c p xs e);
      pairs = λ R s e w. pairwise_take R r (inserted (λ e. e.stamp) c xs) (pairwise_inserted (λ e. e.stamp) R s c xs e w);
    }

joins_after : (h c : Entry) (xs ys : List Entry) → Joins c xs ys → Joins c (h ∷ xs) (h ∷ ys)
unfolding Each Pairwise
joins_after h c xs ys j =
    record {
      each = λ P p e. (e.0, j.each P p e.1);
      pairs = λ R s e w. (j.each (R h) (s c h e.0) w.0, j.pairs R s e.1 w.1);
    }

mapped_taken : (u r : ℕ) (x : Fork) (ws : List Fork) → map (waiting_entry u) (take r (inserted (λ y. y.stamp) x ws)) ≡ take r (inserted (λ e. e.stamp) (waiting_entry u x) (map (waiting_entry u) ws))
mapped_taken u r x ws =
    take-map (waiting_entry u) r (inserted (λ y. y.stamp) x ws)
    ∙ ap (take r) (inserted-map (λ y. y.stamp) (λ e. e.stamp) (waiting_entry u) (λ y. refl) x ws)

-- an arrival adds its fork to those that wait, and may drop some
pub arrived_joins : (u : ℕ) (x : Fork) (v : Level) → Joins (waiting_entry u x) (entries_of u v) (entries_of u (arrived x v))
unfolding arrived
arrived_joins u x v = joins v.activity
  where
    waits : Joins (waiting_entry u x) (map (waiting_entry u) v.waiting) (map (waiting_entry u) (take (max_managers - started_count v) (inserted (λ y. y.stamp) x v.waiting)))
    waits =
        rw (mapped_taken u (max_managers - started_count v) x v.waiting) (joins_taken (max_managers - started_count v) (waiting_entry u x) (map (waiting_entry u) v.waiting))

    joins : (a : Activity) → Joins (waiting_entry u x) (entries_by u a v.waiting) (entries_by u a (take (max_managers - started_count v) (inserted (λ y. y.stamp) x v.waiting)))
    joins idle = waits
    joins (busy y m) = joins_after (running_entry u y m.forks) (waiting_entry u x) _ _ waits
