-- The forks of each level, kept in words: read one by one, one more, and those of other levels. Assumes nothing.
use Prim.Native.Nat.{ℕ, zero, suc, ◌+◌, ◌*◌, ◌-◌, ◌%◌, ◌^◌, ◌≤◌, ◌<◌}
use mathlib.Core.Path.{◌≡◌, refl, sym, ◌∙◌, ap}
use mathlib.Core.Bool.{true, false, ◌&&◌}
use mathlib.Core.List.{List, [], ◌∷◌, map}
use native.Mathlib.Nat.{add-zero, min-le_right}
use native.Mathlib.Decide.{dec_lt}
use native.Mathlib.Omega.{arith}
use borrow.Author.Tests.{leb-true, le-leb, lt-leb}
use lib.Dec.{leb}
use lib.ListN.{length, get_or, length-map}
use Rattle.lists.proofs.Laws.Range.{and_left, and_right}
use Rattle.session.specs.Limits.{max_levels}
use Rattle.lists.specs.Lists.{tab, rising_from}
use Rattle.lists.proofs.Laws.Lists.{get_d_tab}
use Rattle.lists.specs.Outside.{Outside}
use Rattle.lists.proofs.Laws.Outside.{outside_wider, Apart, before, behind}
use Rattle.model.specs.Limits.{max_managers}
use Rattle.lists.specs.Changed.{last_or}
use Rattle.rows.specs.Rows.{row_at, rows_at, key_of}
use Rattle.rows.specs.Change as rows
use Rattle.rows.specs.Change.{Inserted}
use Rattle.rows.proofs.Laws.Outside.{row_apart, rows_apart}
use Rattle.rows.proofs.Laws.Rows.{rows_length, rows_first, rising_behind, decoded}
use Rattle.rows.proofs.Laws.Kept.{kept_none, kept_last}
use Rattle.queues.specs.Queue.{carried_place, fork_words, fork_place, fork_of_row, fork_at, forks_at, ForksRise, Room, is_dropped, Arrived}

-- a fork's stamp is its row's key
pub stamp_key : (n : ℕ) (row : List ℕ) → (fork_of_row n row).stamp ≡ key_of row
unfolding fork_of_row
stamp_key n row = refl

-- a fork's stamp, depth and message, whatever the number of levels
module _ (n k : ℕ) (ws : List ℕ) (l i : ℕ) where
  pub stamp_any : (fork_at n ws l i).stamp ≡ (fork_at k ws l i).stamp
  unfolding fork_at fork_of_row
  stamp_any = refl

  pub depth_any : (fork_at n ws l i).depth ≡ (fork_at k ws l i).depth
  unfolding fork_at fork_of_row
  depth_any = refl

  pub message_any : (fork_at n ws l i).message ≡ (fork_at k ws l i).message
  unfolding fork_at fork_of_row
  message_any = refl

-- one row of a level: its words, and the place of the next; the rows from it on
module _ (ws : List ℕ) (l i : ℕ) where
  word_is : (k : ℕ) → k < fork_words → get_or (row_at ws (fork_place l i) fork_words) k 0 ≡ get_or ws (fork_place l i + k) 0
  unfolding row_at
  word_is k h = get_d_tab 0 fork_words (λ k. get_or ws (fork_place l i + k) 0) k h

  pub carried_word : (j : ℕ) → j < max_levels → get_or (row_at ws (fork_place l i) fork_words) (carried_place + j) 0 ≡ get_or ws (fork_place l i + carried_place + j) 0
  carried_word j h =
      let z : fork_place l i + (carried_place + j) ≡ fork_place l i + carried_place + j = omega arith in
      word_is (carried_place + j) (omega arith) ∙ ap (λ k. get_or ws k 0) z

  next : fork_place l i + fork_words ≡ fork_place l (i + 1)
  next = omega arith

  pub rises_none : ForksRise ws l i 0
  unfolding rows_at tab rising_from
  rises_none = refl

  pub rises_behind : (c : ℕ) → ForksRise ws l i (suc c) → ForksRise ws l (i + 1) c
  rises_behind c e = rw next at (rising_behind ws (fork_place l i) fork_words c e)

module _ (n : ℕ) (ws : List ℕ) (l i : ℕ) where
  -- what the code reads of a fork: its stamp, and the write stamp for a level
  pub stamp_is : (fork_at n ws l i).stamp ≡ get_or ws (fork_place l i) 0
  unfolding fork_at fork_of_row row_at tab
  stamp_is = rw (add-zero (fork_place l i)) refl

  pub carried_is : (j : ℕ) → j < n → j < max_levels → get_or (fork_at n ws l i).carried j 0 ≡ get_or ws (fork_place l i + carried_place + j) 0 % 2 ^ 16
  unfolding fork_at fork_of_row
  carried_is j h m =
      get_d_tab 0 n (λ k. get_or (row_at ws (fork_place l i) fork_words) (carried_place + k) 0 % 2 ^ 16) j h
      ∙ ap (λ w. w % 2 ^ 16) (carried_word ws l i j m)

  -- the forks from a place on: none, the first and those behind it, how many
  pub forks_none : forks_at n ws l i 0 ≡ []
  unfolding forks_at rows_at tab
  forks_none = refl

  pub forks_first : (c : ℕ) → forks_at n ws l i (suc c) ≡ fork_at n ws l i ∷ forks_at n ws l (i + 1) c
  unfolding forks_at fork_at
  forks_first c =
      ap (map (fork_of_row n)) (rows_first ws (fork_place l i) fork_words c)
      ∙ ap (λ at. fork_at n ws l i ∷ map (fork_of_row n) (rows_at ws at fork_words c)) (next ws l i)

  pub forks_length : (c : ℕ) → length (forks_at n ws l i c) ≡ c
  unfolding forks_at
  forks_length c = length-map (rows_at ws (fork_place l i) fork_words c) (fork_of_row n) ∙ rows_length ws (fork_place l i) fork_words c

-- the same rows are the same forks
pub forks_same : (n : ℕ) (ws ws' : List ℕ) (l first k : ℕ) → rows_at ws' (fork_place l first) fork_words k ≡ rows_at ws (fork_place l first) fork_words k
    → forks_at n ws' l first k ≡ forks_at n ws l first k
unfolding forks_at
forks_same n ws ws' l first k e = ap (map (fork_of_row n)) e

-- a change within the words of level l from the fork at `start` on leaves the forks before it and those of other levels as they were
module _ (ws ws' : List ℕ) (l start : ℕ) (o : Outside ws ws' (fork_place l start) (fork_place l max_managers)) where
  level_apart : (l' first k : ℕ) → (l' ≡ l → ⊥) → first + k ≤ max_managers
      → Apart (fork_place l start) (fork_place l max_managers) (fork_place l' first) (fork_place l' first + fork_words * k)
  level_apart l' first k d h = elim (dec_lt l' l) [
    | yes g ↦ before (omega arith)
    | no g ↦ behind (omega (arith, d))
  ]

  pub others_apart : (l' first k : ℕ) → (l' ≡ l → ⊥) → first + k ≤ max_managers → rows_at ws' (fork_place l' first) fork_words k ≡ rows_at ws (fork_place l' first) fork_words k
  others_apart l' first k d h = rows_apart ws ws' (fork_place l start) (fork_place l max_managers) o (fork_place l' first) fork_words k (level_apart l' first k d h)

  pub other_apart : (n l' i : ℕ) → (l' ≡ l → ⊥) → i < max_managers → fork_at n ws' l' i ≡ fork_at n ws l' i
  unfolding fork_at
  other_apart n l' i d h = ap (fork_of_row n) (row_apart ws ws' (fork_place l start) (fork_place l max_managers) o (fork_place l' i) fork_words (level_apart l' i 1 d (omega arith)))

  pub before_apart : (n i : ℕ) → i < start → fork_at n ws' l i ≡ fork_at n ws l i
  unfolding fork_at
  before_apart n i h = ap (fork_of_row n) (row_apart ws ws' (fork_place l start) (fork_place l max_managers) o (fork_place l i) fork_words (before (omega arith)))

-- there is room for the rows of those that wait
pub room_for : (ws : List ℕ) (l started waiting : ℕ) (row : List ℕ) → Room ws l started waiting → length row ≡ fork_words
    → rows.Room ws (fork_place l started) waiting (max_managers - started) row
room_for ws l started waiting row h w =
    record {
      wide = omega arith;
      fits = rw w (omega (arith, h.room, h.level, h.kept));
      kept = omega (arith, h.kept);
      rises = rw w h.rises;
    }

-- a row put among those that wait is a fork that arrives
pub arrived : (ws ws' : List ℕ) (l started waiting : ℕ) (row : List ℕ) (count : ℕ) → Room ws l started waiting → length row ≡ fork_words
    → Inserted ws ws' (fork_place l started) waiting (max_managers - started) row count → Arrived ws ws' l started waiting row count
unfolding forks_at
arrived ws ws' l started waiting row count h w i =
    let few : count ≤ max_managers - started = rw i.number (min-le_right (waiting + 1) (max_managers - started)) in
    let inner : Outside ws ws' (fork_place l started) (fork_place l started + fork_words * count) = rw w at i.outside in
    let o : Outside ws ws' (fork_place l started) (fork_place l max_managers) =
    outside_wider ws ws' (fork_place l started) (fork_place l started + fork_words * count) (fork_place l started) (fork_place l max_managers) (omega arith) (omega (arith, h.kept)) inner in
    let z : fork_place l started + fork_words * count ≡ fork_place l (started + count) = omega arith in
    record {
      number = i.number;
      rows = rw w at i.rows;
      untouched = rw z at inner;
      forks = λ n. rw w at (decoded (fork_of_row n) (λ y. y.stamp) (stamp_key n) ws ws' (fork_place l started) waiting (max_managers - started) row count i);
      rises = rw w at i.rises;
      before = before_apart ws ws' l started o;
      others = others_apart ws ws' l started o;
      outside = o;
    }

-- the last stamp of those that wait
last_stamp : (n : ℕ) (ws : List ℕ) (l c i v : ℕ) → last_or v (map (λ y. y.stamp) (forks_at n ws l i (suc c))) ≡ get_or ws (fork_place l (i + c)) 0
unfolding last_or
last_stamp n ws l zero i v =
    let z : i + 0 ≡ i = omega arith in
    rw (forks_first n ws l i 0, forks_none n ws l (i + 1), z) (stamp_is n ws l i)
last_stamp n ws l (suc c) i v =
    let z : i + 1 + c ≡ i + suc c = omega arith in
    rw (forks_first n ws l i (suc c)) (last_stamp n ws l c (i + 1) (fork_at n ws l i).stamp ∙ ap (λ k. get_or ws (fork_place l k) 0) z)

-- whether a fork is dropped: where there is room, where all have started, and else by the last one's stamp
module _ (n : ℕ) (ws : List ℕ) (l started stamp : ℕ) where
  dropped_by : (waiting : ℕ) → is_dropped started (forks_at n ws l started waiting) stamp ≡ (leb max_managers (started + waiting) && leb (last_or 0 (map (λ y. y.stamp) (forks_at n ws l started waiting))) stamp)
  unfolding is_dropped
  dropped_by waiting = rw (forks_length n ws l started waiting) refl

  pub dropped_roomy : (waiting : ℕ) → started + waiting < max_managers → is_dropped started (forks_at n ws l started waiting) stamp ≡ false
  dropped_roomy waiting h = rw (dropped_by waiting, lt-leb max_managers (started + waiting) h) refl

  pub dropped_started : (waiting : ℕ) → max_managers ≤ started + waiting → waiting ≡ 0 → is_dropped started (forks_at n ws l started waiting) stamp ≡ true
  unfolding last_or
  dropped_started waiting h z =
      rw (dropped_by waiting, le-leb max_managers (started + waiting) h, z, forks_none n ws l started) (le-leb 0 stamp (omega arith))

  pub dropped_last : (waiting : ℕ) → started + waiting ≡ max_managers → (waiting ≡ 0 → ⊥) → is_dropped started (forks_at n ws l started waiting) stamp ≡ leb (fork_at n ws l (max_managers - 1)).stamp stamp
  dropped_last zero h d = absurd (d refl)
  dropped_last (suc c) h d =
      let z : started + c ≡ max_managers - 1 = omega arith in
      rw (dropped_by (suc c), le-leb max_managers (started + suc c) (omega arith), last_stamp n ws l c started 0, z, stamp_is n ws l (max_managers - 1)) refl

-- a row whose fork is dropped changes nothing
pub dropped_arrives : (n : ℕ) (ws : List ℕ) (l started waiting : ℕ) (row : List ℕ) → Room ws l started waiting → length row ≡ fork_words
    → is_dropped started (forks_at n ws l started waiting) (key_of row) ≡ true → Arrived ws ws l started waiting row waiting
dropped_arrives n ws l started waiting row h w e =
    let b = sym (dropped_by n ws l started (key_of row) waiting) ∙ e in
    let last = last_or 0 (map (λ y. y.stamp) (forks_at n ws l started waiting)) in
    let full : max_managers ≤ started + waiting = leb-true max_managers (started + waiting) (and_left (leb max_managers (started + waiting)) (leb last (key_of row)) b) in
    let low : last ≤ key_of row = leb-true last (key_of row) (and_right (leb max_managers (started + waiting)) (leb last (key_of row)) b) in
    arrived ws ws l started waiting row waiting h w (by waiting (omega (arith, full, h.kept)) (room_for ws l started waiting row h w) low)
  where
    by : (waiting : ℕ) → max_managers - started ≡ waiting → rows.Room ws (fork_place l started) waiting (max_managers - started) row
        → last_or 0 (map (λ y. y.stamp) (forks_at n ws l started waiting)) ≤ key_of row → Inserted ws ws (fork_place l started) waiting (max_managers - started) row waiting
    by zero z r g = rw z (kept_none ws (fork_place l started) row)
    by (suc c) z r g =
        let p : fork_place l started + length row * c ≡ fork_place l (started + c) = rw w (omega arith) in
        rw z (kept_last ws (fork_place l started) row c (rw z at r) (rw (p, sym (last_stamp n ws l c started 0)) g))

-- no fork of another level is touched by an arrival
pub fork_apart : (ws ws' : List ℕ) (l started waiting : ℕ) (row : List ℕ) (count : ℕ) → Arrived ws ws' l started waiting row count
    → (n l' i : ℕ) → (l' ≡ l → ⊥) → i < max_managers → fork_at n ws' l' i ≡ fork_at n ws l' i
fork_apart ws ws' l started waiting row count a = other_apart ws ws' l started a.outside
