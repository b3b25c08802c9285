-- Where the records of each kind stand, in a session whose kinds never fall. Assumes nothing.
use Prim.Native.Nat.{ℕ, suc, ◌+◌, ◌≤◌, ◌<◌, suc-le-suc}
use mathlib.Core.Path.{◌≡◌, sym, ◌∙◌, ap}
use mathlib.Core.Bool.{true, false, not, ◌&&◌}
use mathlib.Core.List.{List, []}
use native.Mathlib.Nat.{le_trans}
use native.Mathlib.Decide.{dec_lt}
use native.Mathlib.Omega.{arith}
use borrow.Author.Tests.{leb-true, leb-false, le-leb, lt-ltb, le-ltb, eq-eqb, ne_eqb, eqb-true, eqb-false}
use lib.Dec.{eqb, leb, ltb}
use lib.ListN.{length, get_or, length-map}
use lib.Seq.{ext_get_or}
use Rattle.lists.proofs.Laws.Range.{and_left, and_right, and_both, refuted}
use Rattle.lists.specs.Lists.{every, rising_from, count_below}
use Rattle.session.specs.Record.{record_at, record_count, records_of, kind_of, records_from, mask_of}
use Rattle.session.specs.Parts.{of_kind, level_records, object_records, step_records, root_records, level_count, object_count, step_count, root_record, masks_of, key_of}
use Rattle.session.specs.Questions.{kinds_rise, question2}
use Rattle.session.proofs.Laws.Record.{records_length, record_is, from-length, from_at}
use Rattle.lists.proofs.Laws.Lists.{holds, fails, truth, every_each, every-all, select-length, select-all, select_none}
use Rattle.lists.proofs.Laws.Rising.{first_below, rest_above, count_more, among_at, rising_next, rising_all, Climbed, climbed_most}

-- no more records have a kind below m than there are
pub below_le : (s : List ℕ) (m : ℕ) → count_below kind_of m (records_of s) ≤ record_count s
below_le s m = omega (arith, select-length (λ rec. ltb (kind_of rec) m) (records_of s), records_length s)

-- the first part of question 2, record by record
pub kinds_all : (s : List ℕ)
    → ((r : ℕ) → r < record_count s → 1 ≤ kind_of (record_at s r))
    → ((r : ℕ) → r < record_count s → kind_of (record_at s r) ≤ 4)
    → ((r : ℕ) → suc r < record_count s → kind_of (record_at s r) ≤ kind_of (record_at s (suc r)))
    → kinds_rise s ≡ true
unfolding kinds_rise
kinds_all s lo hi nx =
    and_both _ _
    (every-all (λ rec. leb 1 (kind_of rec) && leb (kind_of rec) 4) [] (records_of s) λ r h.
    let l : r < record_count s = rw (records_length s) at h in
    rw (record_is s r l) (and_both _ _ (le-leb 1 (kind_of (record_at s r)) (lo r l)) (le-leb (kind_of (record_at s r)) 4 (hi r l))))
    (rising_all kind_of [] 0 (records_of s) (λ h. omega arith) λ r h.
    let l : suc r < record_count s = rw (records_length s) at h in
    let m : r < record_count s = omega arith in
    rw (record_is s r m, record_is s (suc r) l) (nx r l))

module _ (s : List ℕ) (k : kinds_rise s ≡ true) where
  pub kinds_within : every (λ rec. leb 1 (kind_of rec) && leb (kind_of rec) 4) (records_of s) ≡ true
  unfolding kinds_rise
  kinds_within = and_left (every (λ rec. leb 1 (kind_of rec) && leb (kind_of rec) 4) (records_of s)) (rising_from kind_of 0 (records_of s)) k

  pub kinds_rising : rising_from kind_of 0 (records_of s) ≡ true
  unfolding kinds_rise
  kinds_rising = and_right (every (λ rec. leb 1 (kind_of rec) && leb (kind_of rec) 4) (records_of s)) (rising_from kind_of 0 (records_of s)) k

  kind_range : (r : ℕ) → r < record_count s → (1 ≤ kind_of (get_or (records_of s) r [])) × (kind_of (get_or (records_of s) r []) ≤ 4)
  kind_range r h =
      let rec = get_or (records_of s) r [] in
      let t = every_each _ [] (records_of s) kinds_within r (rw (records_length s) h) in (
        leb-true 1 (kind_of rec) (and_left (leb 1 (kind_of rec)) (leb (kind_of rec) 4) t),
        leb-true (kind_of rec) 4 (and_right (leb 1 (kind_of rec)) (leb (kind_of rec) 4) t),
      )

  pub kind_least : (r : ℕ) → r < record_count s → 1 ≤ kind_of (record_at s r)
  kind_least r h = rw (record_is s r h) at (kind_range r h).0

  pub kind_most : (r : ℕ) → r < record_count s → kind_of (record_at s r) ≤ 4
  kind_most r h = rw (record_is s r h) at (kind_range r h).1

  pub kind_next : (r : ℕ) → suc r < record_count s → kind_of (record_at s r) ≤ kind_of (record_at s (suc r))
  kind_next r h =
      let l : r < record_count s = omega arith in
      rw (record_is s r l, record_is s (suc r) h) at (rising_next kind_of [] 0 (records_of s) kinds_rising r (rw (records_length s) h))

  -- the records with a kind below m are the first ones
  pub below_kind : (m r : ℕ) → r < record_count s → r < count_below kind_of m (records_of s) → kind_of (record_at s r) < m
  below_kind m r h l = rw (record_is s r h) at (first_below kind_of [] m 0 (records_of s) kinds_rising r l)

  pub kind_below : (m r : ℕ) → r < record_count s → kind_of (record_at s r) < m → r < count_below kind_of m (records_of s)
  kind_below m r h l = elim (dec_lt r (count_below kind_of m (records_of s))) [
    | yes g ↦ g
    | no g ↦
        let up : m ≤ kind_of (record_at s r) =
        rw (record_is s r h) at (rest_above kind_of [] m 0 (records_of s) kinds_rising r (rw (records_length s) h) (omega arith)) in
        absurd (omega arith)
  ]

  pub kind_above : (m r : ℕ) → r < record_count s → m ≤ kind_of (record_at s r) → count_below kind_of m (records_of s) ≤ r
  kind_above m r h l = elim (dec_lt r (count_below kind_of m (records_of s))) [
    | yes g ↦ let low : kind_of (record_at s r) < m = below_kind m r h g in absurd (omega arith)
    | no g ↦ omega arith
  ]

  -- how many records have a kind below 1, 2, .. 5
  pub below_1 : count_below kind_of 1 (records_of s) ≡ 0
  below_1 =
      ap length (select_none (λ rec. ltb (kind_of rec) 1) (records_of s)
      (every-all (λ rec. not (ltb (kind_of rec) 1)) [] (records_of s) λ r h.
      ap not (le-ltb (kind_of (get_or (records_of s) r [])) 1 (kind_range r (rw (records_length s) at h)).0)))

  pub below_2 : count_below kind_of 2 (records_of s) ≡ level_count s
  unfolding of_kind
  below_2 = omega (arith, below_1, count_more kind_of 1 (records_of s))

  pub below_3 : count_below kind_of 3 (records_of s) ≡ level_count s + object_count s
  unfolding of_kind
  below_3 = omega (arith, below_2, count_more kind_of 2 (records_of s))

  pub below_4 : count_below kind_of 4 (records_of s) ≡ level_count s + object_count s + step_count s
  unfolding of_kind
  below_4 = omega (arith, below_3, count_more kind_of 3 (records_of s))

  pub below_5 : record_count s ≡ level_count s + object_count s + step_count s + length (root_records s)
  unfolding of_kind
  below_5 =
      let all_five : count_below kind_of 5 (records_of s) ≡ length (records_of s) =
      ap length (select-all (λ rec. ltb (kind_of rec) 5) (records_of s)
      (every-all (λ rec. ltb (kind_of rec) 5) [] (records_of s) λ r h. lt-ltb _ 5 (suc-le-suc (kind_range r (rw (records_length s) at h)).1))) in
      omega (arith, all_five, records_length s, below_4, count_more kind_of 4 (records_of s))

  -- the records of each kind, by number
  among_is : (m j : ℕ) → j < length (of_kind m s) → count_below kind_of m (records_of s) + j < record_count s → get_or (of_kind m s) j [] ≡ record_at s (count_below kind_of m (records_of s) + j)
  unfolding of_kind
  among_is m j h l = among_at kind_of [] m 0 (records_of s) kinds_rising j h ∙ record_is s (count_below kind_of m (records_of s) + j) l

  pub level_is : (i : ℕ) → i < level_count s → get_or (level_records s) i [] ≡ record_at s i
  level_is i h = among_is 1 i h (omega (arith, below_1, below_5)) ∙ ap (record_at s) (omega (arith, below_1))

  pub object_is : (o : ℕ) → o < object_count s → get_or (object_records s) o [] ≡ record_at s (level_count s + o)
  object_is o h = among_is 2 o h (omega (arith, below_2, below_5)) ∙ ap (record_at s) (omega (arith, below_2))

  pub step_is : (j : ℕ) → j < step_count s → get_or (step_records s) j [] ≡ record_at s (level_count s + object_count s + j)
  step_is j h = among_is 3 j h (omega (arith, below_3, below_5)) ∙ ap (record_at s) (omega (arith, below_3))

-- a walk along kinds that never fall from 1 on: they are 1 to 4 where the last is at most 4
pub kinds_climbed : (s : List ℕ) (low : ℕ) → Climbed (λ r. kind_of (record_at s r)) 1 (record_count s) low → leb low 4 ≡ kinds_rise s
kinds_climbed s low c = elim (truth (leb low 4)) [
  | holds e ↦ e ∙ sym (kinds_all s c.least (λ r h. le_trans (c.top r h) (leb-true low 4 e)) c.next)
  | fails e ↦
      e ∙ sym (refuted (kinds_rise s) λ t.
      let most : low ≤ 4 = climbed_most (λ r. kind_of (record_at s r)) 1 4 (record_count s) low c (omega arith) (kind_most s t) in
      omega (arith, leb-false low 4 e))
]

-- question 2 says no where the kinds fall
pub question2_falls : (s : List ℕ) → kinds_rise s ≡ false → question2 s ≡ false
unfolding question2
question2_falls s k = rw k

-- the rest of question 2, by how many records there are
pub question2_is : (s : List ℕ) → kinds_rise s ≡ true →
    question2 s ≡ (leb 1 (level_count s) && leb 1 (object_count s) && eqb (level_count s + object_count s + step_count s + 1) (record_count s))
unfolding question2
question2_is s k = rw (k, roots)
  where
    roots : eqb (length (root_records s)) 1 ≡ eqb (level_count s + object_count s + step_count s + 1) (record_count s)
    roots =
        let n = level_count s + object_count s + step_count s in
        elim (truth (eqb (length (root_records s)) 1)) [
          | holds e ↦ e ∙ sym (eq-eqb (n + 1) (record_count s) (omega (arith, below_5 s k, eqb-true (length (root_records s)) 1 e)))
          | fails e ↦ e ∙ sym (ne_eqb (n + 1) (record_count s) (λ q. eqb-false (length (root_records s)) 1 e (omega (arith, below_5 s k))))
        ]

-- the steps, as some records from one on
pub steps_from : (s : List ℕ) → kinds_rise s ≡ true → step_records s ≡ records_from s (level_count s + object_count s) (step_count s)
steps_from s k =
    ext_get_or [] (step_records s) (records_from s (level_count s + object_count s) (step_count s)) (sym (from-length s _ _))
    (λ i h. step_is s k i h ∙ sym (from_at s (level_count s + object_count s) (step_count s) i h))

-- the root message is the last record
module _ (s : List ℕ) (q : question2 s ≡ true) where
  pub kinds_rise_lem : kinds_rise s ≡ true
  unfolding question2
  kinds_rise_lem = and_left (kinds_rise s) _ (and_left (kinds_rise s && leb 1 (level_count s)) _ (and_left _ _ q))

  pub one_root : length (root_records s) ≡ 1
  unfolding question2
  one_root = eqb-true (length (root_records s)) 1 (and_right (kinds_rise s && leb 1 (level_count s) && leb 1 (object_count s)) _ q)

  pub records_are : record_count s ≡ level_count s + object_count s + step_count s + 1
  records_are = below_5 s kinds_rise_lem ∙ ap (λ n. level_count s + object_count s + step_count s + n) one_root

  pub root_is : root_record s ≡ record_at s (level_count s + object_count s + step_count s)
  root_is =
      among_is s kinds_rise_lem 4 0 (omega (arith, one_root)) (omega (arith, below_4 s kinds_rise_lem, records_are))
      ∙ ap (record_at s) (omega (arith, below_4 s kinds_rise_lem))

-- the level table has a mask for each level
pub masks_count : (s : List ℕ) → length (masks_of s) ≡ level_count s
unfolding masks_of
masks_count s = length-map (level_records s) mask_of

-- the key of a record of a session
abbrev pub key_at : List ℕ → ℕ → ℕ
key_at s r = key_of (record_at s r)
