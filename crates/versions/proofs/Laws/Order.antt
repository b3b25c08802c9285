-- The order of a log by write stamp: how halving finds the versions not above a bound, and that a read up to the bound takes the newest of
-- those. Assumes nothing.
use Rattle.std.proofs.Common.{◌≡◌, ℕ, zero, suc, ◌+◌, ◌*◌, ◌/◌, ◌%◌, ◌^◌, ◌<◌, ◌≤◌, Bool, true, false, ◌&&◌, ltb, List, get_or, sym, refl, ap, ◌∙◌, le_trans, arith, le-ltb, lt-ltb, le-leb}
use native.Mathlib.Decide.{dec_lt}
use borrow.Author.Tests.{lt-leb}
use Rattle.session.specs.Value.{Value}
use Rattle.model.specs.Level.{is_of, newest, newest_to}
use Rattle.lists.specs.Each.{Each, Pairwise}
use Rattle.versions.specs.Log.{version_of, version_at, log_of}
use Rattle.versions.specs.Order.{stamp_at, StampsRise, PartitionPoint}

-- the write stamp is what a first number holds above the tag and below the field
stamp_of : (packed : ℕ) → packed / 2 % 2 ^ 16 ≡ packed % 2 ^ 17 / 2
stamp_of packed = omega arith

module _ (w : List ℕ) (start i bound : ℕ) where
  pub stamp_low : get_or w (start + 2 * i) 0 % 2 ^ 17 ≤ 2 * bound + 1 → stamp_at w start i ≤ bound
  unfolding version_of
  stamp_low h = rw stamp_of (omega arith)

  pub stamp_high : 2 * bound + 1 < get_or w (start + 2 * i) 0 % 2 ^ 17 → bound < stamp_at w start i
  unfolding version_of
  stamp_high h = rw stamp_of (omega arith)

  pub stamp_test : ltb (2 * bound + 1) (get_or w (start + 2 * i) 0 % 2 ^ 17) ≡ ltb bound (stamp_at w start i)
  stamp_test = elim (dec_lt (2 * bound + 1) (get_or w (start + 2 * i) 0 % 2 ^ 17)) [
    | yes h ↦ lt-ltb (2 * bound + 1) (get_or w (start + 2 * i) 0 % 2 ^ 17) h ∙ sym (lt-ltb bound (stamp_at w start i) (stamp_high h))
    | no h ↦ le-ltb (2 * bound + 1) (get_or w (start + 2 * i) 0 % 2 ^ 17) (omega (arith, h)) ∙ sym (le-ltb bound (stamp_at w start i) (stamp_low (omega (arith, h))))
  ]

-- the versions before `low` are not above the bound, and those from `high` on are
pub record Bracket (w : List ℕ) (start n bound low high : ℕ) : Type 0 where
  pub ordered : low ≤ high
  pub within : high ≤ n
  pub before : (i : ℕ) → i < low → stamp_at w start i ≤ bound
  pub after : (i : ℕ) → high ≤ i → i < n → bound < stamp_at w start i

pub bracket_all : (w : List ℕ) (start n bound : ℕ) → Bracket w start n bound 0 n
bracket_all w start n bound =
    record {
      ordered = omega arith;
      within = omega arith;
      before = λ i h. absurd (omega arith);
      after = λ i h l. absurd (omega arith);
    }

module _ {w : List ℕ} {start n bound low high : ℕ} (b : Bracket w start n bound low high) where
  -- the version in the middle settles all on one side of it
  module _ (rise : StampsRise w start n) (m : ℕ) (lm : low ≤ m) (mh : m < high) where
    pub bracket_up : stamp_at w start m ≤ bound → Bracket w start n bound (m + 1) high
    bracket_up h =
        record {
          ordered = omega arith;
          within = b.within;
          before = λ i l. le_trans (rise i m (omega arith) (omega (arith, mh, b.within))) h;
          after = b.after;
        }

    pub bracket_down : bound < stamp_at w start m → Bracket w start n bound low m
    bracket_down h =
        record {
          ordered = lm;
          within = omega (arith, mh, b.within);
          before = b.before;
          after = λ i l k. le_trans h (rise m i l k);
        }

  -- the two have met
  pub bracket_met : high ≤ low → PartitionPoint w start n bound low
  bracket_met h =
      record {
        within = omega (arith, b.ordered, b.within);
        before = b.before;
        after = λ i l k. b.after i (omega arith) k;
      }

and_true : (b : Bool) → (b && true) ≡ b
and_true true = refl
and_true false = refl

and_false : (b : Bool) → (b && false) ≡ false
and_false true = refl
and_false false = refl

module _ (w : List ℕ) (start bound : ℕ) (initial : Value) (object field : ℕ) where
  -- where no version is above the bound, a read up to it takes the newest
  newest_low : (r : ℕ) → ((i : ℕ) → i < r → stamp_at w start i ≤ bound) → newest initial object field (log_of w start r) ≡ newest_to bound initial object field (log_of w start r)
  unfolding newest newest_to log_of
  newest_low zero f = refl
  newest_low (suc r) f =
      rw (le-leb (stamp_at w start r) bound (f r (omega arith)), and_true (is_of object field (version_at w (start + 2 * r))), newest_low r (λ i h. f i (omega arith)))

  -- it passes those above
  past_high : (r n : ℕ) → r ≤ n → ((i : ℕ) → r ≤ i → i < n → bound < stamp_at w start i) → newest_to bound initial object field (log_of w start r) ≡ newest_to bound initial object field (log_of w start n)
  unfolding newest_to log_of
  past_high r zero h f =
      let e : r ≡ 0 = omega arith in
      ap (λ m. newest_to bound initial object field (log_of w start m)) e
  past_high r (suc n) h f = elim (dec_lt n r) [
    | yes l ↦
        let e : r ≡ suc n = omega arith in
        ap (λ m. newest_to bound initial object field (log_of w start m)) e
    | no l ↦
        rw (lt-leb (stamp_at w start n) bound (f n (omega arith) (omega arith)), and_false (is_of object field (version_at w (start + 2 * n))))
        (past_high r n (omega arith) (λ i g k. f i g (omega arith)))
  ]

  -- so it takes the newest of the versions not above the bound
  pub newest_before : (n r : ℕ) → PartitionPoint w start n bound r → newest initial object field (log_of w start r) ≡ newest_to bound initial object field (log_of w start n)
  newest_before n r p = newest_low r p.before ∙ past_high r n p.within p.after

-- a log whose versions, newest first, have write stamps that never rise
pub stamps_rise : (w : List ℕ) (start n : ℕ) → Pairwise (λ v u. u.stamp ≤ v.stamp) (log_of w start n) → StampsRise w start n
unfolding Pairwise log_of
stamps_rise w start zero f i j h l = absurd (omega arith)
stamps_rise w start (suc n) f i j h l = elim (dec_lt j n) [
  | yes k ↦ stamps_rise w start n f.1 i j h k
  | no k ↦
      let e : j ≡ n = omega arith in
      rw e (older i (dec_lt i n) (omega arith))
]
  where
    each_at : (b m i : ℕ) → Each (λ u. u.stamp ≤ b) (log_of w start m) → i < m → stamp_at w start i ≤ b
    each_at b zero i g l = absurd (omega arith)
    each_at b (suc m) i g l = elim (dec_lt i m) [
      | yes k ↦ each_at b m i (unfold Each log_of in g.1) k
      | no k ↦
          let e : i ≡ m = omega arith in
          rw e (unfold Each log_of in g.0)
    ]

    older : (i : ℕ) → Dec (i < n) → i ≤ n → stamp_at w start i ≤ stamp_at w start n
    older i (yes k) h = each_at (stamp_at w start n) n i f.0 k
    older i (no k) h =
        let e : i ≡ n = omega arith in
        rw e (omega arith)
