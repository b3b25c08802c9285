-- The end stamp before a fork stamp, by the place that the fork stamp has among histories. Assumes nothing.
use Prim.Native.Nat.{ℕ, zero, suc, ◌+◌, ◌-◌, ◌≤◌, ◌<◌}
use mathlib.Core.Path.{◌≡◌, refl, sym, ◌∙◌, ap}
use mathlib.Core.Bool.{true}
use mathlib.Core.List.{List, [], ◌∷◌, map}
use native.Mathlib.Nat.{le_trans}
use native.Mathlib.Omega.{arith}
use borrow.Author.Tests.{lt-ltb, le-ltb}
use lib.Dec.{ltb}
use lib.ListN.{get_or}
use Rattle.lists.specs.Lists.{select, rising_from, tab}
use Rattle.lists.proofs.Laws.Lists.{get_d_tab, select_yes, select_no}
use Rattle.lists.proofs.Laws.Rising.{rising_head, rising_tail}
use Rattle.lists.specs.Changed.{last_or}
use Rattle.model.specs.History.{end_before}
use Rattle.rows.specs.Rows.{row_at}
use Rattle.rows.specs.Change.{Place}
use Rattle.rows.proofs.Laws.Rows.{row_key}
use Rattle.histories.specs.Limits.{last_place, row_words}
use Rattle.histories.specs.Histories.{history_of_row, level_place, history_place, histories_at, InOrder}
use Rattle.histories.proofs.Laws.Histories.{stamp_key, history_at, histories_tab}

module _ {A : Type 0} (key last : A → ℕ) (x : ℕ) where
  -- the last of those with a key smaller than x, or v
  abbrev last_smaller : ℕ → List A → ℕ
  last_smaller v ys = last_or v (map last (select (λ y. ltb (key y) x) ys))

  -- there are none where the keys rise from x or more
  none_smaller : (b : ℕ) → x ≤ b → (ys : List A) → rising_from key b ys ≡ true → select (λ y. ltb (key y) x) ys ≡ []
  none_smaller b h [] e = unfold select in refl
  none_smaller b h (y ∷ ys) e =
      let g : x ≤ key y = le_trans h (rising_head key b y ys e) in
      select_no (λ y. ltb (key y) x) y ys (le-ltb (key y) x g) ∙ none_smaller (key y) g ys (rising_tail key b y ys e)

  -- of f 0 .. f (n − 1), which rise, there is none where the first is not smaller
  pub smaller_none : (v b n : ℕ) (f : ℕ → A) → rising_from key b (tab n f) ≡ true → (0 < n → x ≤ key (f 0)) → last_smaller v (tab n f) ≡ v
  unfolding tab last_or
  smaller_none v b zero f e h = unfold select in refl
  smaller_none v b (suc n) f e h =
      let rest = tab n (λ i. f (suc i)) in
      ap (λ ys. last_or v (map last ys))
      (select_no (λ y. ltb (key y) x) (f 0) rest (le-ltb (key (f 0)) x (h (omega arith)))
      ∙ none_smaller (key (f 0)) (h (omega arith)) rest (rising_tail key b (f 0) rest e))

  -- and where those up to f r are smaller, and the next is not, it is f r
  pub smaller_last : (v b n r : ℕ) (f : ℕ → A) → rising_from key b (tab n f) ≡ true → r < n
      → ((i : ℕ) → i ≤ r → key (f i) < x) → (suc r < n → x ≤ key (f (suc r))) → last_smaller v (tab n f) ≡ last (f r)
  unfolding tab last_or
  smaller_last v b zero r f e h lo hi = absurd (omega arith)
  smaller_last v b (suc n) zero f e h lo hi =
      let rest = tab n (λ i. f (suc i)) in
      ap (λ ys. last_or v (map last ys)) (select_yes (λ y. ltb (key y) x) (f 0) rest (lt-ltb (key (f 0)) x (lo 0 (omega arith))))
      ∙ smaller_none (last (f 0)) (key (f 0)) n (λ i. f (suc i)) (rising_tail key b (f 0) rest e) (λ l. hi (omega arith))
  smaller_last v b (suc n) (suc r) f e h lo hi =
      let rest = tab n (λ i. f (suc i)) in
      ap (λ ys. last_or v (map last ys)) (select_yes (λ y. ltb (key y) x) (f 0) rest (lt-ltb (key (f 0)) x (lo 0 (omega arith))))
      ∙ smaller_last (last (f 0)) (key (f 0)) n r (λ i. f (suc i)) (rising_tail key b (f 0) rest e) (omega arith) (λ i l. lo (suc i) (omega arith)) (λ l. hi (omega arith))

-- the fork stamp and the end stamp of a history, in its words
stamp_at_lem : (ws : List ℕ) (l i : ℕ) → (history_at ws l i).stamp ≡ get_or ws (history_place l i) 0
stamp_at_lem ws l i =
    let at = history_place l i in
    stamp_key (row_at ws at row_words) ∙ row_key ws at row_words (omega arith)

last_at : (ws : List ℕ) (l i : ℕ) → (history_at ws l i).last ≡ get_or ws (history_place l i + last_place) 0
unfolding history_of_row row_at
last_at ws l i = get_d_tab 0 row_words (λ j. get_or ws (history_place l i + j) 0) last_place (omega arith)

-- of `count` histories in order: 0 where the first has no smaller fork stamp, and else the end stamp of the last that has one
module _ (ws : List ℕ) (l count x : ℕ) (rises : InOrder (histories_at ws l count)) where
  pub end_none : (0 < count → x ≤ get_or ws (history_place l 0) 0) → 0 ≡ end_before x (histories_at ws l count)
  unfolding end_before
  end_none h =
      rw (histories_tab ws l count)
      (sym (smaller_none (λ h. h.stamp) (λ h. h.last) x 0 0 count (history_at ws l) (rw (histories_tab ws l count) at rises) (λ m. rw (stamp_at_lem ws l 0) (h m))))

  pub end_last : (r : ℕ) → 0 < x → 0 < r → Place ws (level_place l) row_words count (x - 1) r → get_or ws (history_place l (r - 1) + last_place) 0 ≡ end_before x (histories_at ws l count)
  unfolding end_before
  end_last (suc r) h m p =
      let z : suc r - 1 ≡ r = omega arith in
      rw (z, histories_tab ws l count)
      (sym (last_at ws l r) ∙ sym (smaller_last (λ h. h.stamp) (λ h. h.last) x 0 0 count r (history_at ws l) (rw (histories_tab ws l count) at rises) (omega (arith, p.within))
      (λ i g. rw (stamp_at_lem ws l i) (omega (arith, p.before i (omega arith))))
      (λ g. rw (stamp_at_lem ws l (suc r)) (omega (arith, p.after g)))))
  end_last zero h m p = absurd (omega arith)
