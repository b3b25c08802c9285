-- The managers that have not ended, level by level, form a forest of intervals: any two are related as in `Tree`. A fork and an end keep
-- this. Assumes nothing.
use Prim.Native.Nat.{ℕ, ◌<◌}
use mathlib.Core.Path.{◌≡◌, refl, sym, ◌∙◌}
use mathlib.Core.Bool.{true}
use mathlib.Core.List.{List, ◌∷◌}
use native.Mathlib.Decide.{ℕ_discrete}
use Rattle.dominance.specs.Order.{Dominance, strictly, PartialOrder}
use Rattle.lists.specs.Each.{Each, Pairwise}
use Rattle.lists.proofs.Laws.Each.{each_map, each_both, each_swap}
use Rattle.theorems.proofs.Laws.Invariant.Tree.{Entry, Related, related_sym, forked_from, child_in, Fertile, child_related, parent_related, parent_child}

-- by level, the managers that have not ended: each at its own level, any two related
pub record Forest (n : ℕ) (dom : Dominance) (F : ℕ → List Entry) : Type 0 where
  pub home : (l : ℕ) → l < n → Each (λ a. a.level ≡ l) (F l)
  pub same : (l : ℕ) → l < n → Pairwise (Related dom) (F l)
  pub across : (l k : ℕ) → l < n → k < n → (l ≡ k → ⊥) → Each (λ a. Each (Related dom a) (F k)) (F l)

-- the list ys has elements of xs, and c, and no others; whatever their order
pub record Joins (c : Entry) (xs ys : List Entry) : Type 1 where
  pub each : (P : Entry → Type 0) → P c → Each P xs → Each P ys
  pub pairs : (R : Entry → Entry → Type 0) → ((a b : Entry) → R a b → R b a) → Each (R c) xs → Pairwise R xs → Pairwise R ys

-- the list ys is xs, or xs without its first
pub data Rest {A : Type 0} (xs ys : List A) : Type 0 where
  whole : ys ≡ xs → Rest xs ys
  tail : (x : A) → xs ≡ x ∷ ys → Rest xs ys

pub rest_each : {A : Type 0} (P : A → Type 0) (xs ys : List A) → Rest xs ys → Each P xs → Each P ys
unfolding Each
rest_each P xs ys (whole q) e = rw q e
rest_each P xs ys (tail x q) e = (rw q at e).1

pub rest_pairs : (R : Entry → Entry → Type 0) (xs ys : List Entry) → Rest xs ys → Pairwise R xs → Pairwise R ys
unfolding Pairwise
rest_pairs R xs ys (whole q) e = rw q e
rest_pairs R xs ys (tail x q) e = (rw q at e).1

-- the first manager of level l ends, or nothing changes
pub forest_rest : (n : ℕ) (dom : Dominance) (F G : ℕ → List Entry) → Forest n dom F → ((k : ℕ) → Rest (F k) (G k)) → Forest n dom G
forest_rest n dom F G f r =
    record {
      home = λ l h. rest_each (λ a. a.level ≡ l) (F l) (G l) (r l) (f.home l h);
      same = λ l h. rest_pairs (Related dom) (F l) (G l) (r l) (f.same l h);
      across = λ l k hl hk d.
          rest_each (λ a. Each (Related dom a) (G k)) (F l) (G l) (r l)
          (each_map (λ a. Each (Related dom a) (F k)) (λ a. Each (Related dom a) (G k)) (λ a. rest_each (Related dom a) (F k) (G k) (r k)) (F l) (f.across l k hl hk d));
    }

-- the first manager a of level l forks at level u
module _ (n : ℕ) (dom : Dominance) (po : PartialOrder n dom) (F G : ℕ → List Entry) (f : Forest n dom F) (l u : ℕ) (hl : l < n) (hu : u < n) (lu : l ≡ u → ⊥) (a : Entry) (W : List Entry) (at_l : F l ≡ a ∷ W) (s : strictly dom u l ≡ true) (fertile : Fertile a) (w : ℕ) (positive : 0 < w) (to-l : G l ≡ forked_from a ∷ W) (to-u : Joins (child_in u w a) (F u) (G u)) (others : (k : ℕ) → (k ≡ l → ⊥) → (k ≡ u → ⊥) → G k ≡ F k) where
  a_home : a.level ≡ l
  unfolding Each
  a_home = (rw at_l at (f.home l hl)).0

  -- what a is related to, its child is related to
  child_each : (k : ℕ) → k < n → (xs : List Entry) → Each (λ b. b.level ≡ k) xs → Each (Related dom a) xs → Each (Related dom (child_in u w a)) xs
  child_each k hk xs h r =
      each_both (λ b. b.level ≡ k) (Related dom a) (Related dom (child_in u w a))
      (λ b q t. child_related n dom po u w a b hu (rw a_home hl) (rw q hk) (rw a_home s) fertile t) xs h r

  a_across : (k : ℕ) → k < n → (l ≡ k → ⊥) → Each (Related dom a) (F k)
  unfolding Each
  a_across k hk d = (rw at_l at (f.across l k hl hk d)).0

  w_across : (k : ℕ) → k < n → (l ≡ k → ⊥) → Each (λ w. Each (Related dom w) (F k)) W
  unfolding Each
  w_across k hk d = (rw at_l at (f.across l k hl hk d)).1

  a_same : Each (Related dom a) W
  unfolding Pairwise
  a_same = (rw at_l at (f.same l hl)).0

  w_same : Pairwise (Related dom) W
  unfolding Pairwise
  w_same = (rw at_l at (f.same l hl)).1

  w_home : Each (λ b. b.level ≡ l) W
  unfolding Each
  w_home = (rw at_l at (f.home l hl)).1

  -- a level by its place in the fork
  home_l : Each (λ b. b.level ≡ l) (G l)
  unfolding Each
  home_l = rw to-l (a_home, w_home)

  same_l : Pairwise (Related dom) (G l)
  unfolding Pairwise
  same_l =
      rw to-l (each_map (Related dom a) (Related dom (forked_from a)) (λ b. parent_related dom a b) W a_same, w_same)

  home_u : Each (λ b. b.level ≡ u) (G u)
  home_u = to-u.each (λ b. b.level ≡ u) refl (f.home u hu)

  child_u : Each (Related dom (child_in u w a)) (F u)
  child_u = child_each u hu (F u) (f.home u hu) (a_across u hu lu)

  same_u : Pairwise (Related dom) (G u)
  same_u = to-u.pairs (Related dom) (λ x y. related_sym) child_u (f.same u hu)

  l_other : (k : ℕ) → k < n → (l ≡ k → ⊥) → Each (λ b. Each (Related dom b) (F k)) (G l)
  unfolding Each
  l_other k hk d =
      rw to-l (each_map (Related dom a) (Related dom (forked_from a)) (λ b. parent_related dom a b) (F k) (a_across k hk d), w_across k hk d)

  u_other : (k : ℕ) → k < n → (l ≡ k → ⊥) → (u ≡ k → ⊥) → Each (λ b. Each (Related dom b) (F k)) (G u)
  u_other k hk d e =
      to-u.each (λ b. Each (Related dom b) (F k)) (child_each k hk (F k) (f.home k hk) (a_across k hk d)) (f.across u k hu hk e)

  l_u : Each (λ b. Each (Related dom b) (G u)) (G l)
  unfolding Each
  l_u =
      rw to-l (
        to-u.each (Related dom (forked_from a)) (parent_child dom u w a (rw a_home s) fertile positive)
            (each_map (Related dom a) (Related dom (forked_from a)) (λ b. parent_related dom a b) (F u) (a_across u hu lu)),
        each_both (Related dom (child_in u w a)) (λ w. Each (Related dom w) (F u)) (λ w. Each (Related dom w) (G u))
            (λ w c r. to-u.each (Related dom w) (related_sym c) r) W (child_each l hl W w_home a_same) (w_across u hu lu),
      )

  swap : (j k : ℕ) → Each (λ b. Each (Related dom b) (G k)) (G j) → Each (λ b. Each (Related dom b) (G j)) (G k)
  swap j k = each_swap (Related dom) (Related dom) (λ x y. related_sym) (G j) (G k)

  home_at : (k : ℕ) → k < n → Dec (k ≡ l) → Dec (k ≡ u) → Each (λ b. b.level ≡ k) (G k)
  home_at k hk (yes p) q = rw p home_l
  home_at k hk (no p) (yes q) = rw q home_u
  home_at k hk (no p) (no q) = rw (others k p q) (f.home k hk)

  same_at : (k : ℕ) → k < n → Dec (k ≡ l) → Dec (k ≡ u) → Pairwise (Related dom) (G k)
  same_at k hk (yes p) q = rw p same_l
  same_at k hk (no p) (yes q) = rw q same_u
  same_at k hk (no p) (no q) = rw (others k p q) (f.same k hk)

  -- from level l, from level u, and from another, to level k
  from_l : (k : ℕ) → k < n → (l ≡ k → ⊥) → Dec (k ≡ u) → Each (λ b. Each (Related dom b) (G k)) (G l)
  from_l k hk d (yes q) = rw q l_u
  from_l k hk d (no q) = rw (others k (λ e. d (sym e)) q) (l_other k hk d)

  from_u : (k : ℕ) → k < n → (u ≡ k → ⊥) → Dec (k ≡ l) → Each (λ b. Each (Related dom b) (G k)) (G u)
  from_u k hk d (yes p) = rw p (swap l u l_u)
  from_u k hk d (no p) = rw (others k p (λ e. d (sym e))) (u_other k hk (λ e. p (sym e)) d)

  from_other : (j k : ℕ) → j < n → k < n → (j ≡ k → ⊥) → (j ≡ l → ⊥) → (j ≡ u → ⊥) → Dec (k ≡ l) → Dec (k ≡ u) → Each (λ b. Each (Related dom b) (G k)) (G j)
  from_other j k hj hk d p q (yes e) g = rw e (swap l j (from_l j hj (λ t. p (sym t)) (no q)))
  from_other j k hj hk d p q (no e) (yes g) = rw g (swap u j (from_u j hj (λ t. q (sym t)) (no p)))
  from_other j k hj hk d p q (no e) (no g) = rw (others k e g, others j p q) (f.across j k hj hk d)

  across_at : (j k : ℕ) → j < n → k < n → (j ≡ k → ⊥) → Dec (j ≡ l) → Dec (j ≡ u) → Each (λ b. Each (Related dom b) (G k)) (G j)
  across_at j k hj hk d (yes p) q = rw p (from_l k hk (λ e. d (p ∙ e)) (ℕ_discrete k u))
  across_at j k hj hk d (no p) (yes q) = rw q (from_u k hk (λ e. d (q ∙ e)) (ℕ_discrete k l))
  across_at j k hj hk d (no p) (no q) = from_other j k hj hk d p q (ℕ_discrete k l) (ℕ_discrete k u)

  pub forest_fork : Forest n dom G
  forest_fork =
      record {
        home = λ k hk. home_at k hk (ℕ_discrete k l) (ℕ_discrete k u);
        same = λ k hk. same_at k hk (ℕ_discrete k l) (ℕ_discrete k u);
        across = λ j k hj hk d. across_at j k hj hk d (ℕ_discrete j l) (ℕ_discrete j u);
      }
