-- A fork's row, made: the root's, and a child's, which carries what its parent carries. Assumes nothing.
use Prim.Native.Nat.{ℕ, zero, suc, ◌+◌, ◌%◌, ◌^◌, ◌<◌, ◌≤◌}
use mathlib.Core.Path.{◌≡◌, refl, sym, ◌∙◌, ap, ap₂}
use mathlib.Core.List.{List, ◌∷◌}
use native.Mathlib.Omega.{arith}
use native.Mathlib.Nat.{mod-eq_of_lt}
use lib.ListN.{length, get_or, set, take, drop, replicate, length-set, length-drop, get_or-replicate}
use lib.Seq.{get_or-set_same, get_or-set_other, get_or-drop, ext_get_or, length-take-le}
use Rattle.std.proofs.Common.{append-nil}
use Rattle.std.proofs.lemmas.List.{get_or-take}
use borrow.Rule.Slice.PartMut.{put_mid}
use Rattle.session.specs.Limits.{max_levels}
use Rattle.lists.specs.Lists.{tab}
use Rattle.session.specs.declared.Message.{Message}
use Rattle.lists.proofs.Laws.Lists.{length-tab, get_d_tab}
use Rattle.lists.proofs.Laws.Fill.{tab_ext}
use Rattle.fields.proofs.Laws.Fields.{value_back}
use Rattle.rows.specs.Rows.{row_at, key_of}
use Rattle.queues.specs.Queue.{carried_place, fork_words, fork_place, fork_of_row, row_with, row_of, carried_at, row_of_child, fork_at, RootRow, ChildRow}
use Rattle.queues.proofs.Laws.Queue.{carried_word}

-- a table of one number, and one that differs from another at one place
tab_same : (n v : ℕ) (f : ℕ → ℕ) → ((i : ℕ) → i < n → f i ≡ v) → tab n f ≡ replicate n v
unfolding tab
tab_same zero v f h = refl
tab_same (suc n) v f h = ap₂ ◌∷◌ (h zero (omega arith)) (tab_same n v (λ i. f (suc i)) (λ i l. h (suc i) (omega arith)))

tab-set : (n k v : ℕ) (f g : ℕ → ℕ) → f k ≡ v → ((i : ℕ) → i < n → (i ≡ k → ⊥) → f i ≡ g i) → tab n f ≡ set (tab n g) k v
unfolding tab
tab-set zero k v f g e h = refl
tab-set (suc n) zero v f g e h =
    ap₂ ◌∷◌ e (tab_ext n (λ i. f (suc i)) (λ i. g (suc i)) (λ i l. h (suc i) (omega arith) (omega arith)))
tab-set (suc n) (suc k) v f g e h =
    ap₂ ◌∷◌ (h zero (omega arith) (omega arith)) (tab-set n k v (λ i. f (suc i)) (λ i. g (suc i)) e (λ i l d. h (suc i) (omega arith) (λ q. d (omega arith))))

-- the numbers of a fork fit their words
pub record Fits (depth : ℕ) (message : Message) : Type 0 where
  pub deep : depth < 2 ^ 8
  pub object : message.object < 2 ^ 8
  pub name : message.name < 2 ^ 8

-- a row of a stamp, a depth, a message and what is carried: the fork in it, and one carried write stamp more
module _ (stamp depth : ℕ) (message : Message) where
  row_fork : Fits depth message → (carried : List ℕ) (n : ℕ)
      → fork_of_row n (row_with stamp depth message carried) ≡ record { stamp = stamp; depth = depth; carried = tab n (λ j. get_or carried j 0 % 2 ^ 16); message = message }
  unfolding fork_of_row
  row_fork fits carried n =
      let row = row_with stamp depth message carried in
      let a : depth % 2 ^ 8 ≡ depth = mod-eq_of_lt fits.deep in
      let b : message.object % 2 ^ 8 ≡ message.object = mod-eq_of_lt fits.object in
      let c : message.name % 2 ^ 8 ≡ message.name = mod-eq_of_lt fits.name in
      rw (a, b, c, value_back message.parameter)
      (ap (λ seen. record { stamp = stamp; depth = depth; carried = seen; message = message })
      (tab_ext n (λ j. get_or row (carried_place + j) 0 % 2 ^ 16) (λ j. get_or carried j 0 % 2 ^ 16) (λ j l. ap (λ w. w % 2 ^ 16) (sym (get_or-drop carried_place row j 0)))))

  pub set_carried : (carried : List ℕ) (j v : ℕ) → set (row_with stamp depth message carried) (carried_place + j) v ≡ row_with stamp depth message (set carried j v)
  set_carried carried j v =
      let z : carried_place + j ≡ suc (suc (suc (suc (suc (suc j))))) = omega arith in
      rw z refl

-- the root's row holds its fork
pub root_row : (message : Message) → Fits 0 message → RootRow message (row_of 0 0 message)
root_row message fits n h =
    row_fork 0 0 message fits (replicate max_levels 0) n
    ∙ ap (λ seen. record { stamp = 0; depth = 0; carried = seen; message = message })
    (tab_same n 0 (λ j. get_or (replicate max_levels 0) j 0 % 2 ^ 16) (λ j l. ap (λ w. w % 2 ^ 16) (get_or-replicate max_levels j 0 0 (omega arith))))

-- the words from a place on, cut out of a list
row_cut : (ws : List ℕ) (at n : ℕ) → at + n ≤ length ws → take n (drop at ws) ≡ row_at ws at n
unfolding row_at
row_cut ws at n h =
    let word = λ (k : ℕ). get_or ws (at + k) 0 in
    let l : length (take n (drop at ws)) ≡ n = length-take-le n (drop at ws) (omega (arith, length-drop at ws)) in
    ext_get_or 0 (take n (drop at ws)) (tab n word) (l ∙ sym (length-tab n word))
    (λ k m.
    let k' : k < n = omega arith in
    get_or-take n (drop at ws) k 0 k' ∙ get_or-drop at ws k 0 ∙ sym (get_d_tab 0 n word k k'))

-- a row of a fork that carries nothing, with the words that the manager of fork i of level l carries copied into it
pub carried_copied : (ws : List ℕ) (l i stamp depth : ℕ) (message : Message) (row part : List ℕ) (at n : ℕ) → fork_place l i + fork_words ≤ length ws
    → row ≡ row_of stamp depth message → part ≡ take n (drop at ws) → at ≡ fork_place l i + carried_place → n ≡ max_levels
    → put_mid carried_place max_levels row part ≡ row_with stamp depth message (carried_at ws l i)
carried_copied ws l i stamp depth message row part at n h e f p q =
    let cut : part ≡ carried_at ws l i = rw (p, q) at f ∙ row_cut ws (fork_place l i + carried_place) max_levels (omega arith) in
    rw (e, cut) (ap (row_with stamp depth message) (append-nil (carried_at ws l i)))

-- a child's row holds its fork
pub child_row : (ws : List ℕ) (l i stamp depth carried : ℕ) (message : Message) → l < max_levels → Fits depth message → carried < 2 ^ 16
    → ChildRow ws l i stamp depth carried message (row_of_child ws l i stamp depth carried message)
unfolding fork_at fork_of_row row_at
child_row ws l i stamp depth carried message h fits small n g m =
    let f : ℕ → ℕ = λ j. get_or ws (fork_place l i + carried_place + j) 0 in
    let own = tab max_levels f in
    let old = row_at ws (fork_place l i) fork_words in
    row_fork stamp depth message fits (set own l carried) n
    ∙ ap (λ seen. record { stamp = stamp; depth = depth; carried = seen; message = message })
    (tab-set n l carried (λ j. get_or (set own l carried) j 0 % 2 ^ 16) (λ j. get_or old (carried_place + j) 0 % 2 ^ 16)
    (ap (λ w. w % 2 ^ 16) (get_or-set_same own l carried 0 (omega (arith, length-tab max_levels f))) ∙ mod-eq_of_lt small)
    (λ j b d.
    ap (λ w. w % 2 ^ 16)
    (get_or-set_other own l j carried 0 d
    ∙ get_d_tab 0 max_levels f j (omega arith)
    ∙ sym (carried_word ws l i j (omega arith)))))

-- a child's fork has a row, with its stamp for the key, also where none is made
pub record Row (ws : List ℕ) (l i stamp depth carried : ℕ) (message : Message) : Type 0 where
  pub row : List ℕ
  pub holds : ChildRow ws l i stamp depth carried message row
  pub wide : length row ≡ fork_words
  pub key : key_of row ≡ stamp

pub row_there : (ws : List ℕ) (l i stamp depth carried : ℕ) (message : Message) → l < max_levels → Fits depth message → carried < 2 ^ 16 → Row ws l i stamp depth carried message
unfolding row_at
row_there ws l i stamp depth carried message h fits small =
    let e : length (set (carried_at ws l i) l carried) ≡ max_levels =
    length-set (carried_at ws l i) l carried ∙ length-tab max_levels (λ j. get_or ws (fork_place l i + carried_place + j) 0) in
    record {
      row = row_of_child ws l i stamp depth carried message;
      holds = child_row ws l i stamp depth carried message h fits small;
      wide = rw e refl;
      key = refl;
    }
