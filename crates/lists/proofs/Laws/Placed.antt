-- Bytes placed in a buffer: none, one record, and one group after another. Assumes nothing.
use Prim.Native.Nat.{ℕ, ◌+◌, ◌-◌, ◌≤◌}
use mathlib.Core.Path.{◌≡◌, refl, sym, ◌∙◌, ap, ap₂}
use mathlib.Core.List.{List, [], ◌∷◌, ◌++◌, append-nil, append_assoc}
use native.Mathlib.Nat.{add-zero, zero-add}
use native.Mathlib.Numerals.{add-one}
use native.Mathlib.Omega.{arith}
use lib.ListN.{length, take, drop, length-append, length-drop, take-append-drop}
use lib.Seq.{take_at, drop_at, drop-drop, length-take-le, take_all, paste}
use Rattle.lists.specs.Lists.{tab, joined}
use Rattle.lists.proofs.Laws.Fill.{tab_more}
use Rattle.lists.specs.Placed.{Placed, Written}

-- nothing placed
pub placed_none : (at : ℕ) (b : List ℕ) → at ≤ length b → Placed [] at b b at
placed_none at b h =
    record {
      buffer = sym (ap (λ l. l ++ drop at b) (append-nil (take at b)) ∙ take-append-drop at b);
      ends = sym (add-zero at);
      fits = h;
    }

-- all of a list pasted
pub placed_paste : (bytes : List ℕ) (at n : ℕ) (b b' : List ℕ) → length bytes ≡ n → at + n ≤ length b → b' ≡ paste b at bytes n → Placed bytes at b b' (at + n)
placed_paste bytes at n b b' e h p =
    record {
      buffer = p ∙ ap (λ l. take at b ++ l ++ drop (at + n) b) (take_all n bytes (omega arith));
      ends = ap (λ k. at + k) (sym e);
      fits = h;
    }

module _ (b b' : List ℕ) (bytes : List ℕ) (at m : ℕ) (p : Placed bytes at b b' m) where
  -- what stands before, with what was placed, and what stands behind
  front_length : length (take at b ++ bytes) ≡ m
  front_length =
      length-append (take at b) bytes
      ∙ ap (λ k. k + length bytes) (length-take-le at b (omega (arith, p.ends, p.fits)))
      ∙ sym p.ends

  pub placed-length : length b' ≡ length b
  placed-length =
      ap length p.buffer
      ∙ length-append (take at b ++ bytes) (drop m b)
      ∙ ap₂ ◌+◌ front_length (length-drop m b)
      ∙ omega (arith, p.fits)

  placed_front : take m b' ≡ take at b ++ bytes
  placed_front = ap (take m) p.buffer ∙ take_at (take at b ++ bytes) (drop m b) m front_length

  placed_rest : (n : ℕ) → m ≤ n → drop n b' ≡ drop n b
  placed_rest n h =
      let z : n ≡ m + (n - m) = omega arith in
      ap (λ k. drop k b') z
      ∙ sym (drop-drop (n - m) m b')
      ∙ ap (drop (n - m)) (ap (drop m) p.buffer ∙ drop_at (take at b ++ bytes) (drop m b) m front_length)
      ∙ drop-drop (n - m) m b
      ∙ ap (λ k. drop k b) (sym z)

  -- more placed behind it
  pub placed_then : (b'' more : List ℕ) (n : ℕ) → Placed more m b' b'' n → Placed (bytes ++ more) at b b'' n
  placed_then b'' more n q =
      record {
        buffer =
            q.buffer
            ∙ ap₂ (λ l r. l ++ more ++ r) placed_front (placed_rest n (omega (arith, q.ends)))
            ∙ ap (λ l. l ++ drop n b) (append_assoc (take at b) bytes more);
        ends = q.ends ∙ omega (arith, p.ends, length-append bytes more);
        fits = omega (arith, q.fits, placed-length);
      }

-- the lists one after the other, one more, and two such
pub joined-append : (xs ys : List (List ℕ)) → joined (xs ++ ys) ≡ joined xs ++ joined ys
unfolding joined
joined-append [] ys = refl
joined-append (x ∷ xs) ys = ap (λ l. x ++ l) (joined-append xs ys) ∙ sym (append_assoc x (joined xs) (joined ys))

joined_one : (x : List ℕ) → joined (x ∷ []) ≡ x
unfolding joined
joined_one x = append-nil x

pub joined_more : (i : ℕ) (g : ℕ → List ℕ) → joined (tab (i + 1) g) ≡ joined (tab i g) ++ g i
joined_more i g =
    ap (λ n. joined (tab n g)) (add-one i)
    ∙ ap joined (tab_more i g)
    ∙ joined-append (tab i g) (g i ∷ [])
    ∙ ap (λ l. joined (tab i g) ++ l) (joined_one (g i))

-- groups placed one a turn
pub groups_none : (g : ℕ → List ℕ) (at : ℕ) (b : List ℕ) → at ≤ length b → Placed (joined (tab 0 g)) at b b at
unfolding joined tab
groups_none g at b h = placed_none at b h

pub groups_more : (g : ℕ → List ℕ) (i at m n : ℕ) (b b' b'' : List ℕ) → Placed (joined (tab i g)) at b b' m → Placed (g i) m b' b'' n
    → Placed (joined (tab (i + 1) g)) at b b'' n
groups_more g i at m n b b' b'' p q = rw (joined_more i g) (placed_then b b' (joined (tab i g)) at m p b'' (g i) n q)

-- what is placed from 0 on is written over the buffer
pub placed-written : (bytes b b' : List ℕ) (n : ℕ) → Placed bytes 0 b b' n → Written bytes b b' n
placed-written bytes b b' n p =
    let e : n ≡ length bytes = p.ends ∙ zero-add (length bytes) in
    record { number = e; buffer = p.buffer ∙ ap (λ k. bytes ++ drop k b) e }
