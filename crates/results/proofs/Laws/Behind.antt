-- Bytes placed at the start of the rest of a buffer, `&mut res[m..]`, are placed behind those before it. Assumes nothing.
use Prim.Native.Nat.{ℕ, ◌+◌, ◌-◌}
use mathlib.Core.Path.{◌≡◌, sym, ◌∙◌, ap}
use mathlib.Core.List.{List, ◌++◌, append-nil, append_assoc}
use native.Mathlib.Omega.{arith}
use lib.ListN.{length, take, drop, length-drop}
use lib.Seq.{drop-drop, take_all}
use borrow.Rule.Slice.PartMut.{mid_of, put_mid, mid_len}
use Rattle.std.proofs.lemmas.List.{drop_all}
use Rattle.lists.specs.Lists.{tab, joined}
use Rattle.lists.specs.Placed.{Placed}
use Rattle.lists.proofs.Laws.Placed.{placed-length, groups_more}

-- `first` stands at the buffer's start
module _ (b b1 first : List ℕ) (m : ℕ) (p : Placed first 0 b b1 m) where
  -- how much room is left behind it
  pub rest_length : length (mid_of m (length b1 - m) b1) ≡ length b - m
  rest_length =
      mid_len m (length b1) b1 (omega arith)
      ∙ ap (λ n. n - m) (placed-length b b1 first 0 m p)

  -- what is placed at the start of the rest
  module _ (rest bytes : List ℕ) (n : ℕ) (q : Placed bytes 0 (mid_of m (length b1 - m) b1) rest n) where
    rest_whole : mid_of m (length b1 - m) b1 ≡ drop m b1
    rest_whole = take_all (length b1 - m) (drop m b1) (omega (arith, length-drop m b1))

    rest_buffer : rest ++ drop (length b1 - m) (drop m b1) ≡ bytes ++ drop (m + n) b1
    rest_buffer =
        ap (λ l. rest ++ l) (drop_all (length b1 - m) (drop m b1) (omega (arith, length-drop m b1)))
        ∙ append-nil rest
        ∙ q.buffer
        ∙ ap (λ l. bytes ++ drop n l) rest_whole
        ∙ ap (λ l. bytes ++ l) (drop-drop n m b1)

    pub placed_behind : Placed bytes m b1 (put_mid m (length b1 - m) b1 rest) (m + n)
    placed_behind =
        record {
          buffer = ap (λ l. take m b1 ++ l) rest_buffer ∙ sym (append_assoc (take m b1) bytes (drop (m + n) b1));
          ends = omega (arith, q.ends);
          fits = omega (arith, p.fits, q.fits, rest_length, placed-length b b1 first 0 m p);
        }

-- groups placed one a turn
pub groups_behind : (g : ℕ → List ℕ) (i m n : ℕ) (b b1 rest : List ℕ) → Placed (joined (tab i g)) 0 b b1 m → Placed (g i) 0 (mid_of m (length b1 - m) b1) rest n
    → Placed (joined (tab (i + 1) g)) 0 b (put_mid m (length b1 - m) b1 rest) (m + n)
groups_behind g i m n b b1 rest p q =
    groups_more g i 0 m (m + n) b b1 (put_mid m (length b1 - m) b1 rest) p (placed_behind b b1 (joined (tab i g)) m p rest (g i) n q)
