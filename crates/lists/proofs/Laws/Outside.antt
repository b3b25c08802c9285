-- Changes within a range of words: none, one after the other, within a wider range, and a store; and what stands outside the range.
-- Assumes nothing.
use Prim.Native.Nat.{ℕ, ◌+◌, ◌-◌, ◌≤◌, ◌<◌}
use mathlib.Core.Path.{◌≡◌, refl, ◌∙◌, ap}
use mathlib.Core.List.{List}
use native.Mathlib.Omega.{arith}
use lib.ListN.{get_or, set, drop, length-set, length-drop}
use lib.Seq.{ext_get_or, get_or-drop, get_or-set_other}
use Rattle.lists.specs.Outside.{Outside}

pub outside_none : (ws : List ℕ) (a e : ℕ) → Outside ws ws a e
outside_none ws a e = record { length_same = refl; below = λ k h. refl; above = λ k h. refl }

pub outside_wider : (ws ws' : List ℕ) (a e a' e' : ℕ) → a' ≤ a → e ≤ e' → Outside ws ws' a e → Outside ws ws' a' e'
outside_wider ws ws' a e a' e' l m o =
    record {
      length_same = o.length_same;
      below = λ k h. o.below k (omega arith);
      above = λ k h. o.above k (omega arith);
    }

pub outside_then : (ws ws' ws'' : List ℕ) (a e : ℕ) → Outside ws ws' a e → Outside ws' ws'' a e → Outside ws ws'' a e
outside_then ws ws' ws'' a e o p =
    record {
      length_same = p.length_same ∙ o.length_same;
      below = λ k h. p.below k h ∙ o.below k h;
      above = λ k h. p.above k h ∙ o.above k h;
    }

-- a store within the range
pub outside_set : (ws ws' : List ℕ) (a e k v : ℕ) → a ≤ k → k < e → Outside ws ws' a e → Outside ws (set ws' k v) a e
outside_set ws ws' a e k v l m o =
    record {
      length_same = length-set ws' k v ∙ o.length_same;
      below = λ j h. get_or-set_other ws' k j v 0 (omega arith) ∙ o.below j h;
      above = λ j h. get_or-set_other ws' k j v 0 (omega arith) ∙ o.above j h;
    }

-- a range that another does not meet
pub data Apart (a e b f : ℕ) : Type 0 where
  before : f ≤ a → Apart a e b f
  behind : e ≤ b → Apart a e b f

module _ (ws ws' : List ℕ) (a e : ℕ) (o : Outside ws ws' a e) where
  pub word_apart : (b f : ℕ) → Apart a e b f → (k : ℕ) → b ≤ k → k < f → get_or ws' k 0 ≡ get_or ws k 0
  word_apart b f (before h) k l m = o.below k (omega arith)
  word_apart b f (behind h) k l m = o.above k (omega arith)

-- what follows the range
pub outside_rest : {v w : List ℕ} {a e : ℕ} (n : ℕ) → e ≤ n → Outside v w a e → drop n w ≡ drop n v
outside_rest {v} {w} n h p =
    ext_get_or 0 (drop n w) (drop n v)
    (length-drop n w ∙ ap (λ m. m - n) p.length_same ∙ rw length-drop)
    (λ i l. rw (get_or-drop n w i 0, get_or-drop n v i 0) (p.above (n + i) (omega arith)))
