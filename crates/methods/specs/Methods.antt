-- How question 7 is put method by method: what the contracts of this crate cite. No question and no meaning rests on these. Assumes nothing.
use Rattle.std.specs.Prelude.{ℕ, suc, ◌+◌, ◌-◌, ◌<◌, ◌≡◌, Bool, ◌&&◌, not, List, eqb, ltb}
use Rattle.lists.specs.Range.{first}
use Rattle.session.specs.Limits.{names}
use Rattle.session.specs.Record.{Record, record_at, zero_at, object_of, name_of, step_of}
use Rattle.session.specs.Parts.{key_of}
use Rattle.session.specs.Questions.{operands_fit, unused_bytes}

-- the first record after r and before e that is of another method than record r, or e
unfoldable pub method_end : List ℕ → ℕ → ℕ → ℕ
method_end s r e =
    suc r + first (e - suc r) (λ i. not (eqb (key_of (record_at s (suc r + i))) (key_of (record_at s r))))

-- question 7 of a step, in two parts: what it shares with the steps of its method, and the rest
abbrev pub is_named : ℕ → Record → Bool
is_named objects rec = ltb (object_of rec) objects && ltb (name_of rec) names

unfoldable pub is_fit : ℕ → ℕ → ℕ → Record → Bool
is_fit levels objects count rec =
    let step = step_of rec in
    operands_fit levels objects count step && zero_at (unused_bytes step) rec

-- so many records from one on are some steps of one method
pub record OneMethod (s : List ℕ) (start count : ℕ) : Type 0 where
  pub some : 0 < count
  pub same : (i : ℕ) → i < count → key_of (record_at s (start + i)) ≡ key_of (record_at s start)
