-- What an exported entry hands back: numbers of the definition's answer. Assumes nothing.
use Rattle.std.specs.Prelude.{ℕ, ◌≡◌, cond, List, ◌∷◌, leb, length, drop}
use Rattle.calls.specs.Entries.{Answer, Answers}
use Rattle.calls.specs.Page.{Paged}

-- two numbers at the front of a slice, where it has room for them
abbrev pub reported : ℕ → ℕ → List ℕ → List ℕ
reported a b slice = cond (leb 2 (length slice)) (a ∷ b ∷ drop 2 slice) slice

-- a run: its number, what the lent work slice and result buffer hold afterwards, and its place and count at the front of a lent slice
pub record Call (of : Answer) (work buffer before after : List ℕ) (number : ℕ) : Type 0 where
  pub place : ℕ
  pub count : ℕ
  pub answers : Answers of number place count work buffer
  pub both : after ≡ reported place count before

-- three numbers at the front of a slice, where it has room for them
abbrev pub reported_page : ℕ → ℕ → ℕ → List ℕ → List ℕ
reported_page a b c slice = cond (leb 3 (length slice)) (a ∷ b ∷ c ∷ drop 3 slice) slice

-- the page entry: its number, what the result buffer and the page buffer hold afterwards, and its place and both counts at the front of a lent
-- slice
pub record PageCall (of : Paged) (buffer page before after : List ℕ) (number : ℕ) : Type 0 where
  pub place : ℕ
  pub count : ℕ
  pub page_count : ℕ
  pub answers : record { number = number; place = place; count = count; page_count = page_count; buffer = buffer; page = page } ≡ of
  pub told : after ≡ reported_page place count page_count before
