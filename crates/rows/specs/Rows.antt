-- Rows of equal width in a list of words, in order of their first words. Assumes nothing.
-- A decoder of a crate above turns each row into its record. Laws (`proofs/Laws/Rows`): one that keeps the key turns rows put in by key
-- into records put in by key (`decoded`), and rows that rise into records that rise (`decoded_rises`).
use Rattle.std.specs.Prelude.{ℕ, ◌+◌, ◌*◌, ◌≡◌, true, List, get_or}
use Rattle.lists.specs.Lists.{tab, rising_from}

-- the `width` words from `at` on
unfoldable pub row_at : List ℕ → ℕ → ℕ → List ℕ
row_at ws at width = tab width (λ i. get_or ws (at + i) 0)

-- n rows from `base` on, one after the other
unfoldable pub rows_at : List ℕ → ℕ → ℕ → ℕ → List (List ℕ)
rows_at ws base width n = tab n (λ i. row_at ws (base + width * i) width)

-- a row's key: its first word
abbrev pub key_of : List ℕ → ℕ
key_of row = get_or row 0 0

-- the keys never fall
abbrev pub Rising : List (List ℕ) → Type 0
Rising rows = rising_from key_of 0 rows ≡ true
