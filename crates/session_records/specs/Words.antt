-- A record as two 64-bit words, and bytes of it chosen by masks of these. Assumes nothing.
-- Law (`proofs/Laws/Words` `words_zero`), in the words of document 02: "For any choice of a record's 16 bytes, its two words, with the other
-- bytes taken as 0, are both 0 exactly when each chosen byte is 0".
use Rattle.std.specs.Prelude.{ℕ, zero, suc, ◌+◌, ◌-◌, ◌*◌, ◌^◌, ◌≡◌, Bool, cond, replicate}
use Rattle.session.specs.Limits.{record_bytes}
use Rattle.lists.specs.Lists.{tab}
use Rattle.session.specs.Record.{Record, byte_of, zero_at}

-- "Numbers are little-endian": so many bytes from place k on, joined
unfoldable pub joined_from : Record → ℕ → ℕ → ℕ
joined_from rec k zero = 0
joined_from rec k (suc n) = joined_from rec (suc k) n * 2 ^ 8 + byte_of rec k

-- "64-bit words": how many bytes one has, and where the two of a record start
abbrev pub long_bytes : ℕ
long_bytes = 8

abbrev pub first_long : ℕ
first_long = 0

abbrev pub second_long : ℕ
second_long = 8

-- the 64-bit word from place k on
abbrev pub long_of : Record → ℕ → ℕ
long_of rec k = joined_from rec k long_bytes

-- a record "with the other bytes taken as 0"
unfoldable pub kept : (ℕ → Bool) → Record → Record
kept chosen rec = tab record_bytes (λ k. cond (chosen k) (byte_of rec k) 0)

-- a choice's mask of a word: all ones in each chosen byte
abbrev pub ones : Record
ones = replicate record_bytes (2 ^ 8 - 1)

abbrev pub mask_for : (ℕ → Bool) → ℕ → ℕ
mask_for chosen k = long_of (kept chosen ones) k

-- two numbers are the masks of a choice
pub record Masks (chosen : ℕ → Bool) (first second : ℕ) : Type 0 where
  pub first_is : first ≡ mask_for chosen first_long
  pub second_is : second ≡ mask_for chosen second_long

-- x says whether the bytes that two masks choose are 0, for whatever choice they are the masks of
abbrev pub SaysUnused : Record → ℕ → ℕ → Bool → Type 0
SaysUnused rec first second x = (chosen : ℕ → Bool) → Masks chosen first second → x ≡ zero_at chosen rec
