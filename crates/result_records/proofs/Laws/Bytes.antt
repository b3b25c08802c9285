-- Each kind of result record, by its first four bytes and its groups of four. Assumes nothing.
use Prim.Native.Nat.{ℕ, ◌+◌, ◌*◌, ◌%◌, ◌^◌}
use mathlib.Core.Path.{◌≡◌, refl, ap₂}
use mathlib.Core.List.{List, [], ◌∷◌, ◌++◌}
use native.Mathlib.Omega.{arith}
use lib.ListN.{length, get_or}
use Rattle.lists.specs.Lists.{tab}
use Rattle.session.specs.Value.{Value}
use Rattle.scripts.specs.Ending.{number_of_ending}
use Rattle.scripts.specs.Value.{tag, number_in}
use Rattle.model.specs.Result.{bytes2, bytes4, object_record, history_record, reply_record}
use Rattle.rows.specs.Rows.{row_at}
use Rattle.histories.specs.Limits.{stamp_place, ending_place, writes_place, first_place, last_place, steps_place, row_words}
use Rattle.histories.specs.Histories.{ending_of, history_of_row}

-- four bytes, one by one
bytes_are : (a : List ℕ) → length a ≡ 4 → get_or a 0 0 ∷ get_or a 1 0 ∷ get_or a 2 0 ∷ get_or a 3 0 ∷ [] ≡ a
bytes_are [] h = absurd (omega arith)
bytes_are (x ∷ []) h = absurd (omega arith)
bytes_are (x ∷ y ∷ []) h = absurd (omega arith)
bytes_are (x ∷ y ∷ z ∷ []) h = absurd (omega arith)
bytes_are (x ∷ y ∷ z ∷ w ∷ []) h = refl
bytes_are (x ∷ y ∷ z ∷ w ∷ v ∷ a) h = absurd (omega arith)

-- a record of them
pub record_bytes_lem : (kind second third fourth : ℕ) (a b c : List ℕ) → length a ≡ 4 → length b ≡ 4 → length c ≡ 4
    → kind ∷ second ∷ third ∷ fourth ∷ get_or a 0 0 ∷ get_or a 1 0 ∷ get_or a 2 0 ∷ get_or a 3 0 ∷ get_or b 0 0 ∷ get_or b 1 0 ∷ get_or b 2 0 ∷ get_or b 3 0 ∷ get_or c 0 0 ∷ get_or c 1 0 ∷ get_or c 2 0 ∷ get_or c 3 0 ∷ []
    ≡ kind ∷ second ∷ third ∷ fourth ∷ a ++ b ++ c
record_bytes_lem kind second third fourth a b c ha hb hc =
    ap₂ ◌++◌ (ap₂ (λ x y. kind ∷ second ∷ third ∷ fourth ∷ x ++ y) (bytes_are a ha) (bytes_are b hb)) (bytes_are c hc)

-- kind 5
pub object_bytes : (o level : ℕ) (f : ℕ → Value) (t0 t1 t2 : ℕ) (a b c : List ℕ)
    → t0 ≡ tag (f 0) → t1 ≡ tag (f 1) → t2 ≡ tag (f 2)
    → a ≡ bytes4 (number_in (f 0)) → b ≡ bytes4 (number_in (f 1)) → c ≡ bytes4 (number_in (f 2))
    → 5 ∷ o ∷ level ∷ (t0 + 2 * t1 + 4 * t2) ∷ a ++ b ++ c ≡ object_record o level f
unfolding object_record
object_bytes o level f t0 t1 t2 a b c e0 e1 e2 ea eb ec = rw (e0, e1, e2, ea, eb, ec) refl

-- kind 6, of the history in the row at a place
pub history_bytes_lem : (ws : List ℕ) (at level ending writes : ℕ) (stamp stamps steps : List ℕ)
    → ending ≡ number_of_ending (ending_of (get_or ws (at + ending_place) 0)) → writes ≡ get_or ws (at + writes_place) 0 % 2 ^ 8
    → stamp ≡ bytes4 (get_or ws (at + stamp_place) 0) → stamps ≡ bytes2 (get_or ws (at + first_place) 0) ++ bytes2 (get_or ws (at + last_place) 0) → steps ≡ bytes2 (get_or ws (at + steps_place) 0) ++ bytes2 0
    → 6 ∷ level ∷ ending ∷ writes ∷ stamp ++ stamps ++ steps ≡ history_record level (history_of_row (row_at ws at row_words))
unfolding history_record history_of_row row_at tab
history_bytes_lem ws at level ending writes stamp stamps steps ee ew es et ep = rw (ee, ew, es, et, ep) refl

-- kind 7
pub reply_bytes : (level t : ℕ) (v : Value) (n a b : List ℕ) → t ≡ tag v → n ≡ bytes4 (number_in v) → a ≡ bytes4 0 → b ≡ bytes4 0
    → 7 ∷ level ∷ 0 ∷ t ∷ n ++ a ++ b ≡ reply_record level v
unfolding reply_record
reply_bytes level t v n a b et en ea eb = rw (et, en, ea, eb) refl
