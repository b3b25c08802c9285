-- Histories kept in words: one row, one more history, and those of other levels. Assumes nothing.
use Prim.Native.Nat.{ℕ, zero, suc, ◌+◌, ◌*◌, ◌%◌, ◌^◌, ◌≤◌, ◌<◌}
use mathlib.Core.Path.{◌≡◌, refl, sym, ◌∙◌, ap}
use mathlib.Core.Bool.{false, true≢false}
use mathlib.Core.List.{List, [], ◌∷◌, map}
use native.Mathlib.Nat.{min-eq_left, mod-eq_of_lt}
use native.Mathlib.Decide.{dec_lt}
use native.Mathlib.Omega.{arith}
use lib.ListN.{length, get_or, length-map}
use lib.Seq.{take_all}
use Rattle.session.specs.Limits.{max_levels}
use Rattle.lists.specs.Lists.{tab, rising_from}
use Rattle.scripts.specs.Ending.{number_of_ending, is_running}
use Rattle.scripts.specs.declared.Ending.{Ending}
use Rattle.scripts.specs.declared.Ending.TheVariants.{Running, Finished, OutOfSteps, OutOfWrites}
use Rattle.scripts.specs.declared.Ended.{Ended}
use Rattle.lists.specs.Outside.{Outside}
use Rattle.fields.proofs.Laws.Fields.{value_back}
use Rattle.model.specs.Limits.{max_managers}
use Rattle.lists.specs.Changed.{inserted}
use Rattle.model.specs.History.{History}
use Rattle.lists.proofs.Laws.Each.{inserted-map}
use Rattle.rows.specs.Rows.{row_at, rows_at, key_of}
use Rattle.rows.specs.Change.{Room, Inserted}
use Rattle.lists.proofs.Laws.Outside.{before, behind}
use Rattle.rows.proofs.Laws.Outside.{rows_apart}
use Rattle.rows.proofs.Laws.Rows.{rows_length, decoded_rises}
use Rattle.rows.proofs.Laws.Insert.{inserted-length}
use Rattle.histories.specs.Limits.{row_words, level_words}
use Rattle.histories.specs.Histories.{ending_of, history_of_row, row_of, level_place, history_place, histories_at, ended_in, history_of, HistoriesReady, HistoryRoom, Added}

-- an ending is read back from its number
pub ending_back : (x : Ending) → is_running x ≡ false → ending_of (number_of_ending x) ≡ x
ending_back Running h = absurd (true≢false h)
ending_back Finished h = refl
ending_back OutOfSteps h = refl
ending_back OutOfWrites h = refl

-- the history of an ended manager is read back from its row
row_history : (e : Ended) → is_running e.ending ≡ false → e.writes < 2 ^ 8 → history_of_row (row_of e) ≡ history_of e
unfolding history_of_row
row_history e h w =
    let byte : e.writes % 2 ^ 8 ≡ e.writes = mod-eq_of_lt w in
    rw (ending_back e.ending h, value_back e.reply, byte) refl

-- a history's stamp is its row's key
pub stamp_key : (row : List ℕ) → (history_of_row row).stamp ≡ key_of row
unfolding history_of_row
stamp_key row = refl

-- histories are in stamp order exactly where their rows rise
pub rows_rise : (ws : List ℕ) (l n : ℕ) → rising_from (λ h. h.stamp) 0 (histories_at ws l n) ≡ rising_from key_of 0 (rows_at ws (level_place l) row_words n)
unfolding histories_at
rows_rise ws l n = decoded_rises history_of_row (λ h. h.stamp) stamp_key (rows_at ws (level_place l) row_words n)

-- a map of a `tab`
pub map-tab : {A B : Type 0} (f : A → B) (n : ℕ) (g : ℕ → A) → map f (tab n g) ≡ tab n (λ i. f (g i))
unfolding tab
map-tab f zero g = refl
map-tab f (suc n) g = ap (λ t. f (g zero) ∷ t) (map-tab f n (λ i. g (suc i)))

-- histories by number
abbrev pub history_at : List ℕ → ℕ → ℕ → History
history_at ws l i = history_of_row (row_at ws (history_place l i) row_words)

pub histories_tab : (ws : List ℕ) (l n : ℕ) → histories_at ws l n ≡ tab n (history_at ws l)
unfolding histories_at rows_at
histories_tab ws l n = map-tab history_of_row n (λ i. row_at ws (history_place l i) row_words)

-- as many as are asked for, and at first none
pub histories_none : (ws : List ℕ) (l : ℕ) → histories_at ws l 0 ≡ []
unfolding histories_at rows_at tab
histories_none ws l = refl

pub histories_length : (ws : List ℕ) (l n : ℕ) → length (histories_at ws l n) ≡ n
unfolding histories_at
histories_length ws l n = length-map (rows_at ws (level_place l) row_words n) history_of_row ∙ rows_length ws (level_place l) row_words n

pub ended_few : (ws counts : List ℕ) → HistoriesReady ws counts → (l : ℕ) → l < max_levels → length (ended_in ws counts l) ≤ max_managers
ended_few ws counts h l m = omega (arith, histories_length ws l (get_or counts l 0), h.counted l m)

-- a change within the words of one level leaves the histories of another as they were
pub histories_apart : (ws ws' : List ℕ) (l e : ℕ) → e ≤ level_place l + level_words → Outside ws ws' (level_place l) e
    → (l' n : ℕ) → (l' ≡ l → ⊥) → n ≤ max_managers → histories_at ws' l' n ≡ histories_at ws l' n
unfolding histories_at
histories_apart ws ws' l e h o l' n d m =
    ap (map history_of_row) (rows_apart ws ws' (level_place l) e o (level_place l') row_words n (elim (dec_lt l' l) [
      | yes g ↦ before (omega arith)
      | no g ↦ behind (omega (arith, d))
    ]))

-- where the histories of a level start
pub first_place_lem : (l : ℕ) → history_place l 0 ≡ level_place l
first_place_lem l = omega arith

-- there is room for the row of one more
pub room_for : (ws : List ℕ) (l count : ℕ) (e : Ended) → HistoryRoom ws l count e → Room ws (level_place l) count max_managers (row_of e)
room_for ws l count e h =
    record {
      wide = omega arith;
      fits = omega (arith, h.room, h.level);
      kept = omega (arith, h.more);
      rises = sym (rows_rise ws l count) ∙ h.rises;
    }

-- a row put among the rows of a level is a history put among its histories
pub added : (ws ws' : List ℕ) (l count n : ℕ) (e : Ended) → HistoryRoom ws l count e → e.writes < 2 ^ 8
    → Inserted ws ws' (level_place l) count max_managers (row_of e) n → Added ws ws' l count e
unfolding histories_at
added ws ws' l count n e h w i =
    let row = row_of e in
    let more : n ≡ count + 1 = i.number ∙ min-eq_left (omega (arith, h.more)) in
    let i' : Inserted ws ws' (level_place l) count max_managers row (count + 1) = rw more at i in
    let old = rows_at ws (level_place l) row_words count in
    let here : rows_at ws' (level_place l) row_words (count + 1) ≡ inserted key_of row old =
    i'.rows
    ∙ take_all max_managers (inserted key_of row old) (omega (arith, h.more, inserted-length key_of row old, rows_length ws (level_place l) row_words count)) in
    let outside : Outside ws ws' (level_place l) (level_place l + row_words * (count + 1)) = i'.outside in
    record {
      rows = here;
      histories =
          ap (map history_of_row) here
          ∙ inserted-map key_of (λ h. h.stamp) history_of_row stamp_key row old
          ∙ ap (λ x. inserted (λ h. h.stamp) x (map history_of_row old)) (row_history e h.ended w);
      rises = rows_rise ws' l (count + 1) ∙ i'.rises;
      others = histories_apart ws ws' l (level_place l + row_words * (count + 1)) (omega (arith, h.more)) outside;
      outside = outside;
    }
