-- What a check leaves: the verdict, and the level table where questions 1 to 3 say yes. Assumes nothing.
use Prim.Native.Nat.{ℕ}
use mathlib.Core.Path.{◌≡◌, refl, sym, ◌∙◌, ap, ap₂}
use mathlib.Core.Bool.{true, false}
use mathlib.Core.List.{List, [], ◌++◌}
use lib.ListN.{length, take, drop}
use lib.Seq.{take_at}
use Rattle.dominance.specs.Table as table
use Rattle.dominance.specs.declared.Fault.{Fault}
use Rattle.dominance.specs.declared.Fault.TheVariants as fault
use Rattle.dominance.proofs.Laws.Table.{told}
use Rattle.lists.specs.Lists.{tab}
use Rattle.session.specs.Record.{record_at, mask_of}
use Rattle.session.specs.Parts.{level_count, masks_of}
use Rattle.session.specs.Questions.{kinds_rise, question1, question2, question3, asked, first_no, verdict_of, Verdict, Accepted}
use Rattle.checks.specs.Checking.{table_made, question_of, counted, Checks}
use Rattle.std.specs.Prelude.{Ok, Err, MatchResult}
use Rattle.std.specs.Result.{IsErrAnd}
use Rattle.session.specs.declared.Question.{Question}
use Rattle.checks.specs.declared.Refused.{Refused}
use Rattle.session.specs.declared.Question.TheVariants.{Length, Kinds, Numbering}
use Rattle.session.proofs.Laws.Numbering.{masks_are}
use Rattle.session.proofs.Laws.Verdict.{accepted}
use Rattle.session.proofs.Laws.Parts.{masks_count}

-- a list to whose front the masks of the first records, which are levels, are written: it is the table and what was there
module _ (s before after : List ℕ) (levels : ℕ) (k : kinds_rise s ≡ true) (n : levels ≡ level_count s)
    (e : after ≡ tab levels (λ i. mask_of (record_at s i)) ++ drop levels before) where
  filled : after ≡ masks_of s ++ drop (level_count s) before
  filled = e ∙ ap (λ m. tab m (λ i. mask_of (record_at s i)) ++ drop m before) n ∙ ap (λ l. l ++ drop (level_count s) before) (masks_are s k)

  of_table : table.verdict_of (masks_of s) ≡ table.verdict_of (take levels after)
  of_table =
      ap table.verdict_of (sym (ap (take levels) filled ∙ take_at (masks_of s) (drop (level_count s) before) levels (masks_count s ∙ sym n)))

  -- questions 4, 5 and 17, put of that front
  pub table_passed : table.verdict_of (take levels after) ≡ table.Passed → (v : Verdict) → v ≡ first_no (drop 6 (asked s))
      → (v ≡ first_no (drop 3 (asked s))) × (after ≡ masks_of s ++ drop (level_count s) before)
  unfolding first_no
  table_passed e v i = let (o, j, m) = told (masks_of s) table.Passed (of_table ∙ e) in (rw (o, j, m) i, filled)

  refuses : (f : Fault) → table.verdict_of (masks_of s) ≡ Err f → Err (question_of f) ≡ first_no (drop 3 (asked s))
  unfolding first_no
  refuses fault.NotOrdered e = rw (told (masks_of s) (Err fault.NotOrdered) e)
  refuses fault.NoJoin e = let (o, j) = told (masks_of s) (Err fault.NoJoin) e in rw (o, j)
  refuses fault.NoMeet e = let (o, j, m) = told (masks_of s) (Err fault.NoMeet) e in rw (o, j, m)

  -- and told as questions of the session
  pub table_refused : (f : Fault) → table.verdict_of (take levels after) ≡ Err f
      → (Err (question_of f) ≡ first_no (drop 3 (asked s))) × (after ≡ masks_of s ++ drop (level_count s) before)
  table_refused f e = (refuses f (of_table ∙ e), filled)

-- a verdict on a table, told as one on a session
abbrev pub Told : table.Verdict → Verdict → Type 0
Told v r = MatchResult v (λ u. r ≡ Ok u) (λ f. IsErrAnd r (λ q. q ≡ question_of f))

pub told_yes : (v : table.Verdict) (r : Verdict) → Told v r → r ≡ Accepted → v ≡ table.Passed
told_yes (Ok tt) r t e = refl
told_yes (Err f) (Ok u) t e = absurd t
told_yes (Err f) (Err q) t e = cc

pub told_no : (v : table.Verdict) (r : Verdict) (q : Question) → Told v r → r ≡ Err q → (f : Fault) × (v ≡ Err f) × (q ≡ question_of f)
told_no (Ok u) (Ok w) q t e = cc
told_no (Ok u) (Err d) q t e = cc
told_no (Err f) (Ok u) q t e = absurd t
told_no (Err f) (Err d) q t e = (f, refl, cc)

-- no table is made where one of questions 1 to 3 says no, which then refuses
module _ (s masks : List ℕ) where
  unmade : (q : Question) (r : Refused) → verdict_of s ≡ Err q → table_made s ≡ [] → (r.question ≡ q) × (r.levels ≡ 0) → Checks s masks masks (Err r)
  unmade q r i t e =
      let is : r ≡ record { question = q; levels = 0 } = λ k. record { question = e.0 k; levels = e.1 k } in
      record { verdict = rw (i, t) (ap Err is); table = rw t refl }

  pub not_whole : question1 s ≡ false → (r : Refused) → (r.question ≡ Length) × (r.levels ≡ 0) → Checks s masks masks (Err r)
  unfolding table_made verdict_of first_no
  not_whole q r = unmade Length r (rw q) (rw q)

  pub not_kinds : question1 s ≡ true → question2 s ≡ false → (r : Refused) → (r.question ≡ Kinds) × (r.levels ≡ 0) → Checks s masks masks (Err r)
  unfolding table_made verdict_of first_no
  not_kinds p q r = unmade Kinds r (rw (p, q)) (rw (p, q))

  pub not_numbered : question1 s ≡ true → question2 s ≡ true → question3 s ≡ false → (r : Refused) → (r.question ≡ Numbering) × (r.levels ≡ 0) → Checks s masks masks (Err r)
  unfolding table_made verdict_of first_no
  not_numbered o p q r = unmade Numbering r (rw (o, p, q)) (rw (o, p, q))

-- it is made where they say yes
module _ (s : List ℕ) (o : question1 s ≡ true) (p : question2 s ≡ true) (q : question3 s ≡ true) where
  made : table_made s ≡ masks_of s
  unfolding table_made
  made = rw (o, p, q) refl

  made_count : length (table_made s) ≡ level_count s
  made_count = ap length made ∙ masks_count s

  pub checked : (before after : List ℕ) (v : Verdict) (levels : ℕ)
      → v ≡ first_no (drop 3 (asked s)) → levels ≡ level_count s → after ≡ masks_of s ++ drop (level_count s) before
      → Checks s before after (counted levels v)
  unfolding verdict_of first_no
  checked before after v levels e n t =
      record {
        verdict = ap₂ counted (n ∙ sym made_count) (rw (o, p, q) e);
        table = t ∙ sym (ap₂ (λ l m. l ++ drop m before) made made_count);
      }

-- so the table of an accepted session is its level table
module _ (s : List ℕ) (a : verdict_of s ≡ Accepted) where
  pub accepted_table : table_made s ≡ masks_of s
  accepted_table = let y = accepted s a in made s y.one y.two y.three

  pub accepted_count : length (table_made s) ≡ level_count s
  accepted_count = let y = accepted s a in made_count s y.one y.two y.three
