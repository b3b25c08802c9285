-- What question 17 changes, as a statement: fewer sessions are accepted. Its proof is in proofs/Fewer.antt. Assumes nothing.
use Rattle.std.specs.Prelude.{◌≡◌, List, ◌++◌, ℕ, Err, length, take, drop}
use Rattle.dominance.specs.Meet.{Unmet}
use Rattle.dominance.specs.Table.{dominates}
use Rattle.session.specs.Parts.{masks_of}
use Rattle.session.specs.Questions.{asked, first_no, verdict_of, Verdict, Accepted}
use Rattle.session.specs.declared.Question.TheVariants.{NoMeet}

-- the verdict by the questions of document 01 alone: 17, the sixth that is put, is left out
unfoldable pub verdict_by01 : List ℕ → Verdict
verdict_by01 s = first_no (take 5 (asked s) ++ drop 6 (asked s))

-- What is accepted was accepted by document 01's questions; what these accept and is refused is refused by 17, and has a pair of levels
-- without a greatest lower bound
pub record FewerAccepted : Type 0 where
  pub were_accepted : (s : List ℕ) → verdict_of s ≡ Accepted → verdict_by01 s ≡ Accepted
  pub refused_by_17 : (s : List ℕ) → verdict_by01 s ≡ Accepted → (verdict_of s ≡ Accepted → ⊥) → verdict_of s ≡ Err NoMeet
  pub unmet_pair : (s : List ℕ) → verdict_of s ≡ Err NoMeet → Unmet (length (masks_of s)) (dominates (masks_of s))
