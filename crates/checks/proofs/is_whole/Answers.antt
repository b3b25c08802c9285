use borrow.Author.Tests.{le-leb, lt-leb, eq-eqb, ne_eqb}
use Rattle.session.specs.Questions.{question1}
use Rattle.checks.proofs.is_whole.Goals as goal

pub returns-then-n-ne0 : goal.returns-then-n-ne0
unfolding question1
returns-then-n-ne0 c = simp (ne_eqb _ _ c.if-n-ne0.true)

pub returns-then-n-lt1 : goal.returns-then-n-lt1
unfolding question1
returns-then-n-lt1 c = simp (eq-eqb _ _ c.if-n-ne0.false, lt-leb _ _ c.if-n-lt1.true)

pub returns : goal.returns
unfolding question1
returns c = simp (eq-eqb _ _ c.if-n-ne0.false, le-leb _ _ c.if-n-lt1.false)
