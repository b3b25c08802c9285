-- The verdict is that of the first question that says no; a session is accepted exactly where all nine say yes. Assumes nothing.
use mathlib.Core.Path.{◌≡◌, refl, sym, ◌∙◌}
use mathlib.Core.Bool.{Bool, true, false, cond}
use mathlib.Core.List.{List}
use Prim.Native.Nat.{ℕ, ◌<◌}
use native.Mathlib.Omega.{arith}
use Rattle.std.specs.Prelude.{Ok, Err}
use Rattle.session.specs.Questions.{question1, question2, question3, question4, question5, question17, question6, question7, question8, first_no, verdict_of, number_of_verdict, Verdict, Accepted}
use Rattle.session.specs.declared.Question.TheVariants.{Length, Kinds, Numbering, NotOrdered, NoJoin, NoMeet, Object, Script, Root}

-- what acceptance gives
pub record AllYes (s : List ℕ) : Type 0 where
  pub one : question1 s ≡ true
  pub two : question2 s ≡ true
  pub three : question3 s ≡ true
  pub four : question4 s ≡ true
  pub five : question5 s ≡ true
  pub seventeen : question17 s ≡ true
  pub six : question6 s ≡ true
  pub seven : question7 s ≡ true
  pub eight : question8 s ≡ true

-- the verdict as a chain of branches
pub verdict_chain : (s : List ℕ) →
    verdict_of s
    ≡ cond (question1 s)
    (cond (question2 s)
    (cond (question3 s)
    (cond (question4 s)
    (cond (question5 s)
    (cond (question17 s)
    (cond (question6 s)
    (cond (question7 s)
    (cond (question8 s) Accepted (Err Root)) (Err Script)) (Err Object)) (Err NoMeet)) (Err NoJoin)) (Err NotOrdered)) (Err Numbering)) (Err Kinds)) (Err Length)
unfolding verdict_of first_no
verdict_chain s = refl

pub all_yes : (s : List ℕ) → AllYes s → verdict_of s ≡ Accepted
all_yes s y = verdict_chain s ∙ rw (y.one, y.two, y.three, y.four, y.five, y.seventeen, y.six, y.seven, y.eight)

-- a branch that accepts, and whose other way refuses, took its first way
pub taken : (b : Bool) (v w : Verdict) → 0 < number_of_verdict w → cond b v w ≡ Accepted → (b ≡ true) × (v ≡ Accepted)
taken true v w h e = (refl, e)
taken false v w h e = let z : 0 < number_of_verdict Accepted = rw e at h in absurd (omega arith)

pub accepted : (s : List ℕ) → verdict_of s ≡ Accepted → AllYes s
accepted s e =
    let e1 = taken (question1 s) _ (Err Length) (omega arith) (sym (verdict_chain s) ∙ e) in
    let e2 = taken (question2 s) _ (Err Kinds) (omega arith) e1.1 in
    let e3 = taken (question3 s) _ (Err Numbering) (omega arith) e2.1 in
    let e4 = taken (question4 s) _ (Err NotOrdered) (omega arith) e3.1 in
    let e5 = taken (question5 s) _ (Err NoJoin) (omega arith) e4.1 in
    let e17 = taken (question17 s) _ (Err NoMeet) (omega arith) e5.1 in
    let e6 = taken (question6 s) _ (Err Object) (omega arith) e17.1 in
    let e7 = taken (question7 s) _ (Err Script) (omega arith) e6.1 in
    let e8 = taken (question8 s) _ (Err Root) (omega arith) e7.1 in
    record {
      one = e1.0;
      two = e2.0;
      three = e3.0;
      four = e4.0;
      five = e5.0;
      seventeen = e17.0;
      six = e6.0;
      seven = e7.0;
      eight = e8.0;
    }

-- only the verdict of an accepted session has number 0
pub number_accepted : (v : Verdict) → number_of_verdict v ≡ 0 → v ≡ Accepted
number_accepted (Ok tt) e = refl
number_accepted (Err Length) e = absurd (omega (arith, e))
number_accepted (Err Kinds) e = absurd (omega (arith, e))
number_accepted (Err Numbering) e = absurd (omega (arith, e))
number_accepted (Err NotOrdered) e = absurd (omega (arith, e))
number_accepted (Err NoJoin) e = absurd (omega (arith, e))
number_accepted (Err NoMeet) e = absurd (omega (arith, e))
number_accepted (Err Object) e = absurd (omega (arith, e))
number_accepted (Err Script) e = absurd (omega (arith, e))
number_accepted (Err Root) e = absurd (omega (arith, e))
