-- Question 17 refuses some sessions that document 01's questions accept, and accepts no other. Assumes nothing.
use Prim.Native.Nat.{ℕ}
use Rattle.std.specs.Prelude.{Err}
use mathlib.Core.Path.{◌≡◌, refl, sym, ◌∙◌}
use mathlib.Core.Bool.{Bool, true, false, cond}
use mathlib.Core.List.{List}
use native.Mathlib.Omega.{arith}
use lib.ListN.{length}
use Rattle.dominance.specs.Meet.{reversed, Unmet}
use Rattle.dominance.specs.Table.{dominates}
use Rattle.dominance.proofs.Laws.Join.{unjoined}
use Rattle.session.specs.Parts.{masks_of}
use Rattle.session.specs.Questions.{question1, question2, question3, question4, question5, question17, question6, question7, question8, first_no, verdict_of, Verdict, Accepted}
use Rattle.session.specs.Fewer.{verdict_by01, FewerAccepted}
use Rattle.session.specs.declared.Question.TheVariants.{Length, Kinds, Numbering, NotOrdered, NoJoin, NoMeet, Object, Script, Root}
use Rattle.session.proofs.Laws.Verdict.{taken, accepted}

-- questions 1 to 5, and what is said where they all say yes
abbrev front : List ℕ → Verdict → Verdict
front s v =
    cond (question1 s)
    (cond (question2 s)
    (cond (question3 s)
    (cond (question4 s)
    (cond (question5 s) v (Err NoJoin)) (Err NotOrdered)) (Err Numbering)) (Err Kinds)) (Err Length)

-- and questions 6 to 8
abbrev rest : List ℕ → Verdict
rest s = cond (question6 s) (cond (question7 s) (cond (question8 s) Accepted (Err Root)) (Err Script)) (Err Object)

chain : (s : List ℕ) → verdict_of s ≡ front s (cond (question17 s) (rest s) (Err NoMeet))
unfolding verdict_of first_no
chain s = refl

chain_01 : (s : List ℕ) → verdict_by01 s ≡ front s (rest s)
unfolding verdict_by01 first_no
chain_01 s = refl

were_accepted : (s : List ℕ) → verdict_of s ≡ Accepted → verdict_by01 s ≡ Accepted
were_accepted s e =
    let y = accepted s e in
    chain_01 s ∙ rw (y.one, y.two, y.three, y.four, y.five, y.six, y.seven, y.eight)

refused_by_17 : (s : List ℕ) → verdict_by01 s ≡ Accepted → (verdict_of s ≡ Accepted → ⊥) → verdict_of s ≡ Err NoMeet
refused_by_17 s e n =
    let e1 = taken (question1 s) _ (Err Length) (omega arith) (sym (chain_01 s) ∙ e) in
    let e2 = taken (question2 s) _ (Err Kinds) (omega arith) e1.1 in
    let e3 = taken (question3 s) _ (Err Numbering) (omega arith) e2.1 in
    let e4 = taken (question4 s) _ (Err NotOrdered) (omega arith) e3.1 in
    let e5 = taken (question5 s) _ (Err NoJoin) (omega arith) e4.1 in
    let c : verdict_of s ≡ cond (question17 s) Accepted (Err NoMeet) = chain s ∙ rw (e1.0, e2.0, e3.0, e4.0, e5.0, e5.1) refl in
    c ∙ unmet (question17 s) (λ z. n (c ∙ z))
  where
    unmet : (b : Bool) → (cond b Accepted (Err NoMeet) ≡ Accepted → ⊥) → cond b Accepted (Err NoMeet) ≡ Err NoMeet
    unmet true f = absurd (f refl)
    unmet false f = refl

-- only where question 17 says no is the verdict its own
says_no : (a b c d e m f g h : Bool)
    → cond a (cond b (cond c (cond d (cond e (cond m (cond f (cond g (cond h Accepted (Err Root)) (Err Script)) (Err Object)) (Err NoMeet)) (Err NoJoin)) (Err NotOrdered)) (Err Numbering)) (Err Kinds)) (Err Length) ≡ Err NoMeet
    → m ≡ false
says_no a b c d e false f g h t = refl
says_no false b c d e true f g h t = cc
says_no true false c d e true f g h t = cc
says_no true true false d e true f g h t = cc
says_no true true true false e true f g h t = cc
says_no true true true true false true f g h t = cc
says_no true true true true true true false g h t = cc
says_no true true true true true true true false h t = cc
says_no true true true true true true true true false t = cc
says_no true true true true true true true true true t = cc

unmet_pair : (s : List ℕ) → verdict_of s ≡ Err NoMeet → Unmet (length (masks_of s)) (dominates (masks_of s))
unmet_pair s e =
    unjoined (length (masks_of s)) (reversed (dominates (masks_of s)))
    (says_no (question1 s) (question2 s) (question3 s) (question4 s) (question5 s) (question17 s) (question6 s) (question7 s) (question8 s) (sym (chain s) ∙ e))

pub fewer_accepted : FewerAccepted
fewer_accepted = record { were_accepted = were_accepted; refused_by_17 = refused_by_17; unmet_pair = unmet_pair }
