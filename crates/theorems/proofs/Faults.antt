-- Demand 1, proved. Assumes nothing.
use Prim.Native.Nat.{ℕ, suc, ◌+◌}
use mathlib.Core.Path.{◌≡◌, refl, sym, ◌∙◌, ap}
use mathlib.Core.Bool.{Bool, true, false, not, cond}
use mathlib.Core.List.{List, [], ◌∷◌, ◌++◌, append-nil}
use native.Mathlib.Omega.{arith}
use borrow.Author.Tests.{ne_eqb, eqb-true, eqb-false, not-true}
use lib.Dec.{eqb}
use lib.ListN.{length}
use Rattle.std.specs.Prelude.{Err}
use Rattle.lists.proofs.Laws.Range.{and_left, and_right, and_both}
use Rattle.lists.specs.Lists.{every}
use Rattle.session.specs.Questions.{question1, question2, question3, question4, question5, question17, question6, question7, question8, verdict_of, number_of_verdict, Accepted}
use Rattle.session.specs.Meaning.{root_of}
use Rattle.session.specs.Program.{Program, program_of}
use Rattle.session.specs.declared.Question.TheVariants.{Length, Kinds, Numbering, NotOrdered, NoJoin, NoMeet, Object, Script, Root}
use Rattle.lists.proofs.Laws.Lists.{Truth, holds, fails, truth}
use Rattle.session.proofs.Laws.Verdict.{verdict_chain}
use Rattle.model.specs.Step.{State, step_at}
use Rattle.model.specs.Schedule.{initial_state, question15, refusal_under, step_refusal, Outcome, finished, refused, run_from, run_of, plain_order}
use Rattle.calls.specs.Entries.{Request, question9, question10, question11, entry_refusal, answer_of, timetabled, plain, deep}
use Rattle.theorems.specs.Faults as faults
use Rattle.theorems.specs.Faults.{Question, asks, check_asks, run_asks, deep_asks, step_asks, AllYes, FirstNo, Put, ends, Demand1Check, Made, StopsAt, ListMade, Listed, stops, unended, ended, Demand1Timetabled, Demand1Plain, Demand1DepthFirst}
use Rattle.theorems.proofs.Laws.Order.PlainRun.{accepted_plain}
use Rattle.theorems.proofs.Laws.Reader.Answers.{passes, timetabled-is, deep_is}
use Rattle.theorems.proofs.Laws.Code.Progress.{run_made, run_stops, run_ends, run_unended}

-- the number of the first question that says no, or 0
unfoldable pub first_of : List Question → ℕ
first_of [] = 0
first_of (x ∷ xs) = cond x.says (first_of xs) x.number

-- a number, or where it is 0 the rest
abbrev pub past : ℕ → ℕ → ℕ
past number rest = cond (eqb number 0) rest number

-- no question has the number 0
abbrev pub Numbered : List Question → Type 0
Numbered qs = every (λ x. not (eqb x.number 0)) qs ≡ true

pub all-zero : (qs : List Question) → AllYes qs → first_of qs ≡ 0
unfolding first_of every
all-zero [] y = refl
all-zero (x ∷ xs) y = rw (and_left x.says _ y) (all-zero xs (and_right x.says _ y))

-- the number of the first that says no, and that it is not 0
module _ (k : ℕ) (behind : List Question) where
  first_no_lem : (before : List Question) → AllYes before → first_of (before ++ asks k false ∷ behind) ≡ k
  unfolding first_of every
  first_no_lem [] y = refl
  first_no_lem (x ∷ xs) y = rw (and_left x.says _ y) (first_no_lem xs (and_right x.says _ y))

  first_numbered : (before : List Question) → Numbered (before ++ asks k false ∷ behind) → not (eqb k 0) ≡ true
  unfolding every
  first_numbered [] n = and_left (not (eqb k 0)) _ n
  first_numbered (x ∷ xs) n = first_numbered xs (and_right (not (eqb x.number 0)) _ n)

module _ (qs : List Question) (k : ℕ) (w : FirstNo qs k) where
  pub first_is : first_of qs ≡ k
  first_is = rw w.place (first_no_lem k w.behind w.before w.passed)

  pub first_not : Numbered qs → k ≡ 0 → ⊥
  first_not n = eqb-false k 0 (not-true (eqb k 0) (first_numbered k w.behind w.before (rw w.place at n)))

-- one question ends the call, or all say yes
pub put_of : (qs : List Question) → Put qs
unfolding every
put_of [] = faults.passes refl
put_of (x ∷ xs) = by (truth x.says) (put_of xs)
  where
    further : (k : ℕ) → x.says ≡ true → FirstNo xs k → FirstNo (x ∷ xs) k
    further k h w =
        record {
          before = x ∷ w.before;
          behind = w.behind;
          place = ap (λ ys. x ∷ ys) w.place;
          passed = unfold every in and_both x.says _ h w.passed;
        }

    by : Truth x.says → Put xs → Put (x ∷ xs)
    by (holds h) (ends k w) = ends k (further k h w)
    by (holds h) (faults.passes y) = faults.passes (unfold every in and_both x.says _ h y)
    by (fails h) r =
        ends x.number (record { before = []; behind = xs; place = ap (λ b. asks x.number b ∷ xs) h; passed = unfold every in refl })

-- the verdict's number is that of the first of Check's questions that says no
chain : (a b c d e m f g h : Bool) (xs : List Question) →
    first_of (asks 1 a ∷ asks 2 b ∷ asks 3 c ∷ asks 4 d ∷ asks 5 e ∷ asks 17 m ∷ asks 6 f ∷ asks 7 g ∷ asks 8 h ∷ xs)
    ≡ past (number_of_verdict (cond a (cond b (cond c (cond d (cond e (cond m (cond f (cond g (cond h Accepted (Err Root)) (Err Script)) (Err Object)) (Err NoMeet)) (Err NoJoin)) (Err NotOrdered)) (Err Numbering)) (Err Kinds)) (Err Length))) (first_of xs)
unfolding first_of
chain false b c d e m f g h xs = refl
chain true false c d e m f g h xs = refl
chain true true false d e m f g h xs = refl
chain true true true false e m f g h xs = refl
chain true true true true false m f g h xs = refl
chain true true true true true false f g h xs = refl
chain true true true true true true false g h xs = refl
chain true true true true true true true false h xs = refl
chain true true true true true true true true false xs = refl
chain true true true true true true true true true xs = refl

pub checked : (s : List ℕ) (xs : List Question) → first_of (check_asks s ++ xs) ≡ past (number_of_verdict (verdict_of s)) (first_of xs)
checked s xs =
    chain (question1 s) (question2 s) (question3 s) (question4 s) (question5 s) (question17 s) (question6 s) (question7 s) (question8 s) xs
    ∙ ap (λ v. past (number_of_verdict v) (first_of xs)) (sym (verdict_chain s))

run_first : (q : Request) → entry_refusal (question10 q) q ≡ first_of (run_asks q)
unfolding entry_refusal first_of
run_first q =
    sym (checked q.session (asks 9 (question9 q) ∷ asks 10 (question10 q) ∷ asks 11 (question11 q) ∷ []))

deep-first : (q : Request) → entry_refusal true q ≡ first_of (deep_asks q)
unfolding entry_refusal first_of
deep-first q = sym (checked q.session (asks 9 (question9 q) ∷ asks 11 (question11 q) ∷ []))

check_first : (s : List ℕ) → number_of_verdict (verdict_of s) ≡ first_of (check_asks s)
unfolding first_of
check_first s = past_zero (number_of_verdict (verdict_of s)) ∙ sym (checked s [])
  where
    past_zero : (n : ℕ) → n ≡ past n 0
    past_zero n = elim (truth (eqb n 0)) [
      | holds h ↦ rw h (eqb-true n 0 h)
      | fails h ↦ rw h refl
    ]

-- the number of an entry's answer, by its questions
module _ (q : Request) where
  run_no : (k : ℕ) → FirstNo (run_asks q) k → entry_refusal (question10 q) q ≡ k
  run_no k w = run_first q ∙ first_is (run_asks q) k w

  run_yes : AllYes (run_asks q) → entry_refusal (question10 q) q ≡ 0
  run_yes y = run_first q ∙ all-zero (run_asks q) y

  run_numbered : Numbered (run_asks q)
  run_numbered = unfold every in refl

  deep_no : (k : ℕ) → FirstNo (deep_asks q) k → entry_refusal true q ≡ k
  deep_no k w = deep-first q ∙ first_is (deep_asks q) k w

  deep_yes : AllYes (deep_asks q) → entry_refusal true q ≡ 0
  deep_yes y = deep-first q ∙ all-zero (deep_asks q) y

  deep_numbered : Numbered (deep_asks q)
  deep_numbered = unfold every in refl

pub demand_1_check : Demand1Check
demand_1_check =
    record {
      refused = λ s k w. ap (λ n. record { number = n; place = 0 }) (check_first s ∙ first_is (check_asks s) k w);
      accepted = λ s y. ap (λ n. record { number = n; place = 0 }) (check_first s ∙ all-zero (check_asks s) y);
      put = λ s. put_of (check_asks s);
    }

-- questions 12 to 14 of a byte
step_first : (p : Program) (st : State) (l : ℕ) → step_refusal p st l ≡ first_of (step_asks p st l)
unfolding refusal_under first_of
step_first p st l = refl

-- steps that are made bring a run to the rest of its list
made_run : (i : ℕ) (p : Program) (st : State) (ls : List ℕ) (t : State) (rest : List ℕ) → Made p st ls t → run_from i p (ls ++ rest) st ≡ run_from (length ls + i) p rest t
unfolding Made
made_run i p st [] t rest m = ap (run_from i p rest) m ∙ ap (λ n. run_from n p rest t) (omega arith)
made_run i p st (l ∷ ls) t rest m =
    run_made i p l (ls ++ rest) st (step_first p st l ∙ all-zero (step_asks p st l) m.0)
    ∙ made_run (suc i) p (step_at p l st) ls t rest m.1
    ∙ ap (λ n. run_from n p rest t) (omega arith)

made_all : (i : ℕ) (p : Program) (st : State) (ls : List ℕ) (t : State) → Made p st ls t → run_from i p ls st ≡ run_from (length ls + i) p [] t
made_all i p st ls t m = ap (λ ks. run_from i p ks st) (sym (append-nil ls)) ∙ made_run i p st ls t [] m

-- how a list ends
module _ (s ls : List ℕ) where
  stops_is : (k i : ℕ) → StopsAt s ls k i → run_of (program_of s) (root_of s) ls ≡ refused k i
  unfolding run_of
  stops_is k i x =
      ap (λ ks. run_from 0 (program_of s) ks (initial_state s)) x.place
      ∙ made_run 0 (program_of s) (initial_state s) x.before x.state (x.byte ∷ x.behind) x.made
      ∙ run_stops (length x.before + 0) (program_of s) x.byte x.behind x.state k (step_first (program_of s) x.state x.byte ∙ first_is _ k x.refusal) (first_not (step_asks (program_of s) x.state x.byte) k x.refusal (unfold every in refl))
      ∙ ap (refused k) (omega (arith, x.position))

  unended_is : (t : State) → ListMade s ls t false → run_of (program_of s) (root_of s) ls ≡ refused 15 0
  unfolding run_of
  unended_is t x =
      made_all 0 (program_of s) (initial_state s) ls t x.made
      ∙ run_unended (length ls + 0) (program_of s) t x.says

  ended_is : (t : State) → ListMade s ls t true → run_of (program_of s) (root_of s) ls ≡ finished t
  unfolding run_of
  ended_is t x =
      made_all 0 (program_of s) (initial_state s) ls t x.made
      ∙ run_ends (length ls + 0) (program_of s) t x.says

-- a list from any state: a byte stops it, or it is made whole
data Ran (p : Program) (st : State) (ls : List ℕ) : Type 0 where
  stopped : (k : ℕ) (before : List ℕ) (byte : ℕ) (behind : List ℕ) (t : State) → ls ≡ before ++ byte ∷ behind → Made p st before t → FirstNo (step_asks p t byte) k → Ran p st ls
  whole : (t : State) → Made p st ls t → Ran p st ls

ran_of : (p : Program) (st : State) (ls : List ℕ) → Ran p st ls
ran_of p st [] = whole st (unfold Made in refl)
ran_of p st (l ∷ ls) = by (put_of (step_asks p st l)) (ran_of p (step_at p l st) ls)
  where
    by : Put (step_asks p st l) → Ran p (step_at p l st) ls → Ran p st (l ∷ ls)
    by (ends k w) r = stopped k [] l ls st refl (unfold Made in refl) w
    by (faults.passes y) (stopped k before byte behind t e m w) =
        stopped k (l ∷ before) byte behind t (ap (λ ks. l ∷ ks) e) (unfold Made in (y, m)) w
    by (faults.passes y) (whole t m) = whole t (unfold Made in (y, m))

listed_of : (s ls : List ℕ) → Listed s ls
listed_of s ls = by (ran_of (program_of s) (initial_state s) ls)
  where
    by : Ran (program_of s) (initial_state s) ls → Listed s ls
    by (stopped k before byte behind t e m w) =
        stops k (length before) (record { before = before; byte = byte; behind = behind; place = e; position = refl; state = t; made = m; refusal = w })
    by (whole t m) = elim (truth (question15 (program_of s) t)) [
      | holds h ↦ ended t (record { made = m; says = h })
      | fails h ↦ unended t (record { made = m; says = h })
    ]

abbrev state_in : Outcome → State
state_in (finished t) = t
state_in (refused k i) = []

abbrev is_refused : Outcome → ℕ
is_refused (finished t) = 0
is_refused (refused k i) = 1

-- a list that finishes is made whole
finished_made : (s ls : List ℕ) (t : State) → run_of (program_of s) (root_of s) ls ≡ finished t → ListMade s ls t true
finished_made s ls t e = by (listed_of s ls)
  where
    by : Listed s ls → ListMade s ls t true
    by (stops k i x) = absurd (omega (arith, ap is_refused (sym (stops_is s ls k i x) ∙ e)))
    by (unended u x) = absurd (omega (arith, ap is_refused (sym (unended_is s ls u x) ∙ e)))
    by (ended u x) = rw (ap state_in (sym (ended_is s ls u x) ∙ e)) at x

-- a call that questions 1 to 11 end
run_refused : (q : Request) (ls : List ℕ) (k : ℕ) → FirstNo (run_asks q) k → timetabled q ls ≡ record { number = k; place = 0; count = 0; work = q.work; buffer = q.buffer }
unfolding timetabled
run_refused q ls k w =
    rw (run_no q k w, ne_eqb k 0 (first_not (run_asks q) k w (run_numbered q))) refl

pub demand_1_timetabled : Demand1Timetabled
unfolding answer_of
demand_1_timetabled =
    record {
      refused = run_refused;
      stopped = λ q ls k i y x. timetabled-is q ls (run_yes q y) ∙ ap (answer_of q) (stops_is q.session ls k i x);
      unended = λ q ls t y x. timetabled-is q ls (run_yes q y) ∙ ap (answer_of q) (unended_is q.session ls t x);
      ended = λ q ls t y x. timetabled-is q ls (run_yes q y) ∙ ap (answer_of q) (ended_is q.session ls t x);
      put = λ q. put_of (run_asks q);
      listed = listed_of;
    }

pub demand_1_plain : Demand1Plain
unfolding plain
demand_1_plain =
    record {
      refused = λ q k w. run_refused q (plain_order (program_of q.session) (root_of q.session)) k w;
      ended = λ q y.
          let ls = plain_order (program_of q.session) (root_of q.session) in
          let (t, e) = accepted_plain q.session (passes (question10 q) q (run_yes q y)).accepted in
          let m = finished_made q.session ls t e in
          (t, (m, demand_1_timetabled.ended q ls t y m));
      put = λ q. put_of (run_asks q);
    }

pub demand_1_depth_first : Demand1DepthFirst
unfolding deep
demand_1_depth_first =
    record {
      refused = λ q k w. rw (deep_no q k w, ne_eqb k 0 (first_not (deep_asks q) k w (deep_numbered q))) refl;
      ended = λ q y. deep_is q (deep_yes q y);
      put = λ q. put_of (deep_asks q);
    }
