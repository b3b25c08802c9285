-- Pages: the statements of specs/Pages, proved. Assumes nothing.
use Prim.Native.Nat.{ℕ, zero, suc, ◌+◌, ◌*◌, ◌-◌, ◌^◌, ◌≤◌, ◌<◌}
use mathlib.Core.Path.{◌≡◌, refl, sym, ◌∙◌, ap}
use mathlib.Core.Bool.{Bool, true, false, cond}
use mathlib.Core.List.{List, [], ◌∷◌, ◌++◌, map}
use native.Mathlib.Nat.{mod-lt, div-add-mod', div-le_of_le-mul}
use native.Mathlib.Omega.{arith}
use borrow.Author.Tests.{eqb-true, eq-eqb, ne_eqb}
use lib.Dec.{eqb, ltb}
use lib.ListN.{length}
use Rattle.session.specs.Limits.{max_levels}
use Rattle.lists.specs.Lists.{every, select, tab, joined}
use Rattle.session.specs.Record.{Record}
use Rattle.session.specs.Program.{Program, program_of}
use Rattle.session.specs.Questions.{verdict_of, number_of_verdict, Accepted}
use Rattle.session.specs.Meaning.{level_of, root_object}
use Rattle.session.specs.Emptied.{emptied}
use Rattle.lists.proofs.Laws.Lists.{holds, fails, truth, select-length}
use Rattle.session.proofs.Laws.Verdict.{accepted}
use Rattle.session.proofs.Laws.Numbering.{few_levels}
use Rattle.scripts.specs.Limits.{max_script_steps}
use Rattle.scripts.specs.Ending.{number_of_ending}
use Rattle.scripts.specs.declared.Ending.{Ending}
use Rattle.scripts.specs.declared.Ending.TheVariants.{Running, Finished, OutOfSteps, OutOfWrites}
use Rattle.model.specs.History.{History, Limited, AllLimited}
use Rattle.model.specs.Limits.{max_managers}
use Rattle.model.specs.Result.{Result, history_record, histories_shown, bytes_of, steps_in, histories_at}
use Rattle.calls.specs.Entries.{Request, Answer, question9, question11, entry_refusal, deep}
use Rattle.lists.specs.Placed.{written_over}
use Rattle.calls.specs.Reader.{bytes_written}
use Rattle.theorems.specs.Demands.{DepthFirstRun}
use Rattle.theorems.specs.Faults.{asks}
use Rattle.theorems.proofs.Faults.{first_of, past, checked, first_is, first_not, all-zero, put_of}
use Rattle.theorems.proofs.Demands.{deep-emptied, histories_limited}
use Rattle.theorems.proofs.Laws.Reader.Answers.{passes, deep_is, deep_finished, deep-passes, deep-bytes}
use Rattle.theorems.proofs.Laws.Reader.Bytes.{histories_found, histories_of_level, histories_of_none, histories_by_level, written_bytes}
use Rattle.lists.proofs.Laws.Choice.{chosen_groups}
use Rattle.theorems.proofs.Laws.Reader.Fields.{level_read, ending_read, writes_read, stamp_read, first_read, last_read, steps_read}
use Rattle.calls.specs.Page.{question16, page_refusal, paged, counts_told}
use Rattle.text.specs.Text.{sum_of, histories_in, total_of, managers_at, steps_at, quotient_at, remainder_at, levels_in, page_of}
use Rattle.page_theorems.specs.Pages.{SamePage, PageCalled, SamePageCalls, page_asks, Demand1Page, ReadBack, AllReadBack, HasLine, LevelReadBack, PagesFit, LevelsAveraged, LevelsTotal, left_by, LevelsShown}
use Rattle.page_theorems.proofs.Laws.Columns.{read_back, total_read, number_read, quotient_read, remainder_read}
use Rattle.text.proofs.Laws.Averages.{steps_of, steps_joined, steps_none, sum_chosen}
use Rattle.page_theorems.proofs.Laws.Few.{histories_few, ended_few}

-- a session's own page is that of its depth-first run emptied for the reader
own_page : (c : ℕ) (s : List ℕ) (a d : Answer) → DepthFirstRun s c a → DepthFirstRun (emptied c s) c d → bytes_written a ≡ bytes_written d
own_page c s a d x y =
    ap bytes_written x.answer
    ∙ deep-emptied x.request y.request (y.of ∙ (λ i. emptied (sym x.reader i) (sym x.of i))) (y.reader ∙ sym x.reader) (rw (sym x.answer) x.finished) (rw (sym y.answer) y.finished)
    ∙ sym (ap bytes_written y.answer)

pub same_page : SamePage
same_page c s s' a a' d d' x x' y y' e = ap page_of (own_page c s a d x y ∙ e ∙ sym (own_page c s' a' d' x' y'))

-- a history within the limits of a run fits its line
ending_small : (e : Ending) → number_of_ending e < 10 ^ 1
ending_small Running = omega arith
ending_small Finished = omega arith
ending_small OutOfSteps = omega arith
ending_small OutOfWrites = omega arith

-- what is wanted of each record: it fits its line, and its steps are those of one manager
abbrev Fine : Record → Type 0
Fine rec = ReadBack rec × (steps_in rec ≤ max_script_steps)

abbrev AllFine : List Record → Type 0
AllFine [] = Unit
AllFine (rec ∷ recs) = Fine rec × AllFine recs

history_fine : (l : ℕ) → l < max_levels → (h : History) → Limited h → Fine (history_record l h)
history_fine l k h f = (
  read_back (history_record l h)
      (omega (arith, f.stamp, stamp_read l h f.stamp))
      (omega (arith, k, level_read l h))
      (rw (ending_read l h) (ending_small h.ending))
      (omega (arith, f.writes, writes_read l h))
      (omega (arith, f.first, f.last, first_read l h (omega (arith, f.first, f.last))))
      (omega (arith, f.last, last_read l h (omega (arith, f.last))))
      (omega (arith, f.steps, steps_read l h (omega (arith, f.steps)))),
  omega (arith, f.steps, steps_read l h (omega (arith, f.steps))),
)

-- groups of records, one after the other
all_append : (xs ys : List Record) → AllFine xs → AllFine ys → AllFine (xs ++ ys)
all_append [] ys e g = g
all_append (x ∷ xs) ys e g = (e.0, all_append xs ys e.1 g)

all_groups : (n : ℕ) (f : ℕ → List Record) → ((i : ℕ) → i < n → AllFine (f i)) → AllFine (joined (tab n f))
unfolding tab joined
all_groups zero f e = tt
all_groups (suc n) f e =
    all_append (f zero) (joined (tab n (λ i. f (suc i)))) (e zero (omega arith)) (all_groups n (λ i. f (suc i)) (λ i h. e (suc i) (omega (arith, h))))

all_histories : (l : ℕ) → l < max_levels → (hs : List History) → AllLimited hs → AllFine (map (history_record l) hs)
all_histories l k [] e = tt
all_histories l k (h ∷ hs) e = (history_fine l k h e.0, all_histories l k hs e.1)

all_chosen : (t : Record → Bool) (recs : List Record) → AllFine recs → AllFine (select t recs)
unfolding select
all_chosen t [] e = tt
all_chosen t (rec ∷ recs) e = elim (truth (t rec)) [
  | holds d ↦ rw d (e.0, all_chosen t recs e.1)
  | fails d ↦ rw d (all_chosen t recs e.1)
]

all_read : (recs : List Record) → AllFine recs → AllReadBack recs
all_read [] e = tt
all_read (rec ∷ recs) e = (e.0.0, all_read recs e.1)

steps_sum : (recs : List Record) → AllFine recs → sum_of (map steps_in recs) ≤ max_script_steps * length recs
unfolding sum_of
steps_sum [] e = omega arith
steps_sum (rec ∷ recs) e = omega (arith, e.0.1, steps_sum recs e.1)

-- the numbers of a level that has a line
module _ (bytes : List ℕ) (fine : AllFine (histories_in bytes)) (few : length (histories_in bytes) ≤ max_levels * max_managers) where
  level_back : (level : ℕ) → HasLine bytes level → LevelReadBack bytes level
  level_back level (small, some) =
      let steps : steps_at level bytes ≤ max_script_steps * managers_at level bytes = steps_sum (histories_at level bytes) (all_chosen _ (histories_in bytes) fine) in
      let quotient : quotient_at level bytes ≤ max_script_steps = div-le_of_le-mul (managers_at level bytes) (omega (arith, steps)) in
      let remainder : remainder_at level bytes < managers_at level bytes = mod-lt (steps_at level bytes) some in
      let managers : managers_at level bytes ≤ length (histories_in bytes) = select-length _ (histories_in bytes) in
      record {
        number = number_read level (quotient_at level bytes) (remainder_at level bytes) (omega (arith, small));
        quotient = quotient_read level (quotient_at level bytes) (remainder_at level bytes) (omega (arith, quotient));
        remainder = remainder_read level (quotient_at level bytes) (remainder_at level bytes) (omega (arith, remainder, managers, few));
      }

module _ (s : List ℕ) (a : verdict_of s ≡ Accepted) (c : ℕ) where
  abbrev p : Program
  p = program_of s

  abbrev ran : Result
  ran = left_by s

  few : p.levels ≤ max_levels
  few = unfold program_of in few_levels s (accepted s a).three

  -- the histories shown of the depth-first run
  shown_fine : AllFine (histories_shown p ran c)
  unfolding histories_shown
  shown_fine =
      rw (chosen_groups (p.dom c) (λ l. map (history_record l) (ran.ended l)) p.levels (λ l. l))
      (all_groups p.levels _ (λ l h. elim (truth (p.dom c l)) [
        | holds d ↦ rw d (all_histories l (omega (arith, h, few)) (ran.ended l) (histories_limited s a l (unfold program_of in h)))
        | fails d ↦ rw d tt
      ]))

  shown_few : length (histories_shown p ran c) ≤ max_levels * max_managers
  shown_few = histories_few p ran c few (ended_few s a)

-- what a depth-first run of s that was not refused wrote
record Ran (s : List ℕ) (c : ℕ) (bytes : List ℕ) : Type 0 where
  accept : verdict_of s ≡ Accepted
  is : bytes ≡ bytes_of (program_of s) (level_of s (root_object s)) (left_by s) c

ran_is : (c : ℕ) (s : List ℕ) (a : Answer) → DepthFirstRun s c a → Ran s c (bytes_written a)
ran_is c s a x =
    let q = x.request in
    let yes = deep-passes q (rw (sym x.answer) x.finished) in
    rw (sym x.of, sym x.reader) (record { accept = (passes true q yes).accepted; is = ap bytes_written x.answer ∙ deep-bytes q yes })

pub pages_fit : PagesFit
pages_fit c s a x =
    let r = ran_is c s a x in
    let bytes = bytes_written a in
    let is : histories_in bytes ≡ histories_shown (program_of s) (left_by s) c = ap histories_in r.is ∙ histories_found (program_of s) (level_of s (root_object s)) (left_by s) c in
    let fine : AllFine (histories_in bytes) = rw is (shown_fine s r.accept c) in
    let few : length (histories_in bytes) ≤ max_levels * max_managers = rw is (shown_few s r.accept c) in
    record {
      histories = all_read (histories_in bytes) fine;
      total = total_read (total_of bytes) (omega (arith, steps_sum (histories_in bytes) fine, few));
      levels = level_back bytes fine few;
    }

pub levels_averaged : LevelsAveraged
levels_averaged bytes level (small, some) =
    record { sum = div-add-mod' (steps_at level bytes) (managers_at level bytes); remainder = mod-lt (steps_at level bytes) some }

-- the sums of the levels that have a line, of any result
levels_sum : (p : Program) (root : ℕ) (r : Result) (c : ℕ) → p.levels ≤ max_levels → sum_of (map (λ level. steps_at level (bytes_of p root r c)) (levels_in (bytes_of p root r c))) ≡ total_of (bytes_of p root r c)
unfolding levels_in
levels_sum p root r c few =
    let bytes = bytes_of p root r c in
    let all : p.levels + (max_levels - p.levels) ≡ max_levels = omega (arith, few) in
    sum_chosen (λ level. ltb 0 (managers_at level bytes)) (λ level. steps_at level bytes) (λ level e. steps_none (histories_at level bytes) e) max_levels (λ level. level)
    ∙ sym (steps_joined max_levels (λ level. histories_at level bytes))
    ∙ ap (λ n. steps_of (joined (tab n (λ level. histories_at level bytes)))) (sym all)
    ∙ ap steps_of (histories_by_level p root r c (max_levels - p.levels) ∙ sym (histories_found p root r c))

pub levels_total : LevelsTotal
levels_total c s a x =
    let r = ran_is c s a x in
    rw r.is (levels_sum (program_of s) (level_of s (root_object s)) (left_by s) c (few s r.accept c))

pub levels_shown_lem : LevelsShown
levels_shown_lem c s a x level =
    let r = ran_is c s a x in
    let at = ap (histories_at level) r.is in
    let own = histories_of_level (program_of s) (level_of s (root_object s)) (left_by s) c level in
    record {
      shown = λ h d. at ∙ own h ∙ rw d refl;
      hidden = λ h d. at ∙ own h ∙ rw d refl;
      absent = λ h. at ∙ histories_of_none (program_of s) (level_of s (root_object s)) (left_by s) c level h;
    }

past_no : (v n : ℕ) → eqb v 0 ≡ false → past v n ≡ v
past_no v n e = rw e refl

past_yes : (v n : ℕ) → eqb v 0 ≡ true → past v n ≡ n
past_yes v n e = rw e refl

-- a page that was answered 0 is the page of the depth-first run
module _ (q : Request) (page : List ℕ) where
  page_yes : (paged q page).number ≡ 0 → page_refusal q page ≡ 0
  unfolding paged
  page_yes f = elim (truth (eqb (page_refusal q page) 0)) [
    | holds e ↦ eqb-true (page_refusal q page) 0 e
    | fails e ↦ rw e at f
  ]

  page_deep : page_refusal q page ≡ 0 → entry_refusal true q ≡ 0
  unfolding page_refusal
  page_deep f = elim (truth (eqb (entry_refusal true q) 0)) [
    | holds e ↦ eqb-true (entry_refusal true q) 0 e
    | fails e ↦ rw e at f
  ]

  page_is : page_refusal q page ≡ 0 → paged q page ≡ record { number = 0; place = 0; count = (deep q).count; page_count = length (page_of (bytes_written (deep q))); buffer = (deep q).buffer; page = written_over (page_of (bytes_written (deep q))) page }
  unfolding paged
  page_is f = rw (eq-eqb (page_refusal q page) 0 f) refl

  -- the first of its questions that says no
  page_first : page_refusal q page ≡ first_of (page_asks q page)
  unfolding page_refusal entry_refusal first_of
  page_first =
      by (number_of_verdict (verdict_of q.session)) (question9 q) (question11 q) (question16 page)
      ∙ sym (checked q.session (asks 9 (question9 q) ∷ asks 11 (question11 q) ∷ asks 16 (question16 page) ∷ []))
    where
      by : (v : ℕ) (a b c : Bool) → past (past v (cond a (cond true (cond b 0 11) 10) 9)) (cond c 0 16) ≡ past v (cond a (cond b (cond c 0 16) 11) 9)
      by v a b c = elim (truth (eqb v 0)) [
        | fails e ↦ ap (λ n. past n (cond c 0 16)) (past_no v _ e) ∙ past_no v _ e ∙ sym (past_no v _ e)
        | holds e ↦ ap (λ n. past n (cond c 0 16)) (past_yes v _ e) ∙ rest a b ∙ sym (past_yes v _ e)
      ]
        where
          rest : (a b : Bool) → past (cond a (cond true (cond b 0 11) 10) 9) (cond c 0 16) ≡ cond a (cond b (cond c 0 16) 11) 9
          rest true true = refl
          rest true false = refl
          rest false b = refl

called_page : (s : List ℕ) (c : ℕ) (text : List ℕ) (x : PageCalled s c text) → (a : Answer) × (DepthFirstRun s c a × (text ≡ page_of (bytes_written a)))
called_page s c text x =
    let q = x.request in
    let zero : (paged q x.lent).number ≡ 0 = sym (ap (λ a. a.number) x.answers) ∙ x.finished in
    let yes = page_yes q x.lent zero in
    let is = x.answers ∙ page_is q x.lent yes in
    let run = page_of (bytes_written (deep q)) in
    let count : (counts_told x.answer).page_count ≡ length run = ap (λ a. a.page_count) is in
    let page : x.page ≡ written_over run x.lent = ap (λ a. a.page) is in (
      deep q,
      (
        record { request = q; of = x.session_is; reader = x.clearance_is; answer = refl; finished = deep_finished q (page_deep q x.lent yes) },
        x.written ∙ rw (count, page) (written_bytes run x.lent),
      ),
    )

pub same_page_calls : SamePageCalls
same_page_calls c s s' text text' d d' x x' y y' e =
    let (a, (run, is)) = called_page s c text x in
    let (a', (run', is')) = called_page s' c text' x' in
    is ∙ same_page c s s' a a' d d' run run' y y' e ∙ sym is'

pub demand_1_page : Demand1Page
unfolding paged
demand_1_page =
    record {
      refused = λ q page k w.
          rw (page_first q page ∙ first_is (page_asks q page) k w, ne_eqb k 0 (first_not (page_asks q page) k w (unfold every in refl))) refl;
      ended = λ q page y.
          let yes = page_first q page ∙ all-zero (page_asks q page) y in
          let ran = deep_is q (page_deep q page yes) in
          let bytes = deep-bytes q (page_deep q page yes) in
          page_is q page yes ∙ rw (bytes, ran) refl;
      put = λ q page. put_of (page_asks q page);
    }
