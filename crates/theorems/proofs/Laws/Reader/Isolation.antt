-- Isolation: what is left of a finishing list at the levels that c dominates runs alike in the session emptied for c. Assumes nothing.
use Prim.Native.Nat.{ℕ, suc, ◌≤◌, ◌<◌}
use mathlib.Core.Path.{◌≡◌, refl, sym, ◌∙◌, ap}
use mathlib.Core.Bool.{Bool, true, false, cond}
use mathlib.Core.List.{List, [], ◌∷◌, ◌++◌}
use native.Mathlib.Decide.{ℕ_discrete}
use native.Mathlib.Omega.{arith}
use borrow.Author.Tests.{not-true}
use lib.ListN.{length, get_or}
use Rattle.lists.proofs.Laws.Range.{all_each, not_both, refuted}
use Rattle.lists.specs.Lists.{select}
use Rattle.session.specs.Parts.{level_count}
use Rattle.session.specs.Questions.{verdict_of, Accepted}
use Rattle.session.specs.Meaning.{root_of}
use Rattle.session.specs.Emptied.{emptied}
use Rattle.session.specs.Program.{Program, program_of, seen_by}
use Rattle.std.specs.Prelude.{None}
use Rattle.session.specs.declared.Step.TheVariants.{End}
use Rattle.session.specs.declared.Message.{Message}
use Rattle.lists.proofs.Laws.Lists.{holds, fails, truth}
use Rattle.lists.proofs.Laws.Fill.{tab_ext}
use Rattle.session.proofs.Laws.Numbering.{few_levels}
use Rattle.session.proofs.Laws.Verdict.{accepted}
use Rattle.session.proofs.Laws.Emptied.{emptied_message}
use Rattle.session.proofs.Laws.Program.{emptied_program}
use Rattle.session.specs.Limits.{max_levels}
use Rattle.scripts.proofs.Laws.Effects.{Sound}
use Rattle.lists.specs.Changed.{modify}
use Rattle.model.specs.Level.{new_level, has_manager, arrived}
use Rattle.model.specs.Step.{State, level_at, view_of, Arrival, none, at, Moved, moved, move_at, applied, delivered, step_at}
use Rattle.model.specs.Schedule.{read_in, question15, finished, run_from, run_of, plain_from}
use Rattle.theorems.specs.Isolation.{SameUnder, EndedUnder, struck, Echoes, Isolated}
use Rattle.lists.proofs.Laws.Changed.{modify-length, modify_at, modify_other}
use Rattle.theorems.proofs.Laws.Confluence.{ran, Allowed, kept}
use Rattle.theorems.proofs.Laws.Steps.Locality.{Above, Misses, local, not_above}
use Rattle.theorems.proofs.Laws.Steps.May.{MayStep, may_managed, may_local, may_step, step_may}
use Rattle.theorems.proofs.Laws.Steps.Moves.{seen_sound, move_above}
use Rattle.theorems.proofs.Laws.Invariant.Forks.{level_other, delivered-length, ForkInvariant}
use Rattle.theorems.proofs.Laws.Invariant.Preserved.{step_preserves}
use Rattle.theorems.proofs.Laws.Invariant.State.{StateInvariant, steady_preserves}
use Rattle.theorems.proofs.Laws.Safe.Safe.{Safe}
use Rattle.theorems.proofs.Laws.Safe.SafeCommute.{safe_commute}
use Rattle.theorems.proofs.Laws.Order.Orderly.{OrderInvariant, order_preserves}
use Rattle.theorems.proofs.Laws.Order.Finish.{Finishes, finishes, allowed_safe}
use Rattle.theorems.proofs.Laws.Order.ReadIn.{read_in_lem, read_in_steady, read_in_ordered}
use Rattle.theorems.proofs.Laws.Order.Accepted.{sound}
use Rattle.theorems.proofs.Laws.Invariant.Bounded.{total}
use Rattle.theorems.proofs.Laws.Order.Chosen.{run_next}
use Rattle.theorems.proofs.Laws.Order.Plain.{plain_finishes}

-- what is hidden twice is hidden once, where the second test follows from the first
twice : {A : Type 0} (a b : Bool) (x d : A) → (a ≡ true → b ≡ true) → cond a (cond b x d) d ≡ cond a x d
twice true b x d f = rw (f refl) refl
twice false b x d f = refl

-- what l sees of what c sees is what l sees, where c dominates l
pub seen_twice : (p : Program) (c l : ℕ) → Sound p → c < p.levels → l < p.levels → p.dom c l ≡ true → seen_by l (seen_by c p) ≡ seen_by l p
unfolding seen_by
seen_twice p c l so hc hl d =
    λ i. record {
      levels = p.levels;
      dom = p.dom;
      objects = p.objects;
      level = p.level;
      field = λ o k. twice (p.dom l (p.level o)) (p.dom c (p.level o)) (p.field o k) None (through o) i;
      step = λ o m j. twice (p.dom l (p.level o)) (p.dom c (p.level o)) (p.step o m j) End (through o) i;
    }
  where
    through : (o : ℕ) → p.dom l (p.level o) ≡ true → p.dom c (p.level o) ≡ true
    through o e = so.lattice.order.through c l (p.level o) hc hl (so.placed o) d e

-- two lists that are the same at a place are so after the same change
modify_same : {A : Type 0} (d : A) (i j : ℕ) (f : A → A) (xs ys : List A) → j < length xs → j < length ys → get_or xs j d ≡ get_or ys j d → get_or (modify i f xs) j d ≡ get_or (modify i f ys) j d
modify_same d i j f xs ys hx hy e = elim (ℕ_discrete i j) [
  | yes q ↦ rw q (modify_at d j f xs hx ∙ ap f e ∙ sym (modify_at d j f ys hy))
  | no n ↦ modify_other d i j f xs n ∙ e ∙ sym (modify_other d i j f ys n)
]

delivered_same : (b : Arrival) (j : ℕ) (st st' : State) → j < length st → j < length st' → level_at st j ≡ level_at st' j → level_at (delivered b st) j ≡ level_at (delivered b st') j
unfolding delivered
delivered_same none j st st' h h' e = e
delivered_same (at u x) j st st' h h' e = modify_same new_level u j (arrived x) st st' h h' e

applied_same : (l : ℕ) (done : Moved) (j : ℕ) (st st' : State) → j < length st → j < length st' → level_at st j ≡ level_at st' j → level_at (applied l done st) j ≡ level_at (applied l done st') j
applied_same l done j st st' h h' e =
    delivered_same done.arrival j (modify l (λ _. done.own) st) (modify l (λ _. done.own) st')
    (rw (modify-length l (λ _. done.own) st) h) (rw (modify-length l (λ _. done.own) st') h')
    (modify_same new_level l j (λ _. done.own) st st' h h' e)

-- a step keeps the number of levels
pub step_length : (p : Program) (l : ℕ) (st : State) → length (step_at p l st) ≡ length st
unfolding step_at
step_length p l st =
    delivered-length (move_at p l st).arrival (modify l (λ _. (move_at p l st).own) st) ∙ modify-length l (λ _. (move_at p l st).own) st

-- where all managers have ended none is left at the levels that c dominates
ended_under : (p : Program) (c : ℕ) (st : State) → question15 p st ≡ true → EndedUnder p c st
unfolding question15
ended_under p c st q j hj d = not-true (has_manager (level_at st j)) (all_each p.levels _ q j hj)

ended_same : (p : Program) (c : ℕ) (st st' : State) → SameUnder p c st st' → EndedUnder p c st → EndedUnder p c st'
ended_same p c st st' same ended j hj d = ap has_manager (sym (same j hj d)) ∙ ended j hj d

module _ (p : Program) (so : Sound p) (c : ℕ) (hc : c < p.levels) where
  -- a step at a level that c does not dominate changes no level that c dominates
  pub unseen_step : (l : ℕ) (st : State) → ForkInvariant p st → l < p.levels → p.dom c l ≡ false → SameUnder p c (step_at p l st) st
  unfolding step_at
  unseen_step l st o hl e j hj d =
      level_other (move_at p l st).arrival l j (move_at p l st).own st (λ q. not_both (p.dom c j) d (rw (sym q) e))
      (misses (move_at p l st).arrival (move_above p l st so hl (o.placed l hl)))
    where
      misses : (b : Arrival) → Above p l b → Misses j b
      misses none a = tt
      misses (at u x) a = λ q. not_both (p.dom c j) d (rw (sym q) (not_above p so.lattice.order c l u hc hl a.0 a.1 e))

  -- a step at a level l that c dominates
  module _ (l : ℕ) (hl : l < p.levels) (d : p.dom c l ≡ true) where
    -- what l sees lies at levels that c dominates
    view_same : (st st' : State) → SameUnder p c st st' → view_of p l st ≡ view_of p l st'
    unfolding view_of
    view_same st st' same = tab_ext p.levels _ _ λ j hj. elim (truth (p.dom l j)) [
      | holds e ↦ rw e (same j hj (so.lattice.order.through c l j hc hl hj d e))
      | fails e ↦ rw e refl
    ]

    -- what the step does is the same in what c sees of the program
    move_seen : (st : State) → move_at (seen_by c p) l st ≡ move_at p l st
    unfolding move_at seen_by view_of
    move_seen st =
        let view = view_of p l st in
        ap (λ q. moved q view l (level_at view l) (level_at view l).activity) (seen_twice p c l so hc hl d)

    pub move_echoes : (st st' : State) → SameUnder p c st st' → move_at (seen_by c p) l st' ≡ move_at p l st
    move_echoes st st' same = move_seen st' ∙ sym (local p l st st' (view_same st st' same))

    -- it is allowed too
    pub may_echo : (st st' : State) → SameUnder p c st st' → MayStep p st l → MayStep (seen_by c p) st' l
    unfolding seen_by
    may_echo st st' same m =
        let may = may_local p so.lattice.order l st st' (view_same st st' same) m in
        record { present = may.present; fork = may.fork; others = may.others; first = may.first; free = may.free }

    pub echoes : (st st' : State) → SameUnder p c st st' → MayStep p st l → Echoes p (seen_by c p) l st st'
    echoes st st' same m =
        record { allowed = step_may (seen_by c p) st' l (may_echo st st' same m); move = move_echoes st st' same }

    -- and leaves the same at the levels that c dominates
    pub echoed_step : (st st' : State) → length st ≡ p.levels → length st' ≡ p.levels → SameUnder p c st st' → SameUnder p c (step_at p l st) (step_at (seen_by c p) l st')
    unfolding step_at
    echoed_step st st' n n' same j hj e =
        applied_same l (move_at p l st) j st st' (rw n hj) (rw n' hj) (same j hj e)
        ∙ ap (λ done. level_at (applied l done st') j) (sym (move_echoes st st' same))

  -- a finishing list and beside it what is left of it
  pub isolated : (ls : List ℕ) (st st' t : State) → ForkInvariant p st → length st' ≡ p.levels → SameUnder p c st st' → Finishes p ls st t → Isolated p (seen_by c p) c ls st st'
  unfolding Isolated ran Allowed
  isolated [] st st' t o n same f = (same, ended_same p c st st' same (ended_under p c st (rw f.ends f.over)))
  isolated (l ∷ ls) st st' t o n same f =
      let m : MayStep p st l = f.allowed.0 in
      let hl : l < p.levels = m.present in
      let o' = step_preserves p l st so hl o in
      let rest : Finishes p ls (step_at p l st) t = record { allowed = f.allowed.1; ends = f.ends; over = f.over } in (
        same,
        (
          λ d. (
            echoes l hl d st st' same m,
            isolated ls (step_at p l st) (step_at (seen_by c p) l st') t o' (step_length (seen_by c p) l st' ∙ n) (echoed_step l hl d st st' o.size n same) rest,
          ),
          λ e. isolated ls (step_at p l st) st' t o' n (λ j hj d. unseen_step l st o hl e j hj d ∙ same j hj d) rest,
        ),
      )

-- a list whose steps are all allowed, and that ends with state t at the levels that c dominates, all managers ended there
pub record Reaches (p p' : Program) (c : ℕ) (ks : List ℕ) (st' t : State) : Type 0 where
  pub allowed : Allowed (step_at p') (MayStep p') ks st'
  pub same : SameUnder p c t (ran (step_at p') ks st')
  pub ended : EndedUnder p c (ran (step_at p') ks st')

-- the struck list of an isolated list, where the whole list ends
pub struck_reaches : (p p' : Program) (c : ℕ) (ls : List ℕ) (st st' : State) → Isolated p p' c ls st st' → Reaches p p' c (struck p c ls) st' (ran (step_at p) ls st)
unfolding Isolated select ran Allowed
struck_reaches p p' c [] st st' i = record { allowed = tt; same = i.0; ended = i.1 }
struck_reaches p p' c (l ∷ ls) st st' i = elim (truth (p.dom c l)) [
  | holds d ↦
      let (echo, rest) = i.1.0 d in
      let r = struck_reaches p p' c ls (step_at p l st) (step_at p' l st') rest in
      rw d (record { allowed = (may_step p' st' l echo.allowed, r.allowed); same = r.same; ended = r.ended })
  | fails e ↦ rw e (struck_reaches p p' c ls (step_at p l st) st' (i.1.1 e))
]

module _ (p : Program) (so : Sound p) (c : ℕ) (hc : c < p.levels) where
  -- the struck list is allowed, and ends as the whole list does
  pub struck_ends : (ls : List ℕ) (st st' t : State) → ForkInvariant p st → length st' ≡ p.levels → SameUnder p c st st' → Finishes p ls st t → Reaches p (seen_by c p) c (struck p c ls) st' t
  struck_ends ls st st' t o n same f =
      rw f.ends at (struck_reaches p (seen_by c p) c ls st st' (isolated p so c hc ls st st' t o n same f))

  -- where no manager is left at the levels that c dominates, nothing changes there any more
  pub finished_above : (ms : List ℕ) (st t : State) → ForkInvariant p st → EndedUnder p c st → Finishes p ms st t → SameUnder p c st t
  unfolding ran Allowed
  finished_above [] st t o ended f j hj d = ap (λ w. level_at w j) f.ends
  finished_above (l ∷ ms) st t o ended f j hj d =
      let m : MayStep p st l = f.allowed.0 in
      let rest : Finishes p ms (step_at p l st) t = record { allowed = f.allowed.1; ends = f.ends; over = f.over } in
      let hidden : p.dom c l ≡ false = refuted (p.dom c l) (λ e. not_both (has_manager (level_at st l)) (may_managed m) (ended l m.present e)) in
      let back : SameUnder p c st (step_at p l st) = λ j hj d. sym (unseen_step p so c hc l st o m.present hidden j hj d) in
      back j hj d
      ∙ finished_above ms (step_at p l st) t (step_preserves p l st so m.present o) (ended_same p c st (step_at p l st) back ended) rest j hj d

-- an allowed list goes on to one that finishes
pub record Continues (p : Program) (i : ℕ) (ks : List ℕ) (st : State) : Type 0 where
  pub more : List ℕ
  pub end : State
  pub run : run_from i p (ks ++ more) st ≡ finished end
  pub finishes : Finishes p more (ran (step_at p) ks st) end

pub continues : (p : Program) → Sound p → (ks : List ℕ) (i : ℕ) (st : State) → StateInvariant p st → OrderInvariant p st → Allowed (step_at p) (MayStep p) ks st → Continues p i ks st
unfolding ran Allowed
continues p so [] i st t o a =
    let (w, e) = plain_finishes p so (total st) i st t o (omega arith) in
    record { more = plain_from (total st) p st; end = w; run = e; finishes = finishes i p (plain_from (total st) p st) st w e }
continues p so (k ∷ ks) i st t o a =
    let m : MayStep p st k = a.0 in
    let r = continues p so ks (suc i) (step_at p k st) (steady_preserves p so st t k m.present (may_managed m)) (order_preserves p so st t o k m) a.1 in
    record { more = r.more; end = r.end; run = run_next i p k (ks ++ r.more) st m ∙ r.run; finishes = r.finishes }

-- a whole list that finishes, and what is left of it in what c sees of the program
module _ (p : Program) (so : Sound p) (few : p.levels ≤ max_levels) (root : Message) (c : ℕ) (hc : c < p.levels) (ls : List ℕ) (t : State) (e : run_of p root ls ≡ finished t) where
  whole : Finishes p ls (read_in p root) t
  unfolding run_of
  whole = finishes 0 p ls (read_in p root) t e

  -- both are read in alike
  read_in_same : SameUnder p c (read_in p root) (read_in (seen_by c p) root)
  unfolding read_in seen_by
  read_in_same j hj d = refl

  seen_steady : StateInvariant (seen_by c p) (read_in (seen_by c p) root)
  unfolding seen_by
  seen_steady = read_in_steady (seen_by c p) (seen_sound c p so) few root

  seen_size : length (read_in (seen_by c p) root) ≡ p.levels
  unfolding seen_by
  seen_size = seen_steady.fork_invariant.size

  pub seen_isolated : Isolated p (seen_by c p) c ls (read_in p root) (read_in (seen_by c p) root)
  seen_isolated =
      isolated p so c hc ls (read_in p root) (read_in (seen_by c p) root) t (read_in_lem p so few root) seen_size read_in_same whole

  -- the struck list goes on to one that finishes, and that one ends in the same at the levels that c dominates
  pub seen_same : (ms : List ℕ) × ((t' : State) × ((run_of (seen_by c p) root ms ≡ finished t') × SameUnder p c t t'))
  unfolding seen_by run_of
  seen_same =
      let p' = seen_by c p in
      let so' : Sound p' = seen_sound c p so in
      let st = read_in p' root in
      let ks = struck p c ls in
      let r : Reaches p p' c ks st t = struck_ends p so c hc ls (read_in p root) st t (read_in_lem p so few root) seen_size read_in_same whole in
      let i : StateInvariant p' (ran (step_at p') ks st) = kept State (step_at p') (Safe p') (StateInvariant p') (safe_commute p' so') ks st seen_steady (allowed_safe p' so' ks st seen_steady r.allowed) in
      let k : Continues p' 0 ks st = continues p' so' ks 0 st seen_steady (read_in_ordered p' so' few root) r.allowed in
      let above : SameUnder p' c (ran (step_at p') ks st) k.end = finished_above p' so' c hc k.more (ran (step_at p') ks st) k.end i.fork_invariant r.ended k.finishes in
      (ks ++ k.more, (k.end, (k.run, λ j hj d. r.same j hj d ∙ above j hj d)))

-- of an accepted session
module _ (s : List ℕ) (a : verdict_of s ≡ Accepted) (c : ℕ) (hc : c < level_count s) (ls : List ℕ) (t : State) (e : run_of (program_of s) (root_of s) ls ≡ finished t) where
  here : c < (program_of s).levels
  here = unfold program_of in hc

  few : (program_of s).levels ≤ max_levels
  few = unfold program_of in few_levels s (accepted s a).three

  -- Isolation: each step left is allowed in the emptied session and does the same there, and the last leaves no manager
  pub isolation : Isolated (program_of s) (program_of (emptied c s)) c ls (read_in (program_of s) (root_of s)) (read_in (program_of (emptied c s)) (root_of (emptied c s)))
  isolation = rw (emptied_program s c a, emptied_message s c) (seen_isolated (program_of s) (sound s a) few (root_of s) c here ls t e)

  -- the emptied session has a list that finishes, and ends in the same at the levels that c dominates
  pub same_under_emptied : (ms : List ℕ) × ((t' : State) × ((run_of (program_of (emptied c s)) (root_of (emptied c s)) ms ≡ finished t') × SameUnder (program_of s) c t t'))
  same_under_emptied = rw (emptied_program s c a, emptied_message s c) (seen_same (program_of s) (sound s a) few (root_of s) c here ls t e)
