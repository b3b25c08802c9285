-- The histories of a run that finished, and so of the depth-first run, are within the limits of a run. Assumes nothing.
use Prim.Native.Nat.{ℕ, suc, ◌+◌, ◌*◌, ◌≤◌, ◌<◌}
use mathlib.Core.Path.{◌≡◌, refl, sym, ap}
use mathlib.Core.Bool.{Bool, true, false}
use mathlib.Core.List.{List, [], ◌∷◌}
use native.Mathlib.Omega.{arith}
use borrow.Author.Tests.{eqb-true, not-true}
use lib.Dec.{eqb}
use lib.ListN.{length}
use Rattle.lists.proofs.Laws.Range.{not_both, all_each}
use Rattle.session.specs.Parts.{level_count}
use Rattle.session.specs.Questions.{verdict_of, Accepted}
use Rattle.session.specs.Meaning.{root_of}
use Rattle.session.specs.Program.{program_of}
use Rattle.lists.proofs.Laws.Lists.{holds, fails, truth}
use Rattle.session.proofs.Laws.Numbering.{few_levels}
use Rattle.session.proofs.Laws.Verdict.{accepted}
use Rattle.scripts.specs.Limits.{max_forks}
use Rattle.model.specs.Limits.{max_managers}
use Rattle.model.specs.History.{History, Limited, AllLimited}
use Rattle.model.specs.Level.{idle, Level, has_manager}
use Rattle.model.specs.Step.{State, level_at, step_at}
use Rattle.model.specs.Schedule.{question14, question15, step_refusal, Outcome, finished, refused, run_under, run_from, run_of, plain_order}
use Rattle.model.specs.DepthFirst.{depth_first, tally_at}
use Rattle.lists.specs.Each.{Each}
use Rattle.lists.proofs.Laws.Each.{each_both}
use Rattle.theorems.proofs.Laws.Invariant.WriteStamps.{stamp_by, write_stamp}
use Rattle.theorems.proofs.Laws.Order.Accepted.{sound}
use Rattle.theorems.proofs.Laws.Order.PlainRun.{accepted_plain}
use Rattle.theorems.proofs.Laws.Deep.Root.{same_result}
use Rattle.theorems.proofs.Laws.Code.Bounds.{PacedBy, Paced}
use Rattle.theorems.proofs.Laws.Code.Reached.{Kept, ReachedState, present, live_start, live_step}
use Rattle.theorems.proofs.Laws.Code.Progress.{allowed, unmanaged_idle}

abbrev is_finished : Outcome → Bool
is_finished (finished st) = true
is_finished (refused number place) = false

abbrev end_of : State → Outcome → State
end_of d (finished st) = st
end_of d (refused number place) = d

-- the state in which a list finishes is reached, and all managers have ended there
pub record EndReached (s : List ℕ) (t : State) : Type 0 where
  pub reached : ReachedState s t
  pub over : question15 (program_of s) t ≡ true

pub run_reached : (s : List ℕ) (a : verdict_of s ≡ Accepted) (i : ℕ) (ls : List ℕ) (st t : State) → ReachedState s st → run_from i (program_of s) ls st ≡ finished t → EndReached s t
unfolding run_under
run_reached s a i [] st t r e = elim (truth (question15 (program_of s) st)) [
  | holds q ↦
      let same : st ≡ t = ap (end_of st) (rw q at e) in
      rw (sym same) (record { reached = r; over = q })
  | fails q ↦ absurd (not_both false (ap is_finished (rw q at e)) refl)
]
run_reached s a i (l ∷ ls) st t r e = elim (truth (eqb (step_refusal (program_of s) st l) 0)) [
  | holds q ↦
      let ok = eqb-true (step_refusal (program_of s) st l) 0 q in
      run_reached s a (suc i) ls (step_at (program_of s) l st) t (live_step s a st r l (unfold program_of in (allowed question14 (program_of s) st l ok).0) ok) (rw q at e)
  | fails q ↦ absurd (not_both false (ap is_finished (rw q at e)) refl)
]

-- the write stamps of a level where all managers have ended
stamps_low : (v : Level) → v.activity ≡ idle → length v.ended ≤ max_managers → Paced v → write_stamp v ≤ 1 + max_managers * (max_forks + 1)
stamps_low v q h b =
    let idly : PacedBy idle v.next (length v.ended) (length v.versions) = rw q at b in
    let now : write_stamp v ≡ v.next = ap (λ a. stamp_by a v.next) q in
    omega (arith, now, idly.0, h)

limited_each : (hs : List History) → Each Limited hs → AllLimited hs
unfolding Each
limited_each [] e = tt
limited_each (h ∷ hs) e = (e.0, limited_each hs e.1)

pub histories_limited : (s : List ℕ) (a : verdict_of s ≡ Accepted) (l : ℕ) → l < level_count s → AllLimited (tally_at (depth_first (program_of s) (root_of s)) l).ended
unfolding run_of question15
histories_limited s a l h =
    let p = program_of s in
    let (t, run) = accepted_plain s a in
    let r = run_reached s a 0 (plain_order p (root_of s)) _ t (live_start s a) run in
    let same = ap (λ r. r.ended l) (same_result p (sound s a) (unfold program_of in few_levels s (accepted s a).three) (root_of s) (plain_order p (root_of s)) t run) in
    rw same at (limited t r.reached (quiet t r.over))
  where
    quiet : (t : State) → question15 (program_of s) t ≡ true → (level_at t l).activity ≡ idle
    quiet t e = unmanaged_idle (level_at t l) (not-true (has_manager (level_at t l)) (all_each (program_of s).levels _ e l (present s l h)))

    limited : (t : State) → ReachedState s t → (level_at t l).activity ≡ idle → AllLimited (level_at t l).ended
    limited t r q =
        let v = level_at t l in
        let room = (r.reachable.steady.bounded l).room in
        let low = stamps_low v q (omega (arith, room)) (r.reachable.paced l (present s l h)) in
        limited_each v.ended (each_both Kept (λ h. h.last < write_stamp v) Limited
        (λ h k g. record { stamp = k.stamp; writes = k.writes; first = k.first; last = omega (arith, g, low); steps = k.steps }) v.ended (r.ended l h) (r.reachable.steady.stamped.ended l (present s l h)))
