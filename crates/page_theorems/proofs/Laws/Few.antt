-- How many histories a result shows. Assumes nothing.
use Prim.Native.Nat.{ℕ, ◌*◌, ◌≤◌}
use mathlib.Core.Path.{◌≡◌, ap}
use mathlib.Core.List.{List, [], ◌∷◌, map}
use native.Mathlib.Omega.{arith}
use lib.ListN.{length, length-append, length-map}
use Rattle.session.specs.Limits.{max_levels}
use Rattle.lists.specs.Lists.{tab, joined}
use Rattle.session.specs.Record.{Record}
use Rattle.session.specs.Meaning.{root_of}
use Rattle.session.specs.Program.{Program, program_of}
use Rattle.session.specs.Questions.{verdict_of, Accepted}
use Rattle.lists.proofs.Laws.Lists.{select-length, length-tab}
use Rattle.session.proofs.Laws.Verdict.{accepted}
use Rattle.session.proofs.Laws.Numbering.{few_levels}
use Rattle.model.specs.Limits.{max_managers}
use Rattle.model.specs.Step.{level_at}
use Rattle.model.specs.Schedule.{read_in, run_of, plain_order}
use Rattle.model.specs.DepthFirst.{tally_at, depth_first}
use Rattle.model.specs.Result.{Result, history_record, levels_shown, histories_shown}
use Rattle.theorems.proofs.Laws.Invariant.Measure.{Bounded}
use Rattle.theorems.proofs.Laws.Order.Accepted.{sound}
use Rattle.theorems.proofs.Laws.Order.Finish.{finishes}
use Rattle.theorems.proofs.Laws.Order.PlainRun.{accepted_plain}
use Rattle.theorems.proofs.Laws.Deep.Root.{deep_run, deep_end, same_result}

-- groups of at most 32
groups_few : (g : ℕ → List Record) → ((l : ℕ) → length (g l) ≤ max_managers) → (ls : List ℕ) → length (joined (map g ls)) ≤ max_managers * length ls
unfolding joined
groups_few g h [] = omega arith
groups_few g h (l ∷ ls) = rw length-append (omega (arith, h l, groups_few g h ls))

-- "at most 8 levels", "A level keeps the 32 forks": at most 256 histories
pub histories_few : (p : Program) (r : Result) (c : ℕ) → p.levels ≤ max_levels → ((l : ℕ) → length (r.ended l) ≤ max_managers) → length (histories_shown p r c) ≤ max_levels * max_managers
unfolding histories_shown
histories_few p r c few h =
    let shown : length (levels_shown p c) ≤ length (tab p.levels (λ (l : ℕ). l)) = select-length (p.dom c) (tab p.levels (λ l. l)) in
    let all : length (tab p.levels (λ (l : ℕ). l)) ≡ p.levels = length-tab p.levels (λ l. l) in
    omega (
      arith,
      few,
      shown,
      all,
      groups_few (λ l. map (history_record l) (r.ended l)) (λ l. omega (arith, h l, length-map (r.ended l) (history_record l))) (levels_shown p c),
    )

module _ (s : List ℕ) (a : verdict_of s ≡ Accepted) where
  pub few : (program_of s).levels ≤ max_levels
  few = unfold program_of in few_levels s (accepted s a).three

  -- the managers of a level that have ended
  pub ended_few : (l : ℕ) → length (tally_at (depth_first (program_of s) (root_of s)) l).ended ≤ max_managers
  unfolding run_of
  ended_few l =
      let p = program_of s in
      let root = root_of s in
      let so = sound s a in
      let ls = plain_order p root in
      let t = (accepted_plain s a).0 in
      let e = (accepted_plain s a).1 in
      let same : length (level_at t l).ended ≡ length (tally_at (depth_first p root) l).ended = ap (λ r. length (r.ended l)) (same_result p so few root ls t e) in
      let end : t ≡ (deep_run p so few root).to = deep_end p so few root ls t (finishes 0 p ls (read_in p root) t e) in
      let b : Bounded (level_at t l) = rw end ((deep_run p so few root).done.steady.bounded l) in
      omega (arith, same, b.room)
