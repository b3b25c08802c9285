-- The plain run of an accepted session is never refused. Assumes nothing.
use Prim.Native.Nat.{ℕ, zero, suc, ◌*◌, ◌≤◌}
use mathlib.Core.Path.{◌≡◌, refl}
use mathlib.Core.List.{List}
use native.Mathlib.Omega.{arith}
use lib.ListN.{replicate}
use Rattle.session.specs.Questions.{verdict_of, Accepted}
use Rattle.session.specs.Meaning.{root_of}
use Rattle.session.specs.Program.{Program, program_of}
use Rattle.session.specs.declared.Message.{Message}
use Rattle.session.proofs.Laws.Verdict.{accepted}
use Rattle.session.proofs.Laws.Numbering.{few_levels}
use Rattle.session.specs.Limits.{max_levels}
use Rattle.scripts.proofs.Laws.Effects.{Sound}
use Rattle.model.specs.Limits.{max_schedule}
use Rattle.model.specs.Fork.{root_fork}
use Rattle.model.specs.Level.{new_level}
use Rattle.model.specs.Step.{State}
use Rattle.model.specs.Schedule.{read_in, finished, run_of, plain_order}
use Rattle.theorems.proofs.Laws.Invariant.Bounded.{total, total_arrived}
use Rattle.theorems.proofs.Laws.Order.Plain.{plain_finishes}
use Rattle.theorems.proofs.Laws.Order.ReadIn.{read_in_steady, read_in_ordered}
use Rattle.theorems.proofs.Laws.Order.Accepted.{sound}

-- each level has room for 32 managers of 257 scheduler steps
total_new : (n : ℕ) → total (replicate n new_level) ≡ n * 8224
unfolding total
total_new zero = refl
total_new (suc n) = omega (arith, total_new n)

module _ (p : Program) (so : Sound p) (few : p.levels ≤ max_levels) (root : Message) where
  pub read_in_total : total (read_in p root) ≤ max_schedule
  unfolding read_in
  read_in_total =
      rw (total_arrived (p.level root.object) (root_fork p.levels root) (replicate p.levels new_level), total_new p.levels) (omega (arith, few))

  -- the plain order is a list that finishes
  pub plain_run : (t : State) × (run_of p root (plain_order p root) ≡ finished t)
  unfolding run_of plain_order
  plain_run =
      plain_finishes p so max_schedule 0 (read_in p root) (read_in_steady p so few root) (read_in_ordered p so few root) read_in_total

-- so an accepted session has one
pub accepted_plain : (s : List ℕ) → verdict_of s ≡ Accepted → (t : State) × (run_of (program_of s) (root_of s) (plain_order (program_of s) (root_of s)) ≡ finished t)
accepted_plain s a =
    plain_run (program_of s) (sound s a) (unfold program_of in few_levels s (accepted s a).three) (root_of s)
