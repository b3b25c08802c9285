-- What a run takes from an accepted session is sound. Assumes nothing.
use Prim.Native.Nat.{ℕ}
use mathlib.Core.Path.{◌≡◌}
use mathlib.Core.List.{List}
use Rattle.session.specs.Questions.{verdict_of, Accepted}
use Rattle.session.specs.Meaning.{root_of}
use Rattle.session.specs.Program.{program_of}
use Rattle.session.proofs.Laws.Numbering.{few_levels}
use Rattle.session.proofs.Laws.Verdict.{accepted}
use Rattle.scripts.proofs.Laws.Effects.{Sound}
use Rattle.scripts.proofs.Laws.Accepted.{program_sound}
use Rattle.model.specs.Step.{State}
use Rattle.model.specs.Schedule.{finished, run_of}
use Rattle.theorems.proofs.Laws.Order.ReadIn.{one_result}

module _ (s : List ℕ) (a : verdict_of s ≡ Accepted) where
  pub sound : Sound (program_of s)
  sound = program_sound s a

  -- any two timetables of an accepted session that finish end in the same state
  pub any_order : (ls ks : List ℕ) (t w : State) → run_of (program_of s) (root_of s) ls ≡ finished t → run_of (program_of s) (root_of s) ks ≡ finished w → t ≡ w
  any_order = one_result (program_of s) sound (unfold program_of in few_levels s (accepted s a).three) (root_of s)
