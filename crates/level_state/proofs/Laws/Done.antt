-- A step that is done in a run's state: outside its manager, and then its history is kept.
use mathlib.Core.Path.{◌≡◌, sym}
use mathlib.Core.List.{List}
use Prim.Native.Nat.{ℕ}
use Rattle.cores.specs.Core.{effect_of}
use Rattle.cores.specs.declared.Core.{Core}
use Rattle.level_state.specs.declared.RunState.{RunState}
use Rattle.level_state.specs.Representation.{words_of}
use Rattle.level_state.specs.Steps.{parts_of, Performed, CoreSettled, StepDone}
use Rattle.level_state.proofs.Laws.Made.{performed_nothing}
use Rattle.scripts.specs.Effect as effect

module _ {a c : RunState} {work : List ℕ} {l : ℕ} {m : Core} where
  pub step_done : {b : RunState} {work' : List ℕ} → Performed (parts_of (words_of a work)) (parts_of (words_of b work')) l m.first m.forks (effect_of m.effect) → b.ended ≡ a.ended → CoreSettled b.ended c.ended b.tallies c.tallies b.queue l m → (c.current ≡ b.current) × (c.queue ≡ b.queue) → StepDone (words_of a work) (words_of c work') l m
  step_done {b} p same z rest =
      record { tallies = b.tallies; performed = rw (rest.0, rest.1) p; settled = rw (sym same, rest.1) z }

  -- nothing is done outside
  pub nothing_done : effect_of m.effect ≡ effect.Nothing → CoreSettled a.ended c.ended a.tallies c.tallies a.queue l m → (c.current ≡ a.current) × (c.queue ≡ a.queue) → StepDone (words_of a work) (words_of c work) l m
  nothing_done nothing z rest =
      record { tallies = a.tallies; performed = rw (rest.0, rest.1) (performed_nothing (parts_of (words_of a work)) l m.first m.forks (effect_of m.effect) nothing); settled = rw rest.1 z }
