-- What the start of a manager needs is there. Assumes nothing.
use Prim.Native.Nat.{ℕ, ◌^◌, ◌≤◌, ◌<◌}
use mathlib.Core.Path.{◌≡◌}
use mathlib.Core.List.{List}
use native.Mathlib.Omega.{arith}
use Rattle.session.specs.Limits.{max_levels}
use Rattle.session.specs.Parts.{level_count, object_count}
use Rattle.session.specs.Questions.{verdict_of, Accepted}
use Rattle.session.proofs.Laws.Numbering.{few_levels, few_objects}
use Rattle.session.proofs.Laws.Numbers.{number_few}
use Rattle.session.proofs.Laws.Verdict.{accepted}
use Rattle.scripts.specs.Existence.{existence}
use Rattle.fields.specs.Fields.{script_in, FieldThere}
use Rattle.progress.specs.Starts.{StartReady}
use Rattle.progress.specs.declared.Fork as fork

pub few : (s : List ℕ) → verdict_of s ≡ Accepted → level_count s ≤ max_levels
few s a = few_levels s (accepted s a).three

-- what it needs is there
module _ {s index c t : List ℕ} {f : fork.Fork} (h : StartReady s index c t f) where
  abbrev yes : verdict_of s ≡ Accepted
  yes = h.indexed.accepted

  pub level_low : f.level < max_levels
  level_low = omega (arith, h.startable.placed, few s yes)

  pub script_there : FieldThere c f.message.object existence
  script_there =
      record { room = h.fields_there; object = number_few s yes f.message.object h.startable.present; field = omega arith }

  pub script_low : script_in c f.message.object ≤ object_count s
  script_low = h.scripted f.message.object (number_few s yes f.message.object h.startable.present)

  pub script_small : script_in c f.message.object < 2 ^ 8
  script_small = omega (arith, script_low, few_objects s (accepted s yes).three)
