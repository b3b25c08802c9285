-- How a core stands once no frame above the first is at its script's end. Assumes nothing.
use Prim.Native.Nat.{◌≤◌, ◌<◌}
use mathlib.Core.Path.{◌≡◌, refl}
use mathlib.Core.Bool.{true, false}
use borrow.Author.Tests.{lt-ltb, le-ltb}
use lib.Dec.{leb}
use Rattle.std.specs.Prelude.{None}
use Rattle.scripts.specs.Limits.{max_script_steps}
use Rattle.scripts.specs.Ending.{is_running}
use Rattle.scripts.specs.declared.Ending.TheVariants.{Finished, OutOfSteps}
use Rattle.cores.specs.Moves.{stood_as, closed_as}
use Rattle.cores.specs.declared.Core.{Core}

-- one that has ended stands as it was
module _ (c : Core) where
  pub closed_over : is_running c.ending ≡ false → closed_as c ≡ c
  closed_over e = rw e refl

  -- its last frame at the end
  pub closed_last : is_running c.ending ≡ true → leb c.top.count c.top.next ≡ true → closed_as c ≡ stood_as c 0 Finished None
  closed_last e q = rw (e, q) refl

  -- its top going on, with steps left
  pub closed_unfinished : is_running c.ending ≡ true → leb c.top.count c.top.next ≡ false → c.steps < max_script_steps → closed_as c ≡ c
  closed_unfinished e q h = rw (e, q, lt-ltb c.steps max_script_steps h) refl

  -- and with none
  pub closed_out : is_running c.ending ≡ true → leb c.top.count c.top.next ≡ false → max_script_steps ≤ c.steps → closed_as c ≡ stood_as c c.height OutOfSteps c.reply
  closed_out e q h = rw (e, q, le-ltb c.steps max_script_steps h) refl
