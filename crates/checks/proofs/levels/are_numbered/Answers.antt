use native.Mathlib.Omega.{arith}
use Rattle.std.proofs.lemmas.Grind.{common_steps}
use Rattle.session.proofs.Laws.Parts.{below_5}
use Rattle.checks.proofs.Laws.Counted.{question3_is}
use Rattle.checks.proofs.levels.are_numbered.Goals as goal

pub is_numbered-requires : goal.is_numbered-requires
is_numbered-requires c = omega (arith, below_5 c.args.session.now c.requires.session_value)

pub is_numbered-requires-then-is_numbered : goal.is_numbered-requires-then-is_numbered
is_numbered-requires-then-is_numbered c = omega (arith, below_5 c.args.session.now c.requires.session_value)

pub is_padded-requires : goal.is_padded-requires
is_padded-requires c = omega (arith, below_5 c.args.session.now c.requires.session_value)

pub returns-then-is_numbered-2 : goal.returns-then-is_numbered-2
returns-then-is_numbered-2 c =
    let q = question3_is c.requires.session_value c.requires.counted in
    grind (arith, common_steps)

pub returns-else-is_numbered-2 : goal.returns-else-is_numbered-2
returns-else-is_numbered-2 c =
    let q = question3_is c.requires.session_value c.requires.counted in
    grind (arith, common_steps)
