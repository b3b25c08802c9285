use Prim.Native.Nat.{◌+◌, ◌≤◌, ◌<◌}
use native.Mathlib.Nat.{le_antisymm}
use native.Mathlib.Omega.{arith}
use Rattle.session.specs.Parts.{level_count, object_count, step_count}
use Rattle.session.proofs.Laws.Parts.{key_at}
use Rattle.session.proofs.Laws.Contents.{counts}
use Rattle.contents.proofs.Laws.Methods.{start_last, before_start, from_start}
use Rattle.contents.proofs.method_start.Goals as goal

pub key_at-requires : goal.key_at-requires
key_at-requires c =
    omega (arith, counts c.args.session.now c.requires.session_value, c.requires.end_value)

pub returns-then-key-key_at : goal.returns-then-key-key_at
returns-then-key-key_at c =
    let t = c.args.session.now in
    let at = c.loop-r in
    let in_range : at.r < level_count t + object_count t + step_count t = omega (arith, c.requires.end_value) in
    let high : c.args.key ≤ key_at t at.r = rw c.key_at.ensures at c.if-key-key_at.true in
    le_antisymm at.invariant.1 (from_start t c.requires.session_value c.args.key at.r at.invariant.0 in_range high)

pub loop-r-preserved : goal.loop-r-preserved
loop-r-preserved c =
    let t = c.args.session.now in
    let at = c.loop-r in
    let in_range : at.r < level_count t + object_count t + step_count t = omega (arith, c.requires.end_value) in
    let low : key_at t at.r < c.args.key = rw c.key_at.ensures at c.if-key-key_at.false in
    (omega arith, omega (arith, before_start t c.requires.session_value c.args.key at.r at.invariant.0 in_range low))

pub returns : goal.returns
returns c =
    omega (arith, start_last c.args.session.now c.requires.session_value c.args.key, c.requires.end_value)
