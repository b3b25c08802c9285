use mathlib.Core.Path.{sym, ◌∙◌}
use native.Mathlib.Omega.{arith}
use borrow.Author.Tests.{eqb-true}
use Rattle.session.proofs.Laws.Contents.{object_limit}
use Rattle.level_state.proofs.Laws.Made.{script_few, script_own, script_read}
use Rattle.level_reads.proofs.script_of.Goals as goal

pub own_script-requires : goal.own_script-requires
own_script-requires g c =
    let p = c.requires in
    script_few p.leveled p.readable p.named

pub returns-then-is_unchanged : goal.returns-then-is_unchanged
returns-then-is_unchanged g c =
    let p = c.requires in
    script_own p.leveled p.readable p.named (eqb-true _ 0 (sym c.is_unchanged.ensures ∙ c.if-is_unchanged.true)) c.own_script.ensures

pub overflow_cast-result : goal.overflow_cast-result
overflow_cast-result g c =
    let p = c.requires in
    let read = script_read p.leveled p.readable p.named c.existence_of-existence.ensures in
    omega (arith, read.1, c.number_in.ensures, object_limit c.args.session.now p.leveled.accepted)

pub returns : goal.returns
returns g c =
    let p = c.requires in
    rw c.number_in.ensures (script_read p.leveled p.readable p.named c.existence_of-existence.ensures)
