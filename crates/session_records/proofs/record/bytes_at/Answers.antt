use mathlib.Core.Path.{ap}
use native.Mathlib.Omega.{arith}
use Rattle.std.proofs.Common.{◌*◌, ◌+◌, ◌<◌, ◌-◌, get_or, get_or-take, get_or-drop}
use Rattle.session.proofs.Laws.Record.{byte_is}
use Rattle.session_records.proofs.record.bytes_at.Goals as goal

pub returns : goal.returns
returns g c i h =
    let chunk = rw c.unwrap.ensures at c.try_into.ensures.1 in
    let inside : i < 16 * c.args.r + c.args.k + g.row.N - (16 * c.args.r + c.args.k) = omega arith in
    rw (chunk.same, byte_is c.args.session.now c.args.r (c.args.k + i) (omega arith)) (rw (get_or-take, get_or-drop) (ap (λ n. get_or c.args.session.now n 0) (omega arith)))
