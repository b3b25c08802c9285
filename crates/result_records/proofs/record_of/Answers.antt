use native.Mathlib.Omega.{arith}
use Rattle.result_records.proofs.Laws.Bytes.{record_bytes_lem}
use Rattle.result_records.proofs.record_of.Goals as goal

pub returns : goal.returns
returns c =
    let g = c.args in
    record_bytes_lem g.kind g.second g.third g.fourth g.a g.b g.c (omega (arith, c)) (omega (arith, c)) (omega (arith, c))
