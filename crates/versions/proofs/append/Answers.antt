use Rattle.std.proofs.Common.{◌+◌, ◌*◌, ap₂, arith}
use Rattle.model.specs.Level.{Version}
use Rattle.versions.specs.Log.{stamp_unit}
use Rattle.versions.proofs.Laws.Log.{appended}
use Rattle.versions.proofs.append.Goals as goal

pub returns : goal.returns
returns c =
    let a = c.args in
    let v : Version = record { stamp = a.stamp; object = a.object; field = a.field; value = a.value } in
    appended a.work.now a.level a.count v _ _ c.requires (omega (arith, c))
    (ap₂ (λ k t. k + stamp_unit * a.stamp + t) c.key_of.ensures c.tag_of.ensures.0)
    c.number_in.ensures
