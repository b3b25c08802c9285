-- `Session::new`: the front of the lent index is the method index.
use Rattle.std.proofs.Common.{◌+◌, ◌∙◌, sym, ap, length}
use lib.ListN.{take}
use Rattle.session.specs.Limits.{max_methods}
use Rattle.contents.proofs.Laws.Methods.{index_length, index_front}
use Rattle.contents.proofs.Session.new.Goals as goal

pub slice_bounds-result-end : goal.slice_bounds-result-end
slice_bounds-result-end c =
    sym (ap (λ l. length (take (max_methods + 1) l)) c.index_methods.ensures
    ∙ ap length (index_front c.args.bytes.now c.requires.accepted _)
    ∙ index_length c.args.bytes.now c.requires.accepted)

pub invariant_of-result-clause-index_is : goal.invariant_of-result-clause-index_is
invariant_of-result-clause-index_is c =
    ap (take (max_methods + 1)) c.index_methods.ensures ∙ index_front c.args.bytes.now c.requires.accepted _
