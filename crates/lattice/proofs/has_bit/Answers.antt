-- A mask of 16 bits has none from 16 on.
use Rattle.std.proofs.Common.{sym, ◌∙◌, le_trans, le-ltb}
use lib.Pow.{pow_mono}
use Rattle.dominance.proofs.Laws.Table.{bit_beyond}
use Rattle.lattice.proofs.has_bit.Goals as goal

pub returns-else-k-lt-WIDTH : goal.returns-else-k-lt-WIDTH
returns-else-k-lt-WIDTH c =
    le-ltb _ _ c.if-k-lt-WIDTH.false ∙ sym (bit_beyond c.args.mask c.args.k (le_trans c.ranges.mask.fits (pow_mono c.if-k-lt-WIDTH.false)))
