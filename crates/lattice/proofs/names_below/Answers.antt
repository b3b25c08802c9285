-- A mask of 16 bits is below 2 ^ 16.
use Rattle.std.proofs.Common.{sym, ◌∙◌, ◌^◌, le_trans, le-leb, lt-ltb}
use lib.Pow.{pow_mono}
use Rattle.dominance.proofs.Laws.Table as table
use Rattle.lattice.proofs.names_below.Goals as goal

pub returns-then-levels-ge-WIDTH : goal.returns-then-levels-ge-WIDTH
returns-then-levels-ge-WIDTH c =
    le-leb _ _ c.if-levels-ge-WIDTH.true ∙ sym (lt-ltb c.args.mask (2 ^ c.args.levels) (le_trans c.ranges.mask.fits (pow_mono c.if-levels-ge-WIDTH.true)))

pub returns-else-levels-ge-WIDTH : goal.returns-else-levels-ge-WIDTH
returns-else-levels-ge-WIDTH c = table.names-below c.args.mask c.args.levels
