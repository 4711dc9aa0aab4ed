use Rattle.std.proofs.Common.{arith}
use Rattle.bit_sets.proofs.BitRanges.{mask_is}
use Rattle.bit_sets.proofs.groups.mask_of.Goals as goal

pub returns : goal.returns
returns c = mask_is c.args.index c.args.from c.args.to c.saturating_sub-low.result c.min-high.result c.requires.starts c.requires.ends
    (omega (arith, c.saturating_sub-low.ensures)) (omega (arith, c.min-high.ensures))
