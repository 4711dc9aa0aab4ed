use Rattle.std.proofs.Common.{arith}
use Rattle.regions.proofs.Cards.FirstTiles.{block_written, written_none, written_more, filled}
use Rattle.regions.proofs.first_tiles.fill_more.Goals as goal

pub full-init : goal.full-init
full-init c = record { low = omega arith; small = omega (arith, c.ranges.from.fits); words = written_none _ _ _ _ }

pub fill_block-requires : goal.fill_block-requires
fill_block-requires c =
    let w = c.full.invariant in
    omega (arith, c.full-test.true, c.saturating_sub-past.ensures, c.requires, w.words.len)

pub full-preserved : goal.full-preserved
full-preserved c =
    let w = c.full.invariant in
    record {
      low = omega (arith, w.low);
      small = omega (arith, c.full-test.true, c.saturating_sub-past.ensures, c.ranges.to.fits);
      words = block_written _ _ _ _ _ _ _ _ w.low (omega arith)
          (omega (arith, c.full-test.true, c.saturating_sub-past.ensures)) c.fill_block.ensures.len
          c.fill_block.ensures.entries w.words;
    }

pub loop-card-init : goal.loop-card-init
loop-card-init c = (c.full.invariant.low, c.full.invariant.words)

pub loop-card-preserved : goal.loop-card-preserved
loop-card-preserved c =
    let w = c.loop-card.invariant in
    (omega (arith, w.0), written_more _ _ _ _ _ _ w.0 c.loop-card-test.true (omega (arith, c.loop-card-test.true, c.requires)) w.1)

pub returns-clause-entries : goal.returns-clause-entries
returns-clause-entries c n = filled _ _ _ _ _ _ c.loop-card-test.false c.loop-card.invariant.1 n
