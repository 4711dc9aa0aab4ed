use Rattle.std.proofs.Common.{◌+◌, ◌*◌, arith}
use Rattle.bit_sets.proofs.Counts.{counted_none, counted_more, counted_few, counted_all}
use Rattle.bit_sets.proofs.groups.count_bits.Goals as goal

pub loop-index-init : goal.loop-index-init
loop-index-init c = counted_none c.args.words.now c.args.from c.args.to

pub overflow_add-count : goal.overflow_add-count
overflow_add-count c = record {
  fits = omega (
    arith,
    c.ranges.to.fits,
    counted_more c.args.words.now c.args.from c.args.to c.loop-index.index c.get.result c.mask_of.result c.loop-index.count c.get.ensures
        c.mask_of.ensures c.mask_of.type_inv c.loop-index.invariant,
    counted_few c.args.words.now c.args.from c.args.to (64 * (c.loop-index.index + 1)),
  );
}

pub loop-index-preserved : goal.loop-index-preserved
loop-index-preserved c =
    counted_more c.args.words.now c.args.from c.args.to c.loop-index.index c.get.result c.mask_of.result c.loop-index.count c.get.ensures
    c.mask_of.ensures c.mask_of.type_inv c.loop-index.invariant

pub returns : goal.returns
returns c =
    counted_all c.args.words.now c.args.from c.args.to c.loop-index.index c.div_ceil-index-end.result c.loop-index.count
    c.div_ceil-index-end.ensures c.loop-index-test.false c.loop-index.invariant
