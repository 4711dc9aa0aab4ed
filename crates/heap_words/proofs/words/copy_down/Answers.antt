use Rattle.std.proofs.Common.{◌-◌, arith, refl}
use Rattle.heap_words.proofs.Blocks.{none_moved, more_moved, all_moved}
use Rattle.heap_words.proofs.words.copy_down.Goals as goal

pub loop-done-init : goal.loop-done-init
loop-done-init c = none_moved _ _ _ _

pub loop-done-preserved : goal.loop-done-preserved
loop-done-preserved c =
    let more = c.loop-done-test.true in
    more_moved _ _ _ _ _ _ _ (c.args.from - c.args.to) _ c.requires.below c.requires.source (omega (arith, more))
    refl c.loop-done.invariant c.copy_piece.ensures

pub returns : goal.returns
returns c =
    let within = c.loop-done.invariant.within in
    all_moved _ _ c.args.from c.args.to c.args.size c.args.size (omega arith)
    (more_moved _ _ _ _ _ c.args.size c.loop-done.done (c.args.size - c.loop-done.done) c.args.size c.requires.below c.requires.source
    (omega (arith, within)) (omega (arith, within)) c.loop-done.invariant c.copy_piece-2.ensures)
