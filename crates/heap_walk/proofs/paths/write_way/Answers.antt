use Rattle.std.proofs.Common.{◌+◌, refl, arith}
use Rattle.heap_walk.proofs.Places.{set_length}
use Rattle.heap_walk.proofs.Ways.{writing_first, writing_next, writing_last}
use Rattle.heap_walk.proofs.paths.write_way.Goals as goal

pub loop-place-init : goal.loop-place-init
loop-place-init c =
    writing_first c.args.core.now c.args.steps.now c.args.root c.args.at c.args.room c.args.depth 0 c.args.at refl refl c.requires.positive
    c.requires.within c.requires.room c.requires.chain

pub loop-place-preserved : goal.loop-place-preserved
loop-place-preserved c =
    writing_next c.args.core.now c.args.steps.now c.loop-place.steps c.args.root c.step_at-step.result c.args.at c.args.room c.args.depth
    c.loop-place.place c.loop-place.left (c.loop-place.place + 1) c.step_at-step.result.mutator c.loop-place.invariant
    c.loop-place-test.true
    (let same = set_length c.args.steps.now 0 c.args.root in omega (arith, same, c.loop-place.auto.steps, c.requires.room))
    c.step_at-step.ensures refl refl

pub returns-clause-way : goal.returns-clause-way
returns-clause-way c = λ m n first last root.
    writing_last c.args.core.now c.args.steps.now c.loop-place.steps c.args.root c.args.at c.args.room c.args.depth c.loop-place.place
    c.loop-place.left c.loop-place.invariant (omega (arith, c.loop-place-test.false)) (omega (arith, c.loop-place.auto.place-end)) m n first
    last root
