use Rattle.std.proofs.Common.{◌≡◌, ◌+◌, ◌<◌, ◌∙◌, ℕ, length, ap, arith, refl, length-set, slice_set}
use Rattle.std.proofs.lemmas.List.{get_or_read}
use Rattle.mutators.specs.Scripts.{scripted}
use Rattle.mutators.proofs.Filling.{counted}
use Rattle.mutators.proofs.Lines.{lines_few}
use Rattle.mutators.proofs.journal.rooms_of.Goals as goal

pub overflow_add-index : goal.overflow_add-index
overflow_add-index c =
    let was = c.loop-step.invariant in
    let p = c.place_of-place.result in
    let len = was.0 in
    let low = c.place_of-place.ensures.within in
    let row : p < length c.loop-step.rooms.items = omega (arith, len, low) in
    let here = get_or_read c.loop-step.rooms.items p c.index.result.now row c.index.ensures 0 in
    let so_far = was.1 p low in
    let few = lines_few (scripted c.args.config.now.mutators p) c.args.steps.now c.loop-step.step-index in
    omega (arith, here, so_far, few, c.loop-step-test.true)

pub loop-step-preserved : goal.loop-step-preserved
loop-step-preserved c =
    let was = c.loop-step.invariant in
    let p = c.place_of-place.result in
    let len = was.0 in
    let low = c.place_of-place.ensures.within in
    let row : p < length c.loop-step.rooms.items = omega (arith, len, low) in
    let here = get_or_read c.loop-step.rooms.items p c.index.result.now row c.index.ensures 0 in (
      length-set c.loop-step.rooms.items p (c.index.result.now + 1) ∙ len,
      counted c.args.config.now.mutators c.loop-step.rooms.items (slice_set c.loop-step.rooms.items p (c.index.result.now + 1))
          c.args.steps.now c.loop-step.step-index p (c.index.result.now + 1) _ _ len low c.place_of-place.ensures.is
          c.loop-step-test.true refl (ap (λ (n : ℕ). n + 1) here) refl was.1,
    )
