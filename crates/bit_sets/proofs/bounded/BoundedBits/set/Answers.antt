use Rattle.std.proofs.Common.{◌<◌, ◌+◌, length}
use Rattle.bit_sets.proofs.Bounds.{AreWide, within_set}
use Rattle.bit_sets.proofs.bounded.BoundedBits.set.Goals as goal

pub invariant_of-self : goal.invariant_of-self
invariant_of-self c =
    let inside : c.args.number < length c.self.inside.bits = rw c.self.view_is c.requires in
    let w : AreWide c.self.inside.low c.self.inside.high c.args.number (c.args.number + 1) c.widened-low.result.0 c.widened-low.result.1 =
    record { more = c.widened-low.ensures.more; old = c.widened-low.ensures.old; no_more = c.widened-low.ensures.no_more } in
    rw c.set.ensures (within_set _ _ _ _ _ c.args.number inside c.self.invariant w)
