use Rattle.std.proofs.Common.{◌+◌, ◌*◌, ◌≤◌, length, ℕ, ◌&&◌}
use Rattle.bit_sets.specs.Bits.{has, is_passing}
use Rattle.bit_sets.proofs.Bounds.{AreWide}
use Rattle.bit_sets.proofs.BitUnions.{within_joined}
use Rattle.bit_sets.proofs.bounded.BoundedBits.set_passing.Goals as goal

pub invariant_of-self : goal.invariant_of-self
invariant_of-self c =
    let inside : 64 * c.args.group + 64 ≤ length c.self.inside.bits = rw c.self.view_is c.requires.within in
    let w : AreWide c.self.inside.low c.self.inside.high (64 * c.args.group) (64 * c.args.group + 64) c.widened-low.result.0
    c.widened-low.result.1 =
    record {
      more = c.widened-low.ensures.more;
      old = c.widened-low.ensures.old;
      no_more = c.widened-low.ensures.no_more;
    } in
    within_joined _ _ (λ (a : ℕ). has c.args.members.now a && is_passing c.args.filter.now c.args.first c.args.second a) _ _ _ _
    (64 * c.args.group) (64 * c.args.group + 64) inside c.set_passing.ensures.len c.set_passing.ensures.flags c.self.invariant w
