use Rattle.std.proofs.Common.{◌*◌, ◌-◌, ◌/◌, ◌≤◌}
use Rattle.bit_sets.specs.Bits.{HasNoneBelow}
use Rattle.bit_sets.proofs.LowestBits.{only}
use Rattle.bit_sets.proofs.bits.Bits.next_without.Given as goal

abbrev pub invariant-loop-index : goal.invariant-loop-index
invariant-loop-index l = record {
  begun : l.fn.from / 64 ≤ l.index;
  none : HasNoneBelow (only l.self-inside.words l.other-inside.words) l.fn.from (64 * l.index);
}

abbrev pub decreases-loop-index : goal.decreases-loop-index
decreases-loop-index l = l.past - l.index
