use Rattle.std.proofs.Common.{◌≡◌, ◌≤◌, ◌-◌, length, take}
use Rattle.mark_bitmap.specs.Marks.{marked_count}
use Rattle.mark_bitmap.proofs.marks.count_marked.Given as goal

abbrev pub invariant-loop-from : goal.invariant-loop-from
invariant-loop-from l = record {
  inside : l.from ≤ length l.marks;
  counted : l.count ≡ marked_count (take l.from l.marks);
}

abbrev pub decreases-loop-from : goal.decreases-loop-from
decreases-loop-from l = length l.marks - l.from
