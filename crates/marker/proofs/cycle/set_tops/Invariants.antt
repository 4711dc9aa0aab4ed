use Rattle.std.specs.Prelude.{◌≡◌, ℕ, ◌<◌, length, slice_index}
use Rattle.regions.specs.Table.{top_of}
use Rattle.marker.proofs.cycle.set_tops.Given as goal

abbrev pub invariant-loop-number : goal.invariant-loop-number
invariant-loop-number l = record {
  tops : (k : ℕ) → k < l.number → slice_index l.tams.next k ≡ top_of l.table k;
  len : length l.tams.next ≡ length l.fn.tams.next;
  previous : l.tams.previous ≡ l.fn.tams.previous;
}
