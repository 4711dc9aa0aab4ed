use Rattle.std.proofs.Common.{◌≡◌, ◌+◌, take}
use Rattle.regions.specs.Table.{free_count}
use Rattle.evacuation.specs.Evacuates.{MarksAfter, is_chosen}
use Rattle.evacuation.specs.Releasing.{AreCleared, AreReleased, NoneForwardedInto}
use Rattle.evacuation.proofs.release.release_chosen.Given as goal

abbrev pub invariant-loop-row : goal.invariant-loop-row
invariant-loop-row l = record {
  table : AreReleased (is_chosen (take l.row-index l.rows)) l.initial.table l.table;
  count : free_count l.table ≡ free_count l.initial.table + l.row-index;
  unmoved : NoneForwardedInto l.rows l.initial.table.words_per_region l.table;
  previous : MarksAfter l.initial.table.words_per_region (is_chosen (take l.row-index l.rows)) l.initial.tams.previous l.tams.previous
      l.initial.bitmaps.previous l.bitmaps.previous;
  next : MarksAfter l.initial.table.words_per_region (is_chosen (take l.row-index l.rows)) l.initial.tams.next
      l.tams.next l.initial.bitmaps.next l.bitmaps.next;
  sets : AreCleared (is_chosen (take l.row-index l.rows)) l.initial.sets l.sets;
}
