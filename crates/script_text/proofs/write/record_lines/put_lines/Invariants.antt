use Rattle.std.proofs.Common.{◌≡◌, take}
use Rattle.heap_steps.specs.Actors.{EventList}
use Rattle.script_text.specs.Watched.{Writer}
use Rattle.script_text.specs.Written.{AreLinesOf, with_events}
use Rattle.script_text.proofs.write.record_lines.put_lines.Given as goal

abbrev pub invariant-loop-index : goal.invariant-loop-index
invariant-loop-index g l = record {
  counted : l.lines.events ≡ l.index;
  so_far : (first : Writer) (r : EventList) → AreLinesOf r first l.initial.writer l.initial.lines
      → AreLinesOf (with_events r (take l.index l.events)) first l.writer l.lines;
}
