use Rattle.std.proofs.Common.{◌≤◌, ◌-◌, length, take}
use Rattle.script_text.specs.Watched.{TookBytes}
use Rattle.script_text.proofs.write.writing.write_bytes.Given as goal

abbrev pub invariant-loop-done : goal.invariant-loop-done
invariant-loop-done g l = record {
  written : TookBytes l.fn.writer l.writer (take l.done l.bytes);
  within : l.done ≤ length l.bytes;
}

abbrev pub decreases-loop-done : goal.decreases-loop-done
decreases-loop-done g l = length l.bytes - l.done
