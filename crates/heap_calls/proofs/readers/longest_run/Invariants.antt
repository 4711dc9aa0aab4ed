use Rattle.heap_calls.proofs.FreeRuns.{IsSeen}
use Rattle.heap_calls.proofs.readers.longest_run.Given as goal

abbrev pub invariant-loop-number : goal.invariant-loop-number
invariant-loop-number l = record { seen : IsSeen l.table l.number l.last l.longest }
