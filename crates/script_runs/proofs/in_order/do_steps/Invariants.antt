use Rattle.std.proofs.Common.{◌≡◌, ◌≤◌, ◌-◌, length, Ok}
use Rattle.std.specs.Prelude.{OnOk}
use Rattle.heap_steps.specs.Actors.{StepList}
use Rattle.script_text.specs.Watched.{Writer}
use Rattle.script_runs.specs.InOrder.{HasDone}
use Rattle.script_runs.proofs.in_order.do_steps.Given as goal

abbrev pub invariant-script : goal.invariant-script
invariant-script g l = record {
  sizes : l.steps.config ≡ l.core.config;
  fewer : length l.steps.steps ≤ length l.initial.steps.steps;
  counted : OnOk l.outcome (l.lines.events ≡ length l.initial.steps.steps - length l.steps.steps);
  so_far : (plan : StepList) (first : Writer)
      → HasDone plan l.initial.steps.steps l.initial.core first l.initial.writer l.initial.lines (Ok tt)
      → HasDone plan l.steps.steps l.core first l.writer l.lines l.outcome;
}

abbrev pub decreases-script : goal.decreases-script
decreases-script g l = length l.steps.steps
