use Rattle.std.proofs.Common.{◌≡◌, ◌∙◌, Result, ap, sym}
use Rattle.std.specs.Prelude.{Ok}
use Rattle.heap_steps.specs.Actors.{StepList}
use Rattle.heap_steps.specs.Faults.{IsRunFault}
use Rattle.script_text.specs.Lines.{script_of}
use Rattle.script_text.specs.declared.fault.LineFault.{LineFault}
use Rattle.step_core.specs.Passages.{IsRunInOrder}
use Rattle.job_ends.proofs.Endings.{ends, comes}
use Rattle.script_runs.proofs.in_order.run_script.Goals as goal

abbrev is_plan : StepList → Result StepList LineFault
is_plan plan = Ok plan

pub returns-in-Ok-new : goal.returns-in-Ok-new
returns-in-Ok-new g c =
    let plan = c.in-Ok-new.steps in
    let read : script_of c.in-Ok.text.items ≡ is_plan plan = ap script_of (sym c.as_slice.ensures.value) ∙ sym c.in-Ok-new.ensures.script in
    let (outcome, made, fault, answers) = c.run_steps.ensures in
    ends IsRunInOrder IsRunFault plan _ _ _ _ outcome c.run_steps.result
    (c.in-Ok.text.items, (c.in-Ok.ensures.gives, c.in-Ok.ensures.end), read)
    (comes IsRunInOrder IsRunFault plan outcome made fault) answers
