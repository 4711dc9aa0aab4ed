use Rattle.std.proofs.Common.{[], Result, Err, ap, subst}
use Rattle.std.specs.Prelude.{⊤}
use Rattle.script_text.specs.declared.fault.WriteFault.{WriteFault}
use Rattle.script_runs.specs.InOrder.{HasDone}
use Rattle.script_runs.proofs.OnItsWay.{none_done, faulted, stopped_within, finished, stopped_last}
use Rattle.script_runs.proofs.in_order.run_steps.Goals as goal

pub returns-in-Err : goal.returns-in-Err
returns-in-Err g c =
    faulted c.args.steps.now c.config-config.result c.run_fault.result c.args.writer.now c.config-config.ensures
    (c.run_fault.ensures c.config-config.result c.in-Err.ensures.fault)

pub returns-in_default : goal.returns-in_default
returns-in_default g c =
    faulted c.args.steps.now c.config-config.result _ c.args.writer.now c.config-config.ensures c.in-Ok.ensures.suits

pub do_steps-requires-clause-none : goal.do_steps-requires-clause-none
do_steps-requires-clause-none g c = (c.in-Ok-new.ensures c.args.writer.now).counted

pub returns-in-Err-do_steps : goal.returns-in-Err-do_steps
returns-in-Err-do_steps g c =
    let plan = c.args.steps.now in
    let w = c.args.writer.now in
    let begun = none_done plan c.config-config.result c.in-Ok.core w c.in-Ok-new.lines c.config-config.ensures c.in-Ok.ensures.fresh
    c.in-Ok.ensures.core c.in-Ok.ensures.stands c.in-Ok-new.ensures in
    stopped_within plan c.do_steps.new.core w c.do_steps.new.writer c.do_steps.new.lines c.in-Err-do_steps.fault
    (subst (λ (r : Result ⊤ WriteFault).
    HasDone plan [] c.do_steps.new.core w c.do_steps.new.writer c.do_steps.new.lines r)
    c.in-Err-do_steps.is (c.do_steps.ensures plan w begun))

pub returns-in-Ok-finish : goal.returns-in-Ok-finish
returns-in-Ok-finish g c =
    let plan = c.args.steps.now in
    let w = c.args.writer.now in
    let begun = none_done plan c.config-config.result c.in-Ok.core w c.in-Ok-new.lines c.config-config.ensures c.in-Ok.ensures.fresh
    c.in-Ok.ensures.core c.in-Ok.ensures.stands c.in-Ok-new.ensures in
    finished plan c.do_steps.new.core w c.do_steps.new.writer c.finish.new.writer c.do_steps.new.lines c.finish.result c.finish.ensures.ok
    (subst (λ (r : Result ⊤ WriteFault).
    HasDone plan [] c.do_steps.new.core w c.do_steps.new.writer c.do_steps.new.lines r)
    c.in-Ok-do_steps.is (c.do_steps.ensures plan w begun)) c.in-Ok-finish.is

pub returns : goal.returns
returns g c =
    let plan = c.args.steps.now in
    let w = c.args.writer.now in
    let begun = none_done plan c.config-config.result c.in-Ok.core w c.in-Ok-new.lines c.config-config.ensures c.in-Ok.ensures.fresh
    c.in-Ok.ensures.core c.in-Ok.ensures.stands c.in-Ok-new.ensures in
    stopped_last plan c.do_steps.new.core w c.do_steps.new.writer c.finish.new.writer c.do_steps.new.lines c.in-Err-finish.fault
    (λ is. c.in-Err-finish.ensures.memory (ap Err is)) c.in-Err-finish.ensures.err
    (subst (λ (r : Result ⊤ WriteFault).
    HasDone plan [] c.do_steps.new.core w c.do_steps.new.writer c.do_steps.new.lines r)
    c.in-Ok-do_steps.is (c.do_steps.ensures plan w begun))
