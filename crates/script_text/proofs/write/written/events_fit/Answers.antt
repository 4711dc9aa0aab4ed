use Rattle.std.proofs.Common.{All, List, arith, subst}
use Rattle.std.proofs.lemmas.List.{take_all}
use Rattle.std.proofs.lemmas.List.Elements.{All-more}
use Rattle.heap_steps.specs.declared.step.Event.{Event}
use Rattle.script_text.specs.Fits.{EventFits}
use Rattle.script_text.proofs.write.written.events_fit.Goals as goal

pub loop-event-preserved : goal.loop-event-preserved
loop-event-preserved c =
    All-more EventFits c.args.events.now c.loop-event.event-index _ c.loop-event-test.true c.loop-event.invariant c.event_fits.ensures

pub returns : goal.returns
returns c = subst (λ (es : List Event). All EventFits es)
    (take_all c.loop-event.event-index c.args.events.now (omega (arith, c.loop-event-test.false))) c.loop-event.invariant
