use Rattle.std.proofs.Common.{take, All}
use Rattle.script_text.specs.Fits.{EventFits}
use Rattle.script_text.proofs.write.written.events_fit.Given as goal

abbrev pub invariant-loop-event : goal.invariant-loop-event
invariant-loop-event l = All EventFits (take l.event-index l.events)
