use Rattle.heap_life.proofs.Moments.{is_step}
use Rattle.heap_life.proofs.pacing.event_at.Goals as goal

pub returns-clause-step : goal.returns-clause-step
returns-clause-step c config all = is_step config _ _ (all c.args.index _ c.requires)
