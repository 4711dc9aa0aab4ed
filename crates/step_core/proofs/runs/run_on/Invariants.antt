use Rattle.std.proofs.Common.{◌≡◌, [], take, map}
use Rattle.heap_words.specs.declared.config.Config.{Config}
use Rattle.step_core.specs.Passages.{RunsTo, step_in, actor_in, actor_of}
use Rattle.step_core.proofs.runs.run_on.Given as goal

abbrev pub invariant-loop-step : goal.invariant-loop-step
invariant-loop-step l = record {
  cores : (config : Config) → RunsTo config [] l.initial.core → RunsTo config l.done.events l.core;
  steps : map step_in l.done.events ≡ take l.step-index l.steps;
  actors : map actor_in l.done.events ≡ take l.step-index (map actor_of l.steps);
  config : l.core.config ≡ l.fn.core.config;
  done : l.done.config ≡ l.fn.core.config;
}
