use Rattle.std.proofs.Common.{◌≡◌, take}
use Rattle.object_graph.specs.Reasons.{HasJudged}
use Rattle.object_graph.proofs.judge.explain.Given as goal

abbrev pub invariant-loop-index : goal.invariant-loop-index
invariant-loop-index l = record {
  judged : HasJudged l.judge (take l.index l.history.events);
  config : l.judge.config ≡ l.history.config;
}
