use Rattle.g1heap_c.proofs.Watching.{collects_counted}
use Rattle.g1heap_c.proofs.policy_noted.collect_due.Goals as goal

pub returns-clause-collects : goal.returns-clause-collects
returns-clause-collects c = let w = c.collect_in-answer.ensures.collects in record {
  core = w.core;
  tells = w.tells;
  held = w.held;
  collects = collects_counted _ _ _ _ _ w.collects;
}
