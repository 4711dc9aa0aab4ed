use Rattle.g1heap_c.proofs.Watching.{collects_counted}
use Rattle.g1heap_c.proofs.policy_noted.collect_all.Goals as goal

pub returns : goal.returns
returns c = let w = c.collect_all_in-answer.ensures in record {
  core = w.core;
  tells = w.tells;
  held = w.held;
  collects = collects_counted _ _ _ _ _ w.collects;
  collected = w.collected;
  packed = w.packed;
}
