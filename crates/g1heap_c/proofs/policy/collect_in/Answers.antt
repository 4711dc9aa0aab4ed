use Rattle.std.proofs.Common.{refl}
use Rattle.collection.proofs.Took.{unseen_some}
use Rattle.g1heap_c.proofs.policy.collect_in.Goals as goal

pub returns-clause-collects : goal.returns-clause-collects
returns-clause-collects g c = record {
  core = c.collect_due.new.core;
  tells = c.done.ensures;
  held = refl;
  collects = c.collect_due.ensures.collects;
}

pub returns-clause-due : goal.returns-clause-due
returns-clause-due g c due =
    unseen_some g.W.Watch.sees _ c.args.core.now c.collect_due.new.core c.args.watch.now c.collect_due.new.watch
    (c.collect_due.ensures.some due)
