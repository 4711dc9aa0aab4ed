use Rattle.std.proofs.Common.{refl}
use Rattle.g1heap_c.proofs.policy.collect_all_in.Goals as goal

pub returns : goal.returns
returns g c = record {
  core = c.collect.new.core;
  tells = c.done.ensures;
  held = refl;
  collects = c.collect.ensures.collects;
  collected = c.collect.ensures.quiet;
  packed = c.collect.ensures.packed;
}
