use Rattle.std.proofs.Common.{refl}
use Rattle.heap_walk.proofs.Entries.{kept_there}
use Rattle.heap_view.proofs.snapshot.links_set.Goals as goal

pub links-index-end-requires : goal.links-index-end-requires
links-index-end-requires c = kept_there c.args.core.now c.args.core.now.table c.args.object refl c.requires
