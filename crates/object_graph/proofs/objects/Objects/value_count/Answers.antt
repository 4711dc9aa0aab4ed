use Rattle.std.proofs.Common.{sym}
use Rattle.object_graph.proofs.ObjectLaws.{entry_of}
use Rattle.object_graph.proofs.objects.Objects.value_count.Goals as goal

pub returns : goal.returns
returns c = sym (entry_of _ _ _ _ _ c.self.view_is c.self.invariant.0 c.requires c.index.ensures).values
