use Rattle.std.proofs.Common.{sym, ◌∙◌, ap}
use Rattle.heap_model.specs.Graph.{Object}
use Rattle.object_graph.proofs.ObjectLaws.{entry_of}
use Rattle.object_graph.proofs.objects.Objects.weak_count.Goals as goal

pub returns-clause-weaks : goal.returns-clause-weaks
returns-clause-weaks c = c.weaks.ensures ∙ sym (entry_of _ _ _ _ _ c.self.view_is c.self.invariant.0 c.requires c.index.ensures).weaks

pub returns-clause-held : goal.returns-clause-held
returns-clause-held c = ap (λ (x : Object). x.held) (entry_of _ _ _ _ _ c.self.view_is c.self.invariant.0 c.requires c.index.ensures).object
