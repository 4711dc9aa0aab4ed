use Rattle.std.proofs.Common.{sym, ◌∙◌}
use Rattle.object_graph.proofs.ActLaws.{no_object, the_object}
use Rattle.object_graph.proofs.graph.Graph.weaks.Goals as goal

pub returns-in_default : goal.returns-in_default
returns-in_default c = no_object c.args.self.now _ _ (sym c.place.ensures ∙ c.in_default.is)

pub returns : goal.returns
returns c = rw c.from.ensures (rw c.weak_count.ensures.weaks
    (the_object _ c.args.self.now c.args.mutator c.args.object c.in-Some.place _ c.self.view_is (sym c.place.ensures ∙ c.in-Some.is)))
