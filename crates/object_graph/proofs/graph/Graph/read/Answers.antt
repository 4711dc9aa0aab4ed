use Rattle.std.proofs.Common.{sym, ◌∙◌}
use Rattle.object_graph.proofs.ActLaws.{no_object, no_field, the_field}
use Rattle.object_graph.proofs.graph.Graph.read.Goals as goal

pub returns-in_default : goal.returns-in_default
returns-in_default c = no_object c.args.self.now _ _ (sym c.place.ensures ∙ c.in_default.is)

pub returns-in-None : goal.returns-in-None
returns-in-None c = no_field _ c.args.self.now c.args.mutator c.args.object c.in-Some.place c.args.field (λ x. x.values) _ c.self.view_is
    (sym c.place.ensures ∙ c.in-Some.is) (sym c.get_value.ensures ∙ c.in-None.is)

pub returns-in-Some-get_value : goal.returns-in-Some-get_value
returns-in-Some-get_value c = the_field _ c.args.self.now c.args.mutator c.args.object c.in-Some.place c.args.field
    (λ x. x.values) _ c.in-Some-get_value.word c.self.view_is (sym c.place.ensures ∙ c.in-Some.is)
    (sym c.get_value.ensures ∙ c.in-Some-get_value.is)
