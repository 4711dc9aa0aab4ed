use Rattle.std.proofs.Common.{sym, ◌∙◌}
use Rattle.object_graph.proofs.ActLaws.{no_object, no_field, the_field}
use Rattle.object_graph.proofs.graph.Graph.get.Goals as goal

pub returns-in_default : goal.returns-in_default
returns-in_default c = no_object c.args.self.now _ _ (sym c.place.ensures ∙ c.in_default.is)

pub returns-in_default-get_pointer : goal.returns-in_default-get_pointer
returns-in_default-get_pointer c =
    no_field _ c.args.self.now c.args.mutator c.args.object c.in-Some.place c.args.field (λ x. x.pointers) _ c.self.view_is
    (sym c.place.ensures ∙ c.in-Some.is) (sym c.get_pointer.ensures ∙ c.in_default-get_pointer.is)

pub returns : goal.returns
returns c =
    rw c.name.ensures (rw c.set_register.ensures
    (the_field _ c.args.self.now c.args.mutator c.args.object c.in-Some.place c.args.field
    (λ x. x.pointers) _ c.in-Some-get_pointer.value c.self.view_is (sym c.place.ensures ∙ c.in-Some.is)
    (sym c.get_pointer.ensures ∙ c.in-Some-get_pointer.is)))
