use Rattle.std.proofs.Common.{sym, ◌∙◌}
use Rattle.object_graph.proofs.ActLaws.{no_object, no_field, the_field}
use Rattle.object_graph.proofs.graph.Graph.get_weak.Goals as goal

pub returns-in_default : goal.returns-in_default
returns-in_default c = no_object c.args.self.now _ _ (sym c.place.ensures ∙ c.in_default.is)

pub returns-in_default-get_weak : goal.returns-in_default-get_weak
returns-in_default-get_weak c =
    no_field _ c.args.self.now c.args.mutator c.args.object c.in-Some.place c.args.slot (λ x. x.weaks) _ c.self.view_is
    (sym c.place.ensures ∙ c.in-Some.is) (sym c.get_weak.ensures ∙ c.in_default-get_weak.is)

pub returns : goal.returns
returns c =
    rw c.name.ensures (rw c.set_register.ensures
    (the_field _ c.args.self.now c.args.mutator c.args.object c.in-Some.place c.args.slot
    (λ x. x.weaks) _ c.in-Some-get_weak.value c.self.view_is (sym c.place.ensures ∙ c.in-Some.is)
    (sym c.get_weak.ensures ∙ c.in-Some-get_weak.is)))
