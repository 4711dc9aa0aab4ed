use Rattle.std.proofs.Common.{slice_set, sym, ◌∙◌}
use Rattle.object_graph.proofs.ActLaws.{no_object, past_fields, changed_object}
use Rattle.object_graph.proofs.graph.Graph.write.Goals as goal

pub returns-in_default : goal.returns-in_default
returns-in_default c = no_object c.args.self.now _ _ (sym c.place.ensures ∙ c.in_default.is)

pub returns-then-field-value_count : goal.returns-then-field-value_count
returns-then-field-value_count c = past_fields _ c.args.self.now c.args.mutator c.args.object c.in-Some.place c.args.field
    c.value_count.result (λ x. x.values) _ c.self.view_is
    (sym c.place.ensures ∙ c.in-Some.is) c.value_count.ensures c.if-field-value_count.true

pub returns : goal.returns
returns c =
    changed_object _ c.args.self.now c.args.mutator c.args.object c.in-Some.place c.args.field c.value_count.result (λ x. x.values)
    (λ x. record x { values = slice_set x.values c.args.field c.args.value }) _ c.self.view_is
    (sym c.place.ensures ∙ c.in-Some.is) c.value_count.ensures c.if-field-value_count.false
    c.set_value.ensures
