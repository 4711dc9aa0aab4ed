use Rattle.std.proofs.Common.{ℕ, Option, slice_set, sym, ap, ◌∙◌}
use Rattle.graph_runs.specs.Machine.{stored}
use Rattle.object_graph.specs.Fields.{object_in}
use Rattle.object_graph.proofs.ActLaws.{no_object, past_fields, changed_object}
use Rattle.object_graph.proofs.graph.Graph.put.Goals as goal

pub returns-in_default : goal.returns-in_default
returns-in_default c = no_object c.args.self.now _ _ (sym c.place.ensures ∙ c.in_default.is)

pub returns-then-field-pointer_count : goal.returns-then-field-pointer_count
returns-then-field-pointer_count c = past_fields _ c.args.self.now c.args.mutator c.args.object c.in-Some.place c.args.field
    c.pointer_count.result (λ x. x.pointers) _ c.self.view_is
    (sym c.place.ensures ∙ c.in-Some.is) c.pointer_count.ensures c.if-field-pointer_count.true

pub returns : goal.returns
returns c =
    changed_object _ c.args.self.now c.args.mutator c.args.object c.in-Some.place c.args.field c.pointer_count.result (λ x. x.pointers)
    (λ x. record x {
      pointers = slice_set x.pointers c.args.field
          (stored c.args.self.now c.args.mutator c.args.value);
    }) _ c.self.view_is
    (sym c.place.ensures ∙ c.in-Some.is) c.pointer_count.ensures c.if-field-pointer_count.false
    (c.set_pointer.ensures ∙ ap (λ (v : Option ℕ). slice_set c.self.inside.objects c.in-Some.place
    (record (object_in c.self.inside.objects c.in-Some.place) {
      pointers = slice_set
          (object_in c.self.inside.objects c.in-Some.place).pointers c.args.field v;
    })) c.stored-value.ensures)
