use Rattle.std.proofs.Common.{ℕ, Option, slice_set, sym, ap, ◌∙◌, arith}
use Rattle.graph_runs.specs.Machine.{stored}
use Rattle.object_graph.specs.Fields.{object_in}
use Rattle.object_graph.proofs.ActLaws.{no_object, past_fields, changed_object}
use Rattle.object_graph.proofs.graph.Graph.put_weak.Goals as goal

pub returns-in_default : goal.returns-in_default
returns-in_default c = no_object c.args.self.now _ _ (sym c.place.ensures ∙ c.in_default.is)

pub returns-then-slot-from : goal.returns-then-slot-from
returns-then-slot-from c = past_fields _ c.args.self.now c.args.mutator c.args.object c.in-Some.place c.args.slot c.weak_count.result
    (λ x. x.weaks) _ c.self.view_is (sym c.place.ensures ∙ c.in-Some.is) c.weak_count.ensures.weaks
    (omega (arith, c.from.ensures, c.if-slot-from.true))

pub returns : goal.returns
returns c =
    changed_object _ c.args.self.now c.args.mutator c.args.object c.in-Some.place c.args.slot c.weak_count.result (λ x. x.weaks)
    (λ x. record x { weaks = slice_set x.weaks c.args.slot (stored c.args.self.now c.args.mutator c.args.value) }) _ c.self.view_is
    (sym c.place.ensures ∙ c.in-Some.is) c.weak_count.ensures.weaks (omega (arith, c.from.ensures, c.if-slot-from.false))
    (c.set_weak.ensures ∙ ap (λ (v : Option ℕ). slice_set c.self.inside.objects c.in-Some.place
    (record (object_in c.self.inside.objects c.in-Some.place) {
      weaks = slice_set
          (object_in c.self.inside.objects c.in-Some.place).weaks c.args.slot v;
    })) c.stored-value.ensures)
