use Rattle.std.proofs.Common.{sym, ap, ◌∙◌, None, arith}
use Rattle.std.proofs.lemmas.Option.{get_or_from_slice_get}
use Rattle.object_graph.specs.Fields.{object_in}
use Rattle.object_graph.specs.Reached.{found}
use Rattle.object_graph.proofs.Reaching.{found_more}
use Rattle.object_graph.proofs.search.Search.look_in.Goals as goal

pub loop-field-preserved : goal.loop-field-preserved
loop-field-preserved c =
    let read = get_or_from_slice_get (object_in c.args.objects.now c.args.place).pointers c.loop-field.field c.in-Some.pointer None
    (sym c.in-Some.ensures) in
    found_more c.args.self.now (object_in c.args.objects.now c.args.place).pointers c.loop-field.field c.loop-field.self c.find.new.self
    (omega (arith, c.loop-field-test.true, c.pointer_count-field-end.ensures)) c.loop-field.invariant
    (c.in_ok-find.ensures ∙ ap (found c.loop-field.self) (sym read))
