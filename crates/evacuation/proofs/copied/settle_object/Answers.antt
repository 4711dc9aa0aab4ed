use Rattle.std.proofs.Common.{◌∙◌, sym, ap, arith, length, ◌/◌}
use Rattle.refinement.proofs.Holders.{fields_of}
use Rattle.evacuation.proofs.Turns.Following.{goes_further, stays_on, taken_after}
use Rattle.evacuation.proofs.Turns.KeptObjects.{kept_object}
use Rattle.evacuation.proofs.Copies.NewPlace.{is_some}
use Rattle.evacuation.proofs.Loops.ObjectFields.{fields_more, fields_all, still_field}
use Rattle.evacuation.proofs.copied.settle_object.Goals as goal

pub field_count-count-requires : goal.field_count-count-requires
field_count-count-requires g c =
    let (stands, (outside, (object, taken))) = c.requires in
    is_some _ object.0 (kept_object g.pause c.args.table.now c.args.at object.0 object.1)

pub loop-field-init : goal.loop-field-init
loop-field-init g c =
    let (stands, (outside, (object, taken))) = c.requires in
    record {
      on = stays_on stands;
      still = (
        object.0,
        object.1,
        sym (c.field_count-count.ensures
            ∙ ap length (fields_of c.args.table.now c.args.at object.0 (kept_object g.pause c.args.table.now c.args.at object.0 object.1))),
      );
      settled = λ i h. absurd (omega arith);
    }

pub settle_field-requires : goal.settle_field-requires
settle_field-requires g c =
    let (stands, (outside, (object, taken))) = c.requires in
    let v = c.loop-field.invariant in
    let field = still_field g.pause c.loop-field.table c.args.at c.field_count-count.result
    c.loop-field.field v.still c.loop-field-test.true in
    (v.on.stands, (outside, (field, taken_after v.on (c.args.at / g.pause.start.words_per_region) taken)))

pub loop-field-preserved : goal.loop-field-preserved
loop-field-preserved g c =
    let (stands, (outside, (object, taken))) = c.requires in
    let v = c.loop-field.invariant in
    let on = c.settle_field.ensures.goes_on in
    let (y, at, count) = v.still in
    let (z, here, same) = on.after.stays c.args.at y outside at in
    record {
      on = goes_further v.on on;
      still = (z, here, same ∙ count);
      settled = fields_more c.args.at c.loop-field.field on outside (y, at) v.settled c.settle_field.ensures.settled;
    }

pub returns-clause-settled : goal.returns-clause-settled
returns-clause-settled g c = fields_all g.pause c.loop-field.context.noted c.loop-field.table c.args.at c.field_count-count.result
    c.loop-field.field c.loop-field.invariant.settled c.loop-field.invariant.still (omega (arith, c.loop-field-test.false))
