use Rattle.std.proofs.Common.{◌∙◌, ◌<◌, ℕ, sym, ap, subst, arith, length, IsSome}
use Rattle.regions.specs.Table.{fields_at, object_at}
use Rattle.evacuation.proofs.Slides.KeptObjects.{some_kept, kept_object, is_some}
use Rattle.evacuation.proofs.Slides.Redirecting.{object_stays, count_stays}
use Rattle.evacuation.proofs.Slides.Own.{none_settled, room_below, settled_all}
use Rattle.evacuation.proofs.slide.settle_fields.Goals as goal

pub field_count-count-requires : goal.field_count-count-requires
field_count-count-requires g c =
    let (stands, (way, (words, (object, below)))) = c.requires in
    let (y, here) = some_kept g.slide c.args.table.now g.slide.from object in
    subst (λ (a : ℕ). IsSome (object_at c.args.table.now a)) (sym way.0)
    (is_some _ y (kept_object g.slide c.args.table.now g.slide.from y here))

pub loop-field-init : goal.loop-field-init
loop-field-init g c = record { on = none_settled g.slide c.args.table.now c.args.noted.now c.requires.0 }

pub settle_field-requires : goal.settle_field-requires
settle_field-requires g c =
    let (stands, (way, (words, (object, below)))) = c.requires in
    let on = c.loop-field.invariant.on in
    let count = c.field_count-count.ensures ∙ ap (λ (a : ℕ). length (fields_at c.args.table.now a)) way.0 in
    let known : c.loop-field.field < length (fields_at c.args.table.now g.slide.from) =
    (let l = c.loop-field-test.true in omega (arith, l, count)) in
    let same = count_stays g.slide stands.apart c.args.table.now c.loop-field.table on.table g.slide.from object in (
      on.stands,
      (
        way,
        (
          words,
          (
            object_stays g.slide stands.apart c.args.table.now c.loop-field.table on.table g.slide.from object,
            (
              omega (arith, known, same),
              room_below g.slide c.args.table.now c.args.noted.now stands c.law.ensures object below c.loop-field.field known,
            ),
          ),
        ),
      ),
    )

pub loop-field-preserved : goal.loop-field-preserved
loop-field-preserved g c =
    record { on = c.settle_field.ensures.goes_on c.args.table.now c.args.noted.now c.loop-field.invariant.on }

pub returns : goal.returns
returns g c =
    let (stands, (way, (words, (object, below)))) = c.requires in
    let count = c.field_count-count.ensures ∙ ap (λ (a : ℕ). length (fields_at c.args.table.now a)) way.0 in
    record {
      goes_on = settled_all g.slide _ _ _ _ _ _
          (let l = c.loop-field-test.false in let e = c.loop-field.auto.field-end in omega (arith, l, e, count))
          c.loop-field.invariant.on;
    }
