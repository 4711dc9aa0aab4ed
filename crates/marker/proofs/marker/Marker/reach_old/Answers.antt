use Rattle.std.proofs.Common.{arith, refl, sym, inl, inr}
use Rattle.std.proofs.lemmas.Bool.{cases_Bool}
use Rattle.mark_bitmap.specs.Marks.{is_marked}
use Rattle.marker.proofs.Reached.{old_within, mark_fits, set_stands, set_marks_at, same_stands, same_marks, was_marked, was_unmarked}
use Rattle.marker.proofs.Views.{kept_object}
use Rattle.marker.proofs.marker.Marker.reach_old.Goals as goal

pub insert-requires : goal.insert-requires
insert-requires c = old_within c.args.table.now c.args.self.now c.args.at c.law.ensures.positive c.requires.stands c.requires.below

pub returns-then-not-insert-clause-stands : goal.returns-then-not-insert-clause-stands
returns-then-not-insert-clause-stands c =
    same_stands c.args.table.now c.args.self.now c.insert.new.self (c.insert.ensures.same (let was = c.if-not-insert.true in cc))
    c.requires.stands

pub returns-then-not-insert-clause-marks : goal.returns-then-not-insert-clause-marks
returns-then-not-insert-clause-marks c =
    same_marks c.args.table.now c.args.self.now c.args.at c.insert.new.self (c.insert.ensures.same (let was = c.if-not-insert.true in cc))
    (was_marked c.args.self.now.bitmaps.next c.args.at c.insert.result c.insert.ensures.came (let was = c.if-not-insert.true in cc))

pub object_size-size-requires : goal.object_size-size-requires
object_size-size-requires c =
    let kept = c.requires.kept in
    let object = kept_object c.args.table.now c.args.self.now.tams c.args.self.now.bitmaps.previous c.args.at kept.object kept.is in
    rw object refl

pub add-requires-2 : goal.add-requires-2
add-requires-2 c =
    let unmarked = was_unmarked c.args.self.now.bitmaps.next c.args.at c.insert.result c.insert.ensures.came (let came =
    c.if-not-insert.false in cc) in
    let fits = mark_fits c.args.table.now c.args.self.now c.args.at c.region_of.result c.object_size-size.result c.law.ensures
    c.requires.stands c.requires.below unmarked c.region_of.ensures c.object_size-size.ensures in
    record { known = fits.0; room = fits.1 }

pub returns-clause-stands : goal.returns-clause-stands
returns-clause-stands c =
    let unmarked = was_unmarked c.args.self.now.bitmaps.next c.args.at c.insert.result c.insert.ensures.came (let came =
    c.if-not-insert.false in cc) in
    let finger = c.add.ensures.fingers c.args.self.now.bitmaps.next (sym c.requires.stands.scanned) unmarked
    (c.requires.stands.finger c.requires.running) in
    set_stands c.args.table.now c.args.self.now c.args.at c.insert.new.self c.add.new.self c.add-2.new.self c.region_of.result
    c.object_size-size.result c.law.ensures.positive c.requires.stands c.requires.running c.requires.below
    c.requires.kept unmarked c.insert.ensures.set
    c.add.ensures.scanned c.add.ensures.place (rw c.insert.ensures.set finger) c.add-2.ensures c.region_of.ensures
    c.object_size-size.ensures

pub returns-clause-marks : goal.returns-clause-marks
returns-clause-marks c =
    let inside = old_within c.args.table.now c.args.self.now c.args.at c.law.ensures.positive c.requires.stands c.requires.below in
    set_marks_at c.args.table.now c.args.self.now c.args.at c.insert.new.self c.add.new.self c.add-2.new.self inside c.insert.ensures.set

pub add-requires-clause-known : goal.add-requires-clause-known
add-requires-clause-known c =
    omega (
      arith,
      old_within c.args.table.now c.args.self.now c.args.at c.law.ensures.positive c.requires.stands c.requires.below,
      c.requires.stands.scanned,
    )

-- what isn't marked isn't scanned
pub add-requires-clause-unscanned : goal.add-requires-clause-unscanned
add-requires-clause-unscanned c = elim (cases_Bool (is_marked c.args.self.now.grey.scanned c.args.at)) [
  | inl scanned ↦
      let marked = c.requires.stands.scanned_marked c.requires.running c.args.at scanned in
      let unmarked = was_unmarked c.args.self.now.bitmaps.next c.args.at c.insert.result c.insert.ensures.came (let came =
      c.if-not-insert.false in cc) in
      absurd cc
  | inr unscanned ↦ unscanned
]
