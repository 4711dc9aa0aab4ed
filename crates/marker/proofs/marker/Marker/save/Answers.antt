use Rattle.std.proofs.Common.{◌≡◌, true}
use Rattle.mark_bitmap.specs.Tops.{below_next}
use Rattle.marker.proofs.Logs.{saved_stands, is_saved}
use Rattle.marker.proofs.marker.Marker.save.Goals as goal

pub returns-clause-stands : goal.returns-clause-stands
returns-clause-stands c =
    let below : below_next c.args.table.now c.args.self.now.tams c.in-Some.at ≡ true = cc in
    saved_stands c.args.table.now c.args.self.now c.args.mutator c.in-Some.at c.log.new.self c.requires.stands c.requires.running below
    (c.requires.kept c.in-Some.at c.in-Some.is) c.log.ensures.logged

pub returns-clause-saved : goal.returns-clause-saved
returns-clause-saved c =
    let below : below_next c.args.table.now c.args.self.now.tams c.in-Some.at ≡ true = cc in
    is_saved c.args.table.now c.args.self.now c.args.mutator c.in-Some.at c.args.overwritten c.log.new.self
    c.requires.known c.in-Some.is below c.log.ensures.logged
