use Rattle.std.proofs.Common.{refl}
use Rattle.marker.proofs.Begun.{started_stands}
use Rattle.marker.proofs.marker.Marker.start.Goals as goal

pub returns-clause-stands : goal.returns-clause-stands
returns-clause-stands c =
    started_stands c.args.table.now c.args.self.now _ c.requires.stands c.requires.idle c.requires.closed refl refl c.clear.ensures
    c.set_tops.ensures.previous c.set_tops.ensures.len c.set_tops.ensures.tops
    c.clear-2.ensures.none c.clear-2.ensures.fingers refl refl c.restart.ensures c.restart-2.ensures.previous c.restart-2.ensures.next
