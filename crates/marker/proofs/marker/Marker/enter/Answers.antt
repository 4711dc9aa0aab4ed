use Rattle.marker.proofs.Entered.{scan_stands}
use Rattle.marker.proofs.marker.Marker.enter.Goals as goal

pub returns-clause-stands : goal.returns-clause-stands
returns-clause-stands c =
    let finger = c.requires.stands.finger c.requires.running in
    rw c.add.ensures (scan_stands c.args.table.now c.args.self.now c.args.object c.remove.new.self c.requires.stands c.requires.running
    c.requires.grey c.remove.ensures.scanned c.remove.ensures.looked (c.remove.ensures.fingers finger))
