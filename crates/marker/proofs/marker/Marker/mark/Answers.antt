use Rattle.std.proofs.Common.{◌+◌, ◌-◌, ◌∙◌, Bool, arith, sym, subst}
use Rattle.marker.specs.Looks.{MarksUpTo}
use Rattle.marker.proofs.Marking.{snapshots_trans}
use Rattle.marker.proofs.Looked.{scans_up_to, looks_up_to}
use Rattle.marker.proofs.marker.Marker.mark.Goals as goal

pub returns-then-is_by_address-clause-counted : goal.returns-then-is_by_address-clause-counted
returns-then-is_by_address-clause-counted c =
    let r = c.take_all_roots.ensures in
    let s = c.scan_objects.ensures in
    subst (λ (b : Bool). MarksUpTo b c.args.table.now c.args.units c.scan_objects.result c.args.self.now c.scan_objects.new.self)
    (sym (sym c.is_by_address.ensures ∙ c.if-is_by_address.true))
    (scans_up_to c.args.units c.scan_objects.result c.args.self.now c.take_all_roots.new.self c.scan_objects.new.self r.scanned r.none_left
    s.waiting s.most s.none_left s.count)

pub returns-then-is_by_address-clause-snapshots : goal.returns-then-is_by_address-clause-snapshots
returns-then-is_by_address-clause-snapshots c =
    let r = c.take_all_roots.ensures in
    snapshots_trans c.args.table.now c.args.self.now c.take_all_roots.new.self c.scan_objects.new.self r.same r.snapshots
    c.scan_objects.ensures.snapshots

pub returns-clause-counted : goal.returns-clause-counted
returns-clause-counted c =
    let r = c.take_roots-roots.ensures in
    let s = c.scan_words.ensures in
    subst (λ (b : Bool). MarksUpTo b c.args.table.now c.args.units (c.take_roots-roots.result + c.scan_words.result) c.args.self.now
    c.scan_words.new.self)
    (sym (sym c.is_by_address.ensures ∙ c.if-is_by_address.false))
    (looks_up_to c.args.table.now c.args.units (c.args.units - c.take_roots-roots.result) c.scan_words.result c.take_roots-roots.result
    c.args.self.now c.take_roots-roots.new.self c.scan_words.new.self r.scanned r.place.looked (omega (arith, r.most)) r.count
    r.none_left s.waiting s.count s.most s.none_left)

pub returns-clause-snapshots : goal.returns-clause-snapshots
returns-clause-snapshots c =
    let r = c.take_roots-roots.ensures in
    snapshots_trans c.args.table.now c.args.self.now c.take_roots-roots.new.self c.scan_words.new.self r.same r.snapshots
    c.scan_words.ensures.snapshots
