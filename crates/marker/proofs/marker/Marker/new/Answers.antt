use Rattle.std.proofs.Common.{refl, ap}
use Rattle.mark_bitmap.specs.Grey.{Scans, nothing_scanned}
use Rattle.marker.specs.Waiting.{Waiting}
use Rattle.marker.proofs.Made.{new_stands, new_keeps}
use Rattle.marker.proofs.marker.Marker.new.Goals as goal

pub returns-clause-stands : goal.returns-clause-stands
unfolding nothing_scanned
returns-clause-stands c = λ t count size.
    new_stands c.args.config.now.regions c.args.config.now.words c.args.config.now.mutators _ refl
    c.in_ok-new.ensures.previous c.in_ok-new.ensures.next c.in_ok-new-2.ensures.previous c.in_ok-new-2.ensures.next
    (ap (λ (g : Scans). g.scanned) c.in_ok-new-3.ensures.none) c.in_ok-new-4.ensures c.in_ok-new-5.ensures
    (ap (λ (w : Waiting). w.addresses) c.in_ok-new-6.ensures) t count size

pub returns-clause-all_kept : goal.returns-clause-all_kept
returns-clause-all_kept c =
    λ t a size. new_keeps c.args.config.now.regions c.args.config.now.words c.in_ok-new-2.field-0 c.in_ok-new-2.ensures.previous t a size
