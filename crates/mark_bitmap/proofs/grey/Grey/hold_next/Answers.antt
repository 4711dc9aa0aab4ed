use Rattle.std.proofs.Common.{refl, sym, ap, ◌∙◌}
use Rattle.mark_bitmap.specs.Grey.{Scans, OfStack}
use Rattle.mark_bitmap.proofs.grey.Grey.hold_next.Goals as goal

pub returns-in-Some-clause-next : goal.returns-in-Some-clause-next
returns-in-Some-clause-next c =
    OfStack c.in-Some.found refl (sym (ap (λ (s : Scans). s.stack) c.self.view_is) ∙ c.in-Some.ensures.last)
