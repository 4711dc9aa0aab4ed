use Rattle.std.proofs.Common.{sym, ap}
use Rattle.mark_bitmap.specs.Grey.{Scans}
use Rattle.mark_bitmap.proofs.Held.{held_grey, held_lowest}
use Rattle.mark_bitmap.proofs.grey.Grey.any.Goals as goal

pub returns-clause-grey : goal.returns-clause-grey
returns-clause-grey c =
    held_grey c.args.marks.now c.args.self.now c.requires.fingers c.self.inside.held (ap (λ (s : Scans). s.held) (sym c.self.view_is))

pub returns-clause-lowest : goal.returns-clause-lowest
returns-clause-lowest c = λ by_address whole.
    held_lowest c.args.marks.now c.args.self.now c.requires.fingers by_address whole c.self.inside.held
    (ap (λ (s : Scans). s.held) (sym c.self.view_is))
