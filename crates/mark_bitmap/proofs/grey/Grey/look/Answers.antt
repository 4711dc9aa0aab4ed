use Rattle.mark_bitmap.specs.Grey.{Scans}
use Rattle.mark_bitmap.proofs.Held.{begun_held}
use Rattle.mark_bitmap.proofs.grey.Grey.look.Goals as goal

pub returns-clause-fingers : goal.returns-clause-fingers
returns-clause-fingers c = λ marks begun f.
    let inside : Scans =
    record {
      scanned = c.self.inside.scanned;
      fingers = c.self.inside.fingers;
      held = c.self.inside.held;
      looked = c.self.inside.looked;
      stack = c.self.inside.stack;
    } in
    begun_held marks inside c.args.words begun (rw c.self.view_is f)
