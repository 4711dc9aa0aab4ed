use Rattle.regions.proofs.Common.{ap, ◌∙◌, ◌≡◌, ◌≤◌, ◌<◌, set, true, length, sym, subst, List, Bool, has}
use Rattle.mark_bitmap.specs.Grey.{Scans}
use Rattle.mark_bitmap.specs.Marks.{is_only}
use Rattle.mark_bitmap.proofs.Held.{scanned_held, next_after}
use Rattle.mark_bitmap.proofs.grey.Grey.remove.Goals as goal

pub returns-clause-next : goal.returns-clause-next
returns-clause-next c =
    next_after c.args.marks.now c.args.self.now c.drop_finger.new.self c.hold_next.new.self
    (c.drop_finger.ensures.stack ∙ ap (λ (s : Scans). s.stack) c.self.view_is) c.hold_next.ensures.next

pub returns-clause-fingers : goal.returns-clause-fingers
returns-clause-fingers c = λ f.
    let scanned : c.hold_next.new.self.scanned ≡ set c.args.self.now.scanned c.args.object true =
    c.hold_next.ensures.scanned ∙ c.drop_finger.ensures.scanned ∙ rw c.word.ensures at c.set.ensures
    ∙ ap (λ (s : Scans). set s.scanned c.args.object true) c.self.view_is in
    let fits : length c.args.self.now.stack.objects ≤ c.args.self.now.stack.room =
    subst (λ (s : Scans). length s.stack.objects ≤ s.stack.room) c.self.view_is c.self.invariant.fits in
    let known : c.args.object < length c.args.self.now.scanned =
    subst (λ (s : Scans). c.args.object < length s.scanned) c.self.view_is
    (c.self.invariant.within c.args.object (ap (λ (s : Scans). s.held) c.self.view_is ∙ c.requires.held)) in
    scanned_held c.args.marks.now c.args.self.now c.hold_next.new.self c.args.object scanned known
    (λ i unset was a inside. ap (λ (l : List Bool). is_only c.args.marks.now l a) c.hold_next.ensures.scanned
    ∙ c.drop_finger.ensures.set i (ap (λ (l : List Bool). has l i) (sym c.hold_next.ensures.fingers) ∙ unset)
    (ap (λ (s : Scans). has s.fingers i) c.self.view_is ∙ was) a inside)
    f c.requires.held fits
    (next_after c.args.marks.now c.args.self.now c.drop_finger.new.self c.hold_next.new.self
    (c.drop_finger.ensures.stack ∙ ap (λ (s : Scans). s.stack) c.self.view_is) c.hold_next.ensures.next)
