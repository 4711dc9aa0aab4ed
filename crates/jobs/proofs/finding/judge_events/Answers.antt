use Rattle.std.proofs.Common.{◌≡◌, ◌∷◌, ◌∙◌, length, Option, Some, List, ap, sym, subst, arith}
use Rattle.std.specs.Prelude.{IfSome}
use Rattle.heap_steps.specs.declared.step.Event.{Event}
use Rattle.script_text.specs.EventsLeft.{EventsLeft}
use Rattle.object_graph.specs.Reasons.{JudgesNext}
use Rattle.object_graph.specs.declared.given.Given.{Given}
use Rattle.jobs.proofs.OneByOne.{goes_on, found_no}
use Rattle.jobs.proofs.finding.judge_events.Goals as goal

-- the first of what was left, where a reader took it
first_left : (r s : EventsLeft) (next : Option Event) (e : Event) (left : List Event) → s ≡ r → next ≡ Some e
    → IfSome next (λ event. s.events ≡ event ∷ left) → r.events ≡ e ∷ left
first_left r s next e left same is some = ap (λ (t : EventsLeft). t.events) (sym same)
    ∙ subst (λ (o : Option Event). IfSome o (λ event. s.events ≡ event ∷ left)) is some

pub lines-preserved-in-Some : goal.lines-preserved-in-Some
lines-preserved-in-Some c =
    let some = c.in-Some.ensures.some in
    let one = ap length some in
    let counted = c.lines.invariant.counted in
    record {
      sizes = c.next_usual.ensures.config ∙ c.lines.invariant.sizes;
      fault = c.next_usual.ensures.kept ∙ c.lines.invariant.fault;
      counted = omega arith;
      within = goes_on _ _ _ _ _ _ _ _ c.lines.invariant.within some c.judge_event.ensures.config
          (λ es taken. subst (λ (told : Option Given). JudgesNext c.lines.judge c.judge_event.new.self es c.in-Some.event told)
          c.in_default-2.is (c.in_ok-given.ensures.told es taken));
    }

pub returns-in-Some-2-clause-finds : goal.returns-in-Some-2-clause-finds
returns-in-Some-2-clause-finds c = found_no _ _ _ c.judge_event.new.self _ _ _ _ _ c.lines.invariant.within c.in-Some.ensures.some
    (λ es taken. subst (λ (told : Option Given). JudgesNext c.lines.judge c.judge_event.new.self es c.in-Some.event told) c.in-Some-2.is
    (c.in_ok-given.ensures.told es taken))

pub lines-preserved : goal.lines-preserved
lines-preserved c =
    let e = c.in-Ok-Some.event in
    let same : c.next_usual.new.self ≡ c.lines.events = c.in_default.ensures.same in
    let some = first_left c.lines.events c.next_usual.new.self _ e _ same c.in-Ok-Some.field-0-is c.in-Ok-Some.ensures.some in
    let one = ap length some in
    let counted = c.lines.invariant.counted in
    record {
      sizes = c.next_event.ensures.config ∙ ap (λ (r : EventsLeft). r.config) same ∙ c.lines.invariant.sizes;
      fault = c.next_event.ensures.kept ∙ ap (λ (r : EventsLeft). r.fault) same ∙ c.lines.invariant.fault;
      counted = omega arith;
      within = goes_on _ _ _ _ _ _ _ _ c.lines.invariant.within some c.judge_event-in-lines.ensures.config
          (λ es taken. subst (λ (told : Option Given). JudgesNext c.lines.judge c.judge_event-in-lines.new.self es e told)
          c.in_default-3.is (c.in_ok-given-2.ensures.told es taken));
    }

pub returns-in-Some-3-clause-finds : goal.returns-in-Some-3-clause-finds
returns-in-Some-3-clause-finds c =
    let e = c.in-Ok-Some.event in
    let some = first_left c.lines.events c.next_usual.new.self _ e _ c.in_default.ensures.same c.in-Ok-Some.field-0-is
    c.in-Ok-Some.ensures.some in
    found_no _ _ _ c.judge_event-in-lines.new.self _ _ _ _ _ c.lines.invariant.within some
    (λ es taken. subst (λ (told : Option Given). JudgesNext c.lines.judge c.judge_event-in-lines.new.self es e told) c.in-Some-3.is
    (c.in_ok-given-2.ensures.told es taken))
