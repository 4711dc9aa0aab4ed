use Rattle.std.proofs.Common.{◌≡◌, ◌<◌, ◌+◌, ℕ, List, Result, Ok, Err, refl, ap, subst, sym, ◌∙◌, arith}
use Rattle.std.specs.Prelude.{IfOk, length}
use Rattle.heap_steps.specs.Actors.{IsEvent}
use Rattle.heap_steps.specs.declared.step.Event.{Event}
use Rattle.script_text.specs.Awaited.{IsUnended}
use Rattle.script_text.specs.Events.{event_line_of}
use Rattle.script_text.specs.declared.fault.Kind.{Kind}
use Rattle.script_text.specs.Feeds.{end_of, line_of}
use Rattle.script_text.specs.Waiting.{EndsWhole}
use Rattle.script_text.proofs.Parts.Waiting.{waiting, waits_whole, waits_cut, line_taken, still_whole}
use Rattle.script_text.proofs.read.awaited.LineBuffer.take_event.Goals as goal

pub returns-then-self-clause-none : goal.returns-then-self-clause-none
returns-then-self-clause-none c =
    let inside = c.self.inside in
    let whole : EndsWhole inside.bytes.items inside.start inside.start inside.end =
    subst (λ (w : ℕ). EndsWhole inside.bytes.items inside.start w inside.end) (sym c.if-self.true) c.self.invariant.0 in (
      subst IsUnended c.self.view_is (waits_cut inside.bytes.items inside.start inside.end whole c.self.invariant.1),
      refl,
    )

pub front_event-front-requires : goal.front_event-front-requires
front_event-front-requires c =
    let inside = c.self.inside in
    let some : inside.start < inside.whole = omega (arith, c.self.invariant.0.begun, c.if-self.false) in
    record {
      ended = subst (λ (b : List ℕ). end_of (waiting b inside.start inside.end) < length (waiting b inside.start inside.end))
          (sym c.deref.ensures.value)
          (waits_whole inside.bytes.items inside.start inside.whole inside.end c.self.invariant.0 c.self.invariant.1 some);
    }

pub invariant_of-self : goal.invariant_of-self
invariant_of-self c =
    let inside = c.self.inside in
    let some : inside.start < inside.whole = omega (arith, c.self.invariant.0.begun, c.if-self.false) in (
      still_whole c.deref.result.now inside.bytes.items inside.start inside.whole inside.end c.front_event-front.result.length
          c.deref.ensures.value c.self.invariant.0 c.self.invariant.1 some c.front_event-front.ensures.length,
      c.self.invariant.1,
      c.self.invariant.2,
    )

pub returns-in-Ok-clause-event : goal.returns-in-Ok-clause-event
returns-in-Ok-clause-event c =
    let inside = c.self.inside in
    let seen = c.deref.result.now in
    let some : inside.start < inside.whole = omega (arith, c.self.invariant.0.begun, c.if-self.false) in
    let is : waiting seen inside.start inside.end ≡ c.args.self.now =
    ap (λ (b : List ℕ). waiting b inside.start inside.end) c.deref.ensures.value ∙ c.self.view_is in
    let read : event_line_of c.args.count c.args.config.now (line_of c.args.self.now) ≡ Ok c.in-Ok.event =
    ap (λ (t : List ℕ). event_line_of c.args.count c.args.config.now (line_of t)) (sym is) ∙ sym c.front_event-front.ensures.event
    ∙ c.in-Ok.is in (
      line_of c.args.self.now,
      line_taken c.args.self.now seen inside.bytes.items inside.start inside.whole inside.end c.front_event-front.result.length is
          c.deref.ensures.value c.self.invariant.0 c.self.invariant.1 some c.front_event-front.ensures.length,
      read,
      subst (λ (r : Result Event Kind). IfOk r (IsEvent c.args.config.now)) c.in-Ok.is c.front_event-front.ensures.known,
    )

pub returns-in-Err-clause-fault : goal.returns-in-Err-clause-fault
returns-in-Err-clause-fault c =
    let inside = c.self.inside in
    let seen = c.deref.result.now in
    let some : inside.start < inside.whole = omega (arith, c.self.invariant.0.begun, c.if-self.false) in
    let is : waiting seen inside.start inside.end ≡ c.args.self.now =
    ap (λ (b : List ℕ). waiting b inside.start inside.end) c.deref.ensures.value ∙ c.self.view_is in
    let read : event_line_of c.args.count c.args.config.now (line_of c.args.self.now) ≡ Err c.in-Err.kind =
    ap (λ (t : List ℕ). event_line_of c.args.count c.args.config.now (line_of t)) (sym is) ∙ sym c.front_event-front.ensures.event
    ∙ c.in-Err.is in (
      line_of c.args.self.now,
      waiting inside.bytes.items (inside.start + (c.front_event-front.result.length + 1)) inside.end,
      line_taken c.args.self.now seen inside.bytes.items inside.start inside.whole inside.end c.front_event-front.result.length is
          c.deref.ensures.value c.self.invariant.0 c.self.invariant.1 some c.front_event-front.ensures.length,
      read,
      refl,
    )
