use Rattle.std.proofs.Common.{◌≡◌, ◌∷◌, ◌+◌, ◌∙◌, refl, sym, ap}
use Rattle.script_text.specs.EventsLeft.{EventsLeft}
use Rattle.script_text.specs.Feeds.{end_of, line_of}
use Rattle.script_text.specs.Lines.{pieces_of}
use Rattle.script_text.proofs.Parts.Pieces.{behind, pieces_ended}
use Rattle.script_text.proofs.Reading.RecordStops.{event_line_never}
use Rattle.script_text.proofs.Reading.LeftEvents.{next_ahead, same_fault, none_ahead, its_fault, none_left, no_fault, cut_fault}
use Rattle.script_text.proofs.read.record_events.RecordEvents.next_event.Goals as goal

pub returns-then-is_empty-clause-none : goal.returns-then-is_empty-clause-none
returns-then-is_empty-clause-none c =
    ap (λ (r : EventsLeft). r.events) (sym c.self.view_is)
    ∙ none_left c.self.inside.count c.self.inside.config c.self.inside.lines.now (c.has_feed.ensures.none c.if-not-has_feed.true)

pub returns-then-is_empty-clause-good : goal.returns-then-is_empty-clause-good
returns-then-is_empty-clause-good c =
    ap (λ (r : EventsLeft). r.fault) (sym c.self.view_is)
    ∙ no_fault c.self.inside.count c.self.inside.config c.self.inside.lines.now (c.has_feed.ensures.none c.if-not-has_feed.true)
    (sym c.is_empty.ensures ∙ c.if-is_empty.true)

pub returns-then-not-has_feed-clause-last : goal.returns-then-not-has_feed-clause-last
returns-then-not-has_feed-clause-last c =
    ap (λ (r : EventsLeft). r.events) (sym c.self.view_is)
    ∙ none_left c.self.inside.count c.self.inside.config c.self.inside.lines.now (c.has_feed.ensures.none c.if-not-has_feed.true)

pub returns-then-not-has_feed-clause-fault : goal.returns-then-not-has_feed-clause-fault
returns-then-not-has_feed-clause-fault c =
    ap (λ (r : EventsLeft). r.fault) (sym c.self.view_is)
    ∙ cut_fault c.self.inside.count c.self.inside.config c.self.inside.lines.now (c.has_feed.ensures.none c.if-not-has_feed.true)
    (sym c.is_empty.ensures ∙ c.if-is_empty.false)

pub returns-in-Ok-clause-kept : goal.returns-in-Ok-clause-kept
returns-in-Ok-clause-kept c =
    let s = c.self.inside in
    let rest = s.lines.now in
    let front = c.front_event-front.result in
    let after = behind (front.length + 1) rest in
    let piece : pieces_of rest ≡ line_of rest ∷ pieces_of after =
    pieces_ended rest front.length (c.if-not-has_feed.ensures.found refl) c.front_event-front.ensures.length in
    sym (ap (λ (r : EventsLeft). r.fault) (sym c.self.view_is)
    ∙ same_fault s.count s.config rest (line_of rest) after c.in-Ok.event piece (sym c.front_event-front.ensures.event ∙ c.in-Ok.is))

pub returns-in-Ok-clause-some : goal.returns-in-Ok-clause-some
returns-in-Ok-clause-some c =
    let s = c.self.inside in
    let rest = s.lines.now in
    let front = c.front_event-front.result in
    let after = behind (front.length + 1) rest in
    let piece : pieces_of rest ≡ line_of rest ∷ pieces_of after =
    pieces_ended rest front.length (c.if-not-has_feed.ensures.found refl) c.front_event-front.ensures.length in
    ap (λ (r : EventsLeft). r.events) (sym c.self.view_is)
    ∙ next_ahead s.count s.config rest (line_of rest) after c.in-Ok.event piece (sym c.front_event-front.ensures.event ∙ c.in-Ok.is)

pub returns-in-Err-clause-last : goal.returns-in-Err-clause-last
returns-in-Err-clause-last c =
    let s = c.self.inside in
    let rest = s.lines.now in
    let after = behind (end_of rest + 1) rest in
    let piece : pieces_of rest ≡ line_of rest ∷ pieces_of after =
    pieces_ended rest (end_of rest) (c.if-not-has_feed.ensures.found refl) refl in
    ap (λ (r : EventsLeft). r.events) (sym c.self.view_is)
    ∙ none_ahead s.count s.config rest (line_of rest) after c.in-Err.kind piece (sym c.front_event-front.ensures.event ∙ c.in-Err.is)

pub returns-in-Err-clause-fault : goal.returns-in-Err-clause-fault
returns-in-Err-clause-fault c =
    let s = c.self.inside in
    let rest = s.lines.now in
    let after = behind (end_of rest + 1) rest in
    let piece : pieces_of rest ≡ line_of rest ∷ pieces_of after =
    pieces_ended rest (end_of rest) (c.if-not-has_feed.ensures.found refl) refl in
    ap (λ (r : EventsLeft). r.fault) (sym c.self.view_is)
    ∙ its_fault s.count s.config rest (line_of rest) after c.in-Err.kind piece (sym c.front_event-front.ensures.event ∙ c.in-Err.is)

pub returns-in-Err-clause-memory : goal.returns-in-Err-clause-memory
returns-in-Err-clause-memory c = event_line_never c.self.inside.count c.self.inside.config (line_of c.self.inside.lines.now) c.in-Err.kind
    (sym c.front_event-front.ensures.event ∙ c.in-Err.is)
