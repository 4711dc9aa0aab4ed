use Rattle.std.proofs.Common.{◌≡◌, ◌∷◌, ◌+◌, ◌∙◌, refl, sym, ap}
use Rattle.script_text.specs.EventsLeft.{EventsLeft}
use Rattle.script_text.specs.Feeds.{line_of}
use Rattle.script_text.specs.Lines.{pieces_of}
use Rattle.script_text.proofs.Parts.Pieces.{behind, pieces_ended}
use Rattle.script_text.proofs.Reading.LeftEvents.{next_ahead, same_fault}
use Rattle.script_text.proofs.read.record_events.RecordEvents.next_usual.Goals as goal

pub returns-clause-kept : goal.returns-clause-kept
returns-clause-kept c =
    let s = c.self.inside in
    let rest = s.lines.now in
    let line = c.in-Some.field-0 in
    let after = behind (line.length + 1) rest in
    let piece : pieces_of rest ≡ line_of rest ∷ pieces_of after =
    pieces_ended rest line.length (c.if-not-has_feed.ensures.found refl) c.in-Some.ensures.length in
    sym (ap (λ (r : EventsLeft). r.fault) (sym c.self.view_is)
    ∙ same_fault s.count s.config rest (line_of rest) after line.event piece c.in-Some.ensures.event)

pub returns-clause-some : goal.returns-clause-some
returns-clause-some c =
    let s = c.self.inside in
    let rest = s.lines.now in
    let line = c.in-Some.field-0 in
    let after = behind (line.length + 1) rest in
    let piece : pieces_of rest ≡ line_of rest ∷ pieces_of after =
    pieces_ended rest line.length (c.if-not-has_feed.ensures.found refl) c.in-Some.ensures.length in
    ap (λ (r : EventsLeft). r.events) (sym c.self.view_is)
    ∙ next_ahead s.count s.config rest (line_of rest) after line.event piece c.in-Some.ensures.event
