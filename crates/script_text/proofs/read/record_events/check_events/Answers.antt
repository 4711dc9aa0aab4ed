use Rattle.std.proofs.Common.{◌≡◌, ◌<◌, ◌+◌, ◌∷◌, ◌∙◌, length, refl, sym, ap, arith}
use Rattle.std.proofs.lemmas.List.{length-drop}
use Rattle.script_text.specs.Feeds.{end_of, line_of}
use Rattle.script_text.specs.Lines.{pieces_of}
use Rattle.script_text.proofs.Parts.Pieces.{behind, behind_is, pieces_ended}
use Rattle.script_text.proofs.Reading.RecordStops.{event_line_never}
use Rattle.script_text.proofs.Reading.LeftEvents.{same_fault, its_fault, no_fault, cut_fault}
use Rattle.script_text.proofs.read.record_events.check_events.Goals as goal

pub returns-in-Err-clause-fault : goal.returns-in-Err-clause-fault
returns-in-Err-clause-fault c =
    let rest = c.lines.rest.now in
    let after = behind (end_of rest + 1) rest in
    let piece : pieces_of rest ≡ line_of rest ∷ pieces_of after = pieces_ended rest (end_of rest) (c.lines-test.ensures.found refl) refl in
    c.lines.invariant.so_far
    ∙ its_fault c.lines.count c.args.config.now rest (line_of rest) after c.in-Err.kind piece
    (sym c.front_event-front.ensures.event ∙ c.in-Err.is)

pub returns-in-Err-clause-memory : goal.returns-in-Err-clause-memory
returns-in-Err-clause-memory c = event_line_never c.lines.count c.args.config.now (line_of c.lines.rest.now) c.in-Err.kind
    (sym c.front_event-front.ensures.event ∙ c.in-Err.is)

pub lines-preserved : goal.lines-preserved
lines-preserved c =
    let rest = c.lines.rest.now in
    let front = c.front_event-front.result in
    let after = behind (front.length + 1) rest in
    let ended : end_of rest < length rest = c.lines-test.ensures.found refl in
    let piece : pieces_of rest ≡ line_of rest ∷ pieces_of after = pieces_ended rest front.length ended c.front_event-front.ensures.length in
    let within : front.length < length rest = c.front_event-front.ensures.within in
    record {
      so_far = c.lines.invariant.so_far
          ∙ same_fault c.lines.count c.args.config.now rest (line_of rest) after _ piece
          (sym c.front_event-front.ensures.event ∙ c.in_default.is);
      count =
          let count = c.lines.invariant.count in
          omega (arith, count, within, ap length (behind_is (front.length + 1) rest), length-drop (front.length + 1) rest);
    }

pub returns-then-is_empty-clause-ok : goal.returns-then-is_empty-clause-ok
returns-then-is_empty-clause-ok c = c.lines.invariant.so_far
    ∙ no_fault c.lines.count c.args.config.now c.lines.rest.now (c.lines-test.ensures.none refl)
    (sym c.is_empty.ensures ∙ c.if-is_empty.true)

pub returns-else-is_empty-clause-fault : goal.returns-else-is_empty-clause-fault
returns-else-is_empty-clause-fault c = c.lines.invariant.so_far
    ∙ cut_fault c.lines.count c.args.config.now c.lines.rest.now (c.lines-test.ensures.none refl)
    (sym c.is_empty.ensures ∙ c.if-is_empty.false)
