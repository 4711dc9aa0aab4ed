use Rattle.std.proofs.Common.{◌≡◌, ◌∙◌, ◌∷◌, ◌+◌, ◌<◌, Err, ap, sym, refl, arith, rules, length, take}
use Rattle.std.proofs.lemmas.List.{length-drop}
use Rattle.script_text.proofs.Reading.ReadOn.{record_items, no_events, record_begins, goes_on, goes_wrong, is_done, is_cut, read_same}
use Rattle.script_text.proofs.Reading.Stops.{fault_is, one_less, stops}
use Rattle.script_text.proofs.Reading.RecordStops.{event_line_never}
use Rattle.script_text.proofs.Parts.Pieces.{behind, behind_is, pieces_behind, pieces_ended}
use Rattle.heap_steps.specs.Actors.{EventList}
use Rattle.script_text.specs.Feeds.{end_of, line_of}
use Rattle.script_text.specs.Events.{event_line_of}
use Rattle.script_text.specs.Lines.{pieces_of}
use Rattle.script_text.proofs.read.records.parse_record.Goals as goal

pub returns-in-Err : goal.returns-in-Err
returns-in-Err c =
    let f = c.in-Err.fault in
    fault_is f.kind f.line c.args.text.now _ c.in-Err.ensures.memory c.in-Err.ensures.history

pub lines-init : goal.lines-init
lines-init c =
    let text = c.args.text.now in
    let k = c.in-Ok.line.length in
    let config = c.in-Ok.line.config in
    record {
      so_far = read_same (record_items config) _ (no_events config) _ _ c.new-history.ensures
          (record_begins text (take k text) (behind (k + 1) text) config (pieces_behind text k c.in-Ok.ensures.line)
          c.in-Ok.ensures.config);
      config = search rules;
      bound = omega (arith, ap length (behind_is (k + 1) text), length-drop (k + 1) text);
      from = omega arith;
      lines =
          let less = one_less 1 text (take k text) (behind (k + 1) text) (pieces_behind text k c.in-Ok.ensures.line) in
          omega arith;
    }

pub returns-in-Err-event : goal.returns-in-Err-event
returns-in-Err-event c =
    let rest = c.lines.rest.now in
    let after = behind (end_of rest + 1) rest in
    let piece : pieces_of rest ≡ line_of rest ∷ pieces_of after = pieces_ended rest (end_of rest) (c.lines-test.ensures.found refl) refl in
    let bad : event_line_of c.lines.count c.in-Ok.line.config (line_of rest) ≡ Err c.in-Err-event.kind =
    sym c.front_event-length.ensures.event ∙ c.in-Err-event.is in
    fault_is c.in-Err-event.kind (c.lines.count + 1) c.args.text.now _
    (event_line_never c.lines.count c.in-Ok.line.config (line_of rest) c.in-Err-event.kind bad)
    (goes_wrong (record_items c.in-Ok.line.config) c.lines.history c.lines.count rest (line_of rest) after c.in-Err-event.kind _
    piece bad c.lines.invariant.so_far)

pub lines-preserved : goal.lines-preserved
lines-preserved c =
    let rest = c.lines.rest.now in
    let line = c.front_event-length.result in
    let after = behind (line.length + 1) rest in
    let ended : end_of rest < length rest = c.lines-test.ensures.found refl in
    let piece : pieces_of rest ≡ line_of rest ∷ pieces_of after = pieces_ended rest line.length ended c.front_event-length.ensures.length in
    let within : line.length < length rest = c.front_event-length.ensures.within in
    record {
      so_far = read_same (record_items c.in-Ok.line.config) _ _ _ _ c.in-Ok-push.ensures.ok
          (goes_on (record_items c.in-Ok.line.config) c.lines.history c.lines.count rest (line_of rest) after c.in-Ok-event.event _
          piece (sym c.front_event-length.ensures.event ∙ c.in-Ok-event.is) c.lines.invariant.so_far);
      config = ap (λ (p : EventList). p.config) c.in-Ok-push.ensures.ok ∙ c.lines.invariant.config;
      bound = omega (arith, within, ap length (behind_is (line.length + 1) rest), length-drop (line.length + 1) rest);
      from = let from = c.lines.invariant.from in omega arith;
      lines =
          let less = one_less c.lines.count rest (line_of rest) after piece in
          let lines = c.lines.invariant.lines in
          omega arith;
    }

pub returns-in_default : goal.returns-in_default
returns-in_default c =
    let rest = c.lines.rest.now in
    let after = behind (end_of rest + 1) rest in
    let piece : pieces_of rest ≡ line_of rest ∷ pieces_of after = pieces_ended rest (end_of rest) (c.lines-test.ensures.found refl) refl in
    stops (record_items c.in-Ok.line.config) c.lines.history c.lines.count c.args.text.now rest (line_of rest) after _ _
    piece (sym c.front_event-length.ensures.event ∙ c.in-Ok-event.is) c.lines.invariant.so_far (omega arith)
    (let lines = c.lines.invariant.lines in omega arith)

pub returns-then-is_empty : goal.returns-then-is_empty
returns-then-is_empty c = is_done (record_items c.in-Ok.line.config) c.lines.history c.lines.count c.lines.rest.now _
    (c.lines-test.ensures.none refl) (sym c.is_empty.ensures ∙ c.if-is_empty.true) c.lines.invariant.so_far

pub returns-else-is_empty : goal.returns-else-is_empty
returns-else-is_empty c = is_cut (record_items c.in-Ok.line.config) c.lines.history c.lines.count c.lines.rest.now _
    (c.lines-test.ensures.none refl) (sym c.is_empty.ensures ∙ c.if-is_empty.false) c.lines.invariant.so_far
