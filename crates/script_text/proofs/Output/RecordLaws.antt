-- The text of a record with more events.
use Rattle.std.proofs.Common.{◌≡◌, ℕ, suc, ◌+◌, List, [], ◌∷◌, ◌++◌, length, sym, ap, ◌∙◌, append_assoc, arith}
use Rattle.std.proofs.lemmas.List.{append-nil}
use Rattle.heap_steps.specs.Actors.{EventList}
use Rattle.heap_steps.specs.declared.step.Event.{Event}
use Rattle.script_text.specs.Spelling.{heap_words, line}
use Rattle.script_text.specs.Records.{event_line, event_lines, record_text}
use Rattle.script_text.specs.Written.{with_events}

event_lines-append : (n : ℕ) (es more : List Event) → event_lines n (es ++ more) ≡ event_lines n es ++ event_lines (n + length es) more
event_lines-append n [] more = let same : n ≡ n + 0 = omega arith in ap (λ (k : ℕ). event_lines k more) same
event_lines-append n (x ∷ es) more =
    let same : n + 1 + length es ≡ n + suc (length es) = omega arith in
    ap (λ (t : List ℕ). event_line n x ++ t) (event_lines-append (n + 1) es more)
    ∙ sym (append_assoc (event_line n x) (event_lines (n + 1) es) (event_lines (n + 1 + length es) more))
    ∙ ap (λ (k : ℕ). (event_line n x ++ event_lines (n + 1) es) ++ event_lines k more) same

-- the lines of more events are after the text
pub text_more : (r : EventList) (more : List Event)
    → record_text (with_events r more) ≡ record_text r ++ event_lines (1 + length r.events) more
text_more r more =
    ap (λ (t : List ℕ). line (heap_words r.config) ++ t) (event_lines-append 1 r.events more)
    ∙ sym (append_assoc (line (heap_words r.config)) (event_lines 1 r.events) (event_lines (1 + length r.events) more))

-- and so does the line of one
pub one_more : (r : EventList) (e : Event) (count : ℕ) → count ≡ length r.events + 1
    → record_text (with_events r (e ∷ [])) ≡ record_text r ++ event_line count e
one_more r e count is =
    let same : 1 + length r.events ≡ count = omega (arith, is) in
    text_more r (e ∷ []) ∙ ap (λ (t : List ℕ). record_text r ++ t) (append-nil (event_line (1 + length r.events) e))
    ∙ ap (λ (k : ℕ). record_text r ++ event_line k e) same
