-- A text goes on after the text of a record.
use Rattle.std.proofs.Common.{◌≡◌, ◌+◌, ◌<◌, ◌∷◌, ◌++◌, ◌∙◌}
use Rattle.std.proofs.Common.{ℕ, List, [], length, Result, Ok, Err, refl, sym, ap, append_assoc, arith, inl, inr}
use Rattle.std.proofs.lemmas.Bool.{lt-ltb}
use Rattle.std.proofs.lemmas.List.{append-nil}
use Rattle.heap_words.specs.declared.config.Config.{Config}
use Rattle.heap_steps.specs.Actors.{EventList}
use Rattle.heap_steps.specs.declared.step.Event.{Event}
use Rattle.script_text.specs.declared.fault.Kind.{Kind}
use Rattle.script_text.specs.declared.fault.Kind.TheVariants as kinds
use Rattle.script_text.specs.declared.fault.LineFault.{LineFault}
use Rattle.script_text.specs.Awaited.{whole_lines, EndsLine, IsUnended, IsWrong}
use Rattle.script_text.specs.Spelling.{heap_words, spaced}
use Rattle.script_text.specs.Records.{event_lines}
use Rattle.script_text.specs.Lines.{pieces_of, heap_line_of}
use Rattle.script_text.specs.Events.{event_line_of, events_of, record_by, record_of}
use Rattle.script_text.proofs.Parts.FirstLines.{first_clear, begins_is, pieces_at, ends_longer}
use Rattle.script_text.proofs.Parts.WholeLines.{no_whole, whole_at, whole_front}
use Rattle.script_text.proofs.Reading.ReadOn.{record_items, fault, no_events, read_on, record_begins, begins_wrong, no_line}
use Rattle.script_text.proofs.Reading.ReadOn.{goes_on, goes_wrong, is_done}
use Rattle.script_text.proofs.BothWays.StepsSpelled.{heap_line_again, heap_no_feed}
use Rattle.script_text.proofs.BothWays.EventsRead.{event_text}
use Rattle.script_text.proofs.BothWays.EventsSpelled.{event_line_again, event_no_feed}
use Rattle.script_text.proofs.BothWays.ItemTexts.{AllGood}
use Rattle.script_text.proofs.BothWays.RecordTexts.{Good, record_good, record_read}

-- events that are spelled are read, whatever comes after them
events_extend : (es : List Event) (n : ℕ) (c : Config) (p : EventList) (t : List ℕ) → AllGood (Good c) n es →
    read_on (record_items c) p (events_of n c (pieces_of (event_lines n es ++ t)))
    ≡ read_on (record_items c) (record p { events = p.events ++ es }) (events_of (n + length es) c (pieces_of t))
events_extend [] n c p t good =
    let same : n + length {A = Event} [] ≡ n = omega arith in
    sym (ap (λ (xs : List Event).
    read_on (record_items c) (record p { events = xs }) (events_of (n + length {A = Event} []) c (pieces_of t))) (append-nil p.events)
    ∙ ap (λ (k : ℕ). read_on (record_items c) p (events_of k c (pieces_of t))) same)
events_extend (e ∷ es) n c p t good =
    let head = good.0 in
    let rest = event_lines (n + 1) es ++ t in
    let cut : event_lines n (e ∷ es) ++ t ≡ event_text n e ++ 10 ∷ rest =
    ap (λ (l : List ℕ). l ++ t) (append_assoc (event_text n e) (10 ∷ []) (event_lines (n + 1) es))
    ∙ append_assoc (event_text n e) (10 ∷ event_lines (n + 1) es) t in
    let pieces : pieces_of (event_lines n (e ∷ es) ++ t) ≡ event_text n e ∷ pieces_of rest =
    ap pieces_of cut ∙ pieces_at (event_text n e) rest (event_no_feed n c e head) in
    let on =
    goes_on (record_items c) p n (event_lines n (e ∷ es) ++ t) (event_text n e) rest e _ pieces (event_line_again n c e head) refl in
    let more = events_extend es (n + 1) c ((record_items c).more p (e ∷ [])) t good.1 in
    let same : (p.events ++ e ∷ []) ++ es ≡ p.events ++ e ∷ es = append_assoc p.events (e ∷ []) es in
    let count : (n + 1) + length es ≡ n + length (e ∷ es) = omega arith in
    sym on ∙ more ∙ ap (λ (xs : List Event).
    read_on (record_items c) (record p { events = xs }) (events_of ((n + 1) + length es) c (pieces_of t))) same
    ∙ ap (λ (k : ℕ). read_on (record_items c) (record p { events = p.events ++ e ∷ es }) (events_of k c (pieces_of t))) count

-- a text after the text of a record is read from its next event on
pub extends : (lines : List ℕ) (r : EventList) (t : List ℕ) → record_of lines ≡ Ok r
    → record_of (lines ++ t) ≡ read_on (record_items r.config) r (events_of (length r.events + 1) r.config (pieces_of t))
extends lines r t read =
    let is = record_read lines r read in
    let rest = event_lines 1 r.events ++ t in
    let head = spaced (heap_words r.config) in
    let cut : lines ++ t ≡ head ++ 10 ∷ rest = ap (λ (l : List ℕ). l ++ t) is.0
    ∙ ap (λ (l : List ℕ). l ++ t) (append_assoc head (10 ∷ []) (event_lines 1 r.events))
    ∙ append_assoc head (10 ∷ event_lines 1 r.events) t in
    let pieces : pieces_of (lines ++ t) ≡ head ∷ pieces_of rest =
    ap pieces_of cut ∙ pieces_at head rest (heap_no_feed r.config is.1.config) in
    let first = record_begins (lines ++ t) head rest r.config pieces (heap_line_again r.config is.1.config) in
    let more = events_extend r.events 1 r.config (no_events r.config) t (record_good r is.1) in
    let count : 1 + length r.events ≡ length r.events + 1 = omega arith in
    sym first ∙ more ∙ ap (λ (k : ℕ). read_on (record_items r.config) r (events_of k r.config (pieces_of t))) count

-- the heap line was taken
pub head_taken : (text line rest : List ℕ) (c : Config) → EndsLine text line rest → heap_line_of line ≡ Ok c
    → (head : List ℕ) × (text ≡ head ++ rest) × (record_of head ≡ Ok (no_events c))
head_taken text line rest c at ok =
    let clear = first_clear text line (pieces_of rest) at in
    let cut : text ≡ (line ++ 10 ∷ []) ++ rest = begins_is text line rest at ∙ sym (append_assoc line (10 ∷ []) rest) in
    let on = record_begins (line ++ 10 ∷ []) line [] c (pieces_at line [] clear) ok in
    (line ++ 10 ∷ [], cut, is_done (record_items c) (no_events c) 1 [] (record_of (line ++ 10 ∷ [])) refl refl on)

-- the line of the next event was taken
pub event_taken : (lines text line rest : List ℕ) (r : EventList) (e : Event) → record_of lines ≡ Ok r → EndsLine text line rest
    → event_line_of (length r.events + 1) r.config line ≡ Ok e →
    (more : List ℕ) × (lines ++ text ≡ more ++ rest) × (record_of more ≡ Ok (record r { events = r.events ++ e ∷ [] }))
event_taken lines text line rest r e read at ok =
    let clear = first_clear text line (pieces_of rest) at in
    let more = lines ++ (line ++ 10 ∷ []) in
    let cut : lines ++ text ≡ more ++ rest =
    ap (λ (t : List ℕ). lines ++ t) (begins_is text line rest at ∙ sym (append_assoc line (10 ∷ []) rest))
    ∙ sym (append_assoc lines (line ++ 10 ∷ []) rest) in
    let all = extends lines r (line ++ 10 ∷ []) read in
    let t = record_items r.config in
    let on =
    goes_on t r (length r.events + 1) (line ++ 10 ∷ []) line [] e (record_of more) (pieces_at line [] clear) ok (sym all) in
    (more, cut, is_done t (t.more r (e ∷ [])) (length r.events + 1 + 1) [] (record_of more) refl refl on)

-- a line with more than 120 bytes has that fault
event_long : (n : ℕ) (c : Config) (line : List ℕ) → 120 < length line → event_line_of n c line ≡ Err kinds.LongLine
unfolding event_line_of
event_long n c line long = rw (lt-ltb 120 (length line) long) refl

heap_long : (line : List ℕ) → 120 < length line → heap_line_of line ≡ Err kinds.LongLine
unfolding heap_line_of
heap_long line long = rw (lt-ltb 120 (length line) long) refl

-- a line that is wrong stays wrong, whatever comes after up to a line feed
pub stays_wrong : {A : Type 0} (read : List ℕ → Result A Kind) (text : List ℕ) (k : Kind) (more : List ℕ)
    → ((line : List ℕ) → 120 < length line → read line ≡ Err kinds.LongLine) → IsWrong read text k →
    (line : List ℕ) × (rest : List ℕ) × EndsLine (text ++ more ++ 10 ∷ []) line rest × (read line ≡ Err k)
stays_wrong read text k more long (inl (line, rest, at, bad)) =
    let clear = first_clear text line (pieces_of rest) at in
    let cut : text ++ more ++ 10 ∷ [] ≡ line ++ 10 ∷ (rest ++ more ++ 10 ∷ []) =
    ap (λ (t : List ℕ). t ++ more ++ 10 ∷ []) (begins_is text line rest at)
    ∙ ap (λ (t : List ℕ). t ++ 10 ∷ []) (append_assoc line (10 ∷ rest) more) ∙ append_assoc line (10 ∷ (rest ++ more)) (10 ∷ []) in
    (line, rest ++ more ++ 10 ∷ [], ap pieces_of cut ∙ pieces_at line (rest ++ more ++ 10 ∷ []) clear, bad)
stays_wrong read text k more long (inr (part, many, is)) =
    let whole = ends_longer text more (first_clear text text [] part) in
    (whole.0, whole.1, whole.2, long whole.0 (let le = whole.3 in omega arith) ∙ ap Err (sym is))

-- the heap line is wrong, whatever comes
pub head_wrong : (text more : List ℕ) (k : Kind) → IsWrong heap_line_of text k → record_of (text ++ more ++ 10 ∷ []) ≡ Err (fault 1 k)
head_wrong text more k wrong =
    let still = stays_wrong heap_line_of text k more heap_long wrong in
    begins_wrong record_by (text ++ more ++ 10 ∷ []) still.0 still.1 k still.2 still.3

-- the line of the next event is wrong, whatever comes
pub event_wrong : (lines text more : List ℕ) (r : EventList) (k : Kind) → record_of lines ≡ Ok r
    → IsWrong (event_line_of (length r.events + 1) r.config) text k →
    record_of (lines ++ text ++ more ++ 10 ∷ []) ≡ Err (fault (length r.events + 1 + 1) k)
event_wrong lines text more r k read wrong =
    let still = stays_wrong (event_line_of (length r.events + 1) r.config) text k more (event_long (length r.events + 1) r.config) wrong in
    let cut : lines ++ text ++ more ++ 10 ∷ [] ≡ lines ++ (text ++ more ++ 10 ∷ []) =
    ap (λ (t : List ℕ). t ++ 10 ∷ []) (append_assoc lines text more) ∙ append_assoc lines (text ++ more) (10 ∷ []) in
    ap record_of cut ∙ goes_wrong (record_items r.config) r (length r.events + 1) (text ++ more ++ 10 ∷ []) still.0 still.1 k
    (record_of (lines ++ (text ++ more ++ 10 ∷ []))) still.2 still.3 (sym (extends lines r (text ++ more ++ 10 ∷ []) read))

-- the text of a record ends in a line feed
ends_feed : (es : List Event) (n : ℕ) (front : List ℕ) → (x : List ℕ) × ((front ++ 10 ∷ []) ++ event_lines n es ≡ x ++ 10 ∷ [])
ends_feed [] n front = (front, append-nil (front ++ 10 ∷ []))
ends_feed (e ∷ es) n front =
    let rest = ends_feed es (n + 1) ((front ++ 10 ∷ []) ++ event_text n e) in
    let cut : (front ++ 10 ∷ []) ++ event_lines n (e ∷ es) ≡ (((front ++ 10 ∷ []) ++ event_text n e) ++ 10 ∷ []) ++ event_lines (n + 1) es =
    sym (append_assoc (front ++ 10 ∷ []) (event_text n e ++ 10 ∷ []) (event_lines (n + 1) es))
    ∙ ap (λ (t : List ℕ). t ++ event_lines (n + 1) es) (sym (append_assoc (front ++ 10 ∷ []) (event_text n e) (10 ∷ []))) in
    (rest.0, cut ∙ rest.1)

-- a record's text with a cut line after it, without that
pub whole_of_record : (lines part : List ℕ) (r : EventList) → record_of lines ≡ Ok r → IsUnended part → whole_lines (lines ++ part) ≡ lines
whole_of_record lines part r read unended =
    let clear = first_clear part part [] unended in
    let is = record_read lines r read in
    let ends = ends_feed r.events 1 (spaced (heap_words r.config)) in
    let feed : lines ≡ ends.0 ++ 10 ∷ [] = is.0 ∙ ends.1 in
    let cut : lines ++ part ≡ ends.0 ++ 10 ∷ part = ap (λ (t : List ℕ). t ++ part) feed ∙ append_assoc ends.0 (10 ∷ []) part in
    ap whole_lines cut ∙ whole_at ends.0 part clear ∙ sym feed

-- where no line came there is no heap line
pub whole_of_none : (text : List ℕ) → IsUnended text → record_of (whole_lines text) ≡ Err (fault 1 kinds.BadHeap)
whole_of_none text unended = ap record_of (no_whole text (first_clear text text [] unended)) ∙ no_line record_by [] kinds.BadHeap refl refl

-- a record's lines stay, whatever comes after them
pub whole_behind : (lines x : List ℕ) (r : EventList) → record_of lines ≡ Ok r → whole_lines (lines ++ x) ≡ lines ++ whole_lines x
whole_behind lines x r read =
    let ends = ends_feed r.events 1 (spaced (heap_words r.config)) in
    let feed : lines ≡ ends.0 ++ 10 ∷ [] = (record_read lines r read).0 ∙ ends.1 in
    let cut : (t : List ℕ) → lines ++ t ≡ ends.0 ++ 10 ∷ t = λ t. ap (λ (l : List ℕ). l ++ t) feed ∙ append_assoc ends.0 (10 ∷ []) t in
    ap whole_lines (cut x) ∙ whole_front ends.0 x ∙ sym (cut (whole_lines x))

read_ok : (c : Config) (p q : EventList) (r : Result (List Event) LineFault) → read_on (record_items c) p r ≡ Ok q
    → (es : List Event) × (q ≡ record p { events = p.events ++ es })
read_ok c p q (Ok es) e = (es, cc)
read_ok c p q (Err f) e = absurd (cc)

-- a record whose text goes on has more events
pub reads_behind : (lines t : List ℕ) (r q : EventList) → record_of lines ≡ Ok r → record_of (lines ++ t) ≡ Ok q
    → (es : List Event) × (q ≡ record r { events = r.events ++ es })
reads_behind lines t r q read more =
    read_ok r.config r q (events_of (length r.events + 1) r.config (pieces_of t)) (sym (extends lines r t read) ∙ more)
