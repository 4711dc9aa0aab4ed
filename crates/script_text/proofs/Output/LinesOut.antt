-- The lines of a record on their way to a writer: one more is put, or the writer refuses.
use Rattle.std.proofs.Common.{◌≡◌, ◌≢◌, Result, Ok, Err, ℕ, ◌+◌, ◌<◌, ◌≤◌, List, [], ◌∷◌, ◌++◌, length, take, get_or, refl, sym, ap, subst}
use Rattle.std.proofs.Common.{◌∙◌, append_assoc, arith}
use Rattle.std.specs.Prelude.{OnErr, IfErr}
use Rattle.std.proofs.lemmas.List.{append-nil, length-append, take_more}
use Rattle.heap_words.specs.declared.config.Config.{Config}
use Rattle.heap_steps.specs.Actors.{EventList}
use Rattle.heap_steps.specs.declared.step.Event.{Event}
use Rattle.script_text.specs.Spelling.{heap_words, line}
use Rattle.script_text.specs.Records.{event_line, event_lines, record_text}
use Rattle.script_text.specs.Watched.{Writer, TookBytes, TakesPart, FailsToTake}
use Rattle.script_text.specs.declared.fault.WriteFault.{WriteFault}
use Rattle.script_text.specs.declared.fault.WriteFault.TheVariants as writes
use Rattle.script_text.specs.Written.{Lines, IsWriting, AreLinesOf, no_events, with_events}
use Rattle.script_text.proofs.Output.RecordLaws.{text_more, one_more}
use Rattle.script_text.proofs.Output.WriteLaws.{nothing_written, part_written, more_held, stopped}

-- the heap line is held
pub lines_begin : (config : Config) (w : Writer) (held : List ℕ) → held ≡ line (heap_words config)
    → AreLinesOf (no_events config) w w (record { events = 0; held = held })
lines_begin config w held put = record {
  counted = refl;
  text = nothing_written (record_text (no_events config)) w held (put ∙ sym (append-nil (line (heap_words config))));
}

-- some of what was held is written, and the next event's line is put
pub line_put : (r : EventList) (e : Event) (first old new : Writer) (lines : Lines) (count : ℕ) (held left after : List ℕ)
    → AreLinesOf r first old lines → lines ≡ record { events = count; held = held }
    → (written : List ℕ) × TookBytes old new written × (held ≡ written ++ left)
    → after ≡ left ++ event_line (count + 1) e
    → AreLinesOf (with_events r (e ∷ [])) first new (record { events = count + 1; held = after })
line_put r e first old new lines count held left after before is made put =
    let counted : count ≡ length r.events = ap (λ (l : Lines). l.events) (sym is) ∙ before.counted in
    let text : IsWriting (record_text r) first old held = rw (ap (λ (l : Lines). l.held) (sym is)) before.text in
    record {
      counted = let many : length (r.events ++ e ∷ []) ≡ length r.events + 1 = length-append r.events (e ∷ []) in omega arith;
      text = more_held (record_text r) (event_line (count + 1) e) (record_text (with_events r (e ∷ []))) first new left after
          (part_written (record_text r) first old new held made.0 left text made.1 made.2)
          (one_more r e (count + 1) (ap (λ (n : ℕ). n + 1) counted)) put;
    }

-- the writer refuses some of what is held, whatever events come after
pub lines_stopped : (r : EventList) (more : List Event) (first old new : Writer) (lines : Lines) (count : ℕ) (held : List ℕ)
    → AreLinesOf r first old lines → lines ≡ record { events = count; held = held } → TakesPart old new held
    → TakesPart first new (record_text (with_events r more))
lines_stopped r more first old new lines count held before is stop =
    stopped (record_text r) (event_lines (1 + length r.events) more) (record_text (with_events r more)) first old new held
    (rw (ap (λ (l : Lines). l.held) (sym is)) before.text) (text_more r more) stop

pub none_more : (r : EventList) → with_events r [] ≡ r
none_more r = ap (λ (es : List Event). record { config = r.config; events = es }) (append-nil r.events)

pub some_more : (r : EventList) (es more : List Event) → with_events (with_events r es) more ≡ with_events r (es ++ more)
some_more r es more = ap (λ (all : List Event). record { config = r.config; events = all }) (append_assoc r.events es more)

-- the lines of the first events, and one more
pub more_lines : (r : EventList) (es : List Event) (i : ℕ) (none : Event) (first now : Writer) (lines : Lines) → i < length es
    → AreLinesOf (with_events (with_events r (take i es)) (get_or es i none ∷ [])) first now lines
    → AreLinesOf (with_events r (take (i + 1) es)) first now lines
more_lines r es i none first now lines within put =
    subst (λ (all : EventList). AreLinesOf all first now lines)
    (some_more r (take i es) (get_or es i none ∷ []) ∙ ap (with_events r) (sym (take_more es i none within))) put

-- the lines of all of a record's events
pub all_of : (config : Config) (es : List Event) (r : EventList) → config ≡ r.config → es ≡ r.events
    → with_events (no_events config) es ≡ r
all_of config es r sizes lines =
    subst (λ (c : Config). with_events (no_events c) es ≡ r) (sym sizes)
    (subst (λ (all : List Event). with_events (no_events r.config) all ≡ r) (sym lines) refl)

-- a refusal, where memory isn't refused
pub fails : (fault : WriteFault) (old new : Writer) (text : List ℕ) → fault ≢ writes.NoMemory → TakesPart old new text
    → FailsToTake fault old new text
fails writes.CannotWrite old new text other part = part
fails writes.NoMemory old new text other part = absurd (other refl)

pub fails_if : {A P : Type 0} (r : Result A WriteFault) (old new : Writer) (text : List ℕ) → r ≢ Err writes.NoMemory
    → (P → TakesPart old new text) → OnErr r P → IfErr r (λ fault. FailsToTake fault old new text)
fails_if (Ok x) old new text other f given = tt
fails_if (Err fault) old new text other f given = fails fault old new text (λ is. other (ap Err is)) (f given)

-- what is no more than what is no more
pub no_more : {a b c : ℕ} → a ≤ b → b ≤ c → a ≤ c
no_more first second = omega arith
