-- The events that are left of a text, and the fault after them.
use Rattle.std.proofs.Common.{◌≡◌, ◌+◌, ◌≤◌, ◌∷◌, ◌∙◌}
use Rattle.std.proofs.Common.{ℕ, Bool, true, false, cond, List, [], length, Some, None, Result, Ok, Err, refl, sym, ap, arith}
use Rattle.std.specs.Prelude.{◌==◌}
use Rattle.std.proofs.lemmas.List.Splits.{length-slice_split}
use Rattle.std.proofs.lemmas.List.Sums.{count_by-le-length}
use Rattle.heap_words.specs.declared.config.Config.{Config}
use Rattle.heap_steps.specs.Actors.{EventList}
use Rattle.heap_steps.specs.declared.step.Event.{Event}
use Rattle.script_text.specs.declared.fault.Kind.{Kind}
use Rattle.script_text.specs.declared.fault.Kind.TheVariants as kinds
use Rattle.script_text.specs.declared.fault.LineFault.{LineFault}
use Rattle.script_text.specs.Events.{event_line_of, events_of, record_of}
use Rattle.script_text.specs.EventsLeft.{in_front, events_ahead, fault_of, fault_ahead, left_in, unless, history_of}
use Rattle.script_text.specs.Lines.{◌>>=◌, at, pieces_of, heap_line_of, items_of}
use Rattle.script_text.proofs.Reading.ReadOn.{record_items, fault, no_events, read_on, pieces_some, record_begins, items_more, items_fail}

-- a line without a fault: its event is the first one, and the others and the fault are those after it
fault_behind : (r : Result (List Event) LineFault) (e : Event) → fault_of (r >>= λ es. Ok (e ∷ es)) ≡ fault_of r
fault_behind (Ok es) e = refl
fault_behind (Err f) e = refl

first_of : (n : ℕ) (c : Config) (line : List ℕ) (ps : List (List ℕ)) (x : List ℕ) (xs : List (List ℕ)) (r : Result Event Kind) → ps ≡ x ∷ xs
    → event_line_of n c line ≡ r → events_ahead n c (line ∷ ps) ≡ in_front r (events_ahead (n + 1) c ps)
unfolding events_ahead
first_of n c line ps x xs r e is = rw (e, is) refl

pub next_ahead : (n : ℕ) (c : Config) (rest line after : List ℕ) (e : Event) → pieces_of rest ≡ line ∷ pieces_of after
    → event_line_of n c line ≡ Ok e → events_ahead n c (pieces_of rest) ≡ e ∷ events_ahead (n + 1) c (pieces_of after)
next_ahead n c rest line after e piece ok =
    let some = pieces_some after in
    ap (events_ahead n c) piece ∙ first_of n c line (pieces_of after) some.0 some.1 (Ok e) some.2 ok

pub same_fault : (n : ℕ) (c : Config) (rest line after : List ℕ) (e : Event) → pieces_of rest ≡ line ∷ pieces_of after
    → event_line_of n c line ≡ Ok e → fault_ahead n c (pieces_of rest) ≡ fault_ahead (n + 1) c (pieces_of after)
same_fault n c rest line after e piece ok =
    let some = pieces_some after in
    ap (fault_ahead n c) piece ∙ ap fault_of (items_more (record_items c) n line (pieces_of after) some.0 some.1 e some.2 ok)
    ∙ fault_behind (events_of (n + 1) c (pieces_of after)) e

-- a line with a fault: no event is ahead of it
pub none_ahead : (n : ℕ) (c : Config) (rest line after : List ℕ) (k : Kind) → pieces_of rest ≡ line ∷ pieces_of after
    → event_line_of n c line ≡ Err k → events_ahead n c (pieces_of rest) ≡ []
none_ahead n c rest line after k piece bad =
    let some = pieces_some after in
    ap (events_ahead n c) piece ∙ first_of n c line (pieces_of after) some.0 some.1 (Err k) some.2 bad

pub its_fault : (n : ℕ) (c : Config) (rest line after : List ℕ) (k : Kind) → pieces_of rest ≡ line ∷ pieces_of after
    → event_line_of n c line ≡ Err k → fault_ahead n c (pieces_of rest) ≡ Some (fault (n + 1) k)
its_fault n c rest line after k piece bad =
    let some = pieces_some after in
    ap (fault_ahead n c) piece ∙ ap fault_of (items_fail (record_items c) n line (pieces_of after) some.0 some.1 k some.2 bad)

-- no line feed is left: no event, and a fault where a byte is
pub none_left : (n : ℕ) (c : Config) (rest : List ℕ) → pieces_of rest ≡ rest ∷ [] → events_ahead n c (pieces_of rest) ≡ []
unfolding events_ahead
none_left n c rest piece = ap (events_ahead n c) piece

pub no_fault : (n : ℕ) (c : Config) (rest : List ℕ) → pieces_of rest ≡ rest ∷ [] → (length rest == 0) ≡ true
    → fault_ahead n c (pieces_of rest) ≡ None
unfolding items_of
no_fault n c rest piece empty = ap (fault_ahead n c) piece ∙ rw empty refl

pub cut_fault : (n : ℕ) (c : Config) (rest : List ℕ) → pieces_of rest ≡ rest ∷ [] → (length rest == 0) ≡ false
    → fault_ahead n c (pieces_of rest) ≡ Some (fault (n + 1) kinds.Cut)
unfolding items_of
cut_fault n c rest piece some = ap (fault_ahead n c) piece ∙ rw some refl

-- there are no more events than bytes
front_few : (r : Result Event Kind) (es : List Event) (k : ℕ) → length es ≤ k → length (in_front r es) ≤ k + 1
front_few (Ok e) es k le = omega arith
front_few (Err f) es k le = omega arith

pieces_few : (ps : List (List ℕ)) (p : List ℕ) (n : ℕ) (c : Config) → length (events_ahead n c (p ∷ ps)) ≤ length ps
unfolding events_ahead
pieces_few [] p n c = omega arith
pieces_few (q ∷ ps) p n c =
    let le : length (events_ahead n c (p ∷ q ∷ ps)) ≤ length ps + 1 =
    front_few (event_line_of n c p) (events_ahead (n + 1) c (q ∷ ps)) (length ps) (pieces_few ps q (n + 1) c) in
    omega arith

pub few_left : (n : ℕ) (c : Config) (lines : List ℕ) → length (events_ahead n c (pieces_of lines)) ≤ length lines
few_left n c lines =
    let some = pieces_some lines in
    let le : length (events_ahead n c (pieces_of lines)) ≤ length some.1 = rw some.2 (pieces_few some.1 some.0 n c) in
    let all : length (pieces_of lines) ≡ length (some.0 ∷ some.1) = ap length some.2 in
    omega (arith, length-slice_split (λ (b : ℕ). b == 10) lines, count_by-le-length (λ (b : ℕ). b == 10) lines)

-- where no line has a fault, the events ahead are all
are_in : Result EventList LineFault → List Event
are_in (Ok r) = r.events
are_in (Err f) = []

line_all : (r : Result Event Kind) (es : List Event) (more : Result (List Event) LineFault) (n : ℕ) (c : Config)
    → unless (fault_of more) (record { config = c; events = es }) ≡ read_on (record_items c) (no_events c) more
    → unless (fault_of (at n r >>= λ e. more >>= λ ds. Ok (e ∷ ds))) (record { config = c; events = in_front r es })
    ≡ read_on (record_items c) (no_events c) (at n r >>= λ e. more >>= λ ds. Ok (e ∷ ds))
unfolding are_in
line_all (Ok e) es (Ok ds) n c same = ap (λ (xs : List Event). Ok (record { config = c; events = e ∷ xs })) (ap are_in same)
line_all (Ok e) es (Err f) n c same = refl
line_all (Err k) es more n c same = refl

last_all : (b : Bool) (n : ℕ) (c : Config) → unless (fault_of (cond b (Ok []) (Err (fault n kinds.Cut)))) (no_events c)
    ≡ read_on (record_items c) (no_events c) (cond b (Ok []) (Err (fault n kinds.Cut)))
last_all true n c = refl
last_all false n c = refl

pieces_all : (ps : List (List ℕ)) (p : List ℕ) (n : ℕ) (c : Config)
    → unless (fault_ahead n c (p ∷ ps)) (record { config = c; events = events_ahead n c (p ∷ ps) })
    ≡ read_on (record_items c) (no_events c) (events_of n c (p ∷ ps))
unfolding events_ahead items_of
pieces_all [] p n c = last_all (length p == 0) (n + 1) c
pieces_all (q ∷ ps) p n c = line_all (event_line_of n c p) (events_ahead (n + 1) c (q ∷ ps)) (events_of (n + 1) c (q ∷ ps)) (n + 1) c
    (pieces_all ps q (n + 1) c)

-- the whole record, after its heap line
pub is_history : (text line lines : List ℕ) (c : Config) → pieces_of text ≡ line ∷ pieces_of lines → heap_line_of line ≡ Ok c
    → record_of text ≡ history_of (left_in 1 c lines)
is_history text line lines c piece ok =
    let some = pieces_some lines in
    let all : history_of (left_in 1 c lines) ≡ read_on (record_items c) (no_events c) (events_of 1 c (pieces_of lines)) =
    rw some.2 (pieces_all some.1 some.0 1 c) in
    sym (all ∙ record_begins text line lines c piece ok)
