-- Records: what is read is spelled so, and what is spelled so is read.
use Rattle.std.proofs.Common.{◌≡◌, ◌+◌, ◌≤◌, ◌∷◌, ◌++◌, ◌∙◌}
use Rattle.std.proofs.Common.{ℕ, List, [], length, Result, Ok, refl, sym, ap, subst, arith}
use Rattle.std.specs.List.{All}
use Rattle.std.proofs.lemmas.List.Elements.{All-head, All-tail}
use Rattle.heap_words.specs.declared.config.Config.{Config}
use Rattle.heap_steps.specs.Actors.{EventList, IsEvent}
use Rattle.heap_steps.specs.declared.step.Event.{Event}
use Rattle.script_text.specs.declared.fault.LineFault.{LineFault}
use Rattle.script_text.specs.Reading.{small, large}
use Rattle.script_text.specs.Fits.{EventFits, IsRecord}
use Rattle.script_text.specs.Spelling.{heap_words, line}
use Rattle.script_text.specs.Records.{event_line, event_lines, record_text}
use Rattle.script_text.specs.Lines.{◌>>=◌, pieces_of}
use Rattle.script_text.specs.Events.{events_of, record_by, record_of}
use Rattle.script_text.proofs.Reading.ReadOn.{record_items}
use Rattle.script_text.proofs.BothWays.StepsRead.{result_bind, ok_is}
use Rattle.script_text.proofs.BothWays.EventsRead.{event_text, event_line_is}
use Rattle.script_text.proofs.BothWays.EventsSpelled.{IsGood, event_line_again, event_no_feed}
use Rattle.script_text.proofs.BothWays.ItemTexts.{lines, AllGood, all_are, AreSpelled, items_read, items_again}
use Rattle.script_text.proofs.BothWays.ItemTexts.{is_headed, headed_again}

abbrev pub Good : Config → ℕ → Event → Type 0
Good c n e = IsGood n c e

are_spelled : (c : Config) → c.mutators ≤ small → AreSpelled (record_items c) (Good c) event_text
are_spelled c few = record {
  only = λ n t e read.
      let is = event_line_is n c t e read in
      (is.spelled, record { counted = is.counted; few = few; owned = is.owned; fits = is.fits });
  again = λ n e good. event_line_again n c e good;
  clear = λ n e good. event_no_feed n c e good;
}

all_good : (c : Config) (es : List Event) (n : ℕ) → n + length es ≤ large + 1 → c.mutators ≤ small → All (IsEvent c) es → All EventFits es
    → AllGood (Good c) n es
all_good c [] n counted few owned fits = tt
all_good c (e ∷ es) n counted few owned fits = (
  record { counted = omega arith; few = few; owned = All-head (IsEvent c) e es owned; fits = All-head EventFits e es fits },
  all_good c es (n + 1) (omega arith) few (All-tail (IsEvent c) e es owned) (All-tail EventFits e es fits),
)

-- the events of a record are good ones
pub record_good : (r : EventList) → IsRecord r → AllGood (Good r.config) 1 r.events
record_good r is = all_good r.config r.events 1 (let few = is.few in omega arith) is.config.mutators is.owned is.fits

all_counted : (c : Config) (es : List Event) (n : ℕ) → n ≤ large + 1 → AllGood (Good c) n es → n + length es ≤ large + 1
all_counted c [] n le good = omega arith
all_counted c (e ∷ es) n le good =
    let count = good.0.counted in
    let rest = all_counted c es (n + 1) (omega arith) good.1 in
    omega arith

same_lines : (es : List Event) (n : ℕ) → event_lines n es ≡ lines event_text n es
same_lines [] n = refl
same_lines (e ∷ es) n = ap (λ (t : List ℕ). event_line n e ++ t) (same_lines es (n + 1))

abbrev made : Config → List Event → EventList
made c es = record { config = c; events = es }

pub record_read : (text : List ℕ) (r : EventList) → record_of text ≡ Ok r → (text ≡ record_text r) × IsRecord r
record_read text r e =
    let is = is_headed record_by text r e in
    let c = is.config in
    let read = result_bind (events_of 1 c (is.next ∷ is.others)) (λ es. Ok (made c es)) r is.read in
    let all = items_read (record_items c) (Good c) event_text (are_spelled c is.fits.mutators) is.others 1 is.next read.0 read.1 in
    let few : 1 + length read.0 ≤ large + 1 = all_counted c read.0 1 (omega arith) all.1 in
    subst (λ (q : EventList). (text ≡ record_text q) × IsRecord q) (ok_is (made c read.0) r read.2) (
      is.spelled ∙ ap (λ (l : List ℕ). line (heap_words c) ++ l) (all.0 ∙ sym (same_lines read.0 1)),
      record {
        config = is.fits;
        owned = all_are (Good c) (IsEvent c) read.0 1 (λ k x good. good.owned) all.1;
        fits = all_are (Good c) EventFits read.0 1 (λ k x good. good.fits) all.1;
        few = omega arith;
      },
    )

pub record_again : (r : EventList) → IsRecord r → record_of (record_text r) ≡ Ok r
record_again r is =
    let c = r.config in
    let again = items_again (record_items c) (Good c) event_text (are_spelled c is.config.mutators) r.events 1 (record_good r is) in
    headed_again record_by c (event_lines 1 r.events) is.config
    ∙ ap (λ (t : Result (List Event) LineFault). t >>= λ es. Ok (made c es))
    (ap (λ (t : List ℕ). events_of 1 c (pieces_of t)) (same_lines r.events 1) ∙ again)
