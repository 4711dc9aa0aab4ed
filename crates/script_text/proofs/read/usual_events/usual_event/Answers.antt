use Rattle.std.proofs.Common.{◌≡◌, ◌≤◌, ◌<◌, ◌+◌, ◌∷◌, ◌++◌, ◌∙◌, List, ℕ, Option, None, Some, Ok, sym, ap, length, arith}
use Rattle.std.specs.Prelude.{IfSome, codes}
use Rattle.std.proofs.lemmas.List.{length-take-le}
use Rattle.std.specs.Fmt.{decimal}
use Rattle.heap_words.specs.declared.config.Config.{Config}
use Rattle.script_text.specs.declared.read.usual_events.EventLine.{EventLine}
use Rattle.script_text.specs.Events.{event_line_of}
use Rattle.script_text.specs.Reading.{large}
use Rattle.script_text.specs.Feeds.{end_of, line_of}
use Rattle.script_text.specs.Fronts.{words_from, IsCollectionEvent}
use Rattle.script_text.specs.Lines.{words_of}
use Rattle.script_text.specs.Spelling.{action_words}
use Rattle.script_text.specs.Records.{reply_words}
use Rattle.script_text.proofs.BothWays.EventsSpelled.{op_event_again, any_event_again}
use Rattle.script_text.proofs.read.usual_events.usual_event.Goals as goal

pub returns-clause-event : goal.returns-clause-event
returns-clause-event g c =
    let text = c.args.text.now in
    let number = c.in-Some.value in
    let m : ℕ = c.in-Some-next_number.mutator.value in
    let a = c.in-Some-usual_action.value.value in
    let r = c.in-Some-usual_reply.value.value in
    let action = c.in-Some-usual_action.ensures in
    let counted : number.value ≡ c.args.count = sym c.from.ensures ∙ c.if-from-count.false in
    let long : length (line_of text) ≡ end_of text = length-take-le (end_of text) text (omega (arith, c.requires.ended)) in
    let short : length (line_of text) ≤ 120 =
    omega (arith, c.if-length-gt-LONGEST_LINE.false, c.in-Some-usual_reply.ensures.ends) in
    let behind : words_from text (c.in-Some-usual_action.value.past + 1) ≡ codes "=" ∷ reply_words r =
    c.in-Some-after_verb.ensures.words ∙ ap (λ (ws : List (List ℕ)). codes "=" ∷ ws) c.in-Some-usual_reply.ensures.words in
    let acted : words_from text c.in-Some-next_number.mutator.past ≡ action_words a ++ codes "=" ∷ reply_words r =
    action.words ∙ ap (λ (ws : List (List ℕ)). action_words a ++ ws) behind in
    let words : words_of (line_of text) ≡ decimal c.args.count ∷ decimal m ∷ (action_words a ++ codes "=" ∷ reply_words r) =
    c.in-Some.ensures.0.words ∙ ap (λ (n : ℕ). decimal n ∷ words_from text number.past) counted
    ∙ ap (λ (ws : List (List ℕ)). decimal c.args.count ∷ ws)
    (c.in-Some-next_number.ensures.0.words ∙ ap (λ (ws : List (List ℕ)). decimal m ∷ ws) acted) in
    op_event_again c.args.count c.args.config.now (line_of text) (record { mutator = m; action = a }) r short words
    (omega (arith, c.ranges.count.fits)) c.in-Some-next_number.ensures.1 (action.owned m c.if-mutator-config.false) action.fits
    c.in-Some-usual_reply.ensures.fits

-- the line of a count and an event of any heap after it
turned : (n : ℕ) (c : Config) (text : List ℕ) (at : ℕ) (r : Option EventLine) → end_of text < length text → n ≤ large
    → words_of (line_of text) ≡ decimal n ∷ words_from text at → IfSome r (λ l. IsCollectionEvent text at l.event l.length)
    → IfSome r (λ l. event_line_of n c (line_of text) ≡ Ok l.event)
turned n c text at None ended counted words turn = tt
turned n c text at (Some l) ended counted words turn =
    let long : length (line_of text) ≡ end_of text = length-take-le (end_of text) text (omega arith) in
    let short : length (line_of text) ≤ 120 = omega (arith, turn.short, turn.ends) in
    any_event_again n c (line_of text) l.event short (words ∙ ap (λ (ws : List (List ℕ)). decimal n ∷ ws) turn.words) counted
    turn.owned turn.fits

pub returns-in_default-clause-event : goal.returns-in_default-clause-event
returns-in_default-clause-event g c =
    let text = c.args.text.now in
    let number = c.in-Some.value in
    let counted : number.value ≡ c.args.count = sym c.from.ensures ∙ c.if-from-count.false in
    turned c.args.count c.args.config.now text number.past c.collection_event.result c.requires.ended (omega (arith, c.ranges.count.fits))
    (c.in-Some.ensures.0.words ∙ ap (λ (n : ℕ). decimal n ∷ words_from text number.past) counted) c.collection_event.ensures
