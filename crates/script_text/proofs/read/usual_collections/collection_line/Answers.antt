use Rattle.std.proofs.Common.{◌≡◌, ◌≤◌, ◌∷◌, ◌∙◌, List, ℕ, ap, length, arith}
use Rattle.std.specs.Prelude.{codes}
use Rattle.std.proofs.lemmas.List.{length-take-le, append-nil}
use Rattle.script_text.specs.Feeds.{end_of, line_of}
use Rattle.script_text.specs.Lines.{words_of}
use Rattle.script_text.specs.Spelling.{collection_words}
use Rattle.script_text.proofs.BothWays.StepsSpelled.{gc_line_again}
use Rattle.script_text.proofs.read.usual_collections.collection_line.Goals as goal

pub returns-clause-step : goal.returns-clause-step
returns-clause-step c = λ config.
    let text = c.args.text.now in
    let last = c.in-Some-usual_collection.value in
    let ends = c.in-Some-usual_collection.ensures in
    let long : length (line_of text) ≡ end_of text = length-take-le (end_of text) text (omega (arith, c.requires.ended)) in
    let short : length (line_of text) ≤ 120 = omega (arith, c.if-past-gt-LONGEST_LINE.false, ends.ends) in
    let words : words_of (line_of text) ≡ codes "gc" ∷ collection_words last.value =
    c.in-Some.ensures.words
    ∙ ap (λ (ws : List (List ℕ)). codes "gc" ∷ ws) (ends.words ∙ append-nil (collection_words last.value)) in
    gc_line_again config (line_of text) last.value short words (ends.known config.format) ends.fits

pub returns-clause-known : goal.returns-clause-known
returns-clause-known c = λ config. c.in-Some-usual_collection.ensures.known config.format
