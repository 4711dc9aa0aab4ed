use Rattle.std.proofs.Common.{◌≡◌, ◌∙◌, ◌∷◌, ◌+◌, ◌<◌, ◌≤◌, List, ℕ, Option, None, Some, ap, get_or, length, arith}
use Rattle.std.specs.Prelude.{IfSome}
use Rattle.std.specs.Fmt.{decimal}
use Rattle.script_text.specs.declared.read.line_words.Found.{Found}
use Rattle.script_text.specs.Reading.{small}
use Rattle.script_text.specs.Fronts.{part, IsClear}
use Rattle.script_text.proofs.Parts.Splitting.{not_yet}
use Rattle.script_text.proofs.Parts.Fronts.{clear_front, part_front}
use Rattle.script_text.proofs.read.line_words.lettered_at.Goals as goal

pub number_at-requires-clause-within : goal.number_at-requires-clause-within
number_at-requires-clause-within c =
    let no_feed : get_or c.args.text.now c.args.at 0 ≡ 10 → ⊥ = λ feed. omega (arith, c.if-text-at.false, c.requires.letter) in
    not_yet c.args.text.now c.args.at c.requires.within (omega (arith, c.requires.within, c.requires.ended)) no_feed

abbrev Spells : List ℕ → ℕ → List ℕ → Found ℕ → Type 0
Spells text at front w = (part text at w.past ≡ front) × (w.value ≤ small)

lettered : (text : List ℕ) (at letter : ℕ) (r : Option (Found ℕ)) → at < length text → get_or text at 0 ≡ letter
    → IfSome r (λ w. Spells text (at + 1) (decimal w.value) w) → IfSome r (λ w. IsClear text (at + 1) w.past)
    → IfSome r (λ w. Spells text at (letter ∷ decimal w.value) w)
lettered text at letter None lt is number clear = tt
lettered text at letter (Some w) lt is number clear =
    let order = clear.order in (
      part_front text at w.past (omega arith) lt ∙ ap (λ (b : ℕ). b ∷ part text (at + 1) w.past) is
          ∙ ap (λ (digits : List ℕ). letter ∷ digits) number.0,
      number.1,
    )

cleared : (text : List ℕ) (at : ℕ) (r : Option (Found ℕ)) → 32 < get_or text at 0
    → IfSome r (λ w. IsClear text (at + 1) w.past) → IfSome r (λ w. IsClear text at w.past)
cleared text at None letter clear = tt
cleared text at (Some w) letter clear = clear_front text at w.past letter clear

pub returns-clause-number : goal.returns-clause-number
returns-clause-number c =
    lettered c.args.text.now c.args.at c.args.letter c.number_at.result (omega (arith, c.requires.within, c.requires.ended))
    c.if-text-at.false c.number_at.ensures.number c.number_at.ensures.clear

pub returns-clause-clear : goal.returns-clause-clear
returns-clause-clear c =
    cleared c.args.text.now c.args.at c.number_at.result (omega (arith, c.if-text-at.false, c.requires.letter)) c.number_at.ensures.clear
