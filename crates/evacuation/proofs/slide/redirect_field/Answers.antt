use Rattle.std.proofs.Common.{◌≡◌, ◌∙◌, ℕ, Some, sym, ap}
use Rattle.regions.specs.Table.{set_field}
use Rattle.evacuation.proofs.Slides.KeptObjects.{some_kept}
use Rattle.evacuation.proofs.Slides.Redirecting.{stays_on}
use Rattle.evacuation.proofs.Slides.Written.{names_by, names_other_than, written_goes_on, written_unnamed}
use Rattle.evacuation.proofs.slide.redirect_field.Goals as goal

pub returns-then-word-clause-goes_on : goal.returns-then-word-clause-goes_on
returns-then-word-clause-goes_on g c =
    let (stands, (way, (known, (in_card, (object, names))))) = c.requires in
    let (y, here) = some_kept g.slide c.args.table.now c.args.at object in
    let target : c.args.target ≡ g.slide.from = sym c.word.ensures ∙ c.if-word.true ∙ c.word-2.ensures ∙ way.0 in
    let named = names_by g.slide c.args.table.now c.args.at c.args.field y (Some c.args.target) here names
    ∙ ap (λ (a : ℕ). Some (Some a)) target in
    let is : c.set_field.new.self ≡ set_field c.args.table.now c.args.at c.args.field (Some g.slide.to) =
    c.set_field.ensures ∙ ap (λ (a : ℕ). set_field c.args.table.now c.args.at c.args.field (Some a)) way.1 in
    written_goes_on g.slide c.args.table.now c.set_field.new.self c.args.at c.args.field y c.law.ensures.positive here named is
    c.args.noted.now c.set.new.self c.args.card stands known in_card c.set.ensures

pub returns-then-word-clause-unnamed : goal.returns-then-word-clause-unnamed
returns-then-word-clause-unnamed g c =
    let (stands, (way, (known, (in_card, (object, names))))) = c.requires in
    let (y, here) = some_kept g.slide c.args.table.now c.args.at object in
    let target : c.args.target ≡ g.slide.from = sym c.word.ensures ∙ c.if-word.true ∙ c.word-2.ensures ∙ way.0 in
    let named = names_by g.slide c.args.table.now c.args.at c.args.field y (Some c.args.target) here names
    ∙ ap (λ (a : ℕ). Some (Some a)) target in
    let is : c.set_field.new.self ≡ set_field c.args.table.now c.args.at c.args.field (Some g.slide.to) =
    c.set_field.ensures ∙ ap (λ (a : ℕ). set_field c.args.table.now c.args.at c.args.field (Some a)) way.1 in
    written_unnamed g.slide c.args.table.now c.set_field.new.self c.args.at c.args.field y c.law.ensures.positive here named is stands.apart

pub returns-else-word-clause-goes_on : goal.returns-else-word-clause-goes_on
returns-else-word-clause-goes_on g c = stays_on g.slide _ c.args.table.now c.args.noted.now c.requires.0

pub returns-else-word-clause-unnamed : goal.returns-else-word-clause-unnamed
returns-else-word-clause-unnamed g c =
    let (stands, (way, (known, (in_card, (object, names))))) = c.requires in
    let (y, here) = some_kept g.slide c.args.table.now c.args.at object in
    names_other_than g.slide c.args.table.now c.args.at c.args.field y c.args.target here
    (names_by g.slide c.args.table.now c.args.at c.args.field y (Some c.args.target) here names)
    (λ e. c.if-word.false (c.word.ensures ∙ e ∙ sym way.0 ∙ sym c.word-2.ensures))
