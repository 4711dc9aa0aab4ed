use Rattle.std.proofs.Common.{◌≡◌, ◌∙◌, ◌*◌, ◌<◌, ℕ, Some, None, sym, ap, subst, slice_get}
use Rattle.regions.specs.Table.{fields_at, set_field}
use Rattle.refinement.specs.Remembering.{field_word}
use Rattle.evacuation.specs.Sliding.{NotesCard}
use Rattle.evacuation.proofs.Slides.KeptObjects.{some_kept}
use Rattle.evacuation.proofs.Slides.Own.{nil_settled, other_settled, own_settled, own_stands}
use Rattle.evacuation.proofs.slide.settle_field.Goals as goal

pub returns-in_default : goal.returns-in_default
returns-in_default g c =
    let (stands, (way, (words, (object, (field, room))))) = c.requires in
    let (y, here) = some_kept g.slide c.args.table.now g.slide.from object in
    let nil = subst (λ (a : ℕ). slice_get (fields_at c.args.table.now a) c.args.field ≡ Some None) way.0 c.in_default.ensures in
    record { goes_on = λ old noted'. nil_settled g.slide c.args.field old c.args.table.now noted' c.args.noted.now y here stands nil }

pub note_word-requires : goal.note_word-requires
note_word-requires g c =
    let (stands, (way, (words, (object, (field, room))))) = c.requires in
    let (y, here) = some_kept g.slide c.args.table.now g.slide.from object in
    let names = subst (λ (a : ℕ). slice_get (fields_at c.args.table.now a) c.args.field ≡ Some (Some c.in-Some.target)) way.0
    c.in-Some.ensures in
    let same : c.in-Some.target ≡ g.slide.from = sym c.word.ensures ∙ c.if-word.true ∙ c.word-2.ensures ∙ way.0 in
    let is : c.set_field.new.self ≡ set_field c.args.table.now g.slide.from c.args.field (Some g.slide.to) =
    c.set_field.ensures ∙ ap (λ (a : ℕ). set_field c.args.table.now a c.args.field (Some c.args.way.now.to)) way.0
    ∙ ap (λ (a : ℕ). set_field c.args.table.now g.slide.from c.args.field (Some a)) way.1 in
    let word : c.field-word.result ≡ field_word g.slide.to c.args.field =
    c.field-word.ensures ∙ ap (λ (a : ℕ). field_word a c.args.field) way.1 in (
      own_stands g.slide c.args.field c.args.table.now c.args.table.now c.args.noted.now c.args.noted.now y here stands c.in-Some.target
          names c.set_field.new.self
          c.law.ensures.positive same is,
      (words, subst (λ (n : ℕ). n < g.slide.regions * g.slide.words) (sym word) room),
    )

pub note_word-requires-2 : goal.note_word-requires-2
note_word-requires-2 g c =
    let (stands, (way, (words, (object, (field, room))))) = c.requires in
    let word : c.field-word.result ≡ field_word g.slide.to c.args.field =
    c.field-word.ensures ∙ ap (λ (a : ℕ). field_word a c.args.field) way.1 in
    (stands, (words, subst (λ (n : ℕ). n < g.slide.regions * g.slide.words) (sym word) room))

pub returns-then-word : goal.returns-then-word
returns-then-word g c =
    let (stands, (way, (words, (object, (field, room))))) = c.requires in
    let (y, here) = some_kept g.slide c.args.table.now g.slide.from object in
    let names = subst (λ (a : ℕ). slice_get (fields_at c.args.table.now a) c.args.field ≡ Some (Some c.in-Some.target)) way.0
    c.in-Some.ensures in
    let same : c.in-Some.target ≡ g.slide.from = sym c.word.ensures ∙ c.if-word.true ∙ c.word-2.ensures ∙ way.0 in
    let is : c.set_field.new.self ≡ set_field c.args.table.now g.slide.from c.args.field (Some g.slide.to) =
    c.set_field.ensures ∙ ap (λ (a : ℕ). set_field c.args.table.now a c.args.field (Some c.args.way.now.to)) way.0
    ∙ ap (λ (a : ℕ). set_field c.args.table.now g.slide.from c.args.field (Some a)) way.1 in
    let word : c.field-word.result ≡ field_word g.slide.to c.args.field =
    c.field-word.ensures ∙ ap (λ (a : ℕ). field_word a c.args.field) way.1 in
    let notes = subst (λ (n : ℕ). NotesCard g.slide c.args.noted.now c.note_word.new.noted n g.slide.to) word
    (subst (λ (a : ℕ). NotesCard g.slide c.args.noted.now c.note_word.new.noted c.field-word.result a) way.1
    c.note_word.ensures.notes) in
    record {
      goes_on = λ old noted'. own_settled g.slide c.args.field old c.args.table.now noted' c.args.noted.now y here stands
          c.note_word.new.noted c.in-Some.target names c.set_field.new.self c.law.ensures.positive same is notes;
    }

pub returns : goal.returns
returns g c =
    let (stands, (way, (words, (object, (field, room))))) = c.requires in
    let (y, here) = some_kept g.slide c.args.table.now g.slide.from object in
    let names = subst (λ (a : ℕ). slice_get (fields_at c.args.table.now a) c.args.field ≡ Some (Some c.in-Some.target)) way.0
    c.in-Some.ensures in
    let word : c.field-word.result ≡ field_word g.slide.to c.args.field =
    c.field-word.ensures ∙ ap (λ (a : ℕ). field_word a c.args.field) way.1 in
    record {
      goes_on = λ old noted'. other_settled g.slide c.args.field old c.args.table.now noted' c.args.noted.now y here stands
          c.note_word-2.new.noted c.in-Some.target names
          (λ e. c.if-word.false (c.word.ensures ∙ e ∙ sym way.0 ∙ sym c.word-2.ensures))
          (subst (λ (n : ℕ). NotesCard g.slide c.args.noted.now c.note_word-2.new.noted n c.in-Some.target) word
          c.note_word-2.ensures.notes);
    }
