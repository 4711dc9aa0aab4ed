use Rattle.std.proofs.Common.{refl, ◌≡◌, ◌∙◌, ◌/◌, ℕ, sym, ap, arith, Some, None, inl}
use Rattle.refinement.specs.Remembering.{field_word}
use Rattle.evacuation.specs.Space.{IsOfWord, NewCrossing}
use Rattle.evacuation.specs.Turns.{layout, space}
use Rattle.evacuation.proofs.Notes.{for_others}
use Rattle.evacuation.proofs.Turns.Following.{noted_after, stays_on, turned}
use Rattle.evacuation.proofs.FieldUpdates.InTable as updates
use Rattle.evacuation.proofs.FieldUpdates.FieldCards.{field_pointer, pointer_is, word_within, all_small, place_of_word, target_known}
use Rattle.evacuation.proofs.fields.settle_field.Goals as goal

pub get_field-requires : goal.get_field-requires
get_field-requires g c =
    let (stands, (outside, (field, taken))) = c.requires in
    field_pointer g.pause c.args.table.now c.args.at c.args.field field

pub returns-in_default : goal.returns-in_default
returns-in_default g c =
    let (stands, (outside, (field, taken))) = c.requires in
    record {
      goes_on = stays_on stands;
      settled = updates.noted_settled g.pause c.args.table.now c.args.at c.args.field c.args.context.now.noted None c.in_default.ensures
          (updates.unchanged g.pause stands.premises c.args.table.now c.args.context.now.destinations stands.turn c.args.at c.args.field
          outside field None c.in_default.ensures tt) tt;
    }

pub redirect-to-requires : goal.redirect-to-requires
redirect-to-requires g c =
    let (stands, (outside, (field, taken))) = c.requires in
    (stands.premises, (stands.turn, (outside, (field, (c.in-Some.ensures, sym c.is_inside.ensures ∙ c.if-is_inside.true)))))

pub overflow_cast-word : goal.overflow_cast-word
overflow_cast-word g c =
    let (stands, (outside, (field, taken))) = c.requires in
    let w = word_within g.pause c.args.table.now c.args.at c.args.field c.law.ensures stands.turn.table field in
    let n = all_small g.pause stands.premises in
    rw c.field-word.ensures (omega (arith, w, n))

-- the word's region, by the table
region_is : (result region at word words start : ℕ) → result ≡ region → region ≡ at / words → at ≡ word → words ≡ start
    → result ≡ word / start
region_is result region at word words start a b c d = a ∙ b ∙ ap (λ (n : ℕ). n / words) c ∙ ap (λ (n : ℕ). word / n) d

pub note-requires : goal.note-requires
note-requires g c =
    let (stands, (outside, (field, taken))) = c.requires in
    let w = word_within g.pause c.args.table.now c.args.at c.args.field c.law.ensures stands.turn.table field in
    let place = place_of_word g.pause stands.premises c.args.context.now.noted.cards stands.notes.each_card
    c.field-word.result c.args.context.now.card_words c.quotient-card.result c.number-home.result stands.card
    (rw c.field-word.ensures w) c.quotient-card.ensures
    (region_is _ _ _ c.field-word.result _ _ c.number-home.ensures c.region_of.ensures c.new.ensures stands.turn.table.size) in
    (stands.premises, (c.redirect-to.ensures.turn.table.size, (stands.notes, (place, c.redirect-to.ensures.known))))

pub note-requires-2 : goal.note-requires-2
note-requires-2 g c =
    let (stands, (outside, (field, taken))) = c.requires in
    let w = word_within g.pause c.args.table.now c.args.at c.args.field c.law.ensures stands.turn.table field in
    let place = place_of_word g.pause stands.premises c.args.context.now.noted.cards stands.notes.each_card
    c.field-word.result c.args.context.now.card_words c.quotient-card.result c.number-home.result stands.card
    (rw c.field-word.ensures w) c.quotient-card.ensures
    (region_is _ _ _ c.field-word.result _ _ c.number-home.ensures c.region_of.ensures c.new.ensures stands.turn.table.size) in
    let names =
    pointer_is g.pause c.args.table.now c.args.at c.args.field field.object (Some c.in-Some.target) field.at c.in-Some.ensures in (
      stands.premises,
      (
        stands.turn.table.size,
        (
          stands.notes,
          (
            place,
            target_known g.pause stands.premises c.args.table.now c.args.context.now.destinations stands.turn c.args.at c.args.field
                c.in-Some.target field.object field.at outside names,
          ),
        ),
      ),
    )

card_is : (card word len own size : ℕ) → card ≡ own / len → own ≡ word → len ≡ size → word / size ≡ card
card_is card word len own size a b c = sym (a ∙ ap (λ (n : ℕ). n / len) b ∙ ap (λ (n : ℕ). word / n) c)

pub returns-then-is_inside : goal.returns-then-is_inside
returns-then-is_inside g c =
    let (stands, (outside, (field, taken))) = c.requires in
    let noted = c.args.context.now.noted in
    let notes = c.note.ensures.notes (field_word c.args.at c.args.field)
    (card_is c.quotient-card.result (field_word c.args.at c.args.field) c.args.context.now.card_words c.field-word.result
    g.pause.card_words c.quotient-card.ensures c.field-word.ensures stands.card)
    (sym (region_is _ _ _ (field_word c.args.at c.args.field) _ _ c.number-home.ensures c.region_of.ensures
    (c.new.ensures ∙ c.field-word.ensures) stands.turn.table.size)) in
    record {
      goes_on = record {
        stands = turned stands refl refl c.redirect-to.ensures.turn c.note.ensures.stay;
        after = c.redirect-to.ensures.after noted c.note.new.notes notes;
      };
      settled = c.redirect-to.ensures.settled noted c.note.new.notes notes;
    }

pub returns : goal.returns
returns g c =
    let (stands, (outside, (field, taken))) = c.requires in
    let out = sym c.is_inside.ensures ∙ c.if-is_inside.false in
    let notes = c.note-2.ensures.notes (field_word c.args.at c.args.field)
    (card_is c.quotient-card.result (field_word c.args.at c.args.field) c.args.context.now.card_words c.field-word.result
    g.pause.card_words c.quotient-card.ensures c.field-word.ensures stands.card)
    (sym (region_is _ _ _ (field_word c.args.at c.args.field) _ _ c.number-home.ensures c.region_of.ensures
    (c.new.ensures ∙ c.field-word.ensures) stands.turn.table.size)) in
    let s = space g.pause c.args.table.now in
    let d = c.args.context.now.destinations in
    record {
      goes_on = record {
        stands = turned stands refl refl stands.turn c.note-2.ensures.stay;
        after = noted_after (layout g.pause) c.args.context.now.noted c.note-2.new.notes s d notes.grows
            (for_others (IsOfWord (layout g.pause) (field_word c.args.at c.args.field) c.in-Some.target)
            (NewCrossing (layout g.pause) s s d)
            c.args.context.now.noted c.note-2.new.notes (λ k r o. record {
              at = c.args.at;
              index = c.args.field;
              target = c.in-Some.target;
              object = field.object;
              here = field.at;
              outside = outside;
              field = pointer_is g.pause c.args.table.now c.args.at c.args.field field.object (Some c.in-Some.target)
                  field.at c.in-Some.ensures;
              clean = out;
              in_card = sym o.card_is;
              into = sym o.region_is;
              leaves = o.leaves;
              is_new = inl taken;
            }) notes.only);
      };
      settled = updates.noted_settled g.pause c.args.table.now c.args.at c.args.field c.note-2.new.notes (Some c.in-Some.target)
          c.in-Some.ensures
          (updates.unchanged g.pause stands.premises c.args.table.now c.args.context.now.destinations stands.turn c.args.at c.args.field
          outside field (Some c.in-Some.target) c.in-Some.ensures out) notes.is_noted;
    }
