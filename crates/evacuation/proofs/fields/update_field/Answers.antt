use Rattle.std.proofs.Common.{refl, ◌≡◌, ◌∙◌, ◌/◌, ℕ, sym, ap, Some}
use Rattle.refinement.specs.Remembering.{field_word}
use Rattle.refinement.proofs.Fields.{region_of_card}
use Rattle.evacuation.proofs.Turns.Following.{stays_on, turned}
use Rattle.evacuation.proofs.FieldUpdates.InTable as updates
use Rattle.evacuation.proofs.fields.update_field.Goals as goal

pub returns-then-not-is_inside : goal.returns-then-not-is_inside
returns-then-not-is_inside g c =
    let (stands, (place, (in_card, (outside, (field, names))))) = c.requires in
    record {
      goes_on = stays_on stands;
      clean = updates.unchanged g.pause stands.premises c.args.table.now c.args.context.now.destinations stands.turn c.args.at c.args.field
          outside field (Some c.args.target) names (sym c.is_inside.ensures ∙ c.if-not-is_inside.true);
    }

pub redirect-to-requires : goal.redirect-to-requires
redirect-to-requires g c =
    let (stands, (place, (in_card, (outside, (field, names))))) = c.requires in
    (stands.premises, (stands.turn, (outside, (field, (names, sym c.is_inside.ensures ∙ c.if-not-is_inside.false)))))

pub note-requires : goal.note-requires
note-requires g c =
    let (stands, (place, (in_card, (outside, (field, names))))) = c.requires in
    (stands.premises, (c.redirect-to.ensures.turn.table.size, (stands.notes, (place, c.redirect-to.ensures.known))))

pub returns : goal.returns
returns g c =
    let (stands, (place, (in_card, (outside, (field, names))))) = c.requires in
    let word = field_word c.args.at c.args.field in
    let home : word / g.pause.start.words_per_region ≡ c.args.place.home =
    sym (region_of_card g.pause.start.words_per_region g.pause.card_words g.pause.cards_per_region word
    stands.premises.shaped.positive stands.premises.whole_cards)
    ∙ ap (λ (n : ℕ). n / g.pause.cards_per_region) in_card ∙ place.home in
    let notes = c.note.ensures.notes word in_card home in
    record {
      goes_on = record {
        stands = turned stands refl refl c.redirect-to.ensures.turn c.note.ensures.stay;
        after = c.redirect-to.ensures.after c.args.context.now.noted c.note.new.notes notes;
      };
      clean = λ y w here is. (c.redirect-to.ensures.settled c.args.context.now.noted c.note.new.notes notes y w here is).0;
    }
