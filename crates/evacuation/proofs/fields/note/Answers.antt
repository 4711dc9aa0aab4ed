use Rattle.std.proofs.Common.{◌≡◌, ◌∙◌, ◌*◌, ◌/◌, ◌<◌, ℕ, sym, ap, subst, length, arith}
use Rattle.evacuation.specs.Space.{NotesGrow}
use Rattle.evacuation.specs.Turns.{layout}
use Rattle.evacuation.proofs.Notes.{note_grows}
use Rattle.evacuation.proofs.FieldUpdates.FieldCards.{notes_crossing, notes_none, notes_on}
use Rattle.evacuation.proofs.fields.note.Goals as goal

-- the target's region
region_is : (region number target words start : ℕ) → number ≡ region → region ≡ target / words → words ≡ start → number ≡ target / start
region_is region number target words start a b c = a ∙ b ∙ ap (λ (n : ℕ). target / n) c

pub note_crossing-requires : goal.note_crossing-requires
note_crossing-requires g c =
    let (premises, (words, (notes, (place, target)))) = c.requires in
    let region = region_is _ _ c.args.target _ _ c.number-region.ensures c.region_of.ensures words in
    record {
      card = omega (arith, notes.each_card, place.known);
      own = ap (λ (n : ℕ). c.args.place.card / n) notes.set_cards ∙ place.home;
      region = subst (λ (k : ℕ). k < length c.args.notes.now.sets.sets) (sym region) (omega (arith, notes.each_set, target));
      known = subst (λ (m : ℕ). c.args.place.card < m)
          (sym (ap (λ (m : ℕ). m * c.args.notes.now.sets.cards_per_region) notes.each_set
          ∙ ap (λ (m : ℕ). length g.pause.start.regions * m) notes.set_cards)) place.known;
    }

pub returns-then-region-place-clause-notes : goal.returns-then-region-place-clause-notes
returns-then-region-place-clause-notes g c =
    let (premises, (words, (notes, (place, target)))) = c.requires in
    let region = region_is _ _ c.args.target _ _ c.number-region.ensures c.region_of.ensures words in
    λ word in_card home. notes_crossing (layout g.pause) c.args.notes.now c.note_crossing.new.notes word c.args.target c.args.place.card
    c.number-region.result (omega (arith, notes.each_card, place.known))
    (subst (λ (k : ℕ). k < length c.args.notes.now.sets.sets) (sym region) (omega (arith, notes.each_set, target)))
    in_card region (λ same. c.if-region-place.true (region ∙ same ∙ home)) c.note_crossing.ensures.notes c.note_crossing.ensures.noted

pub returns-then-region-place-clause-stay : goal.returns-then-region-place-clause-stay
returns-then-region-place-clause-stay g c =
    let (premises, (words, (notes, (place, target)))) = c.requires in
    let region = region_is _ _ c.args.target _ _ c.number-region.ensures c.region_of.ensures words in
    notes_on g.pause c.args.notes.now c.note_crossing.new.notes notes
    (subst (NotesGrow c.args.notes.now) (sym c.note_crossing.ensures.notes)
    (note_grows c.args.notes.now c.args.place.card c.number-region.result (omega (arith, notes.each_card, place.known))
    (subst (λ (k : ℕ). k < length c.args.notes.now.sets.sets) (sym region) (omega (arith, notes.each_set, target)))))

pub returns-else-region-place-clause-notes : goal.returns-else-region-place-clause-notes
returns-else-region-place-clause-notes g c =
    let (premises, (words, (notes, (place, target)))) = c.requires in
    let region = region_is _ _ c.args.target _ _ c.number-region.ensures c.region_of.ensures words in
    λ word in_card home. notes_none (layout g.pause) c.args.notes.now word c.args.target
    (sym region ∙ c.if-region-place.false ∙ sym home)
