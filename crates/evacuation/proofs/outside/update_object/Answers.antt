use Rattle.std.proofs.Common.{◌≡◌, ◌∙◌, ◌<◌, ◌/◌, ℕ, refl, sym, ap, subst, inl, inr, arith, length}
use Rattle.std.proofs.lemmas.Bool.{cases_eq, cases_lt}
use Rattle.heap_model.specs.Heap.{Stored, fields}
use Rattle.regions.proofs.Words.Divides.{card_has_words}
use Rattle.refinement.specs.Remembering.{field_word}
use Rattle.refinement.proofs.Fields.{fields_in_card}
use Rattle.refinement.proofs.Holders.{fields_of, object_within}
use Rattle.evacuation.specs.Space.{IsFieldClean}
use Rattle.evacuation.specs.Turns.{layout, space}
use Rattle.evacuation.proofs.Lists.{get_below}
use Rattle.evacuation.proofs.Turns.Following.{goes_further, stays_on, clean_after}
use Rattle.evacuation.proofs.Loops.OutsideCards.{card_small}
use Rattle.evacuation.proofs.Turns.KeptObjects.{kept_object}
use Rattle.evacuation.proofs.Copies.NewPlace.{is_some}
use Rattle.evacuation.proofs.Loops.ObjectFields.{still_field}
use Rattle.evacuation.proofs.FieldUpdates.FieldCards.{all_small, nil_clean, still_count}
use Rattle.evacuation.proofs.outside.update_object.Goals as goal

pub overflow_add-first : goal.overflow_add-first
overflow_add-first g c =
    let (stands, (place, (outside, object))) = c.requires in
    let a =
    object_within c.args.table.now c.args.at object.0 c.law.ensures (kept_object g.pause c.args.table.now c.args.at object.0 object.1) in
    let s = c.law.ensures.in_all in
    let w = c.word-first.ensures in
    omega (arith, a, s, w)

pub overflow_mul-from : goal.overflow_mul-from
overflow_mul-from g c =
    let (stands, (place, (outside, object))) = c.requires in
    let a = card_small g.pause c.args.place.card stands.premises place.known in
    let n = all_small g.pause stands.premises in
    rw stands.card (omega (arith, a, n))

pub overflow_add-to : goal.overflow_add-to
overflow_add-to g c =
    let (stands, (place, (outside, object))) = c.requires in
    let a = card_small g.pause c.args.place.card stands.premises place.known in
    let n = all_small g.pause stands.premises in
    rw stands.card (omega (arith, a, n))

pub field_count-count-requires : goal.field_count-count-requires
field_count-count-requires g c =
    let (stands, (place, (outside, object))) = c.requires in
    is_some _ object.0 (kept_object g.pause c.args.table.now c.args.at object.0 object.1)

pub next_link-requires : goal.next_link-requires
next_link-requires g c =
    let v = c.fields.invariant in
    let m = v.lie.within in
    let n = still_count g.pause c.fields.table c.args.at c.field_count-count.result v.still in
    omega arith

pub fields-init : goal.fields-init
fields-init g c =
    let (stands, (place, (outside, object))) = c.requires in
    let z = card_has_words g.pause.card_words g.pause.start.words_per_region g.pause.cards_per_region
    stands.premises.shaped.positive stands.premises.whole_cards in
    let z' : 0 < c.args.context.now.card_words = (let e = stands.card in omega (arith, e, z)) in
    record {
      on = stays_on stands;
      still = (
        object.0,
        object.1,
        sym (c.field_count-count.ensures
            ∙ ap length (fields_of c.args.table.now c.args.at object.0 (kept_object g.pause c.args.table.now c.args.at object.0 object.1))),
      );
      lie = fields_in_card c.args.context.now.card_words c.args.place.card c.args.at c.field_count-count.result c.word-first.result
          c.args.place.card c.saturating_sub-start.result c.saturating_sub.result c.min-end.result z' c.word-first.ensures refl
          c.saturating_sub-start.ensures c.saturating_sub.ensures c.min-end.ensures;
      low = omega arith;
      clean = λ i l h. absurd (omega arith);
    }

pub update_field-requires : goal.update_field-requires
update_field-requires g c =
    let (stands, (place, (outside, object))) = c.requires in
    let v = c.fields.invariant in
    let found = c.in-Some.ensures in
    let low = v.low in
    let at_least = found.low in
    let field = still_field g.pause c.fields.table c.args.at c.field_count-count.result c.in-Some.link.0 v.still
    (let m = v.lie.within in let h = found.high in omega arith) in
    let in_card : field_word c.args.at c.in-Some.link.0 / g.pause.card_words ≡ c.args.place.card =
    ap (λ (n : ℕ). field_word c.args.at c.in-Some.link.0 / n) (sym stands.card)
    ∙ v.lie.in_card c.in-Some.link.0 (omega arith) found.high in
    (v.on.stands, (place, (in_card, (outside, (field, found.link)))))

pub fields-preserved : goal.fields-preserved
fields-preserved g c =
    let (stands, (place, (outside, object))) = c.requires in
    let v = c.fields.invariant in
    let on = c.update_field.ensures.goes_on in
    let (y, at, count) = v.still in
    let (z, here, same) = on.after.stays c.args.at y outside at in
    record {
      on = goes_further v.on on;
      still = (z, here, same ∙ count);
      lie = v.lie;
      low = (let a = c.in-Some.ensures.low in let b = v.low in omega arith);
      clean = λ i l h.
          let stays = clean_after on c.args.at i outside (y, at) in
          elim (cases_lt i c.fields.next) [
            | inl low ↦ stays (v.clean i l low)
            | inr high ↦ elim (cases_eq i c.in-Some.link.0) [
              | inl e ↦
                  subst (IsFieldClean (layout g.pause) (space g.pause c.update_field.new.table) c.args.at) (sym e)
                  c.update_field.ensures.clean
              | inr n ↦ stays (nil_clean g.pause c.fields.table c.args.at i
                  (c.in-Some.ensures.nil i high (let z = c.in-Some.ensures.high in omega arith) (omega arith)))
            ]
          ];
    }

pub returns-clause-clean : goal.returns-clause-clean
returns-clause-clean g c =
    let (stands, (place, (outside, object))) = c.requires in
    let v = c.fields.invariant in
    λ i e y w here f.
    let (x, at, count) = v.still in
    let same : x ≡ y = cc in
    let n = ap (λ (m : Stored). length (fields m)) same in
    let low = get_below (fields y) i w f in
    let e' : field_word c.args.at i / c.args.context.now.card_words ≡ c.args.place.card =
    ap (λ (m : ℕ). field_word c.args.at i / m) stands.card ∙ e in
    let (a, b) = v.lie.all i (omega (arith, n, count, low)) e' in
    elim (cases_lt i c.fields.next) [
      | inl low ↦ v.clean i a low y w here f
      | inr high ↦ nil_clean g.pause c.fields.table c.args.at i (c.in_default.ensures.nil i high b tt) y w here f
    ]
