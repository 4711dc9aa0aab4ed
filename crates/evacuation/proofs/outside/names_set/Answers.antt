use Rattle.std.proofs.Common.{◌≡◌, ◌∙◌, ◌<◌, ◌/◌, ℕ, Some, ap, refl, arith}
use Rattle.regions.specs.Table.{fields_at}
use Rattle.regions.proofs.Words.Divides.{card_has_words}
use Rattle.refinement.specs.Remembering.{field_word}
use Rattle.refinement.proofs.Fields.{fields_in_card}
use Rattle.refinement.proofs.Holders.{object_small}
use Rattle.evacuation.proofs.Lists.{get_below}
use Rattle.evacuation.proofs.FieldUpdates.FieldCards.{all_small}
use Rattle.evacuation.proofs.Loops.OutsideCards.{card_small}
use Rattle.evacuation.proofs.outside.names_set.Goals as goal

pub overflow_add-first : goal.overflow_add-first
overflow_add-first g c =
    let (stands, (card, object)) = c.requires in
    let a = object_small c.args.table.now c.args.at c.law.ensures object in
    let s = c.law.ensures.in_all in
    let w = c.word-first.ensures in
    omega (arith, a, s, w)

pub overflow_mul-from : goal.overflow_mul-from
overflow_mul-from g c =
    let (stands, (card, object)) = c.requires in
    let a = card_small g.pause c.args.card stands.premises card in
    let n = all_small g.pause stands.premises in
    rw stands.card (omega (arith, a, n))

pub overflow_add-to : goal.overflow_add-to
overflow_add-to g c =
    let (stands, (card, object)) = c.requires in
    let a = card_small g.pause c.args.card stands.premises card in
    let n = all_small g.pause stands.premises in
    rw stands.card (omega (arith, a, n))

pub fields-init : goal.fields-init
fields-init g c =
    let (stands, (card, object)) = c.requires in
    let z = card_has_words g.pause.card_words g.pause.start.words_per_region g.pause.cards_per_region
    stands.premises.shaped.positive stands.premises.whole_cards in
    let z' : 0 < c.args.context.now.card_words = (let e = stands.card in omega (arith, e, z)) in
    record {
      lie = fields_in_card c.args.context.now.card_words c.args.card c.args.at c.field_count-count.result c.word-first.result
          c.args.card c.saturating_sub-start.result c.saturating_sub.result c.min-end.result z' c.word-first.ensures refl
          c.saturating_sub-start.ensures c.saturating_sub.ensures c.min-end.ensures;
      low = omega arith;
      outside = λ i a l h. absurd (omega arith);
    }

pub returns : goal.returns
returns g c =
    let (stands, (card, object)) = c.requires in
    let v = c.fields.invariant in
    λ none i a e f.
    let low = get_below (fields_at c.args.table.now c.args.at) i (Some a) f in
    let n = c.field_count-count.ensures in
    let e' : field_word c.args.at i / c.args.context.now.card_words ≡ c.args.card =
    ap (λ (m : ℕ). field_word c.args.at i / m) stands.card ∙ e in
    let (l, h) = v.lie.all i (omega (arith, n, low)) e' in
    let end = c.fields-test.false in
    v.outside i a l (omega (arith, h, end)) f
