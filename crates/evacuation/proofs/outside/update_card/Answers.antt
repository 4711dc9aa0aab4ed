use Rattle.std.proofs.Common.{◌≡◌, ◌∙◌, ℕ, sym, ap, refl, subst, arith, ◌<◌, ◌*◌, ◌+◌, ◌/◌, length}
use Rattle.regions.specs.Table.{top_of}
use Rattle.regions.specs.Walks.{IsHolder}
use Rattle.regions.proofs.Words.Divides.{card_has_words}
use Rattle.refinement.proofs.Fields.{region_of_first}
use Rattle.evacuation.specs.Turns.{IsCardPlace}
use Rattle.evacuation.proofs.Turns.Following.{stays_on}
use Rattle.evacuation.proofs.Loops.OutsideCards.{card_small, none_inside, none_there}
use Rattle.evacuation.proofs.FieldUpdates.FieldCards.{all_small}
use Rattle.evacuation.proofs.outside.update_card.Goals as goal

pub overflow_mul-from : goal.overflow_mul-from
overflow_mul-from g c =
    let (stands, (kept, known)) = c.requires in
    let a = card_small g.pause c.args.card stands.premises known in
    let n = all_small g.pause stands.premises in
    rw stands.card (omega (arith, a, n))

pub overflow_add-end : goal.overflow_add-end
overflow_add-end g c =
    let (stands, (kept, known)) = c.requires in
    let a = card_small g.pause c.args.card stands.premises known in
    let n = all_small g.pause stands.premises in
    rw stands.card (omega (arith, a, n))

pub first_tile-requires : goal.first_tile-requires
first_tile-requires g c =
    let (stands, (kept, known)) = c.requires in
    let a = card_small g.pause c.args.card stands.premises known in
    let z = card_has_words g.pause.card_words g.pause.start.words_per_region g.pause.cards_per_region
    stands.premises.shaped.positive stands.premises.whole_cards in
    let e : length c.args.table.now.regions * c.args.table.now.words_per_region
    ≡ length g.pause.start.regions * g.pause.start.words_per_region =
    rw (stands.turn.table.count, stands.turn.table.size) refl in
    let w = c.new-bottom.ensures in
    let f = ap (λ (n : ℕ). c.args.card * n) stands.card in
    omega (arith, a, z, e, w, f)

pub update_tiles-requires : goal.update_tiles-requires
update_tiles-requires g c =
    let (stands, (kept, known)) = c.requires in
    let at : c.new-bottom.result ≡ c.args.card * g.pause.card_words =
    c.new-bottom.ensures ∙ ap (λ (n : ℕ). c.args.card * n) stands.card in
    let home : c.number-home.result ≡ c.args.card * g.pause.card_words / g.pause.start.words_per_region =
    c.number-home.ensures ∙ c.region_of.ensures ∙ ap (λ (n : ℕ). c.new-bottom.result / n) stands.turn.table.size
    ∙ ap (λ (n : ℕ). n / g.pause.start.words_per_region) at in
    let place : IsCardPlace g.pause (record { card = c.args.card; home = c.number-home.result }) = record {
      known = known;
      home = region_of_first g.pause.start.words_per_region g.pause.card_words g.pause.cards_per_region c.args.card
          stands.premises.shaped.positive stands.premises.whole_cards ∙ sym home;
    } in
    let holder = subst (λ (n : ℕ). IsHolder c.args.table.now c.in-Some.first n) at c.in-Some.ensures.holder in
    let end = ap (λ (n : ℕ). c.args.card * n + n) stands.card in
    (stands, (kept, (place, (sym c.is_inside.ensures ∙ c.if-is_inside.false, (holder, end)))))

pub returns-then-is_inside : goal.returns-then-is_inside
returns-then-is_inside g c =
    let (stands, (kept, known)) = c.requires in
    let w : c.new-bottom.result ≡ c.args.card * g.pause.card_words =
    c.new-bottom.ensures ∙ ap (λ (n : ℕ). c.args.card * n) stands.card in
    record {
      goes_on = stays_on stands;
      clean = none_inside g.pause stands.premises c.args.card c.args.table.now c.args.context.now.destinations stands.turn c.law.ensures
          c.in-Some.first (subst (λ (n : ℕ). IsHolder c.args.table.now c.in-Some.first n) w c.in-Some.ensures.holder)
          (sym c.is_inside.ensures ∙ c.if-is_inside.true);
    }

pub returns-in_default : goal.returns-in_default
returns-in_default g c =
    let (stands, (kept, known)) = c.requires in
    let w : c.new-bottom.result ≡ c.args.card * g.pause.card_words =
    c.new-bottom.ensures ∙ ap (λ (n : ℕ). c.args.card * n) stands.card in
    record {
      goes_on = stays_on stands;
      clean = none_there g.pause stands.premises c.args.card c.args.table.now c.args.context.now.destinations stands.turn c.law.ensures
          (λ low. let k =
          c.in_default.ensures.found.1 (subst (λ (n : ℕ). n < top_of c.args.table.now (n / c.args.table.now.words_per_region)) (sym w) low)
          in
          absurd cc);
    }
