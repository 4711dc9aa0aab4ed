use Rattle.std.proofs.Common.{◌≡◌, ◌∙◌, ◌+◌, ◌*◌, ◌/◌, ◌||◌, ℕ, zero, suc, List, Bool, true, false, refl, sym, ap, ap₂, subst}
use Rattle.std.proofs.Common.{arith, length, replicate, vec_len}
use Rattle.std.proofs.lemmas.List.{length-replicate}
use Rattle.std.proofs.lemmas.Nat.{mul-le}
use Rattle.mark_bitmap.specs.Tops.{Tops}
use Rattle.regions.specs.Table.{Table, run_length}
use Rattle.regions.proofs.LongRuns.Blocks.{block_within, product_le}
use Rattle.remembered_sets.specs.Sets.{card_count, may_lead}
use Rattle.evacuation.specs.Rooms.{RoomSizes}
use Rattle.evacuation.specs.Space.{flag}
use Rattle.evacuation.specs.Sliding.{Slide, RedirectsInTurn, slide_of}
use Rattle.evacuation.proofs.Slides.KeptObjects.{is_some}
use Rattle.evacuation.proofs.Slides.Whole as whole
use Rattle.evacuation.proofs.slide.redirect_run.Goals as goal

-- a slide, by its two places
abbrev by_places : Table → Tops → List Bool → ℕ → ℕ → ℕ → Slide
by_places t tams marks card_words from to = record {
  regions = length t.regions;
  words = t.words_per_region;
  card_words = card_words;
  cards_per_region = t.words_per_region / card_words;
  tams = tams;
  marks = marks;
  from = from;
  to = to;
}

none_noted : (n k : ℕ) → flag (replicate n false) k ≡ false
none_noted zero k = refl
none_noted (suc n) zero = refl
none_noted (suc n) (suc k) = none_noted n k

or_false : (b : Bool) → (b || false) ≡ b
or_false true = refl
or_false false = refl

pub overflow_add-number : goal.overflow_add-number
overflow_add-number c =
    let fits = block_within c.args.table.now c.args.first c.requires.can.known in
    let some = mul-le (length c.args.table.now.regions) 1 (length c.args.table.now.regions) c.args.table.now.words_per_region (omega arith)
    c.law.ensures.positive in
    let all = c.law.ensures.in_all in
    omega (arith, fits, some, all, c.number-4.ensures, c.run_length-count.ensures)

pub overflow_mul-number-4 : goal.overflow_mul-number-4
overflow_mul-number-4 c =
    let can = c.requires.can in
    let q : ℕ = c.args.table.now.words_per_region / c.args.card_words in
    let fits = block_within c.args.table.now c.args.first can.known in
    let w = whole.few_cards c.args.table.now c.args.tams.now c.args.bitmaps.now.previous c.args.cards.now c.args.sets.now c.args.card_words
    c.args.first c.args.to can c.law.ensures in
    let p = mul-le (c.args.first + run_length c.args.table.now c.args.first) q
    (length c.args.table.now.regions) c.args.table.now.words_per_region
    fits w in
    let all = c.law.ensures.in_all in
    rw (c.number-4.ensures, c.run_length-count.ensures, c.words_per_region-words.ensures) (omega (arith, p, all))

pub clear_range-requires : goal.clear_range-requires
clear_range-requires c =
    let can = c.requires.can in
    let fits = block_within c.args.table.now c.args.first can.known in
    let cards = ap (λ (s : RoomSizes). s.cards) c.room.view_is ∙ c.requires.room in
    let count = whole.count c.args.table.now c.args.tams.now c.args.bitmaps.now.previous c.args.cards.now c.args.sets.now c.args.card_words
    c.args.first c.args.to can c.law.ensures in
    let p = product_le (c.args.first + run_length c.args.table.now c.args.first) (length c.args.table.now.regions)
    (c.args.table.now.words_per_region / c.args.card_words) fits in
    rw (c.number-4.ensures, c.run_length-count.ensures, c.words_per_region-words.ensures)
    (omega (arith, p, count, cards, c.flag_visited.ensures.len, c.room.invariant.each_card))

pub redirect_fields-requires : goal.redirect_fields-requires
redirect_fields-requires c =
    let can = c.requires.can in
    let t = c.args.table.now in
    let tams = c.args.tams.now in
    let marks = c.args.bitmaps.now.previous in
    let n = length c.room.inside.context.noted.cards in
    let cards = ap (λ (s : RoomSizes). s.cards) c.room.view_is ∙ c.requires.room in
    let from : c.new.result ≡ c.args.first * t.words_per_region =
    c.new.ensures ∙ ap₂ (λ (a b : ℕ). a * b) c.number.ensures c.words_per_region-words.ensures in
    let to : c.new-2.result ≡ c.args.to * t.words_per_region =
    c.new-2.ensures ∙ ap₂ (λ (a b : ℕ). a * b) c.number-2.ensures c.words_per_region-words.ensures in
    let noted : length c.clear.new.self ≡ card_count c.args.sets.now =
    ap length c.clear.ensures ∙ length-replicate {A = Bool} n false ∙ cards in
    let stands = whole.slide_stands t tams marks c.args.cards.now c.args.sets.now c.args.card_words c.args.first c.args.to can c.law.ensures
    c.clear.new.self noted in
    let object = whole.slide_object t tams marks c.args.cards.now c.args.sets.now c.args.card_words c.args.first c.args.to can
    c.law.ensures in
    let below = whole.goes_down t tams marks c.args.cards.now c.args.sets.now c.args.card_words c.args.first c.args.to can c.law.ensures in
    let same : length c.clear_range.new.self ≡ length c.clear.new.self =
    c.clear_range.ensures.len ∙ c.flag_visited.ensures.len ∙ c.room.invariant.each_card ∙ cards ∙ sym noted in
    rw (from, to) (stands, ((refl, refl), ((refl, refl), (refl, (same, (is_some _ can.object object, below))))))

pub dirty_noted-requires-clause-len : goal.dirty_noted-requires-clause-len
dirty_noted-requires-clause-len c =
    let can = c.requires.can in
    c.redirect_fields.ensures.own.stands.each_card
    ∙ sym (whole.count c.args.table.now c.args.tams.now c.args.bitmaps.now.previous c.args.cards.now c.args.sets.now c.args.card_words
    c.args.first c.args.to can c.law.ensures) ∙ sym can.each_card

abbrev sizes : ℕ → ℕ → RoomSizes
sizes regions cards = record { regions = regions; cards = cards }

pub invariant_of-room : goal.invariant_of-room
invariant_of-room c =
    let can = c.requires.can in
    let cards = ap (λ (s : RoomSizes). s.cards) c.room.view_is ∙ c.requires.room in
    let noted = c.redirect_fields.ensures.own.stands.each_card
    ∙ sym (whole.count c.args.table.now c.args.tams.now c.args.bitmaps.now.previous c.args.cards.now c.args.sets.now c.args.card_words
    c.args.first c.args.to can c.law.ensures) in
    record {
      each_card = c.clear_range.ensures.len ∙ c.flag_visited.ensures.len ∙ c.room.invariant.each_card ∙ cards ∙ sym noted;
      each_region = c.room.invariant.each_region;
    }

pub returns-clause-room : goal.returns-clause-room
returns-clause-room c =
    let can = c.requires.can in
    let cards = ap (λ (s : RoomSizes). s.cards) c.room.view_is ∙ c.requires.room in
    let noted = c.redirect_fields.ensures.own.stands.each_card
    ∙ sym (whole.count c.args.table.now c.args.tams.now c.args.bitmaps.now.previous c.args.cards.now c.args.sets.now c.args.card_words
    c.args.first c.args.to can c.law.ensures) in
    ap (λ (n : ℕ). sizes (vec_len c.room.inside.context.chosen) n) (noted ∙ sym cards) ∙ c.room.view_is

pub returns-clause-redirected : goal.returns-clause-redirected
returns-clause-redirected c =
    let can = c.requires.can in
    let t = c.args.table.now in
    let tams = c.args.tams.now in
    let marks = c.args.bitmaps.now.previous in
    let from : c.new.result ≡ c.args.first * t.words_per_region =
    c.new.ensures ∙ ap₂ (λ (a b : ℕ). a * b) c.number.ensures c.words_per_region-words.ensures in
    let to : c.new-2.result ≡ c.args.to * t.words_per_region =
    c.new-2.ensures ∙ ap₂ (λ (a b : ℕ). a * b) c.number-2.ensures c.words_per_region-words.ensures in
    let turn : RedirectsInTurn (slide_of t tams marks c.args.card_words c.args.first c.args.to) c.clear_range.new.self t
    c.redirect_fields.new.table c.clear.new.self c.redirect_fields.new.noted =
    subst
    (λ (a : ℕ). RedirectsInTurn (by_places t tams marks c.args.card_words (c.args.first * t.words_per_region) a)
    c.clear_range.new.self t
    c.redirect_fields.new.table c.clear.new.self c.redirect_fields.new.noted) to
    (subst (λ (a : ℕ). RedirectsInTurn (by_places t tams marks c.args.card_words a c.new-2.result) c.clear_range.new.self t
    c.redirect_fields.new.table c.clear.new.self c.redirect_fields.new.noted) from c.redirect_fields.ensures) in
    let cleared = rw (c.number-3.ensures, c.number-4.ensures, c.run_length-count.ensures, c.words_per_region-words.ensures)
    at c.clear_range.ensures.flags in
    whole.all_redirected t tams marks c.args.cards.now c.args.sets.now c.args.card_words c.args.first c.args.to can c.law.ensures
    c.flag_visited.new.visited c.clear_range.new.self
    (λ card used. c.flag_visited.ensures.flags card used ∙ or_false (may_lead c.args.sets.now c.args.first card)) cleared
    c.redirect_fields.new.table c.clear.new.self c.redirect_fields.new.noted turn
    (λ card. ap (λ (l : List Bool). flag l card) c.clear.ensures ∙ none_noted (length c.room.inside.context.noted.cards) card)
    c.dirty_noted.new.cards c.dirty_noted.ensures.dirty c.dirty_noted.ensures.logs c.dirty_noted.ensures.queue c.dirty_noted.ensures.len
