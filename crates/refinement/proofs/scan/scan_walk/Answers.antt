use Rattle.std.proofs.Common.{◌≡◌, ◌∙◌, ◌*◌, ◌/◌, ◌<◌, ℕ, ap, refl, sym, subst, arith}
use Rattle.mark_bitmap.specs.Kept.{kept_in}
use Rattle.remembered_sets.specs.Sets.{may_lead}
use Rattle.refinement.specs.Remembering.{LeadsInside}
use Rattle.regions.proofs.Words.Divides.{card_has_words}
use Rattle.refinement.proofs.Counted.{count_first, count_next}
use Rattle.refinement.proofs.Entered.{adds_none, adds_more, adds_lead, adds_sets}
use Rattle.refinement.proofs.Fields.{adds_fit, card_end, region_of_first}
use Rattle.refinement.proofs.Holders.{kept_object}
use Rattle.refinement.proofs.Scanned.{tile_words, turn_over, turn_first, turn_last, turn_next, turn_past, turn_placed}
use Rattle.refinement.proofs.Turns.{fields_fit, spent_first, spent_last, spent_next, spent_past, spent_end}
use Rattle.refinement.proofs.scan.scan_walk.Goals as goal

pub overflow_mul-from : goal.overflow_mul-from
overflow_mul-from c =
    let e = card_end c.args.table.now c.args.card_words c.args.card c.args.sets.now c.requires.stands.fit c.requires.card in
    let small = c.law.ensures.in_all in
    rw c.number.ensures (omega (arith, e, small))

pub overflow_add-end : goal.overflow_add-end
overflow_add-end c =
    let e = card_end c.args.table.now c.args.card_words c.args.card c.args.sets.now c.requires.stands.fit c.requires.card in
    let small = c.law.ensures.in_all in
    rw c.number.ensures (omega (arith, e, small))

pub loop-at-init : goal.loop-at-init
loop-at-init c =
    let z = card_has_words c.args.card_words c.args.table.now.words_per_region c.args.sets.now.cards_per_region
    c.law.ensures.positive c.requires.stands.fit.whole_cards in
    let h = c.requires.holder in
    let walk = c.into_iter-at-iterator.ensures.into_iter_gives ∙ c.walk_from-at-items.ensures in
    record {
      adds = adds_none c.args.table.now.words_per_region (kept_in c.args.table.now c.args.tams.now c.args.marks.now)
          c.args.card_words c.args.card c.args.sets.now;
      turn = turn_first c.args.table.now c.law.ensures (kept_in c.args.table.now c.args.tams.now c.args.marks.now)
          (kept_object c.args.table.now c.args.tams.now c.args.marks.now)
          c.args.card_words c.args.card c.args.first (may_lead c.args.sets.now) c.into_iter-at-iterator.result h.tile h.tile_is walk;
      count = count_first c.args.table.now c.args.card_words c.args.card c.args.first c.into_iter-at-iterator.result c.law.ensures z h walk;
      spent = spent_first c.args.table.now c.args.card_words c.args.card c.args.first _ c.into_iter-at-iterator.result c.law.ensures z h
          walk;
      last = λ differs. absurd (differs refl);
    }

pub returns-then-word-end-clause-adds : goal.returns-then-word-end-clause-adds
returns-then-word-end-clause-adds c = c.loop-at.invariant.adds

pub returns-then-word-end-clause-covered : goal.returns-then-word-end-clause-covered
returns-then-word-end-clause-covered c =
    let z = card_has_words c.args.card_words c.args.table.now.words_per_region c.args.sets.now.cards_per_region
    c.law.ensures.positive c.requires.stands.fit.whole_cards in
    turn_past c.args.table.now c.law.ensures (kept_in c.args.table.now c.args.tams.now c.args.marks.now)
    (kept_object c.args.table.now c.args.tams.now c.args.marks.now)
    c.args.card_words c.args.card c.args.first (may_lead c.loop-at.sets) c.loop-at.at-iterator c.next.new.self c.in-Some.at c.in-Some.shape
    z c.loop-at.invariant.turn c.in-Some.ensures.steps
    (let end : c.number.result * c.args.card_words ≡ c.args.card * c.args.card_words =
    ap (λ (n : ℕ). n * c.args.card_words) c.number.ensures in
    omega (arith, end, c.word.ensures, c.if-word-end.true))

pub scan_small-last-requires-clause-tile : goal.scan_small-last-requires-clause-tile
scan_small-last-requires-clause-tile c =
    turn_placed c.args.table.now c.law.ensures (kept_in c.args.table.now c.args.tams.now c.args.marks.now)
    (kept_object c.args.table.now c.args.tams.now c.args.marks.now)
    c.args.card_words c.args.card c.args.first (may_lead c.loop-at.sets) c.loop-at.at-iterator c.next.new.self c.in-Some.at c.in-Some.shape
    c.loop-at.invariant.turn c.in-Some.ensures.steps

pub scan_small-last-requires-clause-stands : goal.scan_small-last-requires-clause-stands
scan_small-last-requires-clause-stands c = record {
  fit = (adds_fit c.args.table.now (kept_in c.args.table.now c.args.tams.now c.args.marks.now) c.args.card_words c.args.card
      c.args.sets.now c.loop-at.sets c.requires.stands.fit c.loop-at.invariant.adds).0;
  each_word = c.requires.stands.each_word;
  inside = c.requires.stands.inside;
}

pub scan_small-last-requires-clause-card : goal.scan_small-last-requires-clause-card
scan_small-last-requires-clause-card c =
    let e = (adds_fit c.args.table.now (kept_in c.args.table.now c.args.tams.now c.args.marks.now) c.args.card_words c.args.card
    c.args.sets.now c.loop-at.sets c.requires.stands.fit c.loop-at.invariant.adds).1 in
    subst (λ (n : ℕ). c.args.card < n) (sym e) c.requires.card

pub scan_small-last-requires-clause-home : goal.scan_small-last-requires-clause-home
scan_small-last-requires-clause-home c =
    let same = (adds_sets c.args.table.now.words_per_region (kept_in c.args.table.now c.args.tams.now c.args.marks.now) c.args.card_words
    c.args.card c.args.sets.now c.loop-at.sets c.loop-at.invariant.adds).1 in
    let home : c.number-home.result ≡ c.args.card * c.args.card_words / c.args.table.now.words_per_region =
    c.number-home.ensures ∙ c.region_of.ensures ∙ ap (λ (n : ℕ). n / c.args.table.now.words_per_region)
    (c.new.ensures ∙ ap (λ (n : ℕ). n * c.args.card_words) c.number.ensures) in
    ap (λ (n : ℕ). c.args.card / n) same ∙ region_of_first c.args.table.now.words_per_region c.args.card_words
    c.args.sets.now.cards_per_region c.args.card c.law.ensures.positive c.requires.stands.fit.whole_cards ∙ sym home

pub overflow_add-word : goal.overflow_add-word
overflow_add-word c =
    let tile = turn_placed c.args.table.now c.law.ensures (kept_in c.args.table.now c.args.tams.now c.args.marks.now)
    (kept_object c.args.table.now c.args.tams.now c.args.marks.now)
    c.args.card_words c.args.card c.args.first (may_lead c.loop-at.sets) c.loop-at.at-iterator c.next.new.self c.in-Some.at c.in-Some.shape
    c.loop-at.invariant.turn c.in-Some.ensures.steps in
    let within = c.law.ensures.within c.in-Some.at tile.tile tile.tile_is in
    let size = tile_words c.in-Some.shape tile.tile c.size.result tile.shape_is c.size.ensures in
    omega (arith, within, size, c.word.ensures, c.law.ensures.in_all)

pub returns-then-word-size-clause-adds : goal.returns-then-word-size-clause-adds
returns-then-word-size-clause-adds c =
    adds_more c.args.table.now.words_per_region (kept_in c.args.table.now c.args.tams.now c.args.marks.now) c.args.card_words c.args.card
    c.args.sets.now c.loop-at.sets c.scan_small-last.new.sets c.loop-at.invariant.adds c.scan_small-last.ensures.adds

pub returns-then-word-size-clause-covered : goal.returns-then-word-size-clause-covered
returns-then-word-size-clause-covered c =
    let kept = kept_in c.args.table.now c.args.tams.now c.args.marks.now in
    let words = c.args.table.now.words_per_region in
    let p = c.loop-at.invariant in
    let z = card_has_words c.args.card_words words c.args.sets.now.cards_per_region
    c.law.ensures.positive c.requires.stands.fit.whole_cards in
    let fit =
    (adds_fit c.args.table.now kept c.args.card_words c.args.card c.args.sets.now c.loop-at.sets c.requires.stands.fit p.adds).0 in
    let inside = subst (λ (n : ℕ). LeadsInside words n kept) (sym fit.each_region) c.requires.stands.inside in
    let from : c.number.result * c.args.card_words ≡ c.args.card * c.args.card_words =
    ap (λ (n : ℕ). n * c.args.card_words) c.number.ensures in
    turn_over c.args.table.now c.law.ensures kept (kept_object c.args.table.now c.args.tams.now c.args.marks.now)
    c.args.card_words c.args.card c.args.first (may_lead c.loop-at.sets) (may_lead c.scan_small-last.new.sets)
    c.loop-at.at-iterator c.next.new.self c.in-Some.at c.in-Some.shape c.size.result z p.turn c.in-Some.ensures.steps
    (adds_lead words kept c.args.card_words c.args.card c.loop-at.sets c.scan_small-last.new.sets inside c.scan_small-last.ensures.adds)
    c.scan_small-last.ensures.covered c.size.ensures (omega (arith, from, c.word-in-loop-at.ensures, c.if-word-size.true))

pub loop-at-preserved : goal.loop-at-preserved
loop-at-preserved c =
    let kept = kept_in c.args.table.now c.args.tams.now c.args.marks.now in
    let words = c.args.table.now.words_per_region in
    let stands = kept_object c.args.table.now c.args.tams.now c.args.marks.now in
    let p = c.loop-at.invariant in
    let fit =
    (adds_fit c.args.table.now kept c.args.card_words c.args.card c.args.sets.now c.loop-at.sets c.requires.stands.fit p.adds).0 in
    let inside = subst (λ (n : ℕ). LeadsInside words n kept) (sym fit.each_region) c.requires.stands.inside in
    let from : c.number.result * c.args.card_words ≡ c.args.card * c.args.card_words =
    ap (λ (n : ℕ). n * c.args.card_words) c.number.ensures in
    let tile = turn_placed c.args.table.now c.law.ensures (kept_in c.args.table.now c.args.tams.now c.args.marks.now)
    (kept_object c.args.table.now c.args.tams.now c.args.marks.now)
    c.args.card_words c.args.card c.args.first (may_lead c.loop-at.sets) c.loop-at.at-iterator c.next.new.self c.in-Some.at c.in-Some.shape
    c.loop-at.invariant.turn c.in-Some.ensures.steps in
    record {
      adds = adds_more words kept c.args.card_words c.args.card c.args.sets.now c.loop-at.sets c.scan_small-last.new.sets p.adds
          c.scan_small-last.ensures.adds;
      turn = turn_next c.args.table.now c.law.ensures kept stands c.args.card_words c.args.card c.args.first (may_lead c.loop-at.sets)
          (may_lead c.scan_small-last.new.sets) c.loop-at.at-iterator c.next.new.self c.in-Some.at c.in-Some.shape
          p.turn c.in-Some.ensures.steps
          (adds_lead words kept c.args.card_words c.args.card c.loop-at.sets c.scan_small-last.new.sets inside
          c.scan_small-last.ensures.adds) c.scan_small-last.ensures.covered;
      count = count_next c.args.card_words c.args.card c.loop-at.looked c.in-Some.at c.in-Some.shape c.loop-at.at-iterator c.next.new.self
          p.count c.in-Some.ensures.steps c.word.result c.number.result c.word.ensures c.number.ensures c.if-word-end.false;
      spent = spent_next c.args.card_words c.args.card _ _ c.in-Some.at _ c.in-Some.shape c.loop-at.at-iterator c.next.new.self p.spent
          c.in-Some.ensures.steps (omega (arith, from, c.word.ensures, c.if-word-end.false)) (fields_fit c.args.table.now c.in-Some.at
          c.in-Some.shape tile) _ (omega (arith, c.tick.ensures, c.scan_small-last.ensures.work))
          (omega (arith, from, c.word-in-loop-at.ensures, c.size.ensures, c.if-word-size.false));
      last = c.scan_small-last.ensures.last;
    }

pub returns-clause-adds : goal.returns-clause-adds
returns-clause-adds c = c.loop-at.invariant.adds

pub returns-clause-covered : goal.returns-clause-covered
returns-clause-covered c =
    turn_last c.args.table.now c.law.ensures (kept_in c.args.table.now c.args.tams.now c.args.marks.now)
    (kept_object c.args.table.now c.args.tams.now c.args.marks.now)
    c.args.card_words c.args.card c.args.first (may_lead c.loop-at.sets) c.loop-at.at-iterator
    c.loop-at.invariant.turn c.in-None.ensures.steps.0

pub returns-then-word-end-clause-work : goal.returns-then-word-end-clause-work
returns-then-word-end-clause-work c =
    let spent = spent_past c.args.card_words c.args.card _ _ c.loop-at.at-iterator c.loop-at.invariant.spent in
    omega (arith, spent, c.tick.ensures)

pub returns-then-word-size-clause-work : goal.returns-then-word-size-clause-work
returns-then-word-size-clause-work c =
    let from : c.number.result * c.args.card_words ≡ c.args.card * c.args.card_words =
    ap (λ (n : ℕ). n * c.args.card_words) c.number.ensures in
    let tile = turn_placed c.args.table.now c.law.ensures (kept_in c.args.table.now c.args.tams.now c.args.marks.now)
    (kept_object c.args.table.now c.args.tams.now c.args.marks.now)
    c.args.card_words c.args.card c.args.first (may_lead c.loop-at.sets) c.loop-at.at-iterator c.next.new.self c.in-Some.at c.in-Some.shape
    c.loop-at.invariant.turn c.in-Some.ensures.steps in
    spent_last c.args.card_words c.args.card _ _ c.in-Some.at _ c.in-Some.shape c.loop-at.at-iterator c.next.new.self
    c.loop-at.invariant.spent c.in-Some.ensures.steps (omega (arith, from, c.word.ensures, c.if-word-end.false))
    (fields_fit c.args.table.now c.in-Some.at c.in-Some.shape tile) _
    (omega (arith, c.tick.ensures, c.scan_small-last.ensures.work))

pub returns-clause-work : goal.returns-clause-work
returns-clause-work c = spent_end c.args.card_words c.args.card _ _ c.loop-at.at-iterator c.loop-at.invariant.spent
