use Rattle.std.proofs.Common.{◌≡◌, ◌∙◌, ◌*◌, ◌/◌, ◌%◌, ◌≤◌, ℕ, ap, sym, subst, inl, inr, arith}
use Rattle.std.proofs.lemmas.Bool.{cases_lt}
use Rattle.regions.specs.Table.{top_of}
use Rattle.regions.specs.Walks.{IsHolder}
use Rattle.mark_bitmap.specs.Kept.{kept_in}
use Rattle.remembered_sets.specs.Sets.{may_lead}
use Rattle.refinement.specs.Remembering.{LeadsInside}
use Rattle.regions.proofs.Words.Divides.{card_has_words}
use Rattle.refinement.proofs.Entered.{adds_gains, adds_lead}
use Rattle.refinement.proofs.Fields.{adds_fit, card_end}
use Rattle.refinement.proofs.Holders.{kept_object}
use Rattle.refinement.proofs.Scanned.{card_covered, card_empty}
use Rattle.refinement.proofs.scan.scan_card_counted.Goals as goal

pub overflow_mul-number : goal.overflow_mul-number
overflow_mul-number c =
    let e = card_end c.args.table.now c.args.card_words c.args.card c.args.sets.now c.requires.stands.fit c.requires.card in
    let small = c.law.ensures.in_all in
    rw c.number.ensures (omega (arith, e, small))

pub first_tile_counted-requires : goal.first_tile_counted-requires
first_tile_counted-requires c =
    let e = card_end c.args.table.now c.args.card_words c.args.card c.args.sets.now c.requires.stands.fit c.requires.card in
    let z = card_has_words c.args.card_words c.args.table.now.words_per_region c.args.sets.now.cards_per_region
    c.law.ensures.positive c.requires.stands.fit.whole_cards in
    let from : c.new-from.result ≡ c.args.card * c.args.card_words =
    c.new-from.ensures ∙ ap (λ (n : ℕ). n * c.args.card_words) c.number.ensures in
    omega (arith, e, z, from)

pub returns : goal.returns
returns c =
    let from : c.new-from.result ≡ c.args.card * c.args.card_words =
    c.new-from.ensures ∙ ap (λ (n : ℕ). n * c.args.card_words) c.number.ensures in
    let holder = subst (λ (w : ℕ). IsHolder c.args.table.now c.in-Some.first w) from c.in-Some.ensures.holder in
    let words = c.args.table.now.words_per_region in
    let kept = kept_in c.args.table.now c.args.tams.now c.args.marks.now in
    let adds = c.scan_tiles.ensures.adds in
    let can = c.requires.stands in
    let inside = subst (λ (n : ℕ). LeadsInside words n kept) (sym can.fit.each_region) can.inside in
    let fit = adds_fit c.args.table.now kept c.args.card_words c.args.card c.args.sets.now c.scan_tiles.new.sets can.fit adds in
    record {
      looked = c.scan_tiles.ensures.looked;
      covered = card_covered c.args.table.now c.law.ensures kept (kept_object c.args.table.now c.args.tams.now c.args.marks.now)
          c.args.card_words c.args.card c.in-Some.first c.args.sets.now.cards_per_region can.fit.whole_cards
          (may_lead c.scan_tiles.new.sets) holder c.scan_tiles.ensures.covered;
      adds = adds;
      gains = adds_gains words kept c.args.card_words c.args.card c.args.sets.now c.scan_tiles.new.sets inside adds;
      leads = adds_lead words kept c.args.card_words c.args.card c.args.sets.now c.scan_tiles.new.sets inside adds;
      stands = record { fit = fit.0; each_word = can.each_word; inside = can.inside };
      count = fit.1;
      work = omega (arith, c.in-Some.ensures.work, c.scan_tiles.ensures.work, ap (λ (n : ℕ). n % words) from);
    }

pub returns-in_default-clause-covered : goal.returns-in_default-clause-covered
returns-in_default-clause-covered c =
    let from : c.new-from.result ≡ c.args.card * c.args.card_words =
    c.new-from.ensures ∙ ap (λ (n : ℕ). n * c.args.card_words) c.number.ensures in
    let high : top_of c.args.table.now (c.args.card * c.args.card_words / c.args.table.now.words_per_region)
    ≤ c.args.card * c.args.card_words = subst (λ (w : ℕ). top_of c.args.table.now (w / c.args.table.now.words_per_region) ≤ w) from
    (elim (cases_lt c.new-from.result (top_of c.args.table.now (c.new-from.result / c.args.table.now.words_per_region))) [
      | inl lt ↦ absurd (let y = c.in_default.ensures.found.1 lt in cc)
      | inr ge ↦ ge
    ]) in
    card_empty c.args.table.now c.law.ensures (kept_in c.args.table.now c.args.tams.now c.args.marks.now)
    (kept_object c.args.table.now c.args.tams.now c.args.marks.now)
    c.args.card_words c.args.card 0 c.args.sets.now.cards_per_region c.requires.stands.fit.whole_cards (may_lead c.args.sets.now) high

pub returns-in_default-clause-work : goal.returns-in_default-clause-work
returns-in_default-clause-work c =
    let from : c.new-from.result ≡ c.args.card * c.args.card_words =
    c.new-from.ensures ∙ ap (λ (n : ℕ). n * c.args.card_words) c.number.ensures in
    omega (arith, c.in_default.ensures.work, ap (λ (n : ℕ). n % c.args.table.now.words_per_region) from)
