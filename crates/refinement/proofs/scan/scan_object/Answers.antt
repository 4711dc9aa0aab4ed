use Rattle.std.proofs.Common.{◌≡◌, ◌≢◌, ◌+◌, ◌-◌, ◌*◌, ◌/◌, ◌<◌, ◌≤◌, ◌∙◌, ap, refl, sym, subst, true, ℕ, Option, Some, arith, slice_get}
use Rattle.regions.specs.Table.{fields_at, object_at}
use Rattle.remembered_sets.specs.Sets.{may_lead}
use Rattle.refinement.specs.Refining.{with_field}
use Rattle.regions.proofs.Words.Divides.{card_has_words}
use Rattle.refinement.specs.Remembering.{field_word}
use Rattle.refinement.proofs.Entered.{adds_none, adds_sets}
use Rattle.refinement.proofs.Fields.{adds_fit, card_end, fields_in_card, partly_last, partly_next, partly_nil, region_of_card}
use Rattle.refinement.proofs.Holders.{object_small}
use Rattle.refinement.proofs.scan.scan_object.Goals as goal

pub fields_in-start-requires-clause-object : goal.fields_in-start-requires-clause-object
fields_in-start-requires-clause-object c =
    let s = object_small c.args.table.now c.args.object c.law.ensures c.requires.object in
    omega (arith, s, c.law.ensures.in_all)

pub fields_in-start-requires-clause-card : goal.fields_in-start-requires-clause-card
fields_in-start-requires-clause-card c =
    let e = card_end c.args.table.now c.args.card_words c.args.card c.args.sets.now c.requires.fit c.requires.card in
    omega (arith, e, c.law.ensures.in_all)

pub next_link_counted-requires : goal.next_link_counted-requires
next_link_counted-requires c = omega (arith, c.fields_in-start.ensures.end, c.field_count-count.ensures)

pub fields-init : goal.fields-init
fields-init c =
    let z = card_has_words c.args.card_words c.args.table.now.words_per_region c.args.sets.now.cards_per_region
    c.law.ensures.positive c.requires.fit.whole_cards in
    record {
      partly = λ kept same. record {
        adds = adds_none c.args.table.now.words_per_region kept c.args.card_words c.args.card c.args.sets.now;
        done = λ i v l h. absurd (omega arith);
      };
      last = c.requires.last;
      lie = fields_in_card c.args.card_words c.args.card c.args.object c.field_count-count.result c.args.object c.args.card
          c.fields_in-start.result.0 (c.args.card * c.args.card_words + c.args.card_words - (c.args.object + 2))
          c.fields_in-start.result.1 z refl refl c.fields_in-start.ensures.start refl c.fields_in-start.ensures.end;
      low = omega arith;
      high = omega arith;
      spent = omega arith;
    }

pub scan_field-last-requires-clause-regions : goal.scan_field-last-requires-clause-regions
scan_field-last-requires-clause-regions c =
    let p = c.fields.invariant.partly (object_at c.args.table.now) refl in
    (adds_fit c.args.table.now (object_at c.args.table.now) c.args.card_words c.args.card
    c.args.sets.now c.fields.sets c.requires.fit p.adds).0.each_region

pub scan_field-last-requires-clause-card : goal.scan_field-last-requires-clause-card
scan_field-last-requires-clause-card c =
    let p = c.fields.invariant.partly (object_at c.args.table.now) refl in
    let e = (adds_fit c.args.table.now (object_at c.args.table.now) c.args.card_words c.args.card
    c.args.sets.now c.fields.sets c.requires.fit p.adds).1 in
    subst (λ (n : ℕ). c.args.card < n) (sym e) c.requires.card

pub scan_field-last-requires-clause-home : goal.scan_field-last-requires-clause-home
scan_field-last-requires-clause-home c =
    let low : c.fields_in-start.result.0 ≤ c.in-Some.link.0 = omega (arith, c.fields.invariant.low, c.in-Some.ensures.low) in
    let in_card = c.fields.invariant.lie.in_card c.in-Some.link.0 low c.in-Some.ensures.high in
    sym (region_of_card c.args.table.now.words_per_region c.args.card_words c.args.sets.now.cards_per_region
    (field_word c.args.object c.in-Some.link.0) c.law.ensures.positive c.requires.fit.whole_cards)
    ∙ ap (λ (n : ℕ). n / c.args.sets.now.cards_per_region) in_card ∙ c.requires.home

pub scan_field-last-requires-clause-source : goal.scan_field-last-requires-clause-source
scan_field-last-requires-clause-source c =
    let p = c.fields.invariant.partly (object_at c.args.table.now) refl in
    let same = (adds_sets c.args.table.now.words_per_region (object_at c.args.table.now) c.args.card_words c.args.card c.args.sets.now
    c.fields.sets p.adds).1 in
    ap (λ (n : ℕ). c.args.card / n) same ∙ c.requires.home

pub fields-preserved : goal.fields-preserved
fields-preserved c =
    let found = c.in-Some.ensures in
    let low : c.fields_in-start.result.0 ≤ c.in-Some.link.0 = omega (arith, c.fields.invariant.low, found.low) in
    record {
      partly = λ kept same.
          let p = c.fields.invariant.partly kept same in
          let fit = (adds_fit c.args.table.now kept c.args.card_words c.args.card c.args.sets.now c.fields.sets c.requires.fit p.adds).0 in
          let named : (target : Option ℕ) → slice_get (fields_at c.args.table.now c.args.object) c.in-Some.link.0 ≡ Some target
          → Some c.in-Some.link.1 ≡ target = λ target e. let both = sym found.link ∙ e in cc in
          let last : (target : ℕ) → slice_get (fields_at c.args.table.now c.args.object) c.in-Some.link.0 ≡ Some (Some target)
          → c.in-Some.link.1 ≡ target = λ target e. let both = named (Some target) e in cc in
          partly_next c.args.table.now kept c.args.card_words c.args.card c.args.object c.fields_in-start.result.0 c.in-Some.link.0
          (c.in-Some.link.0 + 1) c.args.sets.now c.fields.sets c.scan_field-last.new.sets same c.requires.inside fit.each_region
          (omega (arith, c.fields.invariant.lie.within, c.field_count-count.ensures, found.high))
          (c.fields.invariant.lie.in_card c.in-Some.link.0 low found.high) refl
          (λ target e. subst (λ (o : Option ℕ). c.scan_field-last.new.sets ≡ with_field c.args.table.now.words_per_region c.args.card
          (field_word c.args.object c.in-Some.link.0) o c.fields.sets) (named target e) c.scan_field-last.ensures.after)
          (λ target e. subst (λ (n : ℕ). n / c.args.table.now.words_per_region
          ≢ field_word c.args.object c.in-Some.link.0 / c.args.table.now.words_per_region
          → may_lead c.scan_field-last.new.sets (n / c.args.table.now.words_per_region) c.args.card ≡ true) (last target e)
          c.scan_field-last.ensures.covered)
          (partly_nil c.args.table.now kept c.args.card_words c.args.card c.args.object c.fields_in-start.result.0 c.fields.next
          c.in-Some.link.0 c.args.sets.now c.fields.sets same (λ i l h. found.nil i l (omega (arith, h, found.high)) h) p);
      last = c.scan_field-last.ensures.last;
      lie = c.fields.invariant.lie;
      low = omega (arith, low);
      high = omega (arith, found.high);
      spent = omega (arith, c.fields.invariant.spent, found.low, found.work, c.scan_field-last.ensures.work);
    }

pub returns-clause-scanned : goal.returns-clause-scanned
returns-clause-scanned c = λ kept same.
    let r = c.fields.invariant.lie in
    partly_last c.args.table.now kept c.args.card_words c.args.card c.args.object c.field_count-count.result
    c.fields_in-start.result.0 c.fields_in-start.result.1 c.fields_in-start.result.1 c.args.sets.now c.fields.sets same
    c.field_count-count.ensures r (omega arith)
    (partly_nil c.args.table.now kept c.args.card_words c.args.card c.args.object c.fields_in-start.result.0 c.fields.next
    c.fields_in-start.result.1 c.args.sets.now c.fields.sets same (λ i l h. c.in_default.ensures.nil i l h tt)
    (c.fields.invariant.partly kept same))

pub returns-clause-last : goal.returns-clause-last
returns-clause-last c = c.fields.invariant.last

pub returns-clause-work : goal.returns-clause-work
returns-clause-work c =
    let v = c.fields.invariant in
    omega (
      arith,
      v.spent,
      v.low,
      v.high,
      c.in_default.ensures.work,
      c.fields_in-start.ensures.start,
      c.fields_in-start.ensures.end,
      c.field_count-count.ensures,
    )
