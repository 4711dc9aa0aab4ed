use Rattle.std.proofs.Common.{◌∙◌, ◌+◌, ◌-◌, ◌*◌, ◌/◌, ℕ, ap, refl, sym, subst, ⊎_elim, arith}
use Rattle.regions.specs.Walks.{IsPlacedTile}
use Rattle.regions.specs.declared.row.Shape.{Shape}
use Rattle.mark_bitmap.specs.Kept.{kept_in}
use Rattle.remembered_sets.specs.Sets.{may_lead}
use Rattle.regions.proofs.Words.Divides.{card_has_words}
use Rattle.refinement.proofs.Entered.{adds_none}
use Rattle.refinement.proofs.Fields.{card_end, covered_near, fields_in_card, region_of_card}
use Rattle.refinement.proofs.Holders.{kept_object, no_kept, object_small, shape_object, shape_filler, shape_forwarded}
use Rattle.refinement.proofs.Scanned.{covered_dead}
use Rattle.refinement.proofs.scan.scan_small.Goals as goal

pub field_count-requires : goal.field_count-requires
field_count-requires c =
    shape_object c.args.table.now c.args.at _ _ _
    (subst (λ (s : Shape). IsPlacedTile c.args.table.now c.args.at s) c.in-Object.is c.requires.tile)

pub fields_in-start-requires-clause-object : goal.fields_in-start-requires-clause-object
fields_in-start-requires-clause-object c =
    let there = shape_object c.args.table.now c.args.at _ _ _
    (subst (λ (s : Shape). IsPlacedTile c.args.table.now c.args.at s) c.in-Object.is c.requires.tile) in
    let s = object_small c.args.table.now c.args.at c.law.ensures there in
    omega (arith, s, c.law.ensures.in_all)

pub fields_in-start-requires-clause-card : goal.fields_in-start-requires-clause-card
fields_in-start-requires-clause-card c =
    let e = card_end c.args.table.now c.args.card_words c.args.card c.args.sets.now c.requires.stands.fit c.requires.card in
    omega (arith, e, c.law.ensures.in_all)

pub scan_apart-requires-clause-tile : goal.scan_apart-requires-clause-tile
scan_apart-requires-clause-tile c = rw c.requires.tile.tile_is refl

pub returns-else-leads_elsewhere-clause-covered : goal.returns-else-leads_elsewhere-clause-covered
returns-else-leads_elsewhere-clause-covered c =
    let t = c.args.table.now in
    let fit = c.requires.stands.fit in
    let z = card_has_words c.args.card_words t.words_per_region c.args.sets.now.cards_per_region c.law.ensures.positive fit.whole_cards in
    let lie = fields_in_card c.args.card_words c.args.card c.args.at c.field_count.result c.args.at c.args.card c.fields_in-start.result.0
    (c.args.card * c.args.card_words + c.args.card_words - (c.args.at + 2)) c.fields_in-start.result.1 z refl refl
    c.fields_in-start.ensures.start refl c.fields_in-start.ensures.end in
    covered_near t (kept_in t c.args.tams.now c.args.marks.now) c.args.card_words c.args.card c.args.at c.field_count.result
    c.fields_in-start.result.0 c.fields_in-start.result.1 c.args.home c.args.before (may_lead c.args.sets.now)
    (kept_object t c.args.tams.now c.args.marks.now) lie c.field_count.ensures
    (c.leads_elsewhere.ensures.near c.if-leads_elsewhere.false)
    (λ w e. sym (region_of_card t.words_per_region c.args.card_words c.args.sets.now.cards_per_region w c.law.ensures.positive
    fit.whole_cards) ∙ ap (λ (n : ℕ). n / c.args.sets.now.cards_per_region) e ∙ c.requires.home)
    c.requires.last

pub returns-in-Filler : goal.returns-in-Filler
returns-in-Filler c =
    let t = c.args.table.now in
    let kept = kept_in t c.args.tams.now c.args.marks.now in
    let none = ⊎_elim
    (λ p. shape_filler t c.args.at p.0 (subst (λ (s : Shape). IsPlacedTile t c.args.at s) p.1 c.requires.tile))
    (λ p. shape_forwarded t c.args.at p.0 p.1 (subst (λ (s : Shape). IsPlacedTile t c.args.at s) p.2 c.requires.tile))
    c.in-Filler.is in
    record {
      adds = adds_none t.words_per_region kept c.args.card_words c.args.card c.args.sets.now;
      covered = covered_dead t.words_per_region kept c.args.card_words c.args.card c.args.at (may_lead c.args.sets.now)
          (no_kept t c.args.tams.now c.args.marks.now c.args.at none);
      last = c.requires.last;
      work = omega arith;
    }

pub returns-then-leads_elsewhere-clause-work : goal.returns-then-leads_elsewhere-clause-work
returns-then-leads_elsewhere-clause-work c =
    omega (
      arith,
      c.leads_elsewhere.ensures.work,
      c.scan_apart.ensures.work,
      c.fields_in-start.ensures.start,
      c.fields_in-start.ensures.end,
      c.field_count.ensures,
    )

pub returns-else-leads_elsewhere-clause-work : goal.returns-else-leads_elsewhere-clause-work
returns-else-leads_elsewhere-clause-work c =
    omega (arith, c.leads_elsewhere.ensures.work, c.fields_in-start.ensures.start, c.fields_in-start.ensures.end, c.field_count.ensures)
