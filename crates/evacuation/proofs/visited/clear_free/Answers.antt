use Rattle.std.proofs.Common.{◌≡◌, ◌≢◌, ◌∙◌, ◌+◌, ◌*◌, ◌/◌, ◌<◌, ℕ, length, refl, sym, ap, arith}
use Rattle.regions.specs.Table.{kind_of}
use Rattle.regions.specs.declared.row.Kind.TheVariants as kinds
use Rattle.evacuation.proofs.Loops.VisitedCards.{cleared, left, region_end}
use Rattle.evacuation.proofs.visited.clear_free.Goals as goal

pub loop-card-preserved-then-is_free : goal.loop-card-preserved-then-is_free
loop-card-preserved-then-is_free c =
    let w : ℕ = c.args.cards_per_region in
    let card : ℕ = c.in-Some.card in
    let i = c.loop-card.invariant in
    let low = c.in-Some.ensures.lowest in
    let inside : card < length c.args.table.now.regions * w = omega (arith, c.in-Some.ensures.within, i.len, c.requires.each) in
    let at = region_end card w (length c.args.table.now.regions) c.requires.some_cards inside in
    let whole : (c.quotient-region.result + 1) * w ≡ (card / w + 1) * w = ap (λ (n : ℕ). (n + 1) * w) c.quotient-region.ensures in
    let free : kind_of c.args.table.now (card / w) ≡ kinds.Free =
    ap (kind_of c.args.table.now) (sym (c.new.ensures ∙ c.quotient-region.ensures)) ∙ c.is_free.ensures.yes c.if-is_free.true in
    record {
      flags = cleared c.args.table.now c.args.visited.now c.loop-card.visited c.clear_range.new.self w c.loop-card.start card
          ((c.quotient-region.result + 1) * w) i.flags low.at_least low.lowest (omega (arith, whole, at.0)) whole free
          c.clear_range.ensures.flags;
      inside = omega (arith, whole, at.1, c.clear_range.ensures.len, i.len, c.requires.each);
      len = c.clear_range.ensures.len ∙ i.len;
    }

pub loop-card-preserved : goal.loop-card-preserved
loop-card-preserved c =
    let w : ℕ = c.args.cards_per_region in
    let card : ℕ = c.in-Some.card in
    let i = c.loop-card.invariant in
    let low = c.in-Some.ensures.lowest in
    let inside : card < length c.args.table.now.regions * w = omega (arith, c.in-Some.ensures.within, i.len, c.requires.each) in
    let at = region_end card w (length c.args.table.now.regions) c.requires.some_cards inside in
    let whole : (c.quotient-region.result + 1) * w ≡ (card / w + 1) * w = ap (λ (n : ℕ). (n + 1) * w) c.quotient-region.ensures in
    let used : kind_of c.args.table.now (card / w) ≢ kinds.Free =
    λ f. c.is_free.ensures.no c.if-is_free.false (ap (kind_of c.args.table.now) (c.new.ensures ∙ c.quotient-region.ensures) ∙ f) in
    record {
      flags = left c.args.table.now c.args.visited.now c.loop-card.visited c.loop-card.visited w c.loop-card.start card
          ((c.quotient-region.result + 1) * w) i.flags low.at_least low.lowest (omega (arith, whole, at.0)) whole used refl;
      inside = omega (arith, whole, at.1, i.len, c.requires.each);
      len = i.len;
    }
