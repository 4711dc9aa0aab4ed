use Rattle.std.proofs.Common.{◌≡◌, ◌∙◌, ◌*◌, ◌/◌, ℕ, ap, sym, subst, Option, IfSome, arith}
use Rattle.regions.specs.Shapes.{tile_shape}
use Rattle.regions.specs.Tiles.{Tile}
use Rattle.mark_bitmap.specs.Kept.{kept_in}
use Rattle.remembered_sets.specs.Sets.{may_lead}
use Rattle.regions.proofs.Words.Divides.{card_has_words}
use Rattle.refinement.proofs.Fields.{region_of_first}
use Rattle.refinement.proofs.Holders.{kept_object}
use Rattle.refinement.proofs.Scanned.{whole_over}
use Rattle.refinement.proofs.scan.scan_tiles.Goals as goal

pub scan_tile-requires-clause-home : goal.scan_tile-requires-clause-home
scan_tile-requires-clause-home c =
    let home : c.number-home.result ≡ c.args.card * c.args.card_words / c.args.table.now.words_per_region =
    c.number-home.ensures ∙ c.region_of.ensures ∙ ap (λ (n : ℕ). n / c.args.table.now.words_per_region)
    (c.new.ensures ∙ ap (λ (n : ℕ). n * c.args.card_words) c.number.ensures) in
    region_of_first c.args.table.now.words_per_region c.args.card_words
    c.args.sets.now.cards_per_region c.args.card c.law.ensures.positive c.requires.stands.fit.whole_cards ∙ sym home

pub returns-clause-covered : goal.returns-clause-covered
returns-clause-covered c =
    let z = card_has_words c.args.card_words c.args.table.now.words_per_region c.args.sets.now.cards_per_region
    c.law.ensures.positive c.requires.stands.fit.whole_cards in
    let h = c.requires.holder in
    let from : c.number.result * c.args.card_words ≡ c.args.card * c.args.card_words =
    ap (λ (n : ℕ). n * c.args.card_words) c.number.ensures in
    let shape_is : c.tile-shape.result ≡ tile_shape h.tile =
    subst (λ (o : Option Tile). IfSome o (λ t. c.tile-shape.result ≡ tile_shape t)) h.tile_is c.tile-shape.ensures in
    whole_over c.args.table.now c.law.ensures (kept_in c.args.table.now c.args.tams.now c.args.marks.now)
    (kept_object c.args.table.now c.args.tams.now c.args.marks.now)
    c.args.card_words c.args.card c.args.first (may_lead c.scan_tile.new.sets) c.tile-shape.result c.size.result z
    (record { tile = h.tile; tile_is = h.tile_is; shape_is = shape_is }) h.low c.scan_tile.ensures.covered c.size.ensures
    (omega (arith, from, c.word.ensures, c.if-word-size.false))

pub returns-clause-work : goal.returns-clause-work
returns-clause-work c = omega (arith, c.scan_tile.ensures.work)
