use Rattle.std.proofs.Common.{◌∙◌, ◌<◌, ℕ, ap, length, refl, arith, subst}
use Rattle.std.proofs.lemmas.Option.{slice_get_read}
use Rattle.regions.specs.Table.{Table}
use Rattle.heap_life.specs.RegionTexts.{region_text}
use Rattle.heap_life.specs.Tolds.{TellsRegion}
use Rattle.heap_life.proofs.Tellings.{all_told, none_told, told_more}
use Rattle.heap_life.proofs.moment_text.tell_regions.Goals as goal

pub loop-number-init : goal.loop-number-init
loop-number-init c = none_told _ _ _

pub loop-number-preserved : goal.loop-number-preserved
loop-number-preserved c =
    let count = c.region_count-count.ensures ∙ ap (λ (t : Table). length t.regions) c.table.ensures in
    let lt : c.loop-number.number < length c.loop-number.last.items = (let size = c.loop-number.invariant.size in
    omega (arith, count, size)) in
    told_more (region_text c.args.tiles c.args.core.now) c.loop-number.number c.args.last.now.items c.loop-number.last.items c.args.text.now
    c.loop-number.text c.tell_region.new.text c.index_mut.result.now c.tell_region.new.last c.loop-number.invariant lt
    (slice_get_read c.loop-number.last.items (length c.loop-number.last.items) c.loop-number.number c.index_mut.result.now refl lt
    c.index_mut.ensures.value)
    (subst (λ (k : ℕ). TellsRegion (region_text c.args.tiles c.args.core.now k) c.index_mut.result.now c.tell_region.new.last
    c.loop-number.text c.tell_region.new.text) c.new-region.ensures c.tell_region.ensures)

pub returns-clause-told : goal.returns-clause-told
returns-clause-told c =
    let count = c.region_count-count.ensures ∙ ap (λ (t : Table). length t.regions) c.table.ensures in
    all_told (region_text c.args.tiles c.args.core.now) c.loop-number.number (length c.args.core.now.table.regions) c.args.last.now.items
    c.loop-number.last.items c.args.text.now c.loop-number.text c.loop-number.invariant (omega (arith, count)) c.requires
