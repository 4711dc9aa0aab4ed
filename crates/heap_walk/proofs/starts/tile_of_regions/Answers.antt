use Rattle.std.proofs.Common.{◌*◌, ℕ, subst, arith}
use Rattle.std.proofs.Math.Nat.{mul-le-mul_right}
use Rattle.regions.specs.Walks.{IsLowestTile}
use Rattle.heap_walk.proofs.TileStarts.{none_yet, none_in, none_more, none_past, lowest_found}
use Rattle.heap_walk.proofs.starts.tile_of_regions.Goals as goal

pub loop-number-init : goal.loop-number-init
loop-number-init c = none_yet _ _

pub returns-in-Some : goal.returns-in-Some
returns-in-Some c =
    lowest_found c.args.table.now (c.args.from * c.args.table.now.words_per_region) c.loop-number.number c.in-Some.at _ c.law.ensures
    c.in-Some.is
    (subst (λ (k : ℕ). IsLowestTile c.args.table.now k c.lowest_tile.result) c.new.ensures c.lowest_tile.ensures)
    (mul-le-mul_right c.args.table.now.words_per_region c.loop-number.auto.number)
    c.loop-number.invariant

pub loop-number-preserved : goal.loop-number-preserved
loop-number-preserved c =
    none_more c.args.table.now _ (c.loop-number.number * c.args.table.now.words_per_region) _ c.loop-number.invariant
    (none_in c.args.table.now c.loop-number.number _ c.in_default.is
    (subst (λ (k : ℕ). IsLowestTile c.args.table.now k c.lowest_tile.result) c.new.ensures c.lowest_tile.ensures))

pub returns : goal.returns
returns c = none_past c.args.table.now _ c.loop-number.number c.law.ensures (omega (arith, c.region_count-number-end.ensures))
    c.loop-number.invariant
