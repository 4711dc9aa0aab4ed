use Rattle.std.proofs.Common.{◌+◌, ◌≡◌, true, subst}
use Rattle.regions.specs.Table.{Table}
use Rattle.heap_walk.specs.Starts.{IsTileFrom}
use Rattle.heap_walk.proofs.Keeping.{search_first, search_tile, search_found, search_next, search_less, search_over}
use Rattle.heap_walk.proofs.kept.kept_from.Goals as goal

pub loop-left-init : goal.loop-left-init
loop-left-init c = search_first c.args.core.now c.args.tile c.requires

pub is_kept-requires : goal.is_kept-requires
is_kept-requires c =
    search_tile c.args.core.now _ c.in-Some.at c.loop-left.left c.law_shaped.ensures c.in-Some.is c.loop-left.invariant

pub returns-then-is_kept : goal.returns-then-is_kept
returns-then-is_kept c =
    search_found c.args.core.now _ c.in-Some.at c.loop-left.left c.law_shaped.ensures c.in-Some.is c.loop-left.invariant
    (c.is_kept.ensures.0 c.if-is_kept.true)

pub loop-left-smaller : goal.loop-left-smaller
loop-left-smaller c =
    search_less c.args.core.now _ c.in-Some.at c.loop-left.left c.law_shaped.ensures c.in-Some.is c.loop-left.invariant
    c.tile_above-left.result
    (subst (λ (t : Table). IsTileFrom t (c.in-Some.at + 1) c.tile_above-left.result) c.table.ensures c.tile_above-left.ensures)

pub loop-left-preserved : goal.loop-left-preserved
loop-left-preserved c =
    search_next c.args.core.now _ c.in-Some.at c.loop-left.left c.law_shaped.ensures c.in-Some.is c.loop-left.invariant
    c.tile_above-left.result
    (λ some. let yes : c.is_kept.result ≡ true = c.is_kept.ensures.1 some in let no = c.if-is_kept.false in absurd {A = ⊥} (cc))
    (subst (λ (t : Table). IsTileFrom t (c.in-Some.at + 1) c.tile_above-left.result) c.table.ensures c.tile_above-left.ensures)

pub returns : goal.returns
returns c = search_over c.args.core.now _ c.loop-left.left c.law_shaped.ensures c.in_default.is c.loop-left.invariant
