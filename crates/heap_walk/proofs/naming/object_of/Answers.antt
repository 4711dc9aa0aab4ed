use Rattle.std.proofs.Common.{◌∙◌, ◌+◌, ◌≡◌, ℕ, Some, ap, sym, subst, IsSome}
use Rattle.regions.specs.Table.{Table, tile_in}
use Rattle.heap_walk.specs.Starts.{IsTileFrom}
use Rattle.heap_walk.proofs.Keeping.{kept_tile}
use Rattle.heap_walk.proofs.Entries.{found_kept, kept_there, next_tile}
use Rattle.heap_walk.proofs.Placing.{found_less}
use Rattle.heap_walk.proofs.ObjectNames.{kept_named, none_first, none_left, none_next}
use Rattle.heap_walk.proofs.naming.object_of.Goals as goal

pub loop-object-init : goal.loop-object-init
loop-object-init c =
    let first : IsTileFrom c.args.core.now.table 0 c.tile_from-left.result =
    subst (λ (t : Table). IsTileFrom t 0 c.tile_from-left.result) c.table-table.ensures
    (subst (λ (n : ℕ). IsTileFrom c.table-table.result.now n c.tile_from-left.result) c.new.ensures c.tile_from-left.ensures) in
    record {
      none = none_first c.args.core.now c.args.name c.tile_from-left.result first;
      tile = next_tile c.args.core.now 0 c.tile_from-left.result first;
    }

pub name-requires : goal.name-requires
name-requires c =
    kept_there c.args.core.now c.table-table.result.now c.in-Some.object c.table-table.ensures
    (found_kept c.args.core.now _ c.in-Some.object _ c.in-Some.is c.kept_from.ensures)

pub returns-then-name : goal.returns-then-name
returns-then-name c =
    kept_named c.args.core.now c.table-table.result.now c.in-Some.object c.name.result c.table-table.ensures
    (found_kept c.args.core.now _ c.in-Some.object _ c.in-Some.is c.kept_from.ensures) c.name.ensures
    ∙ ap (λ (n : ℕ). Some n) c.if-name.true

pub tile_above-left-requires : goal.tile_above-left-requires
tile_above-left-requires c =
    subst (λ (t : Table). IsSome (tile_in t c.in-Some.object)) (sym c.table-table.ensures)
    (kept_tile c.args.core.now c.in-Some.object (found_kept c.args.core.now _ c.in-Some.object _ c.in-Some.is c.kept_from.ensures))

pub loop-object-smaller : goal.loop-object-smaller
loop-object-smaller c =
    found_less c.args.core.now c.args.name c.law_shaped.ensures c.loop-object.left c.kept_from.result c.in-Some.object c.in-Some.is
    c.kept_from.ensures c.tile_above-left.result
    (subst (λ (t : Table). IsTileFrom t (c.in-Some.object + 1) c.tile_above-left.result) c.table-table.ensures c.tile_above-left.ensures)

pub loop-object-preserved : goal.loop-object-preserved
loop-object-preserved c =
    let core = c.args.core.now in
    let at = c.in-Some.object in
    let next : IsTileFrom core.table (at + 1) c.tile_above-left.result =
    subst (λ (t : Table). IsTileFrom t (at + 1) c.tile_above-left.result) c.table-table.ensures c.tile_above-left.ensures in
    let named = kept_named core c.table-table.result.now at c.name.result c.table-table.ensures
    (found_kept core _ at _ c.in-Some.is c.kept_from.ensures) c.name.ensures in
    record {
      none = none_next core c.args.name c.loop-object.left c.kept_from.result at c.in-Some.is c.kept_from.ensures
          c.tile_above-left.result next
          (λ e. let some : Some c.name.result ≡ Some c.args.name = sym named ∙ e in
          let same : c.name.result ≡ c.args.name = cc in c.if-name.false same)
          c.loop-object.invariant.none;
      tile = next_tile core (at + 1) c.tile_above-left.result next;
    }

pub returns : goal.returns
returns c =
    none_left c.args.core.now c.args.name c.loop-object.left c.kept_from.result c.in_default.is c.kept_from.ensures
    c.loop-object.invariant.none
