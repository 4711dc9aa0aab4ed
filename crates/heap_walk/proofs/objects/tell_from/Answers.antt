use Rattle.std.proofs.Common.{◌+◌, sym, subst, arith, IsSome}
use Rattle.regions.specs.Table.{Table, tile_in}
use Rattle.heap_walk.specs.Starts.{IsTileFrom, place_of, word_count}
use Rattle.heap_walk.specs.Walks.{entries_at}
use Rattle.heap_walk.proofs.Keeping.{kept_tile}
use Rattle.heap_walk.proofs.Telling.{telling_first, telling_past, telling_one, telling_over}
use Rattle.heap_walk.proofs.TileStarts.{tile_below}
use Rattle.heap_walk.proofs.Entries.{none_until, found_above, found_kept, none_behind, none_before, next_above, next_tile, place_below}
use Rattle.heap_walk.proofs.objects.tell_from.Goals as goal

pub loop-count-init : goal.loop-count-init
loop-count-init c = record { telling = telling_first (entries_at c.args.core.now) _ _; tile = c.requires }

pub tile_above-left-requires : goal.tile_above-left-requires
tile_above-left-requires c =
    subst (λ (t : Table). IsSome (tile_in t c.in-Some.object)) (sym c.table.ensures)
    (kept_tile c.args.core.now c.in-Some.object (found_kept c.args.core.now _ c.in-Some.object _ c.in-Some.is c.kept_from.ensures))

pub loop-count-preserved : goal.loop-count-preserved
loop-count-preserved c =
    let core = c.args.core.now in
    let object = c.in-Some.object in
    let next = c.tile_above-left.result in
    let kept = c.kept_from.ensures in
    let above : IsTileFrom core.table (object + 1) next =
    subst (λ (t : Table). IsTileFrom t (object + 1) next) c.table.ensures c.tile_above-left.ensures in
    let here = telling_past (entries_at core) _ _ object _ _ _ c.loop-count.invariant.telling (found_above core _ object _ c.in-Some.is
    kept)
    (none_until core _ object _ c.in-Some.is kept) in
    let one = telling_one (entries_at core) _ object _ _ _ c.entry_of.result here c.entry_of.ensures c.loop-count-test.true in
    let below = tile_below core.table object c.law_shaped.ensures (kept_tile core object (found_kept core _ object _ c.in-Some.is kept)) in
    record {
      telling = telling_past (entries_at core) _ _ (place_of core.table next) _ _ _ one (next_above core _ next (omega arith) above)
          (none_before core _ next above);
      tile = next_tile core _ next above;
    }

pub returns-in_default : goal.returns-in_default
returns-in_default c =
    let core = c.args.core.now in
    telling_over (entries_at core) _ _ (word_count core.table) _ _ _
    (telling_past (entries_at core) _ _ (word_count core.table) _ _ _ c.loop-count.invariant.telling
    (place_below core c.loop-count.left c.law_shaped.ensures c.loop-count.invariant.tile)
    (none_behind core _ _ c.in_default.is c.kept_from.ensures)) (omega arith) (omega arith)
