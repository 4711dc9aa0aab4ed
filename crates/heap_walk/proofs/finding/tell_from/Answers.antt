use Rattle.std.proofs.Common.{◌∙◌, ◌+◌, ℕ, ap, ap₂, sym, subst}
use Rattle.regions.specs.Table.{Table}
use Rattle.heap_walk.specs.Starts.{IsTileFrom, place_of}
use Rattle.heap_walk.specs.Walks.{FillsFrom}
use Rattle.heap_walk.specs.Holders.{holders_at, place_count}
use Rattle.heap_walk.proofs.Entries.{next_tile}
use Rattle.heap_walk.proofs.Placing.{from_address}
use Rattle.heap_walk.proofs.finding.tell_from.Goals as goal

pub tell_objects-all-requires-clause-tile : goal.tell_objects-all-requires-clause-tile
tell_objects-all-requires-clause-tile c =
    next_tile c.args.core.now c.args.at c.tile_from-tile.result
    (subst (λ (t : Table). IsTileFrom t c.args.at c.tile_from-tile.result) c.table.ensures
    (subst (λ (n : ℕ). IsTileFrom c.table.result.now n c.tile_from-tile.result) c.new.ensures c.tile_from-tile.ensures))

pub returns : goal.returns
returns c = λ from before same p.
    let core = c.args.core.now in
    let tile : IsTileFrom core.table c.args.at c.tile_from-tile.result =
    subst (λ (t : Table). IsTileFrom t c.args.at c.tile_from-tile.result) c.table.ensures
    (subst (λ (n : ℕ). IsTileFrom c.table.result.now n c.tile_from-tile.result) c.new.ensures c.tile_from-tile.ensures) in
    let place = ap₂ (λ (m n : ℕ). m + n) (c.from.ensures ∙ c.root_count.ensures.value)
    (c.from-2.ensures ∙ c.cursor_of.ensures ∙ ap (λ (t : Table). place_of t c.tell_objects-all.result.left) c.table-2.ensures) in
    subst (λ (n : ℕ). FillsFrom (holders_at core c.args.name) from n (place_count core) before c.tell_objects-all.new.out
    c.tell_objects-all.result.count) (sym place)
    (c.tell_objects-all.ensures from before same (from_address core c.args.name c.args.at c.tile_from-tile.result tile c.requires.at from
    before
    c.args.out.now c.args.told p))
