use Rattle.std.proofs.Common.{◌∙◌, ℕ, ap, sym, subst, arith}
use Rattle.regions.specs.Table.{Table}
use Rattle.heap_walk.specs.Starts.{IsTileFrom, place_of, word_count}
use Rattle.heap_walk.specs.Walks.{entries_at, FillsFrom}
use Rattle.heap_walk.proofs.Telling.{fills_lower, fills_nothing}
use Rattle.heap_walk.proofs.Showing.{entries_show}
use Rattle.heap_walk.proofs.Entries.{none_before, next_above}
use Rattle.heap_walk.proofs.objects.walk.Goals as goal

pub returns-then-cursor-from-clause-shows : goal.returns-then-cursor-from-clause-shows
returns-then-cursor-from-clause-shows c =
    λ s stands. entries_show s c.args.core.now c.law_shaped.ensures stands (c.law_whole.ensures s stands)

pub returns-then-cursor-from-clause-tells : goal.returns-then-cursor-from-clause-tells
returns-then-cursor-from-clause-tells c =
    let end = c.word_count.ensures.value ∙ ap word_count c.table-table.ensures in
    fills_nothing (entries_at c.args.core.now) c.args.cursor.now _ _ (omega (arith, end, c.from.ensures, c.if-cursor-from.true))

pub returns-clause-shows : goal.returns-clause-shows
returns-clause-shows c = λ s stands. entries_show s c.args.core.now c.law_shaped.ensures stands (c.law_whole.ensures s stands)

pub returns-clause-tells : goal.returns-clause-tells
returns-clause-tells c =
    let core = c.args.core.now in
    let end = c.word_count.ensures.value ∙ ap word_count c.table-table.ensures in
    let tile : IsTileFrom core.table c.args.cursor.now c.tile_from.result =
    subst (λ (t : Table). IsTileFrom t c.args.cursor.now c.tile_from.result) c.table-table.ensures
    (subst (λ (n : ℕ). IsTileFrom c.table-table.result.now n c.tile_from.result) c.new.ensures c.tile_from.ensures) in
    let left = c.from-2.ensures ∙ c.cursor_of.ensures ∙ ap (λ (t : Table). place_of t c.tell_from-told.result.left) c.table-table.ensures in
    subst (λ (n : ℕ). FillsFrom (entries_at core) c.args.cursor.now n (word_count core.table) c.args.out.now c.tell_from-told.new.out
    c.tell_from-told.result.count) (sym left)
    (fills_lower (entries_at core) c.args.cursor.now (place_of core.table c.tile_from.result) _ _ _ _ _
    (next_above core _ _ (omega (arith, end, c.from.ensures, c.if-cursor-from.false)) tile) (none_before core _ _ tile)
    c.tell_from-told.ensures)
