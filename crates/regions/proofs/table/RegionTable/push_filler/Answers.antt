use Rattle.regions.proofs.Common.{arith, ◌<◌, ap, ◌∙◌, refl, Row, Filler}
use Rattle.regions.proofs.Tiles.Making.{known, known_top, top_at, row_read}
use Rattle.regions.proofs.Tiles.Fillers.{filler_added}
use Rattle.regions.proofs.Rows.UsedBelow.{used_set}
use Rattle.regions.proofs.Rows.Counting.{count_kept, row_used}
use Rattle.regions.proofs.Cards.Entries.{push_sound}
use Rattle.regions.proofs.table.RegionTable.push_filler.Goals as goal

pub overflow_add-end : goal.overflow_add-end
overflow_add-end c =
    let (n, t) = known_top _ _ _ _ _ c.self.invariant.table c.self.view_is c.requires.known c.requires.ordinary in
    let at = top_at _ _ _ _ _ _ n c.top-at.ensures in
    omega (arith, at, t.room, n.size_is, c.requires.room, c.get-more.ensures.value, c.word.ensures, c.self.invariant.table.small)

pub zero_below-requires : goal.zero_below-requires
zero_below-requires c =
    let (n, t) = known_top _ _ _ _ _ c.self.invariant.table c.self.view_is c.requires.known c.requires.ordinary in
    let at = top_at _ _ _ _ _ _ n c.top-at.ensures in
    omega (arith, at, t.room, n.size_is, c.requires.room, c.get-more.ensures.value, c.word.ensures)

pub write_filler-requires : goal.write_filler-requires
write_filler-requires c = omega (arith, c.word.ensures, c.get-more.ensures.positive, c.zero_below.ensures.written)

pub index-requires : goal.index-requires
index-requires c =
    let n = known _ _ _ _ _ c.self.view_is c.requires.known in
    omega (arith, n.in_rows, c.number-number.ensures)

pub overflow_add-used : goal.overflow_add-used
overflow_add-used c =
    let (n, t) = known_top _ _ _ _ _ c.self.invariant.table c.self.view_is c.requires.known c.requires.ordinary in
    let read = row_read _ _ _ _ _ _ _ n c.number-number.ensures c.index.ensures in
    rw read (omega (arith, t.used_le, c.self.invariant.table.region_size.1, c.get-more.ensures.small))

pub index_mut-requires : goal.index_mut-requires
index_mut-requires c =
    let n = known _ _ _ _ _ c.self.view_is c.requires.known in
    omega (arith, n.in_rows, c.number-number.ensures)

pub put_tile-requires : goal.put_tile-requires
put_tile-requires c =
    let (n, t) = known_top _ _ _ _ _ c.self.invariant.table c.self.view_is c.requires.known c.requires.ordinary in
    let at = top_at _ _ _ _ _ _ n c.top-at.ensures in
    let small = c.self.invariant.table.small in
    let cards = c.self.invariant.each_card in
    record {
      within = omega (arith, at, t.room, n.size_is, c.requires.room, c.get-more.ensures.value, c.word-2.ensures, cards);
      small = omega (arith, at, t.room, n.size_is, c.requires.room, c.get-more.ensures.value, c.word-2.ensures, small);
    }

pub invariant_of-self : goal.invariant_of-self
invariant_of-self c =
    let n = known _ _ _ _ _ c.self.view_is c.requires.known in
    let read = row_read _ _ _ _ _ _ _ n c.number-number.ensures c.index.ensures in
    let w = filler_added _ _ _ _ _ c.args.size _ _ _ _ _ c.self.invariant.table c.self.view_is c.requires.known c.requires.ordinary
    c.requires.room (omega (arith, c.get-more.ensures.value, c.get-more.ensures.positive)) c.top-at.ensures
    (ap (λ (row : Row). row.used) read) c.get-more.ensures.value c.number-number.ensures
    (rw c.zero_below.ensures.all at c.write_filler.ensures.all) in
    let some : 0 < c.args.size = omega (arith, c.get-more.ensures.value, c.get-more.ensures.positive) in
    push_sound _ _ _ _ _ _ _ _ _ c.self.invariant c.self.view_is _ _ _ _ _ _ c.args.region c.word-2.result c.args.size 0
    (Filler c.args.size) c.requires.known c.requires.ordinary some c.requires.room tt (c.word-2.ensures ∙ c.top-at.ensures) refl
    (rw c.get-more.ensures.value at c.put_tile.ensures) refl refl (λ _. refl)
    (used_set _ _ _ _ (omega (arith, n.in_rows, c.number-number.ensures)) refl c.self.invariant.used_below)
    (count_kept c.self.inside.rows.items c.number-number.result _ _ (omega (arith, n.in_rows, c.number-number.ensures))
    (rw c.number-number.ensures (row_used _ _ _ _ _ n c.requires.ordinary)) refl c.self.invariant.free_is)
    (omega (arith, c.zero_below.ensures.written, c.write_filler.ensures.written))
    (omega (
      arith,
      c.word-2.ensures,
      c.word.ensures,
      c.get-more.ensures.value,
      c.zero_below.ensures.written,
      c.write_filler.ensures.written,
    )) w

pub returns-clause-pushed : goal.returns-clause-pushed
returns-clause-pushed c =
    let n = known _ _ _ _ _ c.self.view_is c.requires.known in
    let read = row_read _ _ _ _ _ _ _ n c.number-number.ensures c.index.ensures in
    (filler_added _ _ _ _ _ c.args.size _ _ _ _ _ c.self.invariant.table c.self.view_is c.requires.known c.requires.ordinary c.requires.room
    (omega (arith, c.get-more.ensures.value, c.get-more.ensures.positive)) c.top-at.ensures (ap (λ (row : Row). row.used) read)
    c.get-more.ensures.value c.number-number.ensures (rw c.zero_below.ensures.all at c.write_filler.ensures.all)).table_is
