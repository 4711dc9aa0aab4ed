use Rattle.regions.proofs.Common.{arith, ◌≡◌, ℕ, sym, ap, ◌∙◌, refl, List, Option, length, Row, start_added, Object, tile_size}
use Rattle.regions.proofs.Common.{object_words, AreBare, Table, subst}
use Rattle.regions.proofs.Tiles.Making.{known, known_top, top_at, row_read}
use Rattle.regions.proofs.Words.ObjectWords.{object_there}
use Rattle.regions.proofs.Words.Copies.{copy_pushed}
use Rattle.regions.proofs.Rows.UsedBelow.{used_set}
use Rattle.regions.proofs.Rows.Counting.{count_kept, row_used}
use Rattle.regions.proofs.Cards.Entries.{push_sound}
use Rattle.regions.proofs.Words.FieldAccess.{weaks_are}
use Rattle.regions.proofs.Tiles.Within.{object_within}
use Rattle.regions.proofs.Tiles.Apart.{object_apart}
use Rattle.regions.proofs.Tiles.ShapedMade.{shaped_of}
use Rattle.regions.proofs.table.RegionTable.copy_object.Goals as goal

pub overflow_add-end : goal.overflow_add-end
overflow_add-end c =
    let (n, t) = known_top _ _ _ _ _ c.self.invariant.table c.self.view_is c.requires.known c.requires.ordinary in
    let at = top_at _ _ _ _ _ _ n c.top-to.ensures in
    omega (arith, at, t.room, n.size_is, c.requires.room, c.object_size-size.ensures, c.word.ensures, c.self.invariant.table.small)

pub zero_below-requires : goal.zero_below-requires
zero_below-requires c =
    let (n, t) = known_top _ _ _ _ _ c.self.invariant.table c.self.view_is c.requires.known c.requires.ordinary in
    let at = top_at _ _ _ _ _ _ n c.top-to.ensures in
    omega (arith, at, t.room, n.size_is, c.requires.room, c.object_size-size.ensures, c.word.ensures)

pub copy_apart-requires-clause-source : goal.copy_apart-requires-clause-source
copy_apart-requires-clause-source c =
    let o = object_there _ _ _ _ _ c.self.invariant.table c.self.view_is c.requires.object in
    let stands = object_within _ _ _ _ _ c.self.invariant.written c.self.view_is o.1.is in
    omega (arith, stands, o.1.words_are, c.object_size-size.ensures, c.zero_below.ensures.written)

pub copy_apart-requires-clause-target : goal.copy_apart-requires-clause-target
copy_apart-requires-clause-target c = omega (arith, c.word.ensures, c.zero_below.ensures.written)

pub copy_apart-requires-clause-apart : goal.copy_apart-requires-clause-apart
copy_apart-requires-clause-apart c =
    let o = object_there _ _ _ _ _ c.self.invariant.table c.self.view_is c.requires.object in
    let shaped = shaped_of _ _ _ _ c.self.invariant.table c.self.view_is in
    let long : c.object_size-size.result ≡ tile_size (Object o.0) = c.object_size-size.ensures ∙ o.1.words_are in
    object_apart c.args.self.now shaped c.args.region c.args.from c.object_size-size.result c.top-to.result o.0 c.requires.ordinary
    long (omega (arith, c.requires.room, c.object_size-size.ensures)) c.top-to.ensures o.1.is

pub index-requires : goal.index-requires
index-requires c =
    let n = known _ _ _ _ _ c.self.view_is c.requires.known in
    omega (arith, n.in_rows, c.number-number.ensures)

pub overflow_add-used : goal.overflow_add-used
overflow_add-used c =
    let (n, t) = known_top _ _ _ _ _ c.self.invariant.table c.self.view_is c.requires.known c.requires.ordinary in
    let read = row_read _ _ _ _ _ _ _ n c.number-number.ensures c.index.ensures in
    rw read (omega (arith, t.used_is, n.size_is, c.requires.room, c.object_size-size.ensures, c.self.invariant.table.region_size.1))

pub index_mut-requires : goal.index_mut-requires
index_mut-requires c =
    let n = known _ _ _ _ _ c.self.view_is c.requires.known in
    omega (arith, n.in_rows, c.number-number.ensures)

pub put_tile-requires : goal.put_tile-requires
put_tile-requires c =
    let (n, t) = known_top _ _ _ _ _ c.self.invariant.table c.self.view_is c.requires.known c.requires.ordinary in
    let at = top_at _ _ _ _ _ _ n c.top-to.ensures in
    let small = c.self.invariant.table.small in
    let cards = c.self.invariant.each_card in
    record {
      within = omega (arith, at, t.room, n.size_is, c.requires.room, c.object_size-size.ensures, c.word-2.ensures, cards);
      small = omega (arith, at, t.room, n.size_is, c.requires.room, c.object_size-size.ensures, c.word-2.ensures, small);
    }

pub invariant_of-self : goal.invariant_of-self
invariant_of-self c =
    let n = known _ _ _ _ _ c.self.view_is c.requires.known in
    let o = object_there _ _ _ _ _ c.self.invariant.table c.self.view_is c.requires.object in
    let read = row_read _ _ _ _ _ _ _ n c.number-number.ensures c.index.ensures in
    let w = copy_pushed _ _ _ _ _ c.args.from _ _ _ _ o.0 _ c.self.invariant.table c.self.view_is c.requires.known
    c.requires.ordinary o.1.is c.requires.room c.top-to.ensures (ap (λ (row : Row). row.used) read) c.object_size-size.ensures
    c.number-number.ensures (rw c.zero_below.ensures.all at c.copy_apart.ensures.all) in
    let long : object_words c.args.self.now c.args.from ≡ tile_size (Object o.0) = o.1.words_are in
    let slots : c.weak_count-weaks.result ≡ length o.0.weaks =
    c.weak_count-weaks.ensures ∙ ap (λ (l : List (Option ℕ)). length l) (weaks_are c.args.self.now c.args.from o.0 o.1.is) in
    let flags = c.add.ensures
    ∙ ap (λ (k : ℕ). start_added c.self.inside.weak_starts k c.weak_count-weaks.result) (c.word-3.ensures ∙ sym c.word-2.ensures)
    ∙ ap (λ (n : ℕ). start_added c.self.inside.weak_starts c.word-2.result n) slots in
    push_sound _ _ _ _ _ _ _ _ _ c.self.invariant c.self.view_is _ _ _ _ _ _ c.args.region c.word-2.result c.object_size-size.result
    (length o.0.weaks) (Object o.0) c.requires.known c.requires.ordinary (omega (arith, o.1.large, long)) (rw long at c.requires.room) tt
    (c.word-2.ensures ∙ c.top-to.ensures) (c.object_size-size.ensures ∙ long) c.put_tile.ensures refl flags
    (λ off. subst (λ (u : Table). AreBare u) c.self.view_is (c.self.invariant.bare off) c.args.from o.0 o.1.is)
    (used_set _ _ _ _ (omega (arith, n.in_rows, c.number-number.ensures)) refl c.self.invariant.used_below)
    (count_kept c.self.inside.rows.items c.number-number.result _ _ (omega (arith, n.in_rows, c.number-number.ensures))
    (rw c.number-number.ensures (row_used _ _ _ _ _ n c.requires.ordinary)) refl c.self.invariant.free_is)
    (omega (arith, c.zero_below.ensures.written, c.copy_apart.ensures.written))
    (omega (arith, c.word-2.ensures, c.word.ensures, c.zero_below.ensures.written, c.copy_apart.ensures.written)) w

pub returns-clause-pushed : goal.returns-clause-pushed
returns-clause-pushed c s is =
    let n = known _ _ _ _ _ c.self.view_is c.requires.known in
    let read = row_read _ _ _ _ _ _ _ n c.number-number.ensures c.index.ensures in
    (copy_pushed _ _ _ _ _ c.args.from _ _ _ _ s _ c.self.invariant.table c.self.view_is c.requires.known
    c.requires.ordinary is c.requires.room c.top-to.ensures (ap (λ (row : Row). row.used) read)
    c.object_size-size.ensures c.number-number.ensures (rw c.zero_below.ensures.all at c.copy_apart.ensures.all)).table_is

pub add-requires : goal.add-requires
add-requires c =
    let (n, t) = known_top _ _ _ _ _ c.self.invariant.table c.self.view_is c.requires.known c.requires.ordinary in
    let o = object_there _ _ _ _ _ c.self.invariant.table c.self.view_is c.requires.object in
    let at = top_at _ _ _ _ _ _ n c.top-to.ensures in
    let count = c.self.invariant.weak_count in
    omega (arith, at, t.room, n.size_is, c.requires.room, o.1.large, o.1.words_are, c.word-3.ensures, count)
