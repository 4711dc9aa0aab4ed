use Rattle.regions.proofs.Common.{◌≡◌, ◌∙◌, ap, sym, subst, arith, ◌+◌, ◌/◌, Object, tile_size, top_of, object_at, tile_in, IsNextTile}
use Rattle.regions.proofs.Words.ObjectWords.{some_object, words_of}
use Rattle.regions.proofs.Walks.WalkFrom.{tile_region}
use Rattle.regions.proofs.Tiles.Laws.{tile_of}
use Rattle.regions.proofs.Tiles.Steps.{next_is, last_is, some_tile}
use Rattle.regions.proofs.table.RegionTable.next_behind.Goals as goal

pub overflow_add-next : goal.overflow_add-next
overflow_add-next c =
    let o = some_object (object_at c.args.self.now c.args.object) c.requires.object in
    let e = tile_of c.args.self.now c.args.object o.0 o.1 in
    let within = c.law.ensures.within c.args.object (Object o.0) e in
    omega (arith, within, words_of c.args.self.now c.args.object o.0 o.1, c.object_size.ensures, c.word.ensures, c.law.ensures.in_all)

pub top-requires : goal.top-requires
top-requires c =
    let o = some_object (object_at c.args.self.now c.args.object) c.requires.object in
    let e = tile_of c.args.self.now c.args.object o.0 o.1 in
    let known = tile_region c.args.self.now c.args.object (some_tile (tile_in c.args.self.now c.args.object) (Object o.0) e) in
    omega (arith, known, c.region_of.ensures)

pub returns-then-next-word-clause-next : goal.returns-then-next-word-clause-next
returns-then-next-word-clause-next c =
    let o = some_object (object_at c.args.self.now c.args.object) c.requires.object in
    let e = tile_of c.args.self.now c.args.object o.0 o.1 in
    let next : c.word.result + c.object_size.result ≡ c.args.object + tile_size (Object o.0) =
    omega (arith, c.word.ensures, c.object_size.ensures, words_of c.args.self.now c.args.object o.0 o.1) in
    let top : c.word-2.result ≡ top_of c.args.self.now (c.args.object / c.args.self.now.words_per_region) =
    c.word-2.ensures ∙ c.top.ensures ∙ ap (top_of c.args.self.now) c.region_of.ensures in
    subst (IsNextTile c.args.self.now c.args.object) (sym (c.new.ensures ∙ next))
    (next_is c.args.self.now c.law.ensures c.args.object (Object o.0) e c.requires.ordinary
    (let h = c.if-next-word.true in omega (arith, next, top, h)))

pub returns-else-next-word-clause-last : goal.returns-else-next-word-clause-last
returns-else-next-word-clause-last c =
    let o = some_object (object_at c.args.self.now c.args.object) c.requires.object in
    let e = tile_of c.args.self.now c.args.object o.0 o.1 in
    let next : c.word.result + c.object_size.result ≡ c.args.object + tile_size (Object o.0) =
    omega (arith, c.word.ensures, c.object_size.ensures, words_of c.args.self.now c.args.object o.0 o.1) in
    let top : c.word-2.result ≡ top_of c.args.self.now (c.args.object / c.args.self.now.words_per_region) =
    c.word-2.ensures ∙ c.top.ensures ∙ ap (top_of c.args.self.now) c.region_of.ensures in
    last_is c.args.self.now c.law.ensures c.args.object (Object o.0) e c.requires.ordinary
    (let h = c.if-next-word.false in omega (arith, next, top, h))
