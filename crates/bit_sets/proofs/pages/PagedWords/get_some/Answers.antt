use Rattle.std.proofs.Common.{◌∙◌, arith}
use Rattle.std.proofs.lemmas.List.{get_or_read}
use Rattle.bit_sets.proofs.PageWords.{page_known, place_high, word_at, taken_where_some}
use Rattle.bit_sets.proofs.pages.PagedWords.get_some.Goals as goal

pub index-place-requires : goal.index-place-requires
index-place-requires c =
    omega (arith, page_known _ _ _ _ c.args.group c.self.invariant.0 c.self.view_is c.requires.known, c.self.inside.places.ok.0)

pub index_in-requires : goal.index_in-requires
index_in-requires c =
    let page = page_known _ _ _ _ c.args.group c.self.invariant.0 c.self.view_is c.requires.known in
    let place = get_or_read c.self.inside.places.items _ _ page c.index-place.ensures 0 in
    let there = taken_where_some _ _ c.self.inside.pool.items _ c.args.group c.self.view_is c.requires.known c.requires.some in
    omega (arith, place, place_high c.self.inside.places.items c.self.inside.pool.items _ c.args.group c.self.invariant.0 there)

pub index-requires : goal.index-requires
index-requires c =
    let page = page_known _ _ _ _ c.args.group c.self.invariant.0 c.self.view_is c.requires.known in
    let place = get_or_read c.self.inside.places.items _ _ page c.index-place.ensures 0 in
    let there = taken_where_some _ _ c.self.inside.pool.items _ c.args.group c.self.view_is c.requires.known c.requires.some in
    let w = word_at _ _ c.self.inside.pool.items _ c.args.group c.index_in.result c.self.invariant.0 c.self.view_is c.requires.known
    there (omega (arith, place)) in
    omega (arith, w.inside, c.self.inside.pool.ok.0)

pub returns : goal.returns
returns c =
    let page = page_known _ _ _ _ c.args.group c.self.invariant.0 c.self.view_is c.requires.known in
    let place = get_or_read c.self.inside.places.items _ _ page c.index-place.ensures 0 in
    let there = taken_where_some _ _ c.self.inside.pool.items _ c.args.group c.self.view_is c.requires.known c.requires.some in
    let w = word_at _ _ c.self.inside.pool.items _ c.args.group c.index_in.result c.self.invariant.0 c.self.view_is c.requires.known
    there (omega (arith, place)) in
    get_or_read c.self.inside.pool.items _ _ w.inside c.index.ensures 0 ∙ w.read
