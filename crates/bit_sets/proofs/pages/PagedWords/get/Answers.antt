use Rattle.std.proofs.Common.{◌∙◌, arith, sym}
use Rattle.std.proofs.lemmas.List.{get_or_read}
use Rattle.bit_sets.proofs.PageWords.{group_known, page_known, word_read, word_none, place_high, word_at}
use Rattle.bit_sets.proofs.pages.PagedWords.get.Goals as goal

pub index-place-requires : goal.index-place-requires
index-place-requires c =
    omega (arith, page_known _ _ _ _ c.args.group c.self.invariant.0 c.self.view_is c.requires, c.self.inside.places.ok.0)

pub returns-then-place-eq0 : goal.returns-then-place-eq0
returns-then-place-eq0 c =
    let page = page_known _ _ _ _ c.args.group c.self.invariant.0 c.self.view_is c.requires in
    let place = get_or_read c.self.inside.places.items _ _ page c.index-place.ensures 0 in
    sym (word_read _ _ _ _ c.args.group c.self.view_is (group_known _ _ _ _ c.args.group c.self.view_is c.requires)
    ∙ word_none c.self.inside.places.items c.self.inside.pool.items c.args.group (omega (arith, place, c.if-place-eq0.true)))

pub index_in-requires : goal.index_in-requires
index_in-requires c =
    let page = page_known _ _ _ _ c.args.group c.self.invariant.0 c.self.view_is c.requires in
    let place = get_or_read c.self.inside.places.items _ _ page c.index-place.ensures 0 in
    omega (
      arith,
      place,
      place_high c.self.inside.places.items c.self.inside.pool.items _ c.args.group c.self.invariant.0
          (omega (arith, place, c.if-place-eq0.false)),
    )

pub index-requires : goal.index-requires
index-requires c =
    let page = page_known _ _ _ _ c.args.group c.self.invariant.0 c.self.view_is c.requires in
    let place = get_or_read c.self.inside.places.items _ _ page c.index-place.ensures 0 in
    let w = word_at _ _ c.self.inside.pool.items _ c.args.group c.index_in.result c.self.invariant.0 c.self.view_is c.requires
    (omega (arith, place, c.if-place-eq0.false)) (omega (arith, place)) in
    omega (arith, w.inside, c.self.inside.pool.ok.0)

pub returns : goal.returns
returns c =
    let page = page_known _ _ _ _ c.args.group c.self.invariant.0 c.self.view_is c.requires in
    let place = get_or_read c.self.inside.places.items _ _ page c.index-place.ensures 0 in
    let w = word_at _ _ c.self.inside.pool.items _ c.args.group c.index_in.result c.self.invariant.0 c.self.view_is c.requires
    (omega (arith, place, c.if-place-eq0.false)) (omega (arith, place)) in
    get_or_read c.self.inside.pool.items _ _ w.inside c.index.ensures 0 ∙ w.read
