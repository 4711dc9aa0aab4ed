use Rattle.std.proofs.Common.{ℕ, ◌∙◌, arith, ap, sym, set, bit_and}
use Rattle.std.proofs.lemmas.List.{get_or_read}
use Rattle.bit_sets.proofs.PageWords.{group_known, page_known, place_high, word_at, none_kept}
use Rattle.bit_sets.proofs.pages.PagedWords.keep.Goals as goal

pub index-place-requires : goal.index-place-requires
index-place-requires c =
    omega (arith, page_known _ _ _ _ c.args.group c.self.invariant.0 c.self.view_is c.requires, c.self.inside.places.ok.0)

pub index_in-requires : goal.index_in-requires
index_in-requires c =
    let page = page_known _ _ _ _ c.args.group c.self.invariant.0 c.self.view_is c.requires in
    let place = get_or_read c.self.inside.places.items _ _ page c.index-place.ensures 0 in
    omega (
      arith,
      place,
      place_high c.self.inside.places.items c.self.inside.pool.items _ c.args.group c.self.invariant.0
          (omega (arith, place, c.if-place-ne0.true)),
    )

pub index_mut-requires : goal.index_mut-requires
index_mut-requires c =
    let page = page_known _ _ _ _ c.args.group c.self.invariant.0 c.self.view_is c.requires in
    let place = get_or_read c.self.inside.places.items _ _ page c.index-place.ensures 0 in
    let w = word_at _ _ c.self.inside.pool.items _ c.args.group c.index_in.result c.self.invariant.0 c.self.view_is c.requires
    (omega (arith, place, c.if-place-ne0.true)) (omega (arith, place)) in
    omega (arith, w.inside, c.self.inside.pool.ok.0)

pub returns-then-place-ne0 : goal.returns-then-place-ne0
returns-then-place-ne0 c =
    let page = page_known _ _ _ _ c.args.group c.self.invariant.0 c.self.view_is c.requires in
    let place = get_or_read c.self.inside.places.items _ _ page c.index-place.ensures 0 in
    let w = word_at _ _ c.self.inside.pool.items _ c.args.group c.index_in.result c.self.invariant.0 c.self.view_is c.requires
    (omega (arith, place, c.if-place-ne0.true)) (omega (arith, place)) in
    w.written _ ∙ ap (λ (x : ℕ). set c.args.self.now c.args.group (bit_and x c.args.bits))
    (get_or_read c.self.inside.pool.items _ _ w.inside c.index_mut.ensures.value 0 ∙ w.read)

pub returns-else-place-ne0 : goal.returns-else-place-ne0
returns-else-place-ne0 c =
    let page = page_known _ _ _ _ c.args.group c.self.invariant.0 c.self.view_is c.requires in
    let place = get_or_read c.self.inside.places.items _ _ page c.index-place.ensures 0 in
    sym c.self.view_is ∙ none_kept _ c.self.inside.places.items c.self.inside.pool.items _ c.args.group c.args.bits c.self.view_is
    (group_known _ _ _ _ c.args.group c.self.view_is c.requires) (omega (arith, place, c.if-place-ne0.false))
