use Rattle.std.proofs.Common.{◌<◌, ◌/◌, arith, refl, slice_index}
use Rattle.bit_sets.proofs.PageWords.{nothing_filled, page_filled, pages_kept}
use Rattle.bit_sets.proofs.pages.clear_in_page.Goals as goal

pub fill_words-requires-clause-within : goal.fill_words-requires-clause-within
fill_words-requires-clause-within c =
    let there : 0 < slice_index c.args.places.now (c.args.from / 512) = omega (arith, c.if-place-ne0.true) in
    let inside = c.requires.pages.inside (c.args.from / 512) there in
    omega (arith, inside.0, inside.1, c.index_in-start.ensures, c.requires.some, c.requires.known, c.requires.page)

pub returns-then-place-ne0-clause-pages : goal.returns-then-place-ne0-clause-pages
returns-then-place-ne0-clause-pages c =
    pages_kept c.args.places.now c.args.pool.now c.fill_words.new.words c.args.len c.requires.pages c.fill_words.ensures.len

pub returns-then-place-ne0-clause-each : goal.returns-then-place-ne0-clause-each
returns-then-place-ne0-clause-each c = λ g h.
    page_filled c.args.places.now c.args.pool.now c.fill_words.new.words c.args.len c.args.from c.args.to 0 c.index_in-start.result
    c.requires.pages c.requires.some c.requires.known c.requires.page (omega (arith, c.if-place-ne0.true)) c.index_in-start.ensures
    c.fill_words.ensures.each g h

pub returns-else-place-ne0-clause-each : goal.returns-else-place-ne0-clause-each
returns-else-place-ne0-clause-each c = λ g _.
    nothing_filled c.args.places.now c.args.pool.now c.args.from c.args.to 0 g c.requires.page
    (omega (arith, c.if-place-ne0.false)) refl
