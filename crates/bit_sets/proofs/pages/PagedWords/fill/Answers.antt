use Rattle.std.proofs.Common.{◌∙◌, arith, ap, sym, length}
use Rattle.bit_sets.proofs.PageWords.{length-words_of, words_filled}
use Rattle.bit_sets.proofs.pages.PagedWords.fill.Goals as goal

pub fill_pages-requires-clause-known : goal.fill_pages-requires-clause-known
fill_pages-requires-clause-known c =
    omega (
      arith,
      c.requires.known,
      length-words_of c.self.inside.places.items c.self.inside.pool.items c.self.inside.len,
      ap length c.self.view_is,
    )

pub returns-clause-len : goal.returns-clause-len
returns-clause-len c = length-words_of _ _ _ ∙ sym (sym (ap length c.self.view_is) ∙ length-words_of _ _ _)

pub returns-clause-each : goal.returns-clause-each
returns-clause-each c = λ i.
    words_filled c.args.self.now c.self.inside.places.items c.self.inside.pool.items c.fill_pages.new.places.items
    c.fill_pages.new.pool.items
    c.self.inside.len c.args.first c.args.past c.args.value i c.self.view_is c.requires.known c.fill_pages.ensures.each
