use Rattle.std.proofs.Common.{◌∙◌, ℕ, List, arith, ap, sym, length}
use Rattle.bit_sets.specs.Pages.{paged_word}
use Rattle.bit_sets.proofs.PageWords.{all_written, length-words_of, words_filled}
use Rattle.bit_sets.proofs.pages.PagedWords.clear_between.Goals as goal

pub clear_in_page-requires-clause-known : goal.clear_in_page-requires-clause-known
clear_in_page-requires-clause-known c =
    omega (
      arith,
      c.requires.known,
      length-words_of c.self.inside.places.items c.self.inside.pool.items c.self.inside.len,
      ap length c.self.view_is,
    )

pub returns-clause-len : goal.returns-clause-len
returns-clause-len c = length-words_of _ _ _ ∙ sym (sym (ap length c.self.view_is) ∙ length-words_of _ _ _)

pub returns-clause-each : goal.returns-clause-each
returns-clause-each c = λ i.
    let places : List ℕ = c.self.inside.places.items in
    let pool : List ℕ = c.self.inside.pool.items in
    let written = all_written c.self.inside.pool.len c.clear_in_page.new.pool pool (omega (arith, c.self.inside.pool.ok.0))
    (omega (arith, c.clear_in_page.ensures.len, c.deref_mut.ensures.len)) in
    let each = rw (c.deref.ensures.value, c.deref_mut.ensures.value) at c.clear_in_page.ensures.each in
    words_filled c.args.self.now places pool places _ c.self.inside.len c.args.first c.args.past 0 i c.self.view_is c.requires.known
    (λ g h. ap (λ (l : List ℕ). paged_word places l g) written ∙ each g h)
