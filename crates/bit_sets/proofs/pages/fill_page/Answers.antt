use Rattle.std.proofs.Common.{ℕ, List, arith, ap, sym, ◌∙◌, if◌then◌else◌}
use Rattle.bit_sets.specs.Bits.{is_between}
use Rattle.bit_sets.specs.Pages.{paged_word}
use Rattle.bit_sets.proofs.PageWords.{nothing_filled, page_filled, all_written}
use Rattle.std.proofs.lemmas.List.{get_or_read}
use Rattle.bit_sets.proofs.pages.fill_page.Goals as goal

pub returns-then-place-eq0-clause-each : goal.returns-then-place-eq0-clause-each
returns-then-place-eq0-clause-each c = λ g _.
    let places = c.args.places.now in
    let place = get_or_read places.items _ _ (omega (arith, c.requires.known, c.requires.pages.all)) c.index-place.ensures 0 in
    nothing_filled places.items c.args.pool.now.items c.args.from c.args.to c.args.value g c.requires.page
    (sym place ∙ c.if-place-eq0.true) c.if-value-eq0.true

pub returns-clause-each : goal.returns-clause-each
returns-clause-each c = λ g h.
    let pool : List ℕ = c.find_or_take-start.new.pool.items in
    let place : List ℕ = c.find_or_take-start.new.places.items in
    let written = all_written c.find_or_take-start.new.pool.len c.fill_words.new.words pool
    (omega (arith, c.find_or_take-start.new.pool.ok.0))
    (omega (arith, c.fill_words.ensures.len, c.deref_mut.ensures.len)) in
    let each = rw c.deref_mut.ensures.value at c.fill_words.ensures.each in
    ap (λ (l : List ℕ). paged_word place l g) written
    ∙ page_filled place pool c.fill_words.new.words c.args.len c.args.from c.args.to c.args.value c.find_or_take-start.result
    c.find_or_take-start.ensures.pages c.requires.some c.requires.known c.requires.page c.find_or_take-start.ensures.taken
    c.find_or_take-start.ensures.place
    each g h
    ∙ ap (λ (w : ℕ). if is_between c.args.from c.args.to g then c.args.value else w) (c.find_or_take-start.ensures.same g)
