use Rattle.std.proofs.Common.{ℕ, ◌+◌, ◌-◌, arith, length-take, length-drop}
use Rattle.bit_sets.proofs.PageWords.{page_passed, part_word, part_searched, slice_read}
use Rattle.bit_sets.proofs.pages.next_written.Goals as goal

pub loop-page-preserved-then-place-eq0 : goal.loop-page-preserved-then-place-eq0
loop-page-preserved-then-place-eq0 c = page_passed c.args.places.now c.args.pool.now c.args.from c.args.past c.loop-page.page
    c.if-place-eq0.true c.loop-page.invariant

pub returns-then-found-high-clause-none : goal.returns-then-found-high-clause-none
returns-then-found-high-clause-none c = λ g h k.
    let begin : ℕ = c.index_in-begin.result in
    let size : ℕ = c.min-high.result - c.max-low.result in
    part_searched c.args.places.now c.args.pool.now c.args.len c.loop-page.page c.max-low.result begin _ size
    c.requires.pages (omega arith) (omega arith) (omega arith) (omega arith) (λ i b. slice_read c.args.pool.now begin (begin + size) i
    (omega arith)) c.args.from c.args.past
    c.first_written.result c.max-low.ensures (omega arith) c.loop-page.invariant c.first_written.ensures.none g h k (omega arith)

pub returns-then-found-high-clause-found : goal.returns-then-found-high-clause-found
returns-then-found-high-clause-found c = λ _.
    let begin : ℕ = c.index_in-begin.result in
    let size : ℕ = c.min-high.result - c.max-low.result in
    rw (part_word c.args.places.now c.args.pool.now c.args.len c.loop-page.page c.max-low.result begin _ size
    c.requires.pages (omega arith) (omega arith) (omega arith) (omega arith) (λ i b. slice_read c.args.pool.now begin (begin + size) i
    (omega arith)) c.first_written.result (omega arith))
    (c.first_written.ensures.found (rw (length-take, length-drop) (omega (arith, c.requires.pages.inside c.loop-page.page (omega arith)))))

pub loop-page-preserved : goal.loop-page-preserved
loop-page-preserved c = λ g h k l.
    let begin : ℕ = c.index_in-begin.result in
    let size : ℕ = c.min-high.result - c.max-low.result in
    part_searched c.args.places.now c.args.pool.now c.args.len c.loop-page.page c.max-low.result begin _ size
    c.requires.pages (omega arith) (omega arith) (omega arith) (omega arith) (λ i b. slice_read c.args.pool.now begin (begin + size) i
    (omega arith)) c.args.from c.args.past
    c.first_written.result c.max-low.ensures (omega (arith, rw length-take at c.first_written.ensures.within)) c.loop-page.invariant
    c.first_written.ensures.none g h (omega arith) l
