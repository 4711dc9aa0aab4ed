use Rattle.std.proofs.Common.{◌≡◌, ◌∙◌, ◌+◌, ◌-◌, ℕ, ap, refl, subst, length, arith}
use Rattle.heap_walk.specs.Starts.{word_count}
use Rattle.heap_walk.specs.Walks.{IsTelling}
use Rattle.heap_walk.specs.Holders.{holders_at, place_count}
use Rattle.heap_walk.proofs.Telling.{fills_nothing, telling_first}
use Rattle.heap_walk.proofs.Showing.{links_show}
use Rattle.heap_walk.proofs.finding.who.Goals as goal

pub returns-then-cursor-roots-clause-tells : goal.returns-then-cursor-roots-clause-tells
returns-then-cursor-roots-clause-tells c =
    let words = c.word_count.ensures.value ∙ ap word_count c.table.ensures in
    fills_nothing (holders_at c.args.core.now c.args.name) c.args.cursor.now (place_count c.args.core.now) c.args.out.now
    (omega (arith, words, c.from-roots.ensures, c.from-words.ensures, c.root_count.ensures.value, c.if-cursor-roots.true))

pub returns-then-cursor-roots-2-clause-tells : goal.returns-then-cursor-roots-2-clause-tells
returns-then-cursor-roots-2-clause-tells c =
    let core = c.args.core.now in
    let place : c.args.cursor.now ≡ length core.roots + (c.args.cursor.now - c.from-roots.result) =
    omega (arith, c.from-roots.ensures, c.root_count.ensures.value, c.if-cursor-roots-2.true) in
    c.tell_from-told.ensures c.args.cursor.now c.args.out.now refl
    (subst (λ (n : ℕ). IsTelling (holders_at core c.args.name) c.args.cursor.now n c.args.out.now c.args.out.now 0) place
    (telling_first (holders_at core c.args.name) c.args.cursor.now c.args.out.now))

pub returns-then-cursor-roots-clause-shows : goal.returns-then-cursor-roots-clause-shows
returns-then-cursor-roots-clause-shows c = λ s stands. links_show s c.args.core.now stands

pub returns-then-cursor-roots-2-clause-shows : goal.returns-then-cursor-roots-2-clause-shows
returns-then-cursor-roots-2-clause-shows c = λ s stands. links_show s c.args.core.now stands

pub returns-clause-shows : goal.returns-clause-shows
returns-clause-shows c = λ s stands. links_show s c.args.core.now stands
