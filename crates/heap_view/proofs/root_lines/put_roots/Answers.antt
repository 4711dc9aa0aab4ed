use Rattle.std.proofs.Common.{◌≡◌, ◌-◌, ℕ, ap, drop, take, arith}
use Rattle.std.proofs.Common.{false}
use Rattle.heap_dump.specs.Lists.{named}
use Rattle.heap_dump.proofs.Putting.{leads_first, leads_on, leads_end}
use Rattle.heap_view.proofs.Rows.{rest_text, next_place, no_place}
use Rattle.heap_view.proofs.root_lines.put_roots.Goals as goal

pub loop-place-init : goal.loop-place-init
loop-place-init c =
    let none : c.args.first - c.args.first ≡ 0 = omega arith in
    leads_first _ _ _ (ap (λ (n : ℕ). rest_text c.args.table.now c.args.letter.now false
    (named n (drop c.args.first (take c.args.end c.args.roots.now.words)))) none)

pub loop-place-preserved : goal.loop-place-preserved
loop-place-preserved c =
    leads_on _ _ _ _ _ _ _ (next_place c.args.table.now c.args.letter.now c.args.roots.now.words c.args.first c.loop-place.place c.args.end
    c.loop-place.some _ _ c.loop-place.auto.place c.loop-place-test.true c.requires.within c.get.ensures c.put_place-some.ensures.some)
    c.loop-place.invariant c.put_place-some.ensures.put

pub returns : goal.returns
returns c =
    leads_end _ _ _ _ _ _ (no_place c.args.table.now c.args.letter.now c.args.roots.now.words (c.loop-place.place - c.args.first)
    c.loop-place.place c.args.end c.loop-place.some c.loop-place-test.false) c.loop-place.invariant c.put_none.ensures
