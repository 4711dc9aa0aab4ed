use Rattle.std.proofs.Common.{◌∙◌, ℕ, IsSome, ap, arith, subst, sum_by, sym}
use Rattle.std.proofs.lemmas.List.{take_all}
use Rattle.std.proofs.lemmas.List.Sums.{sum_by_more_le}
use Rattle.step_core.specs.Stands.{kept_of}
use Rattle.heap_view.specs.Snapshot.{edges_from}
use Rattle.heap_view.proofs.KeptStarts.{item_kept, items_small, nodes_are}
use Rattle.heap_view.proofs.snapshot.edge_sum.Goals as goal

pub edges_from-sum-requires : goal.edges_from-sum-requires
edges_from-sum-requires c =
    let core = c.args.core.now in
    subst (λ (n : ℕ). IsSome (kept_of core n)) (sym c.new.ensures)
    (item_kept core c.args.items.now (nodes_are core c.law_shaped.ensures c.law_remembers.ensures.core) c.requires
    c.loop-start.start-index _ c.loop-start-test.true)

pub overflow_add-sum : goal.overflow_add-sum
overflow_add-sum c =
    let core = c.args.core.now in
    let nodes = nodes_are core c.law_shaped.ensures c.law_remembers.ensures.core in
    let small = items_small core c.args.items.now nodes c.requires c.law_shaped.ensures in
    let more = sum_by_more_le (edges_from core) c.args.items.now c.loop-start.start-index 0 c.loop-start-test.true in
    let here = c.edges_from-sum.ensures.value ∙ ap (edges_from core) c.new.ensures in
    let before = c.loop-start.invariant in
    omega (arith, small, more, here, before)

pub returns-clause-small : goal.returns-clause-small
returns-clause-small c =
    let core = c.args.core.now in
    let nodes = nodes_are core c.law_shaped.ensures c.law_remembers.ensures.core in
    let small = items_small core c.args.items.now nodes c.requires c.law_shaped.ensures in
    let all = c.loop-start.invariant
    ∙ ap (sum_by (edges_from core)) (take_all c.loop-start.start-index c.args.items.now (omega (arith, c.loop-start-test.false))) in
    omega (arith, small, all)
