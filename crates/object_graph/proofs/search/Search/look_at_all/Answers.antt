use Rattle.std.proofs.Common.{◌≤◌, ◌∙◌, arith, length, subst, sym}
use Rattle.object_graph.specs.Reached.{Search}
use Rattle.object_graph.proofs.Reaching.{searched_past}
use Rattle.object_graph.proofs.search.Search.look_at_all.Goals as goal

pub returns-then-len-next : goal.returns-then-len-next
returns-then-len-next c =
    let within : length c.self.inside.queue.items ≤ c.loop-next.next = omega (arith, c.len.ensures, c.if-len-next.true) in
    let past = subst (λ (s : Search). length s.queue ≤ c.loop-next.next) (c.self.view_is ∙ c.loop-next.invariant) within in
    c.loop-next.invariant ∙ sym (searched_past c.args.self.now c.args.objects.now c.loop-next.next (length c.args.objects.now)
    (omega (arith, c.loop-next-test.true, c.len-next-end.ensures)) past)
