use Rattle.std.proofs.Common.{refl}
use Rattle.heap_steps.specs.declared.step.Actor.TheVariants as actors
use Rattle.heap_steps.specs.declared.step.Event.{Event}
use Rattle.heap_steps.specs.declared.step.Step.TheVariants as steps
use Rattle.collection.proofs.Keeping.{leaves, same_length}
use Rattle.collection.proofs.Took.{one_some, passes}
use Rattle.collection.proofs.steps.take.Goals as goal

pub returns : goal.returns
returns g c =
    let e : Event = record { actor = actors.Collector; step = steps.Collector c.args.step; reply = c.step-reply.result } in
    let s = c.step-reply.ensures in
    let before = c.law_remembers.ensures.core in
    let after = c.law_remembers-2.ensures.core in
    let left = leaves c.args.core.now c.step-reply.new.self c.law_shaped.ensures
    (same_length c.args.core.now c.step-reply.new.self before after s.config) c.args.step c.step-reply.result s.does in
    let taken = one_some g.W.Watch.sees c.args.core.now c.step-reply.new.self c.args.watch.now c.took.new.self e c.args.step refl refl
    c.took.ensures
    (λ r stands. passes r e c.args.core.now c.step-reply.new.self (s.follows r stands) s.does (s.full r stands) after
    c.law_remembers-2.ensures.cards c.law_whole.ensures)
    left.0 s.config left.1 in
    record {
      collects = taken.collects;
      some = taken;
      does = s.does;
      follows = s.follows;
      config = s.config;
      before = before;
      shaped_before = c.law_shaped.ensures;
      after = after;
      shaped = c.law_shaped-2.ensures;
    }
