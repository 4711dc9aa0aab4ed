use Rattle.collection.specs.Steps.{own_event}
use Rattle.collection.proofs.Took.{passes}
use Rattle.collection.proofs.steps.take_own.Goals as goal

pub returns-clause-own : goal.returns-clause-own
returns-clause-own g c = record {
  seen = c.took.ensures;
  passes = λ s stands. passes s (own_event c.args.op c.step-reply.result) c.args.core.now c.step-reply.new.self
      (c.step-reply.ensures.follows s stands)
      c.step-reply.ensures.does (c.step-reply.ensures.full s stands) c.law_remembers.ensures.core c.law_remembers.ensures.cards
      c.law_whole.ensures;
}
