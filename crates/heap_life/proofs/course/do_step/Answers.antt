use Rattle.std.proofs.Common.{refl}
use Rattle.step_core.proofs.Cores.Following.{goes_on}
use Rattle.heap_life.proofs.course.do_step.Goals as goal

pub returns : goal.returns
returns c = record {
  actor = refl;
  step = refl;
  config = c.step-reply.ensures.config;
  runs = λ first es s ran.
      goes_on s first es _ c.args.core.now c.step-reply.new.self ran c.step-reply.ensures.follows c.step-reply.ensures.does
      c.step-reply.ensures.full c.law_remembers.ensures.core c.law_remembers.ensures.cards c.law_whole.ensures;
}
