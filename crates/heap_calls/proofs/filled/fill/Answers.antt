use Rattle.std.proofs.Common.{◌≡◌, ◌∙◌, Some, ap, refl, subst}
use Rattle.std.specs.Prelude.{IfOk}
use Rattle.heap_steps.specs.declared.step.Register.{Register}
use Rattle.heap_steps.specs.declared.step.Reply.{Reply}
use Rattle.heap_steps.specs.declared.step.Step.{Step}
use Rattle.step_core.specs.Answers.{new_reply}
use Rattle.step_core.specs.Making.{HasMadeStep}
use Rattle.step_core.specs.Mutators.{register_of}
use Rattle.step_core.specs.Words.{Takes}
use Rattle.heap_calls.specs.Numbers.{numbers}
use Rattle.heap_calls.proofs.Filling.{as_making, can_make}
use Rattle.heap_calls.proofs.filled.fill.Goals as goal

pub make_at-made-requires-clause-mutator : goal.make_at-made-requires-clause-mutator
make_at-made-requires-clause-mutator c = (can_make _ _ _ _ _ _ c.register.ensures c.requires.makes).mutator

pub make_at-made-requires-clause-to : goal.make_at-made-requires-clause-to
make_at-made-requires-clause-to c = (can_make _ _ _ _ _ _ c.register.ensures c.requires.makes).to

pub fill_new-requires-clause-made : goal.fill_new-requires-clause-made
fill_new-requires-clause-made c =
    subst (λ (s : Step). HasMadeStep s (new_reply c.make_at-made.result) c.make_at-made.new.self)
    (as_making _ _ _ _ _ _ c.register.ensures c.counts_of.ensures) c.make_at-made.ensures.made

pub fill_new-requires-clause-at : goal.fill_new-requires-clause-at
fill_new-requires-clause-at c =
    subst (λ (r : Register). IfOk c.make_at-made.result (λ x. register_of c.make_at-made.new.self c.args.mutator r ≡ Some x.at))
    c.register.ensures c.make_at-made.ensures.at

pub returns : goal.returns
returns c = record {
  reply = new_reply c.make_at-made.result;
  tells = c.answer_of.ensures ∙ ap (λ (r : Reply). numbers r) c.new_reply.ensures;
  made = c.make_at-made.new.self;
  makes = subst (λ (s : Step). Takes c.args.core.now s (new_reply c.make_at-made.result) c.make_at-made.new.self)
      (as_making _ _ _ _ _ _ c.register.ensures c.counts_of.ensures) c.make_at-made.ensures.takes;
  filled = c.fill_new.new.core;
  fills = c.fill_new.ensures;
  held = refl;
}
