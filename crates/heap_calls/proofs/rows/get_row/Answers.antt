use Rattle.std.proofs.Common.{◌+◌, ◌-◌, ◌∙◌, ap, inr, refl, subst, sym}
use Rattle.heap_steps.specs.declared.step.Register.{Register}
use Rattle.step_core.specs.Rows.{HasNoPointer, HasPointers, register_at}
use Rattle.heap_calls.proofs.rows.get_row.Goals as goal

pub get_row-requires-clause-apart : goal.get_row-requires-clause-apart
get_row-requires-clause-apart c k less same =
    c.requires.steps.apart k less (sym (ap (λ (r : Register). r.number) c.register-in-Ok.ensures) ∙ same)

pub returns-in-Err : goal.returns-in-Err
returns-in-Err c = inr (record {
  why = c.in-Err.why;
  tells = c.refused.ensures;
  last = (subst (λ (r : Register). HasNoPointer c.args.core.now c.args.mutator r (c.args.field + (c.args.count - 1)) c.in-Err.why)
      c.register.ensures c.in-Err.ensures.refused).got (register_at (c.args.to + (c.args.count - 1)));
  not = λ has. c.in-Err.ensures.none
      (subst (λ (r : Register). HasPointers c.args.core.now c.args.mutator r c.args.field c.args.count) (sym c.register.ensures) has);
  same = refl;
})
