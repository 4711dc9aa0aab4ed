use Rattle.std.proofs.Common.{◌+◌, ◌-◌, inr, refl, subst, sym}
use Rattle.heap_steps.specs.declared.step.Register.{Register}
use Rattle.step_core.specs.Rows.{HasNoWord}
use Rattle.step_core.specs.Words.{HasDataWords}
use Rattle.heap_calls.proofs.rows.write_row.Goals as goal

pub returns-in-Err : goal.returns-in-Err
returns-in-Err c = inr (record {
  why = c.in-Err.why;
  tells = c.refused.ensures;
  last = subst (λ (r : Register). HasNoWord c.args.core.now c.args.mutator r (c.args.field + (c.args.count - 1)) c.in-Err.why)
      c.register.ensures c.in-Err.ensures.refused c.args.word;
  not = λ has. c.in-Err.ensures.none
      (subst (λ (r : Register). HasDataWords c.args.core.now c.args.mutator r c.args.field c.args.count) (sym c.register.ensures) has);
  same = refl;
})
