use Rattle.std.proofs.Common.{◌≡◌, ◌+◌, ◌-◌, ◌∷◌, ◌∙◌, List, length, ap, sym, arith}
use Rattle.std.proofs.lemmas.Result.{on_ok_weaker}
use Rattle.heap_steps.specs.declared.step.Event.{Event}
use Rattle.script_runs.proofs.OnItsWay.{told_by_line, one_done}
use Rattle.script_runs.proofs.in_order.do_steps.Goals as goal

pub script-preserved : goal.script-preserved
script-preserved g c =
    let all = c.args.steps.now.steps in
    let had = c.script.steps.steps in
    let left = c.next_line.new.self.steps in
    let taken : had ≡ c.in-Some.next.step ∷ left = c.in-Some.ensures.some in
    let one : length had ≡ length left + 1 = ap length taken ∙ omega arith in
    let fewer = c.script.invariant.fewer in
    let e = c.perform-event.result in
    let told = told_by_line c.in-Some.next.line.now c.in-Some.next.step e c.in-Some.ensures.line c.perform-event.ensures.step
    c.perform-event.ensures.actor in
    let next : length all - length had + 1 ≡ length all - length left = omega arith in
    record {
      sizes = c.next_line.ensures.config ∙ c.script.invariant.sizes ∙ sym c.perform-event.ensures.config;
      fewer = omega arith;
      counted = on_ok_weaker c.put_line-outcome.result (λ count. count ∙ next)
          (c.put_line-outcome.ensures.count (length all - length had) c.script.invariant.counted);
      so_far = λ plan first before. one_done plan c.in-Some.next.step had left e c.script.core c.perform-event.new.self
          first c.script.writer c.put_line-outcome.new.writer c.script.lines c.put_line-outcome.new.lines c.script.outcome
          c.put_line-outcome.result taken c.perform-event.ensures.step c.perform-event.ensures.actor
          (c.perform-event.ensures.runs plan.config) (λ (es : List Event). c.put_line-outcome.ensures.way plan es e first told)
          (c.script.invariant.so_far plan first before);
    }
