use Rattle.std.proofs.Common.{◌≡◌, ◌+◌, ◌∙◌, ℕ, Result, ap, subst}
use Rattle.std.specs.Prelude.{⊤, OnOk}
use Rattle.std.proofs.lemmas.Result.{on_ok_weaker}
use Rattle.script_text.specs.declared.fault.WriteFault.{WriteFault}
use Rattle.script_runs.specs.InOrder.{IsOnItsWay}
use Rattle.script_runs.proofs.OnItsWay.{one_put, refused_before}
use Rattle.script_runs.proofs.in_order.put_line.Goals as goal

pub returns-in-Ok-clause-count : goal.returns-in-Ok-clause-count
returns-in-Ok-clause-count g c n had =
    let is : c.args.lines.now.events ≡ n = subst (λ (r : Result ⊤ WriteFault). OnOk r (c.args.lines.now.events ≡ n)) c.in-Ok.is had in
    on_ok_weaker c.put_line.result (λ one. one ∙ ap (λ (m : ℕ). m + 1) is) c.put_line.ensures.count

pub returns-in-Ok-clause-way : goal.returns-in-Ok-clause-way
returns-in-Ok-clause-way g c plan es e first told before =
    one_put plan es e first c.args.writer.now c.put_line.new.writer c.args.lines.now c.put_line.new.self c.put_line.result
    (on_ok_weaker c.put_line.result (λ put w had. put w had e told) c.put_line.ensures.ok) c.put_line.ensures.err c.put_line.ensures.memory
    (subst (λ (r : Result ⊤ WriteFault). IsOnItsWay plan es first c.args.writer.now c.args.lines.now r) c.in-Ok.is before)

pub returns-in-Err-clause-way : goal.returns-in-Err-clause-way
returns-in-Err-clause-way g c plan es e first told before =
    refused_before plan es e first c.args.writer.now c.args.lines.now c.args.lines.now c.in-Err.fault
    (subst (λ (r : Result ⊤ WriteFault). IsOnItsWay plan es first c.args.writer.now c.args.lines.now r) c.in-Err.is before)
