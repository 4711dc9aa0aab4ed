use Rattle.std.proofs.Common.{true, false, sym, ◌∙◌}
use Rattle.g1heap.specs.Jobs.{DoesJob}
use Rattle.g1heap.proofs.Asking.{at_parts}
use Rattle.g1heap.proofs.job.do_job.Goals as goal

pub returns-then-explained : goal.returns-then-explained
returns-then-explained g c =
    at_parts (λ asked. DoesJob c.args.names.now c.args.types.now asked c.args.reader.now c.do_explaining.new.reader c.args.out.now
    c.do_explaining.new.out c.args.err.now c.do_explaining.new.err c.do_explaining.result) _ _ _ _ _ _ c.file-name.ensures
    c.task-task.ensures (sym c.if-explained.true ∙ c.explained-explained.ensures) c.do_explaining.ensures

pub returns : goal.returns
returns g c =
    at_parts (λ asked. DoesJob c.args.names.now c.args.types.now asked c.args.reader.now c.do_plain.new.reader c.args.out.now
    c.do_plain.new.out c.args.err.now c.do_plain.new.err c.do_plain.result) _ _ _ _ _ _ c.file-name.ensures
    c.task-task.ensures (sym c.if-explained.false ∙ c.explained-explained.ensures) c.do_plain.ensures
