use Rattle.std.proofs.Common.{Err, subst, sym}
use Rattle.script_text.specs.declared.fault.Kind.{Kind}
use Rattle.jobs.specs.Followed.{FindsBy}
use Rattle.job_ends.specs.declared.faults.JobFault.TheVariants as faults
use Rattle.jobs.proofs.Following.{head_read, head_missing, head_fails}
use Rattle.jobs.proofs.follow.find.Goals as goal

pub returns-in-Ok-None : goal.returns-in-Ok-None
returns-in-Ok-None g c =
    head_missing c.args.reader.now c.next_heap.new.reader c.next_heap.new.self
    (rw (c.requires, c.in-Ok-None.is, c.in-Ok-None.field-0-is) at c.next_heap.ensures)

pub returns-in-Err-Line : goal.returns-in-Err-Line
returns-in-Err-Line g c =
    subst (λ (kind : Kind). FindsBy c.args.reader.now c.next_heap.new.reader (Err (faults.Line (record { line = 1; kind = kind }))))
    (sym c.in-Err-Line.kind-is)
    (head_fails c.args.reader.now c.next_heap.new.reader c.next_heap.new.self c.in-Err-Line.kind
    (rw (c.requires, c.in-Err-Line.is, c.in-Err-Line.field-0-is) at c.next_heap.ensures))

pub returns : goal.returns
returns g c =
    let head = head_read c.args.reader.now c.next_heap.new.reader c.next_heap.new.self c.in-Ok-Some.config
    (rw (c.requires, c.in-Ok-Some.is, c.in-Ok-Some.field-0-is) at c.next_heap.ensures) in
    c.follow_lines.ensures c.args.reader.now head.0 head.1 head.2
