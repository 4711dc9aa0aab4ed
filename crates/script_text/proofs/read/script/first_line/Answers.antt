use Rattle.std.proofs.Common.{◌∙◌, ◌+◌, sym, refl, take}
use Rattle.script_text.specs.declared.fault.Kind.TheVariants as kinds
use Rattle.script_text.specs.Lines.{script_by}
use Rattle.script_text.specs.Events.{record_by}
use Rattle.script_text.proofs.Reading.ReadOn.{begins_wrong, no_line}
use Rattle.script_text.proofs.Reading.Stops.{heap_line_never}
use Rattle.script_text.proofs.Parts.Pieces.{behind, pieces_behind}
use Rattle.script_text.proofs.read.script.first_line.Goals as goal

pub returns-then-is_empty-clause-fault : goal.returns-then-is_empty-clause-fault
returns-then-is_empty-clause-fault c =
    no_line script_by c.args.text.now kinds.BadHeap c.in_default.ensures.none (rw (sym c.is_empty.ensures ∙ c.if-is_empty.true) refl)

pub returns-then-is_empty-clause-history : goal.returns-then-is_empty-clause-history
returns-then-is_empty-clause-history c =
    no_line record_by c.args.text.now kinds.BadHeap c.in_default.ensures.none (rw (sym c.is_empty.ensures ∙ c.if-is_empty.true) refl)

pub returns-else-is_empty-clause-fault : goal.returns-else-is_empty-clause-fault
returns-else-is_empty-clause-fault c =
    no_line script_by c.args.text.now kinds.Cut c.in_default.ensures.none (rw (sym c.is_empty.ensures ∙ c.if-is_empty.false) refl)

pub returns-else-is_empty-clause-history : goal.returns-else-is_empty-clause-history
returns-else-is_empty-clause-history c =
    no_line record_by c.args.text.now kinds.Cut c.in_default.ensures.none (rw (sym c.is_empty.ensures ∙ c.if-is_empty.false) refl)

pub returns-in-Err-clause-fault : goal.returns-in-Err-clause-fault
returns-in-Err-clause-fault c =
    let k = c.in-Some.front.length in
    begins_wrong script_by c.args.text.now (take k c.args.text.now) (behind (k + 1) c.args.text.now) c.in-Err.kind
    (pieces_behind c.args.text.now k c.in-Some.ensures.line) (sym c.in-Err.ensures)

pub returns-in-Err-clause-history : goal.returns-in-Err-clause-history
returns-in-Err-clause-history c =
    let k = c.in-Some.front.length in
    begins_wrong record_by c.args.text.now (take k c.args.text.now) (behind (k + 1) c.args.text.now) c.in-Err.kind
    (pieces_behind c.args.text.now k c.in-Some.ensures.line) (sym c.in-Err.ensures)

pub returns-in-Err-clause-memory : goal.returns-in-Err-clause-memory
returns-in-Err-clause-memory c =
    heap_line_never (take c.in-Some.front.length c.args.text.now) c.in-Err.kind (sym c.in-Err.ensures)
