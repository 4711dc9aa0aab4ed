use Rattle.std.proofs.Common.{◌∙◌, sym}
use Rattle.std.specs.Fmt.{decimal}
use Rattle.heap_dump.proofs.Putting.{then_adds, adds_at, adds_if}
use Rattle.heap_view.proofs.heads.put_marking.Goals as goal

pub returns : goal.returns
returns c =
    adds_if _ _ _ _ _ (sym c.marking.ensures ∙ c.if-not-marking.false) (then_adds _ _ _ _ _ (then_adds _ _ _ _ _ c.put-2.ensures
    (adds_at decimal _ _ _ _ (sym (c.from.ensures ∙ c.scans.ensures)) c.put_digits.ensures)) c.put-3.ensures)
