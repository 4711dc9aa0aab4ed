use Rattle.std.proofs.Common.{◌∙◌, ap, sym}
use Rattle.std.specs.Fmt.{decimal}
use Rattle.regions.specs.Table.{Table, kind_of}
use Rattle.heap_dump.proofs.Putting.{then_adds, adds_at}
use Rattle.heap_view.specs.Areas.{live_text}
use Rattle.heap_view.proofs.region_lines.put_live.Goals as goal

pub returns-in-Ordinary : goal.returns-in-Ordinary
returns-in-Ordinary c =
    adds_at (live_text c.args.core.now c.args.region) _ _ _ _
    (ap (λ (t : Table). kind_of t c.args.region) (sym c.table.ensures) ∙ sym c.kind.ensures ∙ c.in-Ordinary.is)
    (then_adds _ _ _ _ _ c.put.ensures (adds_at decimal _ _ _ _ (sym (c.from.ensures ∙ c.live_in.ensures)) c.put_digits.ensures))
