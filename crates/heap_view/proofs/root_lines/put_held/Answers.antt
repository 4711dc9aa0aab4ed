use Rattle.std.proofs.Common.{ap₂, sym}
use Rattle.std.specs.Prelude.{codes, slice_get}
use Rattle.script_text.specs.Texts.{spaced_number}
use Rattle.regions.specs.Table.{Table}
use Rattle.marker.specs.declared.marker.Marker.{Marker}
use Rattle.alloc_buffers.specs.Placement.{Buffers}
use Rattle.cards.specs.Cards.{Cards}
use Rattle.cards.specs.Cards as cards
use Rattle.satb_log.specs.Logs as logs
use Rattle.heap_dump.proofs.Putting.{then_adds, adds_as, adds_at}
use Rattle.heap_view.specs.Lists.{titled_line}
use Rattle.heap_view.specs.Actors.{buffer_line, logged_text}
use Rattle.heap_view.proofs.root_lines.put_held.Goals as goal

pub returns : goal.returns
returns c =
    then_adds _ _ _ _ _ (then_adds _ _ _ _ _ (adds_at (λ (b : Buffers). buffer_line (slice_get b.open_buffers c.args.mutator)) _ _ _ _
    (sym c.buffers.ensures) c.put_buffer.ensures) (adds_at (λ (k : Cards). titled_line (codes "  card log:") spaced_number
    (cards.log_of k c.args.mutator)) _ _ _ _ (sym c.cards.ensures) c.put_card_log.ensures)) (adds_as _ _ _ _
    (ap₂ (λ (t : Table) (k : Marker). titled_line (codes "  deletion log:") (logged_text t) (logs.log_of k.logs c.args.mutator))
    c.table.ensures c.marker.ensures) c.put_deletion_log.ensures)
