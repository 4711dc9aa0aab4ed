use Rattle.std.proofs.Common.{arith}
use Rattle.regions.proofs.Tiles.Released.{filler_short}
use Rattle.alloc_buffers.specs.Placement.{in_buffer}
use Rattle.alloc_buffers.proofs.Placed.{inside_made}
use Rattle.step_core.proofs.mutator.make_inside.Goals as goal

pub new-requires-clause-small : goal.new-requires-clause-small
new-requires-clause-small c =
    let f = c.requires.can.ready.stand.fillers c.args.mutator c.in_ok-open.open c.in_ok-open.ensures.opened in
    let short = filler_short c.args.table.now c.in_ok-open.open.next c.in_ok-open.open.rest c.law.ensures.positive c.law.ensures.fitting
    f.filler in
    omega (arith, short, c.law.ensures.small)

pub returns-clause-made : goal.returns-clause-made
returns-clause-made c = (
  in_buffer c.args.table.now c.args.buffers.now c.args.mutator c.args.size c.in_ok-open.open,
  inside_made c.args.table.now _ c.args.buffers.now _ c.args.mutator c.args.size c.args.name c.args.counts.pointers c.args.weaks
      c.args.counts.values _ _ c.in_ok-open.open c.law.ensures.positive c.law.ensures.fitting c.requires.can.ready
      c.in_ok-open.ensures.opened c.in_ok-open.ensures.room c.requires.half c.requires.can.size
      c.new-at.ensures c.new.ensures (rw (c.header_counts.ensures.pointers, c.header_counts.ensures.weaks, c.header_counts.ensures.values)
      at
      c.make_object.ensures) c.in_ok-open.ensures.cut,
)
