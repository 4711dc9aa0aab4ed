use Rattle.std.proofs.Common.{◌<◌, length, arith}
use Rattle.heap_walk.specs.Holders.{holders_at}
use Rattle.heap_walk.proofs.Telling.{telling_first}
use Rattle.heap_walk.proofs.Placing.{root_passes, root_takes, listed, unlisted}
use Rattle.heap_walk.proofs.finding.tell_roots.Goals as goal
use Rattle.heap_walk.proofs.finding.tell_roots.Goals.{in-Some+else-count-out, in_default}

pub loop-place-init : goal.loop-place-init
loop-place-init c = record { telling = telling_first (holders_at c.args.core.now c.args.name) _ _; room = omega arith }

pub loop-place-preserved : goal.loop-place-preserved
loop-place-preserved c =
    let core = c.args.core.now in
    let place = c.loop-place.place in
    let below : place < length core.roots = omega (arith, c.loop-place-test.true, c.root_count-end.ensures.value) in
    let old = c.loop-place.invariant in
    let long = c.loop-place.auto.out in
    elim c.match-root_holder_at.branch [
      | in-Some+else-count-out w ↦
          let other = w.if-count-out.false in
          let room = old.room in
          record {
            telling = rw (w.out-is, w.count-is) (root_takes core c.args.name c.args.from place c.args.out.now c.loop-place.out
                c.loop-place.count
                below old.telling w.in-Some.holder (listed _ _ _ c.root_holder_at.ensures w.in-Some.is) (omega (arith, other, room, long)));
            room = (let more = w.count-is in omega (arith, more, other, room, long));
          }
      | in_default w ↦
          let room = old.room in
          record {
            telling = rw (w.out-is, w.count-is) (root_passes core c.args.name c.args.from place c.args.out.now c.loop-place.out
                c.loop-place.count
                below old.telling (unlisted _ _ c.root_holder_at.ensures w.in_default.is));
            room = (let more = w.count-is in omega (arith, more, room));
          }
    ]
