use Rattle.std.proofs.Common.{◌+◌, sym, subst, arith, IsSome}
use Rattle.regions.specs.Table.{Table, tile_in}
use Rattle.heap_walk.specs.Starts.{IsTileFrom}
use Rattle.heap_walk.proofs.Keeping.{kept_tile}
use Rattle.heap_walk.proofs.Entries.{found_kept, next_tile}
use Rattle.heap_walk.proofs.Placing.{found_less, passes, takes, stops_at, ends_all, listed, unlisted}
use Rattle.heap_walk.proofs.finding.tell_objects.Goals as goal
use Rattle.heap_walk.proofs.finding.tell_objects.Goals.{in-Some-holder_in+else-count-out, in_default-holder_in}

pub loop-object-init : goal.loop-object-init
loop-object-init c = record { telling = λ from before same p. p; tile = c.requires.tile; room = c.requires.told }

pub tile_above-left-requires : goal.tile_above-left-requires
tile_above-left-requires c =
    subst (λ (t : Table). IsSome (tile_in t c.in-Some.object)) (sym c.table.ensures)
    (kept_tile c.args.core.now c.in-Some.object (found_kept c.args.core.now _ c.in-Some.object _ c.in-Some.is c.kept_from.ensures))

pub loop-object-smaller : goal.loop-object-smaller
loop-object-smaller c =
    found_less c.args.core.now c.args.name c.law_shaped.ensures c.loop-object.left c.kept_from.result c.in-Some.object c.in-Some.is
    c.kept_from.ensures c.tile_above-left.result
    (subst (λ (t : Table). IsTileFrom t (c.in-Some.object + 1) c.tile_above-left.result) c.table.ensures c.tile_above-left.ensures)

pub returns-then-count-out : goal.returns-then-count-out
returns-then-count-out c = λ from before same p.
    stops_at c.args.core.now c.args.name c.loop-object.left c.kept_from.result c.in-Some.object c.in-Some.is c.kept_from.ensures from before
    c.loop-object.out c.loop-object.count (c.loop-object.invariant.telling from before same p)
    (omega (arith, c.if-count-out.true, c.loop-object.auto.out, same))

pub returns : goal.returns
returns c = λ from before same p.
    ends_all c.args.core.now c.args.name c.loop-object.left c.kept_from.result c.law_shaped.ensures c.loop-object.invariant.tile
    c.in_default.is
    c.kept_from.ensures from before c.loop-object.out c.loop-object.count (c.loop-object.invariant.telling from before same p)
    (omega (arith, c.loop-object.invariant.room, c.loop-object.auto.out, same))

pub loop-object-preserved : goal.loop-object-preserved
loop-object-preserved c =
    let core = c.args.core.now in
    let at = c.in-Some.object in
    let next : IsTileFrom core.table (at + 1) c.tile_above-left.result =
    subst (λ (t : Table). IsTileFrom t (at + 1) c.tile_above-left.result) c.table.ensures c.tile_above-left.ensures in
    let old = c.loop-object.invariant in
    let long = c.loop-object.auto.out in
    elim c.match-holder_in.branch [
      | in-Some-holder_in+else-count-out w ↦ record {
        telling = λ from before same p. rw (w.out-is, w.count-is)
            (takes core c.args.name c.law_shaped.ensures c.loop-object.left c.kept_from.result at c.in-Some.is c.kept_from.ensures
            c.tile_above-left.result next from before c.loop-object.out c.loop-object.count (old.telling from before same p)
            w.in-Some-holder_in.holder (listed _ _ _ c.holder_in.ensures w.in-Some-holder_in.is)
            (let other = w.if-count-out.false in let room = old.room in omega (arith, other, room, long, same)));
        tile = next_tile core (at + 1) c.tile_above-left.result next;
        room = (let more = w.count-is in let stays = c.match-holder_in.auto.out in let other = w.if-count-out.false in let room = old.room
            in
            omega (arith, more, stays, other, room));
      }
      | in_default-holder_in w ↦ record {
        telling = λ from before same p. rw (w.out-is, w.count-is)
            (passes core c.args.name c.law_shaped.ensures c.loop-object.left c.kept_from.result at c.in-Some.is c.kept_from.ensures
            c.tile_above-left.result next from before c.loop-object.out c.loop-object.count (old.telling from before same p)
            (unlisted _ _ c.holder_in.ensures w.in_default-holder_in.is));
        tile = next_tile core (at + 1) c.tile_above-left.result next;
        room = (let more = w.count-is in let stays = c.match-holder_in.auto.out in let room = old.room in omega (arith, more, stays, room));
      }
    ]
