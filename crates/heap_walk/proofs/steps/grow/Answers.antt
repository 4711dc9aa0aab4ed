use Rattle.std.proofs.Common.{◌≡◌, ◌+◌, ◌-◌, ◌<◌, ◌≤◌, ℕ, suc, Option, Some, length, refl, sym, subst, arith, IsSome}
use Rattle.std.specs.Prelude.{slice_set}
use Rattle.regions.specs.Table.{Table, tile_in}
use Rattle.heap_walk.specs.Starts.{IsTileFrom}
use Rattle.heap_walk.specs.Searching.{IsNewStepOf}
use Rattle.heap_walk.specs.declared.holders.Holder.{Holder}
use Rattle.heap_walk.proofs.Keeping.{kept_tile}
use Rattle.heap_walk.proofs.Entries.{found_kept, next_tile}
use Rattle.heap_walk.proofs.Placing.{found_less}
use Rattle.heap_walk.proofs.Growing.{covered_more, covered_this, grown_more}
use Rattle.heap_walk.proofs.Covering.{covers_all, covers_first, covers_next, grown_first}
use Rattle.heap_walk.proofs.steps.grow.Goals as goal
use Rattle.heap_walk.proofs.steps.grow.Goals.{in-Some-new_step+else-next-eq1, in_default-new_step}

pub loop-object-init : goal.loop-object-init
loop-object-init c =
    let core = c.args.core.now in
    let first : IsTileFrom core.table 0 c.tile_from-left.result =
    subst (λ (t : Table). IsTileFrom t 0 c.tile_from-left.result) c.table.ensures
    (subst (λ (n : ℕ). IsTileFrom c.table.result.now n c.tile_from-left.result) c.new.ensures c.tile_from-left.ensures) in
    record {
      positive = c.requires.positive;
      grown = grown_first core c.args.steps.now c.args.low c.args.last c.args.low c.args.room refl;
      covered = covers_first core c.args.steps.now c.args.low c.args.last c.args.low c.args.room c.tile_from-left.result first;
      tile = next_tile core 0 c.tile_from-left.result first;
      long = refl;
    }

pub tile_above-left-requires : goal.tile_above-left-requires
tile_above-left-requires c =
    subst (λ (t : Table). IsSome (tile_in t c.in-Some.object)) (sym c.table-in-Some.ensures)
    (kept_tile c.args.core.now c.in-Some.object (found_kept c.args.core.now _ c.in-Some.object _ c.in-Some.is c.kept_from.ensures))

pub loop-object-smaller : goal.loop-object-smaller
loop-object-smaller c =
    found_less c.args.core.now 0 c.law_shaped.ensures c.loop-object.left c.kept_from.result c.in-Some.object c.in-Some.is
    c.kept_from.ensures c.tile_above-left.result
    (subst (λ (t : Table). IsTileFrom t (c.in-Some.object + 1) c.tile_above-left.result) c.table-in-Some.ensures c.tile_above-left.ensures)

pub loop-object-preserved : goal.loop-object-preserved
loop-object-preserved c =
    let core = c.args.core.now in
    let at = c.in-Some.object in
    let steps = c.loop-object.steps in
    let low : ℕ = c.args.low in
    let last : ℕ = c.args.last in
    let next : ℕ = c.loop-object.next in
    let room : ℕ = c.args.room in
    let tile : IsTileFrom core.table (at + 1) c.tile_above-left.result =
    subst (λ (t : Table). IsTileFrom t (at + 1) c.tile_above-left.result) c.table-in-Some.ensures c.tile_above-left.ensures in
    let old = c.loop-object.invariant in
    let positive : 0 < next = old.positive in
    let down : next ≤ low = old.grown.down in
    let long : length steps ≡ length c.args.steps.now = old.long in
    elim c.match-new_step.branch [
      | in-Some-new_step+else-next-eq1 w ↦
          let step = w.in-Some-new_step.step in
          let new : IsNewStepOf core at steps low last next room (Some step) =
          subst (λ (o : Option Holder). IsNewStepOf core at steps low last next room o) w.in-Some-new_step.is c.new_step.ensures in
          let below : ℕ = next - 1 in
          let is : next ≡ suc below = omega (arith, positive) in
          let within : below < length steps = omega (arith, positive, down, long, c.requires.down, c.requires.within, c.requires.room) in
          let under : below < room = omega (arith, positive, down, c.requires.down, c.requires.within) in
          record {
            positive = rw w.next-is (let other = w.if-next-eq1.false in omega (arith, positive, other));
            grown = rw (w.steps-is, w.next-is)
                (grown_more core steps low last next room step below is within down new.0 c.args.steps.now old.grown);
            covered = rw (w.steps-is, w.next-is)
                (covers_next core (slice_set steps below step) low last below room c.loop-object.left c.kept_from.result at c.in-Some.is
                c.kept_from.ensures c.tile_above-left.result tile
                (covered_this core steps low last next room step below is within down new.0 at new.1 under)
                (λ a lt. covered_more core steps low last next room step below is within down new.0 a (old.covered a lt)));
            tile = next_tile core (at + 1) c.tile_above-left.result tile;
            long = (let stays = c.match-new_step.auto.steps in omega (arith, stays, long));
          }
      | in_default-new_step w ↦
          let here =
          subst (λ (o : Option Holder). IsNewStepOf core at steps low last next room o) w.in_default-new_step.is c.new_step.ensures in
          record {
            positive = rw w.next-is positive;
            grown = rw (w.steps-is, w.next-is) old.grown;
            covered = rw (w.steps-is, w.next-is)
                (covers_next core steps low last next room c.loop-object.left c.kept_from.result at c.in-Some.is c.kept_from.ensures
                c.tile_above-left.result tile here old.covered);
            tile = next_tile core (at + 1) c.tile_above-left.result tile;
            long = (let stays = c.match-new_step.auto.steps in omega (arith, stays, long));
          }
    ]

pub returns : goal.returns
returns c = (
  c.loop-object.invariant.positive,
  c.loop-object.invariant.grown,
  covers_all c.args.core.now c.loop-object.steps c.args.low c.args.last c.loop-object.next c.args.room c.loop-object.left c.kept_from.result
      c.in_default.is c.kept_from.ensures c.loop-object.invariant.covered,
)
