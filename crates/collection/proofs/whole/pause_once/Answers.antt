use Rattle.std.proofs.Common.{arith}
use Rattle.std.proofs.lemmas.Bool.{ltb-false}
use Rattle.regions.specs.Table.{is_free}
use Rattle.std.proofs.lemmas.List.Sums.{count_by-le-length}
use Rattle.step_core.specs.declared.candidates.Choice.TheVariants as choices
use Rattle.collection.proofs.Cycles.{paused_stands}
use Rattle.collection.proofs.Settled.{quiet_settled, free_settled}
use Rattle.collection.proofs.Packed.{packed, quiet_stays, half_small}
use Rattle.collection.proofs.whole.pause_once.Goals as goal

pub returns-clause-quiet : goal.returns-clause-quiet
returns-clause-quiet g c s q =
    let (n, w, is, settled) = c.take.ensures.does in
    let z = settled.1 in
    quiet_stays choices.Best 4294967295 n w settled.0 c.take.new.core z.shaped settled.2 z.core c.take.ensures.shaped s
    (paused_stands 4294967295 c.take.result s c.take.new.core (c.take.ensures.follows s q.stands))
    (quiet_settled c.args.core.now settled.0 z s q)

pub returns-clause-packed : goal.returns-clause-packed
returns-clause-packed g c e s q two =
    let (n, w, is, settled) = c.take.ensures.does in
    let z = settled.1 in
    let f = free_settled c.args.core.now settled.0 z in
    let a = ltb-false c.free_regions-before.result c.free_regions.result e in
    let b = c.free_regions-before.ensures in
    let d = c.free_regions.ensures in
    packed 4294967295 n w settled.0 c.take.new.core z.core z.shaped c.take.ensures.shaped settled.2 s
    (quiet_settled c.args.core.now settled.0 z s q) (omega (arith, two, f)) (omega (arith, a, b, d, f))
    (half_small settled.0.table 4294967295 z.shaped (omega arith))

pub returns-clause-within : goal.returns-clause-within
returns-clause-within g c =
    let a = count_by-le-length is_free c.take.new.core.table.regions in
    let b = c.take.ensures.after.layers.region_count in
    omega (arith, a, b)
