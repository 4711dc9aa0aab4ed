use Rattle.std.proofs.Common.{ap, subst, sym, arith, ℕ}
use Rattle.heap_words.specs.declared.config.Config.{Config}
use Rattle.collection.specs.Rooms.{HasRun, TakesRegion}
use Rattle.collection.proofs.Leaving.{clash}
use Rattle.collection.proofs.Spared.{run_full, run_spared, small_full, small_spared}
use Rattle.collection.proofs.room.is_spared.Goals as goal

pub returns-then-free_regions-gt2-clause-spared : goal.returns-then-free_regions-gt2-clause-spared
returns-then-free_regions-gt2-clause-spared c e =
    let a = c.if-from.true in
    let b = c.from.ensures in
    let d = c.from-2.ensures in
    let f = ap (λ (x : Config). x.words) c.config.ensures.config in
    let h = c.law_remembers.ensures.core.layers.region_size in
    let i = c.requires.asked.size in
    let j = c.if-free_regions-gt2.true in
    let k = c.free_regions.ensures in
    small_spared c.args.core.now c.args.op.now c.requires.asked.new (omega (arith, a, b, d, f, h, i)) (omega (arith, j, k))

pub returns-else-from-clause-spared : goal.returns-else-from-clause-spared
returns-else-from-clause-spared c e =
    let a = c.if-from.false in
    let b = c.from.ensures in
    let d = c.from-2.ensures in
    let f = ap (λ (x : Config). x.words) c.config.ensures.config in
    let h = c.law_remembers.ensures.core.layers.region_size in
    let i = c.requires.asked.size in
    run_spared c.args.core.now c.args.op.now c.requires.asked.new (omega (arith, a, b, d, f, h, i))
    (subst (λ (n : ℕ). HasRun c.args.core.now n) c.requires.asked.size (c.has_run.ensures.0 e))

pub returns-else-free_regions-gt2-clause-full : goal.returns-else-free_regions-gt2-clause-full
returns-else-free_regions-gt2-clause-full c e =
    let i = c.requires.asked.size in
    let j = c.if-free_regions-gt2.false in
    let k = c.free_regions.ensures in
    let takes = subst (λ (n : ℕ). TakesRegion c.args.core.now c.args.op.now.mutator n) i (c.fits_open.ensures.takes e) in
    small_full c.args.core.now c.args.op.now c.requires.asked.new (omega (arith, j, k)) takes

pub returns-else-from-clause-full : goal.returns-else-from-clause-full
returns-else-from-clause-full c e =
    let a = c.if-from.false in
    let b = c.from.ensures in
    let d = c.from-2.ensures in
    let f = ap (λ (x : Config). x.words) c.config.ensures.config in
    let h = c.law_remembers.ensures.core.layers.region_size in
    let i = c.requires.asked.size in
    run_full c.args.core.now c.args.op.now c.requires.asked.new (omega (arith, a, b, d, f, h, i))
    (λ run. clash c.has_run.result (c.has_run.ensures.1 (subst (λ (n : ℕ). HasRun c.args.core.now n) (sym i) run)) e)
