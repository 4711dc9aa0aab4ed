use Rattle.std.proofs.Common.{arith, refl}
use Rattle.region_tests.proofs.TableSamples.{fill_take, run_take, run_release, releasable_run, run_fits, known_region, word_inside}
use Rattle.region_tests.proofs.tables.holds_a_run.Goals as goal

pub take_run-requires-clause-covers : goal.take_run-requires-clause-covers
take_run-requires-clause-covers g c =
    let t1 = fill_take _ _ c.in-Ok.ensures c.take_free.ensures.taken in
    (run_fits _ _ _ _ t1 c.counts.ensures.pointers_are c.counts.ensures.weaks_are c.counts.ensures.values_are).0

pub take_run-requires-clause-tight : goal.take_run-requires-clause-tight
take_run-requires-clause-tight g c =
    let t1 = fill_take _ _ c.in-Ok.ensures c.take_free.ensures.taken in
    (run_fits _ _ _ _ t1 c.counts.ensures.pointers_are c.counts.ensures.weaks_are c.counts.ensures.values_are).1

pub release-requires : goal.release-requires
release-requires g c =
    let t1 = fill_take _ _ c.in-Ok.ensures c.take_free.ensures.taken in
    let t2 =
    run_take _ _ _ _ _ t1 c.take_run.ensures.taken c.counts.ensures.pointers_are c.counts.ensures.weaks_are c.counts.ensures.values_are in
    let p = releasable_run _ _ t2 c.new-first.ensures in
    record { known = p.known; releasable = p.releasable; untargeted = p.untargeted }

pub check_kind-requires-3 : goal.check_kind-requires-3
check_kind-requires-3 g c =
    let t1 = fill_take _ _ c.in-Ok.ensures c.take_free.ensures.taken in
    let t2 =
    run_take _ _ _ _ _ t1 c.take_run.ensures.taken c.counts.ensures.pointers_are c.counts.ensures.weaks_are c.counts.ensures.values_are in
    let t3 = run_release _ _ _ t2 c.release.ensures c.new-first.ensures in
    known_region _ _ _ _ t3 refl c.new-first.ensures (omega arith)

pub check_kind-requires-4 : goal.check_kind-requires-4
check_kind-requires-4 g c =
    let t1 = fill_take _ _ c.in-Ok.ensures c.take_free.ensures.taken in
    let t2 =
    run_take _ _ _ _ _ t1 c.take_run.ensures.taken c.counts.ensures.pointers_are c.counts.ensures.weaks_are c.counts.ensures.values_are in
    let t3 = run_release _ _ _ t2 c.release.ensures c.new-first.ensures in
    known_region _ _ _ _ t3 refl c.new-later.ensures (omega arith)

pub check_first_tile-requires : goal.check_first_tile-requires
check_first_tile-requires g c =
    let t1 = fill_take _ _ c.in-Ok.ensures c.take_free.ensures.taken in
    let t2 =
    run_take _ _ _ _ _ t1 c.take_run.ensures.taken c.counts.ensures.pointers_are c.counts.ensures.weaks_are c.counts.ensures.values_are in
    word_inside _ _ _ _ t2 refl c.new-7.ensures (omega arith)

pub check_first_tile-requires-2 : goal.check_first_tile-requires-2
check_first_tile-requires-2 g c =
    let t1 = fill_take _ _ c.in-Ok.ensures c.take_free.ensures.taken in
    let t2 =
    run_take _ _ _ _ _ t1 c.take_run.ensures.taken c.counts.ensures.pointers_are c.counts.ensures.weaks_are c.counts.ensures.values_are in
    word_inside _ _ _ _ t2 refl c.new-9.ensures (omega arith)
