use Rattle.std.proofs.Common.{arith}
use Rattle.region_tests.proofs.TableSamples.{move_forward, move_release, forwardable4, tile5, releasable5, known6}
use Rattle.region_tests.proofs.tables.moves_an_object.Goals as goal

pub forward-requires : goal.forward-requires
forward-requires g c =
    let p = forwardable4 _ _ _ c.in_ok-table.ensures c.new-object.ensures c.new-copy.ensures in
    let o = c.new-object.ensures in
    let q = c.new-copy.ensures in
    record { object = p.object; ordinary = p.ordinary; copy = p.copy; apart = omega arith; untargeted = p.untargeted }

pub target-requires : goal.target-requires
target-requires g c =
    let t5 = move_forward _ _ _ _ c.in_ok-table.ensures c.forward.ensures c.new-object.ensures c.new-copy.ensures in
    tile5 _ _ t5 c.new-object.ensures

pub tile-requires : goal.tile-requires
tile-requires g c =
    let t5 = move_forward _ _ _ _ c.in_ok-table.ensures c.forward.ensures c.new-object.ensures c.new-copy.ensures in
    tile5 _ _ t5 c.new-object.ensures

pub release-requires : goal.release-requires
release-requires g c =
    let t5 = move_forward _ _ _ _ c.in_ok-table.ensures c.forward.ensures c.new-object.ensures c.new-copy.ensures in
    let p = releasable5 _ _ t5 c.new-from.ensures in
    record { known = p.known; releasable = p.releasable; untargeted = p.untargeted }

pub check_kind-requires : goal.check_kind-requires
check_kind-requires g c =
    let t5 = move_forward _ _ _ _ c.in_ok-table.ensures c.forward.ensures c.new-object.ensures c.new-copy.ensures in
    let t6 = move_release _ _ _ t5 c.release.ensures c.new-from.ensures in
    known6 _ _ _ t6 c.new-from.ensures (omega arith)

pub check_top-requires : goal.check_top-requires
check_top-requires g c =
    let t5 = move_forward _ _ _ _ c.in_ok-table.ensures c.forward.ensures c.new-object.ensures c.new-copy.ensures in
    let t6 = move_release _ _ _ t5 c.release.ensures c.new-from.ensures in
    known6 _ _ _ t6 c.new-to.ensures (omega arith)
