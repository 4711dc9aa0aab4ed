use Rattle.regions.proofs.Common.{row_fits, arith, ◌≡◌, suc, ◌+◌, length, drop, front_count}
use Rattle.regions.proofs.LongRuns.RunGone.{rest, rests_counted, release_by, release_room, rows_small}
use Rattle.regions.proofs.Rows.UsedBelow.{used_written}
use Rattle.regions.proofs.Tiles.Making.{known}
use Rattle.regions.proofs.Rows.Counting.{count_released, few_released, release_used}
use Rattle.regions.proofs.Cards.Entries.{flag_count, region_words, release_sound}
use Rattle.regions.proofs.Tiles.WeakStarts.{clears}
use Rattle.regions.proofs.table.RegionTable.release.Goals as goal

pub rests_from-rests-requires : goal.rests_from-rests-requires
rests_from-rests-requires c =
    let room = release_room _ _ _ _ _ c.self.invariant.table c.self.view_is c.requires.known c.requires.releasable c.requires.untargeted in
    rw c.deref.ensures.value (omega (arith, room, c.number-at.ensures))

pub overflow_add-rests : goal.overflow_add-rests
overflow_add-rests c =
    let room = release_room _ _ _ _ _ c.self.invariant.table c.self.view_is c.requires.known c.requires.releasable c.requires.untargeted in
    let count = rests_counted c.self.inside.rows.items _ c.args.region _ c.number-at.ensures
    (rw c.deref.ensures.value at c.rests_from-rests.ensures) in
    omega (arith, count, room, rows_small _ _ _ c.self.invariant.table)

-- all free regions are among the rows
pub overflow_add-self-2 : goal.overflow_add-self-2
overflow_add-self-2 c =
    let count = rests_counted c.self.inside.rows.items _ c.args.region _ c.number-at.ensures
    (rw c.deref.ensures.value at c.rests_from-rests.ensures) in
    let total : c.rests_from-rests.result + 1 ≡ suc (front_count rest (drop (suc c.args.region) c.self.inside.rows.items)) =
    omega (arith, count) in
    let number : c.self.inside.rows.len ≡ length c.self.inside.rows.items = omega arith in
    let rows = rw c.deref_mut.ensures.value at c.write_free.ensures in
    let room = release_room _ _ _ _ _ c.self.invariant.table c.self.view_is c.requires.known c.requires.releasable c.requires.untargeted in
    let n = known _ _ _ _ _ c.self.view_is c.requires.known in
    let few = few_released _ _ _ _ _ _ _ n.in_rows (release_used _ _ _ _ _ n c.requires.releasable)
    c.number-at.ensures (omega (arith, room, count, c.number-at.ensures)) total c.self.invariant.free_is number rows in
    omega (arith, few, number, rows_small _ _ _ c.self.invariant.table)

pub write_free-requires : goal.write_free-requires
write_free-requires c =
    let room = release_room _ _ _ _ _ c.self.invariant.table c.self.view_is c.requires.known c.requires.releasable c.requires.untargeted in
    let count = rests_counted c.self.inside.rows.items _ c.args.region _ c.number-at.ensures
    (rw c.deref.ensures.value at c.rests_from-rests.ensures) in
    rw c.deref_mut.ensures.value (omega (arith, count, room, c.number-at.ensures))

pub invariant_of-self : goal.invariant_of-self
invariant_of-self c =
    let count = rests_counted c.self.inside.rows.items _ c.args.region _ c.number-at.ensures
    (rw c.deref.ensures.value at c.rests_from-rests.ensures) in
    let total : c.rests_from-rests.result + 1 ≡ suc (front_count rest (drop (suc c.args.region) c.self.inside.rows.items)) =
    omega (arith, count) in
    let number : c.self.inside.rows.len ≡ length c.self.inside.rows.items = omega arith in
    let rows = rw c.deref_mut.ensures.value at c.write_free.ensures in
    let room = release_room _ _ _ _ _ c.self.invariant.table c.self.view_is c.requires.known c.requires.releasable c.requires.untargeted in
    let low = c.min-self-inside.ensures in
    let w = release_by _ _ _ _ _ _ _ _ _ c.self.invariant.table c.self.view_is c.requires.known c.requires.releasable c.requires.untargeted
    c.number-at.ensures total number rows in
    let n = known _ _ _ _ _ c.self.view_is c.requires.known in
    let clear = clears _ _ _ c.args.region _ c.number.ensures (region_words _ _ _ _ _ _ _ _ _ c.self.invariant c.self.view_is)
    c.release.ensures.region_words c.release.ensures.len c.release.ensures.pairs c.release.ensures.flags in
    release_sound _ _ _ _ _ _ _ _ _ c.self.invariant c.self.view_is _ _ _ _ _ c.args.region c.requires.known c.requires.releasable
    (used_written c.self.inside.rows.items _ _ c.self.inside.lowest c.number-at.result (c.rests_from-rests.result + 1)
    c.min-self-inside.result _ c.self.invariant.used_below (omega (arith, room, count, c.number-at.ensures))
    (omega (arith, low)) (omega (arith, low)) number rows)
    (let more = count_released _ _ _ _ _ _ _ n.in_rows (release_used _ _ _ _ _ n c.requires.releasable)
    c.number-at.ensures (omega (arith, room, count, c.number-at.ensures)) total c.self.invariant.free_is number rows in
    omega arith)
    clear (omega arith) w

pub returns : goal.returns
returns c =
    let count = rests_counted c.self.inside.rows.items _ c.args.region _ c.number-at.ensures
    (rw c.deref.ensures.value at c.rests_from-rests.ensures) in
    let total : c.rests_from-rests.result + 1 ≡ suc (front_count rest (drop (suc c.args.region) c.self.inside.rows.items)) =
    omega (arith, count) in
    let number : c.self.inside.rows.len ≡ length c.self.inside.rows.items = omega arith in
    let rows = rw c.deref_mut.ensures.value at c.write_free.ensures in
    (release_by _ _ _ _ _ _ _ _ _ c.self.invariant.table c.self.view_is c.requires.known c.requires.releasable
    c.requires.untargeted c.number-at.ensures total number rows).table_is

pub release-requires : goal.release-requires
release-requires c =
    let count = flag_count _ _ _ _ _ _ _ _ _ c.self.invariant c.self.view_is in
    let words = region_words _ _ _ _ _ _ _ _ _ c.self.invariant c.self.view_is in
    rw (c.number.ensures, words, count)
    (row_fits c.args.region c.args.self.now.words_per_region (length c.args.self.now.regions)
    c.args.self.now.words_per_region c.requires.known (omega arith))
