use Rattle.regions.proofs.Common.{arith, ◌≡◌, ◌+◌, ◌*◌, ◌≤◌, length, Option, None, ap, ◌∙◌, ℕ, length-replicate}
use Rattle.regions.proofs.Common.{start_added, with_pairs, Starts}
use Rattle.regions.proofs.LongRuns.RunMade.{run_paired, run_there}
use Rattle.regions.proofs.Tiles.Making.{size_is_of}
use Rattle.regions.proofs.Rows.UsedBelow.{used_written, used_le, front_free}
use Rattle.regions.proofs.Rows.Counting.{count_run, run_counted}
use Rattle.regions.proofs.Cards.Entries.{run_sound, noted_sound}
use Rattle.regions.specs.Table.{new_pairs}
use Rattle.regions.proofs.Words.Fresh.{fresh_size}
use Rattle.regions.proofs.table.RegionTable.make_run_of_pairs.Goals as goal

pub overflow_mul-bottom : goal.overflow_mul-bottom
overflow_mul-bottom c =
    let (e, f) = run_there _ _ _ _ _ _ c.self.invariant.table c.self.view_is c.requires.lowest in
    rw c.number-number.ensures (omega (arith, f.ends, c.self.invariant.table.small))

pub overflow_add-end : goal.overflow_add-end
overflow_add-end c =
    let (e, f) = run_there _ _ _ _ _ _ c.self.invariant.table c.self.view_is c.requires.lowest in
    let covers : 2 + c.args.counts.pointers + (c.args.counts.pairs + c.args.counts.pairs) + c.args.counts.values
    ≤ c.args.count * c.self.inside.words_per_region =
    rw (size_is_of _ _ _ _ c.self.view_is) c.requires.covers in
    rw c.number-number.ensures (omega (arith, f.ends, covers, c.size-size.ensures, c.self.invariant.table.small))

pub zero_below-requires : goal.zero_below-requires
zero_below-requires c =
    let (e, f) = run_there _ _ _ _ _ _ c.self.invariant.table c.self.view_is c.requires.lowest in
    let covers : 2 + c.args.counts.pointers + (c.args.counts.pairs + c.args.counts.pairs) + c.args.counts.values
    ≤ c.args.count * c.self.inside.words_per_region =
    rw (size_is_of _ _ _ _ c.self.view_is) c.requires.covers in
    rw c.number-number.ensures (omega (arith, f.ends, covers, c.size-size.ensures))

pub write_pairs-requires : goal.write_pairs-requires
write_pairs-requires c = rw c.new.ensures (omega (arith, c.size-size.ensures, c.zero_below.ensures.written))

pub write_run-requires-clause-within : goal.write_run-requires-clause-within
write_run-requires-clause-within c =
    let (e, f) = run_there _ _ _ _ _ _ c.self.invariant.table c.self.view_is c.requires.lowest in
    rw (c.deref_mut.ensures.value, c.number-number.ensures) f.room

pub write_run-requires-clause-small : goal.write_run-requires-clause-small
write_run-requires-clause-small c =
    let (e, f) = run_there _ _ _ _ _ _ c.self.invariant.table c.self.view_is c.requires.lowest in
    omega (arith, f.whole, c.self.invariant.table.small)

pub put_tile-requires : goal.put_tile-requires
put_tile-requires c =
    let (e, f) = run_there _ _ _ _ _ _ c.self.invariant.table c.self.view_is c.requires.lowest in
    let covers : 2 + c.args.counts.pointers + (c.args.counts.pairs + c.args.counts.pairs) + c.args.counts.values
    ≤ c.args.count * c.self.inside.words_per_region =
    rw (size_is_of _ _ _ _ c.self.view_is) c.requires.covers in
    record {
      within = rw c.number-number.ensures (omega (arith, f.ends, covers, c.self.invariant.each_card, c.size-size.ensures));
      small = rw c.number-number.ensures (omega (arith, f.ends, covers, c.self.invariant.table.small, c.size-size.ensures));
    }

pub invariant_of-self : goal.invariant_of-self
invariant_of-self c =
    let (e, f) = run_there _ _ _ _ _ _ c.self.invariant.table c.self.view_is c.requires.lowest in
    let number : c.self.inside.rows.len ≡ length c.self.inside.rows.items = omega arith in
    let size : c.size-size.result ≡ 2 + c.args.counts.pointers + (c.args.counts.pairs + c.args.counts.pairs) + c.args.counts.values =
    omega (arith, c.size-size.ensures) in
    let bottom : c.new.result ≡ c.args.first * c.self.inside.words_per_region =
    c.new.ensures ∙ ap (λ (k : ℕ). k * c.self.inside.words_per_region) c.number-number.ensures in
    let rows = rw (c.deref_mut.ensures.value, c.number-number.ensures) at c.write_run.ensures in
    let w = run_paired _ _ _ _ _ _ c.args.name c.args.counts.pointers c.args.counts.pairs c.args.counts.values _ _ _ _ _
    c.self.invariant.table c.self.view_is e c.requires.positive c.requires.some c.requires.covers c.requires.tight (omega arith)
    (omega arith) (omega arith)
    bottom size number (rw c.zero_below.ensures.all at c.write_pairs.ensures.all) rows in
    let place : ℕ = c.number-number.result * c.self.inside.words_per_region in
    let flags = c.add.ensures ∙ ap (λ (s : Starts). start_added s place c.get-weaks.result) c.note_pairs.ensures
    ∙ ap (λ (n : ℕ). start_added (with_pairs c.self.inside.weak_starts) place n) c.get-weaks.ensures.value in
    run_sound _ _ _ _ _ _ _ _ _ (noted_sound _ _ _ _ _ _ _ _ c.self.invariant) c.self.view_is _ _ _ _ _ _ c.args.first c.args.count _ _
    c.args.counts.pairs (new_pairs c.args.name c.args.counts.pointers c.args.counts.pairs c.args.counts.values) c.requires.positive
    c.requires.lowest
    (ap (λ (k : ℕ). k * c.self.inside.words_per_region) c.number-number.ensures
    ∙ ap (λ (m : ℕ). c.args.first * m) (size_is_of _ _ _ _ c.self.view_is))
    (omega (arith, size, fresh_size c.args.name c.args.counts.pointers c.args.counts.pairs c.args.counts.pairs c.args.counts.values))
    c.put_tile.ensures (length-replicate {A = Option ℕ} c.args.counts.pairs None) flags (λ off. absurd cc)
    (used_written c.self.inside.rows.items _ _ c.self.inside.lowest c.args.first c.args.count c.self.inside.lowest _
    c.self.invariant.used_below (omega (arith, f.room))
    (used_le c.self.inside.rows.items c.self.inside.lowest c.args.first c.self.invariant.used_below
    (front_free c.self.inside.rows.items c.args.first c.args.count c.requires.positive f.free)) (omega arith) number rows)
    (let n = count_run _ _ _ _ _ _ _ _ f.room f.free c.self.invariant.free_is number rows in omega arith)
    (omega (arith, c.zero_below.ensures.written, c.write_pairs.ensures.written))
    (omega (arith, c.zero_below.ensures.written, c.write_pairs.ensures.written)) w

pub returns : goal.returns
returns c =
    let (e, f) = run_there _ _ _ _ _ _ c.self.invariant.table c.self.view_is c.requires.lowest in
    let number : c.self.inside.rows.len ≡ length c.self.inside.rows.items = omega arith in
    let size : c.size-size.result ≡ 2 + c.args.counts.pointers + (c.args.counts.pairs + c.args.counts.pairs) + c.args.counts.values =
    omega (arith, c.size-size.ensures) in
    let bottom : c.new.result ≡ c.args.first * c.self.inside.words_per_region =
    c.new.ensures ∙ ap (λ (k : ℕ). k * c.self.inside.words_per_region) c.number-number.ensures in
    let rows = rw (c.deref_mut.ensures.value, c.number-number.ensures) at c.write_run.ensures in
    (run_paired _ _ _ _ _ _ c.args.name c.args.counts.pointers c.args.counts.pairs c.args.counts.values _ _ _ _ _
    c.self.invariant.table c.self.view_is e c.requires.positive c.requires.some c.requires.covers c.requires.tight (omega arith)
    (omega arith) (omega arith) bottom size number (rw c.zero_below.ensures.all at c.write_pairs.ensures.all) rows).table_is

pub add-requires : goal.add-requires
add-requires c =
    let (e, f) = run_there _ _ _ _ _ _ c.self.invariant.table c.self.view_is c.requires.lowest in
    let covers : 2 + c.args.counts.pointers + (c.args.counts.pairs + c.args.counts.pairs) + c.args.counts.values
    ≤ c.args.count * c.self.inside.words_per_region =
    rw (size_is_of _ _ _ _ c.self.view_is) c.requires.covers in
    let count = c.self.invariant.weak_count in
    let same = ap (λ (s : Starts). length s.flags) c.note_pairs.ensures in
    rw c.number-number.ensures (omega (arith, f.ends, covers, count, same))

pub overflow_sub-self : goal.overflow_sub-self
overflow_sub-self c =
    let (e, f) = run_there _ _ _ _ _ _ c.self.invariant.table c.self.view_is c.requires.lowest in
    run_counted c.self.inside.rows.items c.args.first _ _ f.free c.self.invariant.free_is
