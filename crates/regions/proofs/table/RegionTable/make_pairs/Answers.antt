use Rattle.regions.proofs.Common.{arith, length, ◌≡◌, ◌+◌, ◌-◌, ℕ, Option, None, ap, ◌∙◌, length-replicate, Object, tile_size}
use Rattle.regions.proofs.Common.{start_added, with_pairs, Starts}
use Rattle.regions.specs.Table.{new_pairs}
use Rattle.regions.proofs.Tiles.Replaced.{filler_fits, pairs_filled}
use Rattle.regions.proofs.Tiles.Within.{tile_within}
use Rattle.regions.proofs.Cards.Entries.{front_sound, noted_sound}
use Rattle.regions.proofs.Words.Fresh.{fresh_size}
use Rattle.regions.proofs.table.RegionTable.make_pairs.Goals as goal

pub write_pairs-requires : goal.write_pairs-requires
write_pairs-requires c =
    let f = tile_within _ _ _ _ _ c.self.invariant.written c.self.view_is c.requires.there in
    omega (arith, f, c.requires.room)

pub overflow_add-word : goal.overflow_add-word
overflow_add-word c =
    let f = filler_fits _ _ _ _ _ _ c.self.invariant.table c.self.view_is c.requires.there in
    omega (arith, f, c.requires.room, c.self.invariant.table.small, c.word.ensures, c.size-taken.ensures)

pub write_remainder-requires-clause-within : goal.write_remainder-requires-clause-within
write_remainder-requires-clause-within c =
    let f = tile_within _ _ _ _ _ c.self.invariant.written c.self.view_is c.requires.there in
    rw c.write_pairs.ensures.written
    (omega (arith, f, c.requires.room, c.word.ensures, c.size-taken.ensures, c.get.ensures.value))

pub cut_front-requires-clause-within : goal.cut_front-requires-clause-within
cut_front-requires-clause-within c =
    let f = filler_fits _ _ _ _ _ _ c.self.invariant.table c.self.view_is c.requires.there in
    omega (arith, f, c.self.invariant.table.small, c.self.invariant.each_card, c.word-2.ensures, c.get-2.ensures.value)

pub cut_front-requires-clause-small : goal.cut_front-requires-clause-small
cut_front-requires-clause-small c =
    let f = filler_fits _ _ _ _ _ _ c.self.invariant.table c.self.view_is c.requires.there in
    omega (arith, f, c.self.invariant.table.small, c.self.invariant.each_card, c.word-2.ensures, c.get-2.ensures.value)

pub invariant_of-self : goal.invariant_of-self
invariant_of-self c =
    let size : c.word.result + c.size-taken.result
    ≡ c.args.at + (2 + c.args.counts.pointers + (c.args.counts.pairs + c.args.counts.pairs) + c.args.counts.values) =
    omega (arith, c.word.ensures, c.size-taken.ensures) in
    let rest : c.get.result - c.size-taken.result
    ≡ c.args.filler - (2 + c.args.counts.pointers + (c.args.counts.pairs + c.args.counts.pairs) + c.args.counts.values) =
    omega (arith, c.get.ensures.value, c.size-taken.ensures) in
    let w = pairs_filled _ _ _ _ c.args.at c.args.name c.args.counts.pointers c.args.counts.pairs c.args.counts.values c.args.filler _ _ _
    _ _ c.self.invariant.table c.self.view_is c.requires.there (omega (arith, c.requires.room)) c.requires.some (omega arith) (omega arith)
    (omega arith)
    c.write_pairs.ensures.all c.write_remainder.ensures.all size rest in
    let long : c.size-taken.result
    ≡ tile_size (Object (new_pairs c.args.name c.args.counts.pointers c.args.counts.pairs c.args.counts.values)) =
    omega (
      arith,
      c.size-taken.ensures,
      fresh_size c.args.name c.args.counts.pointers c.args.counts.pairs c.args.counts.pairs c.args.counts.values,
    ) in
    let before = c.self.inside.weak_starts in
    let flags = c.add.ensures ∙ ap (λ (s : Starts). start_added s c.word-3.result c.get-weaks.result) c.note_pairs.ensures
    ∙ ap (λ (k : ℕ). start_added (with_pairs before) k c.get-weaks.result) c.word-3.ensures
    ∙ ap (λ (n : ℕ). start_added (with_pairs before) c.args.at n) c.get-weaks.ensures.value in
    front_sound _ _ _ _ _ _ _ _ _ (noted_sound _ _ _ _ _ _ _ _ c.self.invariant) c.self.view_is c.cut_front.new.self _ _ c.args.at
    c.args.filler _ (c.args.at + c.size-taken.result) (c.args.at + c.get-2.result) c.args.counts.pairs
    (Object (new_pairs c.args.name c.args.counts.pointers c.args.counts.pairs c.args.counts.values))
    c.requires.there (omega (arith, long)) (omega (arith, c.requires.room, long, c.size-taken.ensures)) tt
    (omega (arith, c.word-2.ensures, long)) (omega (arith, c.word-2.ensures, c.get-2.ensures.value))
    (rw c.word-2.ensures at c.cut_front.ensures)
    (length-replicate {A = Option ℕ} c.args.counts.pairs None) flags (λ off. absurd cc)
    (omega (arith, c.write_pairs.ensures.written, c.write_remainder.ensures.written)) w

pub returns : goal.returns
returns c =
    let size : c.word.result + c.size-taken.result
    ≡ c.args.at + (2 + c.args.counts.pointers + (c.args.counts.pairs + c.args.counts.pairs) + c.args.counts.values) =
    omega (arith, c.word.ensures, c.size-taken.ensures) in
    let rest : c.get.result - c.size-taken.result
    ≡ c.args.filler - (2 + c.args.counts.pointers + (c.args.counts.pairs + c.args.counts.pairs) + c.args.counts.values) =
    omega (arith, c.get.ensures.value, c.size-taken.ensures) in
    (pairs_filled _ _ _ _ c.args.at c.args.name c.args.counts.pointers c.args.counts.pairs c.args.counts.values c.args.filler _ _ _ _ _
    c.self.invariant.table c.self.view_is c.requires.there (omega (arith, c.requires.room)) c.requires.some (omega arith) (omega arith)
    (omega arith) c.write_pairs.ensures.all c.write_remainder.ensures.all size rest).table_is

pub add-requires : goal.add-requires
add-requires c =
    let f = filler_fits _ _ _ _ _ _ c.self.invariant.table c.self.view_is c.requires.there in
    let count = c.self.invariant.weak_count in
    let same = ap (λ (s : Starts). length s.flags) c.note_pairs.ensures in
    omega (arith, f, c.requires.room, count, same, c.word-3.ensures)
