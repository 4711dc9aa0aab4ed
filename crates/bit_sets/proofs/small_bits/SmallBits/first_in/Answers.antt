use Rattle.std.proofs.Common.{arith}
use Rattle.std.proofs.lemmas.List.{get_or_read}
use Rattle.bit_sets.proofs.BitWords.{len_is, group_inside}
use Rattle.bit_sets.proofs.LowestBits.{first_of_group}
use Rattle.bit_sets.proofs.small_bits.SmallBits.first_in.Goals as goal

pub index-word-requires : goal.index-word-requires
index-word-requires c =
    omega (arith, group_inside _ _ _ c.args.group c.self.view_is c.self.invariant c.requires.known, c.self.inside.words.ok.0)

pub overflow_add-result : goal.overflow_add-result
overflow_add-result c =
    let inside = group_inside _ _ _ c.args.group c.self.view_is c.self.invariant c.requires.known in
    let first = first_of_group _ _ _ c.args.group c.index-word.result.now c.self.view_is
    (get_or_read c.self.inside.words.items _ _ inside c.index-word.ensures 0) (omega arith) c.requires.some in
    omega (arith, first.inside, c.law.ensures, len_is _ _ _ c.self.view_is)

pub returns : goal.returns
returns c =
    let inside = group_inside _ _ _ c.args.group c.self.view_is c.self.invariant c.requires.known in
    let first = first_of_group _ _ _ c.args.group c.index-word.result.now c.self.view_is
    (get_or_read c.self.inside.words.items _ _ inside c.index-word.ensures 0) (omega arith) c.requires.some in
    record {
      lowest = first.lowest;
      below = omega (arith, first.near);
      within = omega (arith, first.inside, len_is _ _ _ c.self.view_is);
    }
