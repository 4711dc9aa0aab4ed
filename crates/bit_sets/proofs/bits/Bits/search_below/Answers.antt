use Rattle.std.proofs.Common.{◌≡◌, ◌+◌, ◌*◌, ◌/◌, ◌%◌, ◌<◌, ◌≤◌, ℕ, List, slice_index, bit_and, arith}
use Rattle.bit_sets.specs.Bits.{HasNoneBelow}
use Rattle.bit_sets.specs.BitWords.{bit_of}
use Rattle.bit_sets.proofs.BitWords.{high_mask, len_is}
use Rattle.bit_sets.proofs.LowestBits.{IsWord, bits_word, later_word, bits_agree, none_in_word, none_left, none_passed}
use Rattle.bit_sets.proofs.LowestBits.{lowest_found, some_below}
use Rattle.bit_sets.proofs.bits.Bits.search_below.Goals as goal

first_word : (ws : List ℕ) (from w : ℕ) → w ≡ slice_index ws (from / 64)
    → IsWord (bit_of ws) from (from / 64) (bit_and w (high_mask (from % 64)))
first_word ws from w read = bits_word ws from (from / 64) (from % 64) w read (omega arith) (omega arith)

none_before : (ws : List ℕ) (from : ℕ) → HasNoneBelow (bit_of ws) from (64 * (from / 64))
none_before ws from a h k = absurd (omega arith)

-- where the first word has none, those up to the next one that isn't 0 have none
none_up_to : (ws : List ℕ) (from w next : ℕ) → w ≡ slice_index ws (from / 64) → bit_and w (high_mask (from % 64)) ≡ 0
    → ((g : ℕ) → from / 64 + 1 ≤ g → g < next → slice_index ws g ≡ 0) → HasNoneBelow (bit_of ws) from (64 * next)
none_up_to ws from w next read zero zeros = none_passed (bit_of ws) ws from (from / 64 + 1) next (λ a none. none) zeros
    (none_in_word _ _ _ _ (first_word ws from w read) (none_before ws from) zero)

pub returns-then-end-from : goal.returns-then-end-from
returns-then-end-from c = record {
  lowest = none_left _ _ c.self.inside.len c.args.from c.args.to c.args.from (bits_agree _ _ _ c.self.view_is)
      (λ a h k. absurd (omega arith))
      (omega (arith, c.min-end.ensures));
  below = tt;
  within = tt;
}

pub get-requires : goal.get-requires
get-requires c = omega (arith, c.if-end-from.false, c.min-end.ensures, c.self.invariant)

pub returns-then-word-ne0 : goal.returns-then-word-ne0
returns-then-word-ne0 c = record {
  lowest = lowest_found _ _ c.self.inside.len _ c.args.to c.min-end.result _ _ _ (bits_agree _ _ _ c.self.view_is)
      (first_word c.self.inside.words c.args.from c.get.result c.get.ensures) (none_before c.self.inside.words c.args.from) (omega arith)
      (omega (arith, c.min-end.ensures)) (omega (arith, c.min-end.ensures)) c.lowest_of.ensures.lowest c.lowest_of.ensures.below;
  below = some_below _ _ _ c.lowest_of.ensures.below (omega (arith, c.min-end.ensures));
  within = some_below _ _ _ c.lowest_of.ensures.below (omega (arith, c.min-end.ensures, len_is _ _ _ c.self.view_is));
}

pub returns-then-next-past : goal.returns-then-next-past
returns-then-next-past c = record {
  lowest = lowest_found _ _ c.self.inside.len _ c.args.to c.min-end.result _ _ _ (bits_agree _ _ _ c.self.view_is)
      (later_word c.self.inside.words c.args.from c.next_written-next.result c.get_some.result
      (omega (arith, c.next_written-next.ensures.within.0)) c.get_some.ensures c.get_some.type_inv)
      (none_up_to c.self.inside.words c.args.from c.get.result c.next_written-next.result c.get.ensures
      (omega (arith, c.if-word-ne0.false)) c.next_written-next.ensures.none)
      (omega (arith, c.get_some.ensures, c.next_written-next.ensures.found c.if-next-past.true))
      (omega (arith, c.min-end.ensures)) (omega (arith, c.min-end.ensures)) c.lowest_of-then-next-past.ensures.lowest
      c.lowest_of-then-next-past.ensures.below;
  below = some_below _ _ _ c.lowest_of-then-next-past.ensures.below (omega (arith, c.min-end.ensures));
  within = some_below _ _ _ c.lowest_of-then-next-past.ensures.below (omega (arith, c.min-end.ensures, len_is _ _ _ c.self.view_is));
}

pub returns : goal.returns
returns c = record {
  lowest = none_left _ _ c.self.inside.len _ c.args.to _ (bits_agree _ _ _ c.self.view_is)
      (none_up_to c.self.inside.words c.args.from c.get.result c.next_written-next.result c.get.ensures
      (omega (arith, c.if-word-ne0.false)) c.next_written-next.ensures.none)
      (omega (arith, c.min-end.ensures, c.if-next-past.false, c.div_ceil-past.ensures));
  below = tt;
  within = tt;
}
