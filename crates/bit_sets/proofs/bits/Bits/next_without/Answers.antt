use Rattle.std.proofs.Common.{◌≡◌, ◌*◌, arith}
use Rattle.bit_sets.proofs.BitWords.{len_is, div_ceil_reaches}
use Rattle.bit_sets.proofs.LowestBits.{only, left_word, only_agree, same_len, none_in_word, none_left, none_passed, only_none}
use Rattle.bit_sets.proofs.LowestBits.{lowest_found, some_below}
use Rattle.bit_sets.proofs.bits.Bits.next_without.Goals as goal

pub loop-index-init : goal.loop-index-init
loop-index-init c = record { begun = omega arith; none = λ a h k. absurd (omega arith) }

pub get-requires : goal.get-requires
get-requires c =
    let even = same_len _ _ _ _ _ _ c.self.view_is c.other.view_is c.requires in
    omega (arith, c.if-index-past.true, c.div_ceil-past.ensures, c.min-end.ensures, c.other.invariant, even)

pub loop-index-preserved-then-index-past : goal.loop-index-preserved-then-index-past
loop-index-preserved-then-index-past c =
    let w = left_word c.self.inside.words c.other.inside.words c.args.from c.next_written-index.result c.saturating_sub-low.result
    c.get_some.result c.get.result c.get_some.ensures c.get.ensures c.get.type_inv (omega (arith, c.saturating_sub-low.ensures))
    (omega (arith, c.saturating_sub-low.ensures, c.loop-index.invariant.begun, c.next_written-index.ensures.within.0)) in
    let before = none_passed (only c.self.inside.words c.other.inside.words) c.self.inside.words c.args.from c.loop-index.index
    c.next_written-index.result (λ a none. only_none c.self.inside.words c.other.inside.words a none) c.next_written-index.ensures.none
    c.loop-index.invariant.none in
    record {
      begun = omega (arith, c.loop-index.invariant.begun, c.next_written-index.ensures.within.0);
      none = none_in_word _ _ _ _ w before (omega (arith, c.if-word-ne0.false));
    }

pub loop-index-preserved : goal.loop-index-preserved
loop-index-preserved c = record {
  begun = omega (arith, c.loop-index.invariant.begun, c.next_written-index.ensures.within.0);
  none = none_passed (only c.self.inside.words c.other.inside.words) c.self.inside.words c.args.from c.loop-index.index
      c.next_written-index.result (λ a none. only_none c.self.inside.words c.other.inside.words a none) c.next_written-index.ensures.none
      c.loop-index.invariant.none;
}

pub returns-then-word-ne0 : goal.returns-then-word-ne0
returns-then-word-ne0 c =
    let even : c.other.inside.len ≡ c.self.inside.len = same_len _ _ _ _ _ _ c.self.view_is c.other.view_is c.requires in
    let w = left_word c.self.inside.words c.other.inside.words c.args.from c.next_written-index.result c.saturating_sub-low.result
    c.get_some.result c.get.result c.get_some.ensures c.get.ensures c.get.type_inv (omega (arith, c.saturating_sub-low.ensures))
    (omega (arith, c.saturating_sub-low.ensures, c.loop-index.invariant.begun, c.next_written-index.ensures.within.0)) in
    let before = none_passed (only c.self.inside.words c.other.inside.words) c.self.inside.words c.args.from c.loop-index.index
    c.next_written-index.result (λ a none. only_none c.self.inside.words c.other.inside.words a none) c.next_written-index.ensures.none
    c.loop-index.invariant.none in
    record {
      lowest = lowest_found _ _ c.self.inside.len _ c.args.to c.min-end.result _ _ _
          (only_agree _ _ _ _ _ _ c.self.view_is c.other.view_is even) w before (omega arith) (omega (arith, c.min-end.ensures))
          (omega (arith, c.min-end.ensures)) c.lowest_of.ensures.lowest c.lowest_of.ensures.below;
      below = some_below _ _ _ c.lowest_of.ensures.below (omega (arith, c.min-end.ensures));
      within = some_below _ _ _ c.lowest_of.ensures.below (omega (arith, c.min-end.ensures, len_is _ _ _ c.self.view_is));
    }

pub returns : goal.returns
returns c =
    let even : c.other.inside.len ≡ c.self.inside.len = same_len _ _ _ _ _ _ c.self.view_is c.other.view_is c.requires in
    record {
      lowest = none_left _ _ c.self.inside.len _ c.args.to (64 * c.loop-index.index)
          (only_agree _ _ _ _ _ _ c.self.view_is c.other.view_is even) c.loop-index.invariant.none
          (omega (arith, c.min-end.ensures, c.loop-index-test.false, c.div_ceil-past.ensures, div_ceil_reaches c.min-end.result));
      below = tt;
      within = tt;
    }
