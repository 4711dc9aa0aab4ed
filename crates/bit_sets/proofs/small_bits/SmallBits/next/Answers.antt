use Rattle.std.proofs.Common.{◌*◌, ◌<◌, length, arith, None}
use Rattle.std.proofs.lemmas.List.{get_or_read}
use Rattle.bit_sets.proofs.BitWords.{div_ceil_reaches, len_is}
use Rattle.bit_sets.proofs.LowestBits.{bits_word, bits_agree, none_in_word, none_left, none_at_all, lowest_found, some_below}
use Rattle.bit_sets.proofs.small_bits.SmallBits.next.Goals as goal

pub loop-index-init : goal.loop-index-init
loop-index-init c = λ a h k. absurd (omega arith)

pub loop-index-preserved : goal.loop-index-preserved
loop-index-preserved c =
    let inside : c.loop-index.index < length c.self.inside.words.items = omega (arith, c.self.invariant, c.div_ceil-index-end.ensures) in
    let w = bits_word c.self.inside.words.items c.args.from c.loop-index.index c.saturating_sub-low.result c.index.result.now
    (get_or_read c.self.inside.words.items _ _ inside c.index.ensures 0) (omega (arith, c.saturating_sub-low.ensures))
    (omega (arith, c.saturating_sub-low.ensures)) in
    none_in_word _ _ _ _ w c.loop-index.invariant c.if-word-ne0.false

pub returns-then-word-ne0 : goal.returns-then-word-ne0
returns-then-word-ne0 c =
    let inside : c.loop-index.index < length c.self.inside.words.items = omega (arith, c.self.invariant, c.div_ceil-index-end.ensures) in
    let w = bits_word c.self.inside.words.items c.args.from c.loop-index.index c.saturating_sub-low.result c.index.result.now
    (get_or_read c.self.inside.words.items _ _ inside c.index.ensures 0) (omega (arith, c.saturating_sub-low.ensures))
    (omega (arith, c.saturating_sub-low.ensures)) in
    record {
      lowest = none_at_all c.args.self.now c.args.from c.self.inside.len _ (len_is _ _ _ c.self.view_is)
          (lowest_found _ _ c.self.inside.len _ c.self.inside.len c.self.inside.len _ _ _ (bits_agree _ _ _ c.self.view_is) w
          c.loop-index.invariant (omega arith) (omega arith) (omega arith) c.lowest_of.ensures.lowest c.lowest_of.ensures.below);
      within = some_below _ _ _ c.lowest_of.ensures.below (omega (arith, len_is _ _ _ c.self.view_is));
    }

pub returns : goal.returns
returns c = record {
  lowest = none_at_all c.args.self.now c.args.from c.self.inside.len None (len_is _ _ _ c.self.view_is)
      (none_left _ _ c.self.inside.len _ c.self.inside.len (64 * c.loop-index.index) (bits_agree _ _ _ c.self.view_is)
      c.loop-index.invariant (omega (arith, div_ceil_reaches c.self.inside.len, c.div_ceil-index-end.ensures)));
  within = tt;
}
