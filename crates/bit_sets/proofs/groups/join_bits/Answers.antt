use Rattle.std.proofs.Common.{◌<◌, ◌*◌, ◌/◌, ◌∙◌, ℕ, min, length, length-set, slice_index, refl, ap, arith}
use Rattle.bit_sets.proofs.BitRanges.{done_none, done_all}
use Rattle.bit_sets.proofs.BitFilters.{or_none}
use Rattle.bit_sets.proofs.BitUnions.{put_by_join, joined_in, joined_more, joined_same}
use Rattle.bit_sets.proofs.groups.join_bits.Goals as goal

pub loop-index-init : goal.loop-index-init
loop-index-init c = record {
  len = refl;
  bits = done_none (joined_in c.args.members.now c.args.words.now) c.args.words.now c.args.from
      (min c.args.to (64 * (c.args.from / 64))) (omega arith) (λ a. or_none _);
}

pub loop-index-preserved : goal.loop-index-preserved
loop-index-preserved c =
    let ws = c.loop-index.words in
    let inside : c.loop-index.index < length ws =
    omega (arith, c.requires.own, c.div_ceil-index-end.ensures, c.loop-index.invariant.len) in
    record {
      len = ap length c.join.ensures ∙ length-set {A = ℕ} ws c.loop-index.index _ ∙ c.loop-index.invariant.len;
      bits = rw c.join.ensures (joined_more c.args.members.now c.args.words.now ws c.args.from c.args.to c.loop-index.index
          (slice_index ws c.loop-index.index) c.get.result _ refl c.get.ensures inside
          (put_by_join c.loop-index.index c.args.from c.args.to (slice_index ws c.loop-index.index) c.get.result c.mask_of.result
          c.mask_of.ensures)
          c.loop-index.invariant.bits);
    }

pub loop-index-preserved-then-more-eq0 : goal.loop-index-preserved-then-more-eq0
loop-index-preserved-then-more-eq0 c =
    let ws = c.loop-index.words in
    let inside : c.loop-index.index < length ws =
    omega (arith, c.requires.own, c.div_ceil-index-end.ensures, c.loop-index.invariant.len) in
    record {
      len = c.loop-index.invariant.len;
      bits = joined_same c.args.members.now c.args.words.now ws c.args.from c.args.to c.loop-index.index
          (slice_index ws c.loop-index.index) c.get.result c.mask_of.result refl c.get.ensures inside c.mask_of.ensures
          (omega (arith, c.if-more-eq0.true)) c.loop-index.invariant.bits;
    }

pub returns-clause-bits : goal.returns-clause-bits
returns-clause-bits c =
    done_all (joined_in c.args.members.now c.args.words.now) c.loop-index.words c.args.from c.args.to c.loop-index.index
    c.div_ceil-index-end.result c.div_ceil-index-end.ensures c.loop-index-test.false c.loop-index.invariant.bits
