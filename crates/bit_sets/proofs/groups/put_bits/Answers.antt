use Rattle.std.proofs.Common.{◌<◌, ◌*◌, ◌/◌, ◌∙◌, ℕ, min, length, length-set, slice_index, refl, ap, arith}
use Rattle.bit_sets.proofs.BitRanges.{put_by, put_in, done_none, put_more, done_all}
use Rattle.bit_sets.proofs.groups.put_bits.Goals as goal

pub loop-index-init : goal.loop-index-init
loop-index-init c = record {
  len = refl;
  bits = done_none (put_in c.args.value c.args.words.now) c.args.words.now c.args.from (min c.args.to (64 * (c.args.from / 64)))
      (omega arith) (λ a. refl);
}

pub loop-index-preserved : goal.loop-index-preserved
loop-index-preserved c =
    let ws = c.loop-index.words in
    let inside : c.loop-index.index < length ws =
    omega (arith, c.requires, c.div_ceil-index-end.ensures, c.loop-index.invariant.len) in
    record {
      len = ap length c.put_word.ensures ∙ length-set {A = ℕ} ws c.loop-index.index _ ∙ c.loop-index.invariant.len;
      bits = rw c.put_word.ensures (put_more c.args.value c.args.words.now ws c.args.from c.args.to c.loop-index.index
          (slice_index ws c.loop-index.index) _ refl inside
          (put_by c.args.value c.loop-index.index c.args.from c.args.to (slice_index ws c.loop-index.index) c.mask_of.result
          c.mask_of.type_inv c.mask_of.ensures)
          c.loop-index.invariant.bits);
    }

pub returns-clause-bits : goal.returns-clause-bits
returns-clause-bits c =
    done_all (put_in c.args.value c.args.words.now) c.loop-index.words c.args.from c.args.to c.loop-index.index c.div_ceil-index-end.result
    c.div_ceil-index-end.ensures c.loop-index-test.false c.loop-index.invariant.bits
