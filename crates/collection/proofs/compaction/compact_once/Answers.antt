use Rattle.std.proofs.Common.{◌≡◌, ◌≤◌, ℕ, ap, arith, false, inl, inr, nat_lt, ltb-true}
use Rattle.std.proofs.lemmas.Bool.{cases_lt, lt-ltb}
use Rattle.heap_words.specs.declared.config.Config.{Config}
use Rattle.collection.proofs.Cycles.{compacted_stands}
use Rattle.collection.proofs.Settled.{quiet_settled, free_settled, end_settled, packed_settled, exact_settled}
use Rattle.collection.proofs.Slides.{compacted_packed, compacted_quiet, compacted_below}
use Rattle.collection.proofs.compaction.compact_once.Goals as goal

as_high : (x y : ℕ) → nat_lt x y ≡ false → y ≤ x
as_high x y e = elim (cases_lt x y) [ inl less ↦ absurd (let yes = lt-ltb x y less in cc) | inr le ↦ le ]

pub returns : goal.returns
returns g c =
    let b : ℕ = c.config-words.result.words in
    let t = c.take.ensures in
    let (n, w, is, settled) = t.does in
    let d = settled.0 in
    let z = settled.1 in
    let p = settled.2 in
    let end = end_settled c.args.core.now d z in
    let free = free_settled c.args.core.now d z in
    let words = ap (λ (x : Config). x.words) c.config-words.ensures.config in
    let same : d.table.words_per_region ≡ b = omega (arith, t.before.layers.region_size, words, z.cleared.size) in
    record {
      collects = t.collects;
      quiet = λ s q. compacted_quiet b n w d c.take.new.core z.core z.shaped p t.shaped s
          (compacted_stands b c.take.result s c.take.new.core (t.follows s q.stands)) (quiet_settled c.args.core.now d z s q);
      packed = λ graph packed. compacted_packed b n w d c.take.new.core z.core z.shaped p
          (omega (arith, same)) graph (packed_settled c.args.core.now d z graph packed);
      lower = λ e. (let less = ltb-true c.end_of_ordinary.result c.end_of_ordinary-end.result e in
          omega (arith, less, c.end_of_ordinary.ensures, c.end_of_ordinary-end.ensures));
      below = λ e s q two. compacted_below b n w d c.take.new.core z.core z.shaped p
          (let le = as_high c.end_of_ordinary.result c.end_of_ordinary-end.result e in
          omega (arith, le, end, c.end_of_ordinary.ensures, c.end_of_ordinary-end.ensures))
          (exact_settled c.args.core.now d z q.exact) (omega (arith, two, free)) (omega (arith, same)) (omega (arith, same));
    }
