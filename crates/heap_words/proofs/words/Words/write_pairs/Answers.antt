use Rattle.std.proofs.Common.{arith, ◌+◌, ℕ}
use Rattle.std.proofs.lemmas.List.{length-replicate}
use Rattle.heap_words.proofs.Blocks.{memory_put}
use Rattle.heap_words.proofs.words.Words.write_pairs.Goals as goal

pub returns-clause-all : goal.returns-clause-all
returns-clause-all c =
    let is = rw (
      c.deref_mut.ensures.value,
      c.word.ensures,
      c.encode_header-header.ensures.word,
      c.get.ensures.value,
      c.get-2.ensures.value,
      c.from.ensures,
      c.get-3.ensures.value,
    ) at c.write_fresh.ensures in
    let pairs : ℕ = c.args.counts.pairs in
    let zero_fields = length-replicate {A = ℕ} (c.args.counts.pointers + (pairs + pairs) + c.args.counts.values) 0 in
    memory_put _ _ _ _ c.args.at _ _ c.self.view_is (omega arith) is (omega (arith, c.requires, zero_fields))
