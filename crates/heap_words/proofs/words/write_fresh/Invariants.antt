use Rattle.heap_words.proofs.Blocks.{AreFresh}
use Rattle.heap_words.proofs.words.write_fresh.Given as goal

abbrev pub invariant-loop-i : goal.invariant-loop-i
invariant-loop-i l = AreFresh l.fn.words l.words l.at l.header l.name l.fields l.i

abbrev pub invariant-loop-more : goal.invariant-loop-more
invariant-loop-more l = AreFresh l.fn.words l.words l.at l.header l.name l.fields l.more
