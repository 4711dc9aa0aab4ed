use Rattle.std.proofs.Common.{arith}
use Rattle.heap_words.proofs.Blocks.{copied_in}
use Rattle.heap_words.proofs.words.copy_to.Goals as goal

pub returns : goal.returns
returns c = copied_in c.args.words.now _ c.args.block.now c.args.at _ c.requires (omega arith) c.copy_from_slice.ensures.after
