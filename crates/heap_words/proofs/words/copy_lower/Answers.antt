use Rattle.std.proofs.Common.{arith}
use Rattle.heap_words.proofs.Blocks.{copied_down}
use Rattle.heap_words.proofs.words.copy_lower.Goals as goal

pub returns : goal.returns
returns c =
    let v = c.split_at_mut-low.ensures in
    copied_down c.args.words.now _ _ _ c.args.from c.args.to c.args.size _ c.requires.apart c.requires.source
    v.front v.back (omega arith) c.copy_from_slice.ensures.after
