use Rattle.std.proofs.Common.{arith}
use Rattle.heap_words.proofs.Blocks.{copied_up}
use Rattle.heap_words.proofs.words.copy_within.Goals as goal

pub returns-then-from-to : goal.returns-then-from-to
returns-then-from-to c =
    let v = c.split_at_mut-low.ensures in
    copied_up c.args.words.now _ _ _ c.args.from c.args.to c.args.size _ (omega (arith, c.requires.apart)) c.requires.target
    v.front v.back (omega arith) c.copy_from_slice.ensures.after
