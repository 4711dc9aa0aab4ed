use Rattle.std.proofs.Common.{arith, ◌+◌}
use Rattle.heap_words.specs.Sizes.{field_word}
use Rattle.heap_words.specs.Contents.{field_count_at}
use Rattle.heap_words.proofs.Blocks.{memory_put}
use Rattle.heap_words.proofs.words.Words.set_values.Goals as goal

pub returns-clause-all : goal.returns-clause-all
returns-clause-all c =
    memory_put _ _ _ _ (field_word c.args.object (field_count_at c.args.self.now.all c.args.object) + c.args.from) c.args.values.now _
    c.self.view_is (omega arith) (rw (c.deref_mut.ensures.value, c.value_place-at.ensures) at c.copy_to.ensures) c.requires.within
