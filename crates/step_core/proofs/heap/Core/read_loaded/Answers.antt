use Rattle.std.proofs.Common.{subst, sym, Some}
use Rattle.heap_steps.specs.declared.step.Reply.{Reply}
use Rattle.heap_steps.specs.declared.step.Reply.TheVariants as replies
use Rattle.step_core.specs.Loads.{ReadsLoaded}
use Rattle.step_core.specs.Stands.{name_in}
use Rattle.step_core.proofs.Cores.Loads.{read_loaded, word_held}
use Rattle.step_core.proofs.heap.Core.read_loaded.Goals as goal

pub word_or_name-requires : goal.word_or_name-requires
word_or_name-requires c = word_held c.args.self.now c.args.mutator c.args.to c.args.at c.law_remembers.ensures.core c.requires.mutator
    c.requires.to c.requires.held

pub returns : goal.returns
returns c =
    let held = word_held c.args.self.now c.args.mutator c.args.to c.args.at c.law_remembers.ensures.core c.requires.mutator c.requires.to
    c.requires.held in
    subst (λ (r : Reply). ReadsLoaded (replies.Named (name_in c.args.self.now.table (Some c.args.at))) c.args.self.now c.args.mutator
    c.args.to c.args.word r) (sym c.word_or_name.ensures)
    (read_loaded c.args.self.now c.args.mutator c.args.to c.args.at c.args.word c.read_at-read.result held c.read_at-read.ensures)
