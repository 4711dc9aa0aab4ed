use Rattle.std.proofs.Common.{◌∙◌, ap, rules}
use Rattle.heap_steps.specs.declared.step.Reply.TheVariants as replies
use Rattle.step_core.proofs.Mutating.Reading.{shown_name}
use Rattle.step_core.proofs.heap.Core.load.Goals as goal

pub returns : goal.returns
returns c = record {
  acts = λ g s. (let shown = c.root-value.ensures.shows g s in record {
    reply_is = ap replies.Named (c.name_of-name.ensures ∙ shown_name _ _ _ shown);
    shows = c.set_register.ensures.shows g _ s shown;
  });
  keeps = search rules;
  after = search rules;
  leaves = search rules;
}
