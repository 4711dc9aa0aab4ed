use Rattle.std.proofs.Common.{sym, ◌∙◌}
use Rattle.script_text.proofs.BothWays.Allowed.{allowed_is}
use Rattle.script_text.proofs.BothWays.Collections.{collection_is}
use Rattle.script_text.proofs.read.steps.step.Goals as goal

pub returns-clause-known : goal.returns-clause-known
returns-clause-known c =
    let read = sym c.allowed.ensures ∙ c.in-Some-allowed.is in
    (allowed_is c.args.config.now c.in_ok-mutator.mutator _ c.in-Some-allowed.action c.in_ok-mutator.ensures.known read).owned

pub returns-then-is_word-clause-known : goal.returns-then-is_word-clause-known
returns-then-is_word-clause-known c =
    (collection_is c.args.config.now.format _ c.in-Some.collection (sym c.collection.ensures ∙ c.in-Some.is)).known
