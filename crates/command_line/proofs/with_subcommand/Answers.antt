use Rattle.std.proofs.Common.{◌∙◌, ap, ap₂}
use Rattle.std.proofs.lemmas.Result.{IfOk-weaker}
use Rattle.clap.specs.Words.{App, with_subcommand}
use Rattle.command_line.proofs.Shapes.{own_arguments}
use Rattle.command_line.proofs.with_subcommand.Goals as goal

pub returns-in-Ok-subcommand : goal.returns-in-Ok-subcommand
returns-in-Ok-subcommand c app sub is_plain command subcommand =
    let above = rw c.in-Ok.is at command in
    let below = rw c.in-Ok-subcommand.is at subcommand in
    let top = ap (λ (app : App). app.top) below in
    let own = own_arguments c.in-Ok-subcommand.subcommand (ap (λ shape. shape.is_plain) top ∙ is_plain) in
    IfOk-weaker c.subcommand.result _ _ (λ r added. added.shape own ∙ ap₂ with_subcommand above top)
    c.subcommand.ensures
