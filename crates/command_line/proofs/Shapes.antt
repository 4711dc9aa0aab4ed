-- What a parse reads of a command.
use Rattle.std.proofs.Common.{◌≡◌, Bool, Result, true, false, refl, subst}
use Rattle.clap.specs.Words.{App, Rule, app_of, rule_of, with_rule}
use Rattle.clap.specs.declared.builder.arg.Arg.{Arg}
use Rattle.clap.specs.declared.builder.command.Command.{Command}
use Rattle.clap.specs.declared.builder.command.Command.TheViews.{out-Command}
use Rattle.clap.proofs.WalkLemmas.{both}
use Rattle.std.specs.Prelude.{IfOk, not}
use Rattle.command_line.specs.Program.{IsReadAs}

refuted : (b : Bool) → not b ≡ true → b ≡ false
refuted false e = refl
refuted true e =
    let bad : false ≡ true = e in
    cc

-- a command that is read as plain has no argument that is for subcommands too
pub own_arguments : (c : Command) → (app_of c).top.is_plain ≡ true → (out-Command c).has_globals ≡ false
own_arguments c e = refuted _ (both _ _ (both _ _ (both _ _ e).1).1).0

-- a command with one more argument is read as one with its rule
pub adds : (E : Type 0) (command made : Result Command E) (arg : Arg) (rule : Rule) (app : App)
    → ((a : App) → IfOk command (IsReadAs a) → IfOk made (IsReadAs (with_rule a (rule_of arg))))
    → rule_of arg ≡ rule → IfOk command (IsReadAs app) → IfOk made (IsReadAs (with_rule app rule))
adds E command made arg rule app ensures is read = subst (λ (r : Rule). IfOk made (IsReadAs (with_rule app r))) is (ensures app read)
