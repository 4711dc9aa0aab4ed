use Rattle.std.proofs.Common.{refl}
use Rattle.command_line.proofs.command.Goals as goal

pub returns : goal.returns
returns c =
    let run = c.with_subcommand-command.ensures _ _ refl c.bare.ensures c.run_command.ensures in
    let sim = c.with_subcommand-command-2.ensures _ _ refl run c.sim_command.ensures in
    let threads = c.with_subcommand-command-3.ensures _ _ refl sim c.threads_command.ensures in
    let check = c.with_subcommand-command-4.ensures _ _ refl threads c.check_command.ensures in
    let view = c.with_subcommand-command-5.ensures _ _ refl check c.view_command.ensures in
    c.with_subcommand.ensures _ _ refl view c.draw_command.ensures
