use Rattle.std.proofs.Common.{[], None, true, false, refl}
use Rattle.std.proofs.KnownBytes.{Keeps-refl}
use Rattle.script_text.specs.Watched.{Reader}
use Rattle.g1heap.proofs.program.open_and_do.Goals as goal

-- a reader of no file, before and after it refused
abbrev fresh : Reader
fresh = record { left = None; refused = false }

abbrev spent : Reader
spent = record { left = None; refused = true }

pub returns-in-Err : goal.returns-in-Err
returns-in-Err g c = (
  fresh,
  spent,
  c.conclude_unopened.ensures c.args.names.now c.args.types.now fresh spent _ _ (([], tt), refl) (Keeps-refl c.args.out.now.held, refl),
)
