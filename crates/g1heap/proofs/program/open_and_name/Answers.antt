use Rattle.std.proofs.Common.{[], inr, None, true, false, refl}
use Rattle.std.proofs.KnownBytes.{Keeps-refl}
use Rattle.script_text.specs.Watched.{Reader}
use Rattle.script_text.specs.declared.fault.ReadFault.TheVariants.{CannotRead}
use Rattle.g1heap.proofs.program.open_and_name.Goals as goal

-- a reader of no file, before and after it refused
abbrev fresh : Reader
fresh = record { left = None; refused = false }

abbrev spent : Reader
spent = record { left = None; refused = true }

pub returns-in-Err : goal.returns-in-Err
returns-in-Err g c = λ types. (
  fresh,
  spent,
  inr (record {
    fault = CannotRead;
    fails = (([], tt), refl);
    unread = refl;
    stays = (Keeps-refl c.args.out.now.held, refl);
    one = c.conclude_unread.ensures.status;
    tells = c.conclude_unread.ensures.tells;
  }),
)
