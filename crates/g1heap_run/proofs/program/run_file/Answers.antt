use Rattle.std.proofs.Common.{[], Err, None, true, false, refl}
use Rattle.std.proofs.KnownBytes.{Keeps-refl}
use Rattle.script_text.specs.Watched.{Reader}
use Rattle.job_ends.specs.declared.faults.JobFault.TheVariants as faults
use Rattle.script_text.specs.declared.fault.ReadFault.TheVariants.{CannotRead}
use Rattle.g1heap_run.proofs.program.run_file.Goals as goal

-- a reader of no file, before and after it refused
abbrev fresh : Reader
fresh = record { left = None; refused = false }

abbrev spent : Reader
spent = record { left = None; refused = true }

pub returns-in-Err : goal.returns-in-Err
returns-in-Err g c = (
  fresh,
  spent,
  record {
    outcome = Err (faults.Read CannotRead);
    ends = ((([], tt), refl), (Keeps-refl c.args.out.now.held, refl));
    tells = c.conclude.ensures;
  },
)
