use Rattle.g1heap_c.proofs.Calls.{calls_run}
use Rattle.g1heap_c.proofs.laws.calls_law.Goals as goal

pub returns : goal.returns
returns k config answer c calls n made h = calls_run config answer c calls n made h
