-- What a status tells of the judge.
use Rattle.std.proofs.Common.{ℕ, ◌↔◌, List, Result, Ok, arith}
use Rattle.object_graph.specs.declared.judge.Verdict.{Verdict}
use Rattle.object_graph.specs.declared.judge.Verdict.TheVariants.{Yes, No}
use Rattle.script_text.specs.Watched.{Reader, Writer}
use Rattle.job_ends.specs.declared.faults.JobFault.{JobFault}
use Rattle.jobs.specs.Verdicts.{IsJudged, Judges, TellsVerdict, IsTextOfRun, IsTextBrokenAt, ToldYes, ToldNo}

-- which texts get yes, and which get no
abbrev pub YesLaw : Type 0
YesLaw = (input : List ℕ) (n : ℕ) → IsJudged input (Yes n) ↔ IsTextOfRun input n

abbrev pub NoLaw : Type 0
NoLaw = (input : List ℕ) (n : ℕ) → IsJudged input (No n) ↔ IsTextBrokenAt input n

pub yes_by : YesLaw → (outcome : Result Verdict JobFault) (given left : Reader) (old new err told : Writer)
    → Judges given left old new outcome → TellsVerdict err told outcome 0 → ToldYes given left old new err told
yes_by law (Ok (Yes n)) given left old new err told j t = (j.0, n, j.1, (law j.0 n).0 j.2.0, j.2.1, t.1)
yes_by law _ given left old new err told j t = absurd (let bad = t.0 in omega arith)

pub no_by : NoLaw → (outcome : Result Verdict JobFault) (given left : Reader) (old new err told : Writer)
    → Judges given left old new outcome → TellsVerdict err told outcome 3 → ToldNo given left old new err told
no_by law (Ok (No n)) given left old new err told j t = (j.0, n, j.1, (law j.0 n).0 j.2.0, j.2.1, t.1)
no_by law _ given left old new err told j t = absurd (let bad = t.0 in omega arith)
