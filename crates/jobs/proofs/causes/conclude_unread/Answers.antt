use Rattle.std.proofs.Common.{◌≡◌, ◌∙◌, ◌++◌, ◌∷◌, [], ℕ, List, ap, append_assoc, codes, take}
use Rattle.script_text.specs.Faults.{shown}
use Rattle.job_ends.specs.FaultLines.{fault_line}
use Rattle.job_ends.specs.declared.faults.JobFault.TheVariants as faults
use Rattle.jobs.proofs.Reasons.{written}
use Rattle.jobs.proofs.causes.conclude_unread.Goals as goal

-- four texts after a beginning
four : (start a b c d first second third all : List ℕ) → first ≡ start ++ a → second ≡ first ++ b → third ≡ second ++ c → all ≡ third ++ d
    → all ≡ start ++ (a ++ b ++ c ++ d)
four start a b c d first second third all p q r s = rw (s, r, q, p) (simp append_assoc)

pub returns-clause-tells : goal.returns-clause-tells
returns-clause-tells g c =
    let name = c.as_bytes.result.now in
    let why = c.why.result.now in
    let told = shown name ++ codes ": " ++ why ++ 10 ∷ [] in
    let whole : take c.put_text-at-3.result c.put_text-at-3.new.buffer ≡ fault_line (faults.Read c.args.fault) ++ told =
    four (take c.put_fault_line-at.result c.put_fault_line-at.new.buffer) (shown name) (codes ": ") why (10 ∷ []) _ _ _ _
    c.put_shown-at.ensures.put c.put_text-at.ensures.put c.put_text-at-2.ensures.put c.put_text-at-3.ensures.put
    ∙ ap (λ (t : List ℕ). t ++ told) c.put_fault_line-at.ensures.put in (
      told,
      (why, ap (λ (n : List ℕ). shown n ++ codes ": " ++ why ++ 10 ∷ []) c.as_bytes.ensures.value),
      written c.write_bytes.result _ _ _ _ whole c.write_bytes.ensures.ok c.write_bytes.ensures.err,
    )
