use Rattle.std.proofs.Common.{◌≡◌, ◌++◌, ℕ, List, append_assoc, codes, take}
use Rattle.std.specs.Fmt.{decimal}
use Rattle.jobs.proofs.explain.put_given.Goals as goal

-- three texts after a beginning
three : (front a b c mid left all : List ℕ) → mid ≡ front ++ a → left ≡ mid ++ b → all ≡ left ++ c → all ≡ front ++ (a ++ b ++ c)
three front a b c mid left all p q r = rw (r, q, p) (simp append_assoc)

pub returns-in-Object-clause-put : goal.returns-in-Object-clause-put
returns-in-Object-clause-put c =
    rw c.in-Object.is (three (take c.args.at c.args.buffer.now) (codes "#") (decimal c.in-Object.name)
    (codes " or refused 3 Full") _ _ _ c.put_text-at.ensures.put c.put_number-at.ensures.put c.put_text.ensures.put)
