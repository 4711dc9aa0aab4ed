use Rattle.std.proofs.Common.{◌≡◌, ◌+◌, ◌++◌, ◌∙◌, ◌∷◌, [], ℕ, List, ap, append_assoc, arith, sym, take}
use Rattle.std.specs.Fmt.{decimal}
use Rattle.std.proofs.lemmas.Fmt.{decimal_step_wide}
use Rattle.jobs.proofs.explain.put_next.Goals as goal

-- the number after the largest one
largest : (n : ℕ) → n ≡ 18446744073709551615 → decimal 1844674407370955161 ++ 54 ∷ [] ≡ decimal (n + 1)
largest n is =
    let next : n + 1 ≡ 18446744073709551616 = omega arith in
    rw next (sym (decimal_step_wide 18446744073709551616 (omega arith) (omega arith)))

pub returns-then-number-eq18446744073709551615-clause-put : goal.returns-then-number-eq18446744073709551615-clause-put
returns-then-number-eq18446744073709551615-clause-put c =
    c.put_text.ensures.put ∙ ap (λ (t : List ℕ). t ++ 54 ∷ []) c.put_number-at.ensures.put
    ∙ append_assoc (take c.args.at c.args.buffer.now) (decimal 1844674407370955161) (54 ∷ [])
    ∙ ap (λ (t : List ℕ). take c.args.at c.args.buffer.now ++ t) (largest c.args.number c.if-number-eq18446744073709551615.true)
