use Rattle.std.proofs.Common.{◌≡◌, arith, refl, sym, true, false}
use Rattle.std.specs.Prelude.{◌==◌, not}
use Rattle.std.proofs.lemmas.Bool.{eq-eqb}
use Rattle.std.proofs.lemmas.List.Sums.{prefix_len_is}
use Rattle.type_names.proofs.lines.find.Goals as goal

pub returns-then-bytes-at-clause-first : goal.returns-then-bytes-at-clause-first
returns-then-bytes-at-clause-first c =
    sym (prefix_len_is (λ b. not (b == c.args.byte)) c.args.bytes.now c.loop-at.at 0 (omega arith)
    (λ k lt. rw (c.loop-at.invariant k lt) refl) (λ lt. rw (eq-eqb _ _ c.if-bytes-at.true) refl))

pub returns-clause-first : goal.returns-clause-first
returns-clause-first c =
    sym (prefix_len_is (λ b. not (b == c.args.byte)) c.args.bytes.now _ 0 (omega arith)
    (λ k lt. rw (c.loop-at.invariant k (omega arith)) refl) (λ lt. absurd (omega arith)))
