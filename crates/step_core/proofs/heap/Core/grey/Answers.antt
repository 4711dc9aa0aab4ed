use Rattle.std.proofs.Common.{Bool, true, sym, subst, ◌↔◌, IsTrue, is_some}
use Rattle.step_core.specs.Stands.{CoreState}
use Rattle.step_core.specs.Measures.{HasGrey}
use Rattle.step_core.proofs.Measuring.{root_left, grey_found}
use Rattle.step_core.proofs.heap.Core.grey.Goals as goal

pub returns-then-not-is_empty : goal.returns-then-not-is_empty
returns-then-not-is_empty c =
    subst (λ (d : CoreState). IsTrue true ↔ HasGrey d) c.self.view_is
    (root_left _ (let no = c.if-not-self.false in cc)
    (λ none. let empty = c.is_empty.ensures.1 none in let not = c.if-not-is_empty.true in absurd cc))

pub returns : goal.returns
returns c =
    subst (λ (b : Bool). IsTrue b ↔ HasGrey c.args.self.now) (sym c.is_some.ensures)
    (subst (λ (d : CoreState). IsTrue (is_some c.any.result) ↔ HasGrey d) c.self.view_is
    (grey_found _ c.any.result (let no = c.if-not-self.false in cc)
    (c.is_empty.ensures.0 (let no = c.if-not-is_empty.false in cc)) c.any.ensures.grey))
