use Rattle.std.proofs.Common.{◌≡◌, ℕ, ◌∙◌, arith, rules, ap, sym, length, replicate}
use Rattle.bit_sets.proofs.PageWords.{words_none, words_empty, length-words_of, pages_none}
use Rattle.bit_sets.proofs.pages.PagedWords.clear.Goals as goal

pub invariant_of-self : goal.invariant_of-self
invariant_of-self c = (
  pages_none _ _ _ _ c.self.invariant.0.small (omega (arith, c.self.invariant.0.all, c.self.inside.places.ok.0))
      (c.fill.ensures.items (λ y e. search rules)) (ap length c.clear.ensures.items),
  omega (arith, c.self.invariant.1, c.clear.ensures.capacity),
)

pub returns : goal.returns
returns c =
    words_none _ _ _ _ (c.fill.ensures.items (λ y e. search rules))
    ∙ ap (λ (n : ℕ). replicate n 0) (sym (length-words_of _ _ _) ∙ ap length c.self.view_is)

pub returns-then-is_empty : goal.returns-then-is_empty
returns-then-is_empty c =
    let none : length c.self.inside.pool.items ≡ 0 = search rules in
    sym c.self.view_is ∙ words_empty _ _ _ c.self.invariant.0 none
    ∙ ap (λ (n : ℕ). replicate n 0) (sym (length-words_of _ _ _) ∙ ap length c.self.view_is)
