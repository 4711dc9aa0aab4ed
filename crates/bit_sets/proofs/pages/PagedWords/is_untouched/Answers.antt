use Rattle.std.proofs.Common.{◌∙◌, ℕ, arith, ap, sym, length, replicate}
use Rattle.bit_sets.proofs.PageWords.{words_empty, length-words_of}
use Rattle.bit_sets.proofs.pages.PagedWords.is_untouched.Goals as goal

pub returns-then-taken-eq0 : goal.returns-then-taken-eq0
returns-then-taken-eq0 c = λ _.
    sym c.self.view_is
    ∙ words_empty _ _ _ c.self.invariant.0 (omega (arith, c.if-taken-eq0.true, c.len-taken.ensures, c.self.inside.pool.ok.0))
    ∙ ap (λ (n : ℕ). replicate n 0) (sym (length-words_of _ _ _) ∙ ap length c.self.view_is)
