use Rattle.regions.proofs.Common.{◌*◌, ◌<◌, ℕ, false, replicate, ap, sym, ◌∙◌, length-replicate, AreRegions}
use Rattle.regions.proofs.weak_starts.WeakStarts.new.Goals as goal
use Rattle.bit_sets.proofs.BitWords.{has_none}

no_regions : (regions words : ℕ) → 0 < words → AreRegions words (replicate regions false) (replicate (regions * words) false)
no_regions regions words positive = record {
  positive = positive;
  count = length-replicate (regions * words) false ∙ ap (λ (n : ℕ). n * words) (sym (length-replicate regions false));
  each = λ a h. absurd (let no = has_none (regions * words) a in cc);
}

pub invariant_of-result : goal.invariant_of-result
invariant_of-result c = rw (c.in_ok-new.ensures, c.in_ok-new-2.ensures) (no_regions c.args.regions c.args.words c.requires.positive)
