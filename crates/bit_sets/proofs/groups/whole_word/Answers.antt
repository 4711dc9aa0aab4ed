use Rattle.std.proofs.Common.{Bool, sym, ap, ◌∙◌, if◌then◌else◌}
use Rattle.std.proofs.lemmas.Nat.Bits.{bit_at_ones, bit_at-zero}
use Rattle.bit_sets.proofs.groups.whole_word.Goals as goal

pub returns-then-value : goal.returns-then-value
returns-then-value c = λ j h. bit_at_ones 64 j h ∙ sym (ap (λ (b : Bool). if b then 1 else 0) c.if-value.true)

pub returns-else-value : goal.returns-else-value
returns-else-value c = λ j h. bit_at-zero j ∙ sym (ap (λ (b : Bool). if b then 1 else 0) c.if-value.false)
