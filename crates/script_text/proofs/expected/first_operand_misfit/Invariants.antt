use Rattle.std.proofs.Common.{◌≡◌, ◌+◌, ◌++◌, List, drop, map}
use Rattle.script_text.specs.declared.expected.Expected.{Expected}
use Rattle.script_text.specs.declared.expected.Expected.TheVariants as expected
use Rattle.script_text.specs.Expected.{first_misfit}
use Rattle.script_text.proofs.expected.first_operand_misfit.Given as goal

abbrev pub invariant-form : goal.invariant-form
invariant-form l = record {
  word : l.word ≡ l.from + l.kind-index;
  same : (more : List Expected) → first_misfit l.config l.from (map expected.Operand l.form ++ more) (map (λ w. w.now) l.fn.words)
      ≡ first_misfit l.config (l.from + l.kind-index) (map expected.Operand (drop l.kind-index l.form) ++ more) (map (λ w. w.now) l.left);
}
