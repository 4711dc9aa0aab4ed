use Rattle.std.proofs.Common.{◌≡◌, ◌+◌, ◌++◌, List, drop, map}
use Rattle.script_text.specs.declared.expected.Expected.{Expected}
use Rattle.script_text.specs.Expected.{first_misfit}
use Rattle.script_text.proofs.expected.first_misfit.Given as goal

abbrev pub invariant-places : goal.invariant-places
invariant-places l = record {
  word : l.word ≡ l.from + l.place-index;
  same : (more : List Expected) → first_misfit l.config l.from (l.places ++ more) (map (λ w. w.now) l.fn.words)
      ≡ first_misfit l.config (l.from + l.place-index) (drop l.place-index l.places ++ more) (map (λ w. w.now) l.left);
}
