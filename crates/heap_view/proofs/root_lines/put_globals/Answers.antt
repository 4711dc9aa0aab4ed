use Rattle.std.proofs.Common.{ℕ, List, Option, length, ap, ◌∙◌, arith}
use Rattle.heap_model.specs.Graph.{RootCounts}
use Rattle.heap_view.proofs.root_lines.put_globals.Goals as goal

pub put_roots-requires-clause-within : goal.put_roots-requires-clause-within
put_roots-requires-clause-within c =
    omega (
      arith,
      c.globals-end.ensures ∙ ap (λ (p : RootCounts). p.globals) (c.places.ensures.places ∙ c.roots.ensures.places),
      c.law_remembers.ensures.core.places,
      ap (λ (l : List (Option ℕ)). length l) c.roots-2.ensures.words,
    )
