use Rattle.std.proofs.Common.{◌∙◌, List, ap, arith, subst, sum_by}
use Rattle.heap_view.specs.Census.{IsCensus, class_size}
use Rattle.heap_view.specs.declared.classes.Class.{Class}
use Rattle.heap_view.proofs.KeptClasses.{lines_are}
use Rattle.heap_view.proofs.census_lines.put_census.Goals as goal

pub returns : goal.returns
returns c =
    let rows = c.in_ok-rows.rows.items in
    let classes = c.in_ok-classes.classes.items in
    let census = subst (λ (ks : List Class). IsCensus ks rows) c.deref_mut.ensures.value c.in_ok-rows.ensures.census in
    let words = c.sum_of-words.ensures ∙ ap (sum_by class_size) c.deref.ensures.value in (
      _,
      lines_are c.args.types.now c.args.core.now classes rows _ _ _ c.in_ok-classes.ensures.value census c.deref-2.ensures.value words
          (omega arith),
      c.put_table.ensures,
    )
