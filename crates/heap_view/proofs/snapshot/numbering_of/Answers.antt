use Rattle.std.proofs.Common.{◌≡◌, ◌∙◌, List, ap, arith, length, map, subst, sym, ℕ}
use Rattle.heap_view.specs.Snapshot.{IsClassTable, widest}
use Rattle.heap_view.specs.Types.{listed_class}
use Rattle.heap_view.specs.declared.classes.Class.{Class}
use Rattle.heap_view.proofs.KeptStarts.{nodes_are, starts_few}
use Rattle.heap_view.proofs.snapshot.numbering_of.Goals as goal

pub returns-clause-numbering : goal.returns-clause-numbering
returns-clause-numbering c =
    let core = c.args.core.now in
    let nodes = nodes_are core c.law_shaped.ensures c.law_remembers.ensures.core in
    record {
      nodes = nodes;
      starts_are = c.in_ok-starts.ensures;
      few = starts_few core c.law_shaped.ensures nodes;
      sorted = c.to_table.ensures.table.sorted;
      few_classes =
          let fewer = c.to_table.ensures.few in
          let few = c.in_ok-classes.ensures.small.few in
          let same = c.list_classes.ensures.length in
          omega (arith, fewer, few, same);
    }

pub returns-clause-classes : goal.returns-clause-classes
returns-clause-classes c =
    subst (λ (ks : List Class). IsClassTable ks c.to_table.new.classes.items)
    (c.list_classes.ensures.value
    ∙ ap (map (listed_class c.args.types.now)) c.in_ok-classes.ensures.value)
    c.to_table.ensures.table

pub returns-clause-weaks : goal.returns-clause-weaks
returns-clause-weaks c = c.widest-weaks.ensures ∙ ap widest (c.deref.ensures.value ∙ c.in_ok-classes.ensures.value)
