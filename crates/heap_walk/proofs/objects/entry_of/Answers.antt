use Rattle.std.proofs.Common.{◌∙◌, sym}
use Rattle.regions.specs.Table.{values_at}
use Rattle.heap_walk.proofs.Entries.{kept_there, entry_told, no_word, one_word}
use Rattle.heap_walk.proofs.objects.entry_of.Goals as goal
use Rattle.heap_walk.proofs.objects.entry_of.Goals.{then-values-eq0, else-values-eq0}

pub value_count-values-requires : goal.value_count-values-requires
value_count-values-requires c = kept_there c.args.core.now _ c.args.object c.table-table.ensures c.requires

pub name-requires : goal.name-requires
name-requires c = kept_there c.args.core.now _ c.args.object c.table-table.ensures c.requires

pub pointer_count-requires : goal.pointer_count-requires
pointer_count-requires c = kept_there c.args.core.now _ c.args.object c.table-table.ensures c.requires

pub weak_count-requires : goal.weak_count-requires
weak_count-requires c = kept_there c.args.core.now _ c.args.object c.table-table.ensures c.requires

pub returns : goal.returns
returns c =
    entry_told c.args.core.now c.table-table.result.now c.args.object c.name.result c.if-values-eq0.result c.pointer_count.result
    c.weak_count.result c.value_count-values.result c.table-table.ensures c.requires c.name.ensures
    (elim c.if-values-eq0.branch [
      | then-values-eq0 w ↦ w.result-is ∙ sym (no_word (values_at c.table-table.result.now c.args.object) (sym c.value_count-values.ensures
          ∙ w.if-values-eq0.true))
      | else-values-eq0 w ↦ w.result-is ∙ sym (one_word (values_at c.table-table.result.now c.args.object) w.get_value.result
          w.get_value.ensures)
    ])
    c.pointer_count.ensures c.weak_count.ensures c.value_count-values.ensures
