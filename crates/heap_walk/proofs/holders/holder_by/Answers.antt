use Rattle.std.proofs.Common.{ℕ, arith, ◌+◌, ap₂}
use Rattle.heap_walk.specs.Holders.{leads_to, both_counts}
use Rattle.heap_walk.proofs.Entries.{kept_there}
use Rattle.heap_walk.proofs.Linking.{links_small, one_holder}
use Rattle.heap_walk.proofs.holders.holder_by.Goals as goal

pub overflow_add-fields : goal.overflow_add-fields
overflow_add-fields c =
    omega (
      arith,
      c.link_count.ensures,
      c.link_count-2.ensures,
      links_small c.args.core.now (leads_to c.args.core.now.table c.args.name) c.args.object c.law_shaped.ensures c.requires,
    )

pub name-requires : goal.name-requires
name-requires c = kept_there c.args.core.now c.table.result.now c.args.object c.table.ensures c.requires

pub returns : goal.returns
returns c =
    one_holder c.args.core.now c.table.result.now c.args.object c.name.result c.args.kind c.args.place _ c.table.ensures c.requires
    c.name.ensures
    (both_counts c.args.core.now c.args.name c.args.object) (ap₂ (λ (m n : ℕ). m + n) c.link_count.ensures c.link_count-2.ensures)
