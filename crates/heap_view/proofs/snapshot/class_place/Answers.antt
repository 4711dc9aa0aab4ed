use Rattle.std.proofs.Common.{is_lt, rules}
use Rattle.std.proofs.lemmas.List.Sorted.{IsPartitionPoint-from_clause}
use Rattle.heap_view.specs.Census.{class_cmp}
use Rattle.heap_view.proofs.Counting.{classes_total}
use Rattle.heap_view.proofs.Ranks.{parted, placed}
use Rattle.heap_view.proofs.snapshot.class_place.Goals as goal

pub returns-clause-place : goal.returns-clause-place
returns-clause-place c =
    placed classes_total c.args.table.now c.args.class.now c.partition_point.result c.partition_point.ensures.bound
    (IsPartitionPoint-from_clause (λ other. is_lt (class_cmp other c.args.class.now)) c.args.table.now c.partition_point.result
    c.partition_point.ensures.partitioned (parted classes_total c.args.table.now c.args.class.now c.requires)
    (λ a r f k. search rules))
