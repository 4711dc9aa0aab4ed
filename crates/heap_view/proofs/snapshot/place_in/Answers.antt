use Rattle.std.proofs.Common.{is_lt, rules}
use Rattle.std.proofs.lemmas.List.Sorted.{IsPartitionPoint-from_clause}
use Rattle.std.specs.Ordering.{nat_cmp}
use Rattle.std.proofs.lemmas.Cmp.{nat_cmp_total}
use Rattle.heap_view.proofs.Ranks.{parted, placed}
use Rattle.heap_view.proofs.snapshot.place_in.Goals as goal

pub returns-clause-place : goal.returns-clause-place
returns-clause-place c =
    placed nat_cmp_total c.args.starts.now c.args.at c.partition_point.result c.partition_point.ensures.bound
    (IsPartitionPoint-from_clause (λ other. is_lt (nat_cmp other c.args.at)) c.args.starts.now c.partition_point.result
    c.partition_point.ensures.partitioned (parted nat_cmp_total c.args.starts.now c.args.at c.requires)
    (λ a r f k. search rules))
