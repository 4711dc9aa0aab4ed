use Rattle.std.proofs.Common.{◌≡◌, take}
use Rattle.std.specs.List.{count_by}
use Rattle.heap_walk.specs.Holders.{leads_to, links_at}
use Rattle.heap_walk.proofs.holders.link_count.Given as goal

abbrev pub invariant-loop-index : goal.invariant-loop-index
invariant-loop-index l = l.count ≡ count_by (leads_to l.core.table l.name) (take l.index (links_at l.weak l.core l.object))
