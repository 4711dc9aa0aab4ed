use Rattle.std.proofs.Common.{◌≡◌, ◌<◌, ℕ, false, None}
use Rattle.std.specs.Prelude.{slice_index_or}
use Rattle.heap_walk.specs.Holders.{leads_to, links_at}
use Rattle.heap_walk.proofs.holders.first_link.Given as goal

abbrev pub invariant-loop-index : goal.invariant-loop-index
invariant-loop-index l = (k : ℕ) → k < l.index → leads_to l.core.table l.name (slice_index_or (links_at l.weak l.core l.object) k None) ≡
    false
