-- The sizes of a core.
use Rattle.std.proofs.Common.{◌<◌, arith}
use Rattle.step_core.specs.Stands.{CoreState, IsCore}

-- a region has some words
pub some_words : (k : CoreState) → IsCore k → 0 < k.table.words_per_region
some_words k core = let least = core.suits.words.at_least in let is = core.layers.region_size in omega arith
