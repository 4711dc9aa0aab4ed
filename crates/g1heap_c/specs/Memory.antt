-- How many bytes of memory a heap asks for when it is made.
use Rattle.std.specs.Prelude.{ℕ, ◌+◌, ◌*◌, ◌/◌}
use Rattle.std.specs.Int.{div_ceil}
use Rattle.heap_words.specs.Configs.{card_words, globals_of, registers_of}
use Rattle.heap_words.specs.declared.config.Config.{Config}
use Rattle.step_core.specs.Fresh.{filter_rows}

-- a set of so many numbers: a bit for each, in words of 8 bytes, and 4 bytes for each 512 of these
abbrev pub set_bytes : ℕ → ℕ
set_bytes count = 8 * div_ceil count 64 + 4 * div_ceil count 32768

-- so many words, and four sets of words: those marked, those marked before, those scanned, those at which objects with weak slots start;
-- and bits for 64 of them, for 64 of these, and for 64 of those
abbrev pub word_bytes : ℕ → ℕ
word_bytes count = 8 * count + 4 * set_bytes count + 8 * (div_ceil count 4096 + div_ceil count 262144 + div_ceil count 16777216)

-- so many cards: of each its first tile and a place in the queue, of 4 bytes, and a flag; and three sets of cards
abbrev pub card_bytes : ℕ → ℕ
card_bytes count = 9 * count + 3 * set_bytes count

-- the filters of remembered sets, four in one: each has so many rows of one kind, and twice as many of the other, of a bit for each card of
-- a region
abbrev pub filter_bytes : (regions rows cards : ℕ) → ℕ
filter_bytes regions rows cards = div_ceil regions 4 * (80 + set_bytes (12 * (rows * cards)))

-- so many regions: of each 181 bytes, and in its remembered set a set of regions; and one set of regions more
abbrev pub region_bytes : ℕ → ℕ
region_bytes count = count * (181 + set_bytes count) + set_bytes count

-- of a mutator its buffer, and logs of eight addresses and of four cards; of a root what it holds, and a place to wait; and the rest
abbrev pub heap_bytes : Config → ℕ
heap_bytes c = word_bytes (c.regions * c.words) + card_bytes (c.regions * (c.words / card_words c))
    + filter_bytes c.regions (filter_rows c) (c.words / card_words c) + region_bytes c.regions
    + 72 * c.mutators + 12 * (globals_of c + registers_of c * c.mutators) + 2072
