-- What the words of a heap hold.
use Rattle.std.specs.Prelude.{ℕ, zero, suc, ◌+◌, List, [], ◌∷◌, ◌++◌, length, drop, slice_index, Option, Some, None}
use Rattle.heap_words.specs.declared.header.Header.{Header}
use Rattle.heap_words.specs.declared.header.Header.TheVariants as headers
use Rattle.heap_words.specs.declared.header.ObjectCounts.{ObjectCounts}
use Rattle.heap_words.specs.Headers.{header_of}
use Rattle.heap_words.specs.Sizes.{size_of}

-- the header at an address
abbrev pub header_at : List ℕ → ℕ → Option Header
header_at words at = header_of (slice_index words at)

-- the counts of an object's header: one of n pairs has n weak slots, its keys, and n held slots
abbrev pub counts_of : Option Header → Option ObjectCounts
counts_of None = None
counts_of (Some (headers.Object p w d)) = Some (record { pointers = p; weaks = w; held = 0; values = d })
counts_of (Some (headers.Pairs p n d)) = Some (record { pointers = p; weaks = n; held = n; values = d })
counts_of (Some (headers.Filler n)) = None
counts_of (Some (headers.Forwarded to)) = None

-- how many pointers an object of such counts has
abbrev pub pointers_of : Option ObjectCounts → ℕ
pointers_of None = 0
pointers_of (Some c) = c.pointers

abbrev pub pointer_count : Option Header → ℕ
pointer_count h = pointers_of (counts_of h)

abbrev pub pointer_count_at : List ℕ → ℕ → ℕ
pointer_count_at words at = pointer_count (header_at words at)

-- how many fields it has: pointers, weak slots after them, and held slots last
abbrev pub fields_of : Option ObjectCounts → ℕ
fields_of None = 0
fields_of (Some c) = c.pointers + (c.weaks + c.held)

abbrev pub field_count : Option Header → ℕ
field_count h = fields_of (counts_of h)

abbrev pub field_count_at : List ℕ → ℕ → ℕ
field_count_at words at = field_count (header_at words at)

-- how many weak slots, and how many data words
abbrev pub weaks_of : Option ObjectCounts → ℕ
weaks_of None = 0
weaks_of (Some c) = c.weaks

abbrev pub weak_count : Option Header → ℕ
weak_count h = weaks_of (counts_of h)

abbrev pub values_of : Option ObjectCounts → ℕ
values_of None = 0
values_of (Some c) = c.values

abbrev pub value_count : Option Header → ℕ
value_count h = values_of (counts_of h)

-- how many words it has; 1 where there is no object
abbrev pub counted_size : Option ObjectCounts → ℕ
counted_size None = 1
counted_size (Some c) = size_of c.pointers (c.weaks + c.held) c.values

abbrev pub object_size : Option Header → ℕ
object_size h = counted_size (counts_of h)

-- the header is that of an object without pairs
abbrev pub IsPlainHeader : Option Header → Type 0
IsPlainHeader (Some (headers.Object p w d)) = Unit {0}
IsPlainHeader _ = ⊥

-- the words with a block in place of as many from an address on
abbrev pub put : List ℕ → ℕ → List ℕ → List ℕ
put words zero block = block ++ drop (length block) words
put [] (suc n) block = []
put (w ∷ words) (suc n) block = w ∷ put words n block
