-- Where an object goes.
use Rattle.std.specs.Prelude.{◌≡◌, ◌≢◌, ◌∷◌, ◌+◌, ◌-◌, ◌*◌, ◌/◌, ◌<◌, ◌≤◌, if◌then◌else◌}
use Rattle.std.specs.Prelude.{[], ℕ, Option, Some, None, List, replicate, slice_get, slice_set, slice_index_or, length, nat_le}
use Rattle.heap_model.specs.Heap.{Stored}
use Rattle.regions.specs.Tiles.{Filler, Object}
use Rattle.regions.specs.declared.row.Kind.TheVariants as kinds
use Rattle.regions.specs.Table.{Table, used_of, top_of, kind_of, first_free, taken, push_tile, replace_tile, remainder, tile_in, object_at}
use Rattle.regions.specs.Table.{HasNoForwarded, first_run, is_free, with_regions, run_regions}
use Rattle.regions.specs.Walks.{AreFitting}
use Rattle.alloc_buffers.specs.declared.buffers.Buffer.{Buffer}
use Rattle.alloc_buffers.specs.OpenBuffers.{buffer_of}
use Rattle.alloc_buffers.specs.declared.placement.Allocation.{Allocation}
use Rattle.alloc_buffers.specs.declared.placement.Allocation.TheVariants as allocations

pub record Buffers : Type 0 where
  -- how many words a new buffer gets
  pub words : ℕ
  -- the region that buffers are cut from
  pub current : Option ℕ
  -- each mutator's open buffer
  pub open_buffers : List (Option Buffer)

-- an object's place, and what stands then
pub record Placement : Type 0 where
  pub place : Allocation
  pub table : Table
  pub buffers : Buffers

-- a region with room, which may have been taken for it
pub record Room : Type 0 where
  pub region : ℕ
  pub table : Table

abbrev pub fresh_room : Table → Option ℕ → Option Room
fresh_room t None = None
fresh_room t (Some k) = Some (record { region = k; table = taken t (Some k) })

abbrev pub room_for : Table → Option ℕ → ℕ → Option Room
room_for t None w = fresh_room t (first_free t)
room_for t (Some k) w = if nat_le (used_of t k + w) t.words_per_region then Some (record { region = k; table = t }) else fresh_room t
    (first_free t)

abbrev pub with_buffer : Buffers → Option ℕ → ℕ → Option Buffer → Buffers
with_buffer b current m buffer = record { words = b.words; current = current; open_buffers = slice_set b.open_buffers m buffer }

-- at the start of an open buffer, which is a filler
abbrev pub in_buffer : Table → Buffers → ℕ → ℕ → Buffer → Placement
in_buffer t b m size x = record {
  place = allocations.Filler x.next;
  table = replace_tile t x.next (Filler size ∷ remainder (x.rest - size));
  buffers = with_buffer b b.current m (buffer_of (x.next + size) (x.rest - size));
}

-- at the start of a new one, which is pushed at a region's top
abbrev pub in_new_buffer : Buffers → ℕ → ℕ → Option Room → Option Placement
in_new_buffer b m size None = None
in_new_buffer b m size (Some r) = Some (in_buffer (push_tile r.table r.region (Filler b.words))
    (record b { current = Some r.region }) m size
    (record { next = top_of r.table r.region; rest = b.words }))

abbrev pub alone : Buffers → ℕ → Option Room → Option Placement
alone b size None = None
alone b size (Some r) = Some (record {
  place = allocations.Filler (top_of r.table r.region);
  table = push_tile r.table r.region (Filler size);
  buffers = record { words = b.words; current = Some r.region; open_buffers = b.open_buffers };
})

abbrev pub outside : Table → Buffers → ℕ → ℕ → Option Placement
outside t b m size = if nat_le size b.words then in_new_buffer b m size (room_for t b.current b.words) else alone b size
    (room_for t b.current size)

abbrev pub allocation_by : Table → Buffers → ℕ → ℕ → Option Buffer → Option Placement
allocation_by t b m size None = outside t b m size
allocation_by t b m size (Some x) = if nat_le size x.rest then Some (in_buffer t b m size x) else outside t b m size

-- the place of an object of at most half a region
abbrev pub small_allocation_of : Table → Buffers → ℕ → ℕ → Option Placement
small_allocation_of t b m size = allocation_by t b m size (slice_index_or b.open_buffers m None)

-- how many regions of `words` words an object of a size takes, if it has them to itself
abbrev pub run_count : ℕ → ℕ → ℕ
run_count words size = (size + words - 1) / words

-- a run of so many regions from region k on, if there is one; nothing changes
abbrev pub in_run : Table → Buffers → ℕ → Option ℕ → Option Placement
in_run t b count None = None
in_run t b count (Some k) = Some (record { place = allocations.Run k count; table = t; buffers = b })

-- the lowest run of so many free regions
abbrev pub lowest_run : Table → Buffers → ℕ → Option Placement
lowest_run t b count = in_run t b count (first_run is_free count t.regions)

-- the place of a humongous object
abbrev pub run_allocation_of : Table → Buffers → ℕ → Option Placement
run_allocation_of t b size = lowest_run t b (run_count t.words_per_region size)

-- the place of an object of a size for a mutator, None where there is no room
abbrev pub allocation_of : Table → Buffers → ℕ → ℕ → Option Placement
allocation_of t b m size = if nat_le (2 * size) t.words_per_region then small_allocation_of t b m size else run_allocation_of t b size

pub record HasFiller (t : Table) (x : Buffer) : Type 0 where
  pub positive : 0 < x.rest
  pub filler : tile_in t x.next ≡ Some (Filler x.rest)

-- open buffers are fillers of the table, each its own, and the current region is an ordinary one
pub record BuffersStand (t : Table) (b : Buffers) : Type 0 where
  pub known : (k : ℕ) → b.current ≡ Some k → k < length t.regions
  pub ordinary : (k : ℕ) → b.current ≡ Some k → kind_of t k ≡ kinds.Ordinary
  pub fillers : (m : ℕ) (x : Buffer) → slice_get b.open_buffers m ≡ Some (Some x) → HasFiller t x
  pub apart : (m n : ℕ) (x y : Buffer) → slice_get b.open_buffers m ≡ Some (Some x) → slice_get b.open_buffers n ≡ Some (Some y)
      → x.next ≡ y.next → m ≡ n

-- what placing an object of a size asks for: it has words, a buffer is no larger than a region, nothing was moved, and buffers stand
pub record CanAllocate (t : Table) (b : Buffers) (size : ℕ) : Type 0 where
  pub positive : 0 < size
  pub buffers : b.words ≤ t.words_per_region
  pub unmoved : HasNoForwarded t
  pub stand : BuffersStand t b

-- the address lies at or above the limit of its region. Limits are an address for each region
abbrev pub IsAbove : ℕ → (ℕ → ℕ) → ℕ → Type 0
IsAbove words limit a = (k : ℕ) → k * words ≤ a → a < k * words + words → limit k ≤ a

-- all that is still to be handed out lies at or above the limits: the tops of regions, and the open buffers
pub record AreAbove (t : Table) (b : Buffers) (limit : ℕ → ℕ) : Type 0 where
  pub tops : (k : ℕ) → k < length t.regions → limit k ≤ top_of t k
  pub buffers : (m : ℕ) (x : Buffer) → slice_get b.open_buffers m ≡ Some (Some x) → IsAbove t.words_per_region limit x.next

-- a filler of the size is at the place, which belongs to no buffer, and no object changed
pub record IsAllocated (t t' : Table) (b b' : Buffers) (size a : ℕ) : Type 0 where
  pub filler : tile_in t' a ≡ Some (Filler size)
  pub spare : (m : ℕ) (x : Buffer) → slice_get b'.open_buffers m ≡ Some (Some x) → x.next ≢ a
  pub objects : (y : ℕ) → object_at t' y ≡ object_at t y
  pub unmoved : HasNoForwarded t'
  pub region_size : t'.words_per_region ≡ t.words_per_region
  pub stand : BuffersStand t' b'
  pub open_count : length b'.open_buffers ≡ length b.open_buffers
  pub words : b'.words ≡ b.words
  pub count : length t'.regions ≡ length t.regions
  -- each region in use stays in use, and what it is
  pub in_use : (j : ℕ) → kind_of t j ≢ kinds.Free → kind_of t' j ≢ kinds.Free
  pub kinds_stay : (j : ℕ) → kind_of t j ≢ kinds.Free → kind_of t' j ≡ kind_of t j
  -- whatever limits all that was to be handed out lay above: so does the place, and all that is still to be handed out
  pub above : (limit : ℕ → ℕ) → AreAbove t b limit → IsAbove t.words_per_region limit a × AreAbove t' b' limit

-- the lowest run of count free regions begins with k, and an object of the size ends in its last one
pub record IsRunFor (t : Table) (size k count : ℕ) : Type 0 where
  pub positive : 0 < count
  pub lowest : first_run is_free count t.regions ≡ Some k
  pub covers : size ≤ count * t.words_per_region
  pub tight : count * t.words_per_region < size + t.words_per_region

-- a run is the place, and nothing changed
pub record IsRunAllocation (t t' : Table) (b b' : Buffers) (size k count : ℕ) : Type 0 where
  pub run : IsRunFor t size k count
  pub table : t' ≡ t
  pub buffers : b' ≡ b

-- the address of a place
abbrev pub address_of : Table → Allocation → ℕ
address_of t (allocations.Filler a) = a
address_of t (allocations.Run k count) = k * t.words_per_region

-- what a place is: a filler for an object of at most half a region, a run for a larger one
abbrev pub IsAllocation : Table → Table → Buffers → Buffers → ℕ → Allocation → Type 0
IsAllocation t t' b b' size (allocations.Filler a) = (2 * size ≤ t.words_per_region) × IsAllocated t t' b b' size a
IsAllocation t t' b b' size (allocations.Run k count) = (t.words_per_region < 2 * size) × IsRunAllocation t t' b b' size k count

-- an object of the size can be made in the place
abbrev pub CanHold : Table → Allocation → ℕ → Type 0
CanHold t (allocations.Filler a) size = tile_in t a ≡ Some (Filler size)
CanHold t (allocations.Run k count) size = IsRunFor t size k count

-- the table once an object is made in its place
abbrev pub made_at : Table → Allocation → Stored → Table
made_at t (allocations.Filler a) s = replace_tile t a (Object s ∷ [])
made_at t (allocations.Run k count) s = with_regions t k count (run_regions t.words_per_region s count)

-- an object is made in its place, of which p says what it is and what stood before the object did
pub record IsMadeAt (t t' : Table) (b b' : Buffers) (m size : ℕ) (x : Stored) (a : ℕ) (p : Placement) : Type 0 where
  pub place : allocation_of t b m size ≡ Some p
  pub at : a ≡ address_of p.table p.place
  pub made : t' ≡ made_at p.table p.place x
  pub buffers : b' ≡ p.buffers
  pub placed : IsAllocation t p.table b p.buffers size p.place
  pub positive : 0 < p.table.words_per_region
  pub fitting : AreFitting p.table

-- region k of t' has room for w words; t' is t, but that k may have been free
pub record HasRoom (t t' : Table) (k w : ℕ) : Type 0 where
  pub region_size : t'.words_per_region ≡ t.words_per_region
  pub known : k < length t'.regions
  pub ordinary : kind_of t' k ≡ kinds.Ordinary
  pub room : used_of t' k + w ≤ t'.words_per_region
  pub unmoved : HasNoForwarded t → HasNoForwarded t'
  pub kinds_same : (j : ℕ) → kind_of t j ≡ kinds.Ordinary → kind_of t' j ≡ kinds.Ordinary
  pub in_use : (j : ℕ) → kind_of t j ≢ kinds.Free → kind_of t' j ≢ kinds.Free
  pub kinds_stay : (j : ℕ) → kind_of t j ≢ kinds.Free → kind_of t' j ≡ kind_of t j
  pub count : length t'.regions ≡ length t.regions
  pub tiles : (y : ℕ) → tile_in t' y ≡ tile_in t y
  pub used : (j : ℕ) → used_of t' j ≡ used_of t j

-- no buffer is open, and no region is current
abbrev pub closed : ℕ → ℕ → Buffers
closed words mutators = record { words = words; current = None; open_buffers = replicate mutators None }

-- no buffer is open
abbrev pub retired : Buffers → Buffers
retired b = record { words = b.words; current = b.current; open_buffers = replicate (length b.open_buffers) None }
