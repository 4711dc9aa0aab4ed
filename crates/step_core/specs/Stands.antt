-- A core, and the graph and snapshot that it stands for.
use Rattle.std.specs.Prelude.{◌≡◌, ◌-◌, ◌*◌, ◌/◌, ◌^◌, ◌<◌, ◌≤◌}
use Rattle.std.specs.Prelude.{ℕ, ⊤, List, Option, Some, None, length, slice_get, slice_index, true, false}
use Rattle.std.specs.List.{AllZip}
use Rattle.heap_words.specs.declared.config.Config.{Config}
use Rattle.heap_words.specs.Configs.{Suits, card_words, object_limit}
use Rattle.heap_model.specs.Graph.{Graph, Object, RootCounts, next_name, object_named, IsReachable, IsSound, held_by}
use Rattle.heap_model.specs.Heap.{Heap, Stored, IsShown, IsRoot}
use Rattle.heap_model.specs.Clearing.{WillShow, IsWeakShown, StandsOnce, IsClearedTo, kept_held}
use Rattle.heap_model.specs.Marking.{Marking, KeepsSnapshot}
use Rattle.heap_model.specs.Weak.{KeepsUnreached}
use Rattle.regions.specs.Tiles as tiles
use Rattle.regions.specs.Tiles.{tile_size}
use Rattle.regions.specs.Table.{Table, object_at, kind_of, HasNoForwarded, AreHalves}
use Rattle.regions.specs.declared.row.Kind.TheVariants as kinds
use Rattle.regions.specs.Shaped.{AreInUse}
use Rattle.alloc_buffers.specs.Placement.{Buffers, BuffersStand, AreAbove}
use Rattle.mark_bitmap.specs.Kept.{kept_in}
use Rattle.satb_log.specs.Logs.{log_of}
use Rattle.marker.specs.declared.marker.Marker.{Marker}
use Rattle.marker.specs.Stands.{MarkerStands}
use Rattle.marker.specs.Views as views
use Rattle.marker.specs.Clears.{LeadIntoTable}
use Rattle.cards.specs.Cards.{Cards, is_dirty}
use Rattle.region_choice.specs.Ages.{Ages}
use Rattle.remembered_sets.specs.Sets.{Sets, card_count, may_lead}
use Rattle.refinement.specs.Remembering.{Remembers}
use Rattle.evacuation.specs.Rooms.{RoomSizes}
pub use Rattle.root_table.specs.Roots.{root_counts_of}
use Rattle.graph_runs.specs.State.{State, HaveNoPairs, IsSoundState, root_places, root_at}
use Rattle.graph_runs.specs.Since.{IsSinceState}

pub record CoreState : Type 0 where
  pub config : Config
  pub table : Table
  pub buffers : Buffers
  pub marker : Marker
  pub cards : Cards
  -- the remembered set of each region
  pub sets : Sets
  -- the room that a pause uses
  pub room : RoomSizes
  -- for how many candidates of a pause there is room
  pub row_room : ℕ
  -- how old the regions are
  pub ages : Ages
  -- how many globals and registers there are, and what they hold
  pub places : RootCounts
  pub roots : List (Option ℕ)
  -- the name of the next object
  pub next : ℕ
  -- while weak slots are still to be cleared, the address from which on objects are to be looked at
  pub clearing : Option ℕ

-- what is kept: the objects that start at or above their region's previous top at mark start, or are marked
unfoldable pub kept_of : CoreState → ℕ → Option Stored
kept_of c a = kept_in c.table c.marker.tams c.marker.bitmaps.previous a

-- the heap as the theory sees it
abbrev pub heap_of : CoreState → Heap
heap_of c = record { kept = kept_of c; roots = c.roots }

-- what the theory sees of marking
abbrev pub marking_of : CoreState → Marking
marking_of c = views.marking_of c.table c.marker

-- cross-region pointers are remembered: the card of each field of a kept object that leads into another region than
-- its word's is dirty, or it may lead into the other region: that one's set covers it, it has entered a set, and the set's filter lets it
-- through
abbrev pub RemembersFields : CoreState → Type 0
RemembersFields c = Remembers c.table.words_per_region (kept_of c) (card_words c.config) (is_dirty c.cards) (may_lead c.sets)

-- The heap shows the graph, whose next name is the core's; but as long as nothing is kept where a weak slot leads, the slot shows nil
pub record ShowsGraph (g : Graph) (c : CoreState) : Type 0 where
  pub room : g.room ≡ object_limit c.config
  pub places : g.places ≡ root_counts_of c.config
  pub next : next_name g ≡ c.next
  pub shows : WillShow g (heap_of c)

-- the snapshot is no later than the core, and while marking runs, what was reachable in it will be marked
pub record KeepsFrom (s : Graph) (c : CoreState) : Type 0 where
  pub earlier : next_name s ≤ c.next
  pub marking : c.marker.running ≡ true → KeepsSnapshot s (heap_of c) (marking_of c)

-- there is a snapshot exactly while marking runs, and what it needs is kept
abbrev pub KeepsFor : Option Graph → CoreState → Type 0
KeepsFor None c = c.marker.running ≡ false
KeepsFor (Some s) c = (c.marker.running ≡ true) × KeepsFrom s c

-- The core shows the state's graph, and keeps what its snapshot needs. Every name in them is borne by an object; and since marking began,
-- all that a mutator can come by was reachable in the snapshot from a root or a touched name, or is newer
pub record Stands (s : State) (c : CoreState) : Type 0 where
  pub shows : ShowsGraph s.graph c
  pub keeps : KeepsFor s.snapshot c
  pub sound : IsSoundState s
  pub since : IsSinceState s

-- a graph, and one from which marking goes on while it runs
pub record Footing : Type 0 where
  pub graph : Graph
  pub snapshot : Graph

-- the core shows the graph and keeps what the snapshot needs, and what the snapshot doesn't reach has the pointers that it had in it. The
-- graph has no pairs: no step makes them yet
pub record RestsOn (f : Footing) (c : CoreState) : Type 0 where
  pub shows : ShowsGraph f.graph c
  pub keeps : KeepsFrom f.snapshot c
  pub sound : IsSound f.graph
  pub unreached : KeepsUnreached f.snapshot f.graph
  pub pairs : HaveNoPairs f.graph

-- each name that a root reaches is borne by one kept object, which has the graph's contents; and every word of
-- a kept object lies in a region that isn't free
pub record IsWhole (g : Graph) (c : CoreState) : Type 0 where
  pub once : (n : ℕ) → IsReachable g n → StandsOnce g (heap_of c) n
  pub in_use : (a : ℕ) (s : Stored) → kept_of c a ≡ Some s → AreInUse c.table a (tile_size (tiles.Object s))

-- each object that has a run of regions has more than half of a region's words
abbrev pub AreWide : Table → Type 0
AreWide t = (a : ℕ) (object : Stored) → object_at t a ≡ Some object → kind_of t (a / t.words_per_region) ≡ kinds.First
    → t.words_per_region < 2 * tile_size (tiles.Object object)

-- The layers below fit one another: they have the sizes of the configuration, open buffers are fillers of the table,
-- nothing has moved, what is still to be handed out lies at or above both tops at mark start, no deletion log is full, and in the third
-- format there is room for all roots to wait. Objects
-- of ordinary regions have at most half a region's words, and those of runs more
pub record LayersFit (config : Config) (t : Table) (b : Buffers) (m : Marker) : Type 0 where
  pub region_size : t.words_per_region ≡ config.words
  pub region_count : length t.regions ≡ config.regions
  pub buffer_size : b.words ≡ config.buffer
  pub open_buffers : length b.open_buffers ≡ config.mutators
  pub logs : length m.logs ≡ config.mutators
  pub waits : m.waiting.room ≡ views.waiting_room config
  pub buffers : BuffersStand t b
  pub unmoved : HasNoForwarded t
  pub marker : MarkerStands t m
  pub above_previous : AreAbove t b (slice_index m.tams.previous)
  pub above_next : AreAbove t b (slice_index m.tams.next)
  pub room : (mutator : ℕ) → length (log_of m.logs mutator) < 8
  pub halves : AreHalves t
  pub wide : AreWide t

-- a region is a whole number of cards, and each mutator has a card log, each region a set
pub record CardsFit (config : Config) (cards : Cards) (sets : Sets) : Type 0 where
  pub whole_cards : config.words ≡ sets.cards_per_region * card_words config
  pub each_region : length sets.sets ≡ config.regions
  pub each_card : length cards.dirty ≡ card_count sets
  pub each_mutator : length cards.logs ≡ config.mutators

-- a pause has room for each region and each card
pub record IsRoomFor (config : Config) (room : RoomSizes) : Type 0 where
  pub regions : room.regions ≡ config.regions
  pub cards : room.cards ≡ config.regions * (config.words / card_words config)

-- Each weak slot of a kept object leads to an object of the table; and those of the objects that clearing has passed, all where it isn't
-- going on, lead to kept ones
pub record IsClearing (c : CoreState) : Type 0 where
  pub cleared : IsClearedTo c.clearing (heap_of c)
  pub lead : LeadIntoTable c.table (heap_of c)

-- What every core keeps. There are a graph and a snapshot on which it rests: so each root is the start of an object, and what a weak slot
-- holds may be saved
pub record IsCore (c : CoreState) : Type 0 where
  pub suits : Suits c.config
  pub layers : LayersFit c.config c.table c.buffers c.marker
  pub cards : CardsFit c.config c.cards c.sets
  pub remembers : RemembersFields c
  pub room : IsRoomFor c.config c.room
  pub rows : c.config.regions ≤ c.row_room
  pub ages : length c.ages.stamps ≡ c.config.regions
  pub placed : c.places ≡ root_counts_of c.config
  pub places : length c.roots ≡ root_places (root_counts_of c.config)
  pub names : c.next < 2 ^ 64
  pub slots : IsClearing c
  pub footing : Footing
  pub rests : RestsOn footing c

-- a word that shows something: nil, or the start of a kept object
pub record IsWordOf (h : Heap) (w : Option ℕ) : Type 0 where
  pub name : Option ℕ
  pub shown : IsShown h w name

-- nil, or what a root place holds
abbrev pub IsRootWord : Heap → Option ℕ → Type 0
IsRootWord h None = ⊤
IsRootWord h (Some a) = IsRoot h a

-- the object that a root place names, in the heap and in the graph
pub record RootNames (g : Graph) (c : CoreState) (place a : ℕ) : Type 0 where
  pub stored : Stored
  pub at : kept_of c a ≡ Some stored
  pub root : root_at g place ≡ Some stored.name
  pub object : Object
  pub named : object_named g stored.name ≡ Some object
  pub found : slice_get g.objects (stored.name - g.first_name) ≡ Some object
  pub pointers : AllZip (IsShown (heap_of c)) stored.pointers object.pointers
  pub weaks : AllZip (IsWeakShown (heap_of c)) stored.weaks object.weaks
  pub held : AllZip (IsShown (heap_of c)) (kept_held (kept_of c) stored) object.held
  pub keyed : held_by stored.weaks stored.held ≡ stored.held
  pub values : stored.values ≡ object.values

-- where a register or global leads
abbrev pub Leads : CoreState → ℕ → Option ℕ → Type 0
Leads c place None = (g : Graph) → ShowsGraph g c → root_at g place ≡ None
Leads c place (Some a) = (g : Graph) → ShowsGraph g c → RootNames g c place a

-- what names the words of a heap have
abbrev pub name_of : Option Stored → Option ℕ
name_of None = None
name_of (Some s) = Some s.name

abbrev pub name_in : Table → Option ℕ → Option ℕ
name_in t None = None
name_in t (Some a) = name_of (object_at t a)
