-- What storing a pointer or a weak slot asks for, and does to a core.
use Rattle.std.specs.Prelude.{◌≡◌, ℕ, ◌<◌, Option, Some, length, slice_set}
use Rattle.heap_words.specs.Configs.{card_words}
use Rattle.heap_model.specs.Graph.{Graph, Object, object_named, with_changed}
use Rattle.heap_model.specs.Heap.{Stored, IsHeld, IsRoot, IsShown}
use Rattle.regions.specs.Table.{pointers_at, set_pointer, set_weak}
use Rattle.cards.specs.Cards.{Cards, is_dirty}
use Rattle.marker.specs.Steps.{Overwrites}
use Rattle.refinement.specs.Remembering.{field_word, IsNoted}
use Rattle.step_core.specs.Stands.{CoreState, ShowsGraph, KeepsFrom, heap_of, kept_of}
use Rattle.step_core.specs.Mutators.{noted, pointer_of}
use Rattle.step_core.specs.Cycle.{LeavesRegions}

-- a root names the object at an address, which has pointer i, and the target is nil, or a root or a field of such an object holds it
pub record CanStore (a i : ℕ) (target : Option ℕ) (c : CoreState) : Type 0 where
  pub rooted : IsRoot (heap_of c) a
  pub field : i < length (pointers_at c.table a)
  pub held : IsHeld (heap_of c) target

-- a word may hold the target: it leads into the word's region, or the word's card is dirty
abbrev pub HasNoted : CoreState → ℕ → Option ℕ → Type 0
HasNoted c word target = IsNoted c.table.words_per_region (card_words c.config) (is_dirty c.cards) word target

-- Pointer i of the object at an address is stored by mutator m, and the cards are these then: the graph's object has the target there, a
-- snapshot is kept, and beside pointer and cards only marking changes, which saves what was overwritten
pub record StoresWith (cards : Cards) (m a i : ℕ) (target : Option ℕ) (c c' : CoreState) : Type 0 where
  pub shows : (g : Graph) (x : Stored) (o : Object) (v : Option ℕ) → ShowsGraph g c → kept_of c a ≡ Some x → object_named g x.name ≡ Some o
      → IsShown (heap_of c) target v → ShowsGraph (with_changed g x.name (record o { pointers = slice_set o.pointers i v })) c'
  pub keeps : (s : Graph) → KeepsFrom s c → KeepsFrom s c'
  pub core : c' ≡ record c { table = set_pointer c.table a i target; cards = cards; marker = c'.marker }
  pub marker : Overwrites c.marker.running c.table m (pointer_of c a i) c.marker c'.marker
  pub leaves : LeavesRegions c c'

-- the same with the field's card noted
abbrev pub StoresPointer : ℕ → ℕ → ℕ → Option ℕ → CoreState → CoreState → Type 0
StoresPointer m a i target c c' = StoresWith (noted c m (field_word a i) target) m a i target c c'

-- weak slot i is stored: marking isn't concerned
pub record StoresWeak (cards : Cards) (a i : ℕ) (target : Option ℕ) (c c' : CoreState) : Type 0 where
  pub shows : (g : Graph) (x : Stored) (o : Object) (v : Option ℕ) → ShowsGraph g c → kept_of c a ≡ Some x → object_named g x.name ≡ Some o
      → IsShown (heap_of c) target v → ShowsGraph (with_changed g x.name (record o { weaks = slice_set o.weaks i v })) c'
  pub keeps : (s : Graph) → KeepsFrom s c → KeepsFrom s c'
  pub after : c' ≡ record c { table = set_weak c.table a i target; cards = cards }
  pub leaves : LeavesRegions c c'
