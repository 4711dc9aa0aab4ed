-- What each step of a mutator does to a core, exactly.
use Rattle.std.specs.Prelude.{◌≡◌, ℕ, ◌+◌, ◌-◌, ◌/◌, ◌==◌, Option, Some, None, if◌then◌else◌, length, slice_index_or, slice_set, unwrap_or}
use Rattle.std.specs.Prelude.{List, is_some, map}
use Rattle.heap_words.specs.Sizes.{size_of}
use Rattle.heap_words.specs.Configs.{card_words}
use Rattle.regions.specs.Table.{pointers_at, weaks_at, set_pointer, set_weak, set_value, new_object}
use Rattle.alloc_buffers.specs.Placement.{Placement, allocation_of, made_at, address_of}
use Rattle.marker.specs.Steps.{Overwrites}
use Rattle.marker.specs.declared.marker.Marker.{Marker}
use Rattle.cards.specs.Cards.{Cards, dirtied}
use Rattle.refinement.specs.Remembering.{field_word}
use Rattle.region_choice.specs.Ages.{Ages, with_taken}
use Rattle.heap_words.specs.Configs.{registers_of}
use Rattle.heap_model.specs.Clearing.{kept_word}
use Rattle.heap_model.specs.Graph.{with_nils}
use Rattle.graph_runs.specs.State.{register_place, root_counts_of}
use Rattle.step_core.specs.Steps.{Action, Counts, Register, Reply}
use Rattle.heap_steps.specs.declared.step.Action.TheVariants as actions
use Rattle.heap_steps.specs.declared.step.Reply.TheVariants as replies
use Rattle.step_core.specs.Stands.{CoreState, kept_of}

-- what a root place holds, what a mutator's register holds, and where the object starts that it names
abbrev pub root_of : CoreState → ℕ → Option ℕ
root_of c place = slice_index_or c.roots place None

abbrev pub register_of : CoreState → ℕ → Register → Option ℕ
register_of c m r = root_of c (register_place (root_counts_of c.config) m r.number)

abbrev pub object_of : CoreState → ℕ → Register → ℕ
object_of c m r = unwrap_or (register_of c m r) 0

-- what an object's pointer holds
abbrev pub pointer_of : CoreState → ℕ → ℕ → Option ℕ
pointer_of c a i = slice_index_or (pointers_at c.table a) i None

-- what an object's weak slot shows: what it holds, but nil where nothing is kept there
abbrev pub weak_of : CoreState → ℕ → ℕ → Option ℕ
weak_of c a i = kept_word (kept_of c) (slice_index_or (weaks_at c.table a) i None)

-- what the weak slots of an object show: a kept one's are nil where nothing is kept, any other's are what they hold
abbrev pub weaks_shown : CoreState → ℕ → List (Option ℕ)
weaks_shown c a = if is_some (kept_of c a) then map (kept_word (kept_of c)) (weaks_at c.table a) else weaks_at c.table a

-- the field as which a weak slot counts: behind the object's pointers
abbrev pub weak_field : CoreState → ℕ → ℕ → ℕ
weak_field c a i = length (pointers_at c.table a) + i

-- what is stored: nil, or what a register holds
abbrev pub value_of : CoreState → ℕ → Option Register → Option ℕ
value_of c m None = None
value_of c m (Some r) = register_of c m r

-- the core with another word in a root place
abbrev pub with_root_word : CoreState → ℕ → Option ℕ → CoreState
with_root_word c place w = record c { roots = slice_set c.roots place w }

-- the core with nil in so many root places from one on
abbrev pub with_nil_words : CoreState → ℕ → ℕ → CoreState
with_nil_words c first count = record c { roots = with_nils c.roots first count }

-- the cards once a value is stored in a field's word: the word's card is dirty if it leads into another region than the word's
abbrev pub noted : CoreState → ℕ → ℕ → Option ℕ → Cards
noted c m word None = c.cards
noted c m word (Some target) =
    if target / c.table.words_per_region == word / c.table.words_per_region then c.cards else dirtied c.cards m (word / card_words c.config)

-- the core with a pointer of an object changed
abbrev pub with_pointer : CoreState → ℕ → ℕ → ℕ → Option ℕ → CoreState
with_pointer c m a i w = record c { table = set_pointer c.table a i w; cards = noted c m (field_word a i) w }

-- the core with a weak slot of an object changed
abbrev pub with_weak : CoreState → ℕ → ℕ → ℕ → Option ℕ → CoreState
with_weak c m a i w = record c { table = set_weak c.table a i w; cards = noted c m (field_word a (weak_field c a i)) w }

-- the ages once a region is the current one: it is taken, unless it was current before
abbrev pub with_current : Ages → Option ℕ → Option ℕ → Ages
with_current ages was None = ages
with_current ages None (Some k) = with_taken ages k
with_current ages (Some j) (Some k) = if j == k then ages else with_taken ages k

-- the core with a new object in its place, which a root place names
abbrev pub with_made : CoreState → ℕ → Counts → ℕ → Option Placement → CoreState
with_made c place counts weaks None = c
with_made c place counts weaks (Some x) = record c {
  table = made_at x.table x.place (new_object c.next counts.pointers weaks counts.values);
  buffers = x.buffers;
  roots = slice_set c.roots place (Some (address_of x.table x.place));
  next = c.next + 1;
  ages = with_current c.ages c.buffers.current x.buffers.current;
}

-- the core once an object is made
abbrev pub after_new : CoreState → ℕ → Register → Counts → ℕ → CoreState
after_new c m to counts weaks =
    with_made c (register_place (root_counts_of c.config) m to.number) counts weaks
    (allocation_of c.table c.buffers m (size_of counts.pointers weaks counts.values))

-- how many weak slots the object that an action makes has
abbrev pub weaks_made : Action → ℕ
weaks_made (actions.NewWeak to counts weaks) = weaks
weaks_made _ = 0

-- the core after a step that isn't refused, but for its marker
abbrev pub core_after : CoreState → ℕ → Action → CoreState
core_after c m (actions.New to counts) = after_new c m to counts 0
core_after c m (actions.Get to object i) =
    with_root_word c (register_place (root_counts_of c.config) m to.number) (pointer_of c (object_of c m object) i)
core_after c m (actions.Put object i value) = with_pointer c m (object_of c m object) i (value_of c m value)
core_after c m (actions.Read object i) = c
core_after c m (actions.Write object i v) = record c { table = set_value c.table (object_of c m object) i v }
core_after c m (actions.Move to from) = with_root_word c (register_place (root_counts_of c.config) m to.number) (register_of c m from)
core_after c m (actions.Drop register) = with_root_word c (register_place (root_counts_of c.config) m register.number) None
core_after c m (actions.Load to from) = with_root_word c (register_place (root_counts_of c.config) m to.number) (root_of c from.number)
core_after c m (actions.Save to from) = with_root_word c to.number (register_of c m from)
core_after c m (actions.Shape object) = c
core_after c m (actions.NewWeak to counts weaks) = after_new c m to counts weaks
core_after c m (actions.GetWeak to object i) =
    with_root_word c (register_place (root_counts_of c.config) m to.number) (weak_of c (object_of c m object) i)
core_after c m (actions.PutWeak object i value) = with_weak c m (object_of c m object) i (value_of c m value)
core_after c m (actions.Weaks object) = c
core_after c m (actions.Scope from) =
    with_nil_words c (register_place (root_counts_of c.config) m from.number) (registers_of c.config - from.number)

-- the marker after it: a put saves the pointer that it overwrites, a getweak what it reads, and no other step concerns the marker
abbrev pub MarkerAfter : CoreState → ℕ → Action → Marker → Type 0
MarkerAfter c m (actions.Put object i value) m' = Overwrites c.marker.running c.table m (pointer_of c (object_of c m object) i) c.marker m'
MarkerAfter c m (actions.GetWeak to object i) m' = Overwrites c.marker.running c.table m (weak_of c (object_of c m object) i) c.marker m'
MarkerAfter c m _ m' = m' ≡ c.marker

pub record HasActed (m : ℕ) (a : Action) (c c' : CoreState) : Type 0 where
  pub core : c' ≡ record (core_after c m a) { marker = c'.marker }
  pub marker : MarkerAfter c m a c'.marker

-- a mutator's step: a refused one leaves the core as it was
abbrev pub ActsOn : ℕ → Action → Reply → CoreState → CoreState → Type 0
ActsOn m a (replies.Refused why) c c' = c' ≡ c
ActsOn m a _ c c' = HasActed m a c c'
