-- Who names an object: roots, and the fields of kept objects.
use Rattle.std.specs.Prelude.{ℕ, ◌+◌, ◌-◌, ◌/◌, ◌%◌, ◌==◌, Bool, false, List, [], ◌∷◌, Option, Some, None, length, position, count_by}
use Rattle.std.specs.Prelude.{◌≡◌, map, nat_lt, true, if◌then◌else◌}
use Rattle.heap_model.specs.Graph.{Graph, Object, RootCounts, object_named}
use Rattle.heap_model.specs.Heap.{Stored}
use Rattle.regions.specs.Table.{Table, pointers_at}
use Rattle.graph_runs.specs.State.{root_counts_of}
use Rattle.step_core.specs.Stands.{CoreState, kept_of, name_in}
use Rattle.step_core.specs.Mutators.{root_of, weaks_shown}
use Rattle.heap_walk.specs.Starts.{word_count}
use Rattle.heap_walk.specs.Walks.{FillsFrom}
use Rattle.heap_walk.specs.declared.holders.Holder.{Holder}

-- whether a word leads to the object of this name
abbrev pub is_name : ℕ → Option ℕ → Bool
is_name n None = false
is_name n (Some m) = m == n

abbrev pub leads_to : Table → ℕ → Option ℕ → Bool
leads_to t n w = is_name n (name_in t w)

-- a root place: a global, or a register of a mutator
abbrev pub root_holder : RootCounts → ℕ → Holder
root_holder p place = if nat_lt place p.globals then record { name = 0; kind = 0; mutator = 0; place = place; fields = 1 }
    else record { name = 0; kind = 1; mutator = (place - p.globals) / p.registers; place = (place - p.globals) % p.registers; fields = 1 }

-- an object's pointers, or what its weak slots show
abbrev pub links_at : Bool → CoreState → ℕ → List (Option ℕ)
links_at weak c a = if weak then weaks_shown c a else pointers_at c.table a

-- an object, by a pointer, kind 2, or a weak slot, kind 3
abbrev pub field_holder : ℕ → ℕ → ℕ → ℕ → Holder
field_holder name kind place k = record { name = name; kind = kind; mutator = 0; place = place; fields = k }

-- an object by the lowest of its pointers that names another one, or else by the lowest weak slot, and by how many of both do
abbrev pub holder_by : ℕ → Option ℕ → Option ℕ → ℕ → List Holder
holder_by name (Some i) slot k = field_holder name 2 i k ∷ []
holder_by name None (Some i) k = field_holder name 3 i k ∷ []
holder_by name None None k = []

-- the lowest of an object's pointers, or of what its weak slots show, that leads to the object of a name; and how many do
abbrev pub first_link : CoreState → ℕ → ℕ → Bool → Option ℕ
first_link c n a weak = position (leads_to c.table n) (links_at weak c a)

abbrev pub link_count : CoreState → ℕ → ℕ → Bool → ℕ
link_count c n a weak = count_by (leads_to c.table n) (links_at weak c a)

abbrev pub both_counts : CoreState → ℕ → ℕ → ℕ
both_counts c n a = link_count c n a false + link_count c n a true

-- one item, or none
abbrev pub list_of : {A : Type 0} → Option A → List A
list_of None = []
list_of (Some x) = x ∷ []

-- the entry of a root place, if it holds the object of a name
abbrev pub root_holders : CoreState → ℕ → ℕ → List Holder
root_holders c n p = if leads_to c.table n (root_of c p) then root_holder (root_counts_of c.config) p ∷ [] else []

-- the entry of a kept object, if it names the object of a name
abbrev pub holder_if : CoreState → ℕ → ℕ → Option Stored → List Holder
holder_if c n a None = []
holder_if c n a (Some s) =
    holder_by s.name (first_link c n a false) (first_link c n a true) (both_counts c n a)

-- Who names the object of a name, by places: the root places first, and then the addresses of kept objects
abbrev pub holders_at : CoreState → ℕ → ℕ → List Holder
holders_at c n p =
    if nat_lt p (length c.roots) then root_holders c n p
    else holder_if c n (p - length c.roots) (kept_of c (p - length c.roots))

-- the place behind the last one
abbrev pub place_count : CoreState → ℕ
place_count c = length c.roots + word_count c.table

-- all of them from a place on, in order of places, each once and none left out
abbrev pub TellsHolders : CoreState → ℕ → ℕ → ℕ → List Holder → List Holder → ℕ → Type 0
TellsHolders c n from to before after count = FillsFrom (holders_at c n) from to (place_count c) before after count

-- what links lead to, by names
abbrev pub names_of : CoreState → List (Option ℕ) → List (Option ℕ)
names_of c ws = map (name_in c.table) ws

-- an object of the graph that has an object's name, and names what its links lead to
pub record HasLinks (g : Graph) (c : CoreState) (a : ℕ) (s : Stored) : Type 0 where
  pub object : Object
  pub named : object_named g s.name ≡ Some object
  pub pointers : names_of c (pointers_at c.table a) ≡ object.pointers
  pub weaks : names_of c (weaks_shown c a) ≡ object.weaks

-- links show the graph: roots lead to what the graph's roots name, and those of each kept object to what its object in the graph does
pub record LinksShow (g : Graph) (c : CoreState) : Type 0 where
  pub roots : names_of c c.roots ≡ g.roots
  pub fields : (a : ℕ) (s : Stored) → kept_of c a ≡ Some s → HasLinks g c a s
