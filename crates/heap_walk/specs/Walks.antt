-- What is told of kept objects, one after another.
use Rattle.std.specs.Prelude.{◌≡◌, ℕ, zero, suc, ◌-◌, ◌<◌, ◌≤◌, List, [], ◌∷◌, ◌++◌, Option, Some, None, length, drop, slice_index}
use Rattle.heap_model.specs.Graph.{Graph, Object, IsReachable, object_named}
use Rattle.heap_model.specs.Heap.{Stored}
use Rattle.step_core.specs.Stands.{CoreState, kept_of}
use Rattle.heap_walk.specs.Starts.{word_count}
use Rattle.heap_walk.specs.declared.objects.Entry.{Entry}

-- what is told of an object: its name, its first data word, 0 if it has none, and how many pointers, weak slots and data words it has
abbrev pub entry_of : Stored → Entry
entry_of s = record {
  name = s.name;
  word = slice_index s.values 0;
  pointers = length s.pointers;
  weaks = length s.weaks;
  values = length s.values;
}

abbrev pub entry_if : Option Stored → List Entry
entry_if None = []
entry_if (Some s) = entry_of s ∷ []

-- the entry of the kept object that starts at an address, if one does
abbrev pub entries_at : CoreState → ℕ → List Entry
entries_at c a = entry_if (kept_of c a)

-- what is told at so many numbers, from one on, one after another
unfoldable pub told_among : {A : Type 0} → (ℕ → List A) → ℕ → ℕ → List A
told_among f a zero = []
told_among f a (suc n) = f a ++ told_among f (suc a) n

-- what is told from one number on to below another
abbrev pub told_between : {A : Type 0} → (ℕ → List A) → ℕ → ℕ → List A
told_between f from to = told_among f from (to - from)

-- so many items are told from one number on to below another; a buffer begins with them, and stays as it was behind them
pub record IsTelling {A : Type 0} (f : ℕ → List A) (from place : ℕ) (before after : List A) (n : ℕ) : Type 0 where
  pub on : from ≤ place
  pub count : n ≡ length (told_between f from place)
  pub filled : after ≡ told_between f from place ++ drop n before

-- A buffer takes first what is told from one number on to below another, in order, and stays as it was behind that. Where it takes fewer
-- items than it has room for, nothing is left to be told below the end
pub record FillsFrom {A : Type 0} (f : ℕ → List A) (from to end : ℕ) (before after : List A) (count : ℕ) : Type 0 where
  pub on : from ≤ to
  pub count_is : count ≡ length (told_between f from to)
  pub room : count ≤ length before
  pub filled : after ≡ told_between f from to ++ drop count before
  pub over : count < length before → end ≤ to

-- the entries of the kept objects that start from an address on, in order of addresses, each once and none left out
abbrev pub TellsObjects : CoreState → ℕ → ℕ → List Entry → List Entry → ℕ → Type 0
TellsObjects c from to before after count = FillsFrom (entries_at c) from to (word_count c.table) before after count

-- an entry of the graph: its name has an object there, of so many pointers, weak slots and data words, with this first data word
pub record IsEntryIn (g : Graph) (e : Entry) : Type 0 where
  pub object : Object
  pub named : object_named g e.name ≡ Some object
  pub word : e.word ≡ slice_index object.values 0
  pub pointers : e.pointers ≡ length object.pointers
  pub weaks : e.weaks ≡ length object.weaks
  pub values : e.values ≡ length object.values

-- where the entry of a name is told
pub record HasEntry (c : CoreState) (n : ℕ) : Type 0 where
  pub address : ℕ
  pub entry : Entry
  pub below : address < word_count c.table
  pub told : entries_at c address ≡ entry ∷ []
  pub named : entry.name ≡ n

-- the entries show the graph: each is one of the graph, no two have the same name, and each name that a root reaches has one
pub record EntriesShow (g : Graph) (c : CoreState) : Type 0 where
  pub each : (a : ℕ) (e : Entry) → entries_at c a ≡ e ∷ [] → IsEntryIn g e
  pub once : (a b : ℕ) (e d : Entry) → entries_at c a ≡ e ∷ [] → entries_at c b ≡ d ∷ [] → e.name ≡ d.name → a ≡ b
  pub reached : (n : ℕ) → IsReachable g n → HasEntry c n
