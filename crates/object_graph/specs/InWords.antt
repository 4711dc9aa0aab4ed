-- How objects are kept in words.
use Rattle.std.specs.Prelude.{◌≡◌, ℕ, ◌+◌, ◌/◌, ◌%◌, ◌^◌, Bool, true, false, List, [], ◌∷◌, map, take, drop, nat_lt, if◌then◌else◌}
use Rattle.heap_model.specs.Graph.{Object}
use Rattle.object_graph.specs.Fields.{pointer_of}
use Rattle.object_graph.specs.declared.objects.Entry.{Entry}

-- where the words of an entry's object start, and how many of them are weak slots
unfoldable pub start_of : Entry → ℕ
start_of e = e.packed % 2 ^ 56

unfoldable pub weaks_of : Entry → ℕ
weaks_of e = e.packed / 2 ^ 56

-- the object of an entry: its pointers, its weak slots and its data words, from a word of the list on. It has no held slots
abbrev pub object_at : List ℕ → Entry → Object
object_at words e = record {
  pointers = map pointer_of (take e.pointers (drop (start_of e) words));
  weaks = map pointer_of (take (weaks_of e) (drop (start_of e + e.pointers) words));
  held = [];
  values = take e.values (drop (start_of e + e.pointers + weaks_of e) words);
}

abbrev pub objects_in : List ℕ → List Entry → List Object
objects_in words entries = map (object_at words) entries

-- the objects' words are one after the other, from a word to the last
abbrev pub AreInTurn : List Entry → ℕ → ℕ → Type 0
AreInTurn [] from end = from ≡ end
AreInTurn (e ∷ es) from end = (start_of e ≡ from) × AreInTurn es (from + e.pointers + weaks_of e + e.values) end

-- whether some entry's object has a weak slot
abbrev pub some_weaks : List Entry → Bool
some_weaks [] = false
some_weaks (e ∷ es) = if nat_lt 0 (weaks_of e) then true else some_weaks es
