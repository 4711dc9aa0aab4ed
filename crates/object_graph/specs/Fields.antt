-- Pointers and weak slots as words, and the object in a place.
use Rattle.std.specs.Prelude.{◌≡◌, ℕ, zero, suc, List, [], Option, Some, None, slice_index_or, refl}
use Rattle.heap_model.specs.Graph.{Object}

-- what a word says as a pointer or a weak slot: 0 is nil, and n + 1 the name n
abbrev pub pointer_of : ℕ → Option ℕ
pointer_of zero = None
pointer_of (suc name) = Some name

-- the word of a pointer
abbrev pub word_of : Option ℕ → ℕ
word_of None = 0
word_of (Some name) = suc name

pub word_of-pointer_of : (word : ℕ) → word_of (pointer_of word) ≡ word
word_of-pointer_of zero = refl
word_of-pointer_of (suc name) = refl

-- the object in a place, one with no fields where there is none
abbrev pub object_in : List Object → ℕ → Object
object_in objects place = slice_index_or objects place (record { pointers = []; weaks = []; held = []; values = [] })
