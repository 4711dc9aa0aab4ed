-- Lists that are told item by item.
use Rattle.std.specs.Prelude.{ℕ, zero, suc, min, ◌==◌, false, List, [], ◌∷◌, ◌++◌, Option, None, Some, length, take, flat_map, codes}
use Rattle.std.specs.Prelude.{slice_index_or, if◌then◌else◌}
use Rattle.std.specs.Fmt.{decimal}
use Rattle.remembered_sets.specs.Sets.{CardSet, set_of}
use Rattle.script_text.specs.Texts.{spaced_number}
use Rattle.step_core.specs.Stands.{CoreState}

-- what is told of the numbers below one, one after another
abbrev pub text_below : (ℕ → List ℕ) → ℕ → List ℕ
text_below f zero = []
text_below f (suc n) = text_below f n ++ f n

-- the first items of a list, at most so many
abbrev pub first : {A : Type 0} → ℕ → List A → List A
first most xs = take (min (length xs) most) xs

-- the places of roots that aren't nil, counted from a place on, and where they lead
abbrev pub named : ℕ → List (Option ℕ) → List (ℕ × ℕ)
named place [] = []
named place (None ∷ ws) = named (suc place) ws
named place (Some at ∷ ws) = (place, at) ∷ named (suc place) ws

-- a region after a text, if all its cards are in a set
abbrev pub source_text : CardSet → List ℕ → ℕ → List ℕ
source_text set before source = if slice_index_or set.sources source false then before ++ decimal source else []

-- a region's remembered set as a line: a title, the cards that are in it one by one, what is between, and those regions; nothing where no
-- card is
abbrev pub set_text : CoreState → List ℕ → List ℕ → List ℕ → ℕ → List ℕ
set_text c title between before k = if length (set_of c.sets k).inline == 0 then []
    else title ++ flat_map spaced_number (set_of c.sets k).inline ++ between
    ++ text_below (source_text (set_of c.sets k) before) (length c.table.regions) ++ codes "\n"
