-- What is told of moments, one after another.
use Rattle.std.specs.Prelude.{◌≡◌, ◌<◌, ◌*◌, ◌&&◌, ℕ, Bool, true, false, if◌then◌else◌, List, [], ◌∷◌, ◌++◌, Option, Some}
use Rattle.std.specs.Prelude.{codes, length, nat_le, slice_get}
use Rattle.std.specs.Str.{bytes_eq}
use Rattle.heap_words.specs.declared.config.Config.{Config}
use Rattle.script_text.specs.Texts.{Adds}
use Rattle.step_core.specs.Stands.{CoreState}
use Rattle.heap_dump.specs.Lists.{text_below}
use Rattle.heap_life.specs.Telling.{heap_text}
use Rattle.heap_life.specs.RegionTexts.{region_text}
use Rattle.heap_life.specs.declared.life.Moment.{Moment}

-- the text so far, what was told last of each region, and whether tiles are told
pub record Told : Type 0 where
  pub text : List ℕ
  pub last : ℕ → List ℕ
  pub tiles : Bool

-- no moment is told yet
abbrev pub nothing_told : Bool → Told
nothing_told tiles = record { text = []; last = λ k. []; tiles = tiles }

-- what is told of a region: its lines, unless they are those that were told of it last
abbrev pub news_of : (ℕ → List ℕ) → (ℕ → List ℕ) → ℕ → List ℕ
news_of last now k = if bytes_eq (now k) (last k) then [] else now k

-- that tiles are told no more from here on
abbrev pub end_text : Bool → Bool → List ℕ
end_text true false = codes "z\n"
end_text _ _ = []

-- With the lines of a moment's heap the text is `text`: there follow those of each region that aren't as they were told last
abbrev pub with_regions : Told → List ℕ → Bool → CoreState → Told
with_regions t text tiles c = record {
  text = text ++ end_text t.tiles tiles ++ text_below (news_of t.last (region_text tiles c)) (length c.table.regions);
  last = region_text tiles c;
  tiles = tiles;
}

-- one more moment, of a heap with core c. Tiles are told while the text has at most so many bytes
abbrev pub with_moment : ℕ → Told → Moment → CoreState → Told
with_moment most t m c =
    with_regions t (t.text ++ heap_text c m) (t.tiles && nat_le (length (t.text ++ heap_text c m)) most) c

-- what is told of moments, each with the heap's core then
abbrev pub told_of : ℕ → Told → List (Moment × CoreState) → Told
told_of most t [] = t
told_of most t (x ∷ xs) = told_of most (with_moment most t x.0 x.1) xs

-- each of the texts is there, and is what was told last of its region
abbrev pub AreLast : (ℕ → List ℕ) → List (Option (List ℕ)) → Type 0
AreLast last texts = (k : ℕ) → k < length texts → slice_get texts k ≡ Some (Some (last k))

-- A region with these lines is told, or memory was refused: what was told of it last is `was` before and `now` after
abbrev pub TellsRegion : List ℕ → Option (List ℕ) → Option (List ℕ) → Option (List ℕ) → Option (List ℕ) → Type 0
TellsRegion lines was now old new = (after : List ℕ) → new ≡ Some after
    → (before : List ℕ) × (was ≡ Some before) × (now ≡ Some lines) × Adds old (if bytes_eq lines before then [] else lines) new

-- the same of all regions below a number, each with its lines
abbrev pub TellsRegions : (ℕ → List ℕ) → ℕ → List (Option (List ℕ)) → List (Option (List ℕ)) → Option (List ℕ) → Option (List ℕ) → Type 0
TellsRegions lines count was now old new = (after : List ℕ) → new ≡ Some after
    → ((before : List ℕ) × (old ≡ Some before))
    × ((last : ℕ → List ℕ) → AreLast last was → AreLast lines now × Adds old (text_below (news_of last lines) count) new)

-- whether a heap of these sizes has its tiles told: it has at most 65,536 words
abbrev pub tells_tiles : Config → Bool
tells_tiles config = nat_le (config.regions * config.words) 65536
