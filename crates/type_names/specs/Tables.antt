-- Types in maps: the names of words, and the first word of each name.
use Rattle.std.specs.Prelude.{◌≡◌, ◌≢◌, ℕ, ⊤, List, Option, option_map, Result, Ok, Err}
use Rattle.std.specs.BTreeMap.{BTreeMap, get, get_by}
use Rattle.std.specs.Borrow.{Bor}
use Rattle.std.specs.Cmp.Lexicographic.{slice_cmp}
use Rattle.std.specs.Ordering.{nat_cmp}
use Rattle.type_names.specs.NamedLines.{TypeName}
use Rattle.type_names.specs.Naming.{in_line, name_among, with_line, word_among}
use Rattle.type_names.specs.declared.faults.TypesFault.{TypesFault}
use Rattle.type_names.specs.declared.faults.TypesFault.TheVariants.{NoMemory}
use Rattle.type_names.specs.declared.lines.Named.{Named}
use Rattle.type_names.specs.declared.types.Names.{Names}

-- a word and its name as a type
abbrev pub type_of : Named → TypeName
type_of named = record { word = named.word; name = named.name.now }

-- a map has the name of each word that these types name
abbrev pub AreWords : List TypeName → BTreeMap ℕ (Bor (List ℕ)) → Type 0
AreWords ts words = (w : ℕ) → option_map (λ name. name.now) (get nat_cmp words w) ≡ name_among ts w

-- a map has the first word of each name
abbrev pub AreFirsts : List TypeName → BTreeMap (Bor (List ℕ)) ℕ → Type 0
AreFirsts ts firsts = (name : List ℕ) → get_by (λ k. slice_cmp nat_cmp name k.now) firsts ≡ word_among ts name

-- both have what these types name
pub record AreNames (ts : List TypeName) (names : Names) : Type 0 where
  pub words : AreWords ts names.words
  pub firsts : AreFirsts ts names.firsts

-- maps of types have what a line of this number adds to them; or it has a mistake, or memory was refused
abbrev pub IsTaken : ℕ → List ℕ → List TypeName → Names → Result ⊤ TypesFault → Type 0
IsTaken n line ts new (Ok done) = (more : List TypeName) × (with_line ts line ≡ Ok more) × AreNames more new
IsTaken n line ts new (Err fault) = fault ≢ NoMemory → in_line n (with_line ts line) ≡ Err fault

-- the same of whatever types the maps were of
abbrev pub TakesLine : ℕ → List ℕ → Names → Names → Result ⊤ TypesFault → Type 0
TakesLine n line old new result = (ts : List TypeName) → AreNames ts old → IsTaken n line ts new result
