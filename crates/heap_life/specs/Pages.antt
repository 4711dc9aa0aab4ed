-- The page of a life.
use Rattle.std.specs.Prelude.{◌≡◌, ◌≤◌, ℕ, List, ◌++◌, codes, length}
use Rattle.heap_words.specs.Configs.{card_words, globals_of, registers_of}
use Rattle.heap_words.specs.declared.config.Config.{Config}
use Rattle.script_text.specs.Records.{record_text}
use Rattle.script_text.specs.Texts.{spaced_number}
use Rattle.heap_life.specs.FileNames.{file_text, names_text}
use Rattle.heap_life.specs.Paces.{one_if}
use Rattle.heap_life.specs.declared.pace.Pace.{Pace}
use Rattle.heap_life.specs.declared.life.Life.{Life}

-- the words of a card, and how many globals and registers there are
abbrev pub sizes_text : Config → List ℕ
sizes_text c = codes "card" ++ spaced_number (card_words c) ++ codes "\nroots" ++ spaced_number (globals_of c)
    ++ spaced_number (registers_of c)

-- the pace, and how many events there are
abbrev pub pace_text : Pace → ℕ → List ℕ
pace_text p events = codes "\npace" ++ spaced_number p.every ++ spaced_number p.stride ++ spaced_number (one_if p.small)
    ++ codes "\nevents" ++ spaced_number events ++ codes "\n"

-- what the page of a life says before its moments, drawn of a file of this name and with these names for shapes
abbrev pub facts_text : List ℕ → List ℕ → Life → List ℕ
facts_text name names life = file_text name ++ names_text names ++ sizes_text life.history.config
    ++ pace_text life.pace (length life.history.events)

-- A page that is drawn of a file of this name has lines of the life's record, all of them where there are at most 100,000 events, the
-- file's name, the names for shapes, what it says of the life, and what was told of its moments. What is around them, no clause says
pub record IsPageOf (name names : List ℕ) (life : Life) (page : List ℕ) : Type 0 where
  pub before : List ℕ
  pub lines : List ℕ
  pub between : List ℕ
  pub behind : List ℕ
  pub whole : length life.history.events ≤ 100000 → lines ≡ record_text life.history
  pub text : page ≡ before ++ lines ++ (between ++ facts_text name names life) ++ life.told.items ++ behind
