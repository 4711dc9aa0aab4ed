-- What a parse makes of a subcommand's name, a path, and the words after it.
use Rattle.std.proofs.Common.{◌≡◌, ◌∙◌, ◌∷◌, ◌++◌, [], ℕ, List, Option, Some, None, Bool, true, false, codes, append_assoc, append-nil}
use Rattle.std.proofs.Common.{ap, ap₂, refl, sym}
use Rattle.std.specs.Prelude.{◌==◌, find, fold, if◌then◌else◌, is_some, option_and_then, option_map}
use Rattle.std.specs.Option.{option_map_or}
use Rattle.std.specs.Str.{bytes_eq}
use Rattle.clap.proofs.OnLiterals.{clap_on_literals}
use Rattle.clap.specs.Faults.{built_fault, check_fault, defaults_fault, entered_fault, fault_of, level_fault, other_fault, settle_fault}
use Rattle.clap.specs.Faults.{step_fault, turn_fault, walk_fault}
use Rattle.clap.specs.Kinds.{Kinds, or_else}
use Rattle.clap.specs.Lexer.{long_of, short_of}
use Rattle.clap.specs.Simple.{App, Shape, built, entered, filled, filled_from, help_rule, label_of, names_of, rows_at, with_index}
use Rattle.clap.specs.Walk.{Held, Names, Row, Rule, Walk, after_step, answers_to, arg_by_id, arg_by_index, finished, idle, nothing_held}
use Rattle.clap.specs.Walk.{option, option_word, rows_after, settled, stop_after, subcommand_met, subcommand_or_other}
use Rattle.clap.specs.Walk.{walk, walk_from, walked}
use Rattle.clap.specs.Words.{Text, subcommand_of}
use Rattle.clap.specs.declared.error.kind.ErrorKind.TheVariants.{MissingRequiredArgument}
use Rattle.command_line.specs.Asked.{Asked, Asks, asked_in, asked_of, is_path, names_in, names_of as file_of_names, types_in, types_of}
use Rattle.command_line.specs.Program.{by_actors, checked, drawn, file, g1heap, plain, schedule, viewed, workers}

-- a word that a parse takes for a value: not `--`, and no option
pub record IsValue (word : Text) : Type 0 where
  pub no_end : bytes_eq word (45 ∷ 45 ∷ []) ≡ false
  pub no_name : long_of word ≡ None
  pub no_letters : short_of word ≡ None

pub is_value : (path : Text) → is_path path ≡ true → IsValue path
is_value [] h = record { no_end = refl; no_name = refl; no_letters = refl }
is_value (c ∷ []) h = go (c == 45) refl
  where
    go : (b : Bool) → (c == 45) ≡ b → IsValue (c ∷ [])
    go true e = record { no_end = rw e refl; no_name = rw e refl; no_letters = rw e refl }
    go false e = record { no_end = rw e refl; no_name = rw e refl; no_letters = rw e refl }
is_value (c ∷ d ∷ rest) h = go (c == 45) refl h
  where
    go : (b : Bool) → (c == 45) ≡ b → is_path (c ∷ d ∷ rest) ≡ true → IsValue (c ∷ d ∷ rest)
    go false e h = record { no_end = rw e refl; no_name = rw e refl; no_letters = rw e refl }
    go true e h =
        let bad : false ≡ true = rw e at h in
        cc

past : (a b : Kinds) → a ≡ [] → or_else a b ≡ b
past a b none = ap (λ x. or_else x b) none

nothing_more : (a : Kinds) → or_else a [] ≡ a
nothing_more [] = refl
nothing_more (k ∷ ks) = refl

-- ---- the words of the whole command: a subcommand's name, and those that are the subcommand's

-- once a subcommand is met the words are kept for it
stops : (c : List Rule) (names : Names) (w : Walk) (name : Text) (seen words : List Text)
    → fold (walked c names) (record w { stopped = Some (name, seen) }) words ≡ record w { stopped = Some (name, seen ++ words) }
unfolding walked
stops c names w name seen [] = ap (λ (ws : List Text). record w { stopped = Some (name, ws) }) (sym (append-nil seen))
stops c names w name seen (word ∷ words) =
    stops c names w name (seen ++ word ∷ []) words
    ∙ ap (λ (ws : List Text). record w { stopped = Some (name, ws) }) (append_assoc seen (word ∷ []) words)

-- and have no fault at the level above it
silent : (s : Shape) (names : Names) (w : Walk) (name : Text) (seen words : List Text)
    → walk_fault s names (record w { stopped = Some (name, seen) }) words ≡ []
unfolding walk_fault walked
silent s names w name seen [] = refl
silent s names w name seen (word ∷ words) = silent s names w name (seen ++ word ∷ []) words

-- the rule of the path, as a parse has it
abbrev pub path_rule : Rule
path_rule = with_index 1 (filled file)

-- a name that leads to the subcommand, which takes a path first
pub record Enters (a : App) (name : Text) (s : Shape) : Type 0 where
  pub met : subcommand_met (names_of a) idle name ≡ Some name
  pub found : find (λ s. answers_to name (label_of s)) a.subs ≡ Some s
  pub no_help : bytes_eq name (codes "help") ≡ false
  pub defaults : defaults_fault [] a.top.rules ≡ []
  pub checks : check_fault a.top (finished a.top.rules nothing_held) true ≡ []
  pub path : arg_by_index s.rules 1 ≡ Some path_rule

-- where the walk stands after the name and the words after it
abbrev entry : Text → List Text → Walk
entry name words = record (walk_from nothing_held) { stopped = Some (name, words) }

module _ (a : App) (name : Text) (s : Shape) (enters : Enters a name s) (words : List Text) where
  first : walked a.top.rules (names_of a) (walk_from nothing_held) name ≡ entry name []
  unfolding walked
  first =
      ap (λ (met : Option Text).
      let step = subcommand_or_other a.top.rules met idle 1 name nothing_held in
      after_step a.top.rules name (walk_from nothing_held) step.0 step.1) enters.met

  ended : walk a.top.rules (names_of a) nothing_held (name ∷ words) ≡ entry name words
  ended = ap (λ (w : Walk). fold (walked a.top.rules (names_of a)) w words) first
      ∙ stops a.top.rules (names_of a) (walk_from nothing_held) name [] words

  enters_rows : entered a (stop_after a.top.rules (names_of a) (name ∷ words)) ≡ Some (rows_at s words)
  enters_rows = ap (λ (w : Walk). entered a w.stopped) ended ∙ ap (option_map (λ (s : Shape). rows_at s words)) enters.found

  name_is_taken : turn_fault a.top (names_of a) (walk_from nothing_held) name ≡ []
  name_is_taken =
      ap (λ (met : Option Text).
      let step = subcommand_or_other a.top.rules met idle 1 name nothing_held in
      or_else (other_fault a.top met name nothing_held) (step_fault a.top 1 step.0 step.1)) enters.met
      ∙ rw enters.no_help refl

  words_are_kept : walk_fault a.top (names_of a) (walk_from nothing_held) (name ∷ words) ≡ []
  unfolding walk_fault
  words_are_kept =
      past _ _ name_is_taken
      ∙ ap (λ (w : Walk). walk_fault a.top (names_of a) w words) first
      ∙ silent a.top (names_of a) (walk_from nothing_held) name [] words

  enters_fault : built_fault a nothing_held (name ∷ words) ≡ level_fault s [] nothing_held words false []
  enters_fault =
      past _ _ words_are_kept
      ∙ ap (λ (w : Walk). or_else (entered_fault a w.stopped)
      (or_else (settle_fault a.top.rules a.top.args_override_self w.held)
      (or_else (defaults_fault (settled a.top.rules w.held).rows a.top.rules)
      (check_fault a.top (finished a.top.rules w.held) (is_some (entered a w.stopped)))))) ended
      ∙ ap₂ (λ (f : Option Shape) (k : Kinds). or_else (option_map_or (λ (s : Shape). level_fault s [] nothing_held words false []) f [])
      (or_else k (check_fault a.top (finished a.top.rules nothing_held)
      (is_some (option_map (λ (s : Shape). rows_at s words) f))))) enters.found enters.defaults
      ∙ ap (λ (k : Kinds). or_else (level_fault s [] nothing_held words false []) k) enters.checks
      ∙ nothing_more _

-- ---- the words of a subcommand: a path, and its options

-- where the walk stands after the path
abbrev pub from_path : Text → Walk
from_path path = record (walk_from (record nothing_held { pending = Some (codes "FILE", path ∷ []) })) { position = 2 }

-- where the walk stands after the options too
abbrev pub end_of : Shape → Text → List Text → Held
end_of s path options = (fold (walked s.rules []) (from_path path) options).held

-- the faults of what is held at the end
abbrev pub end_fault : Shape → Held → Kinds
end_fault s end =
    or_else (settle_fault s.rules s.args_override_self end)
    (or_else (defaults_fault (settled s.rules end).rows s.rules) (check_fault s (finished s.rules end) false))

-- the faults of the options, and those at the end
abbrev pub faults_from : Shape → Text → List Text → Kinds
faults_from s path options = or_else (walk_fault s [] (from_path path) options) (end_fault s (end_of s path options))

module _ (s : Shape) (first : arg_by_index s.rules 1 ≡ Some path_rule) (path : Text) (v : IsValue path) (options : List Text) where
  walks : walked s.rules [] (walk_from nothing_held) path ≡ from_path path
  unfolding walked
  walks = rw (v.no_end, v.no_name, v.no_letters, first) refl

  path_is_taken : turn_fault s [] (walk_from nothing_held) path ≡ []
  path_is_taken = rw (v.no_end, v.no_name, v.no_letters, first) refl

  path_rows : rows_after s.rules [] (path ∷ options) ≡ finished s.rules (end_of s path options)
  path_rows = ap (λ (w : Walk). finished s.rules (fold (walked s.rules []) w options).held) walks

  path_fault : level_fault s [] nothing_held (path ∷ options) false [] ≡ faults_from s path options
  unfolding walk_fault
  path_fault =
      ap (λ (k : Kinds). or_else (or_else k (walk_fault s [] (walked s.rules [] (walk_from nothing_held) path) options))
      (end_fault s (walk s.rules [] nothing_held (path ∷ options)).held)) path_is_taken
      ∙ ap (λ (w : Walk). or_else (walk_fault s [] w options) (end_fault s (fold (walked s.rules []) w options).held)) walks

-- where the walk stands after an option that waits for its value
abbrev pub awaiting : Held → Text → ℕ → Walk
awaiting h id position = record { held = h; waiting = option id; position = position; is_trailing = false; stopped = None }

-- where the walk stands after that value
abbrev pub given : List Rule → Held → Text → ℕ → Text → Walk
given c h id position word =
    let taken = option_word (arg_by_id c id) id word h in
    record (awaiting h id position) { held = taken.0; waiting = taken.1 }

module _ (s : Shape) (h : Held) (id : Text) (position : ℕ) (word : Text) (v : IsValue word) where
  pub takes_value : walked s.rules [] (awaiting h id position) word ≡ given s.rules h id position word
  unfolding walked
  takes_value = rw (v.no_end, v.no_name, v.no_letters) refl

  pub value_is_taken : turn_fault s [] (awaiting h id position) word ≡ []
  value_is_taken = rw (v.no_end, v.no_name, v.no_letters) refl

-- ---- both

module _ (a : App) (named : a.top.no_binary_name ≡ false) (name : Text) (s : Shape) (enters : Enters (built a) name s)
    (program path : Text) (v : IsValue path) (options : List Text) where
  rows : subcommand_of a (program ∷ name ∷ path ∷ options) ≡ Some (s.name, finished s.rules (end_of s path options))
  rows =
      ap (λ (b : Bool). entered (built a) (stop_after (built a).top.rules (names_of (built a))
      (if b then program ∷ name ∷ path ∷ options else (name ∷ path ∷ options)))) named
      ∙ enters_rows (built a) name s enters (path ∷ options)
      ∙ ap (λ (rows : List Row). Some (s.name, rows)) (path_rows s enters.path path v options)

  fault : fault_of a (program ∷ name ∷ path ∷ options) ≡ faults_from s path options
  fault =
      ap (λ (b : Bool). built_fault (built a) nothing_held (if b then program ∷ name ∷ path ∷ options else (name ∷ path ∷ options))) named
      ∙ enters_fault (built a) name s enters (path ∷ options)
      ∙ path_fault s enters.path path v options

-- what words ask for that are a subcommand's name, a path, and options
pub asks : (name : Text) (s : Shape) → Enters (built g1heap) name s → (program path : Text) (options : List Text) (asked : Asked)
    → is_path path ≡ true → asked_in s.name (finished s.rules (end_of s path options)) ≡ Some asked → faults_from s path options ≡ []
    → Asks (program ∷ name ∷ path ∷ options) asked
asks name s enters program path options asked h is none =
    let v = is_value path h in
    let words = program ∷ name ∷ path ∷ options in
    let found : asked_of words ≡ Some asked =
    ap (option_and_then (λ found. asked_in found.0 found.1)) (rows g1heap refl name s enters program path v options) ∙ is in
    let kinds = fault g1heap refl name s enters program path v options ∙ none in
    (found, ap₂ (λ (k : Kinds) (o : Option Asked). or_else k (option_map_or (λ asked. []) o (MissingRequiredArgument ∷ []))) kinds found)

-- the file of names that such words name
pub asks_names : (name : Text) (s : Shape) → Enters (built g1heap) name s → (program path : Text) (options : List Text)
    → is_path path ≡ true → file_of_names (program ∷ name ∷ path ∷ options) ≡ names_in (finished s.rules (end_of s path options))
asks_names name s enters program path options h =
    ap (option_and_then (λ found. names_in found.1)) (rows g1heap refl name s enters program path (is_value path h) options)

-- the file of types that such words name
pub asks_types : (name : Text) (s : Shape) → Enters (built g1heap) name s → (program path : Text) (options : List Text)
    → is_path path ≡ true → types_of (program ∷ name ∷ path ∷ options) ≡ types_in (finished s.rules (end_of s path options))
asks_types name s enters program path options h =
    ap (option_and_then (λ found. types_in found.1)) (rows g1heap refl name s enters program path (is_value path h) options)

-- a subcommand as a parse has it
abbrev pub leaf : App → Shape
leaf a = record a.top { rules = filled_from 1 (a.top.rules ++ help_rule ∷ []); disable_help_subcommand = true; is_built = true }

pub to_run : Enters (built g1heap) (codes "run") (leaf (plain (codes "run")))
unfolding clap_on_literals
to_run = record { met = refl; found = refl; no_help = refl; defaults = refl; checks = refl; path = refl }

pub to_sim : Enters (built g1heap) (codes "sim") (leaf (by_actors (codes "sim") schedule))
unfolding clap_on_literals
to_sim = record { met = refl; found = refl; no_help = refl; defaults = refl; checks = refl; path = refl }

pub to_threads : Enters (built g1heap) (codes "threads") (leaf (by_actors (codes "threads") workers))
unfolding clap_on_literals
to_threads = record { met = refl; found = refl; no_help = refl; defaults = refl; checks = refl; path = refl }

pub to_check : Enters (built g1heap) (codes "check") (leaf checked)
unfolding clap_on_literals
to_check = record { met = refl; found = refl; no_help = refl; defaults = refl; checks = refl; path = refl }

pub to_view : Enters (built g1heap) (codes "view") (leaf viewed)
unfolding clap_on_literals
to_view = record { met = refl; found = refl; no_help = refl; defaults = refl; checks = refl; path = refl }

pub to_draw : Enters (built g1heap) (codes "draw") (leaf drawn)
unfolding clap_on_literals
to_draw = record { met = refl; found = refl; no_help = refl; defaults = refl; checks = refl; path = refl }
