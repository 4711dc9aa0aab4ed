-- The program's command, as a parse reads it.
use Rattle.std.specs.Prelude.{◌≡◌, [], ◌∷◌, Some, codes, pos, true}
use Rattle.clap.specs.Words.{App, Rule, Text, app_of, new_app, new_rule, with_rule, with_subcommand}
use Rattle.clap.specs.declared.builder.action.ArgAction.TheVariants.{Set, SetTrue}
use Rattle.clap.specs.declared.builder.command.Command.{Command}
use Rattle.clap.specs.declared.builder.value_parser.ValueParser.{ValueParser}
use Rattle.clap.specs.declared.builder.value_parser.ValueParser.TheVariants as parser

-- what a parse reads of the command
abbrev pub IsReadAs : App → Command → Type 0
IsReadAs app c = app_of c ≡ app

-- the path
abbrev pub file : Rule
file = record (new_rule (codes "FILE")) { required = true; action = Some Set }

-- an option that takes a number
abbrev pub number : Text → ValueParser → Rule
number name values = record (new_rule name) { long = Some name; action = Some Set; value_names = 1; parser = Some values }

abbrev pub count : Text → Rule
count name = number name (parser.Signed (pos 0) (pos 4294967295))

abbrev pub large : Text → Rule
large name = number name (parser.Unsigned 0 18446744073709551615)

-- a count of background actors, 0 where it isn't given
abbrev pub background : Text → Rule
background name = record (count name) { defaults = codes "0" ∷ [] }

abbrev pub workers : Rule
workers = record (count (codes "workers")) { required = true }

abbrev pub schedule : Rule
schedule = record (large (codes "schedule")) { required = true }

-- an option that takes no value
abbrev pub flag : Text → Rule
flag name = record (new_rule name) { long = Some name; action = Some SetTrue }

-- a subcommand that takes a path alone
abbrev pub with_path : Text → App
with_path name = with_rule (new_app name) file

-- a subcommand that takes a path, and whether a fault is to be explained
abbrev pub plain : Text → App
plain name = with_rule (with_path name) (flag (codes "explain"))

-- a subcommand that runs a script by actors: what its order needs, and the counts of background actors
abbrev pub by_actors : Text → Rule → App
by_actors name order = with_rule (with_rule (with_rule (plain name) order) (background (codes "refiners"))) (background (codes "markers"))

-- the subcommand that judges a record
abbrev pub checked : App
checked = with_rule (plain (codes "check")) (flag (codes "follow"))

-- how many events there are to a moment, 1 where it isn't given
abbrev pub every : Rule
every = record (number (codes "every") (parser.Signed (pos 1) (pos 1000000))) { defaults = codes "1" ∷ [] }

-- the path of a file of names for shapes
abbrev pub names : Rule
names = record (new_rule (codes "names")) { long = Some (codes "names"); action = Some Set; value_names = 1 }

-- the path of a file of names for types
abbrev pub types : Rule
types = record (new_rule (codes "types")) { long = Some (codes "types"); action = Some Set; value_names = 1 }

-- the subcommand that views a heap
abbrev pub viewed : App
viewed =
    with_rule (with_rule (with_rule (with_rule (with_rule (with_rule (with_rule (with_rule (with_rule (plain (codes "view"))
    (flag (codes "record")))
    (count (codes "at")))
    (count (codes "region")))
    (flag (codes "summary")))
    (large (codes "object")))
    (large (codes "path")))
    (flag (codes "census")))
    (flag (codes "heapsnapshot")))
    types

-- the subcommand that draws the life of a heap
abbrev pub drawn : App
drawn = with_rule (with_rule (with_rule (plain (codes "draw")) every) (flag (codes "record"))) names

-- the program without its subcommands
abbrev pub bare : App
bare =
    let new = new_app (codes "g1heap") in
    record new { top = record new.top { has_version = true; subcommand_required = true } }

abbrev pub g1heap : App
g1heap =
    with_subcommand (with_subcommand (with_subcommand (with_subcommand (with_subcommand (with_subcommand bare
    (plain (codes "run")).top)
    (by_actors (codes "sim") schedule).top)
    (by_actors (codes "threads") workers).top)
    checked.top)
    viewed.top)
    drawn.top
