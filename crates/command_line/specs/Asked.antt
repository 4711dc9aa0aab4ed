-- What the words of a command line ask for.
use Rattle.std.specs.Prelude.{◌≡◌, ◌==◌, ◌^◌, ◌&&◌, ℕ, Bool, List, [], ◌∷◌, Option, Some, None, not, true, false}
use Rattle.std.specs.Prelude.{codes, if◌then◌else◌, nat_lt, option_and_then, option_map}
use Rattle.std.specs.Option.{option_map_or}
use Rattle.std.specs.Str.{bytes_eq}
use Rattle.std.specs.Str.Parse.{digits_value, without_leading_plus}
use Rattle.clap.specs.Faults.{fault_of}
use Rattle.clap.specs.Kinds.{Kinds, or_else}
use Rattle.clap.specs.ValueTests.{is_numeral}
use Rattle.clap.specs.Words.{Row, Text, first_of, one_of, subcommand_of}
use Rattle.clap.specs.declared.error.kind.ErrorKind.TheVariants.{MissingRequiredArgument}
use Rattle.command_line.specs.Program.{g1heap}
use Rattle.command_line.specs.declared.Job.{Job}
use Rattle.command_line.specs.declared.Order.{Order}
use Rattle.command_line.specs.declared.Order.TheVariants.{File, Drawn, Concurrent}
use Rattle.command_line.specs.declared.Task.{Task}
use Rattle.command_line.specs.declared.Task.TheVariants.{Script, Check, View, Draw}
use Rattle.command_line.specs.declared.Viewed.{Viewed}
use Rattle.command_line.specs.declared.Viewed.TheVariants.{Census, Object, Path, Regions, Snapshot}

-- the number of so many bits that a text spells
abbrev pub number_of : ℕ → Text → Option ℕ
number_of bits text =
    let digits = without_leading_plus text in
    if is_numeral digits && nat_lt (digits_value 10 digits) (2 ^ bits) then Some (digits_value 10 digits) else None

-- the number that was given for an option, or its default
abbrev pub number_in : ℕ → Text → List Row → Option ℕ
number_in bits name rows = option_and_then (number_of bits) (one_of name rows)

-- the order that a seed draws, where the seed and the counts are there
abbrev pub drawn_in : List Row → Option Order
drawn_in rows =
    option_and_then (λ seed. option_and_then (λ refiners. option_map (λ markers. Drawn seed refiners markers)
    (number_in 32 (codes "markers") rows)) (number_in 32 (codes "refiners") rows)) (number_in 64 (codes "schedule") rows)

-- the order of so many threads, where the counts are there
abbrev pub threads_in : List Row → Option Order
threads_in rows =
    option_and_then (λ workers. option_and_then (λ refiners. option_map (λ markers. Concurrent workers refiners markers)
    (number_in 32 (codes "markers") rows)) (number_in 32 (codes "refiners") rows)) (number_in 32 (codes "workers") rows)

-- whether an option that takes no value was given
abbrev pub flag_in : Text → List Row → Bool
flag_in name rows = option_map_or (λ text. bytes_eq text (codes "true")) (first_of name rows) false

-- what of a heap is viewed where no object was named: its census or its snapshot, where that was asked for; else its regions
abbrev pub wide_in : List Row → Viewed
wide_in rows = if flag_in (codes "census") rows then Census else if flag_in (codes "heapsnapshot") rows then Snapshot
    else Regions (number_in 32 (codes "region") rows) (flag_in (codes "summary") rows)

-- what of a heap is viewed where no object is viewed by itself: a way to one, where that was asked for; else something of all objects
abbrev pub pathed_in : List Row → Viewed
pathed_in rows = option_map_or Path (number_in 64 (codes "path") rows) (wide_in rows)

-- what of a heap is viewed: an object, where its name was given; else a way to one, or something of all objects
abbrev pub viewed_in : List Row → Viewed
viewed_in rows = option_map_or Object (number_in 64 (codes "object") rows) (pathed_in rows)

-- what a subcommand does with the file
abbrev pub task_in : Text → List Row → Option Task
task_in name rows =
    if bytes_eq name (codes "run") then Some (Script File)
    else if bytes_eq name (codes "sim") then option_map Script (drawn_in rows)
    else if bytes_eq name (codes "threads") then option_map Script (threads_in rows)
    else if bytes_eq name (codes "check") then Some (Check (flag_in (codes "follow") rows))
    else if bytes_eq name (codes "view")
    then Some (View (flag_in (codes "record") rows) (number_in 32 (codes "at") rows) (viewed_in rows))
    else if bytes_eq name (codes "draw") then option_map (λ every. Draw every (flag_in (codes "record") rows))
    (number_in 32 (codes "every") rows)
    else None

-- a path, what is done with the file, and whether a fault is to be explained
abbrev pub Asked : Type 0
Asked = Text × Task × Bool

abbrev pub asked_in : Text → List Row → Option Asked
asked_in name rows =
    option_and_then (λ task. option_map (λ file. (file, task, flag_in (codes "explain") rows)) (first_of (codes "FILE") rows))
    (task_in name rows)

-- what a job was asked for
abbrev pub asked_by : Job → Asked
asked_by job = (job.file.now, job.task, job.explained)

-- the path of a file of names for shapes, where one was given
abbrev pub names_in : List Row → Option Text
names_in rows = first_of (codes "names") rows

-- the path of a job's file of names for shapes
abbrev pub names_by : Job → Option Text
names_by job = option_map (λ path. path.now) job.names

-- the path of the file of names for shapes that the words name
abbrev pub names_of : List Text → Option Text
names_of words = option_and_then (λ found. names_in found.1) (subcommand_of g1heap words)

-- the path of a file of names for types, where one was given; that of a job; and that which the words name
abbrev pub types_in : List Row → Option Text
types_in rows = first_of (codes "types") rows

abbrev pub types_by : Job → Option Text
types_by job = option_map (λ path. path.now) job.types

abbrev pub types_of : List Text → Option Text
types_of words = option_and_then (λ found. types_in found.1) (subcommand_of g1heap words)

-- what the words ask for, the program's name first
abbrev pub asked_of : List Text → Option Asked
asked_of words = option_and_then (λ found. asked_in found.0 found.1) (subcommand_of g1heap words)

-- the kinds of error that the words may give: those of their parse, or that of a value that isn't there
abbrev pub faults_of : List Text → Kinds
faults_of words = or_else (fault_of g1heap words) (option_map_or (λ asked. []) (asked_of words) (MissingRequiredArgument ∷ []))

-- the words ask for this, and only want of memory refuses them
abbrev pub Asks : List Text → Asked → Type 0
Asks words asked = (asked_of words ≡ Some asked) × (faults_of words ≡ [])

-- a word that is a path: it begins with no hyphen, or has one byte
abbrev pub is_path : Text → Bool
is_path (c ∷ d ∷ rest) = not (c == 45)
is_path _ = true
