-- What the program does with a job.
use Rattle.std.specs.Prelude.{◌≡◌, ◌⊎◌, ℕ, ⊤, Bool, List, [], Option, None, Some, Result, Err, true, false, codes, if◌then◌else◌}
use Rattle.script_text.specs.Watched.{Reader, Writer, FailsToGive, WritesNothing}
use Rattle.script_text.specs.declared.fault.ReadFault.{ReadFault}
use Rattle.script_text.specs.declared.expected.TextKind.{TextKind}
use Rattle.script_text.specs.declared.expected.TextKind.TheVariants as texts
use Rattle.g1heap.specs.Runs.{EndsIn, MakesRecord, MayFail}
use Rattle.type_names.specs.FaultTexts.{TellsTypes}
use Rattle.type_names.specs.Naming.{NamesTypes, types_of}
use Rattle.type_names.specs.declared.faults.Mistake.{Mistake}
use Rattle.type_names.specs.declared.faults.TypesFault.TheVariants.{Line}
use Rattle.jobs.specs.Reasons.{IsReadReason, TellsExplained, TellsMore}
use Rattle.job_ends.specs.Runs.{GivesAll, Performs}
use Rattle.jobs.specs.declared.causes.Counts.{Counts}
use Rattle.jobs.specs.Verdicts.{PerformsCheck}
use Rattle.jobs.specs.Explanations.{PerformsExplain}
use Rattle.jobs.specs.Followed.{PerformsFollow}
use Rattle.heap_view.specs.declared.glance.Glance.{Glance}
use Rattle.heap_view.specs.declared.glance.Viewed as view
use Rattle.heap_view.specs.declared.glance.Viewed.TheVariants as views
use Rattle.heap_view.specs.Views.{PerformsView, Views}
use Rattle.heap_view.specs.Reviews.{PerformsReview, Reviews}
use Rattle.heap_life.specs.Drawings.{Draws, PerformsDraw}
use Rattle.heap_life.specs.Redrawings.{PerformsRedraw, Redraws}
use Rattle.job_ends.specs.FaultLines.{TellsLine}
use Rattle.job_ends.specs.declared.faults.JobFault.{JobFault}
use Rattle.job_ends.specs.declared.faults.JobFault.TheVariants.{Read, Run}
use Rattle.heap_steps.specs.declared.fault.RunFault.TheVariants.{NoMemory}
use Rattle.command_line.specs.Asked.{Asked}
use Rattle.command_line.specs.declared.Order.{Order}
use Rattle.command_line.specs.declared.Order.TheVariants.{Concurrent, Drawn, File}
use Rattle.command_line.specs.declared.Task.{Task}
use Rattle.command_line.specs.declared.Task.TheVariants.{Script, Check, View, Draw}
use Rattle.command_line.specs.declared.Viewed.{Viewed}
use Rattle.command_line.specs.declared.Viewed.TheVariants.{Census, Object, Path, Regions, Snapshot}

-- a record in a file of this name was judged, and the verdict explained, or the record read as it is written, where that was asked for
abbrev pub DoesCheck : List ℕ → Bool → Bool → Reader → Reader → Writer → Writer → Writer → Writer → ℕ → Type 0
DoesCheck name false false given left old new err err' status = PerformsCheck given left old new err err' status
DoesCheck name true false given left old new err err' status = PerformsExplain name given left old new err err' status
DoesCheck name explained true given left old new err err' status = PerformsFollow explained given left old new err err' status

-- what was asked for was viewed of a heap, of a record's or of a script's, with these names for types
abbrev pub DoesView : Bool → Glance → List ℕ → Reader → Reader → Writer → Writer → Writer → Writer → ℕ → Type 0
DoesView false glance types given left old new err err' status = PerformsView glance types given left old new err err' status
DoesView true glance types given left old new err err' status = PerformsReview glance types given left old new err err' status

-- the life of a heap was drawn, of a record or of a script in a file of this name, with these names for shapes
abbrev pub DoesDraw : List ℕ → List ℕ → Bool → ℕ → Reader → Reader → Writer → Writer → Writer → Writer → ℕ → Type 0
DoesDraw name names false every given left old new err err' status = PerformsDraw name names every given left old new err err' status
DoesDraw name names true every given left old new err err' status = PerformsRedraw name names every given left old new err err' status

-- what of a heap a task views, and when
abbrev pub viewed_of : Viewed → view.Viewed
viewed_of (Regions region summary) = views.Regions region summary
viewed_of (Object name) = views.Object name
viewed_of (Path name) = views.Path name
viewed_of Census = views.Census
viewed_of Snapshot = views.Snapshot

abbrev pub glance_of : Option ℕ → Viewed → Glance
glance_of at viewed = record { at = at; viewed = viewed_of viewed }

-- How a task that does a heap's steps, of a file of this name, ended, whatever is told of it: what was read, what was written, and its
-- outcome. A page has these names for shapes, and a view these for types.
abbrev pub EndsAs : List ℕ → List ℕ → List ℕ → Task → Reader → Reader → Writer → Writer → Result ⊤ JobFault → Type 0
EndsAs name names types (Script order) given left old new outcome = EndsIn order given left old new outcome
EndsAs name names types (View false at viewed) given left old new outcome =
    Views (glance_of at viewed) types given left old new outcome
EndsAs name names types (View true at viewed) given left old new outcome =
    Reviews (glance_of at viewed) types given left old new outcome
EndsAs name names types (Draw every false) given left old new outcome = Draws name names every given left old new outcome
EndsAs name names types (Draw every true) given left old new outcome = Redraws name names every given left old new outcome
EndsAs name names types (Check followed) given left old new outcome = ⊥

-- what a task reads a text as
abbrev pub kind_of : Task → TextKind
kind_of (Script order) = texts.Script
kind_of (Check followed) = texts.Record
kind_of (View recorded at viewed) = if recorded then texts.Record else texts.Script
kind_of (Draw every recorded) = if recorded then texts.Record else texts.Script

-- how many threads and background actors an order has, and a task was asked for
abbrev pub no_counts : Counts
no_counts = record { workers = None; refiners = 0; markers = 0 }

abbrev pub counts_in : Order → Counts
counts_in File = no_counts
counts_in (Drawn seed refiners markers) = record { workers = None; refiners = refiners; markers = markers }
counts_in (Concurrent workers refiners markers) = record { workers = Some workers; refiners = refiners; markers = markers }

abbrev pub counts_of : Task → Counts
counts_of (Script order) = counts_in order
counts_of _ = no_counts

-- a reader that has all of a text before it
abbrev pub reader_of : List ℕ → Reader
reader_of text = record { left = Some text; refused = false }

-- The task did with the text of a file of this name what it does with a reader of it, and its end was told and explained.
pub record TellsOver (name names types : List ℕ) (task : Task) (text : List ℕ) (old new err err' : Writer) (status : ℕ) : Type 0 where
  pub rest : Reader
  pub outcome : Result ⊤ JobFault
  pub ends : EndsAs name names types task (reader_of text) rest old new outcome
  pub tells : TellsExplained (kind_of task) text (counts_of task) err err' outcome status

-- the reader gave a text, to its end, and the task was done over it
abbrev pub DoesOver : List ℕ → List ℕ → List ℕ → Task → Reader → Reader → Writer → Writer → Writer → Writer → ℕ → Type 0
DoesOver name names types task given left old new err err' status =
    (text : List ℕ) × GivesAll given left text × TellsOver name names types task text old new err err' status

-- A file of this name could not be read, and that was told and explained; nothing was written.
pub record IsUnreadFile (name : List ℕ) (given left : Reader) (old new err err' : Writer) (status : ℕ) : Type 0 where
  pub fault : ReadFault
  pub fails : FailsToGive fault given left
  pub stays : WritesNothing old new
  pub one : status ≡ 1
  pub tells : TellsMore (Read fault) (IsReadReason name) err err'

-- a task was done whose faults are to be explained
abbrev pub DoesExplained : List ℕ → List ℕ → List ℕ → Task → Reader → Reader → Writer → Writer → Writer → Writer → ℕ → Type 0
DoesExplained name names types task given left old new err err' status =
    DoesOver name names types task given left old new err err' status ⊎ IsUnreadFile name given left old new err err' status

-- A script was run, a record judged, a heap viewed, or its life drawn, and its end was told, and explained where that was asked for: what
-- was read of the file of this name, what was written, what standard error took, and the status. A page has these names for shapes,
-- and a view these for types.
abbrev pub DoesJob : List ℕ → List ℕ → Asked → Reader → Reader → Writer → Writer → Writer → Writer → ℕ → Type 0
DoesJob names types (name, Check followed, explained) given left old new err err' status =
    DoesCheck name explained followed given left old new err err' status
DoesJob names types (name, Script order, false) given left old new err err' status =
    Performs (MakesRecord order) (MayFail order) given left old new err err' status
DoesJob names types (name, View recorded at viewed, false) given left old new err err' status =
    DoesView recorded (glance_of at viewed) types given left old new err err' status
DoesJob names types (name, Draw every recorded, false) given left old new err err' status =
    DoesDraw name names recorded every given left old new err err' status
DoesJob names types (name, task, true) given left old new err err' status =
    DoesExplained name names types task given left old new err err' status

-- what was asked for was done, on the program's own input where the path is `-`, else on some input; a page has these names for
-- shapes, and a view these for types
abbrev pub DoesAsked : List ℕ → List ℕ → Asked → Reader → Reader → Writer → Writer → Writer → Writer → ℕ → Type 0
DoesAsked names types asked input input' old new err err' status = (given : Reader) × (left : Reader)
    × (asked.0 ≡ codes "-" → (given ≡ input) × (left ≡ input')) × DoesJob names types asked given left old new err err' status

-- A file of names for shapes could not be read, and that was told with its path; nothing else was read, and nothing was written.
pub record AreUnread (path : List ℕ) (given left input input' : Reader) (old new err err' : Writer) (status : ℕ) : Type 0 where
  pub fault : ReadFault
  pub fails : FailsToGive fault given left
  pub unread : input' ≡ input
  pub stays : WritesNothing old new
  pub one : status ≡ 1
  pub tells : TellsMore (Read fault) (IsReadReason path) err err'

-- what was asked for was done with the names for shapes that the file of this path gave, to its end; or they could not be read
abbrev pub DoesWith : List ℕ → Reader → Reader → Asked → Reader → Reader → Writer → Writer → Writer → Writer → ℕ → Type 0
DoesWith path given left asked input input' old new err err' status =
    ((names : List ℕ) × GivesAll given left names × DoesAsked names [] asked input input' old new err err' status)
    ⊎ AreUnread path given left input input' old new err err' status

-- A file of names for types has a line with a mistake, the first of the text, and that was told with its path; nothing else was read, and
-- nothing was written.
pub record AreFaulty (path types : List ℕ) (input input' : Reader) (old new err err' : Writer) (status : ℕ) : Type 0 where
  pub line : ℕ
  pub mistake : Mistake
  pub first : types_of types ≡ Err (Line line mistake)
  pub unread : input' ≡ input
  pub stays : WritesNothing old new
  pub one : status ≡ 1
  pub tells : TellsTypes line mistake path err err'

-- memory was refused for names of types, and that was told; nothing else was read, and nothing was written
pub record AreRefused (input input' : Reader) (old new err err' : Writer) (status : ℕ) : Type 0 where
  pub unread : input' ≡ input
  pub stays : WritesNothing old new
  pub one : status ≡ 1
  pub tells : TellsLine (Run NoMemory) err err'

-- what was asked for was done with the names for types that a text of this path gives; or it has a mistake, or memory was refused
abbrev pub DoesBy : List ℕ → List ℕ → Asked → Reader → Reader → Writer → Writer → Writer → Writer → ℕ → Type 0
DoesBy path types asked input input' old new err err' status =
    (NamesTypes types × DoesAsked [] types asked input input' old new err err' status)
    ⊎ AreFaulty path types input input' old new err err' status ⊎ AreRefused input input' old new err err' status

-- the same with the text that the file of this path gave, to its end; or it could not be read
abbrev pub DoesWithTypes : List ℕ → Reader → Reader → Asked → Reader → Reader → Writer → Writer → Writer → Writer → ℕ → Type 0
DoesWithTypes path given left asked input input' old new err err' status =
    ((types : List ℕ) × GivesAll given left types × DoesBy path types asked input input' old new err err' status)
    ⊎ AreUnread path given left input input' old new err err' status

-- the same where a path of names for types was given; else it was done with none
abbrev pub DoesTyped : Option (List ℕ) → Asked → Reader → Reader → Writer → Writer → Writer → Writer → ℕ → Type 0
DoesTyped None asked input input' old new err err' status = DoesAsked [] [] asked input input' old new err err' status
DoesTyped (Some path) asked input input' old new err err' status =
    (given : Reader) × (left : Reader) × DoesWithTypes path given left asked input input' old new err err' status

-- the same where a path of names for shapes was given, which no task takes that takes names for types
abbrev pub DoesNamed : Option (List ℕ) → Option (List ℕ) → Asked → Reader → Reader → Writer → Writer → Writer → Writer → ℕ → Type 0
DoesNamed None path asked input input' old new err err' status = DoesTyped path asked input input' old new err err' status
DoesNamed (Some names) path asked input input' old new err err' status =
    (given : Reader) × (left : Reader) × DoesWith names given left asked input input' old new err err' status

-- the same; or memory was refused for the words, and that was told
abbrev pub DoesTask : Option (List ℕ) → Option (List ℕ) → Asked → Reader → Reader → Writer → Writer → Writer → Writer → ℕ → Type 0
DoesTask names types asked input input' old new err err' status = DoesNamed names types asked input input' old new err err' status
    ⊎ ((status ≡ 1) × WritesNothing old new × TellsLine (Run NoMemory) err err')
