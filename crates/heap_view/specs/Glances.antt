-- The text of a view, by what of the heap is viewed.
use Rattle.std.specs.Prelude.{◌≡◌, ℕ, ◌*◌, nat_lt, ◌&&◌, Bool, true, false, List, [], ◌++◌, Option, Some, None, length, codes}
use Rattle.std.specs.Prelude.{if◌then◌else◌}
use Rattle.std.specs.Fmt.{decimal}
use Rattle.heap_steps.specs.Actors.{is_third}
use Rattle.script_text.specs.Spelling.{heap_words, line}
use Rattle.regions.specs.Table.{free_count}
use Rattle.step_core.specs.Stands.{CoreState}
use Rattle.step_core.specs.Measures.{used_words, live_words}
use Rattle.heap_view.specs.declared.glance.Glance.{Glance}
use Rattle.heap_view.specs.declared.glance.Viewed.{Viewed}
use Rattle.heap_view.specs.declared.glance.Viewed.TheVariants.{Census, Object, Path, Regions, Snapshot}
use Rattle.heap_view.specs.Objects.{AreObjectLines}
use Rattle.heap_view.specs.Census.{AreCensusLines}
use Rattle.heap_view.specs.SnapshotTexts.{IsSnapshot}
use Rattle.heap_view.specs.Ways.{AreWayLines}
use Rattle.heap_dump.specs.Lists.{text_below}
use Rattle.heap_view.specs.Areas.{region_line, region_lines}
use Rattle.heap_view.specs.Folds.{folded_line}
use Rattle.heap_view.specs.Actors.{queue_line, actor_lines}

-- whether marking runs
abbrev pub marking_line : CoreState → List ℕ
marking_line c = if c.marker.running then codes "marking runs, objects scanned: " ++ decimal c.marker.scans.since ++ codes "\n"
    else codes "marking doesn't run\n"

-- the next name, and that
abbrev pub state_lines : CoreState → List ℕ
state_lines c = codes "next name " ++ decimal c.next ++ codes "\n" ++ marking_line c

-- a region's one line in a summary, else its lines
abbrev pub one_region : Bool → CoreState → ℕ → List ℕ
one_region true c k = region_line c k
one_region false c k = region_lines c k

-- the region of a number, if there is one
abbrev pub numbered_region : Bool → CoreState → ℕ → List ℕ
numbered_region summary c k = if nat_lt k (length c.table.regions) then one_region summary c k
    else codes "region " ++ decimal k ++ codes ": there is none\n"

-- whether free regions side by side are one line: in a summary, of the third format alone
abbrev pub is_folded : Bool → CoreState → Bool
is_folded summary c = summary && is_third c.config.format

-- region k where all are viewed
abbrev pub listed_region : Bool → CoreState → ℕ → List ℕ
listed_region summary c k = if is_folded summary c then folded_line c k else one_region summary c k

-- what all regions add up to: words handed out and live words; free regions, and cards in the queue
abbrev pub total_words : CoreState → List ℕ
total_words c = codes "in all: " ++ decimal (used_words c) ++ codes " of " ++ decimal (c.config.regions * c.config.words)
    ++ codes " words handed out, " ++ decimal (live_words c) ++ codes " live, "

abbrev pub total_regions : CoreState → List ℕ
total_regions c = decimal (free_count c.table) ++ codes " of " ++ decimal c.config.regions ++ codes " regions free, "
    ++ decimal (length c.cards.queue) ++ codes " cards queued\n"

-- what is below the regions: in a summary what they add up to, else the queue, the roots and the mutators
abbrev pub below_regions : Bool → CoreState → List ℕ
below_regions true c = total_words c ++ total_regions c
below_regions false c = queue_line c.cards.queue ++ actor_lines c

-- the region that is asked for, or each region and what is below them
abbrev pub viewed_regions : Option ℕ → Bool → CoreState → List ℕ
viewed_regions (Some k) summary c = numbered_region summary c k
viewed_regions None summary c =
    text_below (listed_region summary c) (length c.table.regions) ++ below_regions summary c

-- these lines are what is viewed, with the names of types that a text gives
abbrev pub AreViewed : List ℕ → Viewed → CoreState → List ℕ → Type 0
AreViewed types (Regions region summary) c lines = lines ≡ viewed_regions region summary c
AreViewed types (Object name) c lines = AreObjectLines c name lines
AreViewed types (Path name) c lines = AreWayLines c name lines
AreViewed types Census c lines = AreCensusLines types c lines
AreViewed types Snapshot c lines = IsSnapshot types c lines

-- what comes before that: the sizes as the script's first line has them, and the state; nothing before a snapshot, which other tools read
abbrev pub has_head : Viewed → Bool
has_head Snapshot = false
has_head _ = true

abbrev pub head_lines : Viewed → CoreState → List ℕ
head_lines viewed c = if has_head viewed then line (heap_words c.config) ++ state_lines c else []

-- the text of a view: these, and what is viewed
pub record IsViewText (glance : Glance) (types : List ℕ) (c : CoreState) (text : List ℕ) : Type 0 where
  pub lines : List ℕ
  pub viewed : AreViewed types glance.viewed c lines
  pub is : text ≡ head_lines glance.viewed c ++ lines
