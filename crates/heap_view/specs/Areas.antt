-- The lines of a region: its kind and its words, its tops at mark start and its live bound, its remembered set and its tiles.
use Rattle.std.specs.Prelude.{ℕ, ◌==◌, Bool, false, List, [], ◌++◌, Option, Some, None, slice_index, codes, if◌then◌else◌}
use Rattle.std.specs.Fmt.{decimal}
use Rattle.regions.specs.declared.row.Kind.{Kind}
use Rattle.regions.specs.declared.row.Kind.TheVariants as kinds
use Rattle.regions.specs.Table.{Table, kind_of, run_length, used_of}
use Rattle.step_core.specs.Stands.{CoreState}
use Rattle.step_core.specs.Measures.{live_in}
use Rattle.heap_dump.specs.Lists.{set_text}
use Rattle.heap_view.specs.Tiles.{tile_lines}

-- which kind a region is of
abbrev pub kind_text : Table → ℕ → Kind → List ℕ
kind_text t k kinds.Free = codes "free"
kind_text t k kinds.Ordinary = codes "ordinary"
kind_text t k kinds.First = codes "first of a run of " ++ decimal (run_length t k)
kind_text t k kinds.Rest = codes "rest of a run"

-- whether new buffers are cut from the region
abbrev pub is_current : Option ℕ → ℕ → Bool
is_current None k = false
is_current (Some current) k = current == k

abbrev pub current_text : CoreState → ℕ → List ℕ
current_text c k = if is_current c.buffers.current k then codes ", current" else []

-- how many of a region's words are handed out
abbrev pub words_text : Table → ℕ → List ℕ
words_text t k = codes ", " ++ decimal (used_of t k) ++ codes " of " ++ decimal t.words_per_region ++ codes " words handed out"

-- a region's number and its kind
abbrev pub head_text : Table → ℕ → List ℕ
head_text t k = codes "region " ++ decimal k ++ codes ": " ++ kind_text t k (kind_of t k)

-- the live bound, which an ordinary region alone has
abbrev pub live_text : CoreState → ℕ → Kind → List ℕ
live_text c k kinds.Ordinary = codes ", live bound " ++ decimal (live_in c k)
live_text c k _ = []

-- a region's top when the marking that runs began, if one does
abbrev pub next_top_text : CoreState → ℕ → List ℕ
next_top_text c k = if c.marker.running then codes ", next " ++ decimal (slice_index c.marker.tams.next k) else []

-- a region's top when the last marking began, and that
abbrev pub tops_text : CoreState → ℕ → List ℕ
tops_text c k = codes "  top at mark start " ++ decimal (slice_index c.marker.tams.previous k) ++ next_top_text c k

-- what is said of the words of a region that isn't free
abbrev pub use_text : CoreState → ℕ → List ℕ
use_text c k = current_text c k ++ words_text c.table k

-- the same, and the lines below it
abbrev pub use_lines : CoreState → ℕ → List ℕ
use_lines c k = use_text c k ++ codes "\n" ++ tops_text c k ++ live_text c k (kind_of c.table k) ++ codes "\n"
    ++ set_text c (codes "  remembered cards:") [] (codes ", all of region ") k ++ tile_lines c k

-- what follows a region's kind: of a free one nothing but the line's end
abbrev pub body_lines : CoreState → ℕ → Kind → List ℕ
body_lines c k kinds.Free = codes "\n"
body_lines c k _ = use_lines c k

-- the lines of region k
abbrev pub region_lines : CoreState → ℕ → List ℕ
region_lines c k = head_text c.table k ++ body_lines c k (kind_of c.table k)

-- what follows its kind where it has one line
abbrev pub line_body : CoreState → ℕ → Kind → List ℕ
line_body c k kinds.Free = []
line_body c k kind = use_text c k ++ live_text c k kind

-- region k as one line
abbrev pub region_line : CoreState → ℕ → List ℕ
region_line c k = head_text c.table k ++ line_body c k (kind_of c.table k) ++ codes "\n"
