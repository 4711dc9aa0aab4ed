-- The lines of one object: all its fields, and who names it.
use Rattle.std.specs.Prelude.{◌≡◌, ℕ, ◌-◌, ◌==◌, nat_lt, Bool, true, false, List, [], ◌++◌, Option, Some, None, codes, if◌then◌else◌}
use Rattle.std.specs.Prelude.{flat_map, length, slice_index_or}
use Rattle.std.specs.Fmt.{decimal}
use Rattle.regions.specs.Table.{values_at}
use Rattle.step_core.specs.Stands.{CoreState}
use Rattle.heap_dump.specs.Fields.{pointer_text}
use Rattle.heap_dump.specs.Lists.{text_below}
use Rattle.heap_dump.specs.declared.fields.Spelling.TheVariants.{Lines}
use Rattle.heap_walk.specs.Holders.{holders_at, links_at, place_count}
use Rattle.heap_walk.specs.Kept.{IsObjectOf}
use Rattle.heap_walk.specs.Walks.{told_between}
use Rattle.heap_walk.specs.declared.holders.Holder.{Holder}
use Rattle.heap_view.specs.Tiles.{marking_text}

-- ---- its fields
-- how many fields of each kind there are
abbrev pub counts_text : CoreState → ℕ → List ℕ
counts_text c a = codes ": pointers " ++ decimal (length (links_at false c a)) ++ codes ", weak slots "
    ++ decimal (length (links_at true c a)) ++ codes ", data words " ++ decimal (length (values_at c.table a))

-- the object's name, where it starts, these counts, and what marking knows of it
abbrev pub head_line : CoreState → ℕ → ℕ → List ℕ
head_line c n a =
    codes "object #" ++ decimal n ++ codes " at " ++ decimal a ++ counts_text c a ++ marking_text c a ++ codes "\n"

-- the front of a field's line: its kind and its number
abbrev pub field_front : List ℕ → ℕ → List ℕ
field_front kind i = codes "  " ++ kind ++ codes " " ++ decimal i ++ codes ": "

abbrev pub link_kind : Bool → List ℕ
link_kind weak = if weak then codes "weak slot" else codes "pointer"

-- the line of a pointer, or of a weak slot, and what it leads to; the line of a data word
abbrev pub link_line : Bool → CoreState → ℕ → ℕ → List ℕ
link_line weak c a i =
    field_front (link_kind weak) i ++ pointer_text Lines c.table (slice_index_or (links_at weak c a) i None) ++ codes "\n"

abbrev pub value_line : CoreState → ℕ → ℕ → List ℕ
value_line c a i = field_front (codes "data word") i ++ decimal (slice_index_or (values_at c.table a) i 0) ++ codes "\n"

-- each of its fields
abbrev pub link_lines : Bool → CoreState → ℕ → List ℕ
link_lines weak c a = text_below (link_line weak c a) (length (links_at weak c a))

abbrev pub value_lines : CoreState → ℕ → List ℕ
value_lines c a = text_below (value_line c a) (length (values_at c.table a))

abbrev pub field_lines : CoreState → ℕ → List ℕ
field_lines c a = link_lines false c a ++ link_lines true c a ++ value_lines c a

-- ---- who names it
-- a root: a global, or a register of a mutator
abbrev pub root_text : Holder → List ℕ
root_text h = if h.kind == 0 then codes "global g" ++ decimal h.place
    else codes "register r" ++ decimal h.place ++ codes " of mutator " ++ decimal h.mutator

-- how many fields beside the lowest one do, if there are some
abbrev pub others_text : ℕ → List ℕ
others_text n = if nat_lt 1 n then codes " and " ++ decimal (n - 1) ++ codes " more" else []

-- an object, and its lowest field that does
abbrev pub link_text : Holder → List ℕ
link_text h = codes "#" ++ decimal h.name ++ codes ", " ++ link_kind (h.kind == 3) ++ codes " " ++ decimal h.place ++ others_text h.fields

abbrev pub holder_text : Holder → List ℕ
holder_text h = if nat_lt h.kind 2 then root_text h else link_text h

abbrev pub holder_line : Holder → List ℕ
holder_line h = codes "  " ++ holder_text h ++ codes "\n"

-- the roots and kept objects from a place on that name the object of a name, in order
abbrev pub holders_from : CoreState → ℕ → ℕ → List Holder
holders_from c n from = told_between (holders_at c n) from (place_count c)

-- a line for each, or that there is none
abbrev pub holder_lines : List Holder → List ℕ
holder_lines hs = if length hs == 0 then codes "named by nothing\n" else codes "named by\n" ++ flat_map holder_line hs

-- ---- all of it
abbrev pub found_lines : CoreState → ℕ → ℕ → List ℕ
found_lines c n a = head_line c n a ++ field_lines c a ++ holder_lines (holders_from c n 0)

abbrev pub object_lines : CoreState → ℕ → Option ℕ → List ℕ
object_lines c n None = codes "object #" ++ decimal n ++ codes ": none is kept\n"
object_lines c n (Some a) = found_lines c n a

-- the lines of the kept object of a name, or that there is none
pub record AreObjectLines (c : CoreState) (n : ℕ) (text : List ℕ) : Type 0 where
  pub found : Option ℕ
  pub object : IsObjectOf c n found
  pub is : text ≡ object_lines c n found
