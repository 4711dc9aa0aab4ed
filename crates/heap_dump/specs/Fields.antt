-- The fields of an object, spelled for a terminal or for a page.
use Rattle.std.specs.Prelude.{ℕ, ◌-◌, ◌==◌, nat_lt, Bool, List, [], ◌++◌, Option, Some, None, length, codes, flat_map, if◌then◌else◌}
use Rattle.std.specs.Fmt.{decimal}
use Rattle.regions.specs.Table.{Table, pointers_at, values_at}
use Rattle.script_text.specs.Texts.{spaced_number}
use Rattle.step_core.specs.Stands.{CoreState, name_in}
use Rattle.step_core.specs.Mutators.{weaks_shown}
use Rattle.heap_dump.specs.Lists.{first}
use Rattle.heap_dump.specs.declared.fields.Spelling.{Spelling}
use Rattle.heap_dump.specs.declared.fields.Spelling.TheVariants.{Lines, Page}

-- how many fields of a kind are told
abbrev pub shown : Spelling → ℕ
shown Lines = 8
shown Page = 16

-- an object by its name; or that none starts at the address
abbrev pub named_text : Spelling → ℕ → Option ℕ → List ℕ
named_text Lines a (Some name) = codes "#" ++ decimal name
named_text Lines a None = codes "no object at " ++ decimal a
named_text Page a (Some name) = decimal name
named_text Page a None = codes "?"

abbrev pub nil_text : Spelling → List ℕ
nil_text Lines = codes "nil"
nil_text Page = codes "-"

-- what a pointer or a weak slot leads to
abbrev pub pointer_text : Spelling → Table → Option ℕ → List ℕ
pointer_text spelling t None = nil_text spelling
pointer_text spelling t (Some a) = named_text spelling a (name_in t (Some a))

-- a space, and that
abbrev pub spaced_pointer : Spelling → Table → Option ℕ → List ℕ
spaced_pointer spelling t p = codes " " ++ pointer_text spelling t p

-- so many fields more
abbrev pub rest_text : Spelling → ℕ → List ℕ
rest_text Lines n = codes " and " ++ decimal n ++ codes " more"
rest_text Page n = codes " +" ++ decimal n

-- how many of so many fields aren't told, if there are some
abbrev pub more_text : Spelling → ℕ → List ℕ
more_text spelling n = if nat_lt (shown spelling) n then rest_text spelling (n - shown spelling) else []

-- what comes before so many fields of a kind: in lines a title, unless there are none
abbrev pub title_text : Spelling → ℕ → List ℕ → List ℕ → List ℕ
title_text Lines n line page = if n == 0 then [] else line
title_text Page n line page = page

-- a title, the first fields of a kind, and how many more there are
abbrev pub links_text : Spelling → List ℕ → List ℕ → Table → List (Option ℕ) → List ℕ
links_text spelling line page t ps = title_text spelling (length ps) line page
    ++ flat_map (spaced_pointer spelling t) (first (shown spelling) ps) ++ more_text spelling (length ps)

abbrev pub values_text : Spelling → List ℕ → List ℕ
values_text spelling values = title_text spelling (length values) (codes ", data") (codes " ;")
    ++ flat_map spaced_number (first (shown spelling) values) ++ more_text spelling (length values)

-- the fields of an object: its pointers, its weak slots and its data
abbrev pub fields_text : Spelling → CoreState → ℕ → List ℕ
fields_text spelling c a = links_text spelling (codes ", pointers") [] c.table (pointers_at c.table a)
    ++ links_text spelling (codes ", weak slots") (codes " ;") c.table (weaks_shown c a) ++ values_text spelling (values_at c.table a)
