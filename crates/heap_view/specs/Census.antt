-- A census: how many kept objects there are of each class, and how many words they have.
use Rattle.std.specs.Prelude.{◌≡◌, ◌<◌, ◌≤◌, ◌-◌, ◌*◌, ◌/◌, ◌==◌, ℕ, zero, suc, Bool, true, false, List, [], ◌++◌}
use Rattle.std.specs.Prelude.{All, IsSorted, codes, count_by, decimal, flat_map, length, map, sum_by, if◌then◌else◌}
use Rattle.std.specs.Option.{option_map_or}
use Rattle.std.specs.Ordering.{is_eq, nat_cmp, ordering_then}
use Rattle.std.specs.declared.cmp.Ordering.{Ordering}
use Rattle.heap_words.specs.Configs.{max_words}
use Rattle.heap_words.specs.Sizes.{size_of}
use Rattle.step_core.specs.Stands.{CoreState}
use Rattle.heap_walk.specs.Starts.{word_count}
use Rattle.heap_walk.specs.Walks.{entries_at, told_between}
use Rattle.heap_walk.specs.declared.objects.Entry.{Entry}
use Rattle.heap_view.specs.declared.census.Row.{Row}
use Rattle.heap_view.specs.declared.classes.Class.{Class}
use Rattle.heap_view.specs.Types.{type_of}

-- ---- classes
-- the class of an object: how many fields of each kind it has, and its first data word
abbrev pub class_of : Entry → Class
class_of e = record { pointers = e.pointers; weaks = e.weaks; values = e.values; word = e.word }

-- the classes of the kept objects by rising address, one for each object
abbrev pub kept_classes : CoreState → List Class
kept_classes c = map class_of (told_between (entries_at c) 0 (word_count c.table))

-- how many words an object of a class has
abbrev pub class_size : Class → ℕ
class_size k = size_of k.pointers k.weaks k.values

-- classes in order: by pointers, then weak slots, then data words, then the first one
abbrev pub class_cmp : Class → Class → Ordering
class_cmp a b =
    ordering_then (ordering_then (ordering_then (nat_cmp a.pointers b.pointers) (nat_cmp a.weaks b.weaks)) (nat_cmp a.values b.values))
    (nat_cmp a.word b.word)

abbrev pub is_same : Class → Class → Bool
is_same a b = is_eq (class_cmp a b)

-- how many of these objects are of a class
abbrev pub objects_of : List Class → Class → ℕ
objects_of ks k = count_by (λ other. is_same other k) ks

-- objects that are few and small enough that their words can be added up
pub record AreSmall (ks : List Class) : Type 0 where
  pub few : length ks ≤ max_words
  pub each : All (λ k. class_size k ≤ max_words) ks

-- the classes of the kept objects that start from one address on to below another are added; and whether others may be left
pub record AddsClasses (c : CoreState) (from to : ℕ) (old new : List Class) (more : Bool) : Type 0 where
  pub on : from ≤ to
  pub added : new ≡ old ++ map class_of (told_between (entries_at c) from to)
  pub less : more ≡ true → word_count c.table - to < word_count c.table - from
  pub over : more ≡ false → word_count c.table ≤ to

-- ---- rows
-- the row of a class of so many objects
abbrev pub row_of : Class → ℕ → Row
row_of k n = record { class = k; objects = n; words = n * class_size k }

-- how many rows a class has
abbrev pub rows_of : List Row → Class → ℕ
rows_of rows k = count_by (λ row. is_same row.class k) rows

-- a row tells how many of these objects are of its class, and how many words they have
abbrev pub IsRow : List Class → Row → Type 0
IsRow ks row = row ≡ row_of row.class (objects_of ks row.class)

-- a class of which there are objects has one row, another one none
abbrev pub row_count : ℕ → ℕ
row_count objects = if objects == 0 then 0 else 1

-- each row tells its class, and each class of which there are objects has one row, and no other class has any
pub record AreRows (ks : List Class) (rows : List Row) : Type 0 where
  pub each : All (IsRow ks) rows
  pub once : (k : Class) → rows_of rows k ≡ row_count (objects_of ks k)

-- rows in order: most words first, then by class
abbrev pub row_cmp : Row → Row → Ordering
row_cmp a b = ordering_then (nat_cmp b.words a.words) (class_cmp a.class b.class)

-- the rows of these objects, in order
pub record IsCensus (ks : List Class) (rows : List Row) : Type 0 where
  pub counted : AreRows ks rows
  pub sorted : IsSorted row_cmp rows

-- ---- lines
abbrev pub space_if : Bool → List ℕ
space_if wanted = if wanted then codes " " else []

-- a space for each place that a number doesn't have, of so many before its last digit
unfoldable pub padding : ℕ → ℕ → List ℕ
padding zero n = []
padding (suc k) n = space_if (n / 10 == 0) ++ padding k (n / 10)

-- a number, at the right of a column of ten places
abbrev pub column : ℕ → List ℕ
column n = padding 9 n ++ decimal n

-- the first data word of a class, if its objects have one
abbrev pub first_text : Class → List ℕ
first_text k = if k.values == 0 then codes "none" else decimal k.word

abbrev pub class_text : Class → List ℕ
class_text k = column k.pointers ++ codes "  " ++ column k.weaks ++ codes "  " ++ column k.values ++ codes "  " ++ first_text k

-- the name of a class's first data word, if it has one
abbrev pub type_text : List ℕ → Class → List ℕ
type_text types k = option_map_or (λ name. codes "  " ++ name) (type_of types k) []

abbrev pub row_line : List ℕ → Row → List ℕ
row_line types row = column row.words ++ codes "  " ++ column row.objects ++ codes "  " ++ class_text row.class
    ++ type_text types row.class ++ codes "\n"

abbrev pub rows_text : List ℕ → List Row → List ℕ
rows_text types rows = flat_map (row_line types) rows

-- how many words, objects and classes there are in all
abbrev pub sums_line : ℕ → ℕ → ℕ → List ℕ
sums_line words objects classes =
    column words ++ codes "  " ++ column objects ++ codes "  in all: classes " ++ decimal classes ++ codes "\n"

-- a line of titles, the rows, and the sums
abbrev pub table_text : List ℕ → List Row → ℕ → ℕ → List ℕ
table_text types rows words objects =
    codes "     words     objects    pointers  weak slots  data words  first word\n" ++ rows_text types rows
    ++ sums_line words objects (length rows)

-- the lines of the census of the kept objects, with the names of types that a text gives
pub record AreCensusLines (types : List ℕ) (c : CoreState) (text : List ℕ) : Type 0 where
  pub rows : List Row
  pub census : IsCensus (kept_classes c) rows
  pub is : text ≡ table_text types rows (sum_by class_size (kept_classes c)) (length (kept_classes c))
