-- The text of a snapshot: the JSON that Chrome and Node write of their heaps.
use Rattle.std.specs.Prelude.{◌≡◌, ◌+◌, ◌*◌, ◌%◌, ℕ, Bool, false, true, List, [], ◌++◌, Option, Some, None, codes, flat_map}
use Rattle.std.specs.Prelude.{length, slice_index_or, if◌then◌else◌}
use Rattle.std.specs.Fmt.{decimal}
use Rattle.std.specs.Option.{option_map_or}
use Rattle.step_core.specs.Stands.{CoreState, root_counts_of}
use Rattle.step_core.specs.Mutators.{root_of}
use Rattle.heap_dump.specs.Lists.{text_below}
use Rattle.heap_walk.specs.Holders.{links_at, root_holder}
use Rattle.heap_walk.specs.Walks.{entries_at}
use Rattle.heap_walk.specs.declared.objects.Entry.{Entry}
use Rattle.heap_view.specs.Census.{class_cmp, class_of, class_size, first_text, kept_classes}
use Rattle.heap_view.specs.Objects.{root_text}
use Rattle.heap_view.specs.Snapshot.{AreNodes, IsClassTable, edge_count, edges_from, first_class, first_weak, node_count, node_of, place_by}
use Rattle.heap_view.specs.Snapshot.{listed_classes, root_edges, starts, widest}
use Rattle.heap_view.specs.Types.{escaped, listed_class, type_of}
use Rattle.heap_view.specs.declared.classes.Class.{Class}

-- ---- the head
-- which numbers a node and an edge are, and which kinds of them there are
abbrev pub node_fields : List ℕ
node_fields = codes "{\"snapshot\":{\"meta\":{\"node_fields\":[\"type\",\"name\",\"id\",\"self_size\",\"edge_count\",\"detachedness\"],"

abbrev pub node_types : List ℕ
node_types = codes "\"node_types\":[[\"hidden\",\"array\",\"string\",\"object\",\"code\",\"closure\",\"regexp\",\"number\",\"native\","
    ++ codes "\"synthetic\"],\"string\",\"number\",\"number\",\"number\",\"number\"],"

abbrev pub edge_types : List ℕ
edge_types = codes "\"edge_fields\":[\"type\",\"name_or_index\",\"to_node\"],\"edge_types\":[[\"context\",\"element\",\"property\","
    ++ codes "\"internal\",\"hidden\",\"shortcut\",\"weak\"],\"string_or_number\",\"node\"],"

-- what else such files have, of which nothing is told here
abbrev pub other_fields : List ℕ
other_fields =
    codes "\"trace_function_info_fields\":[\"function_id\",\"name\",\"script_name\",\"script_id\",\"line\",\"column\"],"
    ++ codes "\"trace_node_fields\":[\"id\",\"function_info_index\",\"count\",\"size\",\"children\"],"
    ++ codes "\"sample_fields\":[\"timestamp_us\",\"last_assigned_id\"],"
    ++ codes "\"location_fields\":[\"object_index\",\"script_id\",\"line\",\"column\"]},"

abbrev pub counts_text : ℕ → ℕ → List ℕ
counts_text nodes edges = codes "\"node_count\":" ++ decimal nodes ++ codes ",\"edge_count\":" ++ decimal edges
    ++ codes ",\"trace_function_count\":0},\n"

abbrev pub head_text : CoreState → List ℕ
head_text c = node_fields ++ node_types ++ edge_types ++ other_fields ++ counts_text (node_count c) (edge_count c)

-- ---- nodes: a type, the number of a name, an id, bytes, how many edges lead from it, and 0
-- the root of all, and the node of the heap's roots, which are synthetic
abbrev pub root_nodes : CoreState → List ℕ
root_nodes c = codes "\"nodes\":[9,0,1,0,1,0\n,9,1,3,0," ++ decimal (root_edges c) ++ codes ",0"

-- an object's id: twice its name, without the two highest bits of that, and 5: so it is odd, and not that of the nodes of roots
abbrev pub id_of : ℕ → ℕ
id_of name = name % 4611686018427387904 * 2 + 5

-- an object: the name of its class, its id, and eight bytes a word
abbrev pub node_text : List ℕ → CoreState → List Class → ℕ → Entry → List ℕ
node_text types c table a e =
    codes "\n,3," ++ decimal (first_class c + place_by class_cmp table (listed_class types (class_of e))) ++ codes ","
    ++ decimal (id_of e.name) ++ codes "," ++ decimal (class_size (class_of e) * 8) ++ codes "," ++ decimal (edges_from c a) ++ codes ",0"

abbrev pub object_node : List ℕ → CoreState → List Class → ℕ → List ℕ
object_node types c table a = flat_map (node_text types c table a) (entries_at c a)

abbrev pub nodes_text : List ℕ → CoreState → List Class → List ℕ
nodes_text types c table = root_nodes c ++ flat_map (object_node types c table) (starts c) ++ codes "],\n"

-- ---- edges: a type, a name's number or an index, and where the node that it leads to begins
-- an edge to where a root or a link leads, unless that is nil
abbrev pub edge_text : List ℕ → ℕ → CoreState → Option ℕ → List ℕ
edge_text kind name c None = []
edge_text kind name c (Some a) =
    codes "\n," ++ kind ++ codes "," ++ decimal name ++ codes "," ++ decimal (node_of c a * 6)

-- a root: a property by its name; a pointer: an element by its index; a weak slot: a weak one by its name
abbrev pub root_edge : CoreState → ℕ → List ℕ
root_edge c p = edge_text (codes "2") (2 + p) c (root_of c p)

abbrev pub edge_kind : Bool → List ℕ
edge_kind weak = if weak then codes "6" else codes "1"

abbrev pub edge_name : Bool → ℕ → ℕ → ℕ
edge_name weak first i = if weak then first + i else i

abbrev pub link_edge : Bool → CoreState → List Class → ℕ → ℕ → List ℕ
link_edge weak c table a i =
    edge_text (edge_kind weak) (edge_name weak (first_weak c table) i) c (slice_index_or (links_at weak c a) i None)

abbrev pub link_edges : Bool → CoreState → List Class → ℕ → List ℕ
link_edges weak c table a = text_below (link_edge weak c table a) (length (links_at weak c a))

abbrev pub object_edges : CoreState → List Class → ℕ → List ℕ
object_edges c table a = link_edges false c table a ++ link_edges true c table a

-- the edge of the root of all, those of the heap's roots, and those of each object
abbrev pub edges_text : CoreState → List Class → List ℕ
edges_text c table = codes "\"edges\":[1,1,6" ++ text_below (root_edge c) (length c.roots) ++ flat_map (object_edges c table) (starts c)
    ++ codes "],\n"

-- ---- strings
abbrev pub string_text : List ℕ → List ℕ
string_text name = codes ",\n\"" ++ name ++ codes "\""

abbrev pub root_name : CoreState → ℕ → List ℕ
root_name c p = string_text (root_text (root_holder (root_counts_of c.config) p))

-- a class: how many fields of each kind its objects have, and their first data word
abbrev pub shape_text : Class → List ℕ
shape_text k = codes "pointers " ++ decimal k.pointers ++ codes ", weak slots " ++ decimal k.weaks ++ codes ", data words "
    ++ decimal k.values ++ codes ", first word " ++ first_text k

-- the name of a class's type, if it has one; else its shape
abbrev pub label_text : List ℕ → Class → List ℕ
label_text types k = option_map_or escaped (type_of types k) (shape_text k)

abbrev pub class_name : List ℕ → Class → List ℕ
class_name types k = string_text (label_text types k)

abbrev pub slot_text : ℕ → List ℕ
slot_text i = codes "weak slot " ++ decimal i

abbrev pub weak_name : ℕ → List ℕ
weak_name i = string_text (slot_text i)

abbrev pub strings_text : List ℕ → CoreState → List Class → List ℕ
strings_text types c table = codes "\"strings\":[\"\",\n\"(roots)\"" ++ text_below (root_name c) (length c.roots)
    ++ flat_map (class_name types) table ++ text_below weak_name (widest (kept_classes c)) ++ codes "]}\n"

-- ---- all of it
-- lists of which nothing is told here
abbrev pub empty_lists : List ℕ
empty_lists = codes "\"trace_function_infos\":[],\n\"trace_tree\":[],\n\"samples\":[],\n\"locations\":[],\n"

abbrev pub snapshot_text : List ℕ → CoreState → List Class → List ℕ
snapshot_text types c table =
    head_text c ++ nodes_text types c table ++ edges_text c table ++ empty_lists ++ strings_text types c table

-- the snapshot of the kept objects: a node each, and an edge for each root and link that leads to one; with the names of types that a text
-- gives
pub record IsSnapshot (types : List ℕ) (c : CoreState) (text : List ℕ) : Type 0 where
  pub nodes : AreNodes c
  pub table : List Class
  pub classes : IsClassTable (listed_classes types c) table
  pub is : text ≡ snapshot_text types c table
