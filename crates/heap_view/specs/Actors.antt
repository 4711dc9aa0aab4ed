-- The lines of roots, and of what each mutator has: its registers, its buffer and its logs.
use Rattle.std.specs.Prelude.{ℕ, ◌==◌, Bool, true, false, List, [], ◌∷◌, ◌++◌, Option, Some, None, codes, if◌then◌else◌}
use Rattle.std.specs.Prelude.{drop, flat_map, length, slice_get, take}
use Rattle.std.specs.Fmt.{decimal}
use Rattle.script_text.specs.Texts.{spaced_number}
use Rattle.heap_words.specs.Configs.{globals_of, registers_of}
use Rattle.regions.specs.Table.{Table}
use Rattle.alloc_buffers.specs.declared.buffers.Buffer.{Buffer}
use Rattle.cards.specs.Cards as cards
use Rattle.satb_log.specs.Logs as logs
use Rattle.heap_model.specs.Graph.{register_place}
use Rattle.step_core.specs.Stands.{CoreState, root_counts_of}
use Rattle.heap_dump.specs.Lists.{named, text_below}
use Rattle.heap_dump.specs.Fields.{pointer_text, spaced_pointer}
use Rattle.heap_dump.specs.declared.fields.Spelling.TheVariants.{Lines}
use Rattle.heap_view.specs.Lists.{titled_line}

-- the cards that wait for refinement, from the front of the queue
abbrev pub queue_line : List ℕ → List ℕ
queue_line xs = if length xs == 0 then codes "queue of cards: none\n"
    else titled_line (codes "queue of cards:") spaced_number xs

-- a root by its letter, its number and its object, and where that is
abbrev pub root_text : Table → List ℕ → ℕ × ℕ → List ℕ
root_text t letter root = codes " " ++ letter ++ decimal root.0 ++ codes " " ++ pointer_text Lines t (Some root.1)
    ++ codes " at " ++ decimal root.1

-- the same after others
abbrev pub next_text : Table → List ℕ → ℕ × ℕ → List ℕ
next_text t letter root = codes "," ++ root_text t letter root

-- such roots parted by commas, or that all are nil
abbrev pub listed_roots : Table → List ℕ → List (ℕ × ℕ) → List ℕ
listed_roots t letter [] = codes " all nil"
listed_roots t letter (root ∷ roots) = root_text t letter root ++ flat_map (next_text t letter) roots

-- what a place adds to such a list, by whether others come before it
abbrev pub place_text : Table → List ℕ → Bool → ℕ → Option ℕ → List ℕ
place_text t letter some number None = []
place_text t letter true number (Some a) = next_text t letter (number, a)
place_text t letter false number (Some a) = root_text t letter (number, a)

-- that all roots are nil, where there are none else
abbrev pub none_text : Bool → List ℕ
none_text some = if some then [] else codes " all nil"

-- the roots from one place up to another that aren't nil, by their numbers from there
abbrev pub roots_text : Table → List (Option ℕ) → List ℕ → ℕ → ℕ → List ℕ
roots_text t roots letter start end = listed_roots t letter (named 0 (drop start (take end roots)))

-- the globals, and the registers of a mutator
abbrev pub globals_line : CoreState → List ℕ
globals_line c = roots_text c.table c.roots (codes "g") 0 (globals_of c.config) ++ codes "\n"

abbrev pub registers_line : CoreState → ℕ → List ℕ
registers_line c mutator = roots_text c.table c.roots (codes "r") (register_place (root_counts_of c.config) mutator 0)
    (register_place (root_counts_of c.config) mutator (registers_of c.config)) ++ codes "\n"

-- an open buffer: where the next object goes, and how many words are left
abbrev pub buffer_line : Option (Option Buffer) → List ℕ
buffer_line (Some (Some buffer)) =
    codes "  open buffer at " ++ decimal buffer.next ++ codes ", " ++ decimal buffer.rest ++ codes " words left\n"
buffer_line _ = []

-- what a deletion log's address leads to
abbrev pub logged_text : Table → ℕ → List ℕ
logged_text t a = spaced_pointer Lines t (Some a)

-- a mutator's buffer and its logs
abbrev pub held_lines : CoreState → ℕ → List ℕ
held_lines c mutator = buffer_line (slice_get c.buffers.open_buffers mutator)
    ++ titled_line (codes "  card log:") spaced_number (cards.log_of c.cards mutator)
    ++ titled_line (codes "  deletion log:") (logged_text c.table) (logs.log_of c.marker.logs mutator)

-- the lines of a mutator
abbrev pub mutator_lines : CoreState → ℕ → List ℕ
mutator_lines c mutator = codes "mutator " ++ decimal mutator ++ codes ":" ++ registers_line c mutator ++ held_lines c mutator

-- the globals, and each mutator
abbrev pub actor_lines : CoreState → List ℕ
actor_lines c = codes "globals:" ++ globals_line c ++ text_below (mutator_lines c) c.config.mutators
