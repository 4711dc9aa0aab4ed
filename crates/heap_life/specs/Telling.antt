-- What is told of a heap at a moment, beside its regions.
use Rattle.std.specs.Prelude.{◌==◌, ℕ, if◌then◌else◌, List, [], ◌++◌, Option, Some, None}
use Rattle.std.specs.Prelude.{length, take, codes, flat_map, slice_get, slice_index_or}
use Rattle.script_text.specs.Texts.{spaced_number}
use Rattle.alloc_buffers.specs.declared.buffers.Buffer.{Buffer}
use Rattle.satb_log.specs.Logs as logs
use Rattle.step_core.specs.Stands.{CoreState}
use Rattle.heap_dump.specs.Lists.{first, named, text_below}
use Rattle.heap_life.specs.Paces.{one_if}
use Rattle.heap_life.specs.declared.life.Moment.{Moment}

abbrev pub current_text : Option ℕ → List ℕ
current_text None = codes " -"
current_text (Some k) = spaced_number k

-- how many events are done, and the heap's numbers
abbrev pub totals_text : Moment → List ℕ
totals_text m = codes "m" ++ spaced_number m.event ++ spaced_number m.numbers.handed_out ++ spaced_number m.numbers.live
    ++ spaced_number m.numbers.free ++ spaced_number m.numbers.queued ++ spaced_number m.numbers.dirty ++ spaced_number m.copied

-- whether marking runs, how many objects it scanned, the next name, and the current region
abbrev pub state_text : CoreState → List ℕ
state_text c = spaced_number (one_if c.marker.running) ++ spaced_number c.marker.scans.since ++ spaced_number c.next
    ++ current_text c.buffers.current ++ codes "\n"

-- an open buffer: whose it is, where it goes on, and how many words are left
abbrev pub buffer_text : ℕ → Option (Option Buffer) → List ℕ
buffer_text m (Some (Some b)) = codes "b" ++ spaced_number m ++ spaced_number b.next ++ spaced_number b.rest ++ codes "\n"
buffer_text m _ = []

abbrev pub buffer_of : CoreState → ℕ → List ℕ
buffer_of c m = buffer_text m (slice_get c.buffers.open_buffers m)

-- the queue of refinement, from its front, at most 512 cards; nothing where it is empty
abbrev pub queue_text : List ℕ → List ℕ
queue_text queue = if length queue == 0 then [] else codes "q" ++ flat_map spaced_number (first 512 queue) ++ codes "\n"

-- a mutator's card log; nothing where it is empty
abbrev pub log_text : ℕ → List ℕ → List ℕ
log_text m log = if length log == 0 then [] else codes "l" ++ spaced_number m ++ flat_map spaced_number log ++ codes "\n"

abbrev pub log_of : CoreState → ℕ → List ℕ
log_of c m = log_text m (slice_index_or c.cards.logs m [])

-- the addresses in a mutator's deletion log, in the order in which they were logged; nothing where it is empty
abbrev pub deletions_text : ℕ → List ℕ → List ℕ
deletions_text m log = if length log == 0 then [] else codes "d" ++ spaced_number m ++ flat_map spaced_number log ++ codes "\n"

abbrev pub deletions_of : CoreState → ℕ → List ℕ
deletions_of c m = deletions_text m (logs.log_of c.marker.logs m)

abbrev pub root_text : ℕ × ℕ → List ℕ
root_text root = spaced_number root.0 ++ spaced_number root.1

abbrev pub root_at : ℕ → Option ℕ → List ℕ
root_at place None = []
root_at place (Some at) = root_text (place, at)

-- the roots that aren't nil, at most 64
abbrev pub roots_text : List (Option ℕ) → List ℕ
roots_text ws = codes "n" ++ flat_map root_text (take 64 (named 0 ws)) ++ codes "\n"

abbrev pub heap_text : CoreState → Moment → List ℕ
heap_text c m = totals_text m ++ state_text c ++ text_below (buffer_of c) c.config.mutators ++ queue_text c.cards.queue
    ++ text_below (log_of c) c.config.mutators ++ text_below (deletions_of c) c.config.mutators ++ roots_text c.roots
