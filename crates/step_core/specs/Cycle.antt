-- What each step of the collector does to a core.
use Rattle.std.specs.Prelude.{◌≡◌, ◌≢◌, ◌⊎◌, ◌+◌, ◌-◌, ◌*◌, ◌/◌, ◌<◌, ◌≤◌, ◌↔◌}
use Rattle.std.specs.Prelude.{ℕ, true, false, Option, Some, None, List, length, slice_get, slice_index}
use Rattle.heap_words.specs.declared.config.Format.{Format}
use Rattle.heap_words.specs.declared.config.Format.TheVariants.{V1, V2, V3}
use Rattle.heap_model.specs.Graph.{Graph, IsReachable}
use Rattle.heap_model.specs.Heap.{Stored}
use Rattle.heap_model.specs.Marking.{Begins}
use Rattle.regions.specs.Tiles.{Object, tile_size}
use Rattle.regions.specs.Shaped.{IsShaped}
use Rattle.regions.specs.Table.{Free, First, nth_region, kind_of, top_of}
use Rattle.regions.specs.declared.row.Kind.TheVariants as kinds
use Rattle.alloc_buffers.specs.Placement.{retired}
use Rattle.mark_bitmap.specs.Marks.{is_marked, marked_count}
use Rattle.mark_bitmap.specs.Tops.{exchanged, is_in_region}
use Rattle.mark_bitmap.specs.Live.{live_bound_of}
use Rattle.heap_model.specs.Weak.{Clears}
use Rattle.marker.specs.Clears.{ClearsSome, IsBetween, LooksAt}
use Rattle.marker.specs.Ends.{EndsMarking}
use Rattle.marker.specs.Views as views
use Rattle.marker.specs.Counts.{IsMore, restarted}
use Rattle.marker.specs.Looks.{BeginsBy, MarksUpTo}
use Rattle.marker.specs.Steps.{Grows, SameRoles, ScansMore}
use Rattle.bit_sets.specs.Bits.{has}
use Rattle.remembered_sets.specs.Sets.{emptied, set_of}
use Rattle.step_core.specs.Steps.{CollectorStep, Refusal, Reply, Step}
use Rattle.heap_steps.specs.declared.step.CollectorStep.TheVariants as collector
use Rattle.heap_steps.specs.declared.step.Step.TheVariants as steps
use Rattle.heap_steps.specs.declared.step.Reply.TheVariants as replies
use Rattle.heap_steps.specs.declared.step.Refusal.TheVariants as refusals
use Rattle.graph_runs.specs.State.{State, ForSnapshot}
use Rattle.step_core.specs.Stands.{CoreState, kept_of, heap_of, marking_of, ShowsGraph, KeepsFrom, IsCore, Stands}
use Rattle.step_core.specs.Mutators.{ActsOn}
use Rattle.region_choice.specs.declared.LiveRow.{LiveRow}
use Rattle.region_choice.specs.Ages.{all_old, stamp_of}
use Rattle.evacuation.specs.Evacuates.{is_chosen}
use Rattle.step_core.specs.Reclaimed.{IsReclaimed}
use Rattle.step_core.specs.Refining.{HasRefined}
use Rattle.step_core.specs.declared.candidates.Choice.{Choice}
use Rattle.step_core.specs.declared.candidates.Choice.TheVariants as choices
use Rattle.step_core.specs.Pause.{HasPaused, HasPausedWithin, HasPausedYoung, IsReady, IsSetOf}
use Rattle.step_core.specs.Sliding.{HasCompacted, MayLeave}

-- an ordinary region of which nothing is live, and from which no objects are cut now
pub record IsDeadRegion (c : CoreState) (k : ℕ) : Type 0 where
  pub ordinary : kind_of c.table k ≡ kinds.Ordinary
  pub other : c.buffers.current ≢ Some k
  pub live_bound : live_bound_of c.table c.marker.tams.previous c.marker.bitmaps.previous k ≡ 0

-- region k is one of a run whose object isn't kept
pub record IsDeadRun (c : CoreState) (k : ℕ) : Type 0 where
  pub first : ℕ
  pub object : Stored
  pub begins : nth_region c.table first ≡ First object
  pub low : first ≤ k
  pub reaches : (k - first) * c.table.words_per_region < tile_size (Object object)
  pub dead : kept_of c (first * c.table.words_per_region) ≡ None

-- what a region can be reclaimed for: nothing in it is live
abbrev pub IsDead : CoreState → ℕ → Type 0
IsDead c k = IsDeadRegion c k ⊎ IsDeadRun c k

-- Marking runs: what roots name is marked in the first two formats, and waits in the third; nothing is scanned, and no buffer is open, so
-- that what is made from now on is new. All regions are old, and what is kept stays
pub record HasBegun (c c' : CoreState) : Type 0 where
  pub same : c' ≡ record c { buffers = retired c.buffers; marker = c'.marker; ages = all_old c.ages }
  pub running : c'.marker.running ≡ true
  pub begins : Begins (heap_of c') (marking_of c')
  pub roots : BeginsBy (views.is_by_address c.config.format) c'.marker
  pub scans : c'.marker.scans ≡ restarted c.marker.scans
  pub tops : (k : ℕ) → k < length c.table.regions → slice_index c'.marker.tams.next k ≡ top_of c.table k
  pub previous_tops : c'.marker.tams.previous ≡ c.marker.tams.previous
  pub previous_marks : c'.marker.bitmaps.previous ≡ c.marker.bitmaps.previous

-- So many units of marking were done, k at most, and fewer only if nothing is left to be marked: in the first two formats objects were
-- scanned, in the third words looked at. So many objects were scanned, none of them twice. What was marked or scanned is so still, and the
-- logs, the tops and what is kept stay
pub record HasMarked (k : ℕ) (c c' : CoreState) : Type 0 where
  pub same : c' ≡ record c { marker = c'.marker }
  pub units : ℕ
  pub counted : MarksUpTo (views.is_by_address c.config.format) c.table k units c.marker c'.marker
  pub objects : ℕ
  pub scans : IsMore c.marker.scans c'.marker.scans objects
  pub scanned : marked_count c'.marker.grey.scanned ≡ marked_count c.marker.grey.scanned + objects
  pub grows : Grows c.marker c'.marker
  pub roles : SameRoles c.marker c'.marker
  pub logs : c'.marker.logs ≡ c.marker.logs

-- the core shows the graph with its weak slots cleared by the snapshot
pub record ShowsCleared (s g : Graph) (c : CoreState) : Type 0 where
  pub after : Graph
  pub clears : Clears s g after
  pub shows : ShowsGraph after c

-- Marking is over. The names marked are those that were reachable in the snapshot, n of them, each scanned once; what
-- is kept from now on is those and what was made since, and where the snapshot is still the graph, what is reachable. The table is as it
-- was: weak slots that lead to what was neither marked nor made since are still to be cleared, from the first address on
pub record HasRemarked (n : ℕ) (c c' : CoreState) : Type 0 where
  pub same : c' ≡ record c { marker = c'.marker; clearing = Some 0 }
  pub over : c'.marker.running ≡ false
  pub ends : (s : State) → Stands s c
      → ForSnapshot s.snapshot (λ taken. EndsMarking taken s.graph c.table c.roots c.marker c'.marker n)
  pub quiet : (g : Graph) → Stands (record { graph = g; snapshot = Some g }) c → (a : ℕ) (x : Stored)
      → kept_of c' a ≡ Some x → IsReachable g x.name
  pub scans : c'.marker.scans.since ≡ n
  pub counted : c'.marker.scans.since ≡ marked_count c'.marker.grey.scanned
  pub work : ScansMore c.marker c'.marker
  pub scanned : (a : ℕ) → is_marked c.marker.grey.scanned a ≡ true → is_marked c'.marker.grey.scanned a ≡ true
  pub tops : c'.marker.tams ≡ exchanged c.marker.tams
  pub marks : c'.marker.bitmaps.next ≡ c.marker.bitmaps.previous

-- the addresses from which on clearing goes on, none where it is over
abbrev pub IsAhead : Option ℕ → ℕ → Type 0
IsAhead None a = ⊥
IsAhead (Some place) a = place ≤ a

-- Clearing that was going on is over: in the objects that were ahead of it the weak slots that lead to what isn't kept are nil now, and
-- nothing else changed. Where it wasn't going on, nothing did. What the core shows and keeps stays, and it is one that a step may find
pub record HasSettled (c c' : CoreState) : Type 0 where
  pub same : c' ≡ record c { table = c'.table; clearing = None }
  pub nothing : c.clearing ≡ None → c' ≡ c
  pub cleared : ClearsSome (views.ended_marking_of c.table c.marker) c.table c'.table (IsAhead c.clearing)
  pub shows : (g : Graph) → ShowsGraph g c → ShowsGraph g c'
  pub keeps : (s : Graph) → KeepsFrom s c → KeepsFrom s c'
  pub core : IsCore c'
  pub shaped : IsShaped c'.table

-- The first two formats clear all weak slots when marking ends, the third goes on with it later
abbrev pub ClearsAtOnce : Format → CoreState → CoreState → Type 0
ClearsAtOnce V1 c c' = HasSettled c c'
ClearsAtOnce (V2 card) c c' = HasSettled c c'
ClearsAtOnce (V3 card globals registers) c c' = c' ≡ c

-- Clearing goes on: n objects with weak slots were looked at, k at most, and fewer only if none is left. Of those that are kept the slots
-- that lead to what isn't are nil now, and nothing else changed
pub record HasLooked (k n : ℕ) (c c' : CoreState) : Type 0 where
  pub same : c' ≡ record c { table = c'.table; clearing = c'.clearing }
  pub most : n ≤ k
  pub over : n < k → c'.clearing ≡ None
  pub nothing : c.clearing ≡ None → (c' ≡ c) × (n ≡ 0)
  pub looked : (place : ℕ) → c.clearing ≡ Some place → LooksAt c.table place c'.clearing n
  pub cleared : (place : ℕ) → c.clearing ≡ Some place
      → ClearsSome (views.ended_marking_of c.table c.marker) c.table c'.table (IsBetween place c'.clearing)

-- what a step does once clearing is over
abbrev pub Settles : (CoreState → CoreState → Type 0) → CoreState → CoreState → Type 0
Settles Next c c' = (d : CoreState) × HasSettled c d × Next d c'

-- a free region as in a new heap: its set is empty, no card of its own has entered a set, its tops at mark start are its bottom, it has
-- no marks, and its age is forgotten
pub record IsAsNew (c : CoreState) (k : ℕ) : Type 0 where
  pub free : nth_region c.table k ≡ Free
  pub set : set_of c.sets k ≡ emptied (set_of c.sets k)
  pub entered : (card : ℕ) → card / c.sets.cards_per_region ≡ k → has c.sets.entered card ≡ false
  pub previous_top : slice_index c.marker.tams.previous k ≡ k * c.table.words_per_region
  pub next_top : slice_index c.marker.tams.next k ≡ k * c.table.words_per_region
  pub previous_marks : (a : ℕ) → is_in_region c.table.words_per_region k a ≡ true → is_marked c.marker.bitmaps.previous a ≡ false
  pub next_marks : (a : ℕ) → is_in_region c.table.words_per_region k a ≡ true → is_marked c.marker.bitmaps.next a ≡ false
  pub age : stamp_of c.ages k ≡ 0

-- a region is as it was, with its set, its cards that entered one, its tops at mark start, its marks and its age
pub record IsAsBefore (c c' : CoreState) (k : ℕ) : Type 0 where
  pub region : nth_region c'.table k ≡ nth_region c.table k
  pub set : set_of c'.sets k ≡ set_of c.sets k
  pub cards : c'.sets.cards_per_region ≡ c.sets.cards_per_region
  pub entered : (card : ℕ) → card / c.sets.cards_per_region ≡ k → has c'.sets.entered card ≡ has c.sets.entered card
  pub previous_top : slice_index c'.marker.tams.previous k ≡ slice_index c.marker.tams.previous k
  pub next_top : slice_index c'.marker.tams.next k ≡ slice_index c.marker.tams.next k
  pub previous_marks : (a : ℕ) → is_in_region c.table.words_per_region k a ≡ true
      → is_marked c'.marker.bitmaps.previous a ≡ is_marked c.marker.bitmaps.previous a
  pub next_marks : (a : ℕ) → is_in_region c.table.words_per_region k a ≡ true
      → is_marked c'.marker.bitmaps.next a ≡ is_marked c.marker.bitmaps.next a
  pub age : stamp_of c'.ages k ≡ stamp_of c.ages k

-- regions change, with their sets, tops, marks and ages, and else nothing does; and what is kept stays
pub record ChangesRegions (c c' : CoreState) : Type 0 where
  pub same : c' ≡ record c { table = c'.table; marker = c'.marker; sets = c'.sets; ages = c'.ages }
  pub marker : c'.marker ≡ record c.marker { tams = c'.marker.tams; bitmaps = c'.marker.bitmaps; live = c'.marker.live }
  pub ages : c'.ages ≡ record c.ages { stamps = c'.ages.stamps }
  pub size : c'.table.words_per_region ≡ c.table.words_per_region
  pub kept : (a : ℕ) → kept_of c' a ≡ kept_of c a

-- the dead regions are so many: they stand in a list, each once, and no others
pub record CountsDead (c : CoreState) (n : ℕ) : Type 0 where
  pub regions : List ℕ
  pub distinct : (i j k : ℕ) → slice_get regions i ≡ Some k → slice_get regions j ≡ Some k → i ≡ j
  pub only : (i k : ℕ) → slice_get regions i ≡ Some k → IsDead c k
  pub each : (k : ℕ) → IsDead c k → (i : ℕ) × (slice_get regions i ≡ Some k)
  pub count : n ≡ length regions

-- the dead regions, n of them, are as in a new heap now, and every other region is as it was
pub record HasCleaned (n : ℕ) (c c' : CoreState) : Type 0 where
  pub changes : ChangesRegions c c'
  pub count : CountsDead c n
  pub reclaimed : (k : ℕ) → IsReclaimed c.table c'.table k ↔ IsDead c k
  pub dead : (k : ℕ) → IsDead c k → IsAsNew c' k
  pub others : (k : ℕ) → (IsDead c k → ⊥) → IsAsBefore c c' k

-- the step is refused, and nothing changes
pub record IsRefused (why : Refusal) (reply : Reply) (c c' : CoreState) : Type 0 where
  pub reply_is : reply ≡ replies.Refused why
  pub same : c' ≡ c

-- What a step of the collector replies and does. Begin and cleanup are refused while marking runs, mark and remark while it doesn't.
-- Begin, cleanup, a pause of any kind and a compaction first bring clearing to its end
abbrev pub Collects : CollectorStep → Reply → CoreState → CoreState → Type 0
Collects collector.Begin reply c c' = ((c.marker.running ≡ false) × (reply ≡ replies.Done) × Settles HasBegun c c')
    ⊎ ((c.marker.running ≡ true) × IsRefused refusals.MarkRunning reply c c')
Collects (collector.Mark k) reply c c' = ((c.marker.running ≡ true) × (reply ≡ replies.Done) × HasMarked k c c')
    ⊎ ((c.marker.running ≡ false) × IsRefused refusals.NotMarking reply c c')
Collects collector.Remark reply c c' = ((c.marker.running ≡ true) × (n : ℕ) × (reply ≡ replies.Marked n)
    × (d : CoreState) × HasRemarked n c d × ClearsAtOnce c.config.format d c')
    ⊎ ((c.marker.running ≡ false) × IsRefused refusals.NotMarking reply c c')
Collects collector.Cleanup reply c c' = ((c.marker.running ≡ false) × (n : ℕ) × (reply ≡ replies.Reclaimed n) × Settles (HasCleaned n) c c')
    ⊎ ((c.marker.running ≡ true) × IsRefused refusals.MarkRunning reply c c')
Collects (collector.Refine k) reply c c' = (n : ℕ) × (reply ≡ replies.Refined n) × HasRefined k n c c'
Collects (collector.Pause budget) reply c c' = (n w : ℕ) × (reply ≡ replies.Moved n w) × Settles (HasPaused budget n w) c c'
Collects (collector.Compact budget) reply c c' = (n w : ℕ) × (reply ≡ replies.Moved n w) × Settles (HasCompacted budget n w) c c'
Collects (collector.Clear k) reply c c' = (reply ≡ replies.Done) × (n : ℕ) × HasLooked k n c c'
Collects (collector.PauseWithin limits) reply c c' = (n w : ℕ) × (reply ≡ replies.Moved n w)
    × Settles (HasPausedWithin limits.words limits.cards n w) c c'
Collects (collector.Young limits) reply c c' = (n w : ℕ) × (reply ≡ replies.Moved n w)
    × Settles (HasPausedYoung limits.words limits.cards n w) c c'

-- the heap's sizes stay, and each region in use stays in use
pub record LeavesRegions (c c' : CoreState) : Type 0 where
  pub config : c'.config ≡ c.config
  pub in_use : (k : ℕ) → kind_of c.table k ≢ kinds.Free → kind_of c'.table k ≢ kinds.Free

-- what a step does to the core, whatever graph it stands for
abbrev pub Does : Step → Reply → CoreState → CoreState → Type 0
Does (steps.Mutator o) reply c c' = ActsOn o.mutator o.action reply c c'
Does (steps.Collector k) reply c c' = Collects k reply c c'

-- a region of the collection set of a pause, or of a compaction, with this budget. Cards count once all is made ready
pub record IsInSet (which : Choice) (budget : ℕ) (c : CoreState) (k : ℕ) : Type 0 where
  pub ready : CoreState
  pub is_ready : IsReady c ready
  pub chosen : List LiveRow
  pub choice : IsSetOf which c.table c.marker.tams c.marker.bitmaps.previous c.marker.running ready.sets c.ages budget chosen
  pub inside : is_chosen chosen k ≡ true

-- what a step may reclaim once clearing is over: a cleanup dead regions, a pause of any kind and a compaction their collection sets, a
-- compaction whose set is empty what the run that it moves leaves, any other step nothing
abbrev pub MayReclaim : Step → CoreState → ℕ → Type 0
MayReclaim (steps.Collector collector.Cleanup) c k = (d : CoreState) × HasSettled c d × IsDead d k
MayReclaim (steps.Collector (collector.Pause budget)) c k = (d : CoreState) × HasSettled c d × IsInSet choices.Best budget d k
MayReclaim (steps.Collector (collector.Compact budget)) c k = (d : CoreState) × HasSettled c d
    × (IsInSet choices.Highest budget d k ⊎ MayLeave budget d k)
MayReclaim (steps.Collector (collector.PauseWithin limits)) c k = (d : CoreState) × HasSettled c d
    × IsInSet (choices.Within limits.cards) limits.words d k
MayReclaim (steps.Collector (collector.Young limits)) c k = (d : CoreState) × HasSettled c d
    × IsInSet (choices.Youngest limits.cards) limits.words d k
MayReclaim _ c k = ⊥
