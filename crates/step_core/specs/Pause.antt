-- What a pause and a compaction do to a core, exactly.
use Rattle.std.specs.Prelude.{◌≡◌, ◌↔◌, ◌==◌, ◌+◌, ◌*◌, ◌<◌, ◌≤◌, ◌∷◌, ◌++◌, if◌then◌else◌}
use Rattle.std.specs.Prelude.{ℕ, All, Bool, true, false, Option, None, List, [], IsSorted, Some}
use Rattle.std.specs.Prelude.{length, drop, take, count_by, slice_get, slice_index}
use Rattle.heap_words.specs.Sizes.{size_of}
use Rattle.heap_words.specs.Configs.{card_words}
use Rattle.heap_steps.specs.Actors.{is_third}
use Rattle.heap_model.specs.Graph.{Graph, Object, object_named}
use Rattle.heap_model.specs.Heap.{Heap, Stored}
use Rattle.heap_model.specs.Evacuation.{IsReached}
use Rattle.regions.specs.Table.{Table, is_free, kind_of}
use Rattle.regions.specs.declared.row.Kind.TheVariants as kinds
use Rattle.alloc_buffers.specs.Placement.{closed}
use Rattle.mark_bitmap.specs.Tops.{Tops}
use Rattle.mark_bitmap.specs.Live.{live_bound_of}
use Rattle.marker.specs.Live.{LiveCounts}
use Rattle.cards.specs.Cards.{clean_cards, flushed}
use Rattle.remembered_sets.specs.Sets.{Sets}
use Rattle.region_choice.specs.declared.LiveRow.{LiveRow}
use Rattle.region_choice.specs.Choice.{copy_limit, live_sum, row_cmp, ComeFirst, IsBestWithin}
use Rattle.region_choice.specs.Ages.{Ages, AgesAfter, IsYoung, age_cmp}
use Rattle.evacuation.specs.Evacuates.{Layers, HasEvacuated, is_chosen, set_in}
use Rattle.step_core.specs.declared.candidates.Choice.{Choice}
use Rattle.step_core.specs.declared.candidates.Choice.TheVariants as choices
use Rattle.step_core.specs.Stands.{CoreState, heap_of, ShowsGraph}
use Rattle.step_core.specs.Reclaimed.{IsReclaimed}
use Rattle.step_core.specs.Refining.{GainsCards}
use Rattle.step_core.specs.Within.{AreWithin}

-- the row of an ordinary region, with its live bound
pub record IsRowOf (t : Table) (tops : List ℕ) (marks : List Bool) (row : LiveRow) : Type 0 where
  pub known : row.region < length t.regions
  pub ordinary : kind_of t row.region ≡ kinds.Ordinary
  pub bound : row.live_bound ≡ live_bound_of t tops marks row.region

-- the rows name ordinary regions, each once, with their live bounds
pub record AreRowsOf (t : Table) (tops : List ℕ) (marks : List Bool) (rows : List LiveRow) : Type 0 where
  pub each : All (IsRowOf t tops marks) rows
  pub once : (k : ℕ) → count_by (λ row. row.region == k) rows ≤ 1

-- A pause can reclaim the region: it is an ordinary one, its live bound is less than its words, and while marking runs,
-- all of it was made since marking began
pub record IsCandidate (t : Table) (tams : Tops) (previous : List Bool) (running : Bool) (k : ℕ) : Type 0 where
  pub ordinary : kind_of t k ≡ kinds.Ordinary
  pub frees : live_bound_of t tams.previous previous k < t.words_per_region
  pub all_new : running ≡ true → slice_index tams.next k ≡ k * t.words_per_region

-- a row of one of the first n regions, which is a candidate
pub record IsCandidateRow (t : Table) (tams : Tops) (previous : List Bool) (running : Bool) (n : ℕ) (row : LiveRow) : Type 0 where
  pub candidate : IsCandidate t tams previous running row.region
  pub below : row.region < n

-- the rows are those of the candidates among the first n regions, a row each
pub record AreCandidates (t : Table) (tams : Tops) (previous : List Bool) (running : Bool) (n : ℕ) (rows : List LiveRow) : Type 0 where
  pub are_rows : AreRowsOf t tams.previous previous rows
  pub each : All (IsCandidateRow t tams previous running n) rows
  pub all : (k : ℕ) → k < n → IsCandidate t tams previous running k → is_chosen rows k ≡ true

-- the rows are those of the candidates whose live bounds are within a limit. The others have rows too, which stand nowhere
pub record AreCandidatesWithin (t : Table) (tams : Tops) (previous : List Bool) (running : Bool)
    (limit n : ℕ) (rows : List LiveRow) : Type 0 where
  pub others : List LiveRow
  pub all : AreCandidates t tams previous running n (rows ++ others)
  pub within : All (λ row. row.live_bound ≤ limit) rows
  pub beyond : All (λ row. limit < row.live_bound) others

-- the rows of the chosen regions: those of all candidates that come first, by live bound and then by number, as many as the copy limit
-- allows. None of the others would fit as well, and no others within the limit free more
pub record IsChosen (t : Table) (tams : Tops) (previous : List Bool) (running : Bool) (budget : ℕ) (chosen : List LiveRow) : Type 0 where
  pub rows : List LiveRow
  pub candidates : AreCandidates t tams previous running (length t.regions) rows
  pub front : chosen ≡ take (length chosen) rows
  pub sorted : IsSorted row_cmp chosen
  pub first : ComeFirst chosen (drop (length chosen) rows)
  pub next : All (λ row. copy_limit t.words_per_region budget (count_by is_free t.regions) < live_sum chosen + row.live_bound)
      (drop (length chosen) rows)
  pub best : IsBestWithin t.words_per_region (copy_limit t.words_per_region budget (count_by is_free t.regions)) rows chosen

-- the rows of the regions that a pause within so many cards chooses: of those that a pause chooses, in its order, the ones that few cards
-- may lead into, as long as at most so many may lead into them together
pub record IsWithin (t : Table) (tams : Tops) (previous : List Bool) (running : Bool) (s : Sets) (budget cards : ℕ)
    (chosen : List LiveRow) : Type 0 where
  pub best : List LiveRow
  pub by_pause : IsChosen t tams previous running budget best
  pub within : AreWithin s cards best chosen

-- how many free regions lie below a region
abbrev pub free_below : Table → ℕ → ℕ
free_below t k = count_by is_free (take k t.regions)

-- the rows of the highest ordinary regions: with a region each ordinary one above it has a row
pub record AreHighest (t : Table) (tops : List ℕ) (marks : List Bool) (rows : List LiveRow) : Type 0 where
  pub are_rows : AreRowsOf t tops marks rows
  pub none_left_out : All (λ row. (k : ℕ) → row.region < k → kind_of t k ≡ kinds.Ordinary → is_chosen rows k ≡ true) rows

-- The live words of the rows' regions are within a limit, and each copy of them goes down: k regions need at most 2 k - 1 destinations,
-- and so many regions are free below each of them
pub record GoesDown (t : Table) (limit : ℕ) (rows : List LiveRow) : Type 0 where
  pub within : live_sum rows ≤ limit
  pub below : All (λ row. 2 * length rows ≤ free_below t row.region + 1) rows

-- The rows of the regions that a compaction chooses: the highest ordinary ones, full ones too, as many as go down within the copy limit,
-- so that the next one wouldn't; and none while marking runs
pub record IsCompacted (t : Table) (tams : Tops) (previous : List Bool) (running : Bool) (budget : ℕ) (chosen : List LiveRow) : Type 0 where
  pub highest : AreHighest t tams.previous previous chosen
  pub down : GoesDown t (copy_limit t.words_per_region budget (count_by is_free t.regions)) chosen
  pub waits : running ≡ true → chosen ≡ []
  pub next : running ≡ false → (row : LiveRow) → AreHighest t tams.previous previous (chosen ++ row ∷ [])
      → GoesDown t (copy_limit t.words_per_region budget (count_by is_free t.regions)) (chosen ++ row ∷ []) → ⊥

-- A young pause can reclaim the region: it is an ordinary one, and it was taken for new objects since marking last began; while marking
-- runs, all of it was made since then
pub record IsYoungCandidate (t : Table) (tams : Tops) (running : Bool) (ages : Ages) (k : ℕ) : Type 0 where
  pub ordinary : kind_of t k ≡ kinds.Ordinary
  pub young : IsYoung ages k
  pub all_new : running ≡ true → slice_index tams.next k ≡ k * t.words_per_region

-- the rows are those of the young candidates, a row each
pub record AreYoung (t : Table) (tams : Tops) (previous : List Bool) (running : Bool) (ages : Ages) (rows : List LiveRow) : Type 0 where
  pub are_rows : AreRowsOf t tams.previous previous rows
  pub each : All (λ row. IsYoungCandidate t tams running ages row.region) rows
  pub all : (k : ℕ) → IsYoungCandidate t tams running ages k → is_chosen rows k ≡ true

-- The rows that come first by age: of the young candidates, full ones too, in the order in which they were taken, as many as the copy limit
-- allows, so that the next one wouldn't fit
pub record IsByAge (t : Table) (tams : Tops) (previous : List Bool) (running : Bool) (ages : Ages) (budget : ℕ)
    (taken : List LiveRow) : Type 0 where
  pub rows : List LiveRow
  pub candidates : AreYoung t tams previous running ages rows
  pub sorted : IsSorted (age_cmp ages) rows
  pub front : taken ≡ take (length taken) rows
  pub within : live_sum taken ≤ copy_limit t.words_per_region budget (count_by is_free t.regions)
  pub next : (row : LiveRow) → slice_get rows (length taken) ≡ Some row
      → copy_limit t.words_per_region budget (count_by is_free t.regions) < live_sum taken + row.live_bound

-- the rows of the regions that a young pause chooses: of those that come first by age, the ones that few cards may lead into, as long as at
-- most so many may lead into them together
pub record IsYoungest (t : Table) (tams : Tops) (previous : List Bool) (running : Bool) (s : Sets) (ages : Ages) (budget cards : ℕ)
    (chosen : List LiveRow) : Type 0 where
  pub front : List LiveRow
  pub by_age : IsByAge t tams previous running ages budget front
  pub within : AreWithin s cards front chosen

-- the rows of the collection set, where the sets tell which cards may lead where, and the ages which regions are young: of a pause, of one
-- within so many cards, of a compaction, or of a young pause
abbrev pub IsSetOf : Choice → Table → Tops → List Bool → Bool → Sets → Ages → ℕ → List LiveRow → Type 0
IsSetOf choices.Best t tams previous running s ages budget chosen = IsChosen t tams previous running budget chosen
IsSetOf (choices.Within cards) t tams previous running s ages budget chosen = IsWithin t tams previous running s budget cards chosen
IsSetOf choices.Highest t tams previous running s ages budget chosen = IsCompacted t tams previous running budget chosen
IsSetOf (choices.Youngest cards) t tams previous running s ages budget chosen =
    IsYoungest t tams previous running s ages budget cards chosen

-- No buffer is open and no region current. Every listed card is refined: no card is dirty, and the sets gained what these cards lead into.
-- Nothing else changed
pub record IsReady (c c' : CoreState) : Type 0 where
  pub same : c' ≡ record c {
    buffers = closed c.buffers.words (length c.buffers.open_buffers);
    cards = clean_cards (length c.cards.dirty) (length c.cards.logs);
    sets = c'.sets;
  }
  pub sets : GainsCards (flushed c.cards).queue c c'

-- an object of this name is reached in the set: from a root, or from a field of an object outside the set, by fields within it
pub record IsCopied (set : ℕ → Bool) (h : Heap) (n : ℕ) : Type 0 where
  pub address : ℕ
  pub object : Stored
  pub at : h.kept address ≡ Some object
  pub named : object.name ≡ n
  pub reached : IsReached set h address

-- the words of an object of the graph, and of the objects of these names
abbrev pub named_words : Option Object → ℕ
named_words None = 0
named_words (Some o) = size_of (length o.pointers) (length o.weaks + length o.held) (length o.values)

abbrev pub words_of : Graph → List ℕ → ℕ
words_of g [] = 0
words_of g (n ∷ ns) = named_words (object_named g n) + words_of g ns

-- the names of the reached objects have so many words: they stand in a list, each once, and nothing else does
pub record AreCopiedNames (g : Graph) (set : ℕ → Bool) (h : Heap) (w : ℕ) : Type 0 where
  pub names : List ℕ
  pub distinct : (i j n : ℕ) → slice_get names i ≡ Some n → slice_get names j ≡ Some n → i ≡ j
  pub copied : (i n : ℕ) → slice_get names i ≡ Some n → IsCopied set h n
  pub each : (n : ℕ) → IsCopied set h n → (i : ℕ) × (slice_get names i ≡ Some n)
  pub total : words_of g names ≡ w

-- nothing is counted of the rows' regions, and of the others what was
pub record AreForgotten (rows : List LiveRow) (l l' : LiveCounts) : Type 0 where
  pub previous : (k : ℕ) → slice_index l'.previous k ≡ (if is_chosen rows k then 0 else slice_index l.previous k)
  pub next : (k : ℕ) → slice_index l'.next k ≡ (if is_chosen rows k then 0 else slice_index l.next k)
  pub each_previous : length l'.previous ≡ length l.previous
  pub each_next : length l'.next ≡ length l.next

-- the layers of a core that evacuation works on
abbrev pub layers_of : CoreState → Layers
layers_of c = record {
  table = c.table;
  tams = c.marker.tams;
  previous = c.marker.bitmaps.previous;
  next = c.marker.bitmaps.next;
  cards = c.cards;
  sets = c.sets;
  roots = c.roots;
}

-- The chosen regions, n of them, are those of the collection set, and are reclaimed, and no others. What is reached in them, w words, at
-- most the budget, is evacuated from the core that was made ready, their ages are forgotten, and nothing else of it changes. Cards count by
-- the sets of that core. In the third format fields that lead to other regions then are noted at once in the sets of these
pub record EvacuatesSet (which : Choice) (budget n w : ℕ) (c ready c' : CoreState) : Type 0 where
  pub chosen : List LiveRow
  pub choice : IsSetOf which c.table c.marker.tams c.marker.bitmaps.previous c.marker.running ready.sets c.ages budget chosen
  pub regions : n ≡ length chosen
  pub within : w ≤ budget
  pub names : (g : Graph) → ShowsGraph g c → AreCopiedNames g (set_in c.table.words_per_region chosen) (heap_of c) w
  pub reclaimed : (k : ℕ) → IsReclaimed c.table c'.table k ↔ (is_chosen chosen k ≡ true)
  pub same : c' ≡ record ready {
    table = c'.table;
    marker = c'.marker;
    cards = c'.cards;
    sets = c'.sets;
    roots = c'.roots;
    ages = c'.ages;
  }
  pub marker : c'.marker ≡ record ready.marker { tams = c'.marker.tams; bitmaps = c'.marker.bitmaps; live = c'.marker.live }
  pub counts : AreForgotten chosen ready.marker.live c'.marker.live
  pub ages : AgesAfter (is_chosen chosen) ready.ages c'.ages
  pub evacuated : HasEvacuated chosen (is_third c.config.format) (card_words c.config) w (layers_of ready) (layers_of c')

-- all is made ready, then the regions of the collection set are evacuated
pub record HasMoved (which : Choice) (budget n w : ℕ) (c c' : CoreState) : Type 0 where
  pub ready : CoreState
  pub is_ready : IsReady c ready
  pub evacuates : EvacuatesSet which budget n w c ready c'

-- a pause moves the best regions, one within so many cards those of them that few cards lead into, a young pause those that were taken for
-- new objects first
abbrev pub HasPaused : ℕ → ℕ → ℕ → CoreState → CoreState → Type 0
HasPaused budget n w c c' = HasMoved choices.Best budget n w c c'

abbrev pub HasPausedWithin : ℕ → ℕ → ℕ → ℕ → CoreState → CoreState → Type 0
HasPausedWithin budget cards n w c c' = HasMoved (choices.Within cards) budget n w c c'

abbrev pub HasPausedYoung : ℕ → ℕ → ℕ → ℕ → CoreState → CoreState → Type 0
HasPausedYoung budget cards n w c c' = HasMoved (choices.Youngest cards) budget n w c c'
