-- A new heap stands for the first state.
use Rattle.std.proofs.Common.{◌≡◌, ◌*◌, ◌^◌, ◌/◌, ◌<◌, ◌≤◌, ◌∙◌, ℕ, zero, suc, false, Option, Some, None, List, [], length, get_or}
use Rattle.std.proofs.Common.{replicate, refl, sym, ap, arith, slice_get, slice_index}
use Rattle.std.specs.List.{AllZip}
use Rattle.std.proofs.lemmas.List.{length-replicate}
use Rattle.heap_model.specs.Heap.{Heap, Stored, IsShown}
use Rattle.heap_words.specs.declared.config.Config.{Config}
use Rattle.regions.specs.Table.{Table, Free, free_table, object_at, tile_in, region_at, top_of}
use Rattle.regions.proofs.Tiles.Making.{free_table-unmoved}
use Rattle.heap_model.specs.Graph.{IsSound}
use Rattle.heap_model.proofs.Unreached.{unreached_begins}
use Rattle.graph_runs.specs.State.{first_graph, first_state, root_places}
use Rattle.graph_runs.proofs.Sound.{first_sound}
use Rattle.graph_runs.proofs.SinceLaws.{holds_sound}
use Rattle.heap_words.specs.Configs.{Suits}
use Rattle.alloc_buffers.specs.declared.buffers.Buffer.{Buffer}
use Rattle.alloc_buffers.specs.Placement.{BuffersStand, AreAbove, closed}
use Rattle.satb_log.specs.Logs.{log_of}
use Rattle.marker.specs.Views as views
use Rattle.marker.specs.Stands.{MarkerStands}
use Rattle.marker.specs.declared.marker.Marker.{Marker}
use Rattle.cards.specs.Cards.{clean_cards, is_dirty}
use Rattle.remembered_sets.specs.Sets.{empty_sets, empty_set, may_lead}
use Rattle.step_core.specs.Fresh.{filter_rows}
use Rattle.region_choice.specs.Ages.{fresh_ages}
use Rattle.refinement.proofs.Remembered.{remembers_none}
use Rattle.evacuation.specs.Rooms.{RoomSizes}
use Rattle.heap_words.specs.Configs.{card_words}
use Rattle.heap_words.proofs.Limits.{region_cards}
use Rattle.step_core.specs.Stands.{root_counts_of, IsRoomFor, CoreState, kept_of, heap_of, CardsFit, ShowsGraph, Stands, IsCore}
use Rattle.step_core.proofs.Mutating.Reading.{object_kept}

all_free : (n k : ℕ) → get_or (replicate n Free) k Free ≡ Free
all_free zero k = refl
all_free (suc n) zero = refl
all_free (suc n) (suc k) = all_free n k

nothing_at : (n w a : ℕ) → object_at (free_table n w) a ≡ None
unfolding object_at tile_in region_at free_table
nothing_at n w a = rw (all_free n (a / w)) refl

size_is : (n w : ℕ) → (free_table n w).words_per_region ≡ w
unfolding free_table
size_is n w = refl

nil_shown : (h : Heap) (p : ℕ) → AllZip (IsShown h) (replicate p None) (replicate p None)
nil_shown h zero = tt
nil_shown h (suc p) = (tt, nil_shown h p)

abbrev pub first_core : Config → Marker → RoomSizes → ℕ → CoreState
first_core g m d r = record {
  config = g;
  table = free_table g.regions g.words;
  buffers = closed g.buffer g.mutators;
  marker = m;
  cards = clean_cards (g.regions * (g.words / card_words g)) g.mutators;
  sets = empty_sets g.regions (g.words / card_words g) (filter_rows g);
  room = d;
  row_room = r;
  ages = fresh_ages g.regions;
  places = root_counts_of g;
  roots = replicate (root_places (root_counts_of g)) None;
  next = g.first_name;
  clearing = None;
}

none_kept : (g : Config) (m : Marker) (d : RoomSizes) (r : ℕ) (a : ℕ) (x : Stored) → kept_of (first_core g m d r) a ≡ Some x → ⊥
none_kept g m d r a x e = let none = nothing_at g.regions g.words a in let is = object_kept (first_core g m d r) a x e in cc

pub first_shows : (g : Config) (m : Marker) (d : RoomSizes) (r : ℕ) → ShowsGraph (first_graph g) (first_core g m d r)
first_shows g m d r = record {
  room = refl;
  places = refl;
  next = omega arith;
  shows = record {
    roots = nil_shown (heap_of (first_core g m d r)) (root_places (root_counts_of g));
    distinct = λ a b x y h k n. absurd (none_kept g m d r a x h);
    objects = λ a x h. absurd (none_kept g m d r a x h);
  };
}

pub first_stands : (g : Config) (m : Marker) (d : RoomSizes) (r : ℕ) → m.running ≡ false → Stands (first_state g) (first_core g m d r)
first_stands g m d r idle = record { shows = first_shows g m d r; keeps = idle; sound = first_sound g; since = tt }

first_graph_sound : (g : Config) → IsSound (first_graph g)
first_graph_sound g = holds_sound (first_graph g) (first_sound g).graph

no_buffer : (n m : ℕ) (x : Buffer) → slice_get (replicate {A = Option Buffer} n None) m ≡ Some (Some x) → ⊥
no_buffer zero m x e = cc
no_buffer (suc n) zero x e = cc
no_buffer (suc n) (suc m) x e = no_buffer n m x e

-- all lies above limits that no top is below
first_above : (t : Table) (words mutators : ℕ) (limit : ℕ → ℕ) → ((k : ℕ) → k < length t.regions → limit k ≤ top_of t k)
    → AreAbove t (closed words mutators) limit
first_above t words mutators limit tops = record { tops = tops; buffers = λ m x e. absurd (no_buffer mutators m x e) }

count_is : (n w : ℕ) → length (free_table n w).regions ≡ n
unfolding free_table
count_is n w = length-replicate n Free

no_logs : (n k : ℕ) → log_of (replicate n []) k ≡ []
no_logs zero k = refl
no_logs (suc n) zero = refl
no_logs (suc n) (suc k) = no_logs n k

none_by : (o : Option Stored) → ((x : Stored) → o ≡ Some x → ⊥) → o ≡ None
none_by None f = refl
none_by (Some x) f = absurd (f x refl)

first_none : (g : Config) (m : Marker) (d : RoomSizes) (r : ℕ) (a : ℕ) → kept_of (first_core g m d r) a ≡ None
first_none g m d r a = none_by (kept_of (first_core g m d r) a) (λ x e. none_kept g m d r a x e)

first_cards : (g : Config) → Suits g
    → CardsFit g (clean_cards (g.regions * (g.words / card_words g)) g.mutators)
    (empty_sets g.regions (g.words / card_words g) (filter_rows g))
first_cards g suits = record {
  whole_cards = region_cards g suits;
  each_region = length-replicate g.regions (empty_set g.regions (g.words / card_words g) (filter_rows g));
  each_card = length-replicate (g.regions * (g.words / card_words g)) false
      ∙ ap (λ (n : ℕ). n * (g.words / card_words g))
      (sym (length-replicate g.regions (empty_set g.regions (g.words / card_words g) (filter_rows g))));
  each_mutator = length-replicate g.mutators [];
}

pub first_is : (g : Config) (m : Marker) (d : RoomSizes) (r : ℕ) → ((t : Table) → BuffersStand t (closed g.buffer g.mutators)) → Suits g
    → IsRoomFor g d → g.regions ≤ r → g.first_name < 2 ^ 64 → m.running ≡ false → m.logs ≡ replicate g.mutators []
    → m.waiting.room ≡ views.waiting_room g
    → ((t : Table) → length t.regions ≡ g.regions → t.words_per_region ≡ g.words → MarkerStands t m) → IsCore (first_core g m d r)
first_is g m d r stand suits to rows names idle logs spare stands =
    let t : Table = free_table g.regions g.words in
    let st : MarkerStands t m = stands t (count_is g.regions g.words) (size_is g.regions g.words) in
    record {
      suits = suits;
      layers = record {
        region_size = size_is g.regions g.words;
        region_count = count_is g.regions g.words;
        buffer_size = refl;
        open_buffers = length-replicate g.mutators None;
        logs = ap (λ (ls : List (List ℕ)). length ls) logs ∙ length-replicate g.mutators [];
        waits = spare;
        buffers = stand t;
        unmoved = free_table-unmoved g.regions g.words;
        marker = st;
        above_previous = first_above t g.buffer g.mutators (slice_index m.tams.previous) st.previous.top;
        above_next = first_above t g.buffer g.mutators (slice_index m.tams.next) st.next.top;
        room =
            λ k. let none = ap (λ (ls : List (List ℕ)). length (log_of ls k)) logs ∙ ap (λ (l : List ℕ). length l) (no_logs g.mutators k) in
            omega arith;
        halves = λ a x e o. absurd (let none = nothing_at g.regions g.words a in cc);
        wide = λ a x e o. absurd (let none = nothing_at g.regions g.words a in cc);
      };
      cards = first_cards g suits;
      remembers = remembers_none (first_core g m d r).table.words_per_region (card_words g) (kept_of (first_core g m d r))
          (is_dirty (first_core g m d r).cards) (may_lead (first_core g m d r).sets) (first_none g m d r);
      room = to;
      rows = rows;
      ages = length-replicate g.regions 0;
      placed = refl;
      places = length-replicate (root_places (root_counts_of g)) None;
      names = names;
      slots = record {
        cleared = λ a b p w. absurd (none_kept g m d r a w.object w.at);
        lead = λ a b w. absurd (none_kept g m d r a w.object w.at);
      };
      footing = record { graph = first_graph g; snapshot = first_graph g };
      rests = record {
        shows = first_shows g m d r;
        keeps = record { earlier = omega arith; marking = λ run. absurd cc };
        sound = first_graph_sound g;
        unreached = unreached_begins (first_graph g) (first_graph_sound g);
        pairs = λ p x at. absurd cc;
      };
    }
