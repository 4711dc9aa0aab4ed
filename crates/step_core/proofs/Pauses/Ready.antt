-- Before a pause: buffers are closed, and every card is refined. k is the core by its fields.
use Rattle.std.proofs.Common.{◌≡◌, ◌+◌, ◌*◌, ◌/◌, ◌<◌, ◌≤◌, ◌∷◌, ◌∙◌, ℕ, suc, Bool, true, false, Option, None, List, [], get_or, length}
use Rattle.std.proofs.Common.{take, replicate, sum_by, refl, sym, ap, subst, arith, inl, inr, slice_index, if◌then◌else◌}
use Rattle.std.proofs.lemmas.List.{length-replicate, take_all}
use Rattle.std.proofs.lemmas.List.Folds.{sum_by-replicate}
use Rattle.std.proofs.Math.ListN.{drop_of_length-le}
use Rattle.heap_words.specs.declared.config.Config.{Config}
use Rattle.heap_model.specs.Graph.{Graph}
use Rattle.regions.specs.Table.{Table, top_of}
use Rattle.alloc_buffers.specs.Placement.{Buffers, BuffersStand, AreAbove, closed}
use Rattle.alloc_buffers.specs.declared.buffers.Buffer.{Buffer}
use Rattle.cards.specs.Cards.{Cards, clean_cards, is_dirty, flushed, times_in, ListsDirtyOnce}
use Rattle.remembered_sets.specs.Sets.{may_lead}
use Rattle.refinement.specs.Remembering.{Remembers, LeadsInto}
use Rattle.heap_words.specs.Configs.{card_words}
use Rattle.step_core.proofs.Mutating.Noting.{cards_a_region}
use Rattle.step_core.specs.Stands.{CoreState, kept_of, ShowsGraph, KeepsFrom, RemembersFields, IsCore}
use Rattle.step_core.proofs.Cores.Slots.{slots_same}
use Rattle.step_core.specs.Stands.{IsClearing}
use Rattle.step_core.proofs.Cores.Resting.{core_stays}
use Rattle.step_core.specs.Refining.{GainsCards, HasRefined}
use Rattle.step_core.specs.Pause.{IsReady}

abbrev pub with_closed : CoreState → Buffers → Cards → CoreState
with_closed c b cs = record c { buffers = b; cards = cs }

module _ (k : CoreState) (b : Buffers) (cs : Cards) where
  pub closed_shows : (g : Graph) → ShowsGraph g k → ShowsGraph g (with_closed k b cs)
  unfolding kept_of
  closed_shows g s = record { room = s.room; places = s.places; next = s.next; shows = s.shows }

  pub closed_keeps : (s : Graph) → KeepsFrom s k → KeepsFrom s (with_closed k b cs)
  unfolding kept_of
  closed_keeps s f = record { earlier = f.earlier; marking = f.marking }

  module _ (core : IsCore k) (is : b ≡ closed k.buffers.words (length k.buffers.open_buffers)) (stand : (t : Table) → BuffersStand t b)
      (above : (t : Table) (limit : ℕ → ℕ) → ((n : ℕ) → n < length t.regions → limit n ≤ top_of t n) → AreAbove t b limit)
      (flush : cs ≡ flushed k.cards) where
    closed_remembers : RemembersFields (with_closed k b cs)
    unfolding kept_of
    closed_remembers = subst (λ (x : Cards).
        Remembers k.table.words_per_region (kept_of k) (card_words k.config) (is_dirty x) (may_lead k.sets)) (sym flush) core.remembers

    closed_slots : IsClearing (with_closed k b cs)
    unfolding kept_of
    closed_slots = slots_same k (with_closed k b cs) core.slots refl (λ a. refl) (λ a h. h)

    pub closed_kept : IsCore (with_closed k b cs)
    closed_kept = core_stays k core k.table b k.marker cs k.sets k.roots refl (record {
      region_size = core.layers.region_size;
      region_count = core.layers.region_count;
      buffer_size = ap (λ (x : Buffers). x.words) is ∙ core.layers.buffer_size;
      open_buffers = ap (λ (x : Buffers). length x.open_buffers) is
          ∙ length-replicate {A = Option Buffer} (length k.buffers.open_buffers) None ∙ core.layers.open_buffers;
      logs = core.layers.logs;
      waits = core.layers.waits;
      buffers = stand k.table;
      unmoved = core.layers.unmoved;
      marker = core.layers.marker;
      above_previous = above k.table (slice_index k.marker.tams.previous) core.layers.marker.previous.top;
      above_next = above k.table (slice_index k.marker.tams.next) core.layers.marker.next.top;
      room = core.layers.room;
      halves = core.layers.halves;
      wide = core.layers.wide;
    }) (record {
      whole_cards = core.cards.whole_cards;
      each_region = core.cards.each_region;
      each_card = ap (λ (x : Cards). length x.dirty) flush ∙ core.cards.each_card;
      each_mutator =
          ap (λ (x : Cards). length x.logs) flush ∙ length-replicate {A = List ℕ} (length k.cards.logs) [] ∙ core.cards.each_mutator;
    }) closed_remembers closed_slots closed_shows closed_keeps

-- where nothing is listed no card is dirty
none_dirty : (t : Cards) (n card : ℕ) → ListsDirtyOnce t → t.queue ≡ [] → t.logs ≡ replicate n [] → is_dirty t card ≡ false
none_dirty t n card once queue logs = go (is_dirty t card) (omega (arith, listed, once.each card))
  where
    listed : times_in card t.queue + sum_by (times_in card) t.logs ≡ 0
    listed =
        let first = ap (λ (xs : List ℕ). times_in card xs) queue in
        let rest = ap (λ (ls : List (List ℕ)). sum_by (times_in card) ls) logs ∙ sum_by-replicate (times_in card) n [] in
        omega (arith, first, rest)

    go : (b : Bool) → ◌≡◌ {A = ℕ} (if b then 1 else 0) 0 → b ≡ false
    go true e = absurd (omega (arith, e))
    go false e = refl

-- flags of which none is set
all_clear : (flags : List Bool) → ((n : ℕ) → get_or flags n false ≡ false) → flags ≡ replicate (length flags) false
all_clear [] none = refl
all_clear (b ∷ flags) none =
    let here : b ≡ false = none 0 in
    let rest = all_clear flags (λ n. none (suc n)) in
    ap (λ (x : Bool). x ∷ flags) here ∙ ap (λ (xs : List Bool). false ∷ xs) rest

-- as many cards as before
cards_stay : (c c' : CoreState) → IsCore c → IsCore c' → c'.config ≡ c.config → length c'.cards.dirty ≡ length c.cards.dirty
cards_stay c c' core core' same =
    let per : c'.sets.cards_per_region ≡ c.sets.cards_per_region =
    sym (cards_a_region c' core') ∙ ap (λ (x : Config). x.words / card_words x) same ∙ cards_a_region c core in
    let count = core'.cards.each_region ∙ ap (λ (x : Config). x.regions) same ∙ sym core.cards.each_region in
    core'.cards.each_card ∙ ap (λ (n : ℕ). n * c'.sets.cards_per_region) count
    ∙ ap (λ (n : ℕ). length c.sets.sets * n) per ∙ sym core.cards.each_card

cards_are : (t : Cards) (dirty : List Bool) (logs : List (List ℕ)) (queue : List ℕ) → t.dirty ≡ dirty → t.logs ≡ logs → t.queue ≡ queue
    → t ≡ record { dirty = dirty; logs = logs; queue = queue }
cards_are t dirty logs queue ed el eq =
    ap (λ (xs : List Bool). record t { dirty = xs }) ed
    ∙ ap (λ (ls : List (List ℕ)). record { dirty = dirty; logs = ls; queue = t.queue }) el
    ∙ ap (λ (xs : List ℕ). record { dirty = dirty; logs = logs; queue = xs }) eq

-- nothing is listed, and so nothing is dirty
all_clean : (c c' : CoreState) → IsCore c → IsCore c' → c'.config ≡ c.config → ListsDirtyOnce c'.cards → c'.cards.queue ≡ []
    → c'.cards.logs ≡ replicate (length c.cards.logs) [] → c'.cards ≡ clean_cards (length c.cards.dirty) (length c.cards.logs)
all_clean c c' core core' same once queue logs =
    let dirty : c'.cards.dirty ≡ replicate (length c.cards.dirty) false
    = all_clear c'.cards.dirty (λ card. none_dirty c'.cards (length c.cards.logs) card once queue logs)
    ∙ ap (λ (n : ℕ). replicate n false) (cards_stay c c' core core' same) in
    cards_are c'.cards (replicate (length c.cards.dirty) false) (replicate (length c.cards.logs) []) [] dirty logs queue

-- other buffers and cards change nothing of which fields lead where
leads_closed : (k : CoreState) (b : Buffers) (cs : Cards) (x region : ℕ)
    → LeadsInto k.table.words_per_region (kept_of (with_closed k b cs)) (card_words k.config) x region
    → LeadsInto k.table.words_per_region (kept_of k) (card_words k.config) x region
unfolding kept_of
leads_closed k b cs x region l = l

gains_closed : (k c' : CoreState) (b : Buffers) (cs : Cards) (cards : List ℕ)
    → GainsCards cards (with_closed k b cs) c' → GainsCards cards k c'
gains_closed k c' b cs cards g = record {
  stays = g.stays;
  only = λ region card e. elim (g.only region card e) [
    | inl was ↦ inl was
    | inr new ↦ inr (new.0, new.1, leads_closed k b cs new.0 region new.2, new.3)
  ];
}

-- the queue was refined whole, so no card is dirty
pub is_ready : (k c c' : CoreState) (b : Buffers) (cs : Cards) (n m : ℕ) → k ≡ c
    → b ≡ closed k.buffers.words (length k.buffers.open_buffers) → cs ≡ flushed k.cards
    → n ≡ length cs.queue → HasRefined n m (with_closed k b cs) c' → ListsDirtyOnce c'.cards → IsCore k → IsCore c' → IsReady c c'
unfolding kept_of
is_ready k c c' b cs n m e is flush all r once core core' =
    let count : m ≡ length cs.queue = (let count = r.count in omega (arith, count, all)) in
    let queue : c'.cards.queue ≡ [] = r.queue ∙ drop_of_length-le cs.queue (let le = count in omega arith) in
    let logs : c'.cards.logs ≡ replicate (length k.cards.logs) [] = r.logs ∙ ap (λ (x : Cards). x.logs) flush in
    let clean = all_clean k c' core core' (ap (λ (d : CoreState). d.config) r.same) once queue logs in
    let whole : take m cs.queue ≡ (flushed k.cards).queue =
    take_all m cs.queue (let le = count in omega arith) ∙ ap (λ (x : Cards). x.queue) flush in
    subst (λ (d : CoreState). IsReady d c') e (record {
      same = r.same ∙ ap (λ (x : Buffers). record k { buffers = x; cards = c'.cards; sets = c'.sets }) is
          ∙ ap (λ (x : Cards).
          record k { buffers = closed k.buffers.words (length k.buffers.open_buffers); cards = x; sets = c'.sets }) clean;
      sets = rw (← whole) (gains_closed k c' b cs (take m cs.queue) r.sets);
    })

-- what a core that is ready has of the one before
module _ (c k : CoreState) (ready : IsReady c k) where
  pub ready_config : k.config ≡ c.config
  ready_config = ap (λ (d : CoreState). d.config) ready.same

  pub ready_table : k.table ≡ c.table
  ready_table = ap (λ (d : CoreState). d.table) ready.same

  pub ready_marker : k.marker ≡ c.marker
  ready_marker = ap (λ (d : CoreState). d.marker) ready.same

  pub ready_roots : k.roots ≡ c.roots
  ready_roots = ap (λ (d : CoreState). d.roots) ready.same

  pub ready_next : k.next ≡ c.next
  ready_next = ap (λ (d : CoreState). d.next) ready.same

  pub ready_ages : k.ages ≡ c.ages
  ready_ages = ap (λ (d : CoreState). d.ages) ready.same
