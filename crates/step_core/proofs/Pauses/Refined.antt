-- Cards are refined in a core, one after another: k is the core by its fields.
use Rattle.std.proofs.Common.{◌≡◌, ◌+◌, ◌/◌, ◌<◌, ◌≤◌, ◌⊎◌, ◌∷◌, ◌++◌, ◌∙◌, ℕ, zero, suc, Bool, true, false, Option, Some, None, List, []}
use Rattle.std.proofs.Common.{length, take, drop, IsSome}
use Rattle.std.proofs.Common.{min, get_or, refl, sym, ap, subst, arith, inl, inr, Contains, slice_get}
use Rattle.heap_model.specs.Graph.{Graph}
use Rattle.heap_model.specs.Heap.{Stored, fields}
use Rattle.heap_model.proofs.Shown.{followed}
use Rattle.heap_model.proofs.Lists.{get-append_cases}
use Rattle.regions.specs.Shaped.{IsShaped}
use Rattle.regions.specs.Table.{Table, object_at}
use Rattle.step_core.proofs.Cores.Keeping.{nothing_there}
use Rattle.step_core.proofs.Cores.Bare.{kept_bare}
use Rattle.step_core.proofs.Mutating.Reading.{object_kept}
use Rattle.step_core.proofs.Cores.Slots.{slots_same}
use Rattle.mark_bitmap.specs.Kept.{kept_in}
use Rattle.cards.specs.Cards.{Cards, is_dirty}
use Rattle.remembered_sets.specs.Sets.{Sets, covers, may_lead, card_count}
use Rattle.refinement.specs.Remembering.{Remembers, LeadsInto, LeadsInside}
use Rattle.refinement.specs.Refining.{CanScan, SetsFit, Refines, AddsCard}
use Rattle.refinement.proofs.Holders.{object_known}
use Rattle.refinement.proofs.Entered.{adds_gains}
use Rattle.marker.proofs.Logs.{contained}
use Rattle.heap_words.specs.Configs.{card_words}
use Rattle.std.proofs.Math.Nat.{mul-div_cancel}
use Rattle.step_core.proofs.Mutating.Noting.{some_card, cards_a_region}
use Rattle.step_core.specs.Stands.{CoreState, kept_of, heap_of, ShowsGraph, KeepsFrom, IsCore}
use Rattle.step_core.proofs.Cores.Resting.{core_stays}
use Rattle.step_core.specs.Refining.{GainsCards, RefinesCard, HasRefined}

abbrev pub with_cards : CoreState → Cards → Sets → CoreState
with_cards c cs ss = record c { cards = cs; sets = ss }

-- a field leads to an object of the table
field_leads : (k : CoreState) → IsCore k → IsShaped k.table → (a i b : ℕ) (x : Stored) → kept_of k a ≡ Some x
    → slice_get (fields x) i ≡ Some (Some b) → (y : Stored) × (object_at k.table b ≡ Some y)
field_leads k core shape a i b x at e = elim (get-append_cases x.pointers (x.weaks ++ x.held) i (Some b) e) [
  | inl q ↦
      let (y, here) = (followed core.footing.graph (heap_of k) core.rests.shows.shows).pointer a i b x at q in
      (y, object_kept k b y here)
  | inr q ↦ elim (get-append_cases x.weaks x.held q.0 (Some b) q.1) [
    | inl r ↦ some_object k b (core.slots.lead a b (record { object = x; at = at; slot = q.0; is = r }))
    | inr r ↦ absurd (nothing_there x.held r.0 b (kept_bare k core a x at) r.1)
  ]
]
  where
    some_object : (k : CoreState) (b : ℕ) → IsSome (object_at k.table b) → (y : Stored) × (object_at k.table b ≡ Some y)
    some_object k b h = go (object_at k.table b) refl h
      where
        go : (o : Option Stored) → object_at k.table b ≡ o → IsSome (object_at k.table b) → (y : Stored) × (object_at k.table b ≡ Some y)
        go None e h = absurd (let q = h in cc)
        go (Some y) e h = (y, e)

object_inside : (t : Table) (b : ℕ) → ((y : Stored) × (object_at t b ≡ Some y)) → b / t.words_per_region < length t.regions
object_inside t b there = object_known t b there.0 there.1

-- cards can be scanned
pub sets_fit : (k : CoreState) → IsCore k → SetsFit k.table (card_words k.config) k.sets
sets_fit k core = record {
  whole_cards = core.layers.region_size ∙ core.cards.whole_cards;
  each_region = core.cards.each_region ∙ sym core.layers.region_count;
}

pub can_scan : (k : CoreState) → IsCore k → IsShaped k.table
    → CanScan k.table k.marker.tams k.marker.bitmaps.previous (card_words k.config) k.sets
unfolding kept_of
can_scan k core shape = record {
  fit = sets_fit k core;
  each_word = core.layers.marker.previous.each_word;
  inside = record { each = λ a i v s at e. let there = field_leads k core shape a i v s at e in object_inside k.table v there };
}

module _ (k : CoreState) (core : IsCore k) (result : Bool) (cs : Cards) (ss : Sets)
    (scan : CanScan k.table k.marker.tams k.marker.bitmaps.previous (card_words k.config) ss) (count : length cs.dirty ≡ card_count ss)
    (refines : Refines result k.table.words_per_region (kept_in k.table k.marker.tams k.marker.bitmaps.previous)
    (card_words k.config) k.cards cs k.sets ss)
    (remembers : Remembers k.table.words_per_region (kept_in k.table k.marker.tams k.marker.bitmaps.previous)
    (card_words k.config) (is_dirty k.cards) (may_lead k.sets) → Remembers k.table.words_per_region (kept_in
    k.table k.marker.tams k.marker.bitmaps.previous) (card_words k.config) (is_dirty cs) (may_lead ss)) where
  pub cards_show : (g : Graph) → ShowsGraph g k → ShowsGraph g (with_cards k cs ss)
  unfolding kept_of
  cards_show g s = record { room = s.room; places = s.places; next = s.next; shows = s.shows }

  pub cards_keep : (s : Graph) → KeepsFrom s k → KeepsFrom s (with_cards k cs ss)
  unfolding kept_of
  cards_keep s f = record { earlier = f.earlier; marking = f.marking }

  logs_stay : (b : Bool)
      → Refines b k.table.words_per_region (kept_in k.table k.marker.tams k.marker.bitmaps.previous)
      (card_words k.config) k.cards cs k.sets ss → cs.logs ≡ k.cards.logs
  logs_stay true r = r.taken.logs
  logs_stay false r = ap (λ (x : Cards). x.logs) r.1

  pub refined_kept : IsCore (with_cards k cs ss)
  unfolding kept_of
  refined_kept = core_stays k core k.table k.buffers k.marker cs ss k.roots refl core.layers (record {
    whole_cards = sym core.layers.region_size ∙ scan.fit.whole_cards;
    each_region = scan.fit.each_region ∙ core.layers.region_count;
    each_card = count;
    each_mutator = ap (λ (ls : List (List ℕ)). length ls) (logs_stay result refines) ∙ core.cards.each_mutator;
  }) (remembers core.remembers) (slots_same k (with_cards k cs ss) core.slots refl (λ a. refl) (λ b h. h)) cards_show cards_keep

  -- what sets cover once the card was added
  gains : (card : ℕ)
      → AddsCard k.table.words_per_region (kept_in k.table k.marker.tams k.marker.bitmaps.previous) (card_words k.config) card k.sets ss
      → GainsCards (card ∷ []) k (with_cards k cs ss)
  unfolding kept_of
  gains card adds =
      let inside = subst (λ (n : ℕ). LeadsInside k.table.words_per_region n (kept_in k.table k.marker.tams k.marker.bitmaps.previous))
      (core.layers.region_count ∙ sym core.cards.each_region) scan.inside in
      let g = adds_gains k.table.words_per_region (kept_in k.table k.marker.tams k.marker.bitmaps.previous)
      (card_words k.config) card k.sets ss inside adds in
      record {
        stays = g.stays;
        only = λ region c e. elim (g.only region c e) [
          | inl was ↦ inl was
          | inr new ↦ inr (card, contained (card ∷ []) 0 card refl, new.0, new.1)
        ];
      }

  one_refined : (b : Bool)
      → Refines b k.table.words_per_region (kept_in k.table k.marker.tams k.marker.bitmaps.previous)
      (card_words k.config) k.cards cs k.sets ss → RefinesCard b k (with_cards k cs ss)
  one_refined true r = (
    r.card,
    record { same = refl; queue = r.taken.queue; logs = r.taken.logs; sets = gains r.card r.adds; cards_per_region = per_region },
  )
    where
      per_region : ss.cards_per_region ≡ k.sets.cards_per_region
      per_region =
          let card : ℕ = card_words k.config in
          let some = some_card k core in
          sym (ap (λ (n : ℕ). n / card) (sym core.layers.region_size ∙ scan.fit.whole_cards) ∙ mul-div_cancel ss.cards_per_region some)
          ∙ cards_a_region k core
  one_refined false r = (r.0, same)
    where
      same : with_cards k cs ss ≡ k
      same = rw (r.1, r.2) refl

  pub refined_from : (c : CoreState) → k ≡ c → RefinesCard result c (with_cards k cs ss)
  refined_from c e = subst (λ (d : CoreState). RefinesCard result d (with_cards k cs ss)) e (one_refined result refines)

-- x is one of the first n
pub record IsEarly (n : ℕ) (q : List ℕ) (x : ℕ) : Type 0 where
  pub place : ℕ
  pub front : place < n
  pub is : slice_get q place ≡ Some x

-- so many cards were refined
pub record RefinesSome (i : ℕ) (c0 c : CoreState) : Type 0 where
  pub same : c ≡ record c0 { cards = c.cards; sets = c.sets }
  pub few : i ≤ length c0.cards.queue
  pub queue : c.cards.queue ≡ drop i c0.cards.queue
  pub logs : c.cards.logs ≡ c0.cards.logs
  pub stays : (region card : ℕ) → covers c0.sets region card ≡ true → covers c.sets region card ≡ true
  pub only : (region card : ℕ) → covers c.sets region card ≡ true → (covers c0.sets region card ≡ true)
      ⊎ ((x : ℕ) × IsEarly i c0.cards.queue x × LeadsInto c0.table.words_per_region (kept_of c0) (card_words c0.config) x region
      × (card / c0.sets.cards_per_region ≡ x / c0.sets.cards_per_region))
  pub cards_per_region : c.sets.cards_per_region ≡ c0.sets.cards_per_region

drop_next : (q rest : List ℕ) (i card : ℕ) → drop i q ≡ card ∷ rest → (i + 1 ≤ length q) × (rest ≡ drop (i + 1) q)
drop_next [] rest zero card e = absurd (let f : [] ≡ card ∷ rest = e in cc)
drop_next [] rest (suc i) card e = absurd (let f : [] ≡ card ∷ rest = e in cc)
drop_next (x ∷ q) rest zero card e = (omega arith, sym (let same : q ≡ rest = cc in same))
drop_next (x ∷ q) rest (suc i) card e = let p = drop_next q rest i card e in
    let same : suc (i + 1) ≡ suc i + 1 = omega arith in
    (omega (arith, p.0), p.1 ∙ ap (λ (n : ℕ). drop n (x ∷ q)) same)

drop_all : (q : List ℕ) (i : ℕ) → drop i q ≡ [] → length q ≤ i
drop_all [] i e = omega arith
drop_all (x ∷ q) zero e = absurd cc
drop_all (x ∷ q) (suc i) e = omega (arith, drop_all q i e)

front_of : (q rest : List ℕ) (i card : ℕ) → drop i q ≡ card ∷ rest → slice_get q i ≡ Some card
front_of [] rest zero card e = absurd (let f : [] ≡ card ∷ rest = e in cc)
front_of [] rest (suc i) card e = absurd (let f : [] ≡ card ∷ rest = e in cc)
front_of (x ∷ q) rest zero card e = (let f : x ∷ q ≡ card ∷ rest = e in cc)
front_of (x ∷ q) rest (suc i) card e = front_of q rest i card e

one_only : (n card : ℕ) → Contains (card ∷ []) n → n ≡ card
one_only n card h = let (place, lt, is) = h in go place lt (sym is)
  where
    go : (place : ℕ) → place < 1 → n ≡ get_or (card ∷ []) place n → n ≡ card
    go zero lt is = is
    go (suc p) lt is = absurd (omega (arith, lt))

-- other cards and sets change nothing of which fields lead where
leads_same : (c : CoreState) (cs : Cards) (ss : Sets) (x region : ℕ)
    → LeadsInto c.table.words_per_region (kept_of (with_cards c cs ss)) (card_words c.config) x region
    → LeadsInto c.table.words_per_region (kept_of c) (card_words c.config) x region
unfolding kept_of
leads_same c cs ss x region l = l

pub one_more : (i : ℕ) (c0 c c' : CoreState) → RefinesSome i c0 c → RefinesCard true c c' → RefinesSome (i + 1) c0 c'
one_more i c0 c c' p (card, r) =
    let next = drop_next c0.cards.queue c'.cards.queue i card (sym p.queue ∙ r.queue) in
    let there = front_of c0.cards.queue c'.cards.queue i card (sym p.queue ∙ r.queue) in
    record {
      same = r.same ∙ ap (λ (d : CoreState). record d { cards = c'.cards; sets = c'.sets }) p.same;
      few = next.0;
      queue = next.1;
      logs = r.logs ∙ p.logs;
      stays = λ region x e. r.sets.stays region x (p.stays region x e);
      only = λ region x e. elim (r.sets.only region x e) [
        | inl was ↦ elim (p.only region x was) [
          | inl old ↦ inl old
          | inr new ↦ inr (new.0, record { place = new.1.place; front = omega (arith, new.1.front); is = new.1.is }, new.2, new.3)
        ]
        | inr new ↦
            let is : new.0 ≡ card = one_only new.0 card new.1 in
            let leads : LeadsInto c0.table.words_per_region (kept_of (with_cards c0 c.cards c.sets)) (card_words c0.config) new.0 region
            = subst (λ (d : CoreState). LeadsInto d.table.words_per_region (kept_of d) (card_words d.config) new.0 region) p.same new.2 in
            inr (
              new.0,
              record { place = i; front = omega arith; is = there ∙ ap Some (sym is) },
              leads_same c0 c.cards c.sets new.0 region leads,
              subst (λ (n : ℕ). x / n ≡ new.0 / n) p.cards_per_region new.3,
            )
      ];
      cards_per_region = r.cards_per_region ∙ p.cards_per_region;
    }

early_get : (n : ℕ) (q : List ℕ) (place x : ℕ) → place < n → slice_get q place ≡ Some x → slice_get (take n q) place ≡ Some x
early_get zero q place x lt e = absurd (omega (arith, lt))
early_get (suc n) [] place x lt e = e
early_get (suc n) (y ∷ q) zero x lt e = e
early_get (suc n) (y ∷ q) (suc place) x lt e = early_get n q place x (omega (arith, lt)) e

has_refined : (k i : ℕ) (c0 c : CoreState) → RefinesSome i c0 c → i ≡ min k (length c0.cards.queue) → HasRefined k i c0 c
has_refined k i c0 c p count = record {
  same = p.same;
  count = count;
  queue = p.queue;
  logs = p.logs;
  sets = record {
    stays = p.stays;
    only = λ region card e. elim (p.only region card e) [
      | inl was ↦ inl was
      | inr new ↦ inr (
        new.0,
        contained (take i c0.cards.queue) new.1.place new.0 (early_get i c0.cards.queue new.1.place new.0 new.1.front new.1.is),
        new.2,
        new.3,
      )
    ];
  };
}

-- the queue was empty before
pub queue_ended : (k i : ℕ) (c0 c c' : CoreState) → RefinesSome i c0 c → i ≤ k → RefinesCard false c c' → HasRefined k i c0 c'
queue_ended k i c0 c c' p le (none, same) =
    subst (λ (d : CoreState). HasRefined k i c0 d) (sym same)
    (has_refined k i c0 c p (let few = p.few in let past = drop_all c0.cards.queue i (sym p.queue ∙ none) in omega arith))

-- so many were refined
pub all_refined : (k i : ℕ) (c0 c : CoreState) → RefinesSome i c0 c → i ≤ k → k ≤ i → HasRefined k k c0 c
all_refined k i c0 c p le ge =
    let same : i ≡ k = omega (arith, le, ge) in
    subst (λ (n : ℕ). HasRefined k n c0 c) same (has_refined k i c0 c p (let few = p.few in omega (arith, few, same)))
