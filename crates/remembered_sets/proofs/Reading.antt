-- A region's set and its filter as they are read, and put back.
use Rattle.std.proofs.Common.{◌≡◌, ◌*◌, ◌/◌, ◌%◌, ◌<◌, ◌≤◌, ◌∙◌, ℕ, Bool, true, length, get_or, set, List, [], sym, ap, ap₂, subst, arith}
use Rattle.std.proofs.Common.{◌≢◌, length-set, ◌&&◌}
use Rattle.std.proofs.lemmas.List.{get_or_read}
use Rattle.bit_sets.specs.Bits.{has}
use Rattle.remembered_sets.specs.Sets.{CardFilter, CardSet, Sets, AreSets, IsFilter, IsSet, no_set, emptied, emptied_filter, filter_with}
use Rattle.remembered_sets.specs.Sets.{set_of, set_with, set_after, set_covers, set_leads, lets_through, may_lead, added, cleared}
use Rattle.remembered_sets.specs.Sets.{without_region}
use Rattle.remembered_sets.specs.Sharing.{filter_at, filter_of, with_filter, with_filters}
use Rattle.remembered_sets.specs.Inside.{sets_of, IsSetTable}
use Rattle.remembered_sets.specs.declared.sets.RememberedSets.TheInside.{Inside}
use Rattle.remembered_sets.proofs.Kept.{length-with, with_at, with_card, with_put}

-- the value of all that is kept
abbrev pub kept_sets : List (List CardFilter) → List CardSet → ℕ → List Bool → Sets
kept_sets tables sets w entered = record { sets = with_filters tables sets; cards_per_region = w; entered = entered }

module _ (k : Inside) (v : Sets) (view : sets_of k ≡ v) where
  count_is : length v.sets ≡ length k.sets.items
  count_is = ap (λ (x : Sets). length x.sets) (sym view) ∙ length-with k.filters.items k.sets.items

  pub known_set : (region : ℕ) → region < length v.sets → region < length k.sets.items
  known_set region h = omega (arith, h, count_is)

  pub known_table : IsSetTable k → (region : ℕ) → region < length v.sets → region / 4 < length k.filters.items
  known_table sound region h = let enough = sound.tables in omega (arith, h, count_is, enough)

  -- a set that was read
  pub set_read : (region number : ℕ) (s : CardSet) → region < length v.sets → number ≡ region → s ≡ get_or k.sets.items number s
      → set_of v region ≡ with_filter s (filter_of k.filters.items region)
  set_read region number s h e read =
      let known : region < length k.sets.items = known_set region h in
      let read' : s ≡ get_or k.sets.items region s = read ∙ ap (λ (i : ℕ). get_or k.sets.items i s) e in
      ap (λ (x : Sets). set_of x region) (sym view) ∙ with_at k.filters.items k.sets.items region known
      ∙ ap (λ (x : CardSet). with_filter x (filter_of k.filters.items region)) (sym (get_or_read k.sets.items region s known read' no_set))

  -- the filter of a table that was read
  pub table_is : IsSetTable k → (region number : ℕ) (t : List CardFilter) → region < length v.sets → number ≡ region
      → t ≡ get_or k.filters.items (number / 4) t → filter_at t (number % 4) ≡ filter_of k.filters.items region
  table_is sound region number t h e read =
      let read' : t ≡ get_or k.filters.items (region / 4) t = read ∙ ap (λ (i : ℕ). get_or k.filters.items (i / 4) t) e in
      ap (λ (i : ℕ). filter_at t (i % 4)) e
      ∙ ap (λ (l : List CardFilter). filter_at l (region % 4))
      (get_or_read k.filters.items (region / 4) t (known_table sound region h) read' [])

  pub filter_stands : IsSetTable k → (region : ℕ) → region < length v.sets → IsFilter k.cards_per_region (filter_of k.filters.items region)
  filter_stands sound region h =
      let known : region < length k.sets.items = known_set region h in
      let n : ℕ = length (with_filters k.filters.items k.sets.items) in
      let each : IsSet n k.cards_per_region (with_filter (get_or k.sets.items region no_set) (filter_of k.filters.items region)) =
      subst (IsSet n k.cards_per_region) (with_at k.filters.items k.sets.items region known)
      (sound.all.each region no_set (omega (arith, known, length-with k.filters.items k.sets.items))) in
      each.filter

-- a set that was read
pub record IsRead (k : Inside) (v : Sets) (region number : ℕ) (s : CardSet) : Type 0 where
  pub view : sets_of k ≡ v
  pub sound : IsSetTable k
  pub known : region < length v.sets
  pub number_is : number ≡ region
  pub read : s ≡ get_or k.sets.items number s

pub reading : {k : Inside} {v : Sets} {region number : ℕ} {s : CardSet} → sets_of k ≡ v → IsSetTable k → region < length v.sets
    → number ≡ region → s ≡ get_or k.sets.items number s → IsRead k v region number s
reading view sound known number_is read = record { view = view; sound = sound; known = known; number_is = number_is; read = read }

module _ {k : Inside} {v : Sets} {region number : ℕ} {s : CardSet} (is : IsRead k v region number s) where
  abbrev f : CardFilter
  f = filter_of k.filters.items region

  pub all_are : AreSets v
  all_are = subst AreSets is.view is.sound.all

  pub set_is : set_of v region ≡ with_filter s f
  set_is = set_read k v is.view region number s is.known is.number_is is.read

  pub is_set : IsSet (length v.sets) v.cards_per_region (with_filter s f)
  is_set = subst (IsSet (length v.sets) v.cards_per_region) set_is (all_are.each region no_set is.known)

  -- whether a card may lead into the region
  pub leads_is : (card : ℕ) (t : List CardFilter) → t ≡ get_or k.filters.items (number / 4) t
      → (set_covers s card (card / k.cards_per_region)
      && (has k.entered card && lets_through (filter_at t (number % 4)) k.cards_per_region card)) ≡ may_lead v region card
  leads_is card t read =
      ap (λ (g : CardFilter). set_leads (with_filter s g) k.cards_per_region (has k.entered card) card)
      (table_is k v is.view is.sound region number t is.known is.number_is read)
      ∙ ap (λ (x : CardSet). set_leads x k.cards_per_region (has k.entered card) card) (sym set_is)
      ∙ ap (λ (x : Sets). set_leads (set_of v region) x.cards_per_region (has x.entered card) card) is.view

  -- another set and another filter are put
  put_is : (tables' : List (List CardFilter)) (s' : CardSet) (f' : CardFilter) (entered' : List Bool) → filter_of tables' number ≡ f'
      → ((other : ℕ) → other ≢ number → filter_of tables' other ≡ filter_of k.filters.items other)
      → kept_sets tables' (set k.sets.items number s') k.cards_per_region entered'
      ≡ record { sets = set v.sets number (with_filter s' f'); cards_per_region = v.cards_per_region; entered = entered' }
  put_is tables' s' f' entered' own others =
      let known : number < length k.sets.items = (let h = known_set k v is.view region is.known in omega (arith, h, is.number_is)) in
      ap (λ (l : List CardSet). record { sets = l; cards_per_region = k.cards_per_region; entered = entered' })
      (with_put k.filters.items tables' k.sets.items number s' f' known own others)
      ∙ ap (λ (x : Sets). record {
        sets = set x.sets number (with_filter s' f');
        cards_per_region = x.cards_per_region;
        entered = entered';
      }) is.view

  pub put_tables : (tables' : List (List CardFilter)) (s' : CardSet) → length tables' ≡ length k.filters.items
      → length (set k.sets.items number s') ≤ 4 * length tables'
  put_tables tables' s' same = let enough = is.sound.tables in omega (arith, enough, same, length-set k.sets.items number s')

  pub added_is : (tables' : List (List CardFilter)) (card source : ℕ) (entered' : List Bool)
      → filter_of tables' number ≡ filter_with (filter_of k.filters.items number) k.cards_per_region card
      → ((other : ℕ) → other ≢ number → filter_of tables' other ≡ filter_of k.filters.items other) → source ≡ card / v.cards_per_region
      → entered' ≡ set v.entered card true
      → kept_sets tables' (set k.sets.items number (set_with s card source)) k.cards_per_region entered' ≡ added v region card
  added_is tables' card source entered' own others lies enters =
      let w : ℕ = v.cards_per_region in
      put_is tables' (set_with s card source) (filter_with (filter_of k.filters.items number) k.cards_per_region card) entered' own others
      ∙ ap₂ (λ (i n : ℕ). record {
        sets = set v.sets i (with_filter (set_with s card source) (filter_with (filter_of k.filters.items i) n card));
        cards_per_region = w;
        entered = entered';
      }) is.number_is (ap (λ (x : Sets). x.cards_per_region) is.view)
      ∙ ap₂ (λ (x : CardSet) (l : List Bool). record { sets = set v.sets region x; cards_per_region = w; entered = l })
      (with_card s (filter_with f w card) card source
      ∙ ap (λ (i : ℕ). set_with (with_filter s (filter_with f w card)) card i) lies
      ∙ ap (λ (x : CardSet). set_after x w card) (sym set_is))
      enters

  pub cleared_is : (tables' : List (List CardFilter)) (entered' : List Bool)
      → filter_of tables' number ≡ emptied_filter (filter_of k.filters.items number)
      → ((other : ℕ) → other ≢ number → filter_of tables' other ≡ filter_of k.filters.items other)
      → entered' ≡ without_region v.cards_per_region region v.entered
      → kept_sets tables' (set k.sets.items number (emptied s)) k.cards_per_region entered' ≡ cleared v region
  cleared_is tables' entered' own others leaves =
      let w : ℕ = v.cards_per_region in
      put_is tables' (emptied s) (emptied_filter (filter_of k.filters.items number)) entered' own others
      ∙ ap (λ (i : ℕ). record {
        sets = set v.sets i (with_filter (emptied s) (emptied_filter (filter_of k.filters.items i)));
        cards_per_region = w;
        entered = entered';
      }) is.number_is
      ∙ ap₂ (λ (x : CardSet) (l : List Bool). record { sets = set v.sets region (emptied x); cards_per_region = w; entered = l })
      (sym set_is) leaves
