-- The sets of all regions, each with its filter in the table that it shares with its neighbours'.
use Rattle.std.proofs.Common.{◌≡◌, ◌≢◌, ◌*◌, ◌/◌, ◌%◌, ◌<◌, ◌≤◌, ◌∙◌, inl, inr, ℕ, Bool, true, false, eqb, ltb, length, get_or, set}
use Rattle.std.proofs.Common.{replicate, List, [], refl, sym, ap, ap₂, subst, arith, get_or-set_same, get_or-set_other, length-set, not}
use Rattle.std.proofs.Common.{if◌then◌else◌, eqb-true}
use Rattle.std.specs.Int.{div_ceil}
use Rattle.std.proofs.lemmas.Bool.{cases_eq, cases_lt}
use Rattle.std.proofs.lemmas.List.{get_or_past, get_or-replicate, length-replicate}
use Rattle.std.proofs.lemmas.List.Elements.{All-replicate}
use Rattle.std.proofs.lemmas.List.FromFn.{fill_by_all, length-map-range_with_len, get_or-map-range_with_len}
use Rattle.remembered_sets.specs.Sets.{CardFilter, CardSet, AreSets, IsSet, empty_filter, empty_sets, empty_set, no_set, set_with}
use Rattle.remembered_sets.specs.Sets.{set_covers}
use Rattle.remembered_sets.specs.Sharing.{no_filter, filter_at, filter_of, with_filter, with_filters}
use Rattle.remembered_sets.proofs.Covered.{IsSet-empty, inline_with, marked_with}

pub length-with : (tables : List (List CardFilter)) (sets : List CardSet) → length (with_filters tables sets) ≡ length sets
unfolding with_filters
length-with tables sets =
    length-map-range_with_len (λ region. with_filter (get_or sets region no_set) (filter_of tables region)) 0 (length sets)

pub with_at : (tables : List (List CardFilter)) (sets : List CardSet) (region : ℕ) → region < length sets
    → get_or (with_filters tables sets) region no_set ≡ with_filter (get_or sets region no_set) (filter_of tables region)
unfolding with_filters
with_at tables sets region h =
    get_or-map-range_with_len (λ r. with_filter (get_or sets r no_set) (filter_of tables r)) 0 (length sets) region region no_set h
    (omega arith)

-- sets that agree with these and their filters
with_is : (tables : List (List CardFilter)) (sets new : List CardSet) → length new ≡ length sets
    → ((region : ℕ) → region < length sets → get_or new region no_set ≡ with_filter (get_or sets region no_set) (filter_of tables region))
    → new ≡ with_filters tables sets
unfolding with_filters
with_is tables sets new len each =
    fill_by_all (λ r. with_filter (get_or sets r no_set) (filter_of tables r)) new (length sets) no_set len each

-- a set and its filter are put
pub with_put : (tables tables' : List (List CardFilter)) (sets : List CardSet) (region : ℕ) (s : CardSet) (f : CardFilter)
    → region < length sets → filter_of tables' region ≡ f
    → ((other : ℕ) → other ≢ region → filter_of tables' other ≡ filter_of tables other)
    → with_filters tables' (set sets region s) ≡ set (with_filters tables sets) region (with_filter s f)
with_put tables tables' sets region s f h own others =
    let new : List CardSet = set (with_filters tables sets) region (with_filter s f) in
    sym (with_is tables' (set sets region s) new
    (length-set (with_filters tables sets) region (with_filter s f) ∙ length-with tables sets ∙ sym (length-set sets region s))
    (λ k q. elim (cases_eq k region) [
      | inl same ↦
          subst (λ (r : ℕ). get_or new r no_set ≡ with_filter (get_or (set sets region s) r no_set) (filter_of tables' r)) (sym same)
          (get_or-set_same (with_filters tables sets) region (with_filter s f) no_set (omega (arith, h, length-with tables sets))
          ∙ sym (ap₂ with_filter (get_or-set_same sets region s no_set h) own))
      | inr ne ↦
          get_or-set_other (with_filters tables sets) region k (with_filter s f) no_set ne
          ∙ with_at tables sets k (omega (arith, q, length-set sets region s))
          ∙ sym (ap₂ with_filter (get_or-set_other sets region k s no_set ne) (others k ne))
    ]))

-- the filters' rows stay none
pub none_still : (tables tables' : List (List CardFilter)) (region : ℕ) → (filter_of tables' region).rows ≡ (filter_of tables region).rows
    → ((other : ℕ) → other ≢ region → filter_of tables' other ≡ filter_of tables other)
    → ((k : ℕ) → (filter_of tables k).rows ≡ 0) → (k : ℕ) → (filter_of tables' k).rows ≡ 0
none_still tables tables' region own others none k = elim (cases_eq k region) [
  | inl same ↦ ap (λ (r : ℕ). (filter_of tables' r).rows) same ∙ own ∙ none region
  | inr ne ↦ ap (λ (f : CardFilter). f.rows) (others k ne) ∙ none k
]

pub no_rows : (rows : ℕ) → not (eqb rows 0) ≡ false → rows ≡ 0
no_rows rows e = eqb-true rows 0 (go (eqb rows 0) e)
  where
    go : (b : Bool) → not b ≡ false → b ≡ true
    go true q = refl
    go false q = sym q

pub none_new : (m w rows : ℕ) → rows ≡ 0 → (k : ℕ) → (filter_of (replicate m (replicate 4 (empty_filter w rows))) k).rows ≡ 0
none_new m w rows e k =
    let four : List CardFilter = replicate 4 (empty_filter w rows) in
    elim (cases_lt (k / 4) m) [
      | inl h ↦
          ap (λ (l : List CardFilter). (filter_at l (k % 4)).rows) (get_or-replicate m (k / 4) four [] h)
          ∙ ap (λ (f : CardFilter). f.rows) (get_or-replicate 4 (k % 4) (empty_filter w rows) no_filter (omega arith)) ∙ e
      | inr past ↦
          ap (λ (l : List CardFilter). (filter_at l (k % 4)).rows)
          (get_or_past (replicate m four) (k / 4) [] (omega (arith, past, length-replicate m four)))
    ]

pub in_fours : (n : ℕ) → n ≤ 4 * div_ceil n 4
in_fours n = omega arith

pub with_new : (n m w rows : ℕ) → n ≤ 4 * m
    → with_filters (replicate m (replicate 4 (empty_filter w rows))) (replicate n (empty_set n 0 0)) ≡ replicate n (empty_set n w rows)
with_new n m w rows enough =
    let four : List CardFilter = replicate 4 (empty_filter w rows) in
    sym (with_is (replicate m four) (replicate n (empty_set n 0 0)) (replicate n (empty_set n w rows))
    (length-replicate n (empty_set n w rows) ∙ sym (length-replicate n (empty_set n 0 0)))
    (λ k q.
    let h : k < n = omega (arith, q, length-replicate n (empty_set n 0 0)) in
    get_or-replicate n k (empty_set n w rows) no_set h
    ∙ sym (ap₂ with_filter (get_or-replicate n k (empty_set n 0 0) no_set h)
    (ap (λ (l : List CardFilter). filter_at l (k % 4)) (get_or-replicate m (k / 4) four [] (omega (arith, h, enough)))
    ∙ get_or-replicate 4 (k % 4) (empty_filter w rows) no_filter (omega arith)))))

pub AreSets-empty : (n w rows : ℕ) → 0 < w → (0 < rows → w % 64 ≡ 0) → AreSets (empty_sets n w rows)
AreSets-empty n w rows some whole =
    let count : length (replicate n (empty_set n w rows)) ≡ n = length-replicate n (empty_set n w rows) in
    record {
      some_cards = some;
      each = All-replicate (IsSet (length (replicate n (empty_set n w rows))) w) n (empty_set n w rows)
          (subst (λ (m : ℕ). IsSet m w (empty_set n w rows)) (sym count) (IsSet-empty n w rows whole));
      each_card = length-replicate (n * w) false ∙ ap (λ (m : ℕ). m * w) (sym count);
    }

-- a card is added to a set as to the set with its filter
pub with_card : (s : CardSet) (f : CardFilter) (card source : ℕ)
    → with_filter (set_with s card source) f ≡ set_with (with_filter s f) card source
with_card s f card source =
    elim (set_covers s card source) as (λ b.
    with_filter (if b then s else if ltb (length s.inline) 16 then inline_with s card else marked_with s source) f
    ≡ (if b then with_filter s f
    else if ltb (length s.inline) 16 then inline_with (with_filter s f) card else marked_with (with_filter s f) source)) [
      | true ↦ refl
      | false ↦ elim (ltb (length s.inline) 16) as (λ b. with_filter (if b then inline_with s card else marked_with s source) f
          ≡ (if b then inline_with (with_filter s f) card else marked_with (with_filter s f) source)) [ true ↦ refl | false ↦ refl ]
    ]
