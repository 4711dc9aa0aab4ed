-- What a pause asks, from what the heap is before it.
use Rattle.std.proofs.Common.{◌≡◌, ◌≢◌, ◌+◌, ◌*◌, ◌/◌, ◌<◌, ◌≤◌, ◌^◌, ◌∷◌, ◌∙◌, ℕ, suc, zero, Bool, true, false, List, [], Option, Some}
use Rattle.std.proofs.Common.{None, length, get_or, refl, sym, ap, subst, inl, inr, arith, slice_get, count_by, ◌||◌, ◌==◌}
use Rattle.std.specs.List.{list_any}
use Rattle.std.proofs.lemmas.Bool.{cases_lt, cases_Bool}
use Rattle.std.proofs.lemmas.Bool.Decides.{eqb_tells}
use Rattle.std.proofs.lemmas.List.Sums.{count_by-le-length}
use Rattle.std.proofs.lemmas.List.Recursion.{is_sum_by}
use Rattle.std.proofs.lemmas.Nat.{mul-le}
use Rattle.heap_model.specs.Heap.{Stored, fields}
use Rattle.regions.specs.Table.{Table, is_free, kind_of, object_at, stored_size}
use Rattle.regions.specs.Shaped.{IsShaped}
use Rattle.regions.specs.declared.row.Kind.TheVariants as kinds
use Rattle.mark_bitmap.specs.Kept.{kept_in}
use Rattle.mark_bitmap.specs.Tops.{Tops}
use Rattle.mark_bitmap.specs.Live.{kept_words}
use Rattle.mark_bitmap.proofs.LiveBounds as live
use Rattle.region_choice.specs.Choice.{live_sum}
use Rattle.region_choice.specs.declared.LiveRow.{LiveRow}
use Rattle.regions.specs.Walks.{IsHolder}
use Rattle.remembered_sets.specs.Sets.{Sets, card_count, may_lead}
use Rattle.refinement.specs.Remembering.{IsCrossing, field_word}
use Rattle.regions.proofs.Words.Divides.{card_has_words, card_region, div_is, div_low, div_high}
use Rattle.regions.proofs.Tiles.Holders.{holder_start}
use Rattle.refinement.proofs.Holders.{word_holder}
use Rattle.object_copy.specs.Copies.{no_destinations}
use Rattle.evacuation.specs.Evacuates.{Layers, CanEvacuate, IsLiveRow, is_chosen, stored_words}
use Rattle.evacuation.specs.Space.{AllVisited, flag}
use Rattle.evacuation.specs.Turns.{Pause, IsPause, IsTurn, PauseStands, AreVisited, kept_now, layout, left_words, plan}
use Rattle.evacuation.specs.declared.room.Context.{Context}
use Rattle.evacuation.proofs.Turns.KeptObjects.{kept_object}
use Rattle.evacuation.proofs.Lists.{get_below}
use Rattle.evacuation.proofs.WholePause.Beginning.{no_tile, start_turn}
use Rattle.evacuation.proofs.Copies.LeftWords.{left_window, words_from, left_two, left_zero}

-- live bounds, added up row by row
abbrev bounds : List LiveRow → ℕ
bounds [] = 0
bounds (r ∷ rows) = r.live_bound + bounds rows

bounds_step : (r : LiveRow) (rows : List LiveRow) → bounds (r ∷ rows) ≡ r.live_bound + bounds rows
bounds_step r rows = refl

sizes_same : (o : Option Stored) → stored_size o ≡ stored_words o
sizes_same None = refl
sizes_same (Some x) = refl

words_same : (t : Table) (tops : Tops) (previous : List Bool) (a n : ℕ)
    → words_from (kept_in t tops previous) a n ≡ kept_words t tops previous a n
words_same t tops previous a zero = refl
words_same t tops previous a (suc n) =
    let e = words_same t tops previous (suc a) n in
    let s = sizes_same (kept_in t tops previous a) in
    omega arith

left_rows : (kept : ℕ → Option Stored) (words n : ℕ) (rows : List LiveRow) → 0 < words
    → ((i : ℕ) (r : LiveRow) → slice_get rows i ≡ Some r → words_from kept (r.region * words) words ≤ r.live_bound)
    → left_words kept (λ a. is_chosen rows (a / words)) n ≤ bounds rows
left_rows kept words n [] z f = let e = left_zero kept (λ a. is_chosen [] (a / words)) n (λ a. refl) in omega arith
left_rows kept words n (r ∷ rows) z f =
    let e = left_rows kept words n rows z (λ i s q. f (suc i) s q) in
    let w = left_window kept words (r.region * words) n (λ a. r.region == a / words) (λ a q. inside a q) in
    let u = left_two kept (λ a. r.region == a / words) (λ a. is_chosen rows (a / words)) n in
    let b = f 0 r refl in
    omega arith
  where
    inside : (a : ℕ) → (r.region == a / words) ≡ true → (r.region * words ≤ a) × (a < r.region * words + words)
    inside a q = elim (eqb_tells r.region (a / words)) [
      | inl e ↦ (div_low a words r.region z (sym e.1), div_high a words r.region z (sym e.1))
      | inr e ↦ absurd (let g = e.0 in cc)
    ]

kept_now_is : (p : Pause) → kept_now p p.start ≡ kept_in p.start p.tams p.previous
unfolding kept_now
kept_now_is p = refl

pub get_is : (xs : List LiveRow) (i : ℕ) (x : LiveRow) → slice_get xs i ≡ Some x → (i < length xs) × (get_or xs i x ≡ x)
get_is [] i x e = absurd cc
get_is (y ∷ xs) zero x e = (omega arith, cc)
get_is (y ∷ xs) (suc i) x e = let (a, b) = get_is xs i x e in (omega arith, b)

pub found : (xs : List LiveRow) (k : ℕ) → is_chosen xs k ≡ true → (i : ℕ) × (x : LiveRow) × (slice_get xs i ≡ Some x) × (x.region ≡ k)
found [] k q = absurd cc
found (x ∷ xs) k q = elim (eqb_tells x.region k) [
  | inl f ↦ (0, x, refl, f.1)
  | inr f ↦ (let q' : is_chosen xs k ≡ true = rw f.0 at q in let (i, y, g, h) = found xs k q' in (suc i, y, g, h))
]

any_of : (f : LiveRow → Bool) (xs : List LiveRow) (i : ℕ) (x : LiveRow) → slice_get xs i ≡ Some x → f x ≡ true → list_any f xs ≡ true
any_of f [] i x e g = absurd cc
any_of f (y ∷ xs) zero x e g = let same : y ≡ x = cc in rw (ap f same ∙ g) refl
any_of f (y ∷ xs) (suc i) x e g = go (f y) (any_of f xs i x e g)
  where
    go : (b : Bool) → list_any f xs ≡ true → (b || list_any f xs) ≡ true
    go true q = refl
    go false q = q

module _ (h : Layers) (rows : List LiveRow) (cw : ℕ) (can : CanEvacuate h rows cw) (shaped : IsShaped h.table) (flags : List Bool)
    (flags_are : (k : ℕ) → flag flags k ≡ is_chosen rows k) (len : length flags ≡ length h.table.regions) where
  abbrev pub words : ℕ
  words = h.table.words_per_region

  abbrev pub kept : ℕ → Option Stored
  kept = kept_in h.table h.tams h.previous

  abbrev pub pause : Pause
  pause = record {
    start = h.table;
    tams = h.tams;
    previous = h.previous;
    roots = h.roots;
    chosen = flags;
    card_words = cw;
    cards_per_region = words / cw;
    limit = left_words kept (λ b. flag flags (b / words)) (length h.table.regions * words);
  }

  pub has_words : 0 < cw
  has_words = card_has_words cw words h.sets.cards_per_region shaped.positive can.fit.whole_cards

  pub per_region : words / cw ≡ h.sets.cards_per_region
  per_region = let e = can.fit.whole_cards in div_is words cw h.sets.cards_per_region (omega arith) (let z = has_words in omega arith)

  row_of : (k : ℕ) → flag flags k ≡ true → (i : ℕ) × (row : LiveRow) × (slice_get rows i ≡ Some row) × (row.region ≡ k) × IsLiveRow h row
  row_of k e =
      let (i, row, f, g) = found rows k (sym (flags_are k) ∙ e) in
      let (lt, is) = get_is rows i row f in
      (i, row, f, g, subst (IsLiveRow h) is (can.each_row i row lt))

  pub ordinary : (k : ℕ) → flag flags k ≡ true → kind_of h.table k ≡ kinds.Ordinary
  ordinary k e = let (i, row, f, g, r) = row_of k e in ap (kind_of h.table) (sym g) ∙ r.ordinary

  object : (a : ℕ) (x : Stored) → kept a ≡ Some x → object_at h.table a ≡ Some x
  object a x e = kept_object pause h.table a x (ap (λ (f : ℕ → Option Stored). f a) (kept_now_is pause) ∙ e)

  pub within_bounds : left_words kept (λ b. flag flags (b / words)) (length h.table.regions * words) ≤ live_sum rows
  within_bounds =
      let same = ap (λ (f : ℕ → Bool). left_words kept f (length h.table.regions * words)) (λ i b. flags_are (b / words) i) in
      let sum = is_sum_by bounds (λ (r : LiveRow). r.live_bound) refl bounds_step rows in
      let l = left_rows kept words (length h.table.regions * words) rows shaped.positive (λ i r e.
      let (lt, is) = get_is rows i r e in
      let row = subst (IsLiveRow h) is (can.each_row i r lt) in
      let a = live.kept_le h.table h.tams h.previous r.region shaped can.previous row.known row.ordinary in
      let b = words_same h.table h.tams h.previous (r.region * words) words in
      let c = row.live_bound in
      omega (arith, a, b, c)) in
      omega (arith, same, sum, l)

  pub small_limit : left_words kept (λ b. flag flags (b / words)) (length h.table.regions * words) < 2 ^ 32
  small_limit =
      let w = within_bounds in
      let r = can.room in
      let c = count_by-le-length is_free h.table.regions in
      let m = mul-le (count_by is_free h.table.regions) words (length h.table.regions) words c (omega arith) in
      let s = shaped.in_all in
      omega (arith, w, r, m, s)

  pub is_pause : IsPause pause
  is_pause = record {
    shaped = shaped;
    unmoved = can.unmoved;
    plan_is = record {
      closed = can.closed;
      small = λ a x e i. can.halves a x (object a x e) (ordinary (a / words) i);
      limit = small_limit;
    };
    each_region = len;
    whole_cards = can.fit.whole_cards ∙ ap (λ (n : ℕ). n * cw) (sym per_region);
    previous_stands = can.previous;
    ordinary = ordinary;
  }

  start_is : (n : ℕ) → n ≡ length h.table.regions → IsTurn pause h.table (no_destinations n)
  start_is n e = start_turn pause is_pause
      (let w = within_bounds in let r = can.room in let s = kept_now_is pause in rw s (omega (arith, w, r)))
      (let s = kept_now_is pause in rw s (omega arith)) n e

  cards_are : (n : ℕ) → n ≡ card_count h.sets → n ≡ length h.table.regions * (words / cw)
  cards_are n e =
      e ∙ ap (λ (m : ℕ). m * h.sets.cards_per_region) can.fit.each_region ∙ ap (λ (m : ℕ). length h.table.regions * m) (sym per_region)

  -- it stands where there is no destination yet
  pub stands : (n : ℕ) (c : Context) → c.destinations ≡ no_destinations n → n ≡ length h.table.regions → c.chosen.items ≡ flags
      → c.card_words ≡ cw → length c.noted.cards ≡ card_count h.sets → c.noted.sets ≡ h.sets → PauseStands pause h.table c
  stands n c none room set card each sets = record {
    premises = is_pause;
    turn = subst (IsTurn pause h.table) (sym none) (start_is n room);
    flags = set;
    card = card;
    notes = record {
      each_card = cards_are (length c.noted.cards) each;
      each_set = ap (λ (s : Sets). length s.sets) sets ∙ can.fit.each_region;
      set_cards = ap (λ (s : Sets). s.cards_per_region) sets ∙ sym per_region;
    };
  }

  apart : (c w : ℕ) → IsHolder h.table c w → flag flags (c / words) ≡ false → flag flags (w / words) ≡ true → ⊥
  apart c w holder out' in' =
      let s = holder_start h.table c w shaped holder in
      let o = ordinary (w / words) in' in
      elim (cases_lt (c / words) (w / words)) [
        | inl lt ↦ (let r = s.run.rest (w / words) lt (omega arith) in let n : kinds.Ordinary ≡ kinds.Rest = sym o ∙ r in absurd cc)
        | inr ge ↦ (let low = s.run.below in let same : c / words ≡ w / words = omega arith in let f = ap (flag flags) same in absurd cc)
      ]

  -- a field of an object outside the set lies outside of it too
  pub field_outside : (b i : ℕ) (x : Stored) (v : Option ℕ) → kept b ≡ Some x
      → slice_get (fields x) i ≡ Some v → flag flags (b / words) ≡ false
      → flag flags (field_word b i / words) ≡ false
  field_outside b i x v at e out =
      let holder = word_holder h.table b i x shaped (object b x at) (get_below (fields x) i v e) in
      elim (cases_Bool (flag flags (field_word b i / words))) [ inl q ↦ absurd (apart b (field_word b i) holder out q) | inr q ↦ q ]

  module _ (visited : List Bool)
      (marked : (card : ℕ) → kind_of h.table (card * cw / words) ≢ kinds.Free
      → flag visited card ≡ list_any (λ row. may_lead h.sets row.region card) rows) where
    all_visited : AllVisited (layout pause) (plan pause) visited
    all_visited b i a x at out e inside =
        let holder = word_holder h.table b i x shaped (object b x at) (get_below (fields x) i (Some a) e) in
        let leaves : a / words ≢ field_word b i / words =
        λ same. apart b (field_word b i) holder out (ap (flag flags) (sym same) ∙ inside) in
        let crossing : IsCrossing words kept b i a = record { object = x; kept_is = at; field_is = e; leaves = leaves } in
        let (j, row, f, g, r) = row_of (a / words) inside in
        let same_region =
        card_region (field_word b i) cw words h.sets.cards_per_region (field_word b i / cw) shaped.positive can.fit.whole_cards refl in
        let in_use : kind_of h.table (field_word b i / cw * cw / words) ≢ kinds.Free =
        λ f. used b (field_word b i) holder (ap (kind_of h.table) same_region ∙ f) in
        marked (field_word b i / cw) in_use ∙ any_of (λ r'. may_lead h.sets r'.region (field_word b i / cw)) rows j row f
        (elim (can.remembers.each b i a crossing) [
          | inl d ↦ absurd (let c = can.clean (field_word b i / cw) in cc)
          | inr d ↦ ap (λ (k : ℕ). may_lead h.sets k (field_word b i / cw)) g ∙ d
        ])
      where
        used : (c w : ℕ) → IsHolder h.table c w → kind_of h.table (w / words) ≡ kinds.Free → ⊥
        used c w holder f =
            let s = holder_start h.table c w shaped holder in
            elim (cases_lt (c / words) (w / words)) [
              | inl lt ↦ (let r = s.run.rest (w / words) lt (omega arith) in let n : kinds.Free ≡ kinds.Rest = sym f ∙ r in absurd cc)
              | inr ge ↦ (let low = s.run.below in
                  let same : c / words ≡ w / words = omega arith in
                  let g = no_tile h.table c (ap (kind_of h.table) same ∙ f) in
                  let e = holder.tile_is in
                  absurd cc)
            ]

    pub visits_all : length visited ≡ card_count h.sets → AreVisited pause visited
    visits_all each = record { each_card = cards_are (length visited) each; all = all_visited }
