-- After a pause live words are exact where they were, and what is kept was.
use Rattle.std.proofs.Common.{◌≡◌, ◌+◌, ◌-◌, ◌*◌, ◌/◌, ◌%◌, ◌<◌, ◌≤◌, ◌⊎◌, ◌∷◌, ◌∙◌, ℕ, suc, zero, Bool, true, false, List, [], Option}
use Rattle.std.proofs.Common.{Some, None, length, get_or, inl, inr, refl, sym, ap, subst, arith, if◌then◌else◌, nat_lt}
use Rattle.std.proofs.lemmas.Bool.{cases_Bool, le-ltb}
use Rattle.heap_model.specs.Graph.{Graph, IsReachable}
use Rattle.heap_model.specs.Heap.{Stored}
use Rattle.regions.specs.Tiles.{Tile, Object, tile_size, tile_at, total_size}
use Rattle.regions.specs.Table.{Table, Region, Free, Ordinary, kind_of, top_of, used_of, nth_region, region_kind}
use Rattle.regions.specs.Table.{region_at, region_tile, region_used}
use Rattle.regions.specs.Table.{tile_in, tile_object, object_at, object_words, stored_size}
use Rattle.regions.specs.Shaped.{IsShaped}
use Rattle.regions.specs.Walks.{AllPositive, region_tiles, tiles_of}
use Rattle.regions.specs.declared.row.Kind.{Kind}
use Rattle.regions.specs.declared.row.Kind.TheVariants as kinds
use Rattle.regions.proofs.Tiles.Placing.{tile_at-back}
use Rattle.regions.proofs.Words.Parse.{past}
use Rattle.mark_bitmap.specs.Marks.{is_marked}
use Rattle.mark_bitmap.specs.Tops.{Tops, is_below, below_previous}
use Rattle.mark_bitmap.specs.Kept.{kept_in}
use Rattle.mark_bitmap.specs.Live.{live_bound_of, kept_words, marked_words}
use Rattle.mark_bitmap.proofs.Ranges.{div_is}
use Rattle.mark_bitmap.proofs.LiveWords.{same_words, used_le}
use Rattle.marker.specs.declared.marker.Marker.{Marker}
use Rattle.heap_steps.specs.Actors.{is_third}
use Rattle.evacuation.specs.Evacuates.{HasEvacuated, is_chosen, set_in}
use Rattle.evacuation.proofs.Turns.KeptObjects.{free_used}
use Rattle.step_core.specs.Stands.{CoreState, IsCore, kept_of}
use Rattle.step_core.specs.declared.candidates.Choice.{Choice}
use Rattle.step_core.specs.Pause.{HasMoved, layers_of}
use Rattle.heap_words.specs.Configs.{card_words}
use Rattle.alloc_buffers.specs.Placement.{closed}
use Rattle.cards.specs.Cards.{clean_cards}
use Rattle.region_choice.specs.declared.LiveRow.{LiveRow}
use Rattle.collection.specs.Space.{IsExact}
use Rattle.collection.proofs.Names.{total, total_same, total_kept, total_split}
use Rattle.collection.proofs.Exact.{ordinary_known}

-- ---- the words of a list of objects
next_tile : (t : Tile) (ts : List Tile) (o : ℕ) → 0 < tile_size t → tile_at (tile_size t + o) (t ∷ ts) ≡ tile_at o ts
next_tile t ts o z =
    let e : tile_size t + o - (tile_size t + 0) ≡ o = omega arith in
    tile_at-back (t ∷ []) ts (tile_size t + o) (z, tt) (omega arith) ∙ ap (λ (m : ℕ). tile_at m ts) e

total_shift : (f : ℕ → Option Stored) (s n a b : ℕ) → b ≡ s + a → total (λ o. f (s + o)) a n ≡ total f b n
total_shift f s zero a b e = refl
total_shift f s (suc n) a b e =
    let h : stored_size (f (s + a)) ≡ stored_size (f b) = ap (λ (m : ℕ). stored_size (f m)) (sym e) in
    let r = total_shift f s n (suc a) (suc b) (omega (arith, e)) in
    omega (arith, h, r)

total_first : (f : ℕ → Option Stored) (n a : ℕ) → 0 < n → stored_size (f a) ≤ total f a n
total_first f zero a z = absurd (omega arith)
total_first f (suc n) a z = omega arith

abbrev AreObjects : List Tile → Type 0
AreObjects ts = (o : ℕ) (u : Tile) → tile_at o ts ≡ Some u → (x : Stored) × (u ≡ Object x)

objects_total : (ts : List Tile) → AllPositive ts → AreObjects ts → (n : ℕ) → total_size ts ≤ n
    → total_size ts ≤ total (λ o. tile_object (tile_at o ts)) 0 n
objects_total [] z all n h = omega arith
objects_total (t ∷ ts) z all n h =
    let (x, is) = all 0 t refl in
    let one = z.0 in
    let rest = objects_total ts z.1 (λ o u e. all (tile_size t + o) u (next_tile t ts o z.0 ∙ e)) (n - tile_size t) (omega (arith, h)) in
    let first = total_first (λ o. tile_object (tile_at o (t ∷ ts))) (tile_size t) 0 one in
    let size : stored_size (tile_object (Some t)) ≡ tile_size t = rw is refl in
    let split = total_split (λ o. tile_object (tile_at o (t ∷ ts))) (tile_size t) (n - tile_size t) n 0 (tile_size t)
    (omega (arith, h)) (omega arith) in
    let shift = total_shift (λ o. tile_object (tile_at o (t ∷ ts))) (tile_size t) (n - tile_size t) 0 (tile_size t) (omega arith) in
    let same = total_same (λ o. tile_object (tile_at (tile_size t + o) (t ∷ ts))) (λ o. tile_object (tile_at o ts)) (n - tile_size t) 0
    (λ o l u. ap tile_object (next_tile t ts o z.0)) in
    omega (arith, rest, first, size, split, shift, same)

tile_here : (t : Table) (k o x : ℕ) (ts : List Tile) → nth_region t k ≡ Ordinary ts → o < t.words_per_region
    → k * t.words_per_region + o ≡ x → tile_in t x ≡ tile_at o ts
unfolding tile_in region_at nth_region
tile_here t k o x ts is less at =
    let words : ℕ = t.words_per_region in
    let row : x / words ≡ k = div_is x words k (omega (arith, at)) (omega (arith, at, less)) in
    let whole : x / words * words + x % words ≡ x = omega (arith, less) in
    let same : x / words * words ≡ k * words = ap (λ (n : ℕ). n * words) row in
    let place : x % words ≡ o = omega (arith, whole, same, at) in
    ap (λ (n : ℕ). region_tile (get_or t.regions n Free) (x % words)) row
    ∙ ap (λ (r : Region). region_tile r (x % words)) is ∙ ap (λ (n : ℕ). tile_at n ts) place

tile_low : (ts : List Tile) → AllPositive ts → (p : ℕ) (u : Tile) → tile_at p ts ≡ Some u → p < total_size ts
tile_low [] z p u g = absurd (let h = g in cc)
tile_low (t ∷ ts) z zero u g = let a = z.0 in omega arith
tile_low (t ∷ ts) z (suc p) u g =
    let b = past (tile_size t) (suc p) _ u g in
    let r = tile_low ts z.1 (suc p - tile_size t) u b.1 in
    omega (arith, b.0, r)

-- an ordinary region of objects alone has as many words as they
filled_region : (t : Table) (k : ℕ) → IsShaped t → kind_of t k ≡ kinds.Ordinary
    → ((a : ℕ) (u : Tile) → k * t.words_per_region ≤ a → a < k * t.words_per_region + t.words_per_region → tile_in t a ≡ Some u
    → (x : Stored) × (u ≡ Object x)) → used_of t k ≤ total (object_at t) (k * t.words_per_region) t.words_per_region
unfolding kind_of used_of tiles_of object_at
filled_region t k shape o all = go (nth_region t k) refl o
  where
    go : (r : Region) → nth_region t k ≡ r → region_kind r ≡ kinds.Ordinary
        → region_used t.words_per_region (nth_region t k) ≤ total (object_at t) (k * t.words_per_region) t.words_per_region
    go (Ordinary ts) e f =
        let words : ℕ = t.words_per_region in
        let fit = shape.fitting k in
        let small = fit.fits (ap region_kind e) in
        let same : total_size (region_tiles (nth_region t k)) ≡ total_size ts = ap (λ (r : Region). total_size (region_tiles r)) e in
        let positive : AllPositive ts = subst (λ (r : Region). AllPositive (region_tiles r)) e fit.positive in
        let are : AreObjects ts = λ p u g. (let l = tile_low ts positive p u g in
        all (k * words + p) u (omega arith) (omega (arith, l, small, same)) (tile_here t k p (k * words + p) ts e (omega
        (arith, l, small, same)) refl ∙ g)) in
        let a = objects_total ts positive are words (omega (arith, small, same)) in
        let b = total_shift (object_at t) (k * words) words 0 (k * words) (omega arith) in
        let d = total_same (λ p. object_at t (k * words + p)) (λ p. tile_object (tile_at p ts)) words 0
        (λ p l u. ap tile_object (tile_here t k p (k * words + p) ts e (omega (arith, u)) refl)) in
        let used : region_used words (nth_region t k) ≡ total_size ts = ap (region_used words) e in
        omega (arith, a, b, d, used)
    go _ e f = absurd (let g = f in cc)

-- ---- a region that stays
same_live : (t t' : Table) (tops tops' : List ℕ) (marks marks' : List Bool) (k : ℕ) → t'.words_per_region ≡ t.words_per_region
    → top_of t' k ≡ top_of t k → get_or tops' k 0 ≡ get_or tops k 0 → get_or tops k 0 ≤ k * t.words_per_region + t.words_per_region
    → ((x : ℕ) → k * t.words_per_region ≤ x → x < k * t.words_per_region + t.words_per_region → is_marked marks' x ≡ is_marked marks x)
    → ((x : ℕ) → k * t.words_per_region ≤ x → x < k * t.words_per_region + t.words_per_region → object_words t' x ≡ object_words t x)
    → live_bound_of t' tops' marks' k ≡ live_bound_of t tops marks k
unfolding live_bound_of
same_live t t' tops tops' marks marks' k size top start le each sizes =
    let words : ℕ = t.words_per_region in
    let n : ℕ = get_or tops k 0 - k * words in
    let at : get_or tops' k 0 - k * t'.words_per_region ≡ n = rw (start, size) refl in
    let bottom : k * t'.words_per_region ≡ k * words = ap (λ (w : ℕ). k * w) size in
    let inside : (x : ℕ) → x < k * words + n → k * words ≤ x → x < k * words + words = λ x h l. omega (arith, h, l, le) in
    let below : marked_words t' marks' (k * t'.words_per_region) (get_or tops' k 0 - k * t'.words_per_region)
    ≡ marked_words t marks (k * words) n = ap (λ (b : ℕ). marked_words t' marks' b (get_or tops' k 0 - k * t'.words_per_region)) bottom
    ∙ ap (marked_words t' marks' (k * words)) at
    ∙ same_words t t' marks marks' n (k * words) (λ x l h. each x l (inside x h l)) (λ x l h. sizes x l (inside x h l)) in
    omega (arith, below, top, start)

same_size : (b m : Bool) (o o' : Option Stored) → stored_size o' ≡ stored_size o
    → stored_size (if b then (if m then o' else None) else o') ≡ stored_size (if b then (if m then o else None) else o)
same_size true true o o' e = e
same_size true false o o' e = refl
same_size false m o o' e = e

same_kept : (t t' : Table) (tams tams' : Tops) (marks marks' : List Bool) (n a : ℕ)
    → ((x : ℕ) → a ≤ x → x < a + n → stored_size (kept_in t' tams' marks' x) ≡ stored_size (kept_in t tams marks x))
    → kept_words t' tams' marks' a n ≡ kept_words t tams marks a n
same_kept t t' tams tams' marks marks' zero a e = refl
same_kept t t' tams tams' marks marks' (suc n) a e =
    let h = e a (omega arith) (omega arith) in
    let r = same_kept t t' tams tams' marks marks' n (suc a) (λ x l u. e x (omega (arith, l)) (omega (arith, u))) in
    omega (arith, h, r)

kept_size : (t t' : Table) (tams tams' : Tops) (marks marks' : List Bool) (k x : ℕ) → t'.words_per_region ≡ t.words_per_region
    → x / t.words_per_region ≡ k → get_or tams'.previous k 0 ≡ get_or tams.previous k 0 → is_marked marks' x ≡ is_marked marks x
    → object_words t' x ≡ object_words t x → stored_size (kept_in t' tams' marks' x) ≡ stored_size (kept_in t tams marks x)
unfolding is_below object_words
kept_size t t' tams tams' marks marks' k x size row top mark words =
    let below : below_previous t' tams' x ≡ below_previous t tams x =
    ap (λ (n : ℕ). is_below n tams'.previous x) size ∙ ap (λ (j : ℕ). nat_lt x (get_or tams'.previous j 0)) row
    ∙ ap (λ (m : ℕ). nat_lt x m) top ∙ ap (λ (j : ℕ). nat_lt x (get_or tams.previous j 0)) (sym row) in
    rw (below, mark) (same_size (below_previous t tams x) (is_marked marks x) (object_at t x) (object_at t' x) words)

option_cases : (o : Option Stored) → (o ≡ None) ⊎ ((s : Stored) × (o ≡ Some s))
option_cases None = inl refl
option_cases (Some s) = inr (s, refl)

free_ordinary : kinds.Free ≡ kinds.Ordinary → ⊥
free_ordinary e = cc

if_not : (b : Bool) (m n : ℕ) → b ≡ false → (if b then m else n) ≡ n
if_not true m n e = absurd cc
if_not false m n e = refl

if_not_flag : (b : Bool) (m n : Bool) → b ≡ false → (if b then m else n) ≡ n
if_not_flag true m n e = absurd cc
if_not_flag false m n e = refl

module _ (which : Choice) (budget n w : ℕ) (c c' : CoreState) (core : IsCore c) (shape : IsShaped c.table)
    (shape' : IsShaped c'.table) (p : HasMoved which budget n w c c') (exact : IsExact c) where
  abbrev t : Table
  t = c.table

  abbrev t' : Table
  t' = c'.table

  abbrev words : ℕ
  words = t.words_per_region

  abbrev mid : CoreState
  mid = record c {
    buffers = closed c.buffers.words (length c.buffers.open_buffers);
    cards = clean_cards (length c.cards.dirty) (length c.cards.logs);
    sets = p.ready.sets;
  }

  pub ev : HasEvacuated p.evacuates.chosen (is_third c.config.format) (card_words c.config) w (layers_of mid) (layers_of c')
  ev = subst (λ (r : CoreState). HasEvacuated p.evacuates.chosen (is_third c.config.format) (card_words c.config) w (layers_of r)
      (layers_of c')) p.is_ready.same
      p.evacuates.evacuated

  size : t'.words_per_region ≡ words
  size = ev.regions.size

  abbrev chosen : List LiveRow
  chosen = p.evacuates.chosen

  -- a region that is ordinary afterwards wasn't chosen
  not_chosen : (k : ℕ) → kind_of t' k ≡ kinds.Ordinary → is_chosen chosen k ≡ false
  not_chosen k o = elim (cases_Bool (is_chosen chosen k)) [
    | inl i ↦ absurd (free_ordinary (sym (ev.regions.chosen k i) ∙ o))
    | inr out ↦ out
  ]

  top_same : (k : ℕ) → k < length t.regions → is_chosen chosen k ≡ false
      → get_or c'.marker.tams.previous k 0 ≡ get_or c.marker.tams.previous k 0
  top_same k lt out =
      ev.previous.each_top k (let e = core.layers.marker.previous.each_region in omega (arith, e, lt))
      ∙ if_not (is_chosen chosen k) (k * words) (get_or c.marker.tams.previous k 0) out

  kept_live : ℕ → Type 0
  kept_live k = live_bound_of t' c'.marker.tams.previous c'.marker.bitmaps.previous k
      ≤ kept_words t' c'.marker.tams c'.marker.bitmaps.previous (k * t'.words_per_region) t'.words_per_region

  -- a region that was in use, and stays
  module _ (k : ℕ) (lt : k < length t.regions) (out : is_chosen chosen k ≡ false) (o : kind_of t k ≡ kinds.Ordinary) where
    used_free : kind_of t k ≡ kinds.Free → ⊥
    used_free f = free_ordinary (sym f ∙ o)

    abbrev row : (x : ℕ) → k * words ≤ x → x < k * words + words → x / words ≡ k
    row x l u = div_is x words k l u

    stays_out : (x : ℕ) → k * words ≤ x → x < k * words + words → set_in words chosen x ≡ false
    stays_out x l u = ap (is_chosen chosen) (row x l u) ∙ out

    mark_same : (x : ℕ) → k * words ≤ x → x < k * words + words
        → is_marked c'.marker.bitmaps.previous x ≡ is_marked c.marker.bitmaps.previous x
    mark_same x l u = ev.previous.each_mark x
        ∙ if_not_flag (set_in words chosen x) false (is_marked c.marker.bitmaps.previous x) (stays_out x l u)

    words_same : (x : ℕ) → k * words ≤ x → x < k * words + words → object_words t' x ≡ object_words t x
    unfolding object_words
    words_same x l u = elim (option_cases (object_at t x)) [
      | inl none ↦ ap stored_size (ev.regions.none x (stays_out x l u) (λ f. used_free (sym (ap (kind_of t) (row x l u)) ∙ f)) none)
          ∙ ap stored_size (sym none)
      | inr some ↦ (let (y, at, same) = ev.regions.objects x some.0 (stays_out x l u) some.1 in
          let a = ap stored_size at in
          let b = ap stored_size some.1 in
          let d = same.pointers in
          let e = same.weaks in
          let f = ap (λ (vs : List ℕ). length vs) same.values in
          omega (arith, a, b, d, e, f))
    ]

    stays : kept_live k
    unfolding kept_live
    stays =
        let used : used_of t' k ≡ used_of t k = ev.regions.used k out used_free in
        let long = ap (λ (v : ℕ). k * v) size in
        let top : top_of t' k ≡ top_of t k = omega (arith, used, long) in
        let start = top_same k lt out in
        let m = core.layers.marker.previous in
        let high = m.top k lt in
        let most = used_le t k shape in
        let live = same_live t t' c.marker.tams.previous c'.marker.tams.previous c.marker.bitmaps.previous c'.marker.bitmaps.previous k size
        top start (omega (arith, high, most)) mark_same words_same in
        let kept = same_kept t t' c.marker.tams c'.marker.tams c.marker.bitmaps.previous c'.marker.bitmaps.previous words (k * words)
        (λ x l u. kept_size t t' c.marker.tams c'.marker.tams c.marker.bitmaps.previous c'.marker.bitmaps.previous k x size
        (row x l u) start
        (mark_same x l u) (words_same x l u)) in
        let e = exact.exact k lt o in
        let z = ap (λ (v : ℕ). kept_words t' c'.marker.tams c'.marker.bitmaps.previous (k * v) v) size in
        omega (arith, live, kept, e, z)

  -- a region that was free, and has copies
  module _ (k : ℕ) (lt : k < length t.regions) (out : is_chosen chosen k ≡ false) (f : kind_of t k ≡ kinds.Free)
      (o : kind_of t' k ≡ kinds.Ordinary) where
    bottom_start : get_or c'.marker.tams.previous k 0 ≡ k * words
    bottom_start =
        let m = core.layers.marker.previous in
        let low = m.bottom k lt in
        let high = m.top k lt in
        let none = free_used t k f in
        let s = top_same k lt out in
        omega (arith, low, high, none, s)

    kept_fresh : (x : ℕ) → k * t'.words_per_region ≤ x → x < k * t'.words_per_region + t'.words_per_region
        → kept_in t' c'.marker.tams c'.marker.bitmaps.previous x ≡ object_at t' x
    unfolding is_below
    kept_fresh x l u =
        let r : x / t'.words_per_region ≡ k = div_is x t'.words_per_region k l u in
        let z = ap (λ (v : ℕ). k * v) size in
        let below : below_previous t' c'.marker.tams x ≡ false =
        ap (λ (j : ℕ). nat_lt x (get_or c'.marker.tams.previous j 0)) r ∙ ap (λ (m : ℕ). nat_lt x m) bottom_start
        ∙ le-ltb x (k * words) (omega (arith, l, z)) in
        if_not_object (below_previous t' c'.marker.tams x)
        (if is_marked c'.marker.bitmaps.previous x then object_at t' x else None) (object_at t' x) below
      where
        if_not_object : (b : Bool) (m n : Option Stored) → b ≡ false → (if b then m else n) ≡ n
        if_not_object true m n e = absurd cc
        if_not_object false m n e = refl

    objects_only : (a : ℕ) (u : Tile) → k * t'.words_per_region ≤ a → a < k * t'.words_per_region + t'.words_per_region
        → tile_in t' a ≡ Some u → (x : Stored) × (u ≡ Object x)
    objects_only a u l h e =
        let z = ap (λ (v : ℕ). k * v) size in
        let r : a / words ≡ k = div_is a words k (omega (arith, l, z)) (omega (arith, h, z, size)) in
        ev.regions.live a u (ap (kind_of t) r ∙ f) e

    fresh : kept_live k
    unfolding kept_live live_bound_of kept_of
    fresh =
        let b = bottom_start in
        let z = ap (λ (v : ℕ). k * v) size in
        let none : get_or c'.marker.tams.previous k 0 - k * t'.words_per_region ≡ 0 = omega (arith, b, z) in
        let low = ap (marked_words t' c'.marker.bitmaps.previous (k * t'.words_per_region)) none in
        let filled = filled_region t' k shape' o objects_only in
        let kept = total_kept c' t'.words_per_region (k * t'.words_per_region) in
        let same = total_same (kept_of c') (object_at t') t'.words_per_region (k * t'.words_per_region) kept_fresh in
        omega (arith, low, filled, kept, same, b, z)

  paused_region : (k : ℕ) → kind_of t' k ≡ kinds.Ordinary → kept_live k
  paused_region k o =
      let out = not_chosen k o in
      let lt' = ordinary_known t' k o in
      let count = ev.regions.count in
      let lt : k < length t.regions = omega (arith, lt', count) in
      by_kind k o out lt (kind_of t k) refl
    where
      by_kind : (k : ℕ) → kind_of t' k ≡ kinds.Ordinary → is_chosen chosen k ≡ false → k < length t.regions → (q : Kind) → kind_of t k ≡ q
          → kept_live k
      by_kind k o out lt kinds.Free e = fresh k lt out e o
      by_kind k o out lt kinds.Ordinary e = stays k lt out e
      by_kind k o out lt _ e = absurd (let same = ev.regions.kinds_same k out (λ g. (let h = e in cc)) in let h = e in let now = o in cc)

  pub paused_exact : IsExact c'
  unfolding kept_live
  paused_exact = record {
    idle = ap (λ (m : Marker). m.running) p.evacuates.marker ∙ ap (λ (r : CoreState). r.marker.running) p.is_ready.same ∙ exact.idle;
    exact = λ k h o. paused_region k o;
  }

  -- what is kept was kept, under the same name
  pub paused_reached : (g : Graph) → ((a : ℕ) (x : Stored) → kept_of c a ≡ Some x → IsReachable g x.name)
      → (a : ℕ) (x : Stored) → kept_of c' a ≡ Some x → IsReachable g x.name
  unfolding kept_of
  paused_reached g reached a x e =
      let came = ev.relocates.came a x e in
      let copy = ev.relocates.kept came.from a came.object came.at came.placed in
      let at = copy.at in
      let same : copy.copy ≡ x = cc in
      let name : came.object.name ≡ x.name = sym copy.name ∙ ap (λ (y : Stored). y.name) same in
      subst (IsReachable g) name (reached came.from came.object came.at)
