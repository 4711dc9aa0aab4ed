-- The heap after a pause.
use Rattle.evacuation.proofs.WholePause.Beginning.{no_tile}
use Rattle.std.proofs.Common.{◌≡◌, ◌≢◌, ◌+◌, ◌-◌, ◌*◌, ◌/◌, ◌%◌, ◌<◌, ◌≤◌, ◌∷◌, ◌∙◌, ℕ, suc, Bool, true, false, List, [], Option, Some}
use Rattle.std.proofs.Common.{None, length, get_or, refl, sym, ap, subst, inl, inr, arith, nat_lt, slice_get, ◌↔◌, if◌then◌else◌}
use Rattle.std.specs.List.Sorted.{IsStrictlyIncreasing}
use Rattle.std.proofs.lemmas.Bool.{cases_Bool, cases_lt, or_cases}
use Rattle.heap_model.specs.Heap.{Stored}
use Rattle.heap_model.specs.Heap as stored
use Rattle.heap_model.specs.Relocation.{Relocates}
use Rattle.heap_model.specs.Evacuation.{IsReached, place_after, released}
use Rattle.regions.specs.Tiles.{Tile, Object, Filler, Forwarded, tile_size, tile_at}
use Rattle.regions.specs.Walks.{AllPositive, region_tiles, tiles_of}
use Rattle.regions.proofs.Tiles.Placing.{tile_at-back}
use Rattle.regions.proofs.Walks.WalkFrom.{listed_tile}
use Rattle.regions.specs.Table.{Region, Free, Ordinary, First, Rest, Table, EachForwarded, EachForwardedIn, HasNoForwarded, free_count}
use Rattle.regions.specs.Table.{kind_of}
use Rattle.regions.specs.Table.{moved_to, object_at, region_kind, nth_region, region_tile, region_used, tile_in, used_of, AreHalves}
use Rattle.regions.specs.Shaped.{IsShaped}
use Rattle.regions.specs.declared.row.Kind.TheVariants as kinds
use Rattle.regions.proofs.LongRuns.RunLaws.{tile_of_region}
use Rattle.mark_bitmap.specs.Marks.{is_marked}
use Rattle.mark_bitmap.specs.Tops.{Tops, is_below}
use Rattle.mark_bitmap.specs.Kept.{MarksObjects, kept_in}
use Rattle.mark_bitmap.proofs.KeptLaws.{gone_kept}
use Rattle.region_choice.specs.declared.LiveRow.{LiveRow}
use Rattle.evacuation.specs.declared.room.Context.{Context}
use Rattle.evacuation.specs.Evacuates.{AreReachedWords, CanEvacuate, Layers, MarksAfter, RegionsAfter, SparesRegions}
use Rattle.evacuation.specs.Evacuates.{heap_of, kept_of, is_chosen, set_by, IsNewCrossing, SetsGain}
use Rattle.regions.specs.Walks.{IsHolder}
use Rattle.regions.proofs.Tiles.Holders.{holder_start}
use Rattle.refinement.proofs.Holders.{word_holder}
use Rattle.refinement.proofs.Holders as holders
use Rattle.evacuation.specs.Space.{flag, filled, AreSpared, NewCrossing, NotesFor, NotesGrow}
use Rattle.evacuation.specs.declared.room.Notes.{Notes}
use Rattle.evacuation.proofs.Lists.{get_below}
use Rattle.evacuation.specs.Turns.{Pause, IsTurn, in_set, kept_now, space, layout}
use Rattle.evacuation.specs.Releasing.{AreReleased}
use Rattle.heap_model.specs.Marking.{Marking}
use Rattle.heap_model.specs.Relocation.{KeepsOld}
use Rattle.mark_bitmap.specs.Tops.{below_next}
use Rattle.cards.specs.Cards.{Cards, is_dirty}
use Rattle.bit_sets.specs.Bits.{has}
use Rattle.remembered_sets.specs.Sets.{CardSet, Sets, covers, emptied, may_lead, set_covers, set_of}
use Rattle.remembered_sets.proofs.Laws.{leads_alike}
use Rattle.refinement.specs.Remembering.{Remembers, field_card, field_word}
use Rattle.evacuation.specs.Evacuates.{HasEvacuated, IsNewSet}
use Rattle.evacuation.specs.Space.{IsDestination}
use Rattle.evacuation.specs.Turns.{HasCopied}
use Rattle.evacuation.specs.Releasing.{AreCleared}
use Rattle.evacuation.proofs.Turns.AllCopied.{reached_inside}
use Rattle.evacuation.proofs.Turns.KeptObjects.{not_below, kept_object, cases_free, free_used, object_of}
use Rattle.refinement.proofs.Fields.{region_of_card}
use Rattle.evacuation.proofs.WholePause.Asked as asked
use Rattle.evacuation.proofs.WholePause.ChosenReleased.{kind_by, mark_gone, mark_left, top_gone, top_left}

kept_now_is : (p : Pause) (t : Table) → kept_now p t ≡ kept_in t p.tams p.previous
unfolding kept_now
kept_now_is p t = refl

used_by : (t t' : Table) (k : ℕ) → t'.words_per_region ≡ t.words_per_region → nth_region t' k ≡ nth_region t k → used_of t' k ≡ used_of t k
unfolding used_of
used_by t t' k w e = ap (λ (n : ℕ). region_used n (nth_region t' k)) w ∙ ap (region_used t.words_per_region) e

kind_free : (t : Table) (k : ℕ) → nth_region t k ≡ Free → kind_of t k ≡ kinds.Free
unfolding kind_of
kind_free t k e = ap region_kind e

moved_tile : (o : Option Tile) (b : ℕ) → moved_to o ≡ Some b → (n : ℕ) × (o ≡ Some (Forwarded b n))
moved_tile None b e = absurd cc
moved_tile (Some (Object s)) b e = absurd cc
moved_tile (Some (Filler m)) b e = absurd cc
moved_tile (Some (Forwarded to n)) b e = (n, let same : to ≡ b = cc in ap (λ (k : ℕ). Some (Forwarded k n)) same)

-- where no tile is moved, no tile of the regions is
next_tile : (t : Tile) (ts : List Tile) (o : ℕ) → 0 < tile_size t → tile_at (tile_size t + o) (t ∷ ts) ≡ tile_at o ts
next_tile t ts o z =
    let e : tile_size t + o - (tile_size t + 0) ≡ o = omega arith in
    tile_at-back (t ∷ []) ts (tile_size t + o) (z, tt) (omega arith) ∙ ap (λ (m : ℕ). tile_at m ts) e

tiles_none : (ts : List Tile) → AllPositive ts → ((o to n : ℕ) → tile_at o ts ≡ Some (Forwarded to n) → ⊥) → EachForwarded (λ _. ⊥) ts
tiles_none [] z f = tt
tiles_none (Object s ∷ ts) z f = tiles_none ts z.1 (λ o to n e. f (tile_size (Object s) + o) to n (next_tile (Object s) ts o z.0 ∙ e))
tiles_none (Filler m ∷ ts) z f = tiles_none ts z.1 (λ o to n e. f (m + o) to n (next_tile (Filler m) ts o z.0 ∙ e))
tiles_none (Forwarded a m ∷ ts) z f = absurd (f 0 a m refl)

regions_none : (rs : List Region) → ((k : ℕ) → EachForwarded (λ _. ⊥) (region_tiles (get_or rs k Free))) → EachForwardedIn (λ _. ⊥) rs
regions_none [] f = tt
regions_none (Free ∷ rs) f = regions_none rs (λ k. f (suc k))
regions_none (Ordinary ts ∷ rs) f = (f 0, regions_none rs (λ k. f (suc k)))
regions_none (First s ∷ rs) f = regions_none rs (λ k. f (suc k))
regions_none (Rest n ∷ rs) f = regions_none rs (λ k. f (suc k))

none_moved : (t : Table) → IsShaped t → ((a to n : ℕ) → tile_in t a ≡ Some (Forwarded to n) → ⊥) → HasNoForwarded t
unfolding tiles_of nth_region
none_moved t g f = regions_none t.regions
    (λ k. tiles_none (tiles_of t k) (g.fitting k).positive
    (λ o to n e. f (k * t.words_per_region + o) to n (listed_tile t k o (Forwarded to n) g e)))

module _ (h : Layers) (rows : List LiveRow) (cw : ℕ) (can : CanEvacuate h rows cw) (shaped : IsShaped h.table) (flags : List Bool)
    (flags_are : (k : ℕ) → flag flags k ≡ is_chosen rows k) (len : length flags ≡ length h.table.regions)
    (t1 : Table) (c1 : Context)
    (turn : IsTurn (asked.pause h rows cw can shaped flags flags_are len) t1 c1.destinations)
    (t2 : Table) (rel : AreReleased (is_chosen rows) t1 t2) (more : free_count t2 ≡ free_count t1 + length rows) where
  abbrev p : Pause
  p = asked.pause h rows cw can shaped flags flags_are len

  abbrev words : ℕ
  words = h.table.words_per_region

  pub sets_same : set_by h rows ≡ in_set p
  sets_same i a = sym (flags_are (a / words)) i

  off : (k : ℕ) → is_chosen rows k ≡ false → flag flags k ≡ false
  off k e = flags_are k ∙ e

  on : (k : ℕ) → is_chosen rows k ≡ true → flag flags k ≡ true
  on k e = flags_are k ∙ e

  size : t2.words_per_region ≡ words
  size = rel.size ∙ turn.table.size

  -- what stands where after the release
  tile_inside : (a : ℕ) → in_set p a ≡ true → tile_in t2 a ≡ None
  tile_inside a e =
      tile_of_region t2 a Free (ap (λ (n : ℕ). nth_region t2 (a / n)) size ∙ rel.freed (a / words) (sym (flags_are (a / words)) ∙ e))

  tile_outside : (a : ℕ) → in_set p a ≡ false → tile_in t2 a ≡ tile_in t1 a
  tile_outside a e =
      let same : nth_region t2 (a / t2.words_per_region) ≡ nth_region t1 (a / t1.words_per_region) =
      ap (λ (n : ℕ). nth_region t2 (a / n)) size ∙ rel.others (a / words) (sym (flags_are (a / words)) ∙ e)
      ∙ ap (λ (n : ℕ). nth_region t1 (a / n)) (sym turn.table.size) in
      let tile = tile_of_region t2 a (nth_region t1 (a / t1.words_per_region)) same
      ∙ ap (λ (n : ℕ). region_tile (nth_region t1 (a / t1.words_per_region)) (a % n)) rel.size in
      tile ∙ sym (tile_of_region t1 a (nth_region t1 (a / t1.words_per_region)) refl)

  objects : (a : ℕ) → object_at t2 a ≡ (if in_set p a then None else object_at t1 a)
  objects a = elim (cases_Bool (in_set p a)) [
    | inl e ↦ rw e (object_of t2 a None (tile_inside a e))
    | inr e ↦ rw e (object_of t2 a (tile_in t1 a) (tile_outside a e) ∙ sym (object_of t1 a (tile_in t1 a) refl))
  ]

  no_moved : (a to n : ℕ) → tile_in t2 a ≡ Some (Forwarded to n) → ⊥
  no_moved a to n e = elim (cases_Bool (in_set p a)) [
    | inl i ↦ (let g = tile_inside a i in cc)
    | inr o ↦ (let g = turn.table.moved a to n (sym (tile_outside a o) ∙ e) in cc)
  ]

  pub unmoved : IsShaped t2 → HasNoForwarded t2
  unmoved g = none_moved t2 g no_moved

  outside : (a : ℕ) → in_set p a ≡ false → object_at t2 a ≡ object_at t1 a
  outside a e = objects a ∙ ap (λ (b : Bool). if b then None else object_at t1 a) e

  stays_out : (a : ℕ) (x : Stored) → object_at t2 a ≡ Some x → in_set p a ≡ false
  stays_out a x e = elim (cases_Bool (in_set p a)) [
    | inl i ↦ absurd (let g = objects a ∙ ap (λ (b : Bool). if b then None else object_at t1 a) i in cc)
    | inr o ↦ o
  ]

  not_chosen : (k : ℕ) → kind_of h.table k ≡ kinds.Free → is_chosen rows k ≡ false
  not_chosen k f = elim (cases_Bool (is_chosen rows k)) [
    | inl e ↦ absurd (let o = asked.ordinary h rows cw can shaped flags flags_are len k (on k e) in
        let n : kinds.Ordinary ≡ kinds.Free = sym o ∙ f in
        cc)
    | inr e ↦ e
  ]

  pub regions : RegionsAfter rows h.table t2
  regions = record {
    size = size;
    count = rel.count ∙ turn.table.count;
    chosen = λ k e. kind_free t2 k (rel.freed k e);
    was_free = λ k f. let s = kind_by t1 t2 k (rel.others k (not_chosen k f)) in
        elim (turn.table.was_free k f) [ inl e ↦ inl (s ∙ e) | inr e ↦ inr (s ∙ e) ];
    lowest = λ j k fj free f o. turn.table.lowest j k fj (sym (kind_by t1 t2 j (rel.others j (not_chosen j fj))) ∙ free) f
        (sym (kind_by t1 t2 k (rel.others k (not_chosen k f))) ∙ o);
    filled = λ k f o.
        let out = rel.others k (not_chosen k f) in
        let b = turn.table.filled k f (sym (kind_by t1 t2 k out) ∙ o) in
        let u = used_by t1 t2 k rel.size out in
        omega arith;
    live = λ a u f e. turn.table.live a u f (sym (tile_outside a (off (a / words) (not_chosen (a / words) f))) ∙ e);
    kinds_same = λ k e n. kind_by t1 t2 k (rel.others k e) ∙ turn.table.kinds_same k (off k e) n;
    used = λ k e n. used_by t1 t2 k rel.size (rel.others k e) ∙ turn.table.used k (off k e) n;
    objects = λ a x o e. let (y, f, s) = turn.table.objects a x (off (a / words) o) e in (y, outside a (off (a / words) o) ∙ f, s);
    none = λ a o n e. outside a (off (a / words) o) ∙ turn.table.none a (off (a / words) o) n e;
  }

  pub halves : AreHalves t2
  halves a x e o =
      let out = stays_out a x e in
      let here = sym (outside a out) ∙ e in
      let chosen : is_chosen rows (a / words) ≡ false = sym (flags_are (a / words)) ∙ out in
      let kind : kind_of t1 (a / words) ≡ kinds.Ordinary =
      sym (kind_by t1 t2 (a / words) (rel.others (a / words) chosen)) ∙ ap (λ (n : ℕ). kind_of t2 (a / n)) (sym size) ∙ o in
      subst (λ (n : ℕ). 2 * tile_size (Object x) ≤ n) (sym size) (elim (cases_free (kind_of h.table (a / words))) [
        | inl f ↦ turn.table.small a x out f here
        | inr n ↦ go a x out n here kind (object_at h.table a) refl
      ])
    where
      go : (a : ℕ) (x : Stored) → in_set p a ≡ false → kind_of h.table (a / words) ≢ kinds.Free → object_at t1 a ≡ Some x
          → kind_of t1 (a / words) ≡ kinds.Ordinary → (z : Option Stored) → object_at h.table a ≡ z → 2 * tile_size (Object x) ≤ words
      go a x out n here kind None f = absurd (let g = turn.table.none a out n f in cc)
      go a x out n here kind (Some z) f =
          let (y, g, s) = turn.table.objects a z out f in
          let same : y ≡ x = cc in
          let q = can.halves a z f (sym (turn.table.kinds_same (a / words) out n) ∙ kind) in
          let e1 = s.pointers in
          let e3 = s.weaks in
          let e2 = ap (λ (m : List ℕ). length m) s.values in
          subst (λ (m : Stored). 2 * tile_size (Object m) ≤ words) same (omega arith)

  module _ (tops tops' : List ℕ) (marks marks' : List Bool) (m : MarksObjects h.table tops marks)
      (after : MarksAfter words (is_chosen rows) tops tops' marks marks') where
    pub below_same : (a : ℕ) → in_set p a ≡ false → is_below t2.words_per_region tops' a ≡ is_below words tops a
    unfolding is_below
    below_same a e =
        ap (λ (n : ℕ). is_below n tops' a) size ∙ ap (λ (n : ℕ). nat_lt a n) (top_left after (a / words) (sym (flags_are (a / words)) ∙ e))

    pub mark_same : (a : ℕ) → in_set p a ≡ false → is_marked marks' a ≡ is_marked marks a
    mark_same a e = mark_left after a (sym (flags_are (a / words)) ∙ e)

    marked_out : (a : ℕ) → is_marked marks' a ≡ true → in_set p a ≡ false
    marked_out a e = elim (cases_Bool (in_set p a)) [
      | inl i ↦ absurd (let g = mark_gone after a (sym (flags_are (a / words)) ∙ i) in cc)
      | inr o ↦ o
    ]

    pub marks_stand : MarksObjects t2 tops' marks'
    marks_stand = record {
      each_region = after.count ∙ m.each_region ∙ sym regions.count;
      each_word = after.each_word ∙ m.each_word ∙ (let c = regions.count in rw (c, size) refl);
      bottom = λ k lt. let k0 : k < length h.table.regions = (let c = regions.count in omega arith) in
          let z = ap (λ (n : ℕ). k * n) size in
          elim (cases_Bool (is_chosen rows k)) [
            | inl e ↦ (let t = top_gone after k (let c = m.each_region in omega arith) e in omega arith)
            | inr e ↦ (let t = top_left after k e in let b = m.bottom k k0 in omega arith)
          ];
      top = λ k lt. let k0 : k < length h.table.regions = (let c = regions.count in omega arith) in
          let z = ap (λ (n : ℕ). k * n) size in
          elim (cases_Bool (is_chosen rows k)) [
            | inl e ↦ (let t = top_gone after k (let c = m.each_region in omega arith) e in omega arith)
            | inr e ↦ (let t = top_left after k e in let b = m.top k k0 in elim (cases_free (kind_of h.table k)) [
              | inl f ↦ (let u = free_used h.table k f in omega arith)
              | inr n ↦ (let u = regions.used k e n in omega arith)
            ])
          ];
      object = λ a e. let o = marked_out a e in
          let (s, f) = m.object a (sym (mark_same a o) ∙ e) in
          let (y, g, b) = regions.objects a s (sym (flags_are (a / words)) ∙ o) f in
          (y, g);
      below = λ a e. let o = marked_out a e in below_same a o ∙ m.below a (sym (mark_same a o) ∙ e);
    }

  -- ---- the destinations
  pub spares : SparesRegions rows c1.destinations.words h.table t2
  spares = record {
    taken = length c1.destinations.regions;
    count = (let f = turn.copying.frees in let m = more in omega arith);
    none = unused words (length c1.destinations.regions) (filled (space p t1) c1.destinations.last) c1.destinations.words
        turn.copying.spared;
    full = half words (length c1.destinations.regions) (filled (space p t1) c1.destinations.last) c1.destinations.words
        turn.copying.spared;
  }
    where
      unused : (w n : ℕ) (fill : Option ℕ) (copied : ℕ) → AreSpared w n fill copied → copied ≡ 0 → n ≡ 0
      unused w n None copied s z = s
      unused w n (Some f) copied s z = absurd (let a = s.any in omega arith)

      half : (w n : ℕ) (fill : Option ℕ) (copied : ℕ) → AreSpared w n fill copied → 2 ≤ n → n * w < 2 * copied
      half w n None copied s two = absurd (omega arith)
      half w n (Some f) copied s two = s.all two

  -- ---- all together
  module _ (tams' : Tops) (previous' next' : List Bool) (cards' : Cards) (sets' : Sets)
      (roots' : List (Option ℕ)) (g : IsShaped t2)
      (previous : MarksAfter words (is_chosen rows) h.tams.previous tams'.previous h.previous previous')
      (next : MarksAfter words (is_chosen rows) h.tams.next tams'.next h.next next')
      (cleared : AreCleared (is_chosen rows) c1.noted.sets sets') (dirty : (card : ℕ) → is_dirty cards' card ≡ flag c1.noted.cards card)
      (logs : cards'.logs ≡ h.cards.logs) (rising : IsStrictlyIncreasing cards'.queue) (each : length cards'.dirty ≡ length h.cards.dirty)
      (done : HasCopied p t1 c1 roots')
      (n0 : Notes) (at_first : n0.sets ≡ h.sets) (none : (c : ℕ) → flag n0.cards c ≡ true → ⊥) (grow : NotesGrow n0 c1.noted)
      (only : NotesFor (NewCrossing (layout p) (space p h.table) (space p t1) c1.destinations) n0 c1.noted) where
    abbrev h' : Layers
    h' = record { table = t2; tams = tams'; previous = previous'; next = next'; cards = cards'; sets = sets'; roots = roots' }

    abbrev forward : ℕ → Option ℕ
    forward = (space p t1).forward

    kept_after : (a : ℕ) → kept_in t2 tams' previous' a ≡ (if in_set p a then None else kept_now p t1 a)
    kept_after a =
        gone_kept t1 t2 h.tams tams' h.previous previous' (in_set p) objects
        (λ b e. below_same h.tams.previous tams'.previous h.previous previous' can.previous previous b e
        ∙ ap (λ (n : ℕ). is_below n h.tams.previous b) (sym turn.table.size))
        (λ b e. mark_same h.tams.previous tams'.previous h.previous previous' can.previous previous b e) a
        ∙ ap (λ (f : ℕ → Option Stored). if in_set p a then None else f a) (sym (kept_now_is p t1))

    same_heap : heap_of h' ≡ released (in_set p) (record { kept = kept_now p t1; roots = roots' })
    same_heap = ap (λ (f : ℕ → Option Stored). record { kept = f; roots = roots' }) (λ i a. kept_after a i)

    relocates : Relocates (place_after (set_by h rows) forward) (heap_of h) (heap_of h')
    relocates = subst (λ (s : ℕ → Bool). Relocates (place_after s forward) (heap_of h) (heap_of h')) (sym sets_same)
        (subst (Relocates (place_after (in_set p) forward) (heap_of h)) (sym same_heap) done.moved)

    copied : (a : ℕ) → IsReached (set_by h rows) (heap_of h) a ↔ ((set_by h rows a ≡ true) × (b : ℕ) × (forward a ≡ Some b))
    copied = subst (λ (s : ℕ → Bool). (a : ℕ) → IsReached s (heap_of h) a ↔ ((s a ≡ true) × (b : ℕ) × (forward a ≡ Some b))) (sym sets_same)
        (λ a. (
          λ r. let (b, e) = done.reached a r in (reached_inside (in_set p) (heap_of h) a r, b, e),
          λ q. turn.copying.heap.reached a q.1 q.0 q.2,
        ))

    kept_there : (b : ℕ) (y : Stored) → kept_in t2 tams' previous' b ≡ Some y → (in_set p b ≡ false) × (kept_now p t1 b ≡ Some y)
    kept_there b y e = elim (cases_Bool (in_set p b)) [
      | inl i ↦ absurd (let k = kept_after b ∙ ap (λ (c : Bool). if c then None else kept_now p t1 b) i in cc)
      | inr o ↦ (o, sym (kept_after b ∙ ap (λ (c : Bool). if c then None else kept_now p t1 b) o) ∙ e)
    ]

    -- as many cards a region as before
    now_cards : c1.noted.sets.cards_per_region ≡ h.sets.cards_per_region
    now_cards = grow.sets.cards ∙ ap (λ (s : Sets). s.cards_per_region) at_first

    -- the region of a field's card is the one of the field's word
    own_region : (b i : ℕ) → field_card cw b i / h.sets.cards_per_region ≡ field_word b i / words
    own_region b i = region_of_card words cw h.sets.cards_per_region (field_word b i) shaped.positive can.fit.whole_cards

    same_lead : (k card : ℕ) → is_chosen rows k ≡ false → is_chosen rows (card / h.sets.cards_per_region) ≡ false
        → may_lead sets' k card ≡ may_lead c1.noted.sets k card
    same_lead k card e own =
        leads_alike c1.noted.sets sets' k card cleared.cards (cleared.others k e)
        (cleared.entered card ∙ ap (λ (b : Bool). if b then false else has c1.noted.sets.entered card)
        (ap (λ (n : ℕ). is_chosen rows (card / n)) now_cards ∙ own))

    -- what may have led there still may
    leads_on : (k card : ℕ) → is_chosen rows k ≡ false → is_chosen rows (card / h.sets.cards_per_region) ≡ false
        → may_lead h.sets k card ≡ true → may_lead sets' k card ≡ true
    leads_on k card e own d = same_lead k card e own ∙ grow.sets.leads k card (ap (λ (s : Sets). may_lead s k card) at_first ∙ d)

    -- a field of an object that stays isn't in a region that is gone
    field_stays : (b i : ℕ) (y : Stored) (v : Option ℕ) → kept_in t2 tams' previous' b ≡ Some y → slice_get (stored.fields y) i ≡ Some v
        → is_chosen rows (field_card cw b i / h.sets.cards_per_region) ≡ false
    field_stays b i y v at e = elim (cases_Bool (is_chosen rows (field_card cw b i / h.sets.cards_per_region))) [
      | inl gone ↦ absurd (
          let holder = word_holder t2 b i y g (holders.kept_object t2 tams' previous' b y at) (get_below (stored.fields y) i v e) in
          free_apart b (field_word b i) holder
          (ap (λ (n : ℕ). kind_of t2 (field_word b i / n)) size
          ∙ regions.chosen (field_word b i / words) (ap (is_chosen rows) (sym (own_region b i)) ∙ gone)))
      | inr stays ↦ stays
    ]
      where
        free_apart : (c w : ℕ) → IsHolder t2 c w → kind_of t2 (w / t2.words_per_region) ≡ kinds.Free → ⊥
        free_apart c w holder f =
            let s = holder_start t2 c w g holder in
            elim (cases_lt (c / t2.words_per_region) (w / t2.words_per_region)) [
              | inl lt ↦ (let r = s.run.rest (w / t2.words_per_region) lt (omega arith) in
                  let n : kinds.Free ≡ kinds.Rest = sym f ∙ r in absurd cc)
              | inr ge ↦ (let low = s.run.below in
                  let same : c / t2.words_per_region ≡ w / t2.words_per_region = omega arith in
                  let n = no_tile t2 c (ap (kind_of t2) same ∙ f) in
                  let e' = holder.tile_is in
                  absurd cc)
            ]

    own_stays : (b i : ℕ) (x : Stored) (v : Option ℕ) → kept_of h b ≡ Some x → slice_get (stored.fields x) i ≡ Some v → in_set p b ≡ false
        → is_chosen rows (field_card cw b i / h.sets.cards_per_region) ≡ false
    own_stays b i x v at e out =
        ap (is_chosen rows) (own_region b i) ∙ sym (flags_are (field_word b i / words))
        ∙ asked.field_outside h rows cw can shaped flags flags_are len b i x v at e out

    remembers : Remembers t2.words_per_region (kept_in t2 tams' previous') cw (is_dirty cards') (may_lead sets')
    remembers = subst (λ (n : ℕ). Remembers n (kept_in t2 tams' previous') cw (is_dirty cards') (may_lead sets')) (sym size) (record {
      each = λ b i a x.
          let (out, here) = kept_there b x.object x.kept_is in
          let outside' = done.clean b i a x.object here out x.field_is in
          elim (done.noted.field b i x.object (Some a) here out x.field_is) [
            | inl was ↦ (let (y, at, f) = was in
                elim (can.remembers.each b i a (record { object = y; kept_is = at; field_is = f; leaves = x.leaves })) [
                  | inl d ↦ absurd (let c = can.clean (field_card cw b i) in cc)
                  | inr d ↦ inr (leads_on (a / words) (field_card cw b i)
                      (sym (flags_are (a / words)) ∙ outside') (own_stays b i y (Some a) at f out) d)
                ])
            | inr s ↦ elim s.1 [
              | inl same ↦ absurd (x.leaves same)
              | inr n ↦ elim (
                  or_cases (flag c1.noted.cards (field_card cw b i)) (may_lead c1.noted.sets (a / words) (field_card cw b i)) n) [
                    | inl f ↦ inl (dirty (field_card cw b i) ∙ f)
                    | inr f ↦ inr (same_lead (a / words) (field_card cw b i) (sym (flags_are (a / words)) ∙ outside')
                        (field_stays b i x.object (Some a) x.kept_is x.field_is) ∙ f)
                  ]
            ]
          ];
    })

    keeps_old : IsNewSet h rows → (m : Marking) → ((a : ℕ) → m.old a ≡ below_next h.table h.tams a)
        → KeepsOld (place_after (set_by h rows) forward) (heap_of h) m
    keeps_old new m old = subst (λ (s : ℕ → Bool). KeepsOld (place_after s forward) (heap_of h) m) (sym sets_same) (record {
      stays = λ a x e o. elim (cases_Bool (in_set p a)) [ inl i ↦ absurd (let b = young a i in let c = old a in cc) | inr q ↦ rw q refl ];
      none_comes = λ a b x e f o. elim (cases_Bool (in_set p a)) [
        | inl i ↦
            (let f' : forward a ≡ Some b = rw i at f in absurd (let c = fresh b (turn.copying.placed a b i f') in let d = old b in cc))
        | inr q ↦ (let f' : Some a ≡ Some b = rw q at f in cc)
      ];
    })
      where
        bottom_of : (k a : ℕ) → a / words ≡ k → get_or h.tams.next k 0 ≡ k * words → below_next h.table h.tams a ≡ false
        bottom_of k a r t =
            let z = shaped.positive in
            let whole : a / words * words + a % words ≡ a = omega arith in
            not_below words a h.tams.next
            (ap (λ (n : ℕ). get_or h.tams.next n 0) r ∙ t ∙ ap (λ (n : ℕ). n * words) (sym r)) (omega (arith, whole))

        young : (a : ℕ) → in_set p a ≡ true → below_next h.table h.tams a ≡ false
        young a i =
            let (j, row, f, g') = asked.found rows (a / words) (sym (flags_are (a / words)) ∙ i) in
            let (lt, is) = asked.get_is rows j row f in
            let t = new j row lt in
            let t' : get_or h.tams.next row.region 0 ≡ row.region * words =
            subst (λ (r : LiveRow). get_or h.tams.next r.region 0 ≡ r.region * words) is t in
            bottom_of row.region a (sym g') t'

        fresh : (b : ℕ) → IsDestination c1.destinations (b / words) → below_next h.table h.tams b ≡ false
        fresh b w =
            let r = turn.taken (b / words) w in
            let low = can.next.bottom (b / words) r.2 in
            let high = can.next.top (b / words) r.2 in
            let none = free_used h.table (b / words) r.0 in
            bottom_of (b / words) b refl (omega arith)

    new_crossing : (card k : ℕ) → NewCrossing (layout p) (space p h.table) (space p t1) c1.destinations card k
        → IsNewCrossing h h' cw card k
    new_crossing card k x =
        record {
          at = x.at;
          index = x.index;
          target = x.target;
          object = x.object;
          is_kept = kept_after x.at ∙ ap (λ (b : Bool). if b then None else kept_now p t1 x.at) x.outside ∙ x.here;
          field = x.field;
          in_card = x.in_card;
          into = ap (λ (n : ℕ). x.target / n) size ∙ x.into;
          leaves = subst (λ (n : ℕ). x.target / n ≢ field_word x.at x.index / n) (sym size) x.leaves;
          is_new = λ before at f. elim x.is_new [
            | inl w ↦ stood_free x.at before (turn.taken (x.at / words) w).0
                (kept_object p h.table x.at before (ap (λ (k : ℕ → Option Stored). k x.at) (kept_now_is p h.table) ∙ at))
            | inr k ↦
                let (v, g', i) = k before (ap (λ (q : ℕ → Option Stored). q x.at) (kept_now_is p h.table) ∙ at) in
                let same : v ≡ x.target = cc in
                let c = x.clean in
                let j = ap (in_set p) same in
                absurd cc
          ];
        }
      where
        stood_free : (a : ℕ) (y : Stored) → kind_of h.table (a / words) ≡ kinds.Free → object_at h.table a ≡ Some y → ⊥
        stood_free a y f e' = let t = no_tile h.table a f in let q = object_of h.table a None t in absurd cc

    -- a copy stands in a destination
    place_free : (a b : ℕ) → forward a ≡ Some b → kind_of h.table (b / words) ≡ kinds.Free
    place_free a b e =
        let (n, f) = moved_tile (tile_in t1 a) b e in
        (turn.taken (b / words) (turn.copying.placed a b (turn.table.moved a b n f) e)).0

    dirtied : (card : ℕ) → is_dirty cards' card ≡ true → (n0.at_once ≡ false) × ((k : ℕ) × IsNewCrossing h h' cw card k)
    dirtied card e =
        let noted = sym (dirty card) ∙ e in
        elim (only.cards card noted) [
          | inl o ↦ absurd (none card o)
          | inr x ↦ elim (cases_Bool n0.at_once) [
            | inl once ↦ absurd (none card (ap (λ (flags : List Bool). flag flags card) (sym (grow.early once)) ∙ noted))
            | inr late ↦ (late, (x.0, new_crossing card x.0 x.1))
          ]
        ]

    gains : SetsGain rows cw h h'
    gains = record {
      stays = leads_on;
      covered = λ k c e now.
          let w = now_cards in
          let v = ap (λ (s : Sets). s.cards_per_region) at_first in
          let was = covers_alike c1.noted.sets sets' k c cleared.cards (cleared.others k e) now in
          elim (only.covered c k was) [
            | inl o ↦ inl (ap (λ (s : Sets). covers s k c) (sym at_first) ∙ o)
            | inr x ↦ inr (x.0, subst (λ (n : ℕ). x.0 / n ≡ c / n) v x.1, new_crossing x.0 k x.2)
          ];
      entered = λ card now. elim (cases_Bool (is_chosen rows (card / h.sets.cards_per_region))) [
        | inl gone ↦ absurd (let a = entered_now card ∙ ap (λ (b : Bool). if b then false else has c1.noted.sets.entered card) gone in cc)
        | inr stays ↦ (
          stays,
          (let a = entered_now card ∙ ap (λ (b : Bool). if b then false else has c1.noted.sets.entered card) stays in
              elim (only.entered card (sym a ∙ now)) [
                | inl o ↦ inl (ap (λ (s : Sets). has s.entered card) (sym at_first) ∙ o)
                | inr x ↦ inr (x.0, new_crossing card x.0 x.1)
              ]),
        )
      ];
    }
      where
        entered_now : (card : ℕ) → has sets'.entered card
            ≡ (if is_chosen rows (card / h.sets.cards_per_region) then false else has c1.noted.sets.entered card)
        entered_now card = cleared.entered card
            ∙ ap (λ (n : ℕ). if is_chosen rows (card / n) then false else has c1.noted.sets.entered card) now_cards

        covers_alike : (s s' : Sets) (k c : ℕ) → s'.cards_per_region ≡ s.cards_per_region → set_of s' k ≡ set_of s k → covers s' k c ≡ true
            → covers s k c ≡ true
        covers_alike s s' k c cards same now =
            ap (λ (x : CardSet). set_covers x c (c / s.cards_per_region)) (sym same)
            ∙ ap (λ (n : ℕ). set_covers (set_of s' k) c (c / n)) (sym cards) ∙ now

    -- where notes are made late the sets are those of the start
    late_sets : n0.at_once ≡ false → c1.noted.sets ≡ h.sets
    late_sets late = grow.late late ∙ at_first

    pub evacuated : HasEvacuated rows n0.at_once cw c1.destinations.words h h'
    evacuated = record {
      forward = forward;
      placed = λ a b e. place_free a b e;
      relocates = relocates;
      copied = copied;
      keeps_old = keeps_old;
      words_are = subst (λ (s : ℕ → Bool). AreReachedWords s (heap_of h) c1.destinations.words) (sym sets_same) done.words;
      within = (let a = turn.copying.limit in let b = asked.within_bounds h rows cw can shaped flags flags_are len in omega (arith, a, b));
      regions = regions;
      spares = spares;
      unkept = λ a o n e. tile_outside a (off (a / words) o)
          ∙ turn.table.unkept a (off (a / words) o) n (ap (λ (k : ℕ → Option Stored). k a) (kept_now_is p h.table) ∙ e);
      unmoved = unmoved g;
      halves = halves;
      previous = previous;
      next = next;
      previous_stands = marks_stand h.tams.previous tams'.previous h.previous previous' can.previous previous;
      next_stands = marks_stand h.tams.next tams'.next h.next next' can.next next;
      remembers = remembers;
      fit = record {
        whole_cards = size ∙ can.fit.whole_cards ∙ ap (λ (n : ℕ). n * cw) (sym (cleared.cards ∙ now_cards));
        each_region = cleared.count ∙ now_count ∙ can.fit.each_region ∙ sym regions.count;
      };
      each_card = each ∙ can.each_card ∙ sym (let a = cleared.count ∙ now_count in let b = cleared.cards ∙ now_cards in rw (a, b) refl);
      logs = logs;
      queue = rising;
      dirty = dirtied;
      cleared = λ k e. cleared.cleared k e ∙ grow.sets.emptied_same k ∙ ap (λ (s : Sets). emptied (set_of s k)) at_first;
      gains = gains;
      sets_same = λ late k e. cleared.others k e ∙ ap (λ (s : Sets). set_of s k) (late_sets late);
      entered = λ late card. cleared.entered card
          ∙ ap (λ (s : Sets). if is_chosen rows (card / s.cards_per_region) then false else has s.entered card) (late_sets late);
    }
      where
        now_count : length c1.noted.sets.sets ≡ length h.sets.sets
        now_count = grow.sets.count ∙ ap (λ (s : Sets). length s.sets) at_first
