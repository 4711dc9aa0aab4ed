-- A run moves down in a core: k is the core by its fields before that.
use Rattle.std.proofs.Common.{◌≡◌, ◌≢◌, ◌⊎◌, ◌↔◌, ◌+◌, ◌-◌, ◌*◌, ◌/◌, ◌<◌, ◌≤◌, ◌∷◌, ◌∙◌, ℕ, zero, suc, Bool, true, false, List, []}
use Rattle.std.proofs.Common.{Option, Some, None}
use Rattle.std.proofs.Common.{length, map, refl, sym, ap, ap₂, subst, arith, inl, inr, slice_get, slice_index, nat_lt, if◌then◌else◌}
use Rattle.std.proofs.Common.{IsSome, IsTrue}
use Rattle.std.proofs.lemmas.Bool.{cases_eq, cases_lt, eq-eqb, ne_eqb, le-ltb}
use Rattle.std.proofs.lemmas.List.{length-map}
use Rattle.bit_sets.specs.Bits.{has, is_between}
use Rattle.bit_sets.proofs.BitRanges.{between_yes, between_no_below, between_no_above}
use Rattle.heap_words.specs.Configs.{card_words}
use Rattle.heap_model.specs.Graph.{Graph}
use Rattle.heap_model.specs.Heap.{Heap, Stored, Shows, fields}
use Rattle.heap_model.specs.Redirection.{place_moved, redirected, ObjectMoved, Redirects}
use Rattle.heap_model.specs.Relocation.{Relocates}
use Rattle.heap_model.proofs.Redirected.{moved_relocates}
use Rattle.heap_model.proofs.Relocated.{relocated_shows}
use Rattle.heap_model.proofs.Shown.{will_show}
use Rattle.regions.specs.Tiles.{Object, tile_size}
use Rattle.regions.specs.Table.{Table, First, nth_region, kind_of, object_at, object_words, tile_in, top_of, run_length}
use Rattle.regions.specs.Table.{moved_run, AreHalves, stored_size}
use Rattle.regions.specs.Shaped.{IsShaped}
use Rattle.regions.specs.declared.row.Kind.TheVariants as kinds
use Rattle.regions.proofs.LongRuns.Blocks.{block_cases, first_number, first_void, later_rest, rest_void, void_object}
use Rattle.regions.proofs.LongRuns.Blocks.{reached, reaches, top_near}
use Rattle.regions.proofs.LongRuns.RunMoved as moving
use Rattle.regions.proofs.Tiles.Changes.{object_same}
use Rattle.regions.proofs.Tiles.Released.{untargeted}
use Rattle.regions.proofs.Tiles.ShapedMade.{first_object, kind_at as kind_first_at}
use Rattle.regions.proofs.Tiles.WeakStarts.{free_void}
use Rattle.satb_log.specs.Logs.{log_of}
use Rattle.regions.proofs.Words.Divides.{div_is}
use Rattle.alloc_buffers.specs.Placement as placement
use Rattle.alloc_buffers.specs.Placement.{Buffers, BuffersStand}
use Rattle.alloc_buffers.proofs.Placed.{closed_stand, retired_above}
use Rattle.mark_bitmap.specs.Marks.{is_marked}
use Rattle.mark_bitmap.specs.Tops.{is_below}
use Rattle.mark_bitmap.specs.Kept.{heap_in, kept_in}
use Rattle.mark_bitmap.proofs.KeptLaws.{object_moved}
use Rattle.marker.specs.Stands.{MarkerStands}
use Rattle.marker.specs.declared.marker.Marker.{Marker}
use Rattle.marker.proofs.Forgotten.{table_stands}
use Rattle.marker.proofs.LiveCounts.{marked_words_same}
use Rattle.mark_bitmap.specs.Live.{live_bound_of, marked_words}
use Rattle.mark_bitmap.proofs.LiveWords.{same_bound}
use Rattle.mark_bitmap.proofs.Ranges as ranges
use Rattle.cards.specs.Cards.{Cards, is_dirty}
use Rattle.remembered_sets.specs.Sets.{Sets, may_lead}
use Rattle.remembered_sets.proofs.Laws.{leads_alike}
use Rattle.region_choice.specs.Ages.{Ages, AgesAfter}
use Rattle.refinement.specs.Remembering.{Remembers, field_card, field_word}
use Rattle.refinement.proofs.Fields.{region_of_card}
use Rattle.refinement.proofs.Holders.{object_known, kept_object as object_of}
use Rattle.evacuation.specs.Evacuates.{IsSameBut, MarksAfter}
use Rattle.evacuation.specs.Sliding.{Slide, CanRedirect, HasRedirected, IsRedirectedInPart, Names, RedirectsSome, kept_at}
use Rattle.evacuation.proofs.Turns.KeptObjects.{free_used}
use Rattle.evacuation.proofs.WholePause.ChosenReleased.{mark_gone, mark_left, top_gone, top_left}
use Rattle.evacuation.proofs.Slides.KeptObjects.{kept_as, kept_object, kept_none, kept_some}
use Rattle.evacuation.proofs.Slides.Redirecting.{as_large, as_many, field_was, still_kept}
use Rattle.evacuation.proofs.Slides.Whole.{elsewhere}
use Rattle.step_core.specs.Stands.{CoreState, kept_of, heap_of, ShowsGraph, KeepsFrom, LayersFit, AreWide, RemembersFields, IsCore}
use Rattle.step_core.specs.Reclaimed.{IsReclaimed}
use Rattle.step_core.specs.Forgetting.{HasForgotten, HasEmptied}
use Rattle.step_core.specs.Sliding.{IsMovable, IsLeft, MovesRun, slide_in}
use Rattle.step_core.proofs.Cores.Resting.{aged_stays}
use Rattle.step_core.proofs.Cores.Slots.{shows_now, all_closed, slots_now}
use Rattle.step_core.proofs.Mutating.Small.{option_is, words_are, words_by}
use Rattle.step_core.proofs.Pauses.Refined.{can_scan}

-- a list whose words are redirected one by one
list_redirected : (from to : ℕ) (xs ys : List (Option ℕ)) → length ys ≡ length xs
    → ((i : ℕ) (v : Option ℕ) → slice_get xs i ≡ Some v → slice_get ys i ≡ Some (redirected from to v)) → ys ≡ map (redirected from to) xs
list_redirected from to [] [] long each = refl
list_redirected from to [] (y ∷ ys) long each = absurd (omega arith)
list_redirected from to (x ∷ xs) [] long each = absurd (omega arith)
list_redirected from to (x ∷ xs) (y ∷ ys) long each =
    let head : y ≡ redirected from to x = let e = each zero x refl in cc in
    let rest = list_redirected from to xs ys (omega arith) (λ i v e. each (suc i) v e) in
    rw (head, rest) refl

redirected_from : (from to : ℕ) (v : Option ℕ) → v ≡ Some from → redirected from to v ≡ Some to
redirected_from from to v e = ap (redirected from to) e ∙ rw (eq-eqb from from refl) refl

redirected_other : (from to : ℕ) (v : Option ℕ) → v ≢ Some from → redirected from to v ≡ v
redirected_other from to None n = refl
redirected_other from to (Some a) n = rw (ne_eqb a from (λ e. n (ap Some e))) refl

below_near : (w w' : ℕ) (tops tops' : List ℕ) (a : ℕ) → w' ≡ w → slice_index tops' (a / w) ≡ slice_index tops (a / w)
    → is_below w' tops' a ≡ is_below w tops a
unfolding is_below
below_near w w' tops tops' a e h = ap (λ (n : ℕ). nat_lt a (slice_index tops' (a / n))) e ∙ ap (λ (top : ℕ). nat_lt a top) h

not_below : (w : ℕ) (tops : List ℕ) (a : ℕ) → slice_index tops (a / w) ≤ a → is_below w tops a ≡ false
unfolding is_below
not_below w tops a h = le-ltb _ _ h

kind_first : (t : Table) (j : ℕ) {x : Stored} → nth_region t j ≡ First x → kind_of t j ≡ kinds.First
kind_first t j {x} e = kind_first_at t j (First x) e

-- what isn't dead is kept, and is there
pub is_kept : (k : CoreState) (a : ℕ) (b : Bool) → (kept_of k a ≡ None → IsTrue b) → b ≡ false → (x : Stored) × (kept_of k a ≡ Some x)
is_kept k a b dead e = go (kept_of k a) refl
  where
    wrong : (c : Bool) → c ≡ false → IsTrue c → ⊥
    wrong true q h = cc
    wrong false q h = cc

    go : (o : Option Stored) → kept_of k a ≡ o → (x : Stored) × (kept_of k a ≡ Some x)
    go None q = absurd (wrong b e (dead q))
    go (Some x) q = (x, q)

pub kept_there : (k : CoreState) (a : ℕ) (x : Stored) → kept_of k a ≡ Some x → object_at k.table a ≡ Some x
unfolding kept_of
kept_there k a x e = object_of k.table k.marker.tams k.marker.bitmaps.previous a x e

pub some_there : (t : Table) (a : ℕ) (x : Stored) → object_at t a ≡ Some x → IsSome (object_at t a)
some_there t a x e = go (object_at t a) e
  where
    go : (o : Option Stored) → o ≡ Some x → IsSome o
    go (Some y) q = refl
    go None q = cc

module _ (k : CoreState) (core : IsCore k) (shaped : IsShaped k.table) (first to : ℕ) (mv : IsMovable k first to)
    (idle : k.marker.running ≡ false) (none : k.clearing ≡ None) (clean : (card : ℕ) → is_dirty k.cards card ≡ false) where
  abbrev size : ℕ
  size = k.table.words_per_region

  abbrev s : Slide
  s = slide_in k first to

  abbrev from : ℕ
  from = first * size

  abbrev place : ℕ
  place = to * size

  abbrev m : ℕ
  m = run_length k.table first

  is_kept_at : (a : ℕ) → kept_at s k.table a ≡ kept_of k a
  unfolding kept_of kept_at
  is_kept_at a = refl

  from_region : from / size ≡ first
  from_region = div_is from size first (omega arith) (let z = shaped.positive in omega (arith, z))

  place_region : place / size ≡ to
  place_region = div_is place size to (omega arith) (let z = shaped.positive in omega (arith, z))

  was_there : object_at k.table from ≡ Some mv.object
  was_there = kept_object s k.table from mv.object (is_kept_at from ∙ mv.is_kept)

  pub movable_known : first < length k.table.regions
  movable_known = let lt = object_known k.table from mv.object was_there in let e = from_region in omega (arith, lt, e)

  pub can_redirect : CanRedirect k.table k.marker.tams k.marker.bitmaps.previous k.cards k.sets (card_words k.config) first to
  unfolding kept_of
  can_redirect = record {
    fit = (can_scan k core shaped).fit;
    each_mark = core.layers.marker.previous.each_word;
    each_card = core.cards.each_card;
    clean = clean;
    remembers = core.remembers;
    known = movable_known;
    run = mv.run;
    below = mv.below;
    object = mv.object;
    is_kept = mv.is_kept;
  }

  pub words_copied : (w : ℕ) → w ≡ object_words k.table from → w ≡ tile_size (Object mv.object)
  words_copied w e = e ∙ words_are k.table from mv.object was_there

  module _ (t : Table) (cs : Cards) (h : HasRedirected s k.table t k.cards cs) (shaped1 : IsShaped t) where
    abbrev r : RedirectsSome s k.table t
    r = h.table

    apart : from ≢ place
    apart e = let b = mv.below in
        let same : first ≡ to = sym from_region ∙ ap (λ (n : ℕ). n / size) e ∙ place_region in
        omega (arith, b, same)

    abbrev roots : List (Option ℕ)
    roots = map (redirected from place) k.roots

    abbrev mid : Heap
    mid = heap_in t k.marker.tams k.marker.bitmaps.previous roots

    kept_mid : (a : ℕ) → kept_at s t a ≡ kept_in t k.marker.tams k.marker.bitmaps.previous a
    unfolding kept_at
    kept_mid a = refl

    field_redirected : (a : ℕ) (x y : Stored) → kept_at s t a ≡ Some y → IsRedirectedInPart s x y → (i : ℕ) (v : Option ℕ)
        → slice_get (fields x) i ≡ Some v → slice_get (fields y) i ≡ Some (redirected from place v)
    field_redirected a x y is part i v e = elim (part.each i v e) [
      | inr f ↦ f.1 ∙ ap Some (sym (redirected_from from place v f.0))
      | inl f ↦
          let other : v ≢ Some from = λ q. h.unnamed a i (record { object = y; is = is; field = f ∙ ap Some q }) in
          f ∙ ap Some (sym (redirected_other from place v other))
    ]

    redirects : Redirects from place (heap_of k) mid
    redirects = record {
      roots = refl;
      objects = λ a x e.
          let (y, is, part) = still_kept s apart k.table t r a x (is_kept_at a ∙ e) in
          let same = part.same in (
            y,
            sym (kept_mid a) ∙ is,
            record {
              name = same.name;
              values = same.values;
              shape = same.pointers;
              slots = same.weaks;
              fields_are = list_redirected from place (fields x) (fields y) (as_many x y same) (field_redirected a x y is part);
            },
          );
      none = λ a e.
          sym (kept_mid a) ∙ kept_as s k.table t a r.size (object_same k.table t a (r.unkept a (is_kept_at a ∙ e))) ∙ is_kept_at a ∙ e;
    }

    -- an object of the table between was one, as large
    was_object : (a : ℕ) (y : Stored) → object_at t a ≡ Some y → (x : Stored) × (object_at k.table a ≡ Some x) × IsSameBut x y
    was_object a y e = elim (option_is (object_at k.table a)) [
      | inl o ↦
          let (z, is, part) = r.objects a o.0 o.1 in
          let same : z ≡ y = cc in
          (o.0, o.1, subst (IsSameBut o.0) same part.same)
      | inr o ↦
          let is = object_same k.table t a (r.unkept a (kept_none s k.table a o)) in
          absurd cc
    ]

    words_stay : (a : ℕ) (x : Stored) → object_at k.table a ≡ Some x → object_words t a ≡ object_words k.table a
    words_stay a x o =
        let (y, is, part) = r.objects a x o in
        words_are t a y is ∙ as_large x y part.same ∙ sym (words_are k.table a x o)

    top_same : (j : ℕ) → top_of t j ≡ top_of k.table j
    top_same j = let e = r.size in let u = r.used j in
        let p : j * t.words_per_region ≡ j * size = ap (λ (n : ℕ). j * n) e in
        omega (arith, p, u)

    pub between_stands : MarkerStands t k.marker
    between_stands = table_stands k.table t k.marker core.layers.marker r.count r.size
        (λ j lt. let le = core.layers.marker.previous.top j lt in let e = top_same j in omega (arith, le, e))
        (λ j lt. let le = core.layers.marker.next.top j lt in let e = top_same j in omega (arith, le, e))
        (λ a x marked o. let (y, is, part) = r.objects a x o in (y, is)) (λ a x marked o. let (y, is, part) = r.objects a x o in (y, is))
        (λ a marked. let o = core.layers.marker.previous.object a marked in words_stay a o.0 o.1)
        (λ a marked. let o = core.layers.marker.next.object a marked in words_stay a o.0 o.1) (λ on. absurd (let e = idle in cc))
        (λ on. absurd (let e = idle in cc))

    -- ---- the run
    run1 : kind_of t first ≡ kinds.First
    run1 = r.kinds first ∙ mv.run

    head : (x : Stored) × (nth_region t first ≡ First x)
    head = first_number t first run1

    abbrev x1 : Stored
    x1 = head.0

    at_head : object_at t from ≡ Some x1
    at_head = ap (λ (n : ℕ). object_at t (first * n)) (sym r.size) ∙ first_object t first x1 shaped1.positive head.1

    as_before : tile_size (Object x1) ≡ tile_size (Object mv.object)
    as_before =
        let (x, is, same) = was_object from x1 at_head in
        let e : x ≡ mv.object = let w = was_there in cc in
        as_large x x1 same ∙ ap (λ (z : Stored). tile_size (Object z)) e

    before_head : (x : Stored) × (nth_region k.table first ≡ First x)
    before_head = first_number k.table first mv.run

    before_is : before_head.0 ≡ mv.object
    before_is = let a = first_object k.table first before_head.0 shaped.positive before_head.1 in let w = was_there in cc

    -- it has as many regions as it had
    pub as_long : run_length t first ≡ m
    as_long = elim (cases_lt (run_length t first) m) [
      | inl less ↦ absurd (
          let e = reaches k.table first (run_length t first) before_head.0 shaped before_head.1 less in
          let p : run_length t first * t.words_per_region ≡ run_length t first * size = ap (λ (n : ℕ). run_length t first * n) r.size in
          let q = ap (λ (z : Stored). tile_size (Object z)) before_is in
          let w = as_before in
          let f = reached t first (run_length t first) x1 shaped1 head.1 (omega (arith, e, p, q, w)) in omega arith)
      | inr le ↦ elim (cases_lt m (run_length t first)) [
        | inl less ↦ absurd (
            let e = reaches t first m x1 shaped1 head.1 less in
            let p : m * t.words_per_region ≡ m * size = ap (λ (n : ℕ). m * n) r.size in
            let q = ap (λ (z : Stored). tile_size (Object z)) before_is in
            let w = as_before in
            let f = reached k.table first m before_head.0 shaped before_head.1 (omega (arith, e, p, q, w)) in omega arith)
        | inr ge ↦ omega arith
      ]
    ]

    pub can_move : moving.CanMove t first to
    can_move = record {
      known = let lt = movable_known in let e = r.count in omega (arith, lt, e);
      run = run1;
      below = mv.below;
      free = λ q low high. r.kinds q ∙ mv.free q low high;
      untargeted = untargeted t first (r.unmoved core.layers.unmoved);
    }

    abbrev t' : Table
    t' = moved_run t first to

    moves : moving.MovesRun t t' first to x1
    moves = moving.run_moves t first to x1 shaped1 can_move head.1

    wide_is : t'.words_per_region ≡ size
    wide_is = moves.size ∙ r.size

    -- the places, by the words that regions have
    at_from : first * t.words_per_region ≡ from
    at_from = ap (λ (n : ℕ). first * n) r.size

    at_place : to * t.words_per_region ≡ place
    at_place = ap (λ (n : ℕ). to * n) r.size

    moved_room : object_at t place ≡ None
    moved_room = ap (object_at t) (sym at_place) ∙ moves.room

    moved_is : object_at t' place ≡ Some x1
    moved_is = ap (object_at t') (sym at_place) ∙ moves.is

    moved_gone : object_at t' from ≡ None
    moved_gone = ap (object_at t') (sym at_from) ∙ moves.gone

    others : (a : ℕ) → a ≢ from → a ≢ place → tile_in t' a ≡ tile_in t a
    others a n o = moves.others a (λ e. n (e ∙ at_from)) (λ e. o (e ∙ at_place))

    -- nothing else begins in the regions of the run
    alone : (a : ℕ) → first ≤ a / size → a / size < first + m → a ≢ from → object_at t a ≡ None
    alone a low high n =
        let region : a / t.words_per_region ≡ a / size = ap (λ (w : ℕ). a / w) r.size in
        let long = as_long in
        elim (cases_eq (a / size) first) [
          | inl e ↦ void_object t a (first_void t a shaped1.positive (ap (kind_of t) (region ∙ e) ∙ run1)
              (λ q. n (q ∙ ap (λ (j : ℕ). j * t.words_per_region) (region ∙ e) ∙ at_from)))
          | inr o ↦ void_object t a (rest_void t a (ap (kind_of t) region
              ∙ later_rest t first (a / size - first) (a / size) (omega arith) (omega arith) (omega (arith, long))))
        ]

    module _ (mk : Marker) (st : MarkerStands t mk) (f : HasForgotten t.words_per_region first m k.marker mk)
        (ss : Sets) (empty : HasEmptied first m k.sets ss) (ages : Ages) (aged : AgesAfter (is_between first (first + m)) k.ages ages) where
      abbrev after : CoreState
      after = record k { table = t'; marker = mk; cards = cs; sets = ss; roots = roots; ages = ages }

      off : mk.running ≡ false
      off = ap (λ (x : Marker). x.running) f.same ∙ idle

      gone : ℕ → Bool
      gone a = is_between first (first + m) (a / size)

      region_is : (a : ℕ) → a / t.words_per_region ≡ a / size
      region_is a = ap (λ (w : ℕ). a / w) r.size

      outside : (j : ℕ) → (j < first) ⊎ (first + m ≤ j) → is_between first (first + m) j ≡ false
      outside j (inl less) = between_no_below first (first + m) j less
      outside j (inr past) = between_no_above first (first + m) j past

      some_run : 0 < m
      some_run = omega arith

      -- the top at mark start of the new place's region is its bottom
      place_top : slice_index k.marker.tams.previous to ≤ place
      place_top =
          let lt = movable_known in
          let b = mv.below in
          let le = core.layers.marker.previous.top to (omega (arith, lt, b)) in
          let free = free_used k.table to (mv.free to (omega arith) mv.below) in
          omega (arith, le, free)

      below_after : (a : ℕ) → gone a ≡ false
          → is_below t'.words_per_region mk.tams.previous a ≡ is_below t.words_per_region k.marker.tams.previous a
      unfolding gone
      below_after a out = below_near t.words_per_region t'.words_per_region k.marker.tams.previous mk.tams.previous a moves.size
          (top_left f.previous (a / t.words_per_region) (ap (is_between first (first + m)) (region_is a) ∙ out))

      above_place : is_below t'.words_per_region mk.tams.previous place ≡ false
      above_place =
          let at : place / t'.words_per_region ≡ to = ap (λ (w : ℕ). place / w) wide_is ∙ place_region in
          let left = top_left f.previous to (outside to (inl mv.below)) in
          let top = place_top in
          not_below t'.words_per_region mk.tams.previous place
          (let e = ap (slice_index mk.tams.previous) at in omega (arith, e, left, top))

      marks_after : (a : ℕ) → gone a ≡ false → is_marked mk.bitmaps.previous a ≡ is_marked k.marker.bitmaps.previous a
      unfolding gone
      marks_after a out = mark_left f.previous a (ap (is_between first (first + m)) (region_is a) ∙ out)

      inside : (a : ℕ) → gone a ≡ true → (first ≤ a / size) × (a / size < first + m)
      unfolding gone
      inside a e = elim (block_cases first m (a / size)) [
        | inl out ↦ absurd (let no = outside (a / size) out in cc)
        | inr q ↦ q
      ]

      head_kept : kept_in t k.marker.tams k.marker.bitmaps.previous from ≡ Some x1
      head_kept =
          let (y, is, part) = still_kept s apart k.table t r from mv.object (is_kept_at from ∙ mv.is_kept) in
          let o = kept_object s t from y is in
          let same : y ≡ x1 = let e = at_head in cc in
          sym (kept_mid from) ∙ is ∙ ap Some same

      moved : ObjectMoved mid (heap_in t' mk.tams mk.bitmaps.previous roots) from place x1
      moved = object_moved t t' k.marker.tams mk.tams k.marker.bitmaps.previous mk.bitmaps.previous roots from place x1 gone head_kept
          moved_room moved_is moved_gone (λ a n o. object_same t t' a (others a n o))
          (λ a e n. let q = inside a e in alone a q.0 q.1 n) above_place below_after marks_after

      pub slid_relocates : Relocates (place_moved from place) (heap_of k) (heap_of after)
      unfolding kept_of
      slid_relocates = moved_relocates from place (heap_of k) mid (heap_of after) x1 redirects moved

      slid_exactly : (g : Graph) → ShowsGraph g k → Shows g (heap_of after)
      slid_exactly g q = relocated_shows (place_moved from place) g (heap_of k) (heap_of after) (shows_now k core none g q) slid_relocates

      pub slid_shows : (g : Graph) → ShowsGraph g k → ShowsGraph g after
      slid_shows g q = record { room = q.room; places = q.places; next = q.next; shows = will_show g (heap_of after) (slid_exactly g q) }

      pub slid_keeps : (g : Graph) → KeepsFrom g k → KeepsFrom g after
      slid_keeps g q = record { earlier = q.earlier; marking = λ run. absurd (let e = off in cc) }

      -- ---- the layers
      low_top : (tops tops' : List ℕ) (marks marks' : List Bool)
          → MarksAfter t.words_per_region (is_between first (first + m)) tops tops' marks marks'
          → length tops ≡ length k.table.regions → (j : ℕ) → j < length t.regions → slice_index tops' j ≤ top_of t j
          → slice_index tops' j ≤ top_of t' j
      low_top tops tops' marks marks' after count j lt le = elim (block_cases first m j) [
        | inr q ↦
            let low = top_gone after j (let e = r.count in omega (arith, lt, count, e)) (between_yes first (first + m) j q.0 q.1) in
            let b = ap (λ (w : ℕ). j * w) moves.size in
            omega (arith, low, b)
        | inl out ↦ elim (cases_lt j to) [
          | inl under ↦ let e = top_near t t' j moves.size (moves.same j (inl under)) in omega (arith, le, e)
          | inr over ↦ elim out [
            | inl less ↦
                let free = free_used t j (can_move.free j over less) in
                let b = ap (λ (w : ℕ). j * w) moves.size in
                omega (arith, le, free, b)
            | inr past ↦
                let long = as_long in
                let e = top_near t t' j moves.size (moves.same j (inr (omega (arith, past, long)))) in
                omega (arith, le, e)
          ]
        ]
      ]

      -- a marked object isn't the one that moved, and stays where it is
      stays : (marks : List Bool) → ((a : ℕ) → gone a ≡ true → is_marked marks a ≡ false)
          → ((a : ℕ) → is_marked marks a ≡ true → (x : Stored) × (object_at t a ≡ Some x))
          → (a : ℕ) → is_marked marks a ≡ true → object_at t' a ≡ object_at t a
      unfolding gone
      stays marks cleared there a marked =
          let away : a ≢ from = λ e.
          let some = some_run in
          let in_run : gone a ≡ true = between_yes first (first + m) (a / size)
          (let q = ap (λ (n : ℕ). n / size) e ∙ from_region in omega (arith, q))
          (let q = ap (λ (n : ℕ). n / size) e ∙ from_region in omega (arith, q, some)) in
          (let no = cleared a in_run in cc) in
          let other : a ≢ place = λ e. (let o = there a marked in let room = ap (object_at t) e ∙ moved_room in let is = o.1 in cc) in
          object_same t t' a (others a away other)

      cleared_previous : (a : ℕ) → gone a ≡ true → is_marked mk.bitmaps.previous a ≡ false
      unfolding gone
      cleared_previous a e = mark_gone f.previous a (ap (is_between first (first + m)) (region_is a) ∙ e)

      cleared_next : (a : ℕ) → gone a ≡ true → is_marked mk.bitmaps.next a ≡ false
      unfolding gone
      cleared_next a e = mark_gone f.next a (ap (is_between first (first + m)) (region_is a) ∙ e)

      previous_stays : (a : ℕ) → is_marked mk.bitmaps.previous a ≡ true → object_at t' a ≡ object_at t a
      previous_stays = stays mk.bitmaps.previous cleared_previous st.previous.object

      next_stays : (a : ℕ) → is_marked mk.bitmaps.next a ≡ true → object_at t' a ≡ object_at t a
      next_stays = stays mk.bitmaps.next cleared_next st.next.object

      slid_stands : MarkerStands t' mk
      slid_stands = table_stands t t' mk st moves.count moves.size
          (λ j lt. low_top k.marker.tams.previous mk.tams.previous k.marker.bitmaps.previous mk.bitmaps.previous f.previous
          core.layers.marker.previous.each_region j lt (st.previous.top j lt))
          (λ j lt. low_top k.marker.tams.next mk.tams.next k.marker.bitmaps.next mk.bitmaps.next f.next
          core.layers.marker.next.each_region j lt (st.next.top j lt))
          (λ a x marked o. (x, previous_stays a marked ∙ o)) (λ a x marked o. (x, next_stays a marked ∙ o))
          (λ a marked. words_by t t' a (previous_stays a marked)) (λ a marked. words_by t t' a (next_stays a marked))
          (λ on. absurd (let e = off in cc)) (λ on. absurd (let e = off in cc))

      halves_between : AreHalves t
      halves_between a y o ordinary =
          let (x, is, same) = was_object a y o in
          let kind : kind_of k.table (a / size) ≡ kinds.Ordinary =
          sym (r.kinds (a / size)) ∙ ap (kind_of t) (sym (region_is a)) ∙ ordinary in
          let half = core.layers.halves a x is kind in
          let e = r.size in
          let l = as_large x y same in
          omega (arith, half, e, l)

      wide_between : AreWide t
      wide_between a y o first_is =
          let (x, is, same) = was_object a y o in
          let kind : kind_of k.table (a / size) ≡ kinds.First =
          sym (r.kinds (a / size)) ∙ ap (kind_of t) (sym (region_is a)) ∙ first_is in
          let wide = core.layers.wide a x is kind in
          let e = r.size in
          let l = as_large x y same in
          omega (arith, wide, e, l)

      -- what becomes of the first regions of runs
      first_was : (j : ℕ) → kind_of t' j ≡ kinds.First → (j ≡ to) ⊎ (kind_of t j ≡ kinds.First)
      first_was j e = elim (cases_lt j to) [
        | inl under ↦ inr (sym (moves.below j under) ∙ e)
        | inr over ↦ elim (cases_eq j to) [
          | inl same ↦ inl same
          | inr apart ↦ elim (cases_lt j (to + run_length t first)) [
            | inl within ↦ absurd (let rest = moves.later j (omega (arith, over, apart)) within in cc)
            | inr past ↦ elim (cases_lt j (first + run_length t first)) [
              | inl left ↦ absurd (let free = moves.free j past left in cc)
              | inr above ↦ inr (sym (moves.above j above) ∙ e)
            ]
          ]
        ]
      ]

      wide_after : AreWide t'
      wide_after a y o first_is =
          let at : a / t'.words_per_region ≡ a / size = ap (λ (w : ℕ). a / w) wide_is in
          let head_wide = wide_between from x1 at_head (ap (kind_of t) (region_is from ∙ from_region) ∙ run1) in
          let e = moves.size in
          elim (cases_eq a place) [
            | inl same ↦
                let is : y ≡ x1 = let q = ap (object_at t') same in let i = moved_is in cc in
                let l = ap (λ (z : Stored). tile_size (Object z)) is in
                omega (arith, head_wide, e, l)
            | inr other ↦
                let away : a ≢ from = λ q. (let g = ap (object_at t') q in let n = moved_gone in cc) in
                let before = sym (object_same t t' a (others a away other)) ∙ o in
                elim (first_was (a / size) (ap (kind_of t') (sym at) ∙ first_is)) [
                  | inl to_is ↦ absurd (
                      let void = free_object a to_is in cc)
                  | inr kind ↦
                      let wide = wide_between a y before (ap (kind_of t) (region_is a) ∙ kind) in
                      omega (arith, wide, e)
                ]
          ]
        where
          free_object : (b : ℕ) → b / size ≡ to → object_at t b ≡ None
          free_object b q = void_object t b (free_void t b (ap (kind_of t) (region_is b ∙ q) ∙ can_move.free to (omega arith) mv.below))

      module _ (closed_all : k.buffers ≡ placement.closed k.buffers.words (length k.buffers.open_buffers)) where
        layers_after : LayersFit k.config t' k.buffers mk
        layers_after = record {
          region_size = wide_is ∙ core.layers.region_size;
          region_count = moves.count ∙ r.count ∙ core.layers.region_count;
          buffer_size = core.layers.buffer_size;
          open_buffers = core.layers.open_buffers;
          logs = ap (λ (x : Marker). length x.logs) f.same ∙ core.layers.logs;
          waits = ap (λ (x : Marker). x.waiting.room) f.same ∙ core.layers.waits;
          buffers =
              subst (λ (b : Buffers). BuffersStand t' b) (sym closed_all) (closed_stand t' k.buffers.words (length k.buffers.open_buffers));
          unmoved = moves.unmoved (r.unmoved core.layers.unmoved);
          marker = slid_stands;
          above_previous = retired_above t' k.buffers (length k.buffers.open_buffers) (slice_index mk.tams.previous)
              (ap (λ (b : Buffers). b.open_buffers) closed_all) slid_stands.previous.top;
          above_next = retired_above t' k.buffers (length k.buffers.open_buffers) (slice_index mk.tams.next)
              (ap (λ (b : Buffers). b.open_buffers) closed_all) slid_stands.next.top;
          room = λ mutator. subst (λ (x : Marker). length (log_of x.logs mutator) < 8) (sym f.same) (core.layers.room mutator);
          halves = moving.halves_moved t t' first to x1 can_move shaped1.positive moves halves_between;
          wide = wide_after;
        }

        whole_cards : size ≡ k.sets.cards_per_region * card_words k.config
        whole_cards = core.layers.region_size ∙ core.cards.whole_cards

        -- the object that is kept at an address afterwards
        kept_after : (a : ℕ) (y : Stored) → kept_of after a ≡ Some y → ((a ≡ place) × (y ≡ x1)) ⊎ ((a ≢ from) × (kept_at s t a ≡ Some y))
        unfolding kept_of
        kept_after a y e = elim (cases_eq a place) [
          | inl q ↦ inl (q, (let g = ap (kept_of after) q in let i = moved.is in cc))
          | inr other ↦
              let away : a ≢ from = λ q. (let g = ap (kept_of after) q in let n = moved.gone in cc) in
              inr (away, kept_mid a ∙ sym (moved.others a away other) ∙ e)
        ]

        -- a field that is as it was, of another object, is remembered as it was
        remembered : (a i target : ℕ) (x : Stored) → a ≢ from → target ≢ from → kept_of k a ≡ Some x
            → slice_get (fields x) i ≡ Some (Some target) → target / size ≢ field_word a i / size
            → may_lead ss (target / size) (field_card (card_words k.config) a i) ≡ true
        remembered a i target x away other is field leaves =
            let card : ℕ = field_card (card_words k.config) a i in
            let own = region_of_card size (card_words k.config) k.sets.cards_per_region (field_word a i) shaped.positive whole_cards in
            let there = (all_closed k core none).field a i target x is field in
            let n : Names s k.table a i target = record { object = x; is = is_kept_at a ∙ is; field = field } in
            let stays : is_between first (first + m) (field_word a i / size) ≡ false = elim (block_cases first m (field_word a i / size)) [
              | inl out ↦ outside (field_word a i / size) out
              | inr q ↦ absurd (elsewhere k.table k.marker.tams k.marker.bitmaps.previous k.cards k.sets (card_words k.config) first to
                  can_redirect shaped a i target n away q.0 q.1)
            ] in
            let set : is_between first (first + m) (target / size) ≡ false = elim (block_cases first m (target / size)) [
              | inl out ↦ outside (target / size) out
              | inr q ↦ absurd (
                  let z = kept_object s k.table target there.0 (is_kept_at target ∙ there.1) in
                  let (y, o, part) = r.objects target there.0 z in
                  let gone = alone target q.0 q.1 other in cc)
            ] in
            elim (core.remembers.each a i target (record { object = x; kept_is = is; field_is = field; leaves = leaves })) [
              | inl dirty ↦ absurd (let no = clean card in cc)
              | inr covered ↦ leads_alike k.sets ss (target / size) card empty.cards (empty.others (target / size) set)
                  (empty.entered card ∙ ap (λ (b : Bool). if b then false else has k.sets.entered card)
                  (ap (is_between first (first + m)) own ∙ stays)) ∙ covered
            ]

        slid_remembers : RemembersFields after
        slid_remembers = subst (λ (w : ℕ). Remembers w (kept_of after) (card_words k.config) (is_dirty cs) (may_lead ss)) (sym wide_is)
            (record {
              each = λ a i target x. elim (kept_after a x.object x.kept_is) [
                | inl q ↦
                    let same : slice_get (fields x1) i ≡ Some (Some target) =
                    ap (λ (z : Stored). slice_get (fields z) i) (sym q.1) ∙ x.field_is in
                    let apart : target / size ≢ field_word place i / size =
                    λ e. x.leaves (e ∙ ap (λ (b : ℕ). field_word b i / size) (sym q.0)) in
                    inl (ap (λ (b : ℕ). is_dirty cs (field_card (card_words k.config) b i)) q.0 ∙ h.own i (record {
                      target = target;
                      names = record { object = x1; is = kept_mid from ∙ head_kept; field = same };
                      leaves = apart;
                    }))
                | inr q ↦
                    let other : target ≢ from =
                    λ e. h.unnamed a i (record { object = x.object; is = q.1; field = x.field_is ∙ ap (λ (b : ℕ). Some (Some b)) e }) in
                    let (z, zo, zs) = was_object a x.object (kept_object s t a x.object q.1) in
                    let was : kept_of k a ≡ Some z = sym (is_kept_at a) ∙ kept_was a z x.object zo q.1 in
                    let (y, yo, part) = r.objects a z zo in
                    let y_is : y ≡ x.object = let o = kept_object s t a x.object q.1 in cc in
                    elim (field_was s apart k.table t r z x.object i (Some target) (subst (IsRedirectedInPart s z) y_is part) x.field_is) [
                      | inl f ↦ inr (remembered a i target z q.0 other was f x.leaves)
                      | inr f ↦ inl (h.outside a i q.0 (
                        record { object = z; is = is_kept_at a ∙ was; field = f.0 },
                        record { object = x.object; is = q.1; field = x.field_is ∙ ap Some f.1 },
                      ))
                    ]
              ];
            })
          where
            kept_was : (a : ℕ) (z y : Stored) → object_at k.table a ≡ Some z → kept_at s t a ≡ Some y → kept_at s k.table a ≡ Some z
            kept_was a z y o e = kept_some s t k.table a y e (sym r.size) ∙ o

        pub slid_kept : IsCore after
        slid_kept = aged_stays k core t' k.buffers mk cs ss roots ages
            (length-map k.roots (redirected from place)) aged.count layers_after (record {
              whole_cards = core.cards.whole_cards ∙ ap (λ (q : ℕ). q * card_words k.config) (sym empty.cards);
              each_region = empty.count ∙ core.cards.each_region;
              each_card = h.each_card ∙ core.cards.each_card ∙ ap (λ (n : ℕ). n * k.sets.cards_per_region) (sym empty.count)
                  ∙ ap (λ (q : ℕ). length ss.sets * q) (sym empty.cards);
              each_mutator = ap (λ (ls : List (List ℕ)). length ls) h.logs ∙ core.cards.each_mutator;
            }) slid_remembers (slots_now after core.footing.graph (slid_exactly core.footing.graph core.rests.shows)) slid_shows slid_keeps

        -- exactly the regions that the run leaves are reclaimed
        kinds_was : (j : ℕ) → kind_of t j ≡ kind_of k.table j
        kinds_was j = r.kinds j

        reclaimed : (j : ℕ) → IsReclaimed k.table t' j ↔ IsLeft first to m j
        reclaimed j = (
          λ p. elim (cases_lt j to) [
            | inl under ↦ absurd (p.used (sym (r.kinds j) ∙ sym (moves.below j under) ∙ p.free))
            | inr over ↦ elim (cases_lt j (to + m)) [
              | inl within ↦ absurd (elim (cases_eq j to) [
                | inl same ↦ (let head' = kind_first t' j (ap (nth_region t') same ∙ moves.first) in let fr = p.free in cc)
                | inr apart' ↦
                    (let long = as_long in let rest = moves.later j (omega (arith, over, apart')) (omega (arith, within, long)) in
                    let fr = p.free in cc)
              ])
              | inr past ↦ elim (cases_lt j first) [
                | inl low ↦ absurd (p.used (mv.free j over low))
                | inr high ↦ elim (cases_lt j (first + m)) [
                  | inl inside ↦ record { old = high; within = inside; past = past }
                  | inr above ↦ absurd (let long = as_long in
                      p.used (sym (r.kinds j) ∙ sym (moves.above j (omega (arith, above, long))) ∙ p.free))
                ]
              ]
            ]
          ],
          λ q. (
              let old = q.old in
              let within = q.within in
              let past = q.past in
              let long = as_long in
              record {
                used = λ free. elim (cases_eq j first) [
                  | inl same ↦ (let run = ap (kind_of k.table) same ∙ mv.run in cc)
                  | inr apart' ↦ (let rest = later_rest k.table first (j - first) j (omega arith) (omega arith) (omega arith) in cc)
                ];
                free = moves.free j (omega (arith, past, long)) (omega (arith, within, long));
              }),
        )

        -- ---- what is live elsewhere
        bound_between : (tops : List ℕ) (marks : List Bool)
            → ((a : ℕ) → is_marked marks a ≡ true → (x : Stored) × (object_at k.table a ≡ Some x))
            → (j : ℕ) → live_bound_of t tops marks j ≡ live_bound_of k.table tops marks j
        unfolding live_bound_of
        bound_between tops marks there j =
            let top : ℕ = slice_index tops j in
            let z : j * t.words_per_region ≡ j * size = ap (λ (n : ℕ). j * n) r.size in
            let at = ap₂ (λ (b n : ℕ). marked_words t marks b n) z (ap (λ (b : ℕ). top - b) z) in
            let same = marked_words_same k.table t marks marks (top - j * size) (j * size) (λ x low high. refl)
            (λ x low high marked. let o = there x marked in words_stay x o.0 o.1) in
            omega (arith, at, same, top_same j)

        bounds_same : (j : ℕ) → (j < to) ⊎ (first + m ≤ j) → live_bound_of t' mk.tams.previous mk.bitmaps.previous j
            ≡ live_bound_of k.table k.marker.tams.previous k.marker.bitmaps.previous j
        bounds_same j out =
            let long = as_long in
            let apart' : (j < first) ⊎ (first + m ≤ j) = elim out [
              | inl under ↦ inl (let b = mv.below in omega (arith, under, b))
              | inr past ↦ inr past
            ] in
            same_bound t t' k.marker.tams.previous mk.tams.previous k.marker.bitmaps.previous mk.bitmaps.previous j shaped1 moves.size
            (moves.same j (elim out [ inl under ↦ inl under | inr past ↦ inr (omega (arith, past, long)) ]))
            (top_left f.previous j (outside j apart'))
            (λ a i. mark_left f.previous a
            (ap (is_between first (first + m)) (ranges.nth_region t.words_per_region j a i) ∙ outside j apart'))
            between_stands.previous
            ∙ bound_between k.marker.tams.previous k.marker.bitmaps.previous core.layers.marker.previous.object j

        words_same : (a : ℕ) → a ≢ from → a ≢ place → stored_size (kept_of after a) ≡ stored_size (kept_of k a)
        unfolding kept_of
        words_same a away other = elim (option_is (kept_of k a)) [
          | inl o ↦
              let (y, is, part) = still_kept s apart k.table t r a o.0 (is_kept_at a ∙ o.1) in
              let now : kept_of after a ≡ Some y = moved.others a away other ∙ sym (kept_mid a) ∙ is in
              ap stored_size now ∙ as_large o.0 y part.same ∙ sym (ap stored_size o.1)
          | inr o ↦ ap stored_size (moved.others a away other ∙ redirects.none a o) ∙ sym (ap stored_size o)
        ]

        pub moves_from : (c : CoreState) → k ≡ c → (n w : ℕ) → n ≡ m → w ≡ tile_size (Object mv.object) → MovesRun first to n w c after
        unfolding kept_of
        moves_from c e n w many large = subst (λ (d : CoreState). MovesRun first to n w d after) e
            (subst (λ (x : ℕ). MovesRun first to x w k after) (sym many) (record {
              movable = mv;
              regions = refl;
              words = large;
              relocates = slid_relocates;
              between = t;
              redirected = h;
              table = refl;
              forgotten = subst (λ (x : ℕ). HasForgotten x first m k.marker mk) r.size f;
              emptied = empty;
              ages = aged;
              others = record { bounds = bounds_same; words = words_same };
              kinds_are = record {
                size = wide_is;
                count = moves.count ∙ r.count;
                head = kind_first t' to moves.first;
                later = λ j low high. (let long = as_long in moves.later j low (omega (arith, high, long)));
                left = λ j low high. (let long = as_long in moves.free j (omega (arith, low, long)) (omega (arith, high, long)));
                others = λ j out. elim out [
                  | inl under ↦ moves.below j under ∙ r.kinds j
                  | inr past ↦ (let long = as_long in moves.above j (omega (arith, past, long)) ∙ r.kinds j)
                ];
              };
              reclaimed = reclaimed;
              same = refl;
            }))
