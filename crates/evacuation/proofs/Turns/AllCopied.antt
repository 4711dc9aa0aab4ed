-- Once all is copied.
use Rattle.std.proofs.Common.{◌≡◌, ◌/◌, ◌∷◌, ◌∙◌, ℕ, Bool, true, false, List, [], Option, Some, None, length, refl, sym, ap, subst, inl}
use Rattle.std.proofs.Common.{inr, arith, slice_get}
use Rattle.std.specs.List.{AllZip}
use Rattle.std.proofs.lemmas.Bool.{cases_Bool}
use Rattle.heap_model.specs.Heap.{Heap, Stored, fields}
use Rattle.heap_model.specs.Relocation.{IsMoved, Relocates}
use Rattle.heap_model.specs.Evacuation.{IsReached, ByRootWord, ByOutside, ByInside, place_after}
use Rattle.heap_model.specs.Evacuation.{IsWord, IsEvacuating, IsEvacuated, IsClean, released}
use Rattle.heap_model.proofs.Lists.{AllZip-get_right}
use Rattle.heap_model.proofs.Evacuated.{evacuated_relocates, word_was, reached_exactly}
use Rattle.regions.proofs.Words.FieldAccess.{count_fields}
use Rattle.regions.specs.Table.{Table}
use Rattle.refinement.proofs.Holders.{object_within}
use Rattle.evacuation.specs.Evacuates.{AreReachedWords}
use Rattle.refinement.specs.Remembering.{field_word}
use Rattle.evacuation.specs.Space.{AreClean, IsRegionSettled, IsDestination, seen_as}
use Rattle.evacuation.specs.Turns.{Pause, IsPause, IsTurn, PauseGoesOn, AreFieldsNoted, AreVisited, HasCopied}
use Rattle.evacuation.specs.Turns.{in_set, kept_now, layout, plan, space}
use Rattle.evacuation.specs.declared.room.Context.{Context}
use Rattle.evacuation.proofs.Lists.{get_below}
use Rattle.evacuation.proofs.Turns.KeptObjects.{kept_object, start_kept}
use Rattle.evacuation.proofs.FieldUpdates.FieldCards.{card_within}

pub reached_inside : (set : ℕ → Bool) (h : Heap) (a : ℕ) → IsReached set h a → set a ≡ true
reached_inside set h a (ByRootWord b r i) = i
reached_inside set h a (ByOutside b d o p i) = i
reached_inside set h a (ByInside b d o p i) = i

module _ (p : Pause) (visited : List Bool) (t t' : Table) (c c' : Context) (roots : List (Option ℕ)) (on : PauseGoesOn p t t' c c')
    (started : t ≡ p.start) (moved : AllZip (IsMoved (place_after (in_set p) (space p t').forward)) p.roots roots)
    (copies : (k : ℕ) → IsDestination c'.destinations k → IsRegionSettled (layout p) c'.noted (space p t') k)
    (are : AreVisited p visited) (outside : AreClean (layout p) (plan p) visited (space p t') (length visited)) where
  abbrev q : IsPause p
  q = on.stands.premises

  abbrev turn : IsTurn p t' c'.destinations
  turn = on.stands.turn

  abbrev set : ℕ → Bool
  set = in_set p

  abbrev forward : ℕ → Option ℕ
  forward = (space p t').forward

  zip_map : (xs ys : List (Option ℕ)) → AllZip (IsMoved (place_after set forward)) xs ys → AllZip (IsWord (place_after set forward)) xs ys
  zip_map [] [] z = tt
  zip_map [] (y ∷ ys) z = absurd z
  zip_map (x ∷ xs) [] z = absurd z
  zip_map (x ∷ xs) (y ∷ ys) z = (inr z.0, zip_map xs ys z.1)

  abbrev now : Heap
  now = record { kept = kept_now p t'; roots = roots }

  -- with the roots as they are now
  evacuating : IsEvacuating set (plan p).heap forward now
  evacuating = let h = turn.copying.heap in record {
    roots = zip_map p.roots roots moved;
    objects = λ a b x e f. let k = h.objects a b x e f in
        record { part = k.part; at = k.at; name = k.name; values = k.values; shape = k.shape; slots = k.slots; words = k.words };
    came = h.came;
    untouched = h.untouched;
    reached = h.reached;
    out = h.out;
  }

  place_out : (a b : ℕ) → place_after set forward a ≡ Some b → set b ≡ false
  place_out a b e = elim (cases_Bool (set a)) [
    | inl k ↦ (let e' : forward a ≡ Some b = rw k at e in turn.copying.heap.out a b k e')
    | inr k ↦ (let e' : Some a ≡ Some b = rw k at e in let same : a ≡ b = cc in ap set (sym same) ∙ k)
  ]

  clean_word : (a : ℕ) (w : Option ℕ) → IsMoved (place_after set forward) w (Some a) → set a ≡ false
  clean_word a None m = absurd m
  clean_word a (Some b) m = place_out b a m

  roots_clean : IsClean set roots
  roots_clean i a e =
      let (w, is, m) = AllZip-get_right (IsMoved (place_after set forward)) p.roots roots moved i (Some a) e in
      clean_word a w m

  -- a field of an object that stood outside: where it named the set, it was visited
  outside_clean : (b i a : ℕ) (y : Stored) → kept_now p t' b ≡ Some y → set b ≡ false → (x : Stored) → (plan p).heap.kept b ≡ Some x
      → slice_get (fields y) i ≡ Some (Some a) → set a ≡ false
  outside_clean b i a y at out x here e = elim (cases_Bool (set a)) [
    | inl inside ↦
        let k = turn.copying.heap.objects b b x here (rw out refl) in
        let same : y ≡ k.part = let e1 = k.at in cc in
        let e' = subst (λ (z : Stored). slice_get (fields z) i ≡ Some (Some a)) same e in
        let (w, is, v) = AllZip-get_right (IsWord (place_after set forward)) (fields x) (fields k.part) k.words i (Some a) e' in
        let was = word_was set (plan p).heap forward (seen_as (space p t') (plan p).heap) turn.copying.heap w a v inside in
        let named = is ∙ ap Some was in
        let within = get_below (fields x) i (Some a) named in
        let first = kept_object p p.start b x (start_kept p b ∙ here) in
        let big = object_within p.start b x q.shaped first in
        let card =
        card_within p visited (field_word b i) p.card_words q refl are.each_card (omega (arith, count_fields x)) in
        outside b i (record { object = x; at = here; outside = out; within = within; card = are.all b i a x here out named inside }) card
        y (Some a) at e
    | inr k ↦ k
  ]

  copy_clean : (b i a : ℕ) (y : Stored) → kept_now p t' b ≡ Some y → IsDestination c'.destinations (b / p.start.words_per_region)
      → slice_get (fields y) i ≡ Some (Some a) → set a ≡ false
  copy_clean b i a y at w e = (copies (b / p.start.words_per_region) w b y refl at i y (Some a) at e).0

  evacuated : IsEvacuated set now
  evacuated = record {
    roots = roots_clean;
    objects = λ b y at out i a e.
        let o = turn.copying.heap.came b y at out in
        elim (cases_Bool (set o.from)) [
          | inl k ↦ (let f : forward o.from ≡ Some b = rw k at o.placed in copy_clean b i a y at (turn.copying.placed o.from b k f) e)
          | inr k ↦ (let f : Some o.from ≡ Some b = rw k at o.placed in
              let same : o.from ≡ b = cc in
              outside_clean b i a y at out o.object (ap (plan p).heap.kept (sym same) ∙ o.at) e)
        ];
  }

  relocated : Relocates (place_after set forward) (plan p).heap (released set now)
  relocated = evacuated_relocates set (plan p).heap forward now evacuating evacuated

  each_copied : (a : ℕ) → IsReached set (plan p).heap a → (b : ℕ) × (forward a ≡ Some b)
  each_copied a r = let (i, b, e) = (reached_exactly set (plan p).heap forward now evacuating evacuated a).0 r in (b, e)

  reached_words : AreReachedWords set (plan p).heap c'.destinations.words
  reached_words = let n = turn.copying in record {
    addresses = n.tally.from;
    distinct = n.tally.distinct;
    reached = λ i a e. let (k, b, f) = n.tally.forwarded i a e in n.heap.reached a b k f;
    each = λ a r. let (b, f) = each_copied a r in n.tally.each a b (reached_inside set (plan p).heap a r) f;
    total = n.tally.total;
  }

  all_noted : AreFieldsNoted p c'.noted t'
  all_noted = record {
    field = λ b i y w at out e.
        let o = turn.copying.heap.came b y at out in
        elim (cases_Bool (set o.from)) [
          | inl k ↦
              let f : forward o.from ≡ Some b = rw k at o.placed in
              let w' = turn.copying.placed o.from b k f in
              inr (copies (b / p.start.words_per_region) w' b y refl at i y w at e)
          | inr k ↦
              let f : Some o.from ≡ Some b = rw k at o.placed in
              let same : b ≡ o.from = cc in
              let here : (plan p).heap.kept b ≡ Some o.object = ap (plan p).heap.kept same ∙ o.at in
              elim (on.after.fields b o.object y i w out (ap (λ (u : Table). kept_now p u b) started ∙ start_kept p b ∙ here) at e) [
                | inl h ↦ inl (o.object, here, h)
                | inr h ↦ inr h.2.settled
              ]
        ];
  }

  pub all_copied : HasCopied p t' c' roots
  all_copied = record {
    moved = relocated;
    reached = each_copied;
    words = reached_words;
    noted = all_noted;
    clean = λ b i a y at out e. evacuated.objects b y at out i a e;
  }
