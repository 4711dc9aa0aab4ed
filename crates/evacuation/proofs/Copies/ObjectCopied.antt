-- An object of the set is copied.
use Rattle.std.proofs.Common.{◌≡◌, ◌≢◌, ◌+◌, ◌*◌, ◌/◌, ◌<◌, ◌≤◌, ◌⊎◌, ◌∷◌, ◌++◌, ◌∙◌, ℕ, suc, Bool, false, List, [], Option, Some, None}
use Rattle.std.proofs.Common.{length, refl, sym, ap, subst, inl, inr, arith, length-append, slice_get}
use Rattle.std.proofs.lemmas.Bool.{cases_eq}
use Rattle.heap_model.specs.Heap.{Heap, Stored, fields}
use Rattle.heap_model.specs.Evacuation.{IsEvacuating, Copies}
use Rattle.heap_model.proofs.Lists.{get-push_last, get_kept-append}
use Rattle.heap_model.proofs.Evacuated as evacuated
use Rattle.object_copy.specs.Copies.{Destinations}
use Rattle.evacuation.specs.Evacuates.{stored_words, words_at}
use Rattle.evacuation.specs.Space.{Layout, Plan, Space, IsPlan, IsCopying, IsDestination, IsTally, IsNamed, IsAfter, CopiesTo, GoesOn}
use Rattle.evacuation.proofs.Notes.{none_for, notes_stay}
use Rattle.evacuation.specs.Space.{NewCrossing, TakesNext, HasCopyRoom, AreFilled, AreSpared, filled, set_of, seen_as, words_of}
use Rattle.evacuation.proofs.Lists.{push_place}
use Rattle.evacuation.specs.declared.room.Notes.{Notes}

total_push : (kept : ℕ → Option Stored) (xs : List ℕ) (a : ℕ) → words_at kept (xs ++ a ∷ []) ≡ words_at kept xs + stored_words (kept a)
total_push kept [] a = omega arith
total_push kept (b ∷ xs) a = let e = total_push kept xs a in omega arith

room_pushed : (words free left left' fill size : ℕ) → 2 * (left + fill) ≤ (free + 1) * words → left' + size ≡ left
    → 2 * (left' + (fill + size)) ≤ (free + 1) * words
room_pushed words free left left' fill size h e = omega arith

room_opened : (words free left size : ℕ) (last : Option ℕ) → HasCopyRoom words (suc free) last left → 2 * size ≤ words → size ≤ left
    → ((f : ℕ) → last ≡ Some f → words < f + size) → 2 * (left + 0) ≤ (free + 1) * words
room_opened words free left size None h s l n = omega arith
room_opened words free left size (Some f) h s l n = let k = n f refl in omega arith

-- the open destination gets an object more
filled_on : (words n n' fill fill' copied copied' size : ℕ) → n' ≡ n → fill' ≡ fill + size → copied' ≡ copied + size
    → AreFilled words n fill copied → AreFilled words n' fill' copied'
filled_on words n n' fill fill' copied copied' size e f g h =
    let a = h.some in
    let b = h.any in
    let c = h.closed in
    rw (e, f, g) (record { some = omega arith; any = omega arith; closed = omega arith; all = λ two. let d = h.all two in omega arith })

-- another one is opened for it: what was open is closed for want of room
filled_next : (words n n' fill' copied copied' size : ℕ) (last : Option ℕ) → n' ≡ n + 1 → fill' ≡ size → copied' ≡ copied + size
    → 0 < size → 2 * size ≤ words → ((f : ℕ) → last ≡ Some f → words < f + size) → AreSpared words n last copied
    → AreFilled words n' fill' copied'
filled_next words n n' fill' copied copied' size None e f g z s k h =
    rw (e, f, g, h) (record { some = omega arith; any = omega arith; closed = omega arith; all = λ two. absurd (omega arith) })
filled_next words n n' fill' copied copied' size (Some fill) e f g z s k h =
    let a = k fill refl in
    let b = h.closed in
    let c = h.some in
    rw (e, f, g) (record { some = omega arith; any = omega arith; closed = omega arith; all = λ two. omega arith })

-- the object of the set stands there until it is forwarded
pub named_object : (l : Layout) (p : Plan) (s : Space) (d : Destinations) (a : ℕ) → IsCopying l p s d → (n : IsNamed l p a)
    → s.forward a ≡ None → s.object a ≡ Some n.object
named_object l p s d a c n un = c.heap.untouched a n.inside un ∙ n.at

pub named_small : (l : Layout) (p : Plan) (s : Space) (d : Destinations) (a : ℕ) (x : Stored) → IsPlan l p → IsCopying l p s d
    → IsNamed l p a
    → s.forward a ≡ None → s.object a ≡ Some x → 2 * words_of x ≤ l.words
named_small l p s d a x q c n un at =
    let e = named_object l p s d a c n un in
    let same : n.object ≡ x = cc in
    q.small a x (n.at ∙ ap Some same) n.inside

-- what is said of functions is said of those with the same values
pub same_evacuating : (set : ℕ → Bool) (h : Heap) (f f' : ℕ → Option ℕ) (roots : List (Option ℕ)) (k k' : ℕ → Option Stored)
    → ((a : ℕ) → f a ≡ f' a) → ((a : ℕ) → k a ≡ k' a)
    → IsEvacuating set h f (record { kept = k; roots = roots }) → IsEvacuating set h f' (record { kept = k'; roots = roots })
same_evacuating set h f f' roots k k' p q v =
    subst (λ (u : ℕ → Option Stored). IsEvacuating set h f' (record { kept = u; roots = roots })) (λ i a. q a i)
    (subst (λ (u : ℕ → Option ℕ). IsEvacuating set h u (record { kept = k; roots = roots })) (λ i a. p a i) v)

pub same_tally : (set : ℕ → Bool) (h : Heap) (f f' : ℕ → Option ℕ) (w w' : ℕ) → ((a : ℕ) → f a ≡ f' a) → w ≡ w'
    → IsTally set h f w → IsTally set h f' w'
same_tally set h f f' w w' p q t =
    subst (λ (u : ℕ). IsTally set h f' u) q (subst (λ (u : ℕ → Option ℕ). IsTally set h u w) (λ i a. p a i) t)

-- a destination is the one that the copy went to, or was one before
pub taken_by : (l : Layout) (s s' : Space) (d d' : Destinations) (k size : ℕ) → GoesOn l s s' d d' k ⊎ TakesNext l s s' d d' k size
    → (j : ℕ) → IsDestination d' j → (j ≡ k) ⊎ IsDestination d j
taken_by l s s' d d' k size how j w = elim how [
  | inl g ↦ inr (record { at = w.at; is = ap (λ (v : List ℕ). slice_get v w.at) (sym g.regions) ∙ w.is })
  | inr g ↦ elim (push_place d.regions k j w.at (ap (λ (v : List ℕ). slice_get v w.at) (sym g.regions) ∙ w.is)) [
    | inl q ↦ inl q.1
    | inr q ↦ inr (record { at = w.at; is = q })
  ]
]

module _ (l : Layout) (p : Plan) (s s' : Space) (d d' : Destinations) (from to : ℕ) (x : Stored)
    (c : IsCopying l p s d) (u : CopiesTo l s s' d d' from to x) (n : IsNamed l p from) (at : s.object from ≡ Some x)
    (un : s.forward from ≡ None) (small : 2 * words_of x ≤ l.words) where
  abbrev k : ℕ
  k = u.region

  clear : l.chosen k ≡ false
  clear = elim u.how [ inl g ↦ c.taken k (c.last k g.last) | inr g ↦ c.free k g.was_free ]

  to_outside : set_of l to ≡ false
  to_outside = ap l.chosen u.at_region ∙ clear

  not_from : (b : ℕ) → set_of l b ≡ false → b ≡ from → ⊥
  not_from b o q = let i = n.inside in let e = ap (set_of l) q in cc

  not_to : (b : ℕ) (y : Stored) → s.object b ≡ Some y → b ≡ to → ⊥
  not_to b y e q = let r = u.room in let h = ap s.object q in cc

  pub frame : (b : ℕ) (y : Stored) → set_of l b ≡ false → s.object b ≡ Some y → s'.object b ≡ Some y
  frame b y o e = u.others b (not_from b o) (not_to b y e) ∙ e

  back : (b : ℕ) (y : Stored) → s'.object b ≡ Some y → (b ≡ to → ⊥) → s.object b ≡ Some y
  back b y e o = sym (u.others b (λ q. let h = ap s'.object q in let g = u.gone in cc) o) ∙ e

  taken_cases : (j : ℕ) → IsDestination d' j → (j ≡ k) ⊎ IsDestination d j
  taken_cases j w = taken_by l s s' d d' k (words_of x) u.how j w

  pub taken_grows : (i j : ℕ) → slice_get d.regions i ≡ Some j → slice_get d'.regions i ≡ Some j
  taken_grows i j e = elim u.how [
    | inl g ↦ ap (λ (v : List ℕ). slice_get v i) g.regions ∙ e
    | inr g ↦ ap (λ (v : List ℕ). slice_get v i) g.regions ∙ get_kept-append d.regions (k ∷ []) j i e
  ]

  taken_on : (j : ℕ) → IsDestination d j → IsDestination d' j
  taken_on j w = record { at = w.at; is = taken_grows w.at j w.is }

  is_taken : IsDestination d' k
  is_taken = elim u.how [
    | inl g ↦ taken_on k (c.last k g.last)
    | inr g ↦ record {
      at = length d.regions;
      is = ap (λ (v : List ℕ). slice_get v (length d.regions)) g.regions ∙ get-push_last d.regions k;
    }
  ]

  copies : Copies (set_of l) s.forward s'.forward (seen_as s p.heap) (seen_as s' p.heap) from to x
  copies = record {
    inside = n.inside;
    outside = to_outside;
    unforwarded = un;
    object = at;
    room = u.room;
    forwarded = u.forwarded;
    forward_others = u.forward_others;
    copy = u.copy;
    others = u.others;
    roots = refl;
  }

  forward_on : (a b : ℕ) → s.forward a ≡ Some b → s'.forward a ≡ Some b
  forward_on a b e = u.forward_others a (λ q. let h = ap s.forward q in let g = un in cc) ∙ e

  forward_cases : (a b : ℕ) → s'.forward a ≡ Some b → ((a ≡ from) × (b ≡ to)) ⊎ ((a ≡ from → ⊥) × (s.forward a ≡ Some b))
  forward_cases a b e = elim (cases_eq a from) [
    | inl q ↦ inl (q, (let h = ap s'.forward q in let g = u.forwarded in cc))
    | inr q ↦ inr (q, sym (u.forward_others a q) ∙ e)
  ]

  tally : IsTally (set_of l) p.heap s.forward d.words → IsTally (set_of l) p.heap s'.forward d'.words
  tally t = record {
    from = t.from ++ from ∷ [];
    distinct = λ i j a ei ej. distinct i j a (push_place t.from from a i ei) (push_place t.from from a j ej);
    forwarded = λ i a e. elim (push_place t.from from a i e) [
      | inl q ↦ (ap (set_of l) q.1 ∙ n.inside, to, ap s'.forward q.1 ∙ u.forwarded)
      | inr q ↦ let (g, b, f) = t.forwarded i a q in (g, b, forward_on a b f)
    ];
    each = λ a b i e. elim (forward_cases a b e) [
      | inl q ↦ (length t.from, get-push_last t.from from ∙ ap Some (sym q.0))
      | inr q ↦ let (j, g) = t.each a b i q.1 in (j, get_kept-append t.from (from ∷ []) a j g)
    ];
    total =
        let same : p.heap.kept from ≡ Some x = sym (c.heap.untouched from n.inside un) ∙ at in
        let e = ap stored_words same in
        let g = total_push p.heap.kept t.from from in
        let h = t.total in
        let z = u.words in
        omega (arith, e, g, h, z);
  }
    where
      never : (i : ℕ) → slice_get t.from i ≡ Some from → ⊥
      never i e = let (g, b, f) = t.forwarded i from e in cc

      distinct : (i j a : ℕ) → ((i ≡ length t.from) × (a ≡ from)) ⊎ (slice_get t.from i ≡ Some a)
          → ((j ≡ length t.from) × (a ≡ from)) ⊎ (slice_get t.from j ≡ Some a) → i ≡ j
      distinct i j a (inl q) (inl r) = q.0 ∙ sym r.0
      distinct i j a (inl q) (inr r) = absurd (never j (r ∙ ap Some q.1))
      distinct i j a (inr q) (inl r) = absurd (never i (q ∙ ap Some r.1))
      distinct i j a (inr q) (inr r) = t.distinct i j a q r

  room_on : GoesOn l s s' d d' k → HasCopyRoom l.words s'.free_count (filled s' d'.last) s'.left
  room_on g =
      let r' : 2 * (s.left + s.used k) ≤ (s.free_count + 1) * l.words =
      subst (λ (w : Option ℕ). HasCopyRoom l.words s.free_count (filled s w) s.left) g.last c.room in
      rw (u.last, u.used, g.free_count) (room_pushed l.words s.free_count s.left s'.left (s.used k) (words_of x) r' (u.left clear))

  room_next : TakesNext l s s' d d' k (words_of x) → HasCopyRoom l.words s'.free_count (filled s' d'.last) s'.left
  room_next g =
      let e = u.left clear in
      let next : s.free_count ≡ suc s'.free_count = (let q = g.free_count in omega arith) in
      let r' : HasCopyRoom l.words (suc s'.free_count) (filled s d.last) s.left =
      subst (λ (m : ℕ). HasCopyRoom l.words m (filled s d.last) s.left) next c.room in
      let r = room_opened l.words s'.free_count s.left (words_of x) (filled s d.last) r' small (omega arith) g.full in
      rw (u.last, u.used, g.empty) (room_pushed l.words s'.free_count s.left s'.left 0 (words_of x) r e)

  spared_by : AreFilled l.words (length d'.regions) (s'.used k) d'.words
      → AreSpared l.words (length d'.regions) (filled s' d'.last) d'.words
  spared_by h = subst (λ (m : Option ℕ). AreSpared l.words (length d'.regions) (filled s' m) d'.words) (sym u.last) h

  spared_on : GoesOn l s s' d d' k → AreSpared l.words (length d'.regions) (filled s' d'.last) d'.words
  spared_on g =
      let h : AreFilled l.words (length d.regions) (s.used k) d.words =
      subst (λ (m : Option ℕ). AreSpared l.words (length d.regions) (filled s m) d.words) g.last c.spared in
      spared_by (filled_on l.words (length d.regions) (length d'.regions) (s.used k) (s'.used k) d.words d'.words (words_of x)
      (ap (λ (v : List ℕ). length v) g.regions) u.used u.words h)

  spared_next : TakesNext l s s' d d' k (words_of x) → AreSpared l.words (length d'.regions) (filled s' d'.last) d'.words
  spared_next g =
      spared_by (filled_next l.words (length d.regions) (length d'.regions) (s'.used k) d.words d'.words (words_of x) (filled s d.last)
      (ap (λ (v : List ℕ). length v) g.regions ∙ length-append d.regions (k ∷ []))
      (let a = u.used in let b = g.empty in omega arith) u.words (omega arith) small g.full c.spared)

  pub copied_copying : IsCopying l p s' d'
  copied_copying = record {
    heap = evacuated.copied (set_of l) p.heap s.forward (seen_as s p.heap) c.heap s'.forward (seen_as s' p.heap) from to x copies n.reached;
    free = λ j e. elim u.how [
      | inl g ↦ c.free j (sym (g.free j) ∙ e)
      | inr g ↦ elim (cases_eq j k) [ inl q ↦ ap l.chosen q ∙ clear | inr q ↦ c.free j (sym (g.free j q) ∙ e) ]
    ];
    taken = λ j w. elim (taken_cases j w) [ inl q ↦ ap l.chosen q ∙ clear | inr q ↦ c.taken j q ];
    last = λ j e. let q : k ≡ j = (let z = u.last in cc) in subst (IsDestination d') q is_taken;
    last_at = λ j i e f.
        let q : k ≡ j = (let z = u.last in cc) in
        elim u.how [
          | inl g ↦ c.last_at j i (g.last ∙ ap Some q) (ap (λ (v : List ℕ). slice_get v i) (sym g.regions) ∙ f)
              ∙ ap (λ (v : List ℕ). length v) (sym g.regions)
          | inr g ↦ elim (push_place d.regions k j i (ap (λ (v : List ℕ). slice_get v i) (sym g.regions) ∙ f)) [
            | inl z ↦
                let e1 = ap (λ (v : List ℕ). length v) g.regions in
                let e2 = length-append d.regions (k ∷ []) in
                let e3 = z.0 in
                omega arith
            | inr z ↦ absurd (let a = c.apart k (record { at = i; is = z ∙ ap Some (sym q) }) in let b = g.was_free in cc)
          ]
        ];
    apart = λ j w. elim u.how [
      | inl g ↦ g.free j ∙ c.apart j (record { at = w.at; is = ap (λ (v : List ℕ). slice_get v w.at) (sym g.regions) ∙ w.is })
      | inr g ↦ elim (cases_eq j k) [
        | inl q ↦ ap s'.free q ∙ g.taken
        | inr q ↦ elim (taken_cases j w) [ inl r ↦ absurd (q r) | inr r ↦ g.free j q ∙ c.apart j r ]
      ]
    ];
    placed = λ a b i e. elim (forward_cases a b e) [
      | inl q ↦ subst (IsDestination d') (sym (ap (λ (v : ℕ). v / l.words) q.1 ∙ u.at_region)) is_taken
      | inr q ↦ taken_on (b / l.words) (c.placed a b i q.1)
    ];
    room = elim u.how [ inl g ↦ room_on g | inr g ↦ room_next g ];
    list = elim u.how [
      | inl g ↦ (let a = g.free_count in let b = g.room in let q = c.list in omega arith)
      | inr g ↦ (let a = g.free_count in let b = g.room in let q = c.list in omega arith)
    ];
    limit = let e = u.left clear in let q = c.limit in let z = u.words in omega arith;
    tally = tally c.tally;
    frees = elim u.how [
      | inl g ↦ (let a = ap (λ (v : List ℕ). length v) g.regions in let b = g.free_count in let q = c.frees in omega arith)
      | inr g ↦ (let a = ap (λ (v : List ℕ). length v) g.regions in
          let e = length-append d.regions (k ∷ []) in
          let b = g.free_count in
          let q = c.frees in
          omega arith)
    ];
    spared = elim u.how [ inl g ↦ spared_on g | inr g ↦ spared_next g ];
    places = elim u.how [
      | inl g ↦ (let a = ap (λ (v : List ℕ). length v) g.regions in let b = g.room in let q = c.places in omega arith)
      | inr g ↦ (let a = ap (λ (v : List ℕ). length v) g.regions in
          let e = length-append d.regions (k ∷ []) in
          let b = g.room in
          let q = c.places in
          omega arith)
    ];
  }

  closed_stays : (j : ℕ) → IsDestination d j → d.last ≢ Some j → j ≢ k
  closed_stays j w m q = elim u.how [
    | inl g ↦ m (g.last ∙ ap Some (sym q))
    | inr g ↦ let a = c.apart k (subst (IsDestination d) q w) in let b = g.was_free in absurd cc
  ]

  pub copied_after : (noted : Notes) → IsAfter l noted noted s s' d d'
  copied_after noted = record {
    noted_grows = notes_stay noted;
    noted_for = none_for (NewCrossing l s s' d') noted;
    forward_grows = forward_on;
    taken_grows = taken_grows;
    used_grows = λ j. elim (cases_eq j k) [
      | inl q ↦ subst (λ (m : ℕ). s.used m ≤ s'.used m) (sym q) (let e = u.used in omega arith)
      | inr q ↦ let e = u.used_same j q in omega arith
    ];
    stays = λ b y o e. (y, frame b y o e, refl);
    new_above = λ b y o e. elim (cases_eq b to) [
      | inl q ↦ inr (let r = ap (λ (v : ℕ). v / l.words) q ∙ u.at_region in let a = u.above in rw r (omega arith))
      | inr q ↦ inl (y, back b y e q)
    ];
    closed = λ j w m. (
      λ b y r e. (y, back b y e (λ q. closed_stays j w m (sym r ∙ ap (λ (v : ℕ). v / l.words) q ∙ u.at_region))),
      λ e. closed_stays j w m (let z = u.last in cc),
    );
    fields = λ b y y' i w o e e' g.
        inl (let q = frame b y o e in let r : y ≡ y' = cc in subst (λ (z : Stored). slice_get (fields z) i ≡ Some w) (sym r) g);
  }
