-- A copy, as copying sees it.
use Rattle.std.proofs.Common.{◌≡◌, ◌+◌, ◌*◌, ◌/◌, ◌<◌, ◌≤◌, ◌⊎◌, ◌∙◌, ℕ, true, false, Option, Some, None, length, refl, sym, ap, subst}
use Rattle.std.proofs.Common.{inl, inr, arith, ◌≢◌}
use Rattle.std.proofs.lemmas.Bool.{cases_eq, cases_lt}
use Rattle.std.proofs.lemmas.List.Quantifiers.{position-Some}
use Rattle.heap_model.specs.Heap.{Stored}
use Rattle.regions.specs.Tiles.{Object, Forwarded, tile_size}
use Rattle.regions.specs.Table.{Free, Table, first_free, is_free, kind_of, moved_to, object_at, nth_region, tile_in, used_of}
use Rattle.regions.specs.Rows.{kind_is_free}
use Rattle.regions.specs.Shaped.{IsShaped}
use Rattle.regions.specs.declared.row.Kind.TheVariants as kinds
use Rattle.regions.proofs.Words.Divides.{div_is}
use Rattle.refinement.proofs.Holders.{object_within}
use Rattle.object_copy.specs.Copies.{Destinations, CopiesAndForwards, CopiesObject, OpensLowest, fill_of}
use Rattle.object_copy.proofs.Frees.{free_by_kind}
use Rattle.object_copy.proofs.Copied.{copied_moved}
use Rattle.regions.proofs.Tiles.Placing as placing
use Rattle.evacuation.specs.Space.{CopiesTo, GoesOn, TakesNext, IsDestination, filled, flag, words_of}
use Rattle.evacuation.specs.Turns.{Pause, IsPause, IsTurn, TableStays, all_words, in_set, kept_now, layout, space}
use Rattle.evacuation.proofs.Copies.LeftWords.{left_less}
use Rattle.evacuation.proofs.Copies.ObjectCopied.{taken_by}
use Rattle.evacuation.proofs.Turns.KeptObjects.{kept_as, kept_none, kept_object, kept_fresh, object_of, cases_free}

pub filled_is : (p : Pause) (t : Table) (w : Option ℕ) → filled (space p t) w ≡ fill_of t w
filled_is p t None = refl
filled_is p t (Some k) = refl

free_kind : (t : Table) (k : ℕ) → kind_of t k ≡ kinds.Free → is_free (nth_region t k) ≡ true
free_kind t k e = free_by_kind t k ∙ ap kind_is_free e

ordinary_kind : (t : Table) (k : ℕ) → kind_of t k ≡ kinds.Ordinary → is_free (nth_region t k) ≡ false
ordinary_kind t k e = free_by_kind t k ∙ ap kind_is_free e

-- another free region lies above the lowest one
below_free : (t : Table) (k j : ℕ) → first_free t ≡ Some k → kind_of t j ≡ kinds.Free → j ≢ k → k < j
unfolding nth_region
below_free t k j e free apart = elim (cases_lt j k) [
  | inl less ↦
      let lower = (position-Some is_free t.regions k Free e).2 j less in
      let is = free_kind t j free in
      absurd (cc)
  | inr le ↦ omega (arith, le, apart)
]

module _ (p : Pause) (q : IsPause p) (t t' : Table) (d d' : Destinations) (turn : IsTurn p t d) (shaped : IsShaped t)
    (from to : ℕ) (x : Stored)
    (inside : in_set p from ≡ true) (at : kept_now p t from ≡ Some x) (small : 2 * tile_size (Object x) ≤ p.start.words_per_region)
    (c : CopiesAndForwards t t' d d' from to x)
    (changes : (k : ℕ) → object_at t from ≡ Some x → d'.last ≡ Some k → CopiesObject t t' k from to x) where
  words : t.words_per_region ≡ p.start.words_per_region
  words = turn.table.size

  abbrev k : ℕ
  k = c.region

  here : object_at t from ≡ Some x
  here = kept_object p t from x at

  last : d'.last ≡ Some k
  last = ap (λ (y : Destinations). y.last) c.places_are ∙ c.opens.last

  w : CopiesObject t t' k from to x
  w = changes k here last

  size' : t'.words_per_region ≡ p.start.words_per_region
  size' = w.size ∙ words

  -- the destination was free at the start
  fresh : (kind_of p.start k ≡ kinds.Free) × (flag p.chosen k ≡ false)
  fresh = elim c.opens.how [
    | inl g ↦
        let l : d.last ≡ Some k = ap (λ (y : Destinations). y.last) (sym g.1) ∙ c.opens.last in
        let is = turn.copying.last k l in
        ((turn.taken k is).0, turn.copying.taken k is)
    | inr g ↦
        let was = (placing.region_taken t k g.0.lowest).was in
        let out = turn.copying.free k (free_kind t k was) in (
          elim (cases_free (kind_of p.start k)) [ inl e ↦ e | inr n ↦ absurd (n (sym (turn.table.kinds_same k out n) ∙ was)) ],
          out,
        )
  ]

  at_region : to / p.start.words_per_region ≡ k
  at_region =
      let a = w.at in
      let b = w.within in
      let e = words in
      let e' = ap (λ (n : ℕ). k * n) words in
      div_is to p.start.words_per_region k (omega arith) (omega arith)

  known : k < length p.start.regions
  known = let a = w.known in let b = turn.table.count in omega arith

  to_out : in_set p to ≡ false
  to_out = ap (flag p.chosen) at_region ∙ fresh.1

  kept_copy : kept_now p t' to ≡ Some x
  kept_copy =
      kept_fresh p t' to q size' (subst (λ (n : ℕ). n < length p.start.regions) (sym at_region) known)
      (ap (kind_of p.start) at_region ∙ fresh.0) ∙ object_of t' to (Some (Object x)) w.copy

  other : (a : ℕ) → (a ≡ from → ⊥) → (a ≡ to → ⊥) → object_at t' a ≡ object_at t a
  other a n m = object_of t' a (tile_in t a) (w.others a n m) ∙ sym (object_of t a (tile_in t a) refl)

  kept_other : (a : ℕ) → (a ≡ from → ⊥) → (a ≡ to → ⊥) → kept_now p t' a ≡ kept_now p t a
  kept_other a n m = kept_as p t t' a w.size (other a n m)

  goes : (c.table ≡ t) × (c.places ≡ d) → GoesOn (layout p) (space p t) (space p t') d d' k
  goes g =
      let l : d.last ≡ Some k = ap (λ (y : Destinations). y.last) (sym g.1) ∙ c.opens.last in
      let o = (turn.taken k (turn.copying.last k l)).1 in
      record {
        last = l;
        regions = ap (λ (y : Destinations). y.regions) c.places_are ∙ ap (λ (y : Destinations). y.regions) g.1;
        room = ap (λ (y : Destinations). y.room) c.places_are ∙ ap (λ (y : Destinations). y.room) g.1;
        free_count = w.free_same o;
        free = λ j. elim (cases_eq j k) [
          | inl e ↦ subst (λ (m : ℕ). is_free (nth_region t' m) ≡ is_free (nth_region t m)) (sym e)
              (ordinary_kind t' k w.ordinary ∙ sym (ordinary_kind t k o))
          | inr e ↦ free_by_kind t' j ∙ ap kind_is_free (w.kinds_same j e) ∙ sym (free_by_kind t j)
        ];
      }

  takes : OpensLowest t c.table d c.places k → ((f : ℕ) → fill_of t d.last ≡ Some f → t.words_per_region < f + tile_size (Object x))
      → TakesNext (layout p) (space p t) (space p t') d d' k (words_of x)
  takes g full =
      let r = placing.region_taken t k g.lowest in
      record {
        was_free = free_kind t k r.was;
        empty = sym (r.used k) ∙ r.empty;
        regions = ap (λ (y : Destinations). y.regions) c.places_are ∙ g.regions;
        room = (let a = ap (λ (y : Destinations). y.room) c.places_are in let b = g.room in omega arith);
        free_count = w.free_less r.was;
        taken = ordinary_kind t' k w.ordinary;
        free = λ j e. free_by_kind t' j ∙ ap kind_is_free (w.kinds_same j e) ∙ sym (free_by_kind t j);
        full = λ f e. (let a = full f (sym (filled_is p t d.last) ∙ e) in let b = words in omega arith);
      }

  pub copies_to : CopiesTo (layout p) (space p t) (space p t') d d' from to x
  copies_to = record {
    region = k;
    last = last;
    words = ap (λ (y : Destinations). y.words) c.places_are
        ∙ ap (λ (n : ℕ). n + tile_size (Object x)) (elim c.opens.how
        [ inl g ↦ ap (λ (y : Destinations). y.words) g.1 | inr g ↦ g.0.words ]);
    at_region = at_region;
    above = let a = w.at in let e = ap (λ (n : ℕ). k * n) words in omega arith;
    room = kept_none p t to (object_of t to None w.was);
    forwarded = ap moved_to w.forwarded;
    forward_others = λ a n. elim (cases_eq a to) [
      | inl e ↦ subst (λ (m : ℕ). moved_to (tile_in t' m) ≡ moved_to (tile_in t m)) (sym e) (ap moved_to w.copy ∙ sym (ap moved_to w.was))
      | inr e ↦ ap moved_to (w.others a n e)
    ];
    copy = kept_copy;
    gone = kept_none p t' from (object_of t' from (Some (Forwarded to (tile_size (Object x)))) w.forwarded);
    others = kept_other;
    used = w.used;
    used_same = w.used_same;
    left = λ out. left_less (kept_now p t) (kept_now p t') (in_set p) (all_words p) from x
        (let a = object_within t from x shaped here in
        let b = turn.table.count in
        let e = words in
        let f : length t.regions * t.words_per_region ≡ all_words p = rw (b, e) refl in
        omega arith)
        inside at (kept_none p t' from (object_of t' from (Some (Forwarded to (tile_size (Object x)))) w.forwarded))
        (λ b n i. kept_other b n (λ e. let f = ap (in_set p) e in let g = to_out in absurd cc));
    how = elim c.opens.how [ inl g ↦ inl (goes g) | inr g ↦ inr (takes g.0 g.1) ];
  }

  outside_same : (a : ℕ) (y : Stored) → in_set p a ≡ false → object_at t a ≡ Some y → object_at t' a ≡ Some y
  outside_same a y out e = other a (λ n. let f = ap (in_set p) n in let g = inside in absurd cc)
      (λ n. let f = ap (object_at t) n in let g = object_of t to None w.was in absurd cc) ∙ e

  from_used : kind_of p.start (from / p.start.words_per_region) ≡ kinds.Free → ⊥
  from_used f = let o = q.ordinary (from / p.start.words_per_region) inside in let n : kinds.Ordinary ≡ kinds.Free = sym o ∙ f in absurd cc

  -- a destination lies below each region that was free and still is
  lowest : (j m : ℕ) → kind_of p.start j ≡ kinds.Free → kind_of t' j ≡ kinds.Free → kind_of p.start m ≡ kinds.Free
      → kind_of t' m ≡ kinds.Ordinary → m < j
  lowest j m fj free fm o =
      let apart : j ≢ k = λ e. (let a : kinds.Ordinary ≡ kinds.Free = sym w.ordinary ∙ sym (ap (kind_of t') e) ∙ free in cc) in
      let was : kind_of t j ≡ kinds.Free = sym (w.kinds_same j apart) ∙ free in
      elim (cases_eq m k) [
        | inl same ↦ subst (λ (i : ℕ). i < j) (sym same) (elim c.opens.how [
          | inl g ↦
              let l : d.last ≡ Some k = ap (λ (y : Destinations). y.last) (sym g.1) ∙ c.opens.last in
              turn.table.lowest j k fj was fresh.0 (turn.taken k (turn.copying.last k l)).1
          | inr g ↦ below_free t k j g.0.lowest was apart
        ])
        | inr other ↦ turn.table.lowest j m fj was fm (sym (w.kinds_same m other) ∙ o)
      ]

  pub copy_stays : TableStays p t'
  copy_stays =
      let s = turn.table in
      record {
        size = size';
        count = w.count ∙ s.count;
        chosen = λ j i. w.kinds_same j (λ e. let f = ap (flag p.chosen) e in let g = fresh.1 in absurd cc) ∙ s.chosen j i;
        was_free = λ j f. elim (cases_eq j k) [
          | inl e ↦ inr (ap (kind_of t') e ∙ w.ordinary)
          | inr e ↦ elim (s.was_free j f) [ inl g ↦ inl (w.kinds_same j e ∙ g) | inr g ↦ inr (w.kinds_same j e ∙ g) ]
        ];
        lowest = lowest;
        kinds_same = λ j i n. w.kinds_same j (λ e. n (ap (kind_of p.start) e ∙ fresh.0)) ∙ s.kinds_same j i n;
        used = λ j i n. w.used_same j (λ e. n (ap (kind_of p.start) e ∙ fresh.0)) ∙ s.used j i n;
        objects = λ a y out e. let (z, f, same) = s.objects a y out e in (z, outside_same a z out f, same);
        none = λ a out n e. other a (λ f. let g = ap (in_set p) f in let h = inside in absurd cc)
            (λ f. n (ap (λ (m : ℕ). kind_of p.start (m / p.start.words_per_region)) f ∙ ap (kind_of p.start) at_region ∙ fresh.0))
            ∙ s.none a out n e;
        unkept = λ a out n e. w.others a (λ f. let g = ap (in_set p) f in let h = inside in absurd cc)
            (λ f. n (ap (λ (m : ℕ). kind_of p.start (m / p.start.words_per_region)) f ∙ ap (kind_of p.start) at_region ∙ fresh.0))
            ∙ s.unkept a out n e;
        filled = λ j f o. elim (cases_eq j k) [
          | inl e ↦ subst (λ (m : ℕ). 0 < used_of t' m) (sym e) (let u = w.used in omega arith)
          | inr e ↦ (let u = w.used_same j e in let b = s.filled j f (sym (w.kinds_same j e) ∙ o) in omega arith)
        ];
        small = λ a y out f e. elim (cases_eq a to) [
          | inl g ↦ (let h = ap (object_at t') g in
              let i = object_of t' to (Some (Object x)) w.copy in
              let r : x ≡ y = cc in
              subst (λ (m : Stored). 2 * tile_size (Object m) ≤ p.start.words_per_region) r small)
          | inr g ↦ s.small a y out f (sym (other a (λ h. let j = ap (in_set p) h in let i = inside in absurd cc) g) ∙ e)
        ];
        moved = λ a b n e. elim (cases_eq a from) [
          | inl f ↦ ap (in_set p) f ∙ inside
          | inr f ↦ s.moved a b n (sym (w.others a f (λ g. let h = ap (tile_in t') g in let i = w.copy in absurd cc)) ∙ e)
        ];
        live = λ a u f e. elim (cases_eq a to) [
          | inl g ↦ (x, (let h = ap (tile_in t') g in let i = w.copy in cc))
          | inr g ↦ s.live a u f (sym (w.others a (λ h.
              from_used (subst (λ (m : ℕ). kind_of p.start (m / p.start.words_per_region) ≡ kinds.Free) h f)) g) ∙ e)
        ];
        targets = copied_moved (λ a. in_set p a ≡ false) t t' d d' from to x c to_out s.targets;
      }

  taken_cases : (j : ℕ) → IsDestination d' j → (j ≡ k) ⊎ IsDestination d j
  unfolding copies_to
  taken_cases j w = taken_by (layout p) (space p t) (space p t') d d' k (words_of x) copies_to.how j w

  pub copy_taken : (j : ℕ) → IsDestination d' j
      → (kind_of p.start j ≡ kinds.Free) × (kind_of t' j ≡ kinds.Ordinary) × (j < length p.start.regions)
  copy_taken j is = elim (cases_eq j k) [
    | inl e ↦
        (ap (kind_of p.start) e ∙ fresh.0, ap (kind_of t') e ∙ w.ordinary, subst (λ (m : ℕ). m < length p.start.regions) (sym e) known)
    | inr e ↦ elim (taken_cases j is) [ inl f ↦ absurd (e f) | inr f ↦ let r = turn.taken j f in (r.0, w.kinds_same j e ∙ r.1, r.2) ]
  ]
