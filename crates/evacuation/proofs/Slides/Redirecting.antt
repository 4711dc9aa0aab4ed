-- Fields that are redirected, one after another.
use Rattle.std.proofs.Common.{◌≡◌, ◌≢◌, ◌⊎◌, ◌<◌, ◌∷◌, ◌∙◌, ℕ, zero, suc, Bool, List, [], Option, Some, None, length, refl, sym, ap}
use Rattle.std.proofs.Common.{subst, inl, inr, arith, slice_get, IsSome, ◌++◌}
use Rattle.std.proofs.lemmas.List.{length-append}
use Rattle.evacuation.proofs.Lists.{get_below}
use Rattle.heap_model.specs.Heap.{Stored, fields}
use Rattle.regions.specs.Tiles.{Object, tile_size}
use Rattle.regions.specs.Table.{Table, fields_at}
use Rattle.regions.proofs.Tiles.Changes.{object_same}
use Rattle.refinement.specs.Remembering.{field_card}
use Rattle.evacuation.specs.Evacuates.{IsSameBut}
use Rattle.evacuation.specs.Sliding.{Slide, SlideStands, SlideGoesOn, RedirectsSome, IsRedirectedInPart, Names}
use Rattle.evacuation.specs.Sliding.{kept_at}
use Rattle.evacuation.specs.Sliding.{IsObjectUnnamed, IsCardUnnamed}
use Rattle.evacuation.proofs.Slides.KeptObjects.{kept_as, kept_some, kept_object, some_kept, is_some}
use Rattle.refinement.proofs.Holders.{fields_of}

same_but : (x : Stored) → IsSameBut x x
same_but x = record { name = refl; values = refl; pointers = refl; weaks = refl; held = refl }

same_then : (x y z : Stored) → IsSameBut x y → IsSameBut y z → IsSameBut x z
same_then x y z a b = record {
  name = b.name ∙ a.name;
  values = b.values ∙ a.values;
  pointers = b.pointers ∙ a.pointers;
  weaks = b.weaks ∙ a.weaks;
  held = b.held ∙ a.held;
}

pub get_at : (xs : List (Option ℕ)) (i : ℕ) → i < length xs → (w : Option ℕ) × (slice_get xs i ≡ Some w)
get_at [] i h = absurd (omega arith)
get_at (x ∷ xs) zero h = (x, refl)
get_at (x ∷ xs) (suc i) h = get_at xs i (omega arith)

-- as many fields
pub as_many : (x y : Stored) → IsSameBut x y → length (fields y) ≡ length (fields x)
as_many x y s = let p = s.pointers in let w = s.weaks in let h = s.held in
    omega (
      arith,
      length-append x.pointers (x.weaks ++ x.held),
      length-append x.weaks x.held,
      length-append y.pointers (y.weaks ++ y.held),
      length-append y.weaks y.held,
    )

pub as_large : (x y : Stored) → IsSameBut x y → tile_size (Object y) ≡ tile_size (Object x)
as_large x y s =
    let p = s.pointers in
    let w = s.weaks in
    let h = s.held in
    let v = ap (λ (vs : List ℕ). length vs) s.values in
    omega (arith, p, w, h, v)

pub none_redirected : (s : Slide) (t : Table) → RedirectsSome s t t
none_redirected s t = record {
  size = refl;
  count = refl;
  kinds = λ k. refl;
  used = λ k. refl;
  unmoved = λ h. h;
  objects = λ a x e. (x, e, record { same = same_but x; each = λ i v f. inl f });
  unkept = λ a n. refl;
}

module _ (s : Slide) (apart : s.from ≢ s.to) where
  pub redirected_then : (t t' t'' : Table) → RedirectsSome s t t' → RedirectsSome s t' t'' → RedirectsSome s t t''
  redirected_then t t' t'' r q = record {
    size = q.size ∙ r.size;
    count = q.count ∙ r.count;
    kinds = λ k. q.kinds k ∙ r.kinds k;
    used = λ k. q.used k ∙ r.used k;
    unmoved = λ h. q.unmoved (r.unmoved h);
    objects = λ a x e.
        let (y, f, m) = r.objects a x e in
        let (z, g, n) = q.objects a y f in (
          z,
          g,
          record {
            same = same_then x y z m.same n.same;
            each = λ i v h. elim (m.each i v h) [
              | inl k ↦ n.each i v k
              | inr k ↦ elim (n.each i (Some s.to) k.1) [
                | inl l ↦ inr (k.0, l)
                | inr l ↦ absurd (apart (let u = l.0 in cc))
              ]
            ];
          },
        );
    unkept = λ a n.
        let first = r.unkept a n in
        q.unkept a (kept_as s t t' a r.size (object_same t t' a first) ∙ n) ∙ first;
  }

  module _ (t t' : Table) (r : RedirectsSome s t t') where
    -- what is kept was kept, with fields that were so or named the old place
    record WasKept (a : ℕ) (y : Stored) : Type 0 where
      before : Stored
      was : kept_at s t a ≡ Some before
      part : IsRedirectedInPart s before y

    was_kept : (a : ℕ) (y : Stored) → kept_at s t' a ≡ Some y → WasKept a y
    was_kept a y e = go (kept_at s t a) refl
      where
        go : (o : Option Stored) → kept_at s t a ≡ o → WasKept a y
        go None q = absurd (let k = kept_as s t t' a r.size (object_same t t' a (r.unkept a q)) in cc)
        go (Some x) q =
            let (z, is, part) = r.objects a x (kept_object s t a x q) in
            let same : z ≡ y = let k = kept_object s t' a y e in cc in
            record { before = x; was = q; part = subst (IsRedirectedInPart s x) same part }

    -- and what was kept is
    pub still_kept : (a : ℕ) (x : Stored) → kept_at s t a ≡ Some x → (y : Stored) × (kept_at s t' a ≡ Some y) × IsRedirectedInPart s x y
    still_kept a x e =
        let (y, is, part) = r.objects a x (kept_object s t a x e) in
        (y, kept_some s t t' a x e r.size ∙ is, part)

    pub field_was : (x y : Stored) (i : ℕ) (v : Option ℕ) → IsRedirectedInPart s x y → slice_get (fields y) i ≡ Some v
        → (slice_get (fields x) i ≡ Some v) ⊎ ((slice_get (fields x) i ≡ Some (Some s.from)) × (v ≡ Some s.to))
    field_was x y i v part e =
        let low = get_below (fields y) i v e in
        let (w, q) = get_at (fields x) i (omega (arith, low, as_many x y part.same)) in
        elim (part.each i w q) [
          | inl k ↦ inl (let same : w ≡ v = cc in q ∙ ap Some same)
          | inr k ↦ inr (q ∙ ap Some k.0, (let is = k.1 in cc))
        ]

    pub names_before : (a i : ℕ) → Names s t' a i s.from → Names s t a i s.from
    names_before a i n =
        let w = was_kept a n.object n.is in
        elim (field_was w.before n.object i (Some s.from) w.part n.field) [
          | inl f ↦ record { object = w.before; is = w.was; field = f }
          | inr f ↦ absurd (apart (let e = f.1 in cc))
        ]

    -- what names the new place still does
    pub names_still : (a i : ℕ) → Names s t a i s.to → Names s t' a i s.to
    names_still a i n =
        let (y, is, part) = still_kept a n.object n.is in
        elim (part.each i (Some s.to) n.field) [
          | inl f ↦ record { object = y; is = is; field = f }
          | inr f ↦ absurd (apart (let e = f.0 in cc))
        ]

    -- a field that names something else did before
    pub names_other : (a i target : ℕ) → target ≢ s.to → Names s t' a i target → Names s t a i target
    names_other a i target other n =
        let w = was_kept a n.object n.is in
        elim (field_was w.before n.object i (Some target) w.part n.field) [
          | inl f ↦ record { object = w.before; is = w.was; field = f }
          | inr f ↦ absurd (other (let e = f.1 in cc))
        ]

    -- it names that still, but where that is the old place
    pub names_on : (a i target : ℕ) → target ≢ s.from → Names s t a i target → Names s t' a i target
    names_on a i target other n =
        let (y, is, part) = still_kept a n.object n.is in
        elim (part.each i (Some target) n.field) [
          | inl f ↦ record { object = y; is = is; field = f }
          | inr f ↦ absurd (other (let e = f.0 in cc))
        ]

    -- a field that named the old place names it still, or the new one
    pub names_either : (a i : ℕ) → Names s t a i s.from → Names s t' a i s.from ⊎ Names s t' a i s.to
    names_either a i n =
        let (y, is, part) = still_kept a n.object n.is in
        elim (part.each i (Some s.from) n.field) [
          | inl f ↦ inl (record { object = y; is = is; field = f })
          | inr f ↦ inr (record { object = y; is = is; field = f.1 })
        ]

    pub object_stays : (a : ℕ) → IsSome (kept_at s t a) → IsSome (kept_at s t' a)
    object_stays a h =
        let (x, e) = some_kept s t a h in
        let (y, is, part) = still_kept a x e in
        is_some (kept_at s t' a) y is

    pub count_stays : (a : ℕ) → IsSome (kept_at s t a) → length (fields_at t' a) ≡ length (fields_at t a)
    count_stays a h =
        let (x, e) = some_kept s t a h in
        let (y, is, part) = still_kept a x e in
        ap (λ (l : List (Option ℕ)). length l) (fields_of t' a y (kept_object s t' a y is)) ∙ as_many x y part.same
        ∙ sym (ap (λ (l : List (Option ℕ)). length l) (fields_of t a x (kept_object s t a x e)))

    pub object_unnamed : (card a : ℕ) → IsObjectUnnamed s t card a → IsObjectUnnamed s t' card a
    object_unnamed card a none i n e = none i (names_before a i n) e

    pub card_unnamed : (card : ℕ) → IsCardUnnamed s t card → IsCardUnnamed s t' card
    card_unnamed card none a i n e = none a i (names_before a i n) e

-- ---- the notes
pub stays_on : (s : Slide) (visits : ℕ → Type 0) (t : Table) (noted : List Bool) → SlideStands s t noted
    → SlideGoesOn s visits t t noted noted
stays_on s visits t noted stands = record {
  stands = stands;
  table = none_redirected s t;
  grows = λ card e. e;
  each = λ a i c. absurd (
      let x = c.0 in
      let y = c.1 in
      let e : Some x.object ≡ Some y.object = sym x.is ∙ y.is in
      let same : x.object ≡ y.object = cc in
      let f = x.field in
      let g = ap (λ (z : Stored). slice_get (fields z) i) same ∙ y.field in
      stands.apart (let h : Some (Some s.from) ≡ Some (Some s.to) = sym f ∙ g in cc));
  only = λ card e. inl e;
}

-- the same cards are visited, and more
pub visits_more : (s : Slide) (visits visits' : ℕ → Type 0) (t t' : Table) (noted noted' : List Bool) → ((c : ℕ) → visits c → visits' c)
    → SlideGoesOn s visits t t' noted noted' → SlideGoesOn s visits' t t' noted noted'
visits_more s visits visits' t t' noted noted' more g = record {
  stands = g.stands;
  table = g.table;
  grows = g.grows;
  each = g.each;
  only = λ card e. elim (g.only card e) [ inl o ↦ inl o | inr o ↦ inr (more card o.0, o.1) ];
}

pub goes_further : (s : Slide) (visits : ℕ → Type 0) (t t' t'' : Table) (noted noted' noted'' : List Bool)
    → SlideGoesOn s visits t t' noted noted' → SlideGoesOn s visits t' t'' noted' noted'' → SlideGoesOn s visits t t'' noted noted''
goes_further s visits t t' t'' noted noted' noted'' g h =
    let apart = g.stands.apart in
    record {
      stands = h.stands;
      table = redirected_then s apart t t' t'' g.table h.table;
      grows = λ card e. h.grows card (g.grows card e);
      each = λ a i c. elim (names_either s apart t t' g.table a i c.0) [
        | inl n ↦ h.each a i (n, c.1)
        | inr n ↦ h.grows (field_card s.card_words a i) (g.each a i (c.0, n))
      ];
      only = λ card e. elim (h.only card e) [
        | inl o ↦ elim (g.only card o) [
          | inl p ↦ inl p
          | inr p ↦
              let (v, (a, i, c, k)) = p in
              inr (v, (a, i, (c.0, names_still s apart t' t'' h.table a i c.1), k))
        ]
        | inr o ↦
            let (v, (a, i, c, k)) = o in
            inr (v, (a, i, (names_before s apart t t' g.table a i c.0, c.1), k))
      ];
    }
