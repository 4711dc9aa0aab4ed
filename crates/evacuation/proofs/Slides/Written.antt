-- A field is redirected.
use Rattle.std.proofs.Common.{◌≡◌, ◌≢◌, ◌⊎◌, ◌<◌, ◌∙◌, ℕ, Bool, true, false, List, Option, Some, None, length, refl, sym, ap, subst, inl}
use Rattle.std.proofs.Common.{inr, arith}
use Rattle.std.proofs.Common.{slice_get, slice_set, ◌∷◌, [], zero, suc, ap₂, length-set}
use Rattle.std.proofs.lemmas.List.{get_or-set_other}
use Rattle.std.proofs.lemmas.Bool.{cases_eq}
use Rattle.heap_model.specs.Heap.{Stored, fields, with_field}
use Rattle.heap_model.proofs.Fields.{field_set}
use Rattle.regions.specs.Table.{Table, fields_at, object_at, set_field, tile_in}
use Rattle.regions.proofs.Tiles.Changes.{WritesObject, field_put, field_weaks, object_same}
use Rattle.refinement.specs.Remembering.{field_card}
use Rattle.refinement.proofs.Holders.{fields_of}
use Rattle.evacuation.specs.Space.{flag}
use Rattle.evacuation.specs.Sliding.{Slide, SlideStands, SlideGoesOn, RedirectsSome, IsRedirectedInPart, Names, IsChanged, kept_at}
use Rattle.evacuation.proofs.Lists.{get_below}
use Rattle.evacuation.proofs.Notes.{flag_only}
use Rattle.evacuation.proofs.Slides.Noted.{flag_set}
use Rattle.regions.proofs.Words.Fields.{field_held}
use Rattle.evacuation.proofs.Slides.KeptObjects.{kept_as, kept_some, kept_object}

get_set : (xs : List (Option ℕ)) (i : ℕ) (v : Option ℕ) → i < length xs → slice_get (slice_set xs i v) i ≡ Some v
get_set [] i v h = absurd (omega arith)
get_set (x ∷ xs) zero v h = refl
get_set (x ∷ xs) (suc i) v h = get_set xs i v (omega arith)

get_other : (xs : List (Option ℕ)) (i j : ℕ) (v : Option ℕ) → j ≢ i → slice_get (slice_set xs i v) j ≡ slice_get xs j
get_other [] i j v h = refl
get_other (x ∷ xs) zero zero v h = absurd (h refl)
get_other (x ∷ xs) zero (suc j) v h = refl
get_other (x ∷ xs) (suc i) zero v h = refl
get_other (x ∷ xs) (suc i) (suc j) v h = get_other xs i j v (λ e. h (ap suc e))

-- what a field names, by the table
pub names_by : (s : Slide) (t : Table) (a i : ℕ) (y : Stored) (w : Option ℕ) → kept_at s t a ≡ Some y → slice_get (fields_at t a) i ≡ Some w
    → slice_get (fields y) i ≡ Some w
names_by s t a i y w is e =
    ap (λ (m : List (Option ℕ)). slice_get m i) (sym (fields_of t a y (kept_object s t a y is))) ∙ e

-- a field that names another target doesn't name the old place
pub names_other_than : (s : Slide) (t : Table) (a i : ℕ) (y : Stored) (target : ℕ) → kept_at s t a ≡ Some y
    → slice_get (fields y) i ≡ Some (Some target) → target ≢ s.from → Names s t a i s.from → ⊥
names_other_than s t a i y target is e other n =
    let f : Some n.object ≡ Some y = sym n.is ∙ is in
    let same : n.object ≡ y = cc in
    let h = ap (λ (u : Stored). slice_get (fields u) i) same in
    other (let k : Some (Some s.from) ≡ Some (Some target) = sym n.field ∙ h ∙ e in cc)

-- nor does one that is nil
pub names_nil : (s : Slide) (t : Table) (a i target : ℕ) → slice_get (fields_at t a) i ≡ Some None → Names s t a i target → ⊥
names_nil s t a i target e n =
    let k = names_by s t a i n.object None n.is e in
    let f = n.field in
    cc

pub names_within : (s : Slide) (t : Table) (a i target : ℕ) → Names s t a i target → i < length (fields_at t a)
names_within s t a i target n =
    let e = fields_of t a n.object (kept_object s t a n.object n.is) in
    let low = get_below (fields n.object) i (Some target) n.field in
    rw e low

pub names_at : (s : Slide) (t : Table) (a i j target : ℕ) → i ≡ j → Names s t a i target → Names s t a j target
names_at s t a i j target e n = subst (λ (k : ℕ). Names s t a k target) e n

module _ (s : Slide) (t t' : Table) (at i : ℕ) (y : Stored) (positive : 0 < t.words_per_region) (here : kept_at s t at ≡ Some y)
    (names : slice_get (fields y) i ≡ Some (Some s.from)) (is : t' ≡ set_field t at i (Some s.to)) where
  object : object_at t at ≡ Some y
  object = kept_object s t at y here

  abbrev z : Stored
  z = with_field y i (Some s.to)

  w : WritesObject t t' at y z
  w = subst (λ (u : Table). WritesObject t u at y z) (sym is) (field_put t at i (Some s.to) y positive object)

  field : slice_get (fields z) i ≡ Some (Some s.to)
  field =
      ap (λ (l : List (Option ℕ)). slice_get l i) (field_set y i (Some s.to)).fields_are
      ∙ get_set (fields y) i (Some s.to) (get_below (fields y) i (Some s.from) names)

  other_field : (j : ℕ) → j ≢ i → slice_get (fields z) j ≡ slice_get (fields y) j
  other_field j n = ap (λ (l : List (Option ℕ)). slice_get l j) (field_set y i (Some s.to)).fields_are
      ∙ get_other (fields y) i j (Some s.to) n

  part : IsRedirectedInPart s y z
  part = let f = field_set y i (Some s.to) in record {
    same = record
        { name = f.name; values = f.values; pointers = f.shape; weaks = field_weaks y i (Some s.to); held = field_held y i (Some s.to) };
    each = λ j v e. elim (cases_eq j i) [
      | inl q ↦
          let was = ap (slice_get (fields y)) q in
          inr (let a = names in cc, ap (slice_get (fields z)) q ∙ field)
      | inr n ↦ inl (other_field j n ∙ e)
    ];
  }

  pub write_redirects : RedirectsSome s t t'
  write_redirects = record {
    size = w.size;
    count = w.count;
    kinds = w.kinds;
    used = w.used;
    unmoved = w.unmoved;
    objects = λ a x e. elim (cases_eq a at) [
      | inl q ↦
          let same : y ≡ x = let f = ap (object_at t) q in let g = object in cc in
          (z, ap (object_at t') q ∙ w.is, subst (λ (u : Stored). IsRedirectedInPart s u z) same part)
      | inr n ↦ (
        x,
        object_same t t' a (w.others a n) ∙ e,
        record {
          same = record { name = refl; values = refl; pointers = refl; weaks = refl; held = refl };
          each = λ j v f. inl f;
        },
      )
    ];
    unkept = λ a n. w.others a (λ q. let f = ap (kept_at s t) q in let g = here in absurd cc);
  }

  now : kept_at s t' at ≡ Some z
  now = kept_some s t t' at y here w.size ∙ w.is

  pub write_others : (a : ℕ) → a ≢ at → tile_in t' a ≡ tile_in t a
  write_others a n = w.others a n

  -- the field names the new place
  pub names_now : Names s t' at i s.to
  names_now = record { object = z; is = now; field = field }

  -- the others name what they did
  pub names_same : (a j target : ℕ) → (a ≢ at) ⊎ (j ≢ i) → Names s t' a j target → Names s t a j target
  names_same a j target apart n = elim (cases_eq a at) [
    | inl q ↦
        let same : n.object ≡ z = let f = ap (kept_at s t') q in let g = now in let h = n.is in cc in
        elim apart [
          | inl k ↦ absurd (k q)
          | inr k ↦ record {
            object = y;
            is = ap (kept_at s t) q ∙ here;
            field = sym (other_field j k) ∙ ap (λ (u : Stored). slice_get (fields u) j) (sym same) ∙ n.field;
          }
        ]
    | inr k ↦ record {
      object = n.object;
      is = sym (kept_as s t t' a w.size (object_same t t' a (w.others a k))) ∙ n.is;
      field = n.field;
    }
  ]

  -- no other field changed
  pub changed_here : s.from ≢ s.to → (a j : ℕ) → IsChanged s t t' a j → (a ≡ at) × (j ≡ i)
  changed_here apart a j c = elim (cases_eq a at) [
    | inl q ↦ elim (cases_eq j i) [
      | inl r ↦ (q, r)
      | inr r ↦ absurd (no a j (inr r) c)
    ]
    | inr q ↦ absurd (no a j (inl q) c)
  ]
    where
      no : (a j : ℕ) → (a ≢ at) ⊎ (j ≢ i) → IsChanged s t t' a j → ⊥
      no a j k c =
          let n = names_same a j s.to k c.1 in
          let m = c.0 in
          let e : Some m.object ≡ Some n.object = sym m.is ∙ n.is in
          let same : m.object ≡ n.object = cc in
          let f = ap (λ (u : Stored). slice_get (fields u) j) same in
          apart (let g : Some (Some s.from) ≡ Some (Some s.to) = sym m.field ∙ f ∙ n.field in cc)

  pub written_unnamed : s.from ≢ s.to → Names s t' at i s.from → ⊥
  written_unnamed apart n =
      let m = names_now in
      let e : Some n.object ≡ Some m.object = sym n.is ∙ m.is in
      let same : n.object ≡ m.object = cc in
      let f = ap (λ (u : Stored). slice_get (fields u) i) same in
      apart (let g : Some (Some s.from) ≡ Some (Some s.to) = sym n.field ∙ f ∙ m.field in cc)

  module _ (noted noted' : List Bool) (card : ℕ) (stands : SlideStands s t noted) (known : card < length noted)
      (in_card : field_card s.card_words at i ≡ card) (notes : noted' ≡ slice_set noted card true) where
    pub written_goes_on : SlideGoesOn s (λ c. c ≡ card) t t' noted noted'
    written_goes_on = record {
      stands = record {
        size = w.size ∙ stands.size;
        count = w.count ∙ stands.count;
        whole_cards = stands.whole_cards;
        each_mark = stands.each_mark;
        each_card = ap (λ (l : List Bool). length l) notes ∙ length-set noted card true ∙ stands.each_card;
        apart = stands.apart;
      };
      table = write_redirects;
      grows = λ c e. elim (cases_eq c card) [
        | inl q ↦ flagged c (sym q)
        | inr q ↦ ap (λ (l : List Bool). flag l c) notes ∙ get_or-set_other noted card c true false q ∙ e
      ];
      each = λ a j c. let (q, r) = changed_here stands.apart a j c in
          flagged (field_card s.card_words a j) (sym (ap₂ (λ (b k : ℕ). field_card s.card_words b k) q r ∙ in_card));
      only = λ c e. elim (flag_only noted card c (ap (λ (l : List Bool). flag l c) (sym notes) ∙ e)) [
        | inl o ↦ inl o
        | inr q ↦ inr (q, (at, i, (record { object = y; is = here; field = names }, names_now), in_card ∙ sym q))
      ];
    }
      where
        flagged : (c : ℕ) → card ≡ c → flag noted' c ≡ true
        flagged c q = ap (λ (l : List Bool). flag l c) notes ∙ flag_set noted card c known q
