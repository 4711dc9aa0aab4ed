-- The fields of the object itself, as they are to be at its new place.
use Rattle.std.proofs.Common.{◌≡◌, ◌≢◌, ◌⊎◌, ◌+◌, ◌/◌, ◌<◌, ◌∙◌, ℕ, Bool, true, List, Option, Some, None, length, refl, sym, ap, subst}
use Rattle.std.proofs.Common.{inl, inr}
use Rattle.std.proofs.Common.{arith, slice_get, ◌*◌, IsSome}
use Rattle.std.proofs.lemmas.Bool.{cases_eq}
use Rattle.heap_model.specs.Heap.{Stored, fields}
use Rattle.regions.proofs.Words.FieldAccess.{count_fields}
use Rattle.regions.specs.Table.{Table, fields_at, set_field, tile_in}
use Rattle.refinement.specs.Remembering.{field_card, field_word}
use Rattle.evacuation.specs.Space.{flag}
use Rattle.evacuation.specs.Sliding.{Slide, SlideStands, RedirectsSome, Names, LeadsOut, NotesCard, OwnGoesOn, kept_at}
use Rattle.evacuation.proofs.Slides.KeptObjects.{kept_object, some_kept}
use Rattle.regions.specs.Shaped.{IsShaped}
use Rattle.refinement.proofs.Holders.{fields_of, object_within}
use Rattle.evacuation.proofs.Slides.Redirecting.{none_redirected, redirected_then, names_on}
use Rattle.evacuation.proofs.Slides.Written.{names_by, names_nil, names_other_than, write_redirects, write_others, names_now, names_same}
use Rattle.evacuation.proofs.Slides.Written.{written_unnamed}

pub none_settled : (s : Slide) (t : Table) (noted : List Bool) → SlideStands s t noted → OwnGoesOn s 0 t t noted noted
none_settled s t noted stands = record {
  stands = stands;
  table = none_redirected s t;
  others = λ a n. refl;
  grows = λ card e. e;
  unnamed = λ i h. absurd (omega arith);
  each = λ i h. absurd (omega arith);
  only = λ card e. inl e;
}

-- one name a field
same_target : (s : Slide) (t : Table) (a i target other : ℕ) → Names s t a i target → Names s t a i other → target ≡ other
same_target s t a i target other n m =
    let e : Some n.object ≡ Some m.object = sym n.is ∙ m.is in
    let same : n.object ≡ m.object = cc in
    let f = ap (λ (u : Stored). slice_get (fields u) i) same in
    let g : Some (Some target) ≡ Some (Some other) = sym n.field ∙ f ∙ m.field in
    cc

-- what becomes of one field more
record SettlesField (s : Slide) (n : ℕ) (t t' : Table) (noted noted' : List Bool) : Type 0 where
  stands : SlideStands s t' noted'
  table : RedirectsSome s t t'
  others : (a : ℕ) → a ≢ s.from → tile_in t' a ≡ tile_in t a
  stays : (i target : ℕ) → i ≢ n → Names s t' s.from i target → Names s t s.from i target
  unnamed : Names s t' s.from n s.from → ⊥
  grows : (card : ℕ) → flag noted card ≡ true → flag noted' card ≡ true
  is_noted : LeadsOut s t' n → flag noted' (field_card s.card_words s.to n) ≡ true
  only : (card : ℕ) → flag noted' card ≡ true → (flag noted card ≡ true) ⊎ (LeadsOut s t' n × (field_card s.card_words s.to n ≡ card))

one_settled : (s : Slide) (n : ℕ) (old t t' : Table) (noted0 noted noted' : List Bool) → OwnGoesOn s n old t noted0 noted
    → SettlesField s n t t' noted noted' → OwnGoesOn s (n + 1) old t' noted0 noted'
one_settled s n old t t' noted0 noted noted' g f = record {
  stands = f.stands;
  table = redirected_then s f.stands.apart old t t' g.table f.table;
  others = λ a o. f.others a o ∙ g.others a o;
  grows = λ card e. f.grows card (g.grows card e);
  unnamed = λ i h m. elim (cases_eq i n) [
    | inl q ↦ f.unnamed (subst (λ (k : ℕ). Names s t' s.from k s.from) q m)
    | inr q ↦ g.unnamed i (omega arith) (f.stays i s.from q m)
  ];
  each = λ i h l. elim (cases_eq i n) [
    | inl q ↦ ap (λ (k : ℕ). flag noted' (field_card s.card_words s.to k)) q ∙ f.is_noted (subst (LeadsOut s t') q l)
    | inr q ↦ f.grows (field_card s.card_words s.to i) (g.each i (omega arith)
        (record { target = l.target; names = f.stays i l.target q l.names; leaves = l.leaves }))
  ];
  only = λ card e. elim (f.only card e) [
    | inl o ↦ elim (g.only card o) [
      | inl p ↦ inl p
      | inr p ↦
          let (i, h, l, k) = p in
          let away : l.target ≢ s.from = λ q. g.unnamed i h (subst (Names s t s.from i) q l.names) in
          inr (
            i,
            omega (arith, h),
            record {
              target = l.target;
              names = names_on s f.stands.apart t t' f.table s.from i l.target away l.names;
              leaves = l.leaves;
            },
            k,
          )
    ]
    | inr o ↦ inr (n, omega arith, o.0, o.1)
  ];
}

-- the field's word is noted where its target is in another region
leads_noted : (s : Slide) (t : Table) (n target : ℕ) (noted noted' : List Bool)
    → NotesCard s noted noted' (field_word s.to n) target
    → Names s t s.from n target → LeadsOut s t n → flag noted' (field_card s.card_words s.to n) ≡ true
leads_noted s t n target noted noted' notes names l = elim notes.is_noted [
  | inl near ↦ absurd (l.leaves (ap (λ (a : ℕ). a / s.words) (same_target s t s.from n l.target target l.names names) ∙ near))
  | inr is ↦ is
]

noted_leads : (s : Slide) (t : Table) (n target : ℕ) (noted noted' : List Bool)
    → NotesCard s noted noted' (field_word s.to n) target
    → Names s t s.from n target → (card : ℕ) → flag noted' card ≡ true
    → (flag noted card ≡ true) ⊎ (LeadsOut s t n × (field_card s.card_words s.to n ≡ card))
noted_leads s t n target noted noted' notes names card e = elim (notes.only card e) [
  | inl o ↦ inl o
  | inr o ↦ inr (record { target = target; names = names; leaves = o.1 }, sym o.0)
]

stands_noted : (s : Slide) (t : Table) (noted noted' : List Bool) (word target : ℕ) → SlideStands s t noted
    → NotesCard s noted noted' word target → SlideStands s t noted'
stands_noted s t noted noted' word target stands notes = record {
  size = stands.size;
  count = stands.count;
  whole_cards = stands.whole_cards;
  each_mark = stands.each_mark;
  each_card = notes.count ∙ stands.each_card;
  apart = stands.apart;
}

pub stands_redirected : (s : Slide) (t t' : Table) (noted : List Bool) → RedirectsSome s t t' → SlideStands s t noted
    → SlideStands s t' noted
stands_redirected s t t' noted r stands = record {
  size = r.size ∙ stands.size;
  count = r.count ∙ stands.count;
  whole_cards = stands.whole_cards;
  each_mark = stands.each_mark;
  each_card = stands.each_card;
  apart = stands.apart;
}

module _ (s : Slide) (n : ℕ) (old t : Table) (noted0 noted : List Bool) (y : Stored) (here : kept_at s t s.from ≡ Some y)
    (stands : SlideStands s t noted) where
  -- it is nil
  pub nil_settled : slice_get (fields_at t s.from) n ≡ Some None → OwnGoesOn s n old t noted0 noted → OwnGoesOn s (n + 1) old t noted0 noted
  nil_settled e g = one_settled s n old t t noted0 noted noted g (record {
    stands = stands;
    table = none_redirected s t;
    others = λ a o. refl;
    stays = λ i target o m. m;
    unnamed = names_nil s t s.from n s.from e;
    grows = λ card f. f;
    is_noted = λ l. absurd (names_nil s t s.from n l.target e l.names);
    only = λ card f. inl f;
  })

  module _ (noted' : List Bool) (target : ℕ) (names : slice_get (fields_at t s.from) n ≡ Some (Some target)) where
    field : slice_get (fields y) n ≡ Some (Some target)
    field = names_by s t s.from n y (Some target) here names

    -- it names another object
    pub other_settled : target ≢ s.from → NotesCard s noted noted' (field_word s.to n) target → OwnGoesOn s n old t noted0 noted
        → OwnGoesOn s (n + 1) old t noted0 noted'
    other_settled away notes g =
        let m : Names s t s.from n target = record { object = y; is = here; field = field } in
        one_settled s n old t t noted0 noted noted' g (record {
          stands = stands_noted s t noted noted' _ _ stands notes;
          table = none_redirected s t;
          others = λ a o. refl;
          stays = λ i other o k. k;
          unnamed = names_other_than s t s.from n y target here field away;
          grows = notes.grows;
          is_noted = leads_noted s t n target noted noted' notes m;
          only = noted_leads s t n target noted noted' notes m;
        })

    -- it names the object itself
    pub own_settled : (t' : Table) → 0 < t.words_per_region → target ≡ s.from → t' ≡ set_field t s.from n (Some s.to)
        → NotesCard s noted noted' (field_word s.to n) s.to → OwnGoesOn s n old t noted0 noted
        → OwnGoesOn s (n + 1) old t' noted0 noted'
    own_settled t' positive same is notes g =
        let f : slice_get (fields y) n ≡ Some (Some s.from) = field ∙ ap (λ (a : ℕ). Some (Some a)) same in
        let r = write_redirects s t t' s.from n y positive here f is in
        let m = names_now s t t' s.from n y positive here f is in
        one_settled s n old t t' noted0 noted noted' g (record {
          stands = stands_noted s t' noted noted' _ _ (stands_redirected s t t' noted r stands) notes;
          table = r;
          others = write_others s t t' s.from n y positive here f is;
          stays = λ i other o k. names_same s t t' s.from n y positive here f is s.from i other (inr o) k;
          unnamed = written_unnamed s t t' s.from n y positive here f is stands.apart;
          grows = notes.grows;
          is_noted = leads_noted s t' n s.to noted noted' notes m;
          only = noted_leads s t' n s.to noted noted' notes m;
        })

  -- as the notes begin then
  pub own_stands : (target : ℕ) → slice_get (fields_at t s.from) n ≡ Some (Some target) → (t' : Table) → 0 < t.words_per_region
      → target ≡ s.from → t' ≡ set_field t s.from n (Some s.to) → SlideStands s t' noted
  own_stands target names t' positive same is =
      let f : slice_get (fields y) n ≡ Some (Some s.from) =
      names_by s t s.from n y (Some target) here names ∙ ap (λ (a : ℕ). Some (Some a)) same in
      stands_redirected s t t' noted (write_redirects s t t' s.from n y positive here f is) stands

-- each of its fields is in the heap from the new place, which is below
pub room_below : (s : Slide) (t : Table) (noted : List Bool) → SlideStands s t noted → IsShaped t → IsSome (kept_at s t s.from)
    → s.to < s.from
    → (i : ℕ) → i < length (fields_at t s.from) → field_word s.to i < s.regions * s.words
room_below s t noted stands g object below i less =
    let (y, here) = some_kept s t s.from object in
    let is = kept_object s t s.from y here in
    let within = object_within t s.from y g is in
    let count = ap (λ (l : List (Option ℕ)). length l) (fields_of t s.from y is) in
    let all : length t.regions * t.words_per_region ≡ s.regions * s.words =
    ap (λ (n : ℕ). n * t.words_per_region) stands.count ∙ ap (λ (n : ℕ). s.regions * n) stands.size in
    omega (arith, within, count, less, all, below, count_fields y)

pub settled_all : (s : Slide) (n m : ℕ) (t t' : Table) (noted noted' : List Bool) → n ≡ m → OwnGoesOn s n t t' noted noted'
    → OwnGoesOn s m t t' noted noted'
settled_all s n m t t' noted noted' e g = subst (λ (k : ℕ). OwnGoesOn s k t t' noted noted') e g
