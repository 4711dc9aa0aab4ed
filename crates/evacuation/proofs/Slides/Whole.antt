-- All that names the object of a run.
use Rattle.std.proofs.Common.{◌≡◌, ◌≢◌, ◌+◌, ◌-◌, ◌*◌, ◌/◌, ◌<◌, ◌≤◌, ◌∙◌, ℕ, Bool, true, false, List, Some}
use Rattle.std.proofs.Common.{length, refl, sym, ap}
use Rattle.std.proofs.Common.{subst, inl, inr, arith, if◌then◌else◌, IsSome}
use Rattle.std.proofs.lemmas.Bool.{cases_eq, cases_lt}
use Rattle.std.proofs.lemmas.Nat.{mul-le}
use Rattle.std.specs.List.Sorted.{IsStrictlyIncreasing}
use Rattle.bit_sets.specs.Bits.{is_between}
use Rattle.bit_sets.proofs.BitRanges.{between_yes, between_no_below, between_no_above}
use Rattle.heap_model.specs.Heap.{Stored}
use Rattle.regions.specs.Tiles.{Object, tile_size}
use Rattle.regions.specs.Table.{Table, First, object_at, kind_of, nth_region, run_length, tile_in}
use Rattle.regions.specs.Shaped.{IsShaped}
use Rattle.regions.specs.Walks.{IsHolder}
use Rattle.regions.specs.declared.row.Kind.TheVariants as kinds
use Rattle.regions.proofs.LongRuns.Blocks.{first_number, first_void, reached, reaches, product_le}
use Rattle.regions.proofs.Tiles.Holders.{holder_onward, holder_below}
use Rattle.regions.proofs.Tiles.Changes.{object_same}
use Rattle.regions.proofs.Tiles.ShapedMade.{first_object}
use Rattle.regions.proofs.Words.Divides.{div_is, div_low, div_high, card_has_words, card_region}
use Rattle.mark_bitmap.specs.Tops.{Tops}
use Rattle.mark_bitmap.specs.Kept.{kept_in}
use Rattle.object_copy.proofs.Copied.{tile_of_object}
use Rattle.cards.specs.Cards.{Cards, is_dirty}
use Rattle.remembered_sets.specs.Sets.{Sets, card_count, may_lead}
use Rattle.refinement.specs.Remembering.{IsCrossing, field_card, field_word}
use Rattle.refinement.proofs.Fields.{region_of_card}
use Rattle.evacuation.specs.Space.{flag}
use Rattle.evacuation.specs.Sliding.{Slide, SlideStands, RedirectsInTurn, CanRedirect, HasRedirected}
use Rattle.evacuation.specs.Sliding.{Names, kept_at, slide_of}
use Rattle.evacuation.proofs.Turns.KeptObjects.{free_used}
use Rattle.evacuation.proofs.Slides.KeptObjects.{kept_as, is_some}
use Rattle.evacuation.proofs.Slides.Redirecting.{redirected_then, names_before, count_stays, object_stays}
use Rattle.evacuation.proofs.Slides.Written.{names_within}
use Rattle.evacuation.proofs.Slides.Cards.{names_holder}

-- a field of an object that is the same tile
pub names_alike : (s : Slide) (t t' : Table) (a i target : ℕ) → t'.words_per_region ≡ t.words_per_region → tile_in t' a ≡ tile_in t a
    → Names s t' a i target → Names s t a i target
names_alike s t t' a i target size same n = record {
  object = n.object;
  is = sym (kept_as s t t' a size (object_same t t' a same)) ∙ n.is;
  field = n.field;
}

-- the words of a run: none is another object's
module _ (t : Table) (g : IsShaped t) (first : ℕ) (known : first < length t.regions) (run : kind_of t first ≡ kinds.First) where
  abbrev size : ℕ
  size = t.words_per_region

  abbrev long : ℕ
  long = run_length t first

  abbrev from : ℕ
  from = first * size

  head : (s : Stored) × (nth_region t first ≡ First s)
  head = first_number t first run

  there : object_at t from ≡ Some head.0
  there = first_object t first head.0 g.positive head.1

  -- the bottom of each of its regions is one of its words
  holds : (j : ℕ) → j < long → IsHolder t from (from + j * size)
  holds j less = record {
    tile = Object head.0;
    tile_is = tile_of_object t from head.0 there;
    low = omega arith;
    high = (let r = reaches t first j head.0 g head.1 less in omega (arith, r));
  }

  region_from : from / size ≡ first
  region_from = div_is from size first (omega arith) (let z = g.positive in omega (arith, z))

  bottoms : (q : ℕ) → first ≤ q → from + (q - first) * size ≡ q * size
  bottoms q low = let e : first + (q - first) ≡ q = omega arith in
      let f : (first + (q - first)) * size ≡ q * size = ap (λ (k : ℕ). k * size) e in
      let h : (first + (q - first)) * size ≡ first * size + (q - first) * size = omega arith in
      sym h ∙ f

  -- a word of its regions that a tile holds is one of its object's
  pub own_word : (a w : ℕ) → IsHolder t a w → first ≤ w / size → w / size < first + long → a ≡ from
  own_word a w h low high =
      let q : ℕ = w / size in
      let bottom = bottoms q low in
      let start = holds (q - first) (omega arith) in
      let under : q * size ≤ w = div_low w size q g.positive refl in
      let at : (from + (q - first) * size) / size ≡ q =
      div_is (from + (q - first) * size) size q (omega (arith, bottom)) (let z = g.positive in omega (arith, bottom, z)) in
      let on = holder_onward t from (from + (q - first) * size) a w g start h (omega (arith, bottom, under)) (sym at) in
      elim (cases_eq a from) [
        | inl e ↦ e
        | inr n ↦
            let region : a / size ≡ first = on.1 ∙ region_from in
            let none = first_void t a g.positive (ap (kind_of t) region ∙ run)
            (λ e. n (e ∙ ap (λ (k : ℕ). k * size) region)) in
            absurd (let x = h.tile_is in cc)
      ]

  -- and its object has words in no other region
  own_region : (w : ℕ) → IsHolder t from w → (first ≤ w / size) × (w / size < first + long)
  own_region w h =
      let tile : h.tile ≡ Object head.0 = let e = h.tile_is in let f = tile_of_object t from head.0 there in cc in
      let large : tile_size h.tile ≡ tile_size (Object head.0) = ap tile_size tile in
      let z = g.positive in
      let covers : tile_size (Object head.0) ≤ long * size = elim (cases_lt (long * size) (tile_size (Object head.0))) [
        | inl lt ↦ absurd (let r = reached t first long head.0 g head.1 lt in omega arith)
        | inr le ↦ le
      ] in
      let l = h.low in
      let u = h.high in
      let end : first * size + long * size ≡ (first + long) * size = omega arith in (
        (elim (cases_lt (w / size) first) [
          | inr le ↦ le
          | inl lt ↦ absurd (let high = div_high w size (w / size) z refl in
              let p = product_le (w / size + 1) first size (omega arith) in
              let e : (w / size + 1) * size ≡ w / size * size + size = omega arith in omega (arith, high, p, e, l))
        ]),
        elim (cases_lt (w / size) (first + long)) [
          | inl lt ↦ lt
          | inr le ↦ absurd (let low = div_low w size (w / size) z refl in
              let p = product_le (first + long) (w / size) size le in omega (arith, low, p, end, u, large, covers))
        ],
      )

module _ (t : Table) (tams : Tops) (marks : List Bool) (cards : Cards) (sets : Sets) (card_words first to : ℕ)
    (can : CanRedirect t tams marks cards sets card_words first to) (g : IsShaped t) where
  abbrev s : Slide
  s = slide_of t tams marks card_words first to

  abbrev words : ℕ
  words = t.words_per_region

  some_words : 0 < card_words
  some_words = card_has_words card_words words sets.cards_per_region g.positive can.fit.whole_cards

  cards_are : words / card_words ≡ sets.cards_per_region
  cards_are = let e = can.fit.whole_cards in
      div_is words card_words sets.cards_per_region (omega (arith, e)) (omega (arith, e, some_words))

  pub whole : words ≡ words / card_words * card_words
  whole = can.fit.whole_cards ∙ ap (λ (q : ℕ). q * card_words) (sym cards_are)

  pub count : card_count sets ≡ length t.regions * (words / card_words)
  count = ap (λ (n : ℕ). n * sets.cards_per_region) can.fit.each_region ∙ ap (λ (q : ℕ). length t.regions * q) (sym cards_are)

  pub few_cards : words / card_words ≤ words
  few_cards = let e = whole in
      let p = mul-le (words / card_words) 1 (words / card_words) card_words (omega arith) some_words in
      omega (arith, e, p)

  apart : s.from ≢ s.to
  apart e =
      let p = product_le (to + 1) first words (let b = can.below in omega (arith, b)) in
      let q : (to + 1) * words ≡ to * words + words = omega arith in
      let z = g.positive in
      omega (arith, p, q, z, e)

  pub goes_down : s.to < s.from
  goes_down =
      let p = product_le (to + 1) first words (let b = can.below in omega (arith, b)) in
      let q : (to + 1) * words ≡ to * words + words = omega arith in
      let z = g.positive in
      omega (arith, p, q, z)

  pub slide_stands : (noted : List Bool) → length noted ≡ card_count sets → SlideStands s t noted
  slide_stands noted e = record {
    size = refl;
    count = refl;
    whole_cards = whole;
    each_mark = can.each_mark;
    each_card = e ∙ count;
    apart = apart;
  }

  pub slide_object : kept_at s t s.from ≡ Some can.object
  unfolding kept_at
  slide_object = can.is_kept

  abbrev m : ℕ
  m = run_length t first

  abbrev card_of : ℕ → ℕ → ℕ
  card_of a i = field_card card_words a i

  card_region_is : (a i : ℕ) → card_of a i / (words / card_words) ≡ field_word a i / words
  card_region_is a i = region_of_card words card_words (words / card_words) (field_word a i) g.positive whole

  some_cards : 0 < words / card_words
  some_cards = elim (cases_lt 0 (words / card_words)) [
    | inl lt ↦ lt
    | inr le ↦ absurd (
        let none : words / card_words ≡ 0 = omega arith in
        let e = whole ∙ ap (λ (q : ℕ). q * card_words) none in
        let z = g.positive in omega (arith, e, z))
  ]

  abbrev pub in_run : ℕ → Bool
  in_run card = is_between (first * (words / card_words)) ((first + m) * (words / card_words)) card

  inside : (card r : ℕ) → card / (words / card_words) ≡ r → first ≤ r → r < first + m → in_run card ≡ true
  inside card r e low high =
      let l = div_low card (words / card_words) r some_cards e in
      let h = div_high card (words / card_words) r some_cards e in
      let p = product_le first r (words / card_words) low in
      let q = product_le (r + 1) (first + m) (words / card_words) (omega (arith, high)) in
      let f : (r + 1) * (words / card_words) ≡ r * (words / card_words) + words / card_words = omega arith in
      between_yes (first * (words / card_words)) ((first + m) * (words / card_words)) card (omega (arith, l, p)) (omega (arith, h, q, f))

  below : (card r : ℕ) → card / (words / card_words) ≡ r → r < first → in_run card ≡ false
  below card r e low =
      let h = div_high card (words / card_words) r some_cards e in
      let q = product_le (r + 1) first (words / card_words) (omega (arith, low)) in
      let f : (r + 1) * (words / card_words) ≡ r * (words / card_words) + words / card_words = omega arith in
      between_no_below (first * (words / card_words)) ((first + m) * (words / card_words)) card (omega (arith, h, q, f))

  above : (card r : ℕ) → card / (words / card_words) ≡ r → first + m ≤ r → in_run card ≡ false
  above card r e high =
      let l = div_low card (words / card_words) r some_cards e in
      let q = product_le (first + m) r (words / card_words) high in
      between_no_above (first * (words / card_words)) ((first + m) * (words / card_words)) card (omega (arith, l, q))

  -- the words of another object are in other regions, and so are their cards
  pub elsewhere : (a i target : ℕ) → Names s t a i target → a ≢ s.from → first ≤ field_word a i / words
      → field_word a i / words < first + m → ⊥
  elsewhere a i target n other low high =
      other (own_word t g first can.known can.run a (field_word a i) (names_holder s t a i target g n) low high)

  other_card : (a i target : ℕ) → Names s t a i target → a ≢ s.from → in_run (card_of a i) ≡ false
  other_card a i target n other = elim (cases_lt (field_word a i / words) first) [
    | inl lt ↦ below (card_of a i) (field_word a i / words) (card_region_is a i) lt
    | inr ge ↦ elim (cases_lt (field_word a i / words) (first + m)) [
      | inl lt ↦ absurd (elsewhere a i target n other ge lt)
      | inr past ↦ above (card_of a i) (field_word a i / words) (card_region_is a i) past
    ]
  ]

  own_card : (i target : ℕ) → Names s t s.from i target → in_run (card_of s.from i) ≡ true
  own_card i target n =
      let r = own_region t g first can.known can.run (field_word s.from i) (names_holder s t s.from i target g n) in
      inside (card_of s.from i) (field_word s.from i / words) (card_region_is s.from i) r.0 r.1

  -- and in a region that is in use
  in_use : (a i target : ℕ) → Names s t a i target → kind_of t (card_of a i * card_words / words) ≢ kinds.Free
  in_use a i target n free =
      let w : ℕ = field_word a i in
      let region : w / words ≡ card_of a i * card_words / words =
      card_region w card_words words (words / card_words) (card_of a i) g.positive whole refl in
      let top = holder_below t a w g (names_holder s t a i target g n) in
      let none = free_used t (w / words) (ap (kind_of t) region ∙ free) in
      let low = div_low w words (w / words) g.positive refl in
      omega (arith, top, none, low)

  crosses : (a i : ℕ) → Names s t a i s.from → a ≢ s.from → IsCrossing words (kept_in t tams marks) a i s.from
  unfolding kept_at
  crosses a i n other = record {
    object = n.object;
    kept_is = n.is;
    field_is = n.field;
    leaves = λ e.
        let r : field_word a i / words ≡ first = sym e ∙ div_is s.from words first (omega arith) (let z = g.positive in omega (arith, z)) in
        let some = some_run in
        elsewhere a i s.from n other (omega (arith, r)) (omega (arith, r, some));
  }
    where
      some_run : 0 < m
      some_run = omega arith

  leads : (a i : ℕ) → Names s t a i s.from → a ≢ s.from → may_lead sets first (card_of a i) ≡ true
  leads a i n other = elim (can.remembers.each a i s.from (crosses a i n other)) [
    | inl dirty ↦ absurd (let clean = can.clean (card_of a i) in cc)
    | inr covered ↦ ap (λ (k : ℕ). may_lead sets k (card_of a i))
        (sym (div_is s.from words first (omega arith) (let z = g.positive in omega (arith, z)))) ∙ covered
  ]

  module _ (covered visited : List Bool)
      (flags : (card : ℕ) → kind_of t (card * card_words / words) ≢ kinds.Free → flag covered card ≡ may_lead sets first card)
      (cleared : (card : ℕ) → flag visited card ≡ (if in_run card then false else flag covered card)) where
    visits : (a i : ℕ) → Names s t a i s.from → a ≢ s.from → flag visited (card_of a i) ≡ true
    visits a i n other =
        cleared (card_of a i) ∙ ap (λ (b : Bool). if b then false else flag covered (card_of a i)) (other_card a i s.from n other)
        ∙ flags (card_of a i) (in_use a i s.from n) ∙ leads a i n other

    not_own : (card : ℕ) → flag visited card ≡ true → (i target : ℕ) → Names s t s.from i target → card_of s.from i ≡ card → ⊥
    not_own card on i target n e =
        let off = cleared card ∙ ap (λ (b : Bool). if b then false else flag covered card)
        (ap in_run (sym e) ∙ own_card i target n) in
        cc

    module _ (t' : Table) (noted noted' : List Bool) (turn : RedirectsInTurn s visited t t' noted noted')
        (none : (card : ℕ) → flag noted card ≡ false) (cards' : Cards) (dirty : (card : ℕ) → is_dirty cards' card ≡ flag noted' card) where
      at_last : (a i target : ℕ) → a ≢ s.from → Names s t' a i target → Names s turn.table a i target
      at_last a i target other n = names_alike s turn.table t' a i target turn.own.table.size (turn.own.others a other) n

      from_there : (a i target : ℕ) → a ≢ s.from → Names s turn.table a i target → Names s t' a i target
      from_there a i target other n =
          names_alike s t' turn.table a i target (sym turn.own.table.size) (sym (turn.own.others a other)) n

      pub all_redirected : cards'.logs ≡ cards.logs → IsStrictlyIncreasing cards'.queue → length cards'.dirty ≡ length cards.dirty
          → HasRedirected s t t' cards cards'
      all_redirected logs queue len = record {
        table = redirected_then s apart t turn.table t' turn.cards.table turn.own.table;
        unnamed = λ a i n. elim (cases_eq a s.from) [
          | inl e ↦
              let here = subst (λ (k : ℕ). Names s t' k i s.from) e n in
              let less = names_within s t' s.from i s.from here in
              let same = count_stays s apart turn.table t' turn.own.table s.from object_mid in
              turn.own.unnamed i (omega (arith, less, same)) here
          | inr other ↦
              let mid = at_last a i s.from other n in
              let was = names_before s apart t turn.table turn.cards.table a i mid in
              turn.unnamed (card_of a i) (visits a i was other) a i mid refl
        ];
        outside = λ a i other c.
            dirty (card_of a i) ∙ turn.own.grows (card_of a i) (turn.cards.each a i (c.0, at_last a i s.to other c.1));
        own = λ i l.
            let less = names_within s t' s.from i l.target l.names in
            let same = count_stays s apart turn.table t' turn.own.table s.from object_mid in
            dirty (card_of s.to i) ∙ turn.own.each i (omega (arith, less, same)) l;
        only = λ card e. elim (turn.own.only card (sym (dirty card) ∙ e)) [
          | inl o ↦ elim (turn.cards.only card o) [
            | inl on ↦ absurd (let off = none card in cc)
            | inr p ↦
                let (v, (a, i, c, k)) = p in
                let other : a ≢ s.from = λ q. not_own card v i s.from (subst (λ (b : ℕ). Names s t b i s.from) q c.0)
                (ap (λ (b : ℕ). card_of b i) (sym q) ∙ k) in
                inl (a, i, other, (c.0, from_there a i s.to other c.1), k)
          ]
          | inr p ↦ let (i, h, l, k) = p in inr (i, l, k)
        ];
        logs = logs;
        queue = queue;
        each_card = len;
      }
        where
          object_mid : IsSome (kept_at s turn.table s.from)
          object_mid = object_stays s apart t turn.table turn.cards.table s.from (is_some (kept_at s t s.from) can.object slide_object)
