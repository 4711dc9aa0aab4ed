-- The fields of a card, tile by tile.
use Rattle.std.proofs.Common.{◌≡◌, ◌≢◌, ◌+◌, ◌*◌, ◌/◌, ◌<◌, ◌≤◌, ◌∙◌, ℕ, List, Bool, Option, Some, None, length, refl, sym, ap}
use Rattle.std.proofs.Common.{subst, inl, inr, arith}
use Rattle.std.proofs.Common.{IsSome}
use Rattle.std.proofs.lemmas.Bool.{cases_eq, cases_lt}
use Rattle.std.proofs.lemmas.Nat.{mul-le}
use Rattle.std.proofs.lemmas.Option.{slice_get_within}
use Rattle.heap_model.specs.Heap.{Stored, fields}
use Rattle.regions.specs.Tiles.{Tile, Object, tile_size}
use Rattle.regions.specs.Table.{Table, object_at, tile_in, top_of}
use Rattle.regions.specs.Shaped.{IsShaped}
use Rattle.regions.specs.Walks.{IsHolder, IsNextTile, IsLast}
use Rattle.regions.proofs.Tiles.Holders.{holder_onward, holder_below, one_holder}
use Rattle.regions.proofs.Words.Divides.{card_has_words, card_region, card_within, div_low, div_high}
use Rattle.object_copy.proofs.Copied.{tile_of_object}
use Rattle.refinement.specs.Remembering.{field_card, field_word}
use Rattle.refinement.proofs.Holders.{word_holder}
use Rattle.evacuation.specs.Sliding.{Slide, SlideStands, RedirectsSome, Names, IsObjectUnnamed, IsCardUnnamed}
use Rattle.evacuation.proofs.Slides.KeptObjects.{kept_object, kept_none}
use Rattle.evacuation.proofs.Slides.Redirecting.{as_large, object_unnamed, names_before}
use Rattle.regions.proofs.Tiles.Steps.{some_tile}

-- no field of an object below an address that is in the card names the old place
abbrev pub AreUnnamedBelow : Slide → Table → ℕ → ℕ → Type 0
AreUnnamedBelow s t card at = (b : ℕ) → b < at → IsObjectUnnamed s t card b

-- a field's word belongs to its object's tile
pub names_holder : (s : Slide) (t : Table) (b i target : ℕ) → IsShaped t → Names s t b i target → IsHolder t b (field_word b i)
names_holder s t b i target g n =
    word_holder t b i n.object g (kept_object s t b n.object n.is) (slice_get_within (fields n.object) i (Some target) n.field)

names_tile : (s : Slide) (t : Table) (b i target : ℕ) → Names s t b i target → (x : Stored) × (tile_in t b ≡ Some (Object x))
names_tile s t b i target n = (n.object, tile_of_object t b n.object (kept_object s t b n.object n.is))

-- the tile that holds a word still does
pub holder_still : (s : Slide) (t t' : Table) (a w : ℕ) → RedirectsSome s t t' → IsHolder t a w → IsHolder t' a w
holder_still s t t' a w r h = go (object_at t a) refl
  where
    go : (o : Option Stored) → object_at t a ≡ o → IsHolder t' a w
    go None e = record { tile = h.tile; tile_is = r.unkept a (kept_none s t a e) ∙ h.tile_is; low = h.low; high = h.high }
    go (Some x) e =
        let (y, is, part) = r.objects a x e in
        let was : h.tile ≡ Object x = let f = h.tile_is in let g = tile_of_object t a x e in cc in
        let large = as_large x y part.same in
        let size : tile_size h.tile ≡ tile_size (Object x) = ap tile_size was in
        let high = h.high in
        record { tile = Object y; tile_is = tile_of_object t' a y is; low = h.low; high = omega (arith, high, size, large) }

module _ (s : Slide) (t : Table) (noted : List Bool) (stands : SlideStands s t noted) (g : IsShaped t) (card : ℕ) where
  whole : t.words_per_region ≡ s.cards_per_region * s.card_words
  whole = stands.size ∙ stands.whole_cards

  pub has_words : 0 < s.card_words
  has_words = card_has_words s.card_words t.words_per_region s.cards_per_region g.positive whole

  low : (w : ℕ) → w / s.card_words ≡ card → card * s.card_words ≤ w
  low w e = div_low w s.card_words card has_words e

  high : (w : ℕ) → w / s.card_words ≡ card → w < card * s.card_words + s.card_words
  high w e = div_high w s.card_words card has_words e

  region : (w : ℕ) → w / s.card_words ≡ card → w / t.words_per_region ≡ card * s.card_words / t.words_per_region
  region w e = card_region w s.card_words t.words_per_region s.cards_per_region card g.positive whole e

  -- no tile holds the card's first word: none of its words are handed out
  pub none_there : (card * s.card_words < top_of t (card * s.card_words / t.words_per_region) → ⊥) → IsCardUnnamed s t card
  none_there none b i n e =
      let h = holder_below t b (field_word b i) g (names_holder s t b i s.from g n) in
      let top = ap (top_of t) (region (field_word b i) e) in
      let l = low (field_word b i) e in
      none (omega arith)

  -- the objects with fields in the card start at the first tile or behind it, in its region
  pub onward : (first : ℕ) → IsHolder t first (card * s.card_words) → (b i target : ℕ) → Names s t b i target
      → field_card s.card_words b i ≡ card → (first ≤ b) × (b / t.words_per_region ≡ first / t.words_per_region)
  onward first h b i target n e = holder_onward t first (card * s.card_words) b (field_word b i) g h (names_holder s t b i target g n)
      (low (field_word b i) e) (region (field_word b i) e)

  -- none below the first tile
  pub none_below : (first : ℕ) → IsHolder t first (card * s.card_words) → AreUnnamedBelow s t card first
  none_below first h b less i n e = let o = (onward first h b i s.from n e).0 in omega (arith, o, less)

-- one tile after another
pub unnamed_still : (s : Slide) → s.from ≢ s.to → (t t' : Table) → RedirectsSome s t t' → (card at : ℕ) → AreUnnamedBelow s t card at
    → AreUnnamedBelow s t' card at
unnamed_still s apart t t' r card at below b less = object_unnamed s apart t t' r card b (below b less)

pub tile_still : (s : Slide) (t t' : Table) (a : ℕ) → RedirectsSome s t t' → IsSome (tile_in t a) → IsSome (tile_in t' a)
tile_still s t t' a r h = go (object_at t a) refl
  where
    go : (o : Option Stored) → object_at t a ≡ o → IsSome (tile_in t' a)
    go None e = subst (λ (u : Option Tile). IsSome u) (sym (r.unkept a (kept_none s t a e))) h
    go (Some x) e = let (y, is, part) = r.objects a x e in some_tile (tile_in t' a) (Object y) (tile_of_object t' a y is)

module _ (s : Slide) (t : Table) (card at : ℕ) (here : IsObjectUnnamed s t card at) (below : AreUnnamedBelow s t card at) where
  upto : (b i : ℕ) → b ≤ at → Names s t b i s.from → field_card s.card_words b i ≡ card → ⊥
  upto b i h n e = elim (cases_eq b at) [
    | inl q ↦ here i (subst (λ (k : ℕ). Names s t k i s.from) q n) (ap (λ (k : ℕ). field_card s.card_words k i) (sym q) ∙ e)
    | inr q ↦ below b (omega arith) i n e
  ]

  -- the next tile
  pub none_next : (next : ℕ) → IsNextTile t at next → AreUnnamedBelow s t card next
  none_next next x b less i n e = elim (cases_lt at b) [
    | inl above ↦ (let (y, is) = names_tile s t b i s.from n in absurd (x.between b (Object y) above less is))
    | inr under ↦ upto b i (omega arith) n e
  ]

  module _ (was : Table) (noted : List Bool) (stands : SlideStands s was noted) (g : IsShaped was) (r : RedirectsSome s was t) where
    -- the tile reaches the card's end
    pub none_over : (u : Tile) → tile_in was at ≡ Some u → card * s.card_words + s.card_words ≤ at + tile_size u → IsCardUnnamed s t card
    none_over u is over b i n e = elim (cases_lt at b) [
      | inl above ↦
          let h = names_holder s was b i s.from g (names_before s stands.apart was t r b i n) in
          let l = h.low in
          let w = high s was noted stands g card (field_word b i) e in
          let same = one_holder was b at (field_word b i) g h (record { tile = u; tile_is = is; low = omega arith; high = omega arith }) in
          absurd (omega (arith, same, above))
      | inr under ↦ upto b i (omega arith) n e
    ]

    -- the last one of the region
    pub none_last : (first : ℕ) → IsHolder was first (card * s.card_words) → at / s.words ≡ first / s.words → t.words_per_region ≡ s.words
        → IsLast t at → IsCardUnnamed s t card
    none_last first h same size x b i n e = elim (cases_lt at b) [
      | inl above ↦
          let (y, is) = names_tile s t b i s.from n in
          let o = (onward s was noted stands g card first h b i s.from (names_before s stands.apart was t r b i n) e).1 in
          let by : b / s.words ≡ at / s.words = subst (λ (k : ℕ). b / k ≡ first / k) stands.size o ∙ sym same in
          absurd (x b (Object y) above (subst (λ (k : ℕ). b / k ≡ at / k) (sym size) by) is)
      | inr under ↦ upto b i (omega arith) n e
    ]

-- the cards of a table have words in it
pub card_small : (s : Slide) (t : Table) (noted : List Bool) (card : ℕ) → SlideStands s t noted → card < length noted
    → card * s.card_words + s.card_words ≤ length t.regions * t.words_per_region
card_small s t noted card stands known =
    card_within card s.card_words t.words_per_region s.cards_per_region (length t.regions) (stands.size ∙ stands.whole_cards)
    (let e = stands.each_card in let c = stands.count in
    let f : length t.regions * s.cards_per_region ≡ s.regions * s.cards_per_region = ap (λ (n : ℕ). n * s.cards_per_region) c in
    omega (arith, known, e, f))

-- the card of a word has a note
pub word_card : (s : Slide) (t : Table) (noted : List Bool) → SlideStands s t noted → IsShaped t → (word : ℕ) → word < s.regions * s.words
    → word / s.card_words < length noted
word_card s t noted stands g word within = elim (cases_lt (word / s.card_words) (length noted)) [
  | inl less ↦ less
  | inr past ↦
      let z = has_words s t noted stands g 0 in
      let low = div_low word s.card_words (word / s.card_words) z refl in
      let p = mul-le (s.regions * s.cards_per_region) s.card_words (word / s.card_words) s.card_words
      (let e = stands.each_card in omega (arith, past, e)) (omega arith) in
      let whole : s.regions * s.cards_per_region * s.card_words ≡ s.regions * s.words = rw stands.whole_cards (omega arith) in
      absurd (omega (arith, p, low, whole, within))
]
