-- Scans of the fields outside the set, card by card.
use Rattle.std.proofs.Common.{◌≡◌, ◌+◌, ◌*◌, ◌/◌, ◌<◌, ◌≤◌, ◌∷◌, ◌∙◌, ℕ, Bool, true, false, List, [], Option, Some, None, length, refl}
use Rattle.std.proofs.Common.{sym, ap, subst, inl, inr, arith, IfSome, IsSome}
use Rattle.std.specs.List.{AllZip}
use Rattle.std.proofs.lemmas.Bool.{cases_eq, cases_lt}
use Rattle.heap_model.specs.Heap.{Stored, fields}
use Rattle.heap_model.specs.Evacuation.{IsWord, place_after}
use Rattle.regions.specs.Tiles.{Tile, Object, tile_size}
use Rattle.regions.specs.Table.{Table, tile_in, top_of}
use Rattle.regions.specs.Shapes.{tile_shape}
use Rattle.regions.specs.declared.row.Shape.{Shape}
use Rattle.regions.specs.Walks.{IsHolder, IsPlacedTile}
use Rattle.regions.specs.Shaped.{IsShaped}
use Rattle.regions.proofs.Words.Divides.{card_has_words, card_within, card_region, div_low, div_high}
use Rattle.regions.proofs.Tiles.Holders.{holder_onward, holder_below, one_holder}
use Rattle.object_copy.specs.Copies.{Destinations}
use Rattle.object_copy.proofs.Copied.{tile_of_object}
use Rattle.refinement.specs.Remembering.{field_word}
use Rattle.refinement.proofs.Holders.{word_holder}
use Rattle.evacuation.specs.Space.{IsField, IsFieldClean, IsSpaceObject, IsStill, IsVisited, AreClean, flag}
use Rattle.evacuation.specs.declared.outside.Kept.{Kept}
use Rattle.evacuation.specs.declared.room.Context.{Context}
use Rattle.evacuation.specs.Turns.{Pause, IsPause, IsTurn, PauseStands, PauseGoesOn, AreKept, in_set, kept_now, layout, plan, space}
use Rattle.regions.specs.Walks.{IsNextTile, IsLast}
use Rattle.evacuation.specs.Cursors.{AreCleanBelow, IsCardClean}
use Rattle.mark_bitmap.specs.Tops.{Tops}
use Rattle.mark_bitmap.specs.Kept.{kept_in}
use Rattle.object_copy.proofs.Copied.{some_of}
use Rattle.regions.proofs.Tiles.Steps.{some_tile}
use Rattle.evacuation.proofs.Turns.KeptObjects.{kept_object}
use Rattle.evacuation.proofs.Turns.Following.{clean_after}

zip_length : (place : ℕ → Option ℕ) (xs ys : List (Option ℕ)) → AllZip (IsWord place) xs ys → length ys ≡ length xs
zip_length place [] [] z = refl
zip_length place [] (y ∷ ys) z = absurd z
zip_length place (x ∷ xs) [] z = absurd z
zip_length place (x ∷ xs) (y ∷ ys) z = let k = zip_length place xs ys z.1 in omega arith

-- an object that stood outside the set stands there still, with as many fields
pub outside_stands : (p : Pause) (t : Table) (d : Destinations) (b : ℕ) (x : Stored) → IsTurn p t d → (plan p).heap.kept b ≡ Some x
    → in_set p b ≡ false → IsStill (space p t) b (length (fields x))
outside_stands p t d b x turn at out =
    let k = turn.copying.heap.objects b b x at (rw out refl) in
    (k.part, k.at, zip_length (place_after (in_set p) (space p t).forward) (fields x) (fields k.part) k.words)

pub visited_field : (p : Pause) (t : Table) (d : Destinations) (visited : List Bool) (b i : ℕ) → IsTurn p t d
    → IsVisited (layout p) (plan p) visited b i → IsField (space p t) b i
visited_field p t d visited b i turn v =
    let (y, at, n) = outside_stands p t d b v.object turn v.at v.outside in
    let k = v.within in
    record { object = y; at = at; within = omega arith }

-- the word of a visited field belongs to its object's tile
visited_holder : (p : Pause) (t : Table) (d : Destinations) (visited : List Bool) (b i : ℕ) → IsShaped t → IsTurn p t d
    → IsVisited (layout p) (plan p) visited b i → IsHolder t b (field_word b i)
visited_holder p t d visited b i shape turn v =
    let f = visited_field p t d visited b i turn v in
    word_holder t b i f.object shape (kept_object p t b f.object f.at) f.within

module _ (p : Pause) (q : IsPause p) (card : ℕ) where
  has_words : 0 < p.card_words
  has_words = card_has_words p.card_words p.start.words_per_region p.cards_per_region q.shaped.positive q.whole_cards

  low : (w : ℕ) → w / p.card_words ≡ card → card * p.card_words ≤ w
  low w e = div_low w p.card_words card has_words e

  high : (w : ℕ) → w / p.card_words ≡ card → w < card * p.card_words + p.card_words
  high w e = div_high w p.card_words card has_words e

  module _ (t : Table) (d : Destinations) (turn : IsTurn p t d) (g : IsShaped t) where
    region : (w : ℕ) → w / p.card_words ≡ card → w / t.words_per_region ≡ card * p.card_words / t.words_per_region
    region w e = card_region w p.card_words t.words_per_region p.cards_per_region card g.positive (turn.table.size ∙ q.whole_cards) e

    -- no tile holds the card's first word: none of its words are handed out
    pub none_there : (card * p.card_words < top_of t (card * p.card_words / t.words_per_region) → ⊥)
        → (visited : List Bool) → IsCardClean p visited t card
    none_there none visited b i v e = absurd (
        let h = holder_below t b (field_word b i) g (visited_holder p t d visited b i g turn v) in
        let r = region (field_word b i) e in
        let s = ap (top_of t) r in
        let l = low (field_word b i) e in
        none (omega arith)
        )

    -- the objects of the card's visited fields start at the first tile or behind it, in its region
    pub onward : (first : ℕ) → IsHolder t first (card * p.card_words) → (visited : List Bool) (b i : ℕ)
        → IsVisited (layout p) (plan p) visited b i → field_word b i / p.card_words ≡ card
        → (first ≤ b) × (b / t.words_per_region ≡ first / t.words_per_region)
    onward first h visited b i v e = holder_onward t first (card * p.card_words) b (field_word b i) g h
        (visited_holder p t d visited b i g turn v) (low (field_word b i) e) (region (field_word b i) e)

    -- where that starts in a region of the set there is none of them
    pub none_inside : (first : ℕ) → IsHolder t first (card * p.card_words) → in_set p first ≡ true → (visited : List Bool)
        → IsCardClean p visited t card
    none_inside first h inside visited b i v e = absurd (
        let o = (onward first h visited b i v e).1 in
        let same : b / p.start.words_per_region ≡ first / p.start.words_per_region =
        subst (λ (n : ℕ). b / n ≡ first / n) turn.table.size o in
        let q : true ≡ false = sym inside ∙ ap (flag p.chosen) (sym same) ∙ v.outside in
        cc)

  -- one tile after another
  module _ (t t' : Table) (c c' : Context) (stands : PauseStands p t c) (on : PauseGoesOn p t t' c c') (visited : List Bool) (at : ℕ)
      (done : AreCleanBelow p visited t card at)
      (clean : (i : ℕ) → IsVisited (layout p) (plan p) visited at i → field_word at i / p.card_words ≡ card
      → IsFieldClean (layout p) (space p t') at i) where
    upto : (b i : ℕ) → IsVisited (layout p) (plan p) visited b i → field_word b i / p.card_words ≡ card → b ≤ at
        → IsFieldClean (layout p) (space p t') b i
    upto b i v e h = elim (cases_eq b at) [
      | inl same ↦ subst (λ (m : ℕ).
          IsVisited (layout p) (plan p) visited m i → field_word m i / p.card_words ≡ card → IsFieldClean (layout p) (space p t') m i)
          (sym same) (clean i) v e
      | inr other ↦
          let f = visited_field p t c.destinations visited b i stands.turn v in
          clean_after on b i v.outside (f.object, f.at) (done b i v e (omega arith))
    ]

    tile' : (b i : ℕ) → IsVisited (layout p) (plan p) visited b i → (y : Stored) × (tile_in t' b ≡ Some (Object y))
    tile' b i v =
        let f = visited_field p t' c'.destinations visited b i on.stands.turn v in
        (f.object, tile_of_object t' b f.object (kept_object p t' b f.object f.at))

    pub clean_next : (next : ℕ) → IsNextTile t' at next → AreCleanBelow p visited t' card next
    clean_next next n b i v e h = elim (cases_lt at b) [
      | inl above ↦ (let (y, is) = tile' b i v in absurd (n.between b (Object y) above h is))
      | inr below ↦ upto b i v e below
    ]

    -- the tile reaches the card's end
    pub clean_over : IsShaped t → (u : Tile) → tile_in t at ≡ Some u → card * p.card_words + p.card_words ≤ at + tile_size u
        → IsCardClean p visited t' card
    clean_over g u is over b i v e = elim (cases_lt at b) [
      | inl above ↦ absurd (
          let h = visited_holder p t c.destinations visited b i g stands.turn v in
          let l = h.low in
          let w = high (field_word b i) e in
          let here : IsHolder t at (field_word b i) =
          record { tile = u; tile_is = is; low = omega arith; high = omega arith } in
          let same = one_holder t b at (field_word b i) g h here in
          omega (arith, same, above))
      | inr below ↦ upto b i v e below
    ]

    pub clean_last : IsLast t' at → ((b i : ℕ) → IsVisited (layout p) (plan p) visited b i → field_word b i / p.card_words ≡ card
        → b / t'.words_per_region ≡ at / t'.words_per_region) → IsCardClean p visited t' card
    clean_last n same b i v e = elim (cases_lt at b) [
      | inl above ↦ (let (y, is) = tile' b i v in absurd (n b (Object y) above (same b i v e) is))
      | inr below ↦ upto b i v e below
    ]

-- ---- card after card
pub cards_none : (p : Pause) (visited : List Bool) (t : Table) → AreClean (layout p) (plan p) visited (space p t) 0
cards_none p visited t b i v h = absurd (omega arith)

pub clean_on : (p : Pause) (t t' : Table) (c c' : Context) (visited : List Bool) (n : ℕ) → PauseStands p t c → PauseGoesOn p t t' c c'
    → AreClean (layout p) (plan p) visited (space p t) n → AreClean (layout p) (plan p) visited (space p t') n
clean_on p t t' c c' visited n stands on clean b i v h =
    let f = visited_field p t c.destinations visited b i stands.turn v in
    clean_after on b i v.outside (f.object, f.at) (clean b i v h)

pub cards_more : (p : Pause) (t t' : Table) (c c' : Context) (visited : List Bool) (n : ℕ) → PauseStands p t c → PauseGoesOn p t t' c c'
    → AreClean (layout p) (plan p) visited (space p t) n → IsCardClean p visited t' n
    → AreClean (layout p) (plan p) visited (space p t') (n + 1)
cards_more p t t' c c' visited n stands on clean card b i v h = elim (cases_eq (field_word b i / p.card_words) n) [
  | inl e ↦ card b i v e
  | inr o ↦ clean_on p t t' c c' visited n stands on clean b i v (omega arith)
]

-- cards that aren't visited are passed over
pub cards_skipped : (p : Pause) (t : Table) (visited : List Bool) (n m : ℕ) → AreClean (layout p) (plan p) visited (space p t) n
    → ((a : ℕ) → n ≤ a → a < m → flag visited a ≡ false) → AreClean (layout p) (plan p) visited (space p t) m
cards_skipped p t visited n m clean none b i v h = elim (cases_lt (field_word b i / p.card_words) n) [
  | inl low ↦ clean b i v low
  | inr high ↦ absurd (let on = v.card in let off = none (field_word b i / p.card_words) high h in cc)
]

-- a card's words lie in the heap
pub card_small : (p : Pause) (card : ℕ) → IsPause p → card < length p.start.regions * p.cards_per_region
    → card * p.card_words + p.card_words ≤ length p.start.regions * p.start.words_per_region
card_small p card q h = card_within card p.card_words p.start.words_per_region p.cards_per_region (length p.start.regions) q.whole_cards h

pub object_now : (p : Pause) (t : Table) (kept : Kept) (at : ℕ) → AreKept p kept
    → IsSome (kept_in t kept.tams.now kept.marks.now at) → IsSpaceObject (space p t) at
unfolding kept_now
object_now p t kept at are s = some_of (kept_in t p.tams p.previous at)
    (subst (λ (m : List Bool). IsSome (kept_in t p.tams m at)) are.marks
    (subst (λ (u : Tops). IsSome (kept_in t u kept.marks.now at)) are.tams s))

pub object_tile : (p : Pause) (t : Table) (at : ℕ) → IsSpaceObject (space p t) at → IsSome (tile_in t at)
object_tile p t at o = some_tile (tile_in t at) (Object o.0) (tile_of_object t at o.0 (kept_object p t at o.0 o.1))

pub placed_tile : (t : Table) (at : ℕ) (shape : Shape) → IsSome (tile_in t at) → IfSome (tile_in t at) (λ u. shape ≡ tile_shape u)
    → IsPlacedTile t at shape
placed_tile t at shape s e = go (tile_in t at) refl s e
  where
    go : (o : Option Tile) → tile_in t at ≡ o → IsSome o → IfSome o (λ u. shape ≡ tile_shape u) → IsPlacedTile t at shape
    go None f x y = cc
    go (Some u) f x y = record { tile = u; tile_is = f; shape_is = y }

-- regions of the start are those of each table
pub region_by : (a b m n : ℕ) → m ≡ n → a / n ≡ b / n → a / m ≡ b / m
region_by a b m n e f = subst (λ (k : ℕ). a / k ≡ b / k) (sym e) f
