-- What is covered as a scan goes over the tiles of a card.
use Rattle.std.proofs.Common.{◌≡◌, ◌⊎◌, ◌+◌, ◌*◌, ◌/◌, ◌%◌, ◌<◌, ◌≤◌, ◌∷◌, ◌∙◌}
use Rattle.std.proofs.Common.{inl, inr, ℕ, Bool, true, Option, Some, None, List, [], ⊎_elim, refl, sym, ap, subst, arith}
use Rattle.heap_model.specs.Heap.{Stored}
use Rattle.heap_words.specs.declared.addr.Addr.{Addr}
use Rattle.regions.specs.Tiles.{Tile, tile_size}
use Rattle.regions.specs.Shapes.{size_of_shape, tile_shape}
use Rattle.regions.specs.Table.{Table, tile_in, object_at, tile_object, top_of}
use Rattle.regions.specs.Walks.{walk_rest, IsAmong, ArePlaced, IsPlacedTile, IsHolder}
use Rattle.regions.specs.Shaped.{IsShaped}
use Rattle.regions.specs.declared.row.Shape.{Shape}
use Rattle.regions.proofs.Walks.WalkTiles.{onward_placed, onward_among}
use Rattle.refinement.specs.Remembering.{field_word, field_card, IsCovered}
use Rattle.refinement.specs.Refining.{IsObjectCovered, AreObjectsCovered}
use Rattle.regions.proofs.Words.Divides.{card_region, card_has_words, div_low, div_high}
use Rattle.regions.proofs.Tiles.Holders.{holder_onward, holder_below, one_holder}
use Rattle.regions.proofs.Walks.WalkMade.{shape_size_is}
use Rattle.refinement.proofs.Holders.{Stands, field_holder}

-- nothing is covered less once more is covered
pub covered_still : (words : ℕ) (kept : ℕ → Option Stored) (len card a : ℕ) (old new : ℕ → ℕ → Bool)
    → ((r c : ℕ) → old r c ≡ true → new r c ≡ true) → IsObjectCovered words kept len card old a → IsObjectCovered words kept len card new a
covered_still words kept len card a old new g h = record { each = λ i v x y. g _ _ (h.each i v x y) }

-- what isn't kept has nothing to be covered
pub covered_dead : (words : ℕ) (kept : ℕ → Option Stored) (len card a : ℕ) (covered : ℕ → ℕ → Bool) → kept a ≡ None
    → IsObjectCovered words kept len card covered a
covered_dead words kept len card a covered e = record { each = λ i v x y. absurd (let k = x.kept_is in cc) }

no_object : (t : Table) (kept : ℕ → Option Stored) (a : ℕ) → Stands t kept → tile_in t a ≡ None → kept a ≡ None
unfolding object_at
no_object t kept a stands e = go (kept a) refl
  where
    go : (o : Option Stored) → kept a ≡ o → kept a ≡ None
    go None f = f
    go (Some s) f = absurd (let k : tile_object (tile_in t a) ≡ Some s = stands a s f in
        let q : tile_object (tile_in t a) ≡ None = ap tile_object e in
        cc)

pub tile_words : (shape : Shape) (u : Tile) (n : ℕ) → shape ≡ tile_shape u → n ≡ size_of_shape shape → n ≡ tile_size u
tile_words shape u n e f = f ∙ ap size_of_shape e ∙ shape_size_is u

-- each object from the first tile of the scan on, in its region, is done or left
pub record IsTurn (t : Table) (kept : ℕ → Option Stored) (len card first : ℕ) (covered : ℕ → ℕ → Bool)
    (left : List (Addr × Shape)) : Type 0 where
  pub placed_are : ArePlaced t left
  pub done : (a : ℕ) → first ≤ a → a / t.words_per_region ≡ first / t.words_per_region
      → IsObjectCovered t.words_per_region kept len card covered a ⊎ IsAmong a left

module _ (t : Table) (g : IsShaped t) (kept : ℕ → Option Stored) (stands : Stands t kept) (len card first : ℕ) where
  abbrev Turn : (ℕ → ℕ → Bool) → List (Addr × Shape) → Type 0
  Turn = IsTurn t kept len card first

  pub turn_first : (covered : ℕ → ℕ → Bool) (left : List (Addr × Shape)) (u : Tile) → tile_in t first ≡ Some u
      → left ≡ walk_rest t (first / t.words_per_region) (first % t.words_per_region) → Turn covered left
  turn_first covered left u f e = record {
    placed_are = subst (λ (l : List (Addr × Shape)). ArePlaced t l) (sym e) (onward_placed t first u g f);
    done = λ a l d. subst (λ (l : List (Addr × Shape)). IsObjectCovered t.words_per_region kept len card covered a ⊎ IsAmong a l)
        (sym e) (among a l d (tile_in t a) refl);
  }
    where
      among : (a : ℕ) → first ≤ a → a / t.words_per_region ≡ first / t.words_per_region → (v : Option Tile) → tile_in t a ≡ v
          → IsObjectCovered t.words_per_region kept len card covered a
          ⊎ IsAmong a (walk_rest t (first / t.words_per_region) (first % t.words_per_region))
      among a l d None x = inl (covered_dead t.words_per_region kept len card a covered (no_object t kept a stands x))
      among a l d (Some v) x = inr (onward_among t first a u v g.positive f x l d)

  pub turn_next : (old new : ℕ → ℕ → Bool) (left rest : List (Addr × Shape)) (x : Addr) (shape : Shape) → Turn old left
      → left ≡ (x, shape) ∷ rest → ((r c : ℕ) → old r c ≡ true → new r c ≡ true)
      → IsObjectCovered t.words_per_region kept len card new x → Turn new rest
  turn_next old new left rest x shape h e grows here =
      let placed : ArePlaced t ((x, shape) ∷ rest) = subst (λ (l : List (Addr × Shape)). ArePlaced t l) e h.placed_are in
      record {
        placed_are = placed.2;
        done = λ a l d. ⊎_elim
            (λ p. inl (covered_still t.words_per_region kept len card a old new grows p))
            (λ p. ⊎_elim (λ q. inl (subst (λ (n : ℕ). IsObjectCovered t.words_per_region kept len card new n) q here)) inr
            (subst (λ (l : List (Addr × Shape)). IsAmong a l) e p)) (h.done a l d);
      }

  pub turn_placed : (covered : ℕ → ℕ → Bool) (left rest : List (Addr × Shape)) (x : Addr) (shape : Shape) → Turn covered left
      → left ≡ (x, shape) ∷ rest → IsPlacedTile t x shape
  turn_placed covered left rest x shape h e =
      let placed : ArePlaced t ((x, shape) ∷ rest) = subst (λ (l : List (Addr × Shape)). ArePlaced t l) e h.placed_are in placed.0

  -- an object behind the card has no field in it
  covered_behind : (covered : ℕ → ℕ → Bool) (a : ℕ) → 0 < len → card * len + len ≤ a
      → IsObjectCovered t.words_per_region kept len card covered a
  covered_behind covered a z h = record { each = λ i v x y. absurd (let q = div_high (field_word a i) len card z y in omega (arith, q)) }

  abbrev AreDone : (ℕ → ℕ → Bool) → Type 0
  AreDone covered = AreObjectsCovered t kept len card covered first

  pub turn_past : (covered : ℕ → ℕ → Bool) (left rest : List (Addr × Shape)) (x : Addr) (shape : Shape) → 0 < len → Turn covered left
      → left ≡ (x, shape) ∷ rest → card * len + len ≤ x → AreDone covered
  turn_past covered left rest x shape z h e n a l d =
      let placed : ArePlaced t ((x, shape) ∷ rest) = subst (λ (l : List (Addr × Shape)). ArePlaced t l) e h.placed_are in
      ⊎_elim (λ p. p) (λ p. covered_behind covered a z
      (⊎_elim (λ q. omega arith) (λ q. let m = placed.1 a q in omega (arith, m)) (subst (λ (l : List (Addr × Shape)). IsAmong a l) e p)))
      (h.done a l d)

  -- a tile that reaches the card's end is the last with a word of the card
  pub turn_over : (old new : ℕ → ℕ → Bool) (left rest : List (Addr × Shape)) (x : Addr) (shape : Shape) (size : ℕ) → 0 < len → Turn old left
      → left ≡ (x, shape) ∷ rest → ((r c : ℕ) → old r c ≡ true → new r c ≡ true)
      → IsObjectCovered t.words_per_region kept len card new x → size ≡ size_of_shape shape → card * len + len ≤ x + size → AreDone new
  turn_over old new left rest x shape size z h e grows here is over a l d =
      let placed : ArePlaced t ((x, shape) ∷ rest) = subst (λ (l : List (Addr × Shape)). ArePlaced t l) e h.placed_are in
      let tile = placed.0 in
      let words = tile_words shape tile.tile size tile.shape_is is in
      ⊎_elim (λ p. p) (λ p. record {
        each = λ i v c y.
            let low = placed.1 a p in
            let high = div_high (field_word a i) len card z y in
            let holder : IsHolder t x (field_word a i) =
            record { tile = tile.tile; tile_is = tile.tile_is; low = omega arith; high = omega (arith, high, words) } in
            let same = one_holder t x a (field_word a i) g holder (field_holder t kept a i v g stands c) in
            (subst (λ (n : ℕ). IsObjectCovered t.words_per_region kept len card new n) same here).each i v c y;
      }) ((turn_next old new left rest x shape h e grows here).done a l d)

  -- where one tile has the whole card, an object with a field in it is that tile's
  pub whole_over : (new : ℕ → ℕ → Bool) (shape : Shape) (size : ℕ) → 0 < len → IsPlacedTile t first shape → first ≤ card * len
      → IsObjectCovered t.words_per_region kept len card new first → size ≡ size_of_shape shape → card * len + len ≤ first + size
      → AreDone new
  whole_over new shape size z tile low here is over a l d = record {
    each = λ i v c y.
        let words = tile_words shape tile.tile size tile.shape_is is in
        let above = div_low (field_word a i) len card z y in
        let high = div_high (field_word a i) len card z y in
        let holder : IsHolder t first (field_word a i) =
        record { tile = tile.tile; tile_is = tile.tile_is; low = omega (arith, low, above); high = omega (arith, high, words, over) } in
        let same = one_holder t first a (field_word a i) g holder (field_holder t kept a i v g stands c) in
        (subst (λ (n : ℕ). IsObjectCovered t.words_per_region kept len card new n) same here).each i v c y;
  }

  pub turn_last : (covered : ℕ → ℕ → Bool) (left : List (Addr × Shape)) → Turn covered left → left ≡ [] → AreDone covered
  turn_last covered left h e a l d = ⊎_elim (λ p. p) (λ p. absurd (subst (λ (l : List (Addr × Shape)). IsAmong a l) e p)) (h.done a l d)

  -- where a field of the card is
  module _ (q : ℕ) (whole : t.words_per_region ≡ q * len) where
    in_region : (a i : ℕ) → field_card len a i ≡ card
        → (card * len ≤ field_word a i) × (field_word a i / t.words_per_region ≡ card * len / t.words_per_region)
    in_region a i y = (
      div_low (field_word a i) len card (card_has_words len t.words_per_region q g.positive whole) y,
      card_region (field_word a i) len t.words_per_region q card g.positive whole y,
    )

    -- the card is done once the objects from its first tile on are
    pub card_covered : (covered : ℕ → ℕ → Bool) → IsHolder t first (card * len) → AreDone covered
        → IsCovered t.words_per_region kept len card covered
    card_covered covered s h = record {
      each = λ r l.
          let a : ℕ = l.at in
          let near = in_region a l.index l.in_card in
          let on = holder_onward t first (card * len) a (field_word a l.index) g s
          (field_holder t kept a l.index l.target g stands l.crossing) near.0 near.1 in
          subst (λ (k : ℕ). covered k card ≡ true) l.into ((h a on.0 on.1).each l.index l.target l.crossing l.in_card);
    }

    -- a card that starts at or above its region's top has no field
    pub card_empty : (covered : ℕ → ℕ → Bool) → top_of t (card * len / t.words_per_region) ≤ card * len
        → IsCovered t.words_per_region kept len card covered
    card_empty covered high = record {
      each = λ r l.
          let near = in_region l.at l.index l.in_card in
          let below = holder_below t l.at (field_word l.at l.index) g (field_holder t kept l.at l.index l.target g stands l.crossing) in
          let top : top_of t (field_word l.at l.index / t.words_per_region) ≡ top_of t (card * len / t.words_per_region) =
          ap (top_of t) near.1 in
          absurd (omega (arith, near.0, below, top));
    }
