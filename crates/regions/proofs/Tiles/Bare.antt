-- Objects without held slots, over each change of the table.
use Rattle.regions.proofs.Common.{◌≡◌, ◌≢◌, ◌+◌, ◌-◌, ◌/◌, ◌%◌, ◌<◌, ◌≤◌, ◌⊎◌, ◌∷◌, ◌∙◌, ℕ, List, [], Option, Some, length, inl, inr}
use Rattle.regions.proofs.Common.{cases_eq, cases_lt, Tile, Object, Forwarded, Stored, Table, Free, Region, replicate, tile_in, object_at}
use Rattle.regions.proofs.Common.{tile_at, remainder, free_table, region_tile, region_at, AreBare, sym, ap, arith, refl}
use Rattle.regions.proofs.Tiles.Laws.{tile_of}
use Rattle.regions.proofs.Tiles.Changes.{WritesObject, object_same}
use Rattle.regions.proofs.Tiles.Placing.{Replaces}
use Rattle.regions.proofs.Tiles.TileLaws.{Forwards}
use Rattle.regions.proofs.Tiles.WeakStarts.{cut_object, object_is}
use Rattle.regions.proofs.LongRuns.RunLaws.{frees}

-- what a tile holds for keys
abbrev pub tile_held : Tile → List (Option ℕ)
tile_held (Object s) = s.held
tile_held _ = []

none_long : (vs ws : List (Option ℕ)) → length ws ≡ length vs → vs ≡ [] → ws ≡ []
none_long vs [] e none = refl
none_long vs (w ∷ ws) e none = absurd (omega (arith, e, ap (λ (l : List (Option ℕ)). length l) none))

-- a new table has no object
pub bare_free : (count size : ℕ) → AreBare (free_table count size)
unfolding free_table tile_in region_at
bare_free count size a s e =
    absurd (let is = tile_of (free_table count size) a s e in
    let none = ap (λ (r : Region). region_tile r (a % size)) (frees count (a / size)) in cc)

module _ (t t' : Table) (g : AreBare t) where
  pub bare_fewer : ((y : ℕ) (u : Tile) → tile_in t' y ≡ Some u → tile_in t y ≡ Some u) → AreBare t'
  bare_fewer fewer a s e = g a s (object_is t a s (fewer a (Object s) (tile_of t' a s e)))

  here : (a x : ℕ) (tile : Tile) (s : Stored) → tile_in t' a ≡ Some tile → tile_held tile ≡ [] → x ≡ a → object_at t' x ≡ Some s
      → s.held ≡ []
  here a x tile s is none q e =
      let at : tile_in t' a ≡ Some (Object s) = ap (tile_in t') (sym q) ∙ tile_of t' x s e in
      let same : Object s ≡ tile = cc in
      ap tile_held same ∙ none

  -- one tile is another
  pub bare_added : (a : ℕ) (tile : Tile) → tile_in t' a ≡ Some tile → tile_held tile ≡ [] → ((y : ℕ) → y ≢ a → tile_in t' y ≡ tile_in t y)
      → AreBare t'
  bare_added a tile is none others x s e = elim (cases_eq x a) [
    | inl q ↦ here a x tile s is none q e
    | inr n ↦ g x s (sym (object_same t t' x (others x n)) ∙ e)
  ]

  pub bare_written : (a : ℕ) (o o' : Stored) → WritesObject t t' a o o' → length o'.held ≡ length o.held → AreBare t'
  bare_written a o o' w long = bare_added a (Object o') (tile_of t' a o' w.is) (none_long o.held o'.held long (g a o w.was)) w.others

  pub bare_forwarded : (a to n : ℕ) → Forwards t t' a to n → AreBare t'
  bare_forwarded a to n f = bare_added a (Forwarded to n) f.is refl f.others

  pub bare_cut : (a n r : ℕ) (tile : Tile) → Replaces t t' a n (tile ∷ remainder r) → tile_held tile ≡ [] → AreBare t'
  bare_cut a n r tile c none x s e = elim (cases_lt x a) [
    | inl b ↦ g x s (sym (object_same t t' x (c.others x (inl b))) ∙ e)
    | inr b ↦ elim (cases_lt x (a + n)) [
      | inl f ↦
          let place : a + (x - a) ≡ x = omega arith in
          let at : tile_at (x - a) (tile ∷ remainder r) ≡ Some (Object s) =
          sym (c.within (x - a) (omega arith)) ∙ ap (tile_in t') place ∙ tile_of t' x s e in
          let p = cut_object tile r (x - a) s at in
          ap tile_held (sym p.1) ∙ none
      | inr f ↦ g x s (sym (object_same t t' x (c.others x (inr f))) ∙ e)
    ]
  ]
