-- Where the objects of an ordinary region end, and that none starts within another.
use Rattle.regions.proofs.Common.{region_tiles, region_tile, region_kind, region_used, tile_object, stored_size, total_size, nth_region}
use Rattle.regions.proofs.Common.{tile_size, region_at, object_at, Ordinary, tiles_of, IsShaped, tile_at, kind_of, used_of, zero}
use Rattle.regions.proofs.Common.{tile_in, Option, get_or, Stored, Object, Region, top_of, arith, Table, First, Some, None, List, ℕ}
use Rattle.regions.proofs.Common.{refl, Tile, Free, Rest, ◌≡◌, ◌⊎◌, ◌+◌, ◌-◌, ◌*◌, ◌/◌, ◌%◌, ◌<◌, ◌≤◌, ◌∙◌, inl, inr, suc, sym, ap}
use Rattle.regions.proofs.Tiles.Laws.{object_tile}
use Rattle.regions.proofs.Tiles.Placing.{tile_at-end, tile_at-inside}
use Rattle.mark_bitmap.proofs.Ranges.{div_is}
use Rattle.regions.specs.declared.row.Kind.TheVariants as kinds

-- what is known of the objects that start in region k
pub record Spans (t : Table) (k : ℕ) : Type 0 where
  pub top_le : top_of t k ≤ k * t.words_per_region + t.words_per_region
  pub ends : (x : ℕ) (s : Stored) → k * t.words_per_region ≤ x → x < k * t.words_per_region + t.words_per_region
      → object_at t x ≡ Some s → x + tile_size (Object s) ≤ top_of t k
  pub alone : (x y : ℕ) (s : Stored) → k * t.words_per_region ≤ x → x < k * t.words_per_region + t.words_per_region → object_at t x ≡ Some s
      → x < y → y < x + tile_size (Object s) → object_at t y ≡ None

object_here : (t : Table) (k o x : ℕ) (ts : List Tile) → nth_region t k ≡ Ordinary ts → o < t.words_per_region
    → k * t.words_per_region + o ≡ x → object_at t x ≡ tile_object (tile_at o ts)
unfolding object_at tile_in region_at nth_region
object_here t k o x ts is less at =
    let words : ℕ = t.words_per_region in
    let row : x / words ≡ k = div_is x words k (omega (arith, at)) (omega (arith, at, less)) in
    let whole : x / words * words + x % words ≡ x = omega (arith, less) in
    let same : x / words * words ≡ k * words = ap (λ (n : ℕ). n * words) row in
    let place : x % words ≡ o = omega (arith, whole, same, at) in
    ap (λ (n : ℕ). tile_object (region_tile (get_or t.regions n Free) (x % words))) row
    ∙ ap (λ (r : Region). tile_object (region_tile r (x % words))) is ∙ ap (λ (n : ℕ). tile_object (tile_at n ts)) place

tiles_fit : (t : Table) (k : ℕ) (ts : List Tile) → IsShaped t → nth_region t k ≡ Ordinary ts → total_size ts ≤ t.words_per_region
unfolding tiles_of kind_of
tiles_fit t k ts shape is =
    let fits = (shape.fitting k).fits (ap region_kind is) in
    omega (arith, fits, ap (λ (r : Region). total_size (region_tiles r)) is)

tiles_top : (t : Table) (k : ℕ) (ts : List Tile) → nth_region t k ≡ Ordinary ts → top_of t k ≡ k * t.words_per_region + total_size ts
unfolding used_of
tiles_top t k ts is = ap (λ (r : Region). k * t.words_per_region + region_used t.words_per_region r) is

spans_by : (t : Table) (k : ℕ) (ts : List Tile) → IsShaped t → nth_region t k ≡ Ordinary ts → Spans t k
spans_by t k ts shape is =
    let words : ℕ = t.words_per_region in
    let fits = tiles_fit t k ts shape is in
    let top = tiles_top t k ts is in
    let tile : (x : ℕ) (s : Stored) → k * words ≤ x → x < k * words + words → object_at t x ≡ Some s
    → tile_at (x - k * words) ts ≡ Some (Object s) =
    λ x s low high e.
    object_tile _ s (sym (object_here t k (x - k * words) x ts is (omega (arith, low, high)) (omega (arith, low))) ∙ e) in
    let end : (x : ℕ) (s : Stored) → k * words ≤ x → x < k * words + words → object_at t x ≡ Some s
    → x + tile_size (Object s) ≤ k * words + total_size ts =
    λ x s low high e.
    omega (arith, low, tile_at-end ts (x - k * words) (Object s) (tile x s low high e)) in
    record {
      top_le = omega (arith, fits, top);
      ends = λ x s low high e. omega (arith, top, end x s low high e);
      alone = λ x y s low high e after before.
          let inside : y < k * words + words = omega (arith, before, end x s low high e, fits) in
          object_here t k (y - k * words) y ts is (omega (arith, inside, low, after)) (omega (arith, low, after))
          ∙ ap tile_object (tile_at-inside ts (x - k * words) (y - k * words) (Object s) (tile x s low high e)
          (omega (arith, low, after)) (omega (arith, low, after, before)));
    }

pub spans : (t : Table) (k : ℕ) → IsShaped t → kind_of t k ≡ kinds.Ordinary → Spans t k
unfolding kind_of
spans t k shape ordinary = go (nth_region t k) refl ordinary
  where
    go : (r : Region) → nth_region t k ≡ r → region_kind r ≡ kinds.Ordinary → Spans t k
    go Free e f = cc
    go (Ordinary ts) e f = spans_by t k ts shape e
    go (First s) e f = cc
    go (Rest n) e f = cc

pub option_cases : (o : Option Stored) → (o ≡ None) ⊎ ((s : Stored) × (o ≡ Some s))
option_cases None = inl refl
option_cases (Some s) = inr (s, refl)

-- the words of the objects that are chosen at n addresses from a on
abbrev pub chosen_words : (ℕ → Option Stored) → ℕ → ℕ → ℕ
chosen_words g a zero = 0
chosen_words g a (suc n) = stored_size (g a) + chosen_words g (suc a) n

-- chosen objects are objects of region k that end at or below a limit
pub record IsChoice (t : Table) (k limit : ℕ) (g : ℕ → Option Stored) : Type 0 where
  pub object : (x : ℕ) (s : Stored) → g x ≡ Some s → object_at t x ≡ Some s
  pub ends : (x : ℕ) (s : Stored) → k * t.words_per_region ≤ x → x < k * t.words_per_region + t.words_per_region
      → g x ≡ Some s → x + tile_size (Object s) ≤ limit

module _ (t : Table) (k limit : ℕ) (g : ℕ → Option Stored) (p : Spans t k) (c : IsChoice t k limit g) where
  not_chosen : (y : ℕ) → object_at t y ≡ None → g y ≡ None
  not_chosen y e = elim (option_cases (g y)) [
    | inl none ↦ none
    | inr some ↦ absurd (let f = c.object y some.0 some.1 in let h = e in cc)
  ]

  -- so they have no more words than there are up to the limit
  chosen_after : (n a skip : ℕ) → k * t.words_per_region ≤ a → a + n ≤ k * t.words_per_region + t.words_per_region
      → ((y : ℕ) → a ≤ y → y < a + skip → g y ≡ None) → chosen_words g a n ≤ limit - (a + skip)
  chosen_after zero a skip low high none = omega arith
  chosen_after (suc n) a (suc skip) low high none =
      let here : g a ≡ None = none a (omega arith) (omega arith) in
      let rest =
      chosen_after n (suc a) skip (omega (arith, low)) (omega (arith, high)) (λ y l h. none y (omega (arith, l)) (omega (arith, h))) in
      omega (arith, rest, ap stored_size here)
  chosen_after (suc n) a zero low high none = elim (option_cases (g a)) [
    | inl here ↦
        let rest = chosen_after n (suc a) zero (omega (arith, low)) (omega (arith, high)) (λ y l h. absurd (omega (arith, l, h))) in
        omega (arith, rest, ap stored_size here)
    | inr some ↦
        let s : Stored = some.0 in
        let e : object_at t a ≡ Some s = c.object a s some.1 in
        let size : ℕ = tile_size (Object s) in
        let end : a + size ≤ limit = c.ends a s low (omega (arith, high)) some.1 in
        let rest = chosen_after n (suc a) (size - 1) (omega (arith, low)) (omega (arith, high))
        (λ y l h. not_chosen y (p.alone a y s low (omega (arith, high)) e (omega (arith, l)) (omega (arith, h)))) in
        omega (arith, rest, end, ap stored_size some.1)
  ]

  pub chosen_le : (a n : ℕ) → k * t.words_per_region ≤ a
      → a + n ≤ k * t.words_per_region + t.words_per_region → chosen_words g a n ≤ limit - a
  chosen_le a n low high = let le = chosen_after n a 0 low high (λ y l h. absurd (omega (arith, l, h))) in omega (arith, le)
