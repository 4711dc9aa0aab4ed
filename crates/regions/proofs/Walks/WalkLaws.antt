-- Laws of a walk, with no word in them.
use Rattle.std.proofs.Common.{◌≡◌, ℕ, zero, suc, ◌+◌, ◌-◌, ◌*◌, ◌<◌, ◌≤◌, Some, List, [], ◌∷◌, refl, sym, ◌∙◌, ap, arith}
use Rattle.regions.specs.Tiles.{Tile, tile_size, tile_at, total_size}
use Rattle.regions.specs.Table.{Table}
use Rattle.regions.specs.Walks.{tiles_from, IsCut, IsWalk, AllPositive, IsTileBehind, tiles_of, walk_rest, placed}
use Rattle.regions.proofs.Words.Parse.{past}

pub cut_none : (o : ℕ) (ts : List Tile) → IsCut o ts → total_size ts ≤ o → AllPositive ts → tiles_from o ts ≡ []
cut_none zero [] c h p = refl
cut_none zero (u ∷ ts) c h p = absurd (omega (arith, p.0))
cut_none (suc o) [] c h p = refl
cut_none (suc o) (u ∷ ts) c h p = cut_none (suc o - tile_size u) ts c.1 (omega (arith, c.0)) p.1

pub record IsStep (o n : ℕ) (ts : List Tile) (t : Tile) : Type 0 where
  pub rest_is : tiles_from o ts ≡ t ∷ tiles_from n ts
  pub cut : IsCut n ts
  pub within : n ≤ total_size ts

pub cut_step : (o n : ℕ) (ts : List Tile) (t : Tile) → IsCut o ts → tile_at o ts ≡ Some t
    → 0 < tile_size t → n ≡ o + tile_size t → IsStep o n ts t
cut_step o n [] t c f z e = cc
cut_step zero zero (u ∷ ts) t c f z e = absurd (omega arith)
cut_step zero (suc n) (u ∷ ts) t c f z e =
    let same : u ≡ t = cc in
    let size : tile_size u ≡ tile_size t = ap tile_size same in
    let none : suc n - tile_size u ≡ 0 = omega arith in
    record {
      rest_is = ap (λ (m : ℕ). u ∷ tiles_from m ts) (sym none) ∙ ap (λ (v : Tile). v ∷ tiles_from (suc n - tile_size u) ts) same;
      cut = (omega arith, rw none tt);
      within = omega arith;
    }
cut_step (suc o) zero (u ∷ ts) t c f z e = absurd (omega arith)
cut_step (suc o) (suc n) (u ∷ ts) t c f z e =
    let p = past (tile_size u) (suc o) _ t f in
    let i = cut_step (suc o - tile_size u) (suc n - tile_size u) ts t c.1 p.1 z (omega (arith, p.0)) in
    record {
      rest_is = i.rest_is;
      cut = (omega (arith, p.0), i.cut);
      within = omega (arith, i.within, p.0);
    }

pub stepped : (t : Table) (k o end : ℕ) (at : ℕ) (r : _) → IsWalk t k o end → (b : IsTileBehind t k o r)
    → (walk_rest t k o ≡ (r.0, r.1) ∷ walk_rest t k (o + r.2)) × IsWalk t k (o + r.2) end
stepped t k o end at r w b =
    let s = cut_step o (o + r.2) (tiles_of t k) b.tile w.cut b.tile_is (omega (arith, b.size_is, b.positive)) (omega (arith, b.size_is)) in
    let place : k * t.words_per_region + o + tile_size b.tile ≡ k * t.words_per_region + (o + r.2) = omega (arith, b.size_is) in (
      ap (placed (k * t.words_per_region + o)) s.rest_is ∙ rw (b.at_is, b.shape_is, place) refl,
      record { known = w.known; cut = s.cut; end_is = w.end_is; within = omega (arith, s.within, w.end_is); positive = w.positive },
    )

pub stopped : (t : Table) (k o end : ℕ) → IsWalk t k o end → end ≤ o → walk_rest t k o ≡ []
stopped t k o end w h = ap (placed (k * t.words_per_region + o)) (cut_none o (tiles_of t k) w.cut (omega (arith, w.end_is)) w.positive)
