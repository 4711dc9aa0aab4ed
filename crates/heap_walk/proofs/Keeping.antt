-- The lowest kept object, tile by tile.
use Rattle.std.proofs.Common.{◌≡◌, ◌∙◌, ℕ, ◌+◌, ◌-◌, ◌<◌, ◌≤◌, Option, Some, None, refl, ap, subst, arith, inl, inr}
use Rattle.std.proofs.Common.{Bool, true, false}
use Rattle.std.specs.Prelude.{IsSome, IfSome, IsTrue, is_some}
use Rattle.std.proofs.lemmas.Bool.{cases_lt, cases_eq}
use Rattle.heap_model.specs.Heap.{Stored}
use Rattle.regions.specs.Table.{Table, tile_in, object_at}
use Rattle.regions.specs.Shaped.{IsShaped}
use Rattle.regions.proofs.Tiles.Laws.{object_tile}
use Rattle.step_core.specs.Stands.{CoreState, IsCore, kept_of}
use Rattle.refinement.proofs.Holders.{kept_object}
use Rattle.heap_model.specs.Weak.{cleared_word}
use Rattle.heap_model.specs.Clearing.{where_kept}
use Rattle.marker.specs.Views as views
use Rattle.marker.proofs.Swept.{swept_first}
use Rattle.marker.proofs.Ended.{word_kept}
use Rattle.heap_walk.specs.Starts.{IsTileFrom, place_of, word_count}
use Rattle.heap_walk.specs.Kept.{IsKeptFrom}
use Rattle.heap_walk.proofs.TileStarts.{tile_below}

-- where a kept object starts an object of the table does, and it is the same
pub kept_is : (c : CoreState) (a : ℕ) (s : Stored) → kept_of c a ≡ Some s → object_at c.table a ≡ Some s
unfolding kept_of
kept_is c a s e = kept_object c.table c.marker.tams c.marker.bitmaps.previous a s e

pub some_kept : (c : CoreState) (a : ℕ) → IsSome (kept_of c a) → (s : Stored) × (kept_of c a ≡ Some s)
some_kept c a h = go (kept_of c a) refl h
  where
    go : (o : Option Stored) → kept_of c a ≡ o → IsSome o → (s : Stored) × (kept_of c a ≡ Some s)
    go None e x = cc
    go (Some s) e x = (s, e)

-- and a tile
pub kept_tile : (c : CoreState) (a : ℕ) → IsSome (kept_of c a) → IsSome (tile_in c.table a)
unfolding object_at
kept_tile c a h = let (s, e) = some_kept c a h in rw (object_tile (tile_in c.table a) s (kept_is c a s e)) refl

-- none is kept between, and a tile is next, or none is
pub record IsSearch (c : CoreState) (from : ℕ) (left : Option ℕ) : Type 0 where
  pub none : (x : ℕ) → from ≤ x → x < place_of c.table left → IsSome (kept_of c x) → ⊥
  pub above : IfSome left (λ a. from ≤ a)
  pub next : IfSome left (λ a. IsSome (tile_in c.table a))

-- how many words it may still go over
abbrev pub left_over : Table → Option ℕ → ℕ
left_over t None = 0
left_over t (Some a) = word_count t - a

pub search_first : (c : CoreState) (left : Option ℕ) → IfSome left (λ a. IsSome (tile_in c.table a))
    → IsSearch c (place_of c.table left) left
search_first c None h = record { none = λ x low high some. absurd (omega arith); above = tt; next = tt }
search_first c (Some a) h = record { none = λ x low high some. absurd (omega arith); above = omega arith; next = h }

module _ (c : CoreState) (from at : ℕ) (left : Option ℕ) (g : IsShaped c.table) (e : left ≡ Some at) (p : IsSearch c from left) where
  here : IsSearch c from (Some at)
  here = subst (λ (o : Option ℕ). IsSearch c from o) e p

  pub search_tile : IsSome (tile_in c.table at)
  search_tile = here.next

  pub search_found : IsSome (kept_of c at) → IsKeptFrom c from (Some at)
  search_found k = record { above = here.above; kept = k; between = here.none }

  pub search_next : (next : Option ℕ) → (IsSome (kept_of c at) → ⊥) → IsTileFrom c.table (at + 1) next → IsSearch c from next
  search_next None gone t = record {
    none = λ x low high some. elim (cases_lt x at) [
      | inl lt ↦ here.none x low lt some
      | inr ge ↦ elim (cases_eq x at) [
        | inl same ↦ gone (subst (λ (n : ℕ). IsSome (kept_of c n)) same some)
        | inr other ↦ t x (omega arith) (kept_tile c x some)
      ]
    ];
    above = tt;
    next = tt;
  }
  search_next (Some b) gone t = record {
    none = λ x low high some. elim (cases_lt x at) [
      | inl lt ↦ here.none x low lt some
      | inr ge ↦ elim (cases_eq x at) [
        | inl same ↦ gone (subst (λ (n : ℕ). IsSome (kept_of c n)) same some)
        | inr other ↦ t.between x (omega arith) high (kept_tile c x some)
      ]
    ];
    above = (let a = here.above in let b = t.above in omega arith);
    next = t.tile;
  }

  pub search_less : (next : Option ℕ) → IsTileFrom c.table (at + 1) next → left_over c.table next < left_over c.table left
  search_less None t = (let b = tile_below c.table at g here.next in rw e (omega arith))
  search_less (Some n) t = (let b = tile_below c.table at g here.next in let a = t.above in rw e (omega arith))

pub search_over : (c : CoreState) (from : ℕ) (left : Option ℕ) → IsShaped c.table → left ≡ None → IsSearch c from left
    → IsKeptFrom c from None
search_over c from None g e p = λ x low some. p.none x low (tile_below c.table x g (kept_tile c x some)) some
search_over c from (Some a) g e p = cc

-- ---- whether a tile is a kept object
-- an object is kept where marks and tops tell so
pub kept_by : (c : CoreState) (core : IsCore c) (a : ℕ) (w : Option ℕ) (r : Bool) → IsSome (object_at c.table a)
    → w ≡ cleared_word (views.ended_marking_of c.table c.marker) (Some a) → r ≡ is_some w
    → (IsTrue r → IsSome (kept_of c a)) × (IsSome (kept_of c a) → IsTrue r)
unfolding kept_of
kept_by c core a w r there is told = go (kept_of c a) refl
  where
    by_marks : cleared_word (views.ended_marking_of c.table c.marker) (Some a) ≡ where_kept (kept_of c a) a
    by_marks = word_kept c.table c.table c.marker c.roots (λ (y : ℕ). ⊥) (swept_first
        (views.ended_marking_of c.table c.marker) c.table) core.slots.lead a a there

    go : (o : Option Stored) → kept_of c a ≡ o → (IsTrue r → IsSome (kept_of c a)) × (IsSome (kept_of c a) → IsTrue r)
    go None e = (
      λ t. absurd {A = IsSome (kept_of c a)} (let no = told ∙ ap is_some (is ∙ by_marks ∙ ap (λ (o : Option Stored). where_kept o a) e) in
          let yes : r ≡ true = t in cc),
      λ s. absurd (let some = subst (λ (o : Option Stored). IsSome o) e s in cc),
    )
    go (Some s) e = (
      λ t. rw e refl,
      λ s. told ∙ ap is_some (is ∙ by_marks ∙ ap (λ (o : Option Stored). where_kept o a) e),
    )

-- what is no object isn't
pub kept_not : (c : CoreState) (a : ℕ) → object_at c.table a ≡ None
    → (IsTrue false → IsSome (kept_of c a)) × (IsSome (kept_of c a) → IsTrue false)
kept_not c a none = (
  λ t. absurd (let no : false ≡ true = t in cc),
  λ s. absurd (let (x, e) = some_kept c a s in let is = kept_is c a x e in cc),
)
