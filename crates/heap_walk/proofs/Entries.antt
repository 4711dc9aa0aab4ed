-- What is told of one object.
use Rattle.std.proofs.Common.{◌≡◌, ◌∙◌, ℕ, ◌≤◌, List, [], ◌∷◌, Option, Some, None, length, refl, ap, subst, arith}
use Rattle.std.specs.Prelude.{IsSome, IfSome, slice_index, slice_get}
use Rattle.heap_model.specs.Heap.{Stored}
use Rattle.regions.specs.Table.{Table, tile_in, object_at, pointers_at, weaks_at, values_at, object_pointers, object_weaks, object_values}
use Rattle.step_core.specs.Stands.{CoreState, kept_of}
use Rattle.heap_walk.specs.Walks.{entries_at, entry_of, entry_if}
use Rattle.heap_walk.specs.Kept.{IsKeptFrom}
use Rattle.heap_walk.specs.Starts.{IsTileFrom, place_of, word_count}
use Rattle.heap_walk.specs.declared.objects.Entry.{Entry}
use Rattle.heap_walk.proofs.Keeping.{some_kept, kept_is, kept_tile}
use Rattle.regions.specs.Shaped.{IsShaped}
use Rattle.heap_walk.proofs.TileStarts.{tile_below}
use Rattle.heap_walk.proofs.Telling.{TellsNone}

-- a kept object is one of the table
pub kept_there : (c : CoreState) (t : Table) (a : ℕ) → t ≡ c.table → IsSome (kept_of c a) → IsSome (object_at t a)
kept_there c t a e h = let (s, is) = some_kept c a h in let there = kept_is c a s is in rw (e, there) refl

pub no_word : (vs : List ℕ) → length vs ≡ 0 → slice_index vs 0 ≡ 0
no_word [] e = refl
no_word (v ∷ vs) e = absurd (omega arith)

pub one_word : (vs : List ℕ) (v : ℕ) → slice_get vs 0 ≡ Some v → slice_index vs 0 ≡ v
one_word [] v e = cc
one_word (x ∷ vs) v e = cc

entry_is : (s : Stored) (name word p w v : ℕ) → name ≡ s.name → word ≡ slice_index s.values 0 → p ≡ length s.pointers → w ≡ length s.weaks
    → v ≡ length s.values
    → entry_of s ≡ record { name = name; word = word; pointers = p; weaks = w; values = v }
entry_is s name word p w v a b d e f = rw (a, b, d, e, f) refl

pub entry_told : (c : CoreState) (t : Table) (a name word p w v : ℕ) → t ≡ c.table → IsSome (kept_of c a)
    → IfSome (object_at t a) (λ s. name ≡ s.name)
    → word ≡ slice_index (values_at t a) 0
    → p ≡ length (pointers_at t a)
    → w ≡ length (weaks_at t a)
    → v ≡ length (values_at t a)
    → entries_at c a ≡ record { name = name; word = word; pointers = p; weaks = w; values = v } ∷ []
unfolding pointers_at weaks_at values_at
entry_told c t a name word p w v e h n d f g k =
    let (s, is) = some_kept c a h in
    let there : object_at t a ≡ Some s = rw e (kept_is c a s is) in
    ap entry_if is ∙ ap (λ (x : Entry). x ∷ []) (entry_is s name word p w v
    (subst (λ (o : Option Stored). IfSome o (λ s. name ≡ s.name)) there n)
    (d ∙ ap (λ (o : Option Stored). slice_index (object_values o) 0) there)
    (f ∙ ap (λ (o : Option Stored). length (object_pointers o)) there)
    (g ∙ ap (λ (o : Option Stored). length (object_weaks o)) there)
    (k ∙ ap (λ (o : Option Stored). length (object_values o)) there))

-- nothing is told where nothing is kept
pub none_told : (c : CoreState) (a : ℕ) → (IsSome (kept_of c a) → ⊥) → entries_at c a ≡ []
none_told c a none = go (kept_of c a) refl
  where
    go : (o : Option Stored) → kept_of c a ≡ o → entries_at c a ≡ []
    go None e = ap entry_if e
    go (Some s) e = absurd (none (rw e refl))

-- before the next kept object
pub none_until : (c : CoreState) (from at : ℕ) (o : Option ℕ) → o ≡ Some at → IsKeptFrom c from o → TellsNone (entries_at c) from at
none_until c from at None e k = cc
none_until c from at (Some b) e k = λ x low high. none_told c x (k.between x low (let same : b ≡ at = cc in omega arith))

pub found_above : (c : CoreState) (from at : ℕ) (o : Option ℕ) → o ≡ Some at → IsKeptFrom c from o → from ≤ at
found_above c from at None e k = cc
found_above c from at (Some b) e k = let same : b ≡ at = cc in let above = k.above in omega arith

pub found_kept : (c : CoreState) (from at : ℕ) (o : Option ℕ) → o ≡ Some at → IsKeptFrom c from o → IsSome (kept_of c at)
found_kept c from at None e k = cc
found_kept c from at (Some b) e k = let same : b ≡ at = cc in subst (λ (n : ℕ). IsSome (kept_of c n)) same k.kept

-- and behind the last one
pub none_behind : (c : CoreState) (from : ℕ) (o : Option ℕ) → o ≡ None → IsKeptFrom c from o
    → TellsNone (entries_at c) from (word_count c.table)
none_behind c from None e k = λ x low high. none_told c x (k x low)
none_behind c from (Some b) e k = cc

-- before the next tile
pub none_before : (c : CoreState) (from : ℕ) (o : Option ℕ) → IsTileFrom c.table from o → TellsNone (entries_at c) from (place_of c.table o)
none_before c from None t = λ x low high. none_told c x (λ some. t x low (kept_tile c x some))
none_before c from (Some b) t = λ x low high. none_told c x (λ some. t.between x low high (kept_tile c x some))

pub next_above : (c : CoreState) (from : ℕ) (o : Option ℕ) → from ≤ word_count c.table → IsTileFrom c.table from o
    → from ≤ place_of c.table o
next_above c from None below t = below
next_above c from (Some b) below t = t.above

pub next_tile : (c : CoreState) (from : ℕ) (o : Option ℕ) → IsTileFrom c.table from o → IfSome o (λ a. IsSome (tile_in c.table a))
next_tile c from None t = tt
next_tile c from (Some b) t = t.tile

pub place_below : (c : CoreState) (o : Option ℕ) → IsShaped c.table → IfSome o (λ a. IsSome (tile_in c.table a))
    → place_of c.table o ≤ word_count c.table
place_below c None g h = omega arith
place_below c (Some a) g h = let below = tile_below c.table a g h in omega arith
