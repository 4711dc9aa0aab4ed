-- Who names an object, place by place.
use Rattle.std.proofs.Common.{◌≡◌, ◌∙◌, ℕ, ◌+◌, ◌-◌, ◌<◌, ◌≤◌, List, [], ◌∷◌, Option}
use Rattle.std.proofs.Common.{Some, None, length, refl, ap, subst, arith, lt-ltb, le-ltb}
use Rattle.std.specs.Prelude.{IsSome, IfSome, slice_set}
use Rattle.heap_model.specs.Heap.{Stored}
use Rattle.regions.specs.Shaped.{IsShaped}
use Rattle.regions.specs.Table.{tile_in}
use Rattle.step_core.specs.Stands.{CoreState, kept_of}
use Rattle.heap_walk.specs.Starts.{IsTileFrom, place_of, word_count}
use Rattle.heap_walk.specs.Kept.{IsKeptFrom}
use Rattle.heap_walk.specs.Walks.{FillsFrom, IsTelling}
use Rattle.heap_walk.specs.Holders.{holder_if, holders_at, list_of, place_count, root_holders}
use Rattle.heap_walk.specs.declared.holders.Holder.{Holder}
use Rattle.heap_walk.proofs.Keeping.{kept_tile, left_over}
use Rattle.heap_walk.proofs.TileStarts.{tile_below}
use Rattle.heap_walk.proofs.Telling.{TellsNone, telling_past, telling_one, telling_full, telling_over}
use Rattle.heap_walk.proofs.Entries.{found_above, found_kept, next_above}

-- ---- places
pub at_root : (c : CoreState) (n p : ℕ) → p < length c.roots → holders_at c n p ≡ root_holders c n p
at_root c n p lt = rw (lt-ltb p (length c.roots) lt) refl

pub at_object : (c : CoreState) (n p : ℕ) → length c.roots ≤ p
    → holders_at c n p ≡ holder_if c n (p - length c.roots) (kept_of c (p - length c.roots))
at_object c n p le = rw (le-ltb p (length c.roots) le) refl

object_place : (c : CoreState) (n a : ℕ) → holders_at c n (length c.roots + a) ≡ holder_if c n a (kept_of c a)
object_place c n a =
    at_object c n (length c.roots + a) (omega arith) ∙ ap (λ (x : ℕ). holder_if c n x (kept_of c x)) back
  where
    back : (length c.roots + a) - length c.roots ≡ a
    back = omega arith

pub nothing_if : (c : CoreState) (n a : ℕ) → (IsSome (kept_of c a) → ⊥) → holder_if c n a (kept_of c a) ≡ []
nothing_if c n a none = go (kept_of c a) refl
  where
    go : (o : Option Stored) → kept_of c a ≡ o → holder_if c n a (kept_of c a) ≡ []
    go None e = ap (holder_if c n a) e
    go (Some s) e = absurd (none (rw e refl))

-- no place of an object that isn't kept
none_held : (c : CoreState) (n p q : ℕ) → ((x : ℕ) → p ≤ x → x < q → IsSome (kept_of c x) → ⊥)
    → TellsNone (holders_at c n) (length c.roots + p) (length c.roots + q)
none_held c n p q none = λ x low high.
    at_object c n x (omega arith) ∙ nothing_if c n (x - length c.roots) (none (x - length c.roots) (omega arith) (omega arith))

pub until : (c : CoreState) (p at : ℕ) (o : Option ℕ) → o ≡ Some at → IsKeptFrom c p o → (x : ℕ) → p ≤ x → x < at → IsSome (kept_of c x) → ⊥
until c p at None e k = cc
until c p at (Some b) e k = λ x low high some. k.between x low (let same : b ≡ at = cc in omega arith) some

pub onward : (c : CoreState) (from : ℕ) (o : Option ℕ) → IsTileFrom c.table from o → (x : ℕ) → from ≤ x → x < place_of c.table o
    → IsSome (kept_of c x) → ⊥
onward c from None t = λ x low high some. t x low (kept_tile c x some)
onward c from (Some b) t = λ x low high some. t.between x low high (kept_tile c x some)

-- ---- one kept object more
module _ (c : CoreState) (n : ℕ) (g : IsShaped c.table) (left : Option ℕ) (o : Option ℕ) (at : ℕ) (is : o ≡ Some at)
    (k : IsKeptFrom c (place_of c.table left) o) (next : Option ℕ) (t : IsTileFrom c.table (at + 1) next) where
  above : place_of c.table left ≤ at
  above = found_above c (place_of c.table left) at o is k

  below : at < word_count c.table
  below = tile_below c.table at g (kept_tile c at (found_kept c (place_of c.table left) at o is k))

  beyond : at + 1 ≤ place_of c.table next
  unfolding below
  beyond = next_above c (at + 1) next (omega (arith, below)) t

  pub found_less : left_over c.table next < left_over c.table left
  found_less = less left next above t
    where
      less : (left next : Option ℕ) → place_of c.table left ≤ at → IsTileFrom c.table (at + 1) next
          → left_over c.table next < left_over c.table left
      less None next up t = let b = below in absurd (omega arith)
      less (Some a) None up t = let b = below in omega arith
      less (Some a) (Some d) up t = let b = below in let e = t.above in omega arith

  module _ (from : ℕ) (before out : List Holder) (count : ℕ)
      (p : IsTelling (holders_at c n) from (length c.roots + place_of c.table left) before out count) where
    here : IsTelling (holders_at c n) from (length c.roots + at) before out count
    here = telling_past (holders_at c n) from (length c.roots + place_of c.table left) (length c.roots + at) before out count p
        (let a = above in omega arith) (none_held c n (place_of c.table left) at (until c (place_of c.table left) at o is k))

    after : (d : ℕ) (out' : List Holder) → IsTelling (holders_at c n) from (length c.roots + (at + 1)) before out' d
        → IsTelling (holders_at c n) from (length c.roots + place_of c.table next) before out' d
    after d out' q = telling_past (holders_at c n) from (length c.roots + (at + 1)) (length c.roots + place_of c.table next) before out' d q
        (let b = beyond in omega arith) (none_held c n (at + 1) (place_of c.table next) (onward c (at + 1) next t))

    pub passes : holder_if c n at (kept_of c at) ≡ []
        → IsTelling (holders_at c n) from (length c.roots + place_of c.table next) before out count
    passes none = after count out (telling_past (holders_at c n) from (length c.roots + at) (length c.roots + (at + 1)) before out count
        here
        (omega arith)
        (λ x low high. ap (holders_at c n) (let same : x ≡ length c.roots + at = omega arith in same) ∙ object_place c n at ∙ none))

    pub takes : (h : Holder) → holder_if c n at (kept_of c at) ≡ h ∷ [] → count < length before
        → IsTelling (holders_at c n) from (length c.roots + place_of c.table next) before (slice_set out count h) (count + 1)
    takes h one room = after (count + 1) (slice_set out count h)
        (subst (λ (x : ℕ). IsTelling (holders_at c n) from x before (slice_set out count h) (count + 1)) right
        (telling_one (holders_at c n) from (length c.roots + at) before out count h here (object_place c n at ∙ one) room))
      where
        right : length c.roots + at + 1 ≡ length c.roots + (at + 1)
        right = omega arith

-- the buffer is full at a kept object
pub stops_at : (c : CoreState) (n : ℕ) (left o : Option ℕ) (at : ℕ) → o ≡ Some at → IsKeptFrom c (place_of c.table left) o
    → (from : ℕ) (before out : List Holder) (count : ℕ)
    → IsTelling (holders_at c n) from (length c.roots + place_of c.table left) before out count → count ≡ length before
    → FillsFrom (holders_at c n) from (length c.roots + at) (place_count c) before out count
stops_at c n left o at is k from before out count p full =
    telling_full (holders_at c n) from (length c.roots + at) (place_count c) before out count
    (telling_past (holders_at c n) from (length c.roots + place_of c.table left) (length c.roots + at) before out count p
    (let a = found_above c (place_of c.table left) at o is k in omega arith)
    (none_held c n (place_of c.table left) at (until c (place_of c.table left) at o is k))) full

-- none is left
pub ends_all : (c : CoreState) (n : ℕ) (left o : Option ℕ) → IsShaped c.table → IfSome left (λ a. IsSome (tile_in c.table a)) → o ≡ None
    → IsKeptFrom c (place_of c.table left) o
    → (from : ℕ) (before out : List Holder) (count : ℕ)
    → IsTelling (holders_at c n) from (length c.roots + place_of c.table left) before out count → count ≤ length before
    → FillsFrom (holders_at c n) from (place_count c) (place_count c) before out count
ends_all c n left o g h is k from before out count p room =
    telling_over (holders_at c n) from (place_count c) (place_count c) before out count
    (telling_past (holders_at c n) from (length c.roots + place_of c.table left) (length c.roots + word_count c.table) before out count p
    (let b = below left h in omega arith) (none_held c n (place_of c.table left) (word_count c.table) (none o is k))) room (omega arith)
  where
    below : (left : Option ℕ) → IfSome left (λ a. IsSome (tile_in c.table a)) → place_of c.table left ≤ word_count c.table
    below None h = omega arith
    below (Some a) h = let b = tile_below c.table a g h in omega arith

    none : (o : Option ℕ) → o ≡ None → IsKeptFrom c (place_of c.table left) o → (x : ℕ) → place_of c.table left ≤ x → x < word_count c.table
        → IsSome (kept_of c x) → ⊥
    none None e k = λ x low high some. k x low some
    none (Some b) e k = cc

-- ---- roots
module _ (c : CoreState) (n from p : ℕ) (before out : List Holder) (count : ℕ) (lt : p < length c.roots)
    (h : IsTelling (holders_at c n) from p before out count) where
  pub root_passes : root_holders c n p ≡ [] → IsTelling (holders_at c n) from (p + 1) before out count
  root_passes none = telling_past (holders_at c n) from p (p + 1) before out count h (omega arith)
      (λ x low high. ap (holders_at c n) (let same : x ≡ p = omega arith in same) ∙ at_root c n p lt ∙ none)

  pub root_takes : (e : Holder) → root_holders c n p ≡ e ∷ [] → count < length before
      → IsTelling (holders_at c n) from (p + 1) before (slice_set out count e) (count + 1)
  root_takes e one room = telling_one (holders_at c n) from p before out count e h (at_root c n p lt ∙ one) room

-- what a result lists
pub listed : (xs : List Holder) (r : Option Holder) (h : Holder) → xs ≡ list_of r → r ≡ Some h → xs ≡ h ∷ []
listed xs None h e f = cc
listed xs (Some x) h e f = e ∙ ap (λ (y : Holder). y ∷ []) (let same : x ≡ h = cc in same)

pub unlisted : (xs : List Holder) (r : Option Holder) → xs ≡ list_of r → r ≡ None → xs ≡ []
unlisted xs None e f = e
unlisted xs (Some x) e f = cc

-- from an address on to the lowest tile
pub from_address : (c : CoreState) (n at : ℕ) (o : Option ℕ) → IsTileFrom c.table at o → at ≤ word_count c.table
    → (from : ℕ) (before out : List Holder) (count : ℕ) → IsTelling (holders_at c n) from (length c.roots + at) before out count
    → IsTelling (holders_at c n) from (length c.roots + place_of c.table o) before out count
from_address c n at o t le from before out count p =
    telling_past (holders_at c n) from (length c.roots + at) (length c.roots + place_of c.table o) before out count p
    (let a = next_above c at o le t in omega arith) (none_held c n at (place_of c.table o) (onward c at o t))
