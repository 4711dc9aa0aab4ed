-- The number of marked objects is that of the names that are reachable in the snapshot.
use Rattle.std.proofs.Common.{◌≡◌, ℕ, zero, suc, List, [], ◌∷◌, length, Option, Some, None, refl, sym, ap, ◌∙◌, subst, slice_get, map}
use Rattle.heap_model.specs.Graph.{Graph, IsReachable}
use Rattle.heap_model.specs.Heap.{Heap, Stored}
use Rattle.heap_model.specs.Clearing.{WillShow}
use Rattle.heap_model.specs.Marking.{Marking, KeepsSnapshot, IsDone}
use Rattle.heap_model.specs.Count.{IsReachableCount, ListsMarked}
use Rattle.heap_model.proofs.Finish.{reachable_marked}

abbrev name_in : Option Stored → ℕ
name_in None = 0
name_in (Some x) = x.name

get-map : (f : ℕ → ℕ) (xs : List ℕ) (i k : ℕ) → slice_get (map f xs) i ≡ Some k → (x : ℕ) × (slice_get xs i ≡ Some x) × (f x ≡ k)
get-map f [] i k e = cc
get-map f (x ∷ xs) zero k e = (x, refl, cc)
get-map f (x ∷ xs) (suc i) k e = get-map f xs i k e

map-get : (f : ℕ → ℕ) (xs : List ℕ) (i x : ℕ) → slice_get xs i ≡ Some x → slice_get (map f xs) i ≡ Some (f x)
map-get f [] i x e = cc
map-get f (y ∷ xs) zero x e = ap Some (ap f (let q : y ≡ x = cc in q))
map-get f (y ∷ xs) (suc i) x e = map-get f xs i x e

length_map : (f : ℕ → ℕ) (xs : List ℕ) → length (map f xs) ≡ length xs
length_map f [] = refl
length_map f (x ∷ xs) = ap suc (length_map f xs)

module _ (s g : Graph) (h : Heap) (m : Marking) (shows : WillShow g h) (inv : KeepsSnapshot s h m) (done : IsDone h m)
    (marks : List ℕ) (listed : ListsMarked m.marked marks) where
  name_at : ℕ → ℕ
  name_at a = name_in (h.kept a)

  named_at : (a : ℕ) (x : Stored) → h.kept a ≡ Some x → name_at a ≡ x.name
  unfolding name_at
  named_at a x e = ap name_in e

  stands : (i k : ℕ) → slice_get (map name_at marks) i ≡ Some k
      → (a : ℕ) × (x : Stored) × (slice_get marks i ≡ Some a) × (h.kept a ≡ Some x) × (x.name ≡ k) × IsReachable s x.name
  stands i k e =
      let (a, is, q) = get-map name_at marks i k e in
      let r = inv.marked a (listed.only i a is) in
      (a, r.object, is, r.at, sym (named_at a r.object r.at) ∙ q, r.is_live)

  pub counted : IsReachableCount s (length marks)
  counted = record {
    names = map name_at marks;
    count = length_map name_at marks;
    distinct = λ i j k ei ej.
        let (a, x, is, at, n, _) = stands i k ei in
        let (b, y, js, bt, o, _) = stands j k ej in
        let same = shows.distinct a b x y at bt (n ∙ sym o) in
        listed.distinct i j b (is ∙ ap Some same) js;
    reachable = λ i k e. let (_, _, _, _, n, r) = stands i k e in subst (IsReachable s) n r;
    each = λ k r.
        let t = reachable_marked s g h m inv done k r in
        let (i, is) = listed.each t.address t.marked in
        (i, map-get name_at marks i t.address is ∙ ap Some (named_at t.address t.object t.at ∙ t.named));
  }
