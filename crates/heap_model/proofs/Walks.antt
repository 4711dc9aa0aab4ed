-- The forms of reachable.
use Rattle.std.proofs.Common.{◌≡◌, ℕ, zero, suc, List, ◌∷◌, [], ◌++◌, Some, refl, subst}
use Rattle.std.specs.Prelude.{slice_get}
use Rattle.heap_model.specs.Graph.{Graph, IsReachable, FromRoot, FromObject, FromHeld}
use Rattle.heap_model.specs.Paths.{IsIn, Follows, AsRoot, AsPointer, AsHeld, IsOrder, IsReachableInOrder, IsPath}
use Rattle.heap_model.specs.Paths.{IsReachableByPath}
use Rattle.heap_model.proofs.Lists.{get-append_left, get-append_right}

follows_more : (g : Graph) (xs ys : List ℕ) (n : ℕ) → ((m : ℕ) → IsIn xs m → IsIn ys m) → Follows g xs n → Follows g ys n
follows_more g xs ys n more (AsRoot j k e) = AsRoot j k e
follows_more g xs ys n more (AsPointer m k within p) = AsPointer m k (more m within) p
follows_more g xs ys n more (AsHeld m k l i p a b) = AsHeld m k l i p (more m a) (more k b)

front : (xs ys : List ℕ) (m : ℕ) → IsIn xs m → IsIn (xs ++ ys) m
front xs ys m a = (a.0, get-append_left xs ys a.0 m a.1)

order_append : (g : Graph) (xs ys : List ℕ) → IsOrder g xs → IsOrder g ys → IsOrder g (xs ++ ys)
order_append g [] ys p q = q
order_append g (x ∷ xs) ys p q = (follows_more g xs (xs ++ ys) x (front xs ys) p.0, order_append g xs ys p.1 q)

pub by_order : (g : Graph) (n : ℕ) → IsReachable g n → IsReachableInOrder g n
by_order g n (FromRoot j k e) = ([], (AsRoot j k e, tt))
by_order g n (FromObject m k i o r e q) =
    let (names, order) = by_order g m r in
    (m ∷ names, (AsPointer m k (0, refl) (o, i, e, q), order))
by_order g n (FromHeld m k l i p r rk) =
    let (xs, order) = by_order g m r in
    let (ys, keys) = by_order g k rk in
    let (j, is) = get-append_right xs (k ∷ ys) 0 k refl in
    (m ∷ (xs ++ (k ∷ ys)), (AsHeld m k l i p (0, refl) (suc j, is), order_append g (m ∷ xs) (k ∷ ys) order keys))

follows_reaches : (g : Graph) (names : List ℕ) (n : ℕ) → ((m : ℕ) → IsIn names m → IsReachable g m) → Follows g names n → IsReachable g n
follows_reaches g names n each (AsRoot j k e) = FromRoot j k e
follows_reaches g names n each (AsPointer m k within p) = FromObject m k p.1 p.0 (each m within) p.2 p.3
follows_reaches g names n each (AsHeld m k l i p a b) = FromHeld m k l i p (each m a) (each k b)

order_reaches : (g : Graph) (names : List ℕ) → IsOrder g names → (i m : ℕ) → slice_get names i ≡ Some m → IsReachable g m
order_reaches g [] order i m e = cc
order_reaches g (x ∷ xs) order zero m e =
    let same : x ≡ m = cc in
    subst (IsReachable g) same (follows_reaches g xs x (λ k a. order_reaches g xs order.1 a.0 k a.1) order.0)
order_reaches g (x ∷ xs) order (suc i) m e = order_reaches g xs order.1 i m e

pub from_order : (g : Graph) (n : ℕ) → IsReachableInOrder g n → IsReachable g n
from_order g n p = order_reaches g (n ∷ p.0) p.1 0 n refl

path_reaches : (g : Graph) (a n : ℕ) (path : List ℕ) → IsReachable g a → IsPath g a path n → IsReachable g n
path_reaches g a n [] r p = subst (IsReachable g) p r
path_reaches g a n (b ∷ path) r p = path_reaches g b n path (FromObject a b p.0.1 p.0.0 r p.0.2 p.0.3) p.1

pub from_path : (g : Graph) (n : ℕ) → IsReachableByPath g n → IsReachable g n
from_path g n p = path_reaches g p.1 n p.2 (FromRoot p.0 p.1 p.3) p.4
