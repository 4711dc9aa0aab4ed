-- What is held by keys, as lists.
use Rattle.std.proofs.Common.{◌≡◌, ◌∷◌, ℕ, zero, suc, List, [], Option, Some, None, refl, ap, subst, map, slice_get}
use Rattle.std.specs.List.{AllZip}
use Rattle.heap_model.specs.Graph.{held_by}
use Rattle.heap_model.specs.Heap.{Heap, Stored, IsShown}
use Rattle.heap_model.specs.Clearing.{IsWeakShown, where_kept, kept_word}

-- a slot whose key isn't nil holds what it held
pub held_by_get : (ws vs : List (Option ℕ)) (i k : ℕ) → slice_get ws i ≡ Some (Some k) → slice_get (held_by ws vs) i ≡ slice_get vs i
held_by_get ws [] i k e = refl
held_by_get [] (v ∷ vs) i k e = cc
held_by_get (None ∷ ws) (v ∷ vs) zero k e = cc
held_by_get (None ∷ ws) (v ∷ vs) (suc i) k e = held_by_get ws vs i k e
held_by_get (Some l ∷ ws) (v ∷ vs) zero k e = refl
held_by_get (Some l ∷ ws) (v ∷ vs) (suc i) k e = held_by_get ws vs i k e

-- what is held still was held
pub held_by_was : (ws vs : List (Option ℕ)) (i b : ℕ) → slice_get (held_by ws vs) i ≡ Some (Some b) → slice_get vs i ≡ Some (Some b)
held_by_was ws [] i b e = cc
held_by_was [] (v ∷ vs) zero b e = cc
held_by_was [] (v ∷ vs) (suc i) b e = held_by_was [] vs i b e
held_by_was (None ∷ ws) (v ∷ vs) zero b e = cc
held_by_was (None ∷ ws) (v ∷ vs) (suc i) b e = held_by_was ws vs i b e
held_by_was (Some l ∷ ws) (v ∷ vs) zero b e = e
held_by_was (Some l ∷ ws) (v ∷ vs) (suc i) b e = held_by_was ws vs i b e

-- so is it by the same keys again
pub held_by_again : (ws vs : List (Option ℕ)) → held_by ws (held_by ws vs) ≡ held_by ws vs
held_by_again ws [] = refl
held_by_again [] (v ∷ vs) = ap (λ l. None ∷ l) (held_by_again [] vs)
held_by_again (None ∷ ws) (v ∷ vs) = ap (λ l. None ∷ l) (held_by_again ws vs)
held_by_again (Some k ∷ ws) (v ∷ vs) = ap (λ l. v ∷ l) (held_by_again ws vs)

-- slots that are nil need no keys
pub held_by_bare : (ws vs : List (Option ℕ)) → ((i b : ℕ) → slice_get vs i ≡ Some (Some b) → ⊥) → held_by ws vs ≡ vs
held_by_bare ws [] f = refl
held_by_bare ws (Some b ∷ vs) f = absurd (f zero b refl)
held_by_bare [] (None ∷ vs) f = ap (λ l. None ∷ l) (held_by_bare [] vs (λ i b e. f (suc i) b e))
held_by_bare (None ∷ ws) (None ∷ vs) f = ap (λ l. None ∷ l) (held_by_bare ws vs (λ i b e. f (suc i) b e))
held_by_bare (Some k ∷ ws) (None ∷ vs) f = ap (λ l. None ∷ l) (held_by_bare ws vs (λ i b e. f (suc i) b e))

-- what is held at a slot, and from the next one on
pub held_by_tail : (R : Option ℕ → Option ℕ → Type 0) (w v t : Option ℕ) (ws vs ts : List (Option ℕ))
    → AllZip R (held_by (w ∷ ws) (v ∷ vs)) (t ∷ ts) → AllZip R (held_by ws vs) ts
held_by_tail R None v t ws vs ts z = z.1
held_by_tail R (Some k) v t ws vs ts z = z.1

pub held_by_ends : (R : Option ℕ → Option ℕ → Type 0) (v : Option ℕ) (ws vs : List (Option ℕ)) → AllZip R (held_by ws (v ∷ vs)) [] → ⊥
held_by_ends R v [] vs z = absurd z
held_by_ends R v (None ∷ ws) vs z = absurd z
held_by_ends R v (Some k ∷ ws) vs z = absurd z

-- keys that are nil in both and not nil in both hold the same
pub held_by_keys : (R : Option ℕ → Option ℕ → Type 0) → ((k : ℕ) → R None (Some k) → ⊥) → ((k : ℕ) → R (Some k) None → ⊥)
    → (S : Option ℕ → Option ℕ → Type 0) → ((v : Option ℕ) → S None v → v ≡ None) → (ws ws' vs vs' : List (Option ℕ))
    → AllZip R ws ws' → AllZip S vs vs' → held_by ws vs ≡ vs → held_by ws' vs' ≡ vs'
held_by_keys R up down S nil ws ws' [] [] r s e = refl
held_by_keys R up down S nil [] [] (v ∷ vs) (u ∷ us) r s e =
    let keyed : held_by [] vs ≡ vs = cc in
    let none : v ≡ None = cc in
    let here : u ≡ None = nil u (subst (λ k. S k u) none s.0) in
    let rest = held_by_keys R up down S nil [] [] vs us tt s.1 keyed in
    cc
held_by_keys R up down S nil (None ∷ ws) (None ∷ ws') (v ∷ vs) (u ∷ us) r s e =
    let keyed : held_by ws vs ≡ vs = cc in
    let none : v ≡ None = cc in
    let here : u ≡ None = nil u (subst (λ k. S k u) none s.0) in
    let rest = held_by_keys R up down S nil ws ws' vs us r.1 s.1 keyed in
    cc
held_by_keys R up down S nil (Some k ∷ ws) (Some l ∷ ws') (v ∷ vs) (u ∷ us) r s e =
    let keyed : held_by ws vs ≡ vs = cc in ap (λ l. u ∷ l) (held_by_keys R up down S nil ws ws' vs us r.1 s.1 keyed)
held_by_keys R up down S nil (None ∷ ws) (Some k ∷ ws') (v ∷ vs) (u ∷ us) r s e = absurd (up k r.0)
held_by_keys R up down S nil (Some k ∷ ws) (None ∷ ws') (v ∷ vs) (u ∷ us) r s e = absurd (down k r.0)
held_by_keys R up down S nil [] (w ∷ ws') (v ∷ vs) (u ∷ us) r s e = absurd r
held_by_keys R up down S nil (w ∷ ws) [] (v ∷ vs) (u ∷ us) r s e = absurd r
held_by_keys R up down S nil ws ws' [] (u ∷ us) r s e = absurd s
held_by_keys R up down S nil ws ws' (v ∷ vs) [] r s e = absurd s

-- a word that leads to what is kept stays
kept_here : (h : Heap) (w v : Option ℕ) → IsShown h w v → kept_word h.kept w ≡ w
kept_here h None None s = refl
kept_here h (Some a) (Some n) s = let e = s.1 in rw e refl
kept_here h _ _ s = absurd s

pub kept_all : (h : Heap) (ws vs : List (Option ℕ)) → AllZip (IsShown h) ws vs → map (kept_word h.kept) ws ≡ ws
kept_all h [] [] z = refl
kept_all h (w ∷ ws) (v ∷ vs) z = let here = kept_here h w v z.0 in let rest = kept_all h ws vs z.1 in cc
kept_all h _ _ z = absurd z

-- a key stays where its target is kept
pub kept_get : (kept : ℕ → Option Stored) (ws : List (Option ℕ)) (i a : ℕ) (x : Stored) → slice_get ws i ≡ Some (Some a) → kept a ≡ Some x
    → slice_get (map (kept_word kept) ws) i ≡ Some (Some a)
kept_get kept [] i a x e at = cc
kept_get kept (w ∷ ws) zero a x e at = let q : w ≡ Some a = cc in rw (q, at) refl
kept_get kept (w ∷ ws) (suc i) a x e at = kept_get kept ws i a x e at

-- words that show the same in two heaps lead to what is kept in both or in neither
kept_both_here : (h h' : Heap) (w v : Option ℕ) → IsWeakShown h w v → IsWeakShown h' w v → kept_word h'.kept w ≡ kept_word h.kept w
kept_both_here h h' None None s t = refl
kept_both_here h h' (Some a) None s t = rw (s, t) refl
kept_both_here h h' (Some a) (Some n) s t = let e = s.1 in let f = t.1 in rw (e, f) refl
kept_both_here h h' _ _ s t = absurd s

pub kept_both : (h h' : Heap) (ws vs : List (Option ℕ)) → AllZip (IsWeakShown h) ws vs → AllZip (IsWeakShown h') ws vs
    → map (kept_word h'.kept) ws ≡ map (kept_word h.kept) ws
kept_both h h' [] [] s t = refl
kept_both h h' (w ∷ ws) (v ∷ vs) s t =
    let here = kept_both_here h h' w v s.0 t.0 in let rest = kept_both h h' ws vs s.1 t.1 in cc
kept_both h h' _ _ s t = absurd s

-- what stayed stays again, where each kept object is kept still
module _ (kept kept' : ℕ → Option Stored) (on : (a : ℕ) (x : Stored) → kept a ≡ Some x → (y : Stored) × (kept' a ≡ Some y)) where
  twice_here : (a : ℕ) (o : Option Stored) → kept a ≡ o → kept_word kept' (where_kept o a) ≡ where_kept o a
  twice_here a None e = refl
  twice_here a (Some x) e = let (y, at) = on a x e in rw at refl

  twice_word : (w : Option ℕ) → kept_word kept' (kept_word kept w) ≡ kept_word kept w
  twice_word None = refl
  twice_word (Some a) = twice_here a (kept a) refl

  pub kept_twice : (ws : List (Option ℕ)) → map (kept_word kept') (map (kept_word kept) ws) ≡ map (kept_word kept) ws
  kept_twice [] = refl
  kept_twice (w ∷ ws) = let here = twice_word w in let rest = kept_twice ws in cc
