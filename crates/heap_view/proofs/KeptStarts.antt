-- Where the kept objects start: by rising address, each once and none left out.
use Rattle.std.proofs.Common.{◌≡◌, ◌∙◌, ◌<◌, ◌≤◌, ◌+◌, ◌-◌, ℕ, zero, suc, List, [], ◌∷◌, ◌++◌, Option, Some, None, Less}
use Rattle.std.proofs.Common.{All, Contains, ap, arith, get_or, inl, inr, length, lt-ltb, refl, subst, sum_by, sym}
use Rattle.std.specs.Prelude.{IfSome, IsSome, is_some, slice_get}
use Rattle.std.specs.List.{AllByRecursion}
use Rattle.std.specs.List.Sorted.{IsStrictlySortedBy}
use Rattle.std.specs.Ordering.{nat_cmp}
use Rattle.std.proofs.lemmas.Bool.{cases_eq}
use Rattle.std.proofs.lemmas.Cmp.{nat_cmp_total}
use Rattle.std.proofs.lemmas.List.{append-nil}
use Rattle.std.proofs.lemmas.List.Elements.{All-append, All-cons, All-nil, All-weaker, Contains-append_left, Contains-append_right}
use Rattle.std.proofs.lemmas.List.Sums.{sum_by-le}
use Rattle.std.proofs.lemmas.Map.Views.{length-le_from_below}
use Rattle.heap_words.specs.Configs.{max_words}
use Rattle.heap_model.specs.Heap.{Stored}
use Rattle.regions.specs.Shaped.{IsShaped}
use Rattle.step_core.specs.Stands.{CoreState, IsCore, kept_of}
use Rattle.heap_walk.specs.Kept.{IsKeptFrom, place_above}
use Rattle.heap_walk.specs.Starts.{word_count}
use Rattle.heap_walk.specs.Walks.{told_among, told_between}
use Rattle.heap_walk.proofs.Keeping.{kept_tile}
use Rattle.heap_walk.proofs.Linking.{link_kept, links_small, root_kept}
use Rattle.heap_walk.proofs.Telling.{between_more, between_none, between_nothing, between_one}
use Rattle.heap_walk.proofs.TileStarts.{tile_below}
use Rattle.heap_view.specs.Snapshot.{AreNodes, edges_from, start_if, starts, starts_at}
use Rattle.heap_view.proofs.Ranks.{at_place}

-- the starts up to a kept object, or none yet
pub record AreStartsTo (c : CoreState) (last : Option ℕ) (items : List ℕ) : Type 0 where
  pub items_are : items ≡ told_between (starts_at c) 0 (place_above last)
  pub kept : IfSome last (λ a. IsSome (kept_of c a))

module _ (c : CoreState) where
  one_start : (a : ℕ) → IsSome (kept_of c a) → starts_at c a ≡ a ∷ []
  one_start a some = go (kept_of c a) some
    where
      go : (o : Option Stored) → IsSome o → start_if a o ≡ a ∷ []
      go None h = absurd (cc)
      go (Some s) h = refl

  no_start : (a : ℕ) → (IsSome (kept_of c a) → ⊥) → starts_at c a ≡ []
  no_start a none = go (kept_of c a) refl
    where
      go : (o : Option Stored) → kept_of c a ≡ o → starts_at c a ≡ []
      go None e = ap (start_if a) e
      go (Some s) e = absurd (none (rw e refl))

  -- ---- one after another
  pub starts_first : (items : List ℕ) → items ≡ [] → AreStartsTo c None items
  starts_first items none = record { items_are = none ∙ sym (between_nothing (starts_at c) 0); kept = tt }

  found : (from at : ℕ) (r : Option ℕ) → r ≡ Some at → IsKeptFrom c from r → IsKeptFrom c from (Some at)
  found from at r is k = subst (λ (o : Option ℕ). IsKeptFrom c from o) is k

  pub starts_more : (last r : Option ℕ) (at : ℕ) (items : List ℕ) → r ≡ Some at → IsKeptFrom c (place_above last) r
      → AreStartsTo c last items → AreStartsTo c (Some at) (items ++ at ∷ [])
  starts_more last r at items is k p =
      let from = place_above last in
      let next = found from at r is k in
      let above = next.above in
      let none = between_none (starts_at c) from at (λ x low high. no_start x (next.between x low high)) in
      let one = between_one (starts_at c) at ∙ one_start at next.kept in
      let rest = between_more (starts_at c) 0 at (at + 1) (omega arith) (omega arith) in
      let whole = between_more (starts_at c) 0 from at (omega arith) above in
      record {
        items_are =
            ap (λ (l : List ℕ). l ++ at ∷ []) (p.items_are ∙ sym (append-nil (told_between (starts_at c) 0 from))
            ∙ ap (λ (l : List ℕ). told_between (starts_at c) 0 from ++ l) (sym none) ∙ sym whole)
            ∙ ap (λ (l : List ℕ). told_between (starts_at c) 0 at ++ l) (sym one) ∙ sym rest;
        kept = next.kept;
      }

  pub starts_less : IsShaped c.table → (last r : Option ℕ) (at : ℕ) → r ≡ Some at → IsKeptFrom c (place_above last) r
      → word_count c.table - (at + 1) < word_count c.table - place_above last
  starts_less g last r at is k =
      let next = found (place_above last) at r is k in
      let above = next.above in
      let below = tile_below c.table at g (kept_tile c at next.kept) in
      omega (arith, above, below)

  pub starts_all : IsShaped c.table → (last r : Option ℕ) (items : List ℕ) → r ≡ None → IsKeptFrom c (place_above last) r
      → AreStartsTo c last items → items ≡ starts c
  starts_all g last r items is k p =
      let from = place_above last in
      let none = subst (λ (o : Option ℕ). IsKeptFrom c from o) is k in
      p.items_are ∙ sym (append-nil (told_between (starts_at c) 0 from))
      ∙ ap (λ (l : List ℕ). told_between (starts_at c) 0 from ++ l) (sym (between_none (starts_at c) from (word_count c.table)
      (λ x low high. no_start x (none x low))))
      ∙ sym (between_more (starts_at c) 0 from (word_count c.table) (omega arith) (within last p.kept))
    where
      within : (last : Option ℕ) → IfSome last (λ a. IsSome (kept_of c a)) → place_above last ≤ word_count c.table
      within None h = omega arith
      within (Some a) h = let below = tile_below c.table a g (kept_tile c a h) in omega (arith, below)

  -- ---- in order
  less_is : (x y : ℕ) → x < y → nat_cmp x y ≡ Less
  less_is x y lt = rw (lt-ltb x y lt) refl

  above : (low a n : ℕ) → low < a → AllByRecursion (λ y. nat_cmp low y ≡ Less) (told_among (starts_at c) a n)
  unfolding told_among
  above low a zero lt = tt
  above low a (suc n) lt = go (kept_of c a) (above low (suc a) n (omega (arith, lt)))
    where
      go : (o : Option Stored) → AllByRecursion (λ y. nat_cmp low y ≡ Less) (told_among (starts_at c) (suc a) n)
          → AllByRecursion (λ y. nat_cmp low y ≡ Less) (start_if a o ++ told_among (starts_at c) (suc a) n)
      go None rest = rest
      go (Some s) rest = (less_is low a lt, rest)

  rises : (a n : ℕ) → IsStrictlySortedBy nat_cmp (told_among (starts_at c) a n)
  unfolding told_among IsStrictlySortedBy
  rises a zero = tt
  rises a (suc n) = go (kept_of c a) (rises (suc a) n)
    where
      go : (o : Option Stored) → IsStrictlySortedBy nat_cmp (told_among (starts_at c) (suc a) n)
          → IsStrictlySortedBy nat_cmp (start_if a o ++ told_among (starts_at c) (suc a) n)
      go None rest = rest
      go (Some s) rest = (above a (suc a) n (omega arith), rest)

  all_kept : (a n : ℕ) → All (λ x. IsSome (kept_of c x)) (told_among (starts_at c) a n)
  unfolding told_among
  all_kept a zero = All-nil (λ (x : ℕ). IsSome (kept_of c x))
  all_kept a (suc n) =
      All-append (λ (x : ℕ). IsSome (kept_of c x)) (starts_at c a) (told_among (starts_at c) (suc a) n) (go (kept_of c a) refl)
      (all_kept (suc a) n)
    where
      go : (o : Option Stored) → kept_of c a ≡ o → All (λ x. IsSome (kept_of c x)) (start_if a o)
      go None e = All-nil (λ (x : ℕ). IsSome (kept_of c x))
      go (Some s) e = All-cons (λ (x : ℕ). IsSome (kept_of c x)) a [] (rw e refl) (All-nil (λ (x : ℕ). IsSome (kept_of c x)))

  contained : (a n x : ℕ) → a ≤ x → x < a + n → IsSome (kept_of c x) → Contains (told_among (starts_at c) a n) x
  unfolding told_among
  contained a zero x low high some = absurd (omega (arith, low, high))
  contained a (suc n) x low high some = elim (cases_eq x a) [
    | inl same ↦ Contains-append_left (starts_at c a) (told_among (starts_at c) (suc a) n) x
        (subst (λ (y : ℕ). Contains (starts_at c a) y) (sym same)
        (subst (λ (l : List ℕ). Contains l a) (sym (one_start a (subst (λ (y : ℕ). IsSome (kept_of c y)) same some)))
        (0, omega arith, refl)))
    | inr other ↦ Contains-append_right (starts_at c a) (told_among (starts_at c) (suc a) n) x
        (contained (suc a) n x (omega (arith, low, other)) (omega (arith, high)) some)
  ]

  -- ---- nodes
  pub nodes_are : IsShaped c.table → IsCore c → AreNodes c
  nodes_are g core =
      let up = rises 0 (word_count c.table - 0) in
      record {
        rising = up;
        kept = all_kept 0 (word_count c.table - 0);
        each = λ a some. at_place nat_cmp_total (starts c) a up
            (contained 0 (word_count c.table - 0) a (omega arith)
            (let below = tile_below c.table a g (kept_tile c a some) in omega (arith, below)) some);
        roots = λ p a e. root_kept c p a core e;
        links = λ weak a i b some e. link_kept c weak a i b core some e;
      }

  pub starts_few : IsShaped c.table → AreNodes c → length (starts c) ≤ max_words
  starts_few g nodes =
      let few = length-le_from_below (word_count c.table) (starts c) nodes.rising
      (All-weaker (λ a. IsSome (kept_of c a)) (λ a. a < word_count c.table) (λ a some. tile_below c.table a g (kept_tile c a some))
      (starts c) nodes.kept) in
      let within = g.in_all in
      omega (arith, few, within)

  -- ---- how many edges
  pub edges_small : IsShaped c.table → AreNodes c → length (starts c) ≤ max_words → sum_by (edges_from c) (starts c) ≤ 9223372036854775808
  edges_small g nodes few =
      let le = sum_by-le (edges_from c) 4294967296 (starts c)
      (All-weaker (λ a. IsSome (kept_of c a)) (λ a. edges_from c a ≤ 4294967296)
      (λ a some. let small = links_small c is_some a g some in omega (arith, small)) (starts c) nodes.kept) in
      omega (arith, le, few)

  -- ---- the items of a list of starts
  module _ (items : List ℕ) (nodes : AreNodes c) (same : items ≡ starts c) where
    pub item_kept : (i d : ℕ) → i < length items → IsSome (kept_of c (get_or items i d))
    item_kept i d lt =
        subst (λ (l : List ℕ). IsSome (kept_of c (get_or l i d))) (sym same)
        (nodes.kept i d (subst (λ (l : List ℕ). i < length l) same lt))

    pub items_small : IsShaped c.table → sum_by (edges_from c) items ≤ 9223372036854775808
    items_small g =
        subst (λ (l : List ℕ). sum_by (edges_from c) l ≤ 9223372036854775808) (sym same) (edges_small g nodes (starts_few g nodes))

pub item_at : {A : Type 0} (items : List A) (i : ℕ) (d : A) → i < length items → slice_get items i ≡ Some (get_or items i d)
item_at [] i d lt = absurd (omega (arith, lt))
item_at (x ∷ items) zero d lt = refl
item_at (x ∷ items) (suc i) d lt = item_at items i d (omega (arith, lt))
