-- The classes of the kept objects, some at a time; and that they are few, and of small objects.
use Rattle.std.proofs.Common.{◌≡◌, ◌∙◌, ◌<◌, ◌≤◌, ◌+◌, ◌-◌, ◌*◌, ◌^◌, ◌==◌, ℕ, zero, suc, Bool, List, [], ◌∷◌, ◌++◌}
use Rattle.std.proofs.Common.{All, Option, Some, None, ap, ap₂, arith, drop, eq-eqb, eqb-true, inl, inr, length, map, refl}
use Rattle.std.proofs.Common.{subst, sum_by, sym, take}
use Rattle.std.proofs.lemmas.Bool.{cases_lt}
use Rattle.std.proofs.lemmas.List.{length-append, map-append, take_at}
use Rattle.std.proofs.lemmas.List.Elements.{All-append, All-cons, All-nil}
use Rattle.std.proofs.lemmas.List.Sums.{sum_by-le}
use Rattle.std.proofs.lemmas.Nat.{mul-le}
use Rattle.heap_words.specs.Configs.{max_words}
use Rattle.heap_model.specs.Heap.{Stored}
use Rattle.regions.specs.Shaped.{IsShaped}
use Rattle.refinement.proofs.Holders.{object_within}
use Rattle.step_core.specs.Stands.{CoreState, kept_of}
use Rattle.heap_walk.specs.Starts.{word_count}
use Rattle.heap_walk.specs.Walks.{TellsObjects, entries_at, entry_if, entry_of, told_among, told_between}
use Rattle.heap_walk.specs.declared.objects.Entry.{Entry}
use Rattle.heap_walk.proofs.Entries.{none_told}
use Rattle.heap_walk.proofs.Keeping.{kept_is, kept_tile}
use Rattle.heap_walk.proofs.Telling.{between_more, between_none, between_nothing}
use Rattle.heap_walk.proofs.TileStarts.{tile_below}
use Rattle.heap_view.specs.Census.{AddsClasses, AreCensusLines, AreSmall, IsCensus, class_of, class_size, kept_classes, table_text}
use Rattle.heap_view.specs.declared.census.Row.{Row}
use Rattle.heap_view.specs.declared.classes.Class.{Class}

-- classes of small objects, of at most so many
record AreSmallOf (ks : List Class) (n : ℕ) : Type 0 where
  few : length ks ≤ n
  each : All (λ k. class_size k ≤ max_words) ks

joined : (xs ys : List Class) (m n : ℕ) → AreSmallOf xs m → AreSmallOf ys n → AreSmallOf (xs ++ ys) (m + n)
joined xs ys m n p q = record {
  few = (let e = length-append xs ys in let a = p.few in let b = q.few in omega (arith, e, a, b));
  each = All-append (λ k. class_size k ≤ max_words) xs ys p.each q.each;
}

-- ---- some at a time
module _ (c : CoreState) (g : IsShaped c.table) where
  beyond : (x : ℕ) → word_count c.table ≤ x → entries_at c x ≡ []
  beyond x le = none_told c x (λ some. let b = tile_below c.table x g (kept_tile c x some) in omega (arith, b, le))

  none_from : (a b : ℕ) → word_count c.table ≤ a → told_between (entries_at c) a b ≡ []
  none_from a b le = between_none (entries_at c) a b (λ x low high. beyond x (omega (arith, low, le)))

  -- where some are told it goes on, below the heap's end
  goes_on : (from to : ℕ) → from ≤ to → 0 < length (told_between (entries_at c) from to)
      → word_count c.table - to < word_count c.table - from
  goes_on from to on some = elim (cases_lt from (word_count c.table)) [
    | inr past ↦ absurd (let none = ap length (none_from from to past) in omega (arith, none, some))
    | inl below ↦ elim (cases_lt from to) [
      | inl less ↦ omega (arith, below, less)
      | inr still ↦ absurd (
          let same : to ≡ from = omega (arith, on, still) in
          let none = ap length (ap (λ (x : ℕ). told_between (entries_at c) from x) same ∙ between_nothing (entries_at c) from) in
          omega (arith, none, some))
    ]
  ]

  pub adds_classes : (from to count most : ℕ) (before after : List Entry) (old new : List Class) (more : Bool)
      → TellsObjects c from to before after count → length before ≡ most → 0 < most → new ≡ old ++ map class_of (take count after)
      → more ≡ (count == most) → AddsClasses c from to old new more
  adds_classes from to count most before after old new more p room some is full =
      let told : take count after ≡ told_between (entries_at c) from to =
      ap (λ (l : List Entry). take count l) p.filled
      ∙ take_at (told_between (entries_at c) from to) (drop count before) count (sym p.count_is) in
      record {
        on = p.on;
        added = is ∙ ap (λ (l : List Entry). old ++ map class_of l) told;
        less = λ e. goes_on from to p.on (
            let all : count ≡ most = eqb-true count most (sym full ∙ e) in
            let n = p.count_is in
            omega (arith, all, n, some));
        over = λ e. p.over (
            let few : count ≡ most → ⊥ = λ same. let yes = eq-eqb count most same in cc in
            let within = p.room in
            elim (cases_lt count most) [ inl lt ↦ omega (arith, lt, room) | inr ge ↦ absurd (few (omega (arith, ge, within, room))) ]);
      }

  -- ---- how far the classes of the kept objects have come
  pub more_classes : (from to : ℕ) (old new : List Class) (more : Bool) → AddsClasses c from to old new more
      → old ≡ map class_of (told_between (entries_at c) 0 from) → new ≡ map class_of (told_between (entries_at c) 0 to)
  more_classes from to old new more p is =
      p.added
      ∙ ap (λ (l : List Class). l ++ map class_of (told_between (entries_at c) from to)) is
      ∙ sym (map-append class_of (told_between (entries_at c) 0 from) (told_between (entries_at c) from to))
      ∙ ap (map class_of) (sym (between_more (entries_at c) 0 from to (omega arith) p.on))

  pub all_classes : (to : ℕ) (items : List Class) → word_count c.table ≤ to → items ≡ map class_of (told_between (entries_at c) 0 to)
      → items ≡ kept_classes c
  all_classes to items past is =
      is ∙ ap (map class_of) (between_more (entries_at c) 0 (word_count c.table) to (omega arith) past
      ∙ ap (λ (l : List Entry). told_between (entries_at c) 0 (word_count c.table) ++ l) (none_from (word_count c.table) to (omega arith))
      ∙ append-nothing (told_between (entries_at c) 0 (word_count c.table)))
    where
      append-nothing : (l : List Entry) → l ++ [] ≡ l
      append-nothing [] = refl
      append-nothing (x ∷ l) = ap (λ (r : List Entry). x ∷ r) (append-nothing l)

  -- ---- few and small
  kept_small : (a : ℕ) (s : Stored) → kept_of c a ≡ Some s → 2 + length s.pointers + length s.weaks + length s.values ≤ max_words
  kept_small a s e =
      let within = object_within c.table a s g (kept_is c a s e) in
      let all = g.in_all in
      omega (arith, within, all)

  one_small : (a : ℕ) (o : Option Stored) → kept_of c a ≡ o → AreSmallOf (map class_of (entry_if o)) 1
  one_small a None e = record { few = omega arith; each = All-nil (λ (k : Class). class_size k ≤ max_words) }
  one_small a (Some s) e = record {
    few = omega arith;
    each = All-cons (λ (k : Class). class_size k ≤ max_words) (class_of (entry_of s)) [] (kept_small a s e)
        (All-nil (λ (k : Class). class_size k ≤ max_words));
  }

  among_small : (a n : ℕ) → AreSmallOf (map class_of (told_among (entries_at c) a n)) n
  unfolding told_among
  among_small a zero = record { few = omega arith; each = All-nil (λ (k : Class). class_size k ≤ max_words) }
  among_small a (suc n) =
      let one = one_small a (kept_of c a) refl in
      let rest = among_small (suc a) n in
      let all = joined (map class_of (entries_at c a)) (map class_of (told_among (entries_at c) (suc a) n)) 1 n one rest in
      let is = map-append class_of (entries_at c a) (told_among (entries_at c) (suc a) n) in
      record {
        few = (let few = all.few in let same = ap length is in omega (arith, few, same));
        each = subst (λ (l : List Class). All (λ k. class_size k ≤ max_words) l) (sym is) all.each;
      }

  pub classes_small : AreSmall (kept_classes c)
  classes_small =
      let all = among_small 0 (word_count c.table - 0) in
      record {
        few = (let few = all.few in let within = g.in_all in omega (arith, few, within));
        each = all.each;
      }

-- ---- their words fit
pub sum_small : (ks : List Class) → AreSmall ks → sum_by class_size ks ≤ 2 ^ 62
sum_small ks s =
    let few = s.few in
    let le = sum_by-le class_size max_words ks s.each in
    omega (arith, few, le)

pub row_small : (n size : ℕ) → n ≤ max_words → size ≤ max_words → n * size ≤ 2 ^ 62
row_small n size few small = mul-le n size max_words max_words few small

-- ---- the lines of their census
pub lines_are : (types : List ℕ) (c : CoreState) (classes : List Class) (rows told : List Row) (words objects : ℕ)
    → classes ≡ kept_classes c → IsCensus classes rows → told ≡ rows → words ≡ sum_by class_size classes → objects ≡ length classes
    → AreCensusLines types c (table_text types told words objects)
lines_are types c classes rows told words objects is census same w o = record {
  rows = told;
  census = subst (λ (ks : List Class). IsCensus ks told) is (subst (λ (r : List Row). IsCensus classes r) (sym same) census);
  is = ap₂ (λ (m n : ℕ). table_text types told m n) (w ∙ ap (sum_by class_size) is) (o ∙ ap length is);
}
