-- Where no region in use is above a free one, the free ones are side by side; and what that says of a heap that has no run for an object.
use Rattle.std.proofs.Common.{◌≡◌, ◌≢◌, ◌+◌, ◌-◌, ◌*◌, ◌<◌, ◌≤◌, ◌∷◌, ◌∙◌, ℕ, zero, suc, Bool, true, false, List, []}
use Rattle.std.proofs.Common.{Option, Some, None, length, get_or}
use Rattle.std.proofs.Common.{inl, inr, refl, sym, ap, subst, arith, cond}
use Rattle.std.proofs.lemmas.Bool.{cases_eq, cases_lt}
use Rattle.std.proofs.lemmas.Bool.Decides.{leb_tells}
use Rattle.std.proofs.lemmas.List.{get_or_past}
use Rattle.std.proofs.lemmas.List.Sums.{count_by-le-length}
use Rattle.heap_model.specs.Heap.{Stored}
use Rattle.regions.specs.Table.{Table, Region, Free, first_run, front_count, behind_one, free_count, is_free, kind_of, nth_region}
use Rattle.regions.specs.Table.{region_kind}
use Rattle.regions.specs.declared.row.Kind.{Kind}
use Rattle.regions.specs.declared.row.Kind.TheVariants as kinds
use Rattle.heap_model.specs.Graph.{Graph}
use Rattle.graph_runs.specs.State.{State}
use Rattle.alloc_buffers.specs.Placement as placement
use Rattle.step_core.specs.Measures.{sum_below}
use Rattle.step_core.specs.Stands.{CoreState, IsCore, kept_of}
use Rattle.collection.specs.Space.{HasReached, IsCompact, IsPacked, IsPackedBut, IsQuiet, ordinary_count, run_count}
use Rattle.collection.specs.Rooms.{HasRun}
use Rattle.collection.proofs.Counts.{count_all, free_one, free_sum}
use Rattle.collection.proofs.Packed.{all_but, all_but_fewer}
use Rattle.collection.proofs.Sums.{sum_none}
use Rattle.collection.proofs.Wide.{few_more}

-- ---- lists
front_most : {A : Type 0} (p : A → Bool) (d : A) (m : ℕ) (xs : List A) → m ≤ length xs → ((i : ℕ) → i < m → p (get_or xs i d) ≡ true)
    → m ≤ front_count p xs
front_most p d zero xs le pass = omega arith
front_most p d (suc m) [] le pass = absurd (omega (arith, le))
front_most {A} p d (suc m) (x ∷ xs) le pass =
    go (p x) (pass 0 (omega arith)) (front_most p d m xs (omega (arith, le)) (λ i lt. pass (suc i) (omega (arith, lt))))
  where
    go : (b : Bool) → b ≡ true → m ≤ front_count p xs → suc m ≤ cond b (suc (front_count p xs)) 0
    go true e h = omega (arith, h)
    go false e h = absurd cc

one_behind : (o : Option ℕ) → behind_one o ≡ None → o ≡ None
one_behind None e = refl
one_behind (Some k) e = absurd cc

-- m in a row from a place on are found
run_found : {A : Type 0} (p : A → Bool) (d : A) (m k : ℕ) (xs : List A) → k < length xs → k + m ≤ length xs
    → ((i : ℕ) → k ≤ i → i < k + m → p (get_or xs i d) ≡ true) → first_run p m xs ≡ None → ⊥
run_found p d m k [] lt le pass none = omega (arith, lt)
run_found {A} p d m k (x ∷ xs) lt le pass none = elim (leb_tells m (front_count p (x ∷ xs))) [
  | inl q ↦ (let e : Some 0 ≡ None = rw q.0 at none in cc)
  | inr q ↦
      (let e : behind_one (first_run p m xs) ≡ None = rw q.0 at none in
      later k lt le pass q.1 (one_behind (first_run p m xs) e) (λ j l h g. run_found p d m j xs l h g))
]
  where
    later : (k : ℕ) → k < length (x ∷ xs) → k + m ≤ length (x ∷ xs) → ((i : ℕ) → k ≤ i → i < k + m → p (get_or (x ∷ xs) i d) ≡ true)
        → front_count p (x ∷ xs) < m → first_run p m xs ≡ None
        → ((j : ℕ) → j < length xs → j + m ≤ length xs → ((i : ℕ) → j ≤ i → i < j + m → p (get_or xs i d) ≡ true)
        → first_run p m xs ≡ None → ⊥) → ⊥
    later zero lt le pass few none rest =
        (let most = front_most p d m (x ∷ xs) (omega (arith, le)) (λ i less. pass i (omega arith) (omega (arith, less))) in
        omega (arith, most, few))
    later (suc k) lt le pass few none rest =
        rest k (omega (arith, lt)) (omega (arith, le)) (λ i low high. pass (suc i) (omega (arith, low)) (omega (arith, high))) none

-- ---- regions
free_is : (r : Region) → region_kind r ≡ kinds.Free → is_free r ≡ true
free_is Free e = refl
free_is _ e = absurd cc

outside_free : (t : Table) (k : ℕ) → length t.regions ≤ k → kind_of t k ≡ kinds.Free
unfolding kind_of nth_region
outside_free t k le = ap region_kind (get_or_past t.regions k Free le)

-- as many regions as are free are free from the end on downwards
tail_free : (t : Table) → IsCompact t → (k : ℕ) → length t.regions ≤ k + free_count t → kind_of t k ≡ kinds.Free
tail_free t low k past = by_kind (kind_of t k) refl
  where
    used : (kind_of t k ≡ kinds.Free → ⊥) → k < length t.regions → ⊥
    used taken lt =
        let rest : ℕ = length t.regions - suc k in
        let whole : suc k + rest ≡ length t.regions = omega (arith, lt) in
        let front = sum_none (λ j. free_one (kind_of t j)) (suc k) (λ j less. none_free (kind_of t j) (λ f. taken (elim (cases_eq j k) [
          | inl same ↦ ap (kind_of t) (sym same) ∙ f
          | inr apart ↦ low j k (omega (arith, less, apart)) f
        ]))) in
        let more = few_more (λ j. free_one (kind_of t j)) (λ j. one_at_most (kind_of t j)) rest (suc k) in
        let all = ap (sum_below (λ j. free_one (kind_of t j))) whole in
        let count = free_sum t in
        omega (arith, front, more, all, count, past, lt, whole)
      where
        none_free : (o : Kind) → (o ≡ kinds.Free → ⊥) → free_one o ≡ 0
        none_free kinds.Free n = absurd (n refl)
        none_free _ n = refl

        one_at_most : (o : Kind) → free_one o ≤ 1
        one_at_most kinds.Free = omega arith
        one_at_most _ = omega arith

    other : (kind_of t k ≡ kinds.Free → ⊥) → kind_of t k ≡ kinds.Free
    other taken = elim (cases_lt k (length t.regions)) [ inl lt ↦ absurd (used taken lt) | inr le ↦ outside_free t k le ]

    by_kind : (o : Kind) → kind_of t k ≡ o → kind_of t k ≡ kinds.Free
    by_kind kinds.Free e = e
    by_kind kinds.Ordinary e = other (λ f. let q : kinds.Ordinary ≡ kinds.Free = sym e ∙ f in cc)
    by_kind kinds.First e = other (λ f. let q : kinds.First ≡ kinds.Free = sym e ∙ f in cc)
    by_kind kinds.Rest e = other (λ f. let q : kinds.Rest ≡ kinds.Free = sym e ∙ f in cc)

-- so that they are a run
run_there : (t : Table) → IsCompact t → (m : ℕ) → 0 < free_count t → m ≤ free_count t → first_run is_free m t.regions ≢ None
unfolding kind_of nth_region
run_there t low m some le none =
    let most = count_by-le-length is_free t.regions in
    let k : ℕ = length t.regions - free_count t in
    run_found is_free Free m k t.regions (omega (arith, most, some)) (omega (arith, most, le))
    (λ i under over. free_is (get_or t.regions i Free) (tail_free t low i (omega (arith, under, most)))) none

-- where there is none for an object that takes m regions, with two beside it, too few are free
pub few_free : (c : CoreState) (size m : ℕ) → m ≡ placement.run_count c.table.words_per_region size → IsCompact c.table
    → (HasRun c size → ⊥) → 2 ≤ free_count c.table → free_count c.table < 2 + m
few_free c size m e low none two = elim (cases_lt (free_count c.table) (2 + m)) [
  | inl few ↦ few
  | inr enough ↦ absurd (none (record {
    two = subst (λ (n : ℕ). n + 2 ≤ free_count c.table) e (let le : m + 2 ≤ free_count c.table = omega (arith, enough) in le);
    run = subst (λ (n : ℕ). first_run is_free n c.table.regions ≢ None) e
        (run_there c.table low m (omega (arith, two)) (omega (arith, enough)));
  }))
]

some_kept : (o : Option Stored) → o ≢ None → (x : Stored) × (o ≡ Some x)
some_kept None n = absurd (n refl)
some_kept (Some x) n = (x, refl)

-- why there are no more
pub packed_but : (g : Graph) (after : State) (c : CoreState) (more : ℕ) → IsCore c → IsQuiet after c → HasReached g after.graph
    → IsPacked g c → 2 ≤ free_count c.table → free_count c.table < 2 + more → 2 + more < c.config.regions → IsPackedBut g c more
packed_but g after c more core quiet reached packed two few some =
    let all = count_all c.table in
    let each = core.layers.region_count in
    let counts : ordinary_count c.table + run_count c.table + free_count c.table ≡ c.config.regions = omega (arith, all, each) in
    record {
      packed = packed;
      two = two;
      few = few;
      regions = counts;
      all_but = all_but g c more packed few counts some;
      all_but_fewer = all_but_fewer g c more packed few counts some;
      runs = λ k e. (let (x, is) = some_kept (kept_of c (k * c.table.words_per_region)) (quiet.runs k e) in
          (x, is, reached.back x.name (quiet.reached (k * c.table.words_per_region) x is)));
    }
