-- Runs are made and released: tables, open buffers and limits.
use Rattle.regions.proofs.Common.{◌≡◌, ◌≢◌, ℕ, ◌+◌, ◌*◌, ◌/◌, ◌<◌, ◌≤◌, Some, None, refl, sym, ◌∙◌, ap, subst, arith, inl, inr, Stored}
use Rattle.regions.proofs.Common.{IsShaped, Table, Region, Free, Ordinary, First, Rest, region_kind, nth_region, region_used, used_of}
use Rattle.regions.proofs.Common.{kind_of, tile_in, is_free, first_run, with_regions, run_regions}
use Rattle.regions.specs.declared.row.Kind.TheVariants as kinds
use Rattle.regions.proofs.Tiles.Spliced.{IsOutside}
use Rattle.regions.proofs.LongRuns.Blocks.{block_cases}
use Rattle.regions.proofs.LongRuns.RunMade.{length-run_regions}
use Rattle.regions.proofs.Tiles.Released.{row_within}
use Rattle.regions.proofs.LongRuns.RunLaws.{TakesRun, run_made, regions_spliced, tile_of_region}
use Rattle.alloc_buffers.specs.Placement.{Buffers, BuffersStand, IsAbove, AreAbove}

-- a free region, by its kind
free_region : (t : Table) (q : ℕ) → kind_of t q ≡ kinds.Free → nth_region t q ≡ Free
unfolding kind_of
free_region t q h = go (nth_region t q) h
  where
    go : (r : Region) → region_kind r ≡ kinds.Free → r ≡ Free
    go Free e = refl
    go (Ordinary ts) e = cc
    go (First s) e = cc
    go (Rest n) e = cc

free_used : (t : Table) (q : ℕ) → kind_of t q ≡ kinds.Free → used_of t q ≡ 0
unfolding used_of
free_used t q h = ap (λ (r : Region). region_used t.words_per_region r) (free_region t q h)

used_same : (t t' : Table) (q : ℕ) → t'.words_per_region ≡ t.words_per_region → nth_region t' q ≡ nth_region t q
    → used_of t' q ≡ used_of t q
unfolding used_of
used_same t t' q size e = ap (λ (n : ℕ). region_used n (nth_region t' q)) size ∙ ap (λ (r : Region). region_used t.words_per_region r) e

-- a run of count free regions is made an object
module _ (t : Table) (k count : ℕ) (s : Stored) (shaped : IsShaped t) (positive : 0 < count)
    (lowest : first_run is_free count t.regions ≡ Some k) where
  abbrev made : Table
  made = with_regions t k count (run_regions t.words_per_region s count)

  pub takes : TakesRun t made k count s
  takes = run_made t k count s shaped.positive positive lowest

  used_outside : (q : ℕ) → IsOutside k count q → used_of made q ≡ used_of t q
  used_outside q out = used_same t made q refl
      ((regions_spliced t k count (run_regions t.words_per_region s count)
      (length-run_regions t.words_per_region count s) takes.known).outside q out)

  -- nothing starts at the run's bottom before
  pub no_tile : tile_in t (k * t.words_per_region) ≡ None
  no_tile =
      let z = shaped.positive in
      let at : k * t.words_per_region / t.words_per_region ≡ k =
      row_within (k * t.words_per_region) k t.words_per_region shaped.positive (omega arith) (omega arith) in
      tile_of_region t (k * t.words_per_region) Free
      (free_region t (k * t.words_per_region / t.words_per_region) (rw at (takes.was_free k (omega arith) (omega arith))))

  pub run_stands : (b : Buffers) → BuffersStand t b → BuffersStand made b
  run_stands b st = record {
    known = λ j e. rw takes.count (st.known j e);
    ordinary = λ j e. elim (block_cases k count j) [
      | inl out ↦ takes.kinds_same j out ∙ st.ordinary j e
      | inr q ↦ absurd (let was = takes.was_free j q.0 q.1 in let is = st.ordinary j e in
          let no : kinds.Free ≡ kinds.Ordinary = sym was ∙ is in cc)
    ];
    fillers = λ m x e.
        let f = st.fillers m x e in
        let apart : x.next ≢ k * t.words_per_region = λ same. let filler = f.filler in
        let none : tile_in t x.next ≡ None = ap (tile_in t) same ∙ no_tile in cc in
        record { positive = f.positive; filler = takes.others x.next apart ∙ f.filler };
    apart = st.apart;
  }

  pub run_above : (b : Buffers) (limit : ℕ → ℕ) → AreAbove t b limit
      → IsAbove t.words_per_region limit (k * t.words_per_region) × AreAbove made b limit
  run_above b limit above =
      let size : ℕ = t.words_per_region in
      let low : (q : ℕ) → k ≤ q → q < k + count → limit q ≤ q * size = λ q ge lt.
      let was = above.tops q (let known = takes.known in omega arith) in
      let none = free_used t q (takes.was_free q ge lt) in
      omega arith in (
        λ j jl jh.
            let same : k ≡ j = let z = shaped.positive in
            sym (row_within (k * size) k size z (omega arith) (omega arith)) ∙ row_within (k * size) j size z jl jh in
            subst (λ (q : ℕ). limit q ≤ k * size) same (low k (omega arith) (omega arith)),
        record {
          tops = λ j h. elim (block_cases k count j) [
            | inl out ↦ let was = above.tops j (let c = takes.count in omega arith) in let same = used_outside j out in omega arith
            | inr q ↦ let le = low j q.0 q.1 in omega arith
          ];
          buffers = above.buffers;
        },
      )
