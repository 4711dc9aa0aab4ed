-- Which tiles a table has once a run is made or regions are released. No word is in it.
use Rattle.regions.proofs.Common.{◌≡◌, ◌≢◌, ◌+◌, ◌-◌, ◌*◌, ◌/◌, ◌%◌, ◌<◌, ◌≤◌, ◌∷◌, ◌++◌, ◌∙◌, ℕ, zero, suc, Some, None, List, []}
use Rattle.regions.proofs.Common.{length, take, drop, get_or, refl, sym, ap, subst, arith, inl, inr, replicate, length-append, length-take}
use Rattle.regions.proofs.Common.{length-drop, length-replicate, get_or-drop, cases_lt, cases_eq, Stored, Tile, Object, tile_size, Table}
use Rattle.regions.proofs.Common.{Region, Free, Ordinary, First, region_tile, region_at, nth_region, region_kind, kind_of, tile_in}
use Rattle.regions.proofs.Common.{HasNoForwarded, EachForwardedIn, with_region, with_regions, run_regions, rests, first_run, is_free}
use Rattle.regions.proofs.Common.{is_rest, run_length, released, without_run}
use Rattle.regions.specs.declared.row.Kind.TheVariants as kinds
use Rattle.regions.proofs.Tiles.Spliced.{IsOutside, get_or-spliced, EachForwardedIn-append, EachForwardedIn-take, EachForwardedIn-drop}
use Rattle.regions.proofs.LongRuns.RunMade.{length-run_regions, run-moved}
use Rattle.regions.proofs.Tiles.ShapedMade.{kind_at}
use Rattle.regions.proofs.Rows.Fronts.{front_le, front_passes, run_passes}
use Rattle.regions.proofs.LongRuns.RunGone.{one_freed}
use Rattle.regions.proofs.Tiles.Making.{no_targets}
use Rattle.regions.proofs.Tiles.Placing.{free_is}

get_or-inside : (rs block : List Region) (k m j q : ℕ) → length block ≡ m → k + m ≤ length rs → j < m → q ≡ k + j
    → get_or (take k rs ++ (block ++ drop (k + m) rs)) q Free ≡ get_or block j Free
get_or-inside rs block zero m j q e h l p = let z : q ≡ j = omega arith in rw z (front block (drop (0 + m) rs) j (omega arith))
  where
    front : (block rs : List Region) (j : ℕ) → j < length block → get_or (block ++ rs) j Free ≡ get_or block j Free
    front [] rs j h = absurd (omega arith)
    front (b ∷ block) rs zero h = refl
    front (b ∷ block) rs (suc j) h = front block rs j (omega arith)
get_or-inside [] block (suc k) m j q e h l p = absurd (omega arith)
get_or-inside (r ∷ rs) block (suc k) m j zero e h l p = absurd (omega arith)
get_or-inside (r ∷ rs) block (suc k) m j (suc q) e h l p =
    let at : suc k + m ≡ suc (k + m) = omega arith in
    rw at (get_or-inside rs block k m j q e (omega arith) l (omega arith))

-- m regions from k on are others
pub record Splices (t t' : Table) (k m : ℕ) (block : List Region) : Type 0 where
  pub size : t'.words_per_region ≡ t.words_per_region
  pub count : length t'.regions ≡ length t.regions
  pub inside : (j q : ℕ) → j < m → q ≡ k + j → nth_region t' q ≡ get_or block j Free
  pub outside : (q : ℕ) → IsOutside k m q → nth_region t' q ≡ nth_region t q
  pub unmoved : EachForwardedIn (λ _. ⊥) block → HasNoForwarded t → HasNoForwarded t'

pub regions_spliced : (t : Table) (k m : ℕ) (block : List Region) → length block ≡ m → k + m ≤ length t.regions
    → Splices t (with_regions t k m block) k m block
unfolding nth_region
regions_spliced t k m block e h = record {
  size = refl;
  count = simp (length-append, length-take, length-drop) (omega arith);
  inside = λ j q l p. get_or-inside t.regions block k m j q e h l p;
  outside = λ q out. get_or-spliced t.regions block k m q (k + m) e refl h out;
  unmoved = λ fresh none. EachForwardedIn-append (λ _. ⊥) (take k t.regions) (block ++ drop (k + m) t.regions)
      (EachForwardedIn-take (λ _. ⊥) k t.regions none)
      (EachForwardedIn-append (λ _. ⊥) block (drop (k + m) t.regions) fresh (EachForwardedIn-drop (λ _. ⊥) (k + m) t.regions none));
}

-- the tile at an address, by its region
pub tile_of_region : (t : Table) (y : ℕ) (r : Region) → nth_region t (y / t.words_per_region) ≡ r
    → tile_in t y ≡ region_tile r (y % t.words_per_region)
unfolding tile_in region_at nth_region
tile_of_region t y r e = ap (λ (q : Region). region_tile q (y % t.words_per_region)) e

pub same_tile : (t t' : Table) (y : ℕ) → t'.words_per_region ≡ t.words_per_region
    → nth_region t' (y / t.words_per_region) ≡ nth_region t (y / t.words_per_region) → tile_in t' y ≡ tile_in t y
unfolding tile_in region_at nth_region
same_tile t t' y e h =
    ap (λ (n : ℕ). region_tile (get_or t'.regions (y / n) Free) (y % n)) e ∙ ap (λ (q : Region). region_tile q (y % t.words_per_region)) h

-- regions are free from now on, and nothing else changed
pub record Releases (t t' : Table) (k m : ℕ) : Type 0 where
  pub size : t'.words_per_region ≡ t.words_per_region
  pub count : length t'.regions ≡ length t.regions
  pub free : (q : ℕ) → k ≤ q → q < k + m → kind_of t' q ≡ kinds.Free
  pub gone : (y : ℕ) → k ≤ y / t.words_per_region → y / t.words_per_region < k + m → tile_in t' y ≡ None
  pub kinds_same : (q : ℕ) → IsOutside k m q → kind_of t' q ≡ kind_of t q
  pub same : (q : ℕ) → IsOutside k m q → nth_region t' q ≡ nth_region t q
  pub others : (y : ℕ) → IsOutside k m (y / t.words_per_region) → tile_in t' y ≡ tile_in t y
  pub unmoved : HasNoForwarded t → HasNoForwarded t'

pub frees : (m j : ℕ) → get_or (replicate m Free) j Free ≡ Free
frees (suc m) (suc j) = frees m j
frees _ _ = refl

kinds_of : (t t' : Table) (q : ℕ) → nth_region t' q ≡ nth_region t q → kind_of t' q ≡ kind_of t q
unfolding kind_of
kinds_of t t' q e = ap region_kind e

pub regions_released : (t : Table) (k m : ℕ) → k + m ≤ length t.regions → Releases t (with_regions t k m (replicate m Free)) k m
regions_released t k m h =
    let s = regions_spliced t k m (replicate m Free) (length-replicate {A = Region} m Free) h in
    let is : (q : ℕ) → k ≤ q → q < k + m → nth_region (with_regions t k m (replicate m Free)) q ≡ Free =
    λ q low high. s.inside (q - k) q (omega arith) (omega arith) ∙ frees m (q - k) in
    record {
      size = s.size;
      count = s.count;
      free = λ q low high. kind_at (with_regions t k m (replicate m Free)) q Free (is q low high);
      gone = λ y low high. tile_of_region (with_regions t k m (replicate m Free)) y Free (is (y / t.words_per_region) low high);
      kinds_same = λ q out. kinds_of t (with_regions t k m (replicate m Free)) q (s.outside q out);
      same = s.outside;
      others = λ y out. same_tile t (with_regions t k m (replicate m Free)) y s.size (s.outside (y / t.words_per_region) out);
      unmoved = λ none. s.unmoved (no_targets (λ _. ⊥) m) none;
    }

released_as_first : (t : Table) (k : ℕ) (s : Stored) → nth_region t k ≡ First s → released t k ≡ without_run t k
unfolding released
released_as_first t k s e = rw e refl

released_as_ordinary : (t : Table) (k : ℕ) (ts : List Tile) → nth_region t k ≡ Ordinary ts → released t k ≡ with_region t k Free
unfolding released
released_as_ordinary t k ts e = rw e refl

-- an ordinary region is released
pub ordinary_released : (t : Table) (k : ℕ) → k < length t.regions → kind_of t k ≡ kinds.Ordinary → Releases t (released t k) k 1
unfolding kind_of
ordinary_released t k h o = go (nth_region t k) refl o
  where
    go : (r : Region) → nth_region t k ≡ r → region_kind r ≡ kinds.Ordinary → Releases t (released t k) k 1
    go (Ordinary ts) e f =
        subst (λ (u : Table). Releases t u k 1) (one_freed t k h ∙ sym (released_as_ordinary t k ts e))
        (regions_released t k 1 (omega arith))
    go _ e f = cc

-- the first region of a run is released, and its other regions with it
pub run_released : (t : Table) (k : ℕ) (s : Stored) → k < length t.regions → nth_region t k ≡ First s
    → Releases t (released t k) k (run_length t k)
run_released t k s h e =
    let front = front_le is_rest (drop (suc k) t.regions) in
    let fits : k + run_length t k ≤ length t.regions = omega (arith, front, length-drop (suc k) t.regions) in
    subst (λ (u : Table). Releases t u k (run_length t k)) (sym (released_as_first t k s e)) (regions_released t k (run_length t k) fits)

-- a humongous object is made in a run of m free regions
pub record TakesRun (t t' : Table) (k m : ℕ) (s : Stored) : Type 0 where
  pub size : t'.words_per_region ≡ t.words_per_region
  pub count : length t'.regions ≡ length t.regions
  pub known : k + m ≤ length t.regions
  pub was_free : (q : ℕ) → k ≤ q → q < k + m → kind_of t q ≡ kinds.Free
  pub first : nth_region t' k ≡ First s
  pub later : (q : ℕ) → k < q → q < k + m → kind_of t' q ≡ kinds.Rest
  pub kinds_same : (q : ℕ) → IsOutside k m q → kind_of t' q ≡ kind_of t q
  pub same : (q : ℕ) → IsOutside k m q → nth_region t' q ≡ nth_region t q
  pub others : (y : ℕ) → y ≢ k * t.words_per_region → tile_in t' y ≡ tile_in t y
  pub unmoved : HasNoForwarded t → HasNoForwarded t'

rest_later : (size n i m j : ℕ) → j < m → region_kind (get_or (rests size n i m) j Free) ≡ kinds.Rest
rest_later size n i zero j h = absurd (omega arith)
rest_later size n i (suc m) zero h = refl
rest_later size n i (suc m) (suc j) h = rest_later size n (suc i) m j (omega arith)

run_first : (size m : ℕ) (s : Stored) → 0 < m → get_or (run_regions size s m) 0 Free ≡ First s
run_first size zero s h = absurd (omega arith)
run_first size (suc m) s h = refl

run_later : (size m j : ℕ) (s : Stored) → 0 < j → j < m → region_kind (get_or (run_regions size s m) j Free) ≡ kinds.Rest
run_later size (suc m) (suc j) s z h = rest_later size (tile_size (Object s)) 1 m j (omega arith)
run_later size _ _ s z h = absurd (omega arith)

-- a run's regions have no tile but the object at the bottom
run_tiles : (size m j o : ℕ) (s : Stored) → 0 < j + o → region_tile (get_or (run_regions size s m) j Free) o ≡ None
run_tiles size zero j o s h = refl
run_tiles size (suc m) zero zero s h = absurd (omega arith)
run_tiles size (suc m) zero (suc o) s h = refl
run_tiles size (suc m) (suc j) o s h = later size (tile_size (Object s)) 1 m j o
  where
    later : (size n i m j o : ℕ) → region_tile (get_or (rests size n i m) j Free) o ≡ None
    later size n i zero j o = refl
    later size n i (suc m) zero o = refl
    later size n i (suc m) (suc j) o = later size n (suc i) m j o

kind_of_number : (t : Table) (q : ℕ) → kind_of t q ≡ region_kind (nth_region t q)
unfolding kind_of
kind_of_number t q = refl

pub number_is : (t : Table) (q : ℕ) → nth_region t q ≡ get_or t.regions q Free
unfolding nth_region
number_is t q = refl

-- the regions from k on are free, m of them
abbrev pub AreFreeAt : Table → ℕ → ℕ → Type 0
AreFreeAt t k m = (q : ℕ) → k ≤ q → q < k + m → nth_region t q ≡ Free

pub run_made_at : (t : Table) (k m : ℕ) (s : Stored) → 0 < t.words_per_region → 0 < m → k + m ≤ length t.regions → AreFreeAt t k m
    → TakesRun t (with_regions t k m (run_regions t.words_per_region s m)) k m s
run_made_at t k m s z y fits free =
    let size : ℕ = t.words_per_region in
    let block : List Region = run_regions size s m in
    let t' : Table = with_regions t k m block in
    let w = regions_spliced t k m block (length-run_regions size m s) fits in
    record {
      size = w.size;
      count = w.count;
      known = fits;
      was_free = λ q low high. kind_at t q Free (free q low high);
      first = w.inside 0 k y (omega arith) ∙ run_first size m s y;
      later = λ q low high. kind_of_number t' q ∙ ap region_kind (w.inside (q - k) q (omega arith) (omega arith))
          ∙ run_later size m (q - k) s (omega arith) (omega arith);
      kinds_same = λ q out. kinds_of t t' q (w.outside q out);
      same = w.outside;
      others = λ y apart.
          let q : ℕ = y / size in
          let whole : q * size + y % size ≡ y = omega arith in
          elim (cases_lt q k) [
            | inl lt ↦ same_tile t t' y w.size (w.outside q (inl lt))
            | inr ge ↦ elim (cases_lt q (k + m)) [
              | inr past ↦ same_tile t t' y w.size (w.outside q (inr past))
              | inl lt ↦
                  let o : ℕ = y % size in
                  let away : 0 < q - k + o = elim (cases_eq (q - k + o) 0) [
                    | inl e ↦ absurd (apart (bottom y k size q o whole (omega arith) (omega arith)))
                    | inr n ↦ omega arith
                  ] in
                  tile_of_region t' y (get_or block (q - k) Free) (w.inside (q - k) q (omega arith) (omega arith))
                  ∙ run_tiles size m (q - k) o s away ∙ sym (tile_of_region t y Free (free q ge lt))
            ]
          ];
      unmoved = λ none. w.unmoved (run-moved (λ _. ⊥) size m s) none;
    }
  where
    bottom : (y k size q o : ℕ) → q * size + o ≡ y → q ≡ k → o ≡ 0 → y ≡ k * size
    bottom y k size q o w e f = sym w ∙ rw (e, f) (omega arith)

-- and so in the lowest run of free regions
pub run_made : (t : Table) (k m : ℕ) (s : Stored) → 0 < t.words_per_region → 0 < m → first_run is_free m t.regions ≡ Some k
    → TakesRun t (with_regions t k m (run_regions t.words_per_region s m)) k m s
run_made t k m s z y h =
    let found = run_passes is_free m k t.regions h in
    let front = front_le is_free (drop k t.regions) in
    let fits : k + m ≤ length t.regions = omega (arith, found.0, found.1, front, length-drop k t.regions) in
    run_made_at t k m s z y fits (λ q low high.
    let at : k + (q - k) ≡ q = omega arith in
    let p = front_passes is_free (drop k t.regions) Free (q - k) (omega (arith, found.1)) in
    number_is t q ∙ sym (get_or-drop k t.regions (q - k) Free ∙ ap (λ (j : ℕ). get_or t.regions j Free) at) ∙ free_is _ p)
