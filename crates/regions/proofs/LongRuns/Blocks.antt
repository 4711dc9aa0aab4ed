-- The regions of a run belong together, and any other region is by itself. They are released together.
use Rattle.regions.proofs.Common.{◌≡◌, ◌≢◌, ◌+◌, ◌-◌, ◌*◌, ◌/◌, ◌%◌, ◌<◌, ◌≤◌, ◌⊎◌, ◌∷◌, ◌++◌, ◌∙◌, ℕ, zero, suc, Bool, true, false, cond}
use Rattle.regions.proofs.Common.{Some, None, List, [], length, take, drop, get_or, replicate, refl, sym, ap, subst, arith, inl, inr}
use Rattle.regions.proofs.Common.{cases_lt, cases_eq, row_fits, length-drop, length-take, length-replicate, get_or-drop, get_or_past}
use Rattle.regions.proofs.Common.{drop-drop, sum_by, sum_by-append, sum_by-take-drop, sum_by-cons, sum_by-replicate, Stored, Object, Filler}
use Rattle.regions.proofs.Common.{tile_size, IsShaped, Table, Region, Free, Ordinary, First, Rest, nth_region, region_kind, region_used}
use Rattle.regions.proofs.Common.{region_tile, region_at, tile_in, tile_object, kind_of, used_of, top_of, object_at, HasNoForwarded}
use Rattle.regions.proofs.Common.{is_free, is_rest, front_count, run_length, with_region, with_regions, without_run, released, get_or-take}
use Rattle.std.proofs.Common.{count_by}
use Rattle.regions.proofs.Tiles.Spliced.{IsOutside}
use Rattle.regions.proofs.Rows.Fronts.{front_le, front_passes}
use Rattle.regions.proofs.LongRuns.RunGone.{one_freed}
use Rattle.regions.proofs.LongRuns.RunLaws.{regions_spliced, frees, number_is, tile_of_region}
use Rattle.regions.proofs.Tiles.Making.{no_targets}
use Rattle.regions.specs.declared.row.Kind.TheVariants as kinds
pub use Rattle.regions.proofs.LongRuns.RunLaws.{same_tile as tile_near}
pub use Rattle.regions.proofs.Tiles.ShapedMade.{kind_at as kind_is}

front_stops : {A : Type 0} (p : A → Bool) (xs : List A) (d : A) → front_count p xs < length xs → p (get_or xs (front_count p xs) d) ≡ false
front_stops p [] d h = absurd (omega arith)
front_stops {A} p (x ∷ xs) d h = go (p x) refl h (front_stops p xs d)
  where
    go : (b : Bool) → p x ≡ b → cond b (suc (front_count p xs)) 0 < suc (length xs)
        → (front_count p xs < length xs → p (get_or xs (front_count p xs) d) ≡ false)
        → p (get_or (x ∷ xs) (cond b (suc (front_count p xs)) 0) d) ≡ false
    go true e l f = f (omega arith)
    go false e l f = e

rest_kind : (r : Region) → is_rest r ≡ true → region_kind r ≡ kinds.Rest
rest_kind (Rest n) e = refl
rest_kind _ e = cc

kind_rest : (r : Region) → is_rest r ≡ false → region_kind r ≡ kinds.Rest → ⊥
kind_rest Free e f = cc
kind_rest (Ordinary ts) e f = cc
kind_rest (First s) e f = cc
kind_rest (Rest n) e f = cc

-- the regions behind one that belong to it are later ones of its run
pub later_rest : (t : Table) (k j q : ℕ) → k + j ≡ q → 0 < j → j < run_length t k → kind_of t q ≡ kinds.Rest
unfolding kind_of nth_region
later_rest t k j q e z lt =
    let p = front_passes is_rest (drop (suc k) t.regions) Free (j - 1) (omega arith) in
    let at : suc k + (j - 1) ≡ q = omega arith in
    rest_kind (get_or t.regions q Free)
    (ap is_rest (ap (λ (i : ℕ). get_or t.regions i Free) (sym at) ∙ sym (get_or-drop (suc k) t.regions (j - 1) Free)) ∙ p)

-- and the one behind them isn't
pub next_head : (t : Table) (k q : ℕ) → k + run_length t k ≡ q → kind_of t q ≢ kinds.Rest
unfolding kind_of nth_region
next_head t k q e f =
    let front : ℕ = front_count is_rest (drop (suc k) t.regions) in
    let at : suc k + front ≡ q = omega arith in
    elim (cases_lt q (length t.regions)) [
      | inl lt ↦
          let p = front_stops is_rest (drop (suc k) t.regions) Free (omega (arith, length-drop (suc k) t.regions)) in
          kind_rest (get_or t.regions q Free)
          (ap is_rest (ap (λ (i : ℕ). get_or t.regions i Free) (sym at) ∙ sym (get_or-drop (suc k) t.regions front Free)) ∙ p) f
      | inr past ↦ kind_rest Free refl (ap region_kind (sym (get_or_past t.regions q Free past)) ∙ f)
    ]

pub block_within : (t : Table) (k : ℕ) → k < length t.regions → k + run_length t k ≤ length t.regions
block_within t k lt = let front = front_le is_rest (drop (suc k) t.regions) in omega (arith, front, length-drop (suc k) t.regions)

pub rest_number : (t : Table) (q : ℕ) → kind_of t q ≡ kinds.Rest → (n : ℕ) × (nth_region t q ≡ Rest n)
unfolding kind_of
rest_number t q f = go (nth_region t q) f
  where
    go : (r : Region) → region_kind r ≡ kinds.Rest → (n : ℕ) × (r ≡ Rest n)
    go Free e = absurd cc
    go (Ordinary ts) e = absurd cc
    go (First s) e = absurd cc
    go (Rest n) e = (n, refl)

-- a first and a later region are two
pub first_not_rest : (t : Table) (q : ℕ) (s : Stored) → nth_region t q ≡ First s → kind_of t q ≡ kinds.Rest → ⊥
first_not_rest t q s e f = let is = kind_is t q (First s) e in let no : kinds.First ≡ kinds.Rest = sym is ∙ f in cc

pub product_le : (i j w : ℕ) → i ≤ j → i * w ≤ j * w
product_le i j w le =
    let fits = row_fits i w (suc j) w (omega arith) (omega arith) in
    let e : suc j * w ≡ j * w + w = omega arith in
    omega arith

-- the regions that a run's object reaches belong to it
pub reached : (t : Table) (k j : ℕ) (s : Stored) → IsShaped t → nth_region t k ≡ First s
    → j * t.words_per_region < tile_size (Object s) → j < run_length t k
reached t k j s shaped e reach =
    elim (cases_lt j (run_length t k)) [
      | inl lt ↦ lt
      | inr ge ↦
          let less = product_le (run_length t k) j t.words_per_region ge in
          absurd (next_head t k (k + run_length t k) refl (shaped.run k (run_length t k) s e (omega arith) (omega arith)))
    ]

-- and no others do
pub reaches : (t : Table) (k j : ℕ) (s : Stored) → IsShaped t → nth_region t k ≡ First s → j < run_length t k
    → j * t.words_per_region < tile_size (Object s)
reaches t k zero s shaped e lt = let z : 0 * t.words_per_region ≡ 0 = omega arith in omega arith
reaches t k (suc i) s shaped e lt =
    let j : ℕ = suc i in
    let r = rest_number t (k + j) (later_rest t k j (k + j) refl (omega arith) lt) in
    let l = shaped.later (k + j) r.0 r.1 in
    let number = l.number in
    let behind = l.behind in
    elim (cases_eq l.first k) [
      | inl same ↦
          let object : First l.object ≡ First s = sym l.begins ∙ ap (nth_region t) same ∙ e in
          let objects : l.object ≡ s = cc in
          let count : l.later ≡ j = omega arith in
          let there = l.reaches in
          let sizes : tile_size (Object l.object) ≡ tile_size (Object s) = ap (λ (o : Stored). tile_size (Object o)) objects in
          let products : l.later * t.words_per_region ≡ j * t.words_per_region = ap (λ (n : ℕ). n * t.words_per_region) count in
          omega (arith, there, sizes, products)
      | inr ne ↦ elim (cases_lt l.first k) [
        | inl below ↦
            let d : ℕ = k - l.first in
            let less = product_le d l.later t.words_per_region (omega arith) in
            let far = l.reaches in
            let at : l.first + d ≡ k = omega arith in
            absurd (first_not_rest t k s e (ap (kind_of t) (sym at) ∙ shaped.run l.first d l.object l.begins (omega arith) (omega arith)))
        | inr above ↦
            absurd (first_not_rest t l.first l.object l.begins
            (later_rest t k (l.first - k) l.first (omega arith) (omega arith) (omega arith)))
      ]
    ]

-- a region that is no run's is by itself
pub alone : (t : Table) (k : ℕ) → IsShaped t → kind_of t k ≢ kinds.First → kind_of t k ≢ kinds.Rest → run_length t k ≡ 1
alone t k shaped no_first no_rest =
    elim (cases_lt 1 (run_length t k)) [
      | inr le ↦ omega arith
      | inl lt ↦
          let r = rest_number t (k + 1) (later_rest t k 1 (k + 1) refl (omega arith) lt) in
          let l = shaped.later (k + 1) r.0 r.1 in
          let number = l.number in
          let behind = l.behind in
          absurd (elim (cases_eq l.first k) [
            | inl same ↦ no_first (ap (kind_of t) (sym same) ∙ kind_is t l.first (First l.object) l.begins)
            | inr ne ↦
                let d : ℕ = k - l.first in
                let less = product_le d l.later t.words_per_region (omega arith) in
                let far = l.reaches in
                let at : l.first + d ≡ k = omega arith in
                no_rest (ap (kind_of t) (sym at) ∙ shaped.run l.first d l.object l.begins (omega arith) (omega arith))
          ])
    ]

-- regions k and so on, m of them, become free, and the others stay
pub record Frees (t t' : Table) (k m : ℕ) : Type 0 where
  pub size : t'.words_per_region ≡ t.words_per_region
  pub count : length t'.regions ≡ length t.regions
  pub some : 0 < m
  pub known : k + m ≤ length t.regions
  pub free : (q : ℕ) → k ≤ q → q < k + m → nth_region t' q ≡ Free
  pub others : (q : ℕ) → IsOutside k m q → nth_region t' q ≡ nth_region t q
  pub unmoved : HasNoForwarded t → HasNoForwarded t'
  pub more : count_by is_free t'.regions ≡ count_by is_free t.regions + m

abbrev bit : Region → ℕ
bit r = cond (is_free r) 1 0

none_free : (xs : List Region) → ((j : ℕ) → j < length xs → is_free (get_or xs j Free) ≡ false) → sum_by bit xs ≡ 0
none_free [] h = refl
none_free (x ∷ xs) h =
    let first = ap {B = ℕ} (λ b. cond b 1 0) (h 0 (omega arith)) in
    omega (arith, sum_by-cons bit x xs, first, none_free xs (λ j lt. h (suc j) (omega arith)))

more_free : (rs : List Region) (k m : ℕ) → k + m ≤ length rs → ((q : ℕ) → k ≤ q → q < k + m → is_free (get_or rs q Free) ≡ false)
    → sum_by bit (take k rs ++ (replicate m Free ++ drop (k + m) rs)) ≡ sum_by bit rs + m
more_free rs k m fits used =
    let middle : List Region = take m (drop k rs) in
    let none : sum_by bit middle ≡ 0 = none_free middle (λ j lt.
    let less : j < m = (let len = length-take m (drop k rs) in omega arith) in
    ap is_free (get_or-take m (drop k rs) j Free less ∙ get_or-drop k rs j Free) ∙ used (k + j) (omega arith) (omega arith)) in
    let one : sum_by bit (replicate m Free) ≡ m = sum_by-replicate bit m Free ∙ omega arith in
    let all = sum_by-take-drop bit rs k in
    let inner = sum_by-take-drop bit (drop k rs) m in
    let rest : sum_by bit (drop m (drop k rs)) ≡ sum_by bit (drop (k + m) rs) = ap (sum_by bit) (drop-drop m k rs) in
    omega (
      arith,
      sum_by-append bit (take k rs) (replicate m Free ++ drop (k + m) rs),
      sum_by-append bit (replicate m Free) (drop (k + m) rs),
      none,
      one,
      all,
      inner,
      rest,
    )

block_frees : (t : Table) (k m : ℕ) → 0 < m → k + m ≤ length t.regions → ((q : ℕ) → k ≤ q → q < k + m → kind_of t q ≢ kinds.Free)
    → Frees t (with_regions t k m (replicate m Free)) k m
block_frees t k m some fits used =
    let s = regions_spliced t k m (replicate m Free) (length-replicate {A = Region} m Free) fits in
    record {
      size = s.size;
      count = s.count;
      some = some;
      known = fits;
      free = λ q low high. s.inside (q - k) q (omega arith) (omega arith) ∙ frees m (q - k);
      others = s.outside;
      unmoved = λ none. s.unmoved (no_targets (λ _. ⊥) m) none;
      more = more_free t.regions k m fits
          (λ q low high.
          not_free (get_or t.regions q Free) (λ f. used q low high (kind_is t q (get_or t.regions q Free) (number_is t q) ∙ f)));
    }
  where
    not_free : (r : Region) → (region_kind r ≡ kinds.Free → ⊥) → is_free r ≡ false
    not_free Free f = absurd (f refl)
    not_free (Ordinary ts) f = refl
    not_free (First s) f = refl
    not_free (Rest n) f = refl

-- what goes when a region is released: all that belongs to it
pub release_frees : (t : Table) (k : ℕ) → IsShaped t → k < length t.regions → (kind_of t k ≡ kinds.Ordinary) ⊎ (kind_of t k ≡ kinds.First)
    → Frees t (released t k) k (run_length t k)
unfolding kind_of released
release_frees t k shaped known is = go (nth_region t k) refl is
  where
    used : (q : ℕ) → (kind_of t k ≢ kinds.Free) → k ≤ q → q < k + run_length t k → kind_of t q ≢ kinds.Free
    used q head low high f = elim (cases_eq q k) [
      | inl same ↦ head (ap (kind_of t) (sym same) ∙ f)
      | inr ne ↦ (let rest = later_rest t k (q - k) q (omega arith) (omega arith) (omega arith) in
          let no : kinds.Rest ≡ kinds.Free = sym rest ∙ f in
          cc)
    ]

    block : kind_of t k ≢ kinds.Free → Frees t (without_run t k) k (run_length t k)
    block head = block_frees t k (run_length t k) (omega arith) (block_within t k known) (λ q low high. used q head low high)

    one : kind_of t k ≡ kinds.Ordinary → without_run t k ≡ with_region t k Free
    one o =
        let single : run_length t k ≡ 1 = alone t k shaped (λ f. let no : kinds.Ordinary ≡ kinds.First = sym o ∙ f in cc)
        (λ f. let no : kinds.Ordinary ≡ kinds.Rest = sym o ∙ f in cc) in
        ap (λ (m : ℕ). with_regions t k m (replicate m Free)) single ∙ one_freed t k known

    go : (r : Region) → nth_region t k ≡ r → (region_kind r ≡ kinds.Ordinary) ⊎ (region_kind r ≡ kinds.First)
        → Frees t (released t k) k (run_length t k)
    go Free e (inl f) = absurd cc
    go Free e (inr f) = absurd cc
    go (Ordinary ts) e f = subst (λ (u : Table). Frees t u k (run_length t k)) (one (kind_is t k (Ordinary ts) e) ∙ sym (rw e refl))
        (block (λ g. let no : kinds.Ordinary ≡ kinds.Free = sym (kind_is t k (Ordinary ts) e) ∙ g in cc))
    go (First s) e f = subst (λ (u : Table). Frees t u k (run_length t k)) (sym (rw e refl))
        (block (λ g. let no : kinds.First ≡ kinds.Free = sym (kind_is t k (First s) e) ∙ g in cc))
    go (Rest n) e (inl f) = absurd cc
    go (Rest n) e (inr f) = absurd cc

-- ---- what is where then
pub object_near : (t t' : Table) (a : ℕ) → t'.words_per_region ≡ t.words_per_region
    → nth_region t' (a / t.words_per_region) ≡ nth_region t (a / t.words_per_region) → object_at t' a ≡ object_at t a
unfolding object_at tile_in region_at nth_region
object_near t t' a e h = ap tile_object (ap (λ (n : ℕ). region_tile (get_or t'.regions (a / n) Free) (a % n)) e
    ∙ ap (λ (q : Region). region_tile q (a % t.words_per_region)) h)

pub object_gone : (t : Table) (a : ℕ) → nth_region t (a / t.words_per_region) ≡ Free → object_at t a ≡ None
unfolding object_at tile_in region_at nth_region
object_gone t a h = ap tile_object (ap (λ (q : Region). region_tile q (a % t.words_per_region)) h)

pub top_near : (t t' : Table) (q : ℕ) → t'.words_per_region ≡ t.words_per_region
    → nth_region t' q ≡ nth_region t q → top_of t' q ≡ top_of t q
unfolding used_of
top_near t t' q e h = ap (λ (n : ℕ). q * n + region_used n (nth_region t' q)) e
    ∙ ap (λ (r : Region). q * t.words_per_region + region_used t.words_per_region r) h

-- a region is of a block or not
pub block_cases : (k m q : ℕ) → IsOutside k m q ⊎ ((k ≤ q) × (q < k + m))
block_cases k m q =
    elim (cases_lt q k) [
      | inl lt ↦ inl (inl lt)
      | inr ge ↦ elim (cases_lt q (k + m)) [ inl lt ↦ inr (ge, lt) | inr past ↦ inl (inr past) ]
    ]

-- no tile starts in a later region of a run
pub rest_void : (t : Table) (a : ℕ) → kind_of t (a / t.words_per_region) ≡ kinds.Rest → tile_in t a ≡ None
rest_void t a f = let r = rest_number t (a / t.words_per_region) f in tile_of_region t a (Rest r.0) r.1

pub first_number : (t : Table) (q : ℕ) → kind_of t q ≡ kinds.First → (s : Stored) × (nth_region t q ≡ First s)
unfolding kind_of
first_number t q f = go (nth_region t q) f
  where
    go : (r : Region) → region_kind r ≡ kinds.First → (s : Stored) × (r ≡ First s)
    go Free e = absurd cc
    go (Ordinary ts) e = absurd cc
    go (First s) e = (s, refl)
    go (Rest n) e = absurd cc

off_bottom : (s : Stored) (o : ℕ) → 0 < o → region_tile (First s) o ≡ None
off_bottom s zero z = absurd (omega arith)
off_bottom s (suc o) z = refl

-- in a run's first region a tile starts at the bottom alone, and it is the object
pub first_void : (t : Table) (a : ℕ) → 0 < t.words_per_region → kind_of t (a / t.words_per_region) ≡ kinds.First
    → a ≢ a / t.words_per_region * t.words_per_region → tile_in t a ≡ None
first_void t a z f ne =
    let r = first_number t (a / t.words_per_region) f in
    let whole : a / t.words_per_region * t.words_per_region + a % t.words_per_region ≡ a = omega arith in
    let off : 0 < a % t.words_per_region = elim (cases_eq (a % t.words_per_region) 0) [
      | inl e ↦ absurd (ne (omega arith))
      | inr n ↦ omega arith
    ] in
    tile_of_region t a (First r.0) r.1 ∙ off_bottom r.0 (a % t.words_per_region) off

no_filler : (s : Stored) (o n : ℕ) → region_tile (First s) o ≡ Some (Filler n) → ⊥
no_filler s zero n e = cc
no_filler s (suc o) n e = cc

pub first_no_filler : (t : Table) (a n : ℕ) → kind_of t (a / t.words_per_region) ≡ kinds.First → tile_in t a ≡ Some (Filler n) → ⊥
first_no_filler t a n f e =
    let r = first_number t (a / t.words_per_region) f in
    no_filler r.0 (a % t.words_per_region) n (sym (tile_of_region t a (First r.0) r.1) ∙ e)

pub void_object : (t : Table) (a : ℕ) → tile_in t a ≡ None → object_at t a ≡ None
unfolding object_at
void_object t a e = ap tile_object e
