-- The shape of every table, from its words and rows.
use Rattle.regions.proofs.Common.{◌≡◌, ◌+◌, ◌-◌, ◌*◌, ◌/◌, ◌%◌, ◌<◌, ◌≤◌, ◌⊎◌, ◌∷◌, ◌∙◌, ℕ, zero, suc, min, Some, List, [], length, take}
use Rattle.regions.proofs.Common.{drop, get_or, refl, sym, ap, subst, arith, inl, inr, length-take, length-drop, get_or-drop, row_fits}
use Rattle.regions.proofs.Common.{div-mul-add, mod-mul-add, Stored, header_of, Tile, Object, tile_size, Region, Free, Ordinary, First, Rest}
use Rattle.regions.proofs.Common.{Table, region_at, nth_region, region_kind, kind_of, tile_in, object_at, tiles_of, region_tiles, IsShaped}
use Rattle.regions.proofs.Common.{IsLater, object_size, sizes_in, region_by, IsRow, IsRestRow, left_by, AreRows, table_of, IsTable}
use Rattle.regions.proofs.Common.{free_row, first_stored, Row, Kind}
use Rattle.regions.specs.Walks.{IsFitting}
use Rattle.regions.specs.declared.row.Kind.TheVariants as kinds
use Rattle.regions.proofs.Words.Parse.{tile_at-tiles}
use Rattle.regions.proofs.Rows.RowLemmas.{start_at, rest_is}
use Rattle.regions.proofs.Words.Places.{table_right, place_of, InFirst, in_first}
use Rattle.regions.proofs.Tiles.Making.{length-regions_of, known, kind_is, top_is}
use Rattle.regions.proofs.Walks.WalkMade.{walk_ordinary}
use Rattle.heap_words.specs.Contents.{counted_size}
use Rattle.regions.proofs.Words.ObjectWords.{there, paired_there}
use Rattle.regions.proofs.Tiles.ForwardedLaws.{targets_right}

pub kind_at : (t : Table) (k : ℕ) (r : Region) → nth_region t k ≡ r → kind_of t k ≡ region_kind r
unfolding kind_of
kind_at t k r f = ap region_kind f

pub tiles_at : (t : Table) (k : ℕ) (r : Region) → nth_region t k ≡ r → tiles_of t k ≡ region_tiles r
unfolding tiles_of
tiles_at t k r f = ap region_tiles f

-- what is not free is one of the table's regions
pub known_number : (t : Table) (k : ℕ) → (nth_region t k ≡ Free → ⊥) → k < length t.regions
unfolding nth_region
known_number t k h = go t.regions k h
  where
    go : (rs : List Region) (k : ℕ) → (get_or rs k Free ≡ Free → ⊥) → k < length rs
    go [] k h = absurd (h refl)
    go (r ∷ rs) zero h = omega arith
    go (r ∷ rs) (suc k) h = let i = go rs k h in omega arith

fitting_of : (size : ℕ) (words : List ℕ) (rows : List Row) (t : Table) (k : ℕ) → IsTable size words rows
    → table_of size words rows ≡ t → IsFitting t k
fitting_of size words rows t k g e = go (nth_region t k) refl
  where
    go : (r : Region) → nth_region t k ≡ r → IsFitting t k
    go Free f = record { positive = rw (tiles_at t k Free f) tt; fits = λ o. rw (tiles_at t k Free f) (omega arith) }
    go (First s) f = record {
      positive = rw (tiles_at t k (First s) f) (omega arith, tt);
      fits = λ o. absurd (let z : kinds.First ≡ kinds.Ordinary = sym (kind_at t k (First s) f) ∙ o in cc);
    }
    go (Rest n) f = record { positive = rw (tiles_at t k (Rest n) f) tt; fits = λ o. rw (tiles_at t k (Rest n) f) (omega arith) }
    go (Ordinary ts) f =
        let h = known_number t k (λ q. let z : Ordinary ts ≡ Free = sym f ∙ q in cc) in
        let o : kind_of t k ≡ kinds.Ordinary = kind_at t k (Ordinary ts) f in
        let w = walk_ordinary size words rows t k g e h o in
        let p = top_is size words rows t k g e h o in
        let n = known size words rows t k e h in
        record { positive = w.positive; fits = λ _. omega (arith, w.end_is, p.used_le, n.size_is) }

-- the rows behind a run's first are its later ones
rest_rows : (sizes : ℕ → ℕ) (size : ℕ) (rows : List Row) (left m : ℕ) (ws : List ℕ) → AreRows sizes size left ws rows → m * size < left
    → ((get_or rows m free_row).kind ≡ kinds.Rest) × (m < length rows)
rest_rows sizes size (row ∷ rows) (suc left) zero ws r h = (rest_is _ _ _ _ r.0, omega arith)
rest_rows sizes size (row ∷ rows) (suc left) (suc m) ws r h =
    let i = rest_rows sizes size rows (suc left - size) m (drop size ws) r.1 (omega arith) in
    (i.0, omega (arith, i.1))
rest_rows sizes size _ _ m ws r h = absurd (omega arith)

-- a later row of a run is so many behind its first one
record IsLaterRow (size : ℕ) (ws : List ℕ) (rows : List Row) (k used : ℕ) : Type 0 where
  pub first : ℕ
  pub later : ℕ
  pub number : first + later ≡ k
  pub behind : 0 < later
  pub begins : (get_or rows first free_row).kind ≡ kinds.First
  pub reaches : later * size < object_size (header_of (get_or ws (first * size) 0))
  pub words : used ≡ min size (object_size (header_of (get_or ws (first * size) 0)) - later * size)

left_first : (size : ℕ) (ws : List ℕ) (kind : Kind) → 0 < left_by size ws kind
    → (kind ≡ kinds.First) × (left_by size ws kind ≡ object_size (header_of (get_or ws 0 0)) - size)
left_first size ws kinds.First h = (refl, refl)
left_first size ws _ h = absurd (omega arith)

not_rest_row : (f : ℕ → ℕ) (size : ℕ) (ws : List ℕ) (used : ℕ) (kind : Kind) → IsRow f size ws used kind → kind ≡ kinds.Rest → ⊥
not_rest_row f size ws used kinds.Rest r e = r
not_rest_row f size ws used _ r e = cc

rest_used : (size left used : ℕ) (kind : Kind) → IsRestRow size left used kind → used ≡ min size left
rest_used size left used kinds.Rest r = r
rest_used size left used _ r = absurd r

shift_row : (size : ℕ) (ws : List ℕ) (row : Row) (rows : List Row) (k used : ℕ) → IsLaterRow size (drop size ws) rows k used
    → IsLaterRow size ws (row ∷ rows) (suc k) used
shift_row size ws row rows k used i =
    let at : size + i.first * size ≡ suc i.first * size = omega arith in
    let word : get_or (drop size ws) (i.first * size) 0 ≡ get_or ws (suc i.first * size) 0 =
    get_or-drop size ws (i.first * size) 0 ∙ ap (λ (n : ℕ). get_or ws n 0) at in
    let long : object_size (header_of (get_or (drop size ws) (i.first * size) 0))
    ≡ object_size (header_of (get_or ws (suc i.first * size) 0)) =
    ap (λ (w : ℕ). object_size (header_of w)) word in
    record {
      first = suc i.first;
      later = i.later;
      number = omega (arith, i.number);
      behind = i.behind;
      begins = i.begins;
      reaches = omega (arith, i.reaches, long);
      words = i.words ∙ ap (λ (n : ℕ). min size (n - i.later * size)) long;
    }

later_row : (f : ℕ → ℕ) (size : ℕ) (rows : List Row) (k left : ℕ) (ws : List ℕ) → AreRows f size left ws rows → k < length rows
    → (get_or rows k free_row).kind ≡ kinds.Rest
    → ((k * size < left) × ((get_or rows k free_row).used ≡ min size (left - k * size)))
    ⊎ IsLaterRow size ws rows k (get_or rows k free_row).used
later_row f size [] k left ws r h e = absurd (omega arith)
later_row f size (row ∷ rows) zero zero ws r h e = absurd (not_rest_row f size ws row.used row.kind r.0 e)
later_row f size (row ∷ rows) zero (suc left) ws r h e =
    inl (
      omega arith,
      rest_used size (suc left) row.used row.kind r.0 ∙ ap (min size) (let z : suc left ≡ suc left - 0 * size = omega arith in z),
    )
later_row f size (row ∷ rows) (suc k) zero ws r h e =
    let s : ℕ = object_size (header_of (get_or ws 0 0)) in
    elim (later_row f size rows k (left_by size ws row.kind) (drop size ws) r.1 (omega arith) e) [
      | inl a ↦
          let l = left_first size ws row.kind (omega (arith, a.0)) in
          let long : left_by size ws row.kind - k * size ≡ s - suc k * size = omega (arith, l.1) in
          let start : 0 * size ≡ 0 = omega arith in
          inr (record {
            first = 0;
            later = suc k;
            number = omega arith;
            behind = omega arith;
            begins = l.0;
            reaches = rw start (omega (arith, a.0, l.1));
            words = rw start (a.1 ∙ ap (min size) long);
          })
      | inr i ↦ inr (shift_row size ws row rows k _ i)
    ]
later_row f size (row ∷ rows) (suc k) (suc left) ws r h e =
    elim (later_row f size rows k (suc left - size) (drop size ws) r.1 (omega arith) e) [
      | inl a ↦
          let long : suc left - size - k * size ≡ suc left - suc k * size = omega arith in
          inl (omega (arith, a.0), a.1 ∙ ap (min size) long)
      | inr i ↦ inr (shift_row size ws row rows k _ i)
    ]

-- a run's object stands at the bottom of its first region
pub first_object : (t : Table) (k : ℕ) (s : Stored) → 0 < t.words_per_region → nth_region t k ≡ First s
    → object_at t (k * t.words_per_region) ≡ Some s
unfolding object_at tile_in region_at nth_region
first_object t k s z e =
    let size : ℕ = t.words_per_region in
    let d : k * size / size ≡ k = ap (λ (n : ℕ). n / size) (omega arith) ∙ div-mul-add k size 0 z in
    let m : k * size % size ≡ 0 = ap (λ (n : ℕ). n % size) (omega arith) ∙ mod-mul-add k size 0 z in
    rw (d, m, e) refl

-- the words of a run's object, by its header
pub first_words : (size : ℕ) (words : List ℕ) (rows : List Row) (t : Table) (k : ℕ) (s : Stored) → IsTable size words rows
    → table_of size words rows ≡ t → nth_region t k ≡ First s
    → (object_size (header_of (get_or words (k * size) 0)) ≡ tile_size (Object s)) × (k * size + tile_size (Object s) ≤ length words)
first_words size words rows t k s g e f =
    let size_is : size ≡ t.words_per_region = ap (λ (u : Table). u.words_per_region) e in
    let object : object_at t (k * size) ≡ Some s = rw size_is (first_object t k s (rw (← size_is) g.region_size.0) f) in
    let o = there size words rows t (k * size) s g e object in
    (ap counted_size o.is_in.header_is, omega (arith, o.fits, o.words_are))

run_rests : (size : ℕ) (words : List ℕ) (rows : List Row) (t : Table) (k j : ℕ) (s : Stored)
    → IsTable size words rows → table_of size words rows ≡ t → nth_region t k ≡ First s → 0 < j
    → j * t.words_per_region < tile_size (Object s) → kind_of t (k + j) ≡ kinds.Rest
run_rests size words rows t k j s g e f z h =
    let b = known_number t k (λ q. let x : First s ≡ Free = sym f ∙ q in cc) in
    let kn = known size words rows t k e b in
    let is : (get_or rows k free_row).kind ≡ kinds.First = sym (kind_is size words rows t k kn) ∙ kind_at t k (First s) f in
    let st = start_at (sizes_in words) size rows k (k * size) 0 words free_row refl kn.in_rows g.rows_right
    (λ f. let x : kinds.First ≡ kinds.Rest = sym is ∙ f in cc) in
    let behind = subst (λ (kind : Kind).
    AreRows (sizes_in words) size (left_by size (drop (k * size) words) kind) (drop size (drop (k * size) words)) (drop (suc k) rows))
    is st.0.rest_are in
    let long = first_words size words rows t k s g e f in
    let word : get_or (drop (k * size) words) 0 0 ≡ get_or words (k * size) 0 =
    get_or-drop (k * size) words 0 0 ∙ ap (λ (n : ℕ). get_or words n 0) (omega arith) in
    let long' : object_size (header_of (get_or (drop (k * size) words) 0 0)) ≡ tile_size (Object s) =
    ap (λ (w : ℕ). object_size (header_of w)) word ∙ long.0 in
    let h' : j * size < tile_size (Object s) = rw kn.size_is h in
    let r =
    rest_rows (sizes_in words) size (drop (suc k) rows) _ (j - 1) (drop size (drop (k * size) words)) behind (less j size _ _ z h' long') in
    let place : suc k + (j - 1) ≡ k + j = omega arith in
    let there : (get_or rows (k + j) free_row).kind ≡ kinds.Rest =
    ap (λ (n : ℕ). (get_or rows n free_row).kind) (sym place)
    ∙ ap (λ (row : Row). row.kind) (sym (get_or-drop (suc k) rows (j - 1) free_row)) ∙ r.0 in
    let count : length t.regions ≡ length rows =
    ap (λ (u : Table). length u.regions) (sym e) ∙ length-regions_of (sizes_in words) size rows words in
    let inside : k + j < length t.regions = omega (arith, r.1, length-drop (suc k) rows, count) in
    kind_is size words rows t (k + j) (known size words rows t (k + j) e inside) ∙ there
  where
    less : (j size o n : ℕ) → 0 < j → j * size < n → o ≡ n → (j - 1) * size < o - size
    less zero size o n z h e = absurd (omega arith)
    less (suc j) size o n z h e = let p : suc j - 1 ≡ j = omega arith in rw p (omega arith)

rest_row_is : (f : ℕ → ℕ) (ws : List ℕ) (used n : ℕ) (kind : Kind) → region_by f ws used kind ≡ Rest n → (kind ≡ kinds.Rest) × (used ≡ n)
rest_row_is f ws used n kinds.Rest e = (refl, cc)
rest_row_is f ws used n _ e = cc

first_row_is : (f : ℕ → ℕ) (ws : List ℕ) (used : ℕ) (kind : Kind) → kind ≡ kinds.First → region_by f ws used kind ≡ First (first_stored ws)
first_row_is f ws used kind e = rw e refl

later_is : (size : ℕ) (words : List ℕ) (rows : List Row) (t : Table) (k n : ℕ) → IsTable size words rows → table_of size words rows ≡ t
    → nth_region t k ≡ Rest n → IsLater t k n
later_is size words rows t k n g e f =
    let b = known_number t k (λ q. let x : Rest n ≡ Free = sym f ∙ q in cc) in
    let kn = known size words rows t k e b in
    let row = rest_row_is (sizes_in words) (drop (k * size) words) (get_or rows k free_row).used n
    (get_or rows k free_row).kind (sym kn.region_is ∙ f) in
    elim (later_row (sizes_in words) size rows k 0 words g.rows_right kn.in_rows row.0) [
      | inl a ↦ absurd (omega (arith, a.0))
      | inr i ↦
          let count : length t.regions ≡ length rows =
          ap (λ (u : Table). length u.regions) (sym e) ∙ length-regions_of (sizes_in words) size rows words in
          let first = known size words rows t i.first e (omega (arith, i.number, b)) in
          let s : Stored = first_stored (drop (i.first * size) words) in
          let begins : nth_region t i.first ≡ First s = first.region_is ∙ first_row_is _ _ _ _ i.begins in
          let long = first_words size words rows t i.first s g e begins in
          record {
            first = i.first;
            later = i.later;
            object = s;
            number = i.number;
            behind = i.behind;
            begins = begins;
            reaches = rw (← kn.size_is) (omega (arith, i.reaches, long.0));
            words = sym row.1 ∙ i.words ∙ ap (λ (m : ℕ). min size (m - i.later * size)) long.0
                ∙ ap (λ (m : ℕ). min m (tile_size (Object s) - i.later * m)) kn.size_is;
          }
    ]

tile_within : (size : ℕ) (words : List ℕ) (rows : List Row) (a : ℕ) (u : Tile) → IsTable size words rows
    → tile_in (table_of size words rows) a ≡ Some u → a + tile_size u ≤ length words
tile_within size words rows a u g h = elim (place_of (sizes_in words) size words rows a u h) [
  | inl q ↦
      let row : Row = get_or rows (a / size) free_row in
      let n : ℕ = a / size * size in
      let at : n + a % size ≡ a = omega (arith, g.region_size.0) in
      let st = start_at (sizes_in words) size rows (a / size) n 0 words free_row refl q.known g.rows_right
      (λ e. let f : kinds.Ordinary ≡ kinds.Rest = sym q.kind_is ∙ e in cc) in
      let right : IsRow (sizes_in words) size (drop n words) row.used kinds.Ordinary =
      subst (λ (kind : Kind). IsRow (sizes_in words) size (drop n words) row.used kind) q.kind_is st.0.row_is in
      let t = tile_at-tiles (sizes_in words) 0 (a % size) (a % size) (take row.used (drop n words)) u right.1 (omega arith) q.tile_is in
      let room : n + size ≤ length words = rw g.covers (row_fits (a / size) size (length rows) size q.known (omega arith)) in
      omega (arith, t.1, length-take row.used (drop n words), right.0)
  | inr q ↦
      let s : Stored = first_stored (drop (a / size * size) words) in
      let i = in_first (sizes_in words) size words rows a s (table_right g)
      (subst (λ (v : Tile). InFirst (sizes_in words) size words rows a v) q.tile_is q) in
      let e : tile_size u ≡ tile_size (Object s) = ap tile_size q.tile_is in
      omega (arith, i.fits, e)
]

pub shaped_of : (size : ℕ) (words : List ℕ) (rows : List Row) (t : Table) → IsTable size words rows
    → table_of size words rows ≡ t → IsShaped t
shaped_of size words rows t g e =
    let size_is : size ≡ t.words_per_region = ap (λ (u : Table). u.words_per_region) e in
    let count : length t.regions ≡ length rows =
    ap (λ (u : Table). length u.regions) (sym e) ∙ length-regions_of (sizes_in words) size rows words in
    let whole : length t.regions * t.words_per_region ≡ length words = rw (count, ← size_is) (sym g.covers) in
    record {
      positive = rw (← size_is) g.region_size.0;
      small = rw (← size_is) g.region_size.1;
      in_all = rw whole g.small;
      fitting = λ k. fitting_of size words rows t k g e;
      within = λ a u h. let f = tile_within size words rows a u g (ap (λ (v : Table). tile_in v a) e ∙ h) in rw whole f;
      run = λ k j s h z l. run_rests size words rows t k j s g e h z l;
      later = λ k n h. later_is size words rows t k n g e h;
      targets = targets_right size words rows t g e;
      paired = λ a s h. paired_there words t a s (there size words rows t a s g e h);
    }
