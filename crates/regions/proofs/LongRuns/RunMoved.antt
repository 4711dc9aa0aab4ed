-- A run moves down: its regions become free, and it is made again from a lower one on, of words that moved over their own perhaps.
use Rattle.std.proofs.Common.{◌≡◌, ◌≢◌, ◌⊎◌, ◌+◌, ◌-◌, ◌*◌, ◌/◌, ◌%◌, ◌<◌, ◌≤◌, ◌∷◌, ◌++◌, ◌∙◌}
use Rattle.std.proofs.Common.{ℕ, zero, suc, true, Some, None, List, length, take, drop, get_or, refl, sym, ap, subst, arith, inl, inr}
use Rattle.std.proofs.Common.{replicate, drop-cons}
use Rattle.std.specs.Int.{div_ceil}
use Rattle.std.proofs.Math.Nat.{lt_of_mul-lt-mul_right}
use Rattle.std.proofs.lemmas.Bool.{cases_lt, cases_eq}
use Rattle.std.proofs.lemmas.Grind.{div_ceil_times}
use Rattle.std.proofs.lemmas.Nat.{div-mul-add}
use Rattle.std.proofs.lemmas.List.{length-append, length-take, length-drop, length-replicate, take_all, append_assoc, drop-drop}
use Rattle.std.proofs.lemmas.List.{take-append-drop}
use lib.Seq.{paste}
use Rattle.heap_model.specs.Heap.{Stored}
use Rattle.heap_words.specs.Contents.{put}
use Rattle.heap_words.specs.Headers.{header_of}
use Rattle.heap_words.specs.Memory.{Memory}
use Rattle.regions.specs.FirstTiles.{Entries, AreEntriesPut, IsPut}
use Rattle.heap_words.specs.Contents.{object_size, counted_size}
use Rattle.regions.proofs.Words.Counts.{counts_in, counted_stored, object_header}
use Rattle.regions.specs.Rows.{table_of, IsTable, IsRegionTable, AreUsedBelow, IsObjectHeader, first_stored, free_row}
use Rattle.regions.specs.Rows.{free_row_count}
use Rattle.regions.specs.Rows.{kind_is_free, run_rows, sizes_in}
use Rattle.regions.specs.Shaped.{AreBare, IsShaped}
use Rattle.regions.specs.Table.{Table, Region, Free, Ordinary, First, Rest, nth_region, region_kind, kind_of, object_at, IsReleasable}
use Rattle.regions.specs.Table.{released, run_length, with_regions, run_regions, moved_as, moved_run, EachForwardedIn, HasNoForwarded}
use Rattle.regions.specs.Table.{front_count, region_tile, tile_in, tile_object, AreHalves}
use Rattle.regions.specs.Tiles.{Object, tile_size, stored_of}
use Rattle.regions.specs.WeakStarts.{Starts, start_added}
use Rattle.regions.specs.declared.row.Row.{Row}
use Rattle.regions.specs.declared.row.Kind.TheVariants as kinds
use Rattle.regions.proofs.Cards.Entries.{release_sound, run_sound_at}
use Rattle.regions.proofs.LongRuns.Blocks.{reached, reaches, block_within}
use Rattle.regions.proofs.LongRuns.RunGone.{rest, release_by, release_room, run_length-is}
use Rattle.regions.proofs.LongRuns.RunLaws.{Releases, TakesRun, run_released, run_made_at, tile_of_region}
use Rattle.regions.proofs.LongRuns.RunMade.{length-run_rows, run_made, with_rows}
use Rattle.regions.proofs.LongRuns.RunRows.{FreeFront}
use Rattle.regions.proofs.Rows.Counting.{count_released, count_run, release_used}
use Rattle.regions.proofs.Rows.UsedBelow.{used_le, used_written}
use Rattle.regions.proofs.Tiles.Making.{known, kind_is, length-regions_of}
use Rattle.regions.proofs.Tiles.ShapedMade.{shaped_of, first_object, kind_at}
use Rattle.regions.proofs.Tiles.Targets.{IsWrittenTable}
use Rattle.regions.proofs.Tiles.WeakStarts.{Clears, free_void, run_later}
use Rattle.regions.proofs.Tiles.Laws.{object_tile}
use Rattle.regions.proofs.Tiles.Within.{object_within}
use Rattle.regions.proofs.Words.ObjectWords.{IsThere, there}
use Rattle.regions.proofs.Words.Parse.{stored_of-append}
use Rattle.regions.proofs.Words.Puts.{put_is}

-- a run at k, and free regions from j on up to it
pub record CanMove (t : Table) (k j : ℕ) : Type 0 where
  pub known : k < length t.regions
  pub run : kind_of t k ≡ kinds.First
  pub below : j < k
  pub free : (q : ℕ) → j ≤ q → q < k → kind_of t q ≡ kinds.Free
  pub untargeted : EachForwardedIn (λ to. k ≢ to / t.words_per_region) t.regions

free_number : (t : Table) (q : ℕ) → kind_of t q ≡ kinds.Free → nth_region t q ≡ Free
unfolding kind_of
free_number t q f = go (nth_region t q) f
  where
    go : (r : Region) → region_kind r ≡ kinds.Free → r ≡ Free
    go Free e = refl
    go (Ordinary ts) e = cc
    go (First s) e = cc
    go (Rest n) e = cc

first_number : (t : Table) (q : ℕ) → kind_of t q ≡ kinds.First → (s : Stored) × (nth_region t q ≡ First s)
unfolding kind_of
first_number t q f = go (nth_region t q) f
  where
    go : (r : Region) → region_kind r ≡ kinds.First → (s : Stored) × (r ≡ First s)
    go Free e = absurd cc
    go (Ordinary ts) e = absurd cc
    go (First s) e = (s, refl)
    go (Rest n) e = absurd cc

-- rows that are free one by one
front_each : (m k : ℕ) (rows : List Row) → k + m ≤ length rows
    → ((i : ℕ) → i < m → kind_is_free (get_or rows (k + i) free_row).kind ≡ true) → FreeFront m (drop k rows)
front_each zero k rows h f = tt
front_each (suc m) k rows h f =
    let at : k + 0 ≡ k = omega arith in
    let head : kind_is_free (get_or rows k free_row).kind ≡ true =
    ap (λ (i : ℕ). kind_is_free (get_or rows i free_row).kind) (sym at) ∙ f 0 (omega arith) in
    let later = front_each m (suc k) rows (omega arith) (λ i lt.
    let next : suc k + i ≡ k + suc i = omega arith in
    ap (λ (n : ℕ). kind_is_free (get_or rows n free_row).kind) next ∙ f (suc i) (omega arith)) in
    rw (drop-cons rows k free_row (omega arith)) (head, later)

-- an object's words at their new place
pub record IsFirst (words : List ℕ) (n size : ℕ) (s : Stored) : Type 0 where
  pub is_object : IsObjectHeader (header_of (get_or (drop n words) 0 0))
  pub long : object_size (header_of (get_or (drop n words) 0 0)) ≡ size
  pub stored : first_stored (drop n words) ≡ s

first_moved : (words : List ℕ) (t : Table) (x n : ℕ) (s : Stored) → IsThere words t x s → n + tile_size (Object s) ≤ length words
    → IsFirst (put words n (take (tile_size (Object s)) (drop x words))) n (tile_size (Object s)) s
first_moved words t x n s stands fits =
    let i = stands.is_in in
    let p : ℕ = length s.pointers in
    let weak : ℕ = length s.weaks in
    let held : ℕ = length s.held in
    let d : ℕ = length s.values in
    let body : List ℕ = drop (x + 1) words in
    let m : ℕ = 1 + p + (weak + held) + d in
    let w : ℕ = get_or words x 0 in
    let at : x + 1 ≡ suc x = omega arith in
    let whole : drop x words ≡ w ∷ body = rw at (drop-cons words x 0 (omega (arith, i.fits))) in
    let long : tile_size (Object s) ≡ suc m = omega arith in
    let block : List ℕ = take (tile_size (Object s)) (drop x words) in
    let block_is : block ≡ w ∷ take m body = rw (long, whole) refl in
    let len : length (take m body) ≡ m = simp (length-take, length-drop) (omega (arith, i.fits)) in
    let block_len : length block ≡ tile_size (Object s) = ap (λ (xs : List ℕ). length xs) block_is ∙ omega (arith, len) in
    let now : List ℕ = put words n block in
    let y = put_is words n block (omega (arith, block_len)) in
    let a : take (tile_size (Object s)) (drop n now) ≡ block =
    ap (λ (z : ℕ). take z (drop n now)) (sym block_len) ∙ y.at in
    let rest : List ℕ = drop (tile_size (Object s)) (drop n now) in
    let there_now : drop n now ≡ w ∷ (take m body ++ rest) =
    sym (take-append-drop (tile_size (Object s)) (drop n now)) ∙ ap (λ (xs : List ℕ). xs ++ rest) (a ∙ block_is) in
    let head : header_of (get_or (drop n now) 0 0) ≡ header_of w = ap (λ (xs : List ℕ). header_of (get_or xs 0 0)) there_now in
    let joined : take m body ++ drop m body ≡ body = take-append-drop m body in
    let stored : stored_of p weak held d (take m body ++ rest) ≡ s =
    stored_of-append p weak held d (take m body) rest (omega arith)
    ∙ sym (stored_of-append p weak held d (take m body) (drop m body) (omega arith))
    ∙ ap (stored_of p weak held d) joined ∙ sym i.stored_is in
    record {
      is_object = rw head (object_header (header_of w) (counts_in s) i.head i.header_is);
      long = ap object_size head ∙ ap counted_size i.header_is;
      stored = ap first_stored there_now ∙ counted_stored (header_of w) (take m body ++ rest) (counts_in s) i.header_is ∙ stored;
    }

drop_later : (a b : ℕ) (xs ys : List ℕ) → a ≤ b → drop a xs ≡ drop a ys → drop b xs ≡ drop b ys
drop_later a b xs ys h e =
    let at : a + (b - a) ≡ b = omega arith in
    sym (drop-drop (b - a) a xs ∙ ap (λ j. drop j xs) at) ∙ ap (drop (b - a)) e ∙ (drop-drop (b - a) a ys ∙ ap (λ j. drop j ys) at)

block_ends : (k m l size : ℕ) → k + m ≤ l → k * size + m * size ≤ l * size
block_ends k m l size h =
    let at : l ≡ k + m + (l - (k + m)) = omega arith in
    rw at (omega arith)

length-paste : (rows new : List Row) (at m : ℕ) → at + m ≤ length rows → length new ≡ m → length (paste rows at new m) ≡ length rows
length-paste rows new at m h e =
    ap (λ (xs : List Row). length ((take at rows ++ xs) ++ drop (at + m) rows)) (take_all m new (omega arith))
    ∙ omega (
      arith,
      length-append (take at rows ++ new) (drop (at + m) rows),
      length-append (take at rows) new,
      length-take at rows,
      length-drop (at + m) rows,
    )

paste_parts : (rows new : List Row) (at m : ℕ) → length new ≡ m → paste rows at new m ≡ take at rows ++ (new ++ drop (at + m) rows)
paste_parts rows new at m e =
    append_assoc (take at rows) (take m new) (drop (at + m) rows)
    ∙ ap (λ (rs : List Row). take at rows ++ (rs ++ drop (at + m) rows)) (take_all m new (omega arith))

-- where the run stands, and how much of it there is
pub record IsRun (size : ℕ) (words : List ℕ) (rows : List Row) (t : Table) (k : ℕ) : Type 0 where
  pub object : Stored
  pub first : nth_region t k ≡ First object
  pub stands : IsThere words t (k * size) object
  pub in_rows : k < length rows
  pub room : k + run_length t k ≤ length rows
  pub whole : run_length t k * size ≤ length words
  pub some : 0 < run_length t k
  pub covers : tile_size (Object object) ≤ run_length t k * size
  pub tight : run_length t k * size < tile_size (Object object) + size
  pub count : run_length t k ≡ suc (front_count rest (drop (suc k) rows))
  pub wide : size ≡ t.words_per_region

pub run_is_here : (size : ℕ) (words : List ℕ) (rows : List Row) (t : Table) (k j : ℕ) → IsTable size words rows
    → table_of size words rows ≡ t → CanMove t k j → IsRun size words rows t k
run_is_here size words rows t k j g e can =
    let shaped = shaped_of size words rows t g e in
    let wide : size ≡ t.words_per_region = ap (λ (u : Table). u.words_per_region) e in
    let o = first_number t k can.run in
    let kn = known size words rows t k e can.known in
    let count = run_length-is size words rows t k e in
    let room = release_room size words rows t k g e can.known (subst IsReleasable (sym can.run) tt) can.untargeted in
    let m : ℕ = run_length t k in
    let all : k * size + m * size ≤ length words = rw g.covers (block_ends k m (length rows) size (omega (arith, room, count))) in
    let covers : tile_size (Object o.0) ≤ m * size = elim (cases_lt (m * size) (tile_size (Object o.0))) [
      | inr le ↦ le
      | inl lt ↦ absurd (let more = reached t k m o.0 shaped o.1 (subst (λ (w : ℕ). m * w < tile_size (Object o.0)) wide lt) in omega arith)
    ] in
    let last : (m - 1) * t.words_per_region < tile_size (Object o.0) = reaches t k (m - 1) o.0 shaped o.1 (omega arith) in
    let last' : (m - 1) * size < tile_size (Object o.0) =
    subst (λ (w : ℕ). (m - 1) * w < tile_size (Object o.0)) (sym wide) last in
    let split : m * size ≡ (m - 1) * size + size = product m size (omega arith) in
    record {
      object = o.0;
      first = o.1;
      stands = there size words rows t (k * size) o.0 g e
          (ap (λ (n : ℕ). object_at t (k * n)) wide ∙ first_object t k o.0 shaped.positive o.1);
      in_rows = kn.in_rows;
      room = omega (arith, room, count);
      whole = omega arith;
      some = omega arith;
      covers = covers;
      tight = omega arith;
      count = count;
      wide = wide;
    }
  where
    product : (m size : ℕ) → 0 < m → m * size ≡ (m - 1) * size + size
    product zero size h = absurd (omega arith)
    product (suc m) size h = let z : suc m - 1 ≡ m = omega arith in rw z (omega arith)

-- how many regions the run has, by the size of its object
pub counted : (size : ℕ) (words : List ℕ) (rows : List Row) (t : Table) (k n : ℕ) → IsTable size words rows
    → (r : IsRun size words rows t k) → n ≡ tile_size (Object r.object) → div_ceil n size ≡ run_length t k
counted size words rows t k n g r e =
    let m : ℕ = run_length t k in
    let c : ℕ = div_ceil n size in
    let (reaches, near) = div_ceil_times n size g.region_size.0 in
    let covers = r.covers in
    let tight = r.tight in
    let most : c * size < (m + 1) * size = omega (arith, near, covers, e) in
    let least : m * size < (c + 1) * size = omega (arith, tight, reaches, e) in
    let below : c < m + 1 = lt_of_mul-lt-mul_right size most in
    let above : m < c + 1 = lt_of_mul-lt-mul_right size least in
    omega (arith, below, above)

-- the rows once the run's are free, and once it is made again
abbrev pub freed_rows : List Row → ℕ → ℕ → List Row
freed_rows rows k m = paste rows k (replicate m free_row) m

module _ (size : ℕ) (words : List ℕ) (rows : List Row) (t : Table) (k j : ℕ) (g : IsTable size words rows)
    (e : table_of size words rows ≡ t)
    (can : CanMove t k j) (r : IsRun size words rows t k) where
  pub freed_long : length (freed_rows rows k (run_length t k)) ≡ length rows
  freed_long = length-paste rows (replicate (run_length t k) free_row) k (run_length t k) r.room
      (length-replicate {A = Row} (run_length t k) free_row)

  pub freed_same : take (length rows) (freed_rows rows k (run_length t k) ++ drop (length (freed_rows rows k (run_length t k))) rows)
      ≡ freed_rows rows k (run_length t k)
  freed_same = with_rows rows (freed_rows rows k (run_length t k)) (length rows) refl freed_long

  pub freed : IsWrittenTable size words (freed_rows rows k (run_length t k)) (released t k)
  freed = subst (λ (rs : List Row). IsWrittenTable size words rs (released t k)) freed_same
      (release_by size words rows t k k (run_length t k) (length rows) (freed_rows rows k (run_length t k)) g e can.known
      (subst IsReleasable (sym can.run) tt) can.untargeted refl r.count refl refl)

  pub releases : Releases t (released t k) k (run_length t k)
  releases = run_released t k r.object can.known r.first

  pub free_then : (q : ℕ) → j ≤ q → q < j + run_length t k → kind_of (released t k) q ≡ kinds.Free
  free_then q low high = elim (cases_lt q k) [
    | inl b ↦ releases.kinds_same q (inl b) ∙ can.free q low b
    | inr b ↦ releases.free q b (let l = can.below in omega arith)
  ]

  pub makes : TakesRun (released t k)
      (with_regions (released t k) j (run_length t k) (run_regions (released t k).words_per_region r.object (run_length t k)))
      j (run_length t k) r.object
  makes = run_made_at (released t k) j (run_length t k) r.object
      (rw (releases.size) (rw (← r.wide) g.region_size.0)) r.some
      (let n = releases.count in let before : length t.regions ≡ length rows = regions_long in let l = can.below in let room = r.room in
      omega arith) (λ q low high. free_number (released t k) q (free_then q low high))
    where
      regions_long : length t.regions ≡ length rows
      regions_long = ap (λ (u : Table). length u.regions) (sym e) ∙ length-regions_of (sizes_in words) size rows words

  pub front : FreeFront (run_length t k) (drop j (freed_rows rows k (run_length t k)))
  front = front_each (run_length t k) j (freed_rows rows k (run_length t k))
      (let n = freed_long in let l = can.below in let room = r.room in omega arith)
      (λ i lt.
      let n : length (released t k).regions ≡ length (freed_rows rows k (run_length t k)) =
      ap (λ (u : Table). length u.regions) (sym freed.table_is)
      ∙ length-regions_of (sizes_in words) size (freed_rows rows k (run_length t k)) words in
      let kn = known size words (freed_rows rows k (run_length t k)) (released t k) (j + i) freed.table_is
      (let long = freed_long in let l = can.below in let room = r.room in omega arith) in
      ap kind_is_free (sym (kind_is size words (freed_rows rows k (run_length t k)) (released t k) (j + i) kn)
      ∙ free_then (j + i) (omega arith) (omega arith)))

  -- the table, as the steps leave its words and rows
  pub moved_table : (n number : ℕ) (new : List ℕ) (rows' : List Row) → n ≡ tile_size (Object r.object) → number ≡ length rows
      → new ≡ put words (j * size) (take n (drop (k * size) words))
      → rows' ≡ paste (freed_rows rows k (run_length t k)) j (run_rows size n 0 (run_length t k)) (run_length t k)
      → IsWrittenTable size new (take number (rows' ++ drop (length rows') rows))
      (with_regions (released t k) j (run_length t k) (run_regions size r.object (run_length t k)))
  moved_table n number new rows' n_is number_is new_is rows_is =
      let m : ℕ = run_length t k in
      let s : ℕ = tile_size (Object r.object) in
      let mid : List Row = freed_rows rows k m in
      let block : List ℕ = take s (drop (k * size) words) in
      let words' : List ℕ = put words (j * size) block in
      let below : j * size ≤ k * size = less_times j k size (let l = can.below in omega arith) in
      let fits : k * size + s ≤ length words = (let f = r.stands.fits in let w = r.stands.words_are in omega arith) in
      let len : length block ≡ s = simp (length-take, length-drop) (omega arith) in
      let x = put_is words (j * size) block (omega arith) in
      let f = first_moved words t (k * size) (j * size) r.object r.stands (omega arith) in
      let after : drop (j * size + m * size) words' ≡ drop (j * size + m * size) words =
      drop_later (j * size + length block) (j * size + m * size) words' words (let c = r.covers in omega arith) x.after in
      let done = run_made size words words' mid (released t k) j m s r.object freed.is_table freed.table_is front
      (let long = freed_long in let l = can.below in let room = r.in_rows in omega arith) r.some r.covers r.tight
      x.length_is x.before after f.is_object f.long f.stored refl in
      let run : List Row = run_rows size s 0 m in
      let rows_are : rows' ≡ paste mid j run m = rows_is ∙ ap (λ (i : ℕ). paste mid j (run_rows size i 0 m) m) n_is in
      let fit : j + m ≤ length mid = (let long = freed_long in let l = can.below in let room = r.room in omega arith) in
      let count : length rows' ≡ length rows =
      ap (λ (rs : List Row). length rs) rows_are ∙ length-paste mid run j m fit (length-run_rows size s 0 m) ∙ freed_long in
      let whole = with_rows rows rows' number number_is count in
      let words_is : new ≡ words' = new_is ∙ ap (λ (i : ℕ). put words (j * size) (take i (drop (k * size) words))) n_is in
      subst (λ (ws : List ℕ). IsWrittenTable size ws (take number (rows' ++ drop (length rows') rows))
      (with_regions (released t k) j m (run_regions size r.object m))) (sym words_is)
      (subst (λ (rs : List Row). IsWrittenTable size words' rs (with_regions (released t k) j m (run_regions size r.object m)))
      (sym (whole ∙ rows_are ∙ paste_parts mid run j m (length-run_rows size s 0 m))) done)
    where
      less_times : (a b w : ℕ) → a ≤ b → a * w ≤ b * w
      less_times a b w h = let at : b ≡ a + (b - a) = omega arith in rw at (omega arith)

  pub moved_is : with_regions (released t k) j (run_length t k) (run_regions size r.object (run_length t k)) ≡ moved_run t k j
  unfolding moved_run
  moved_is = rw r.first (ap (λ (n : ℕ). with_regions (released t k) j (run_length t k) (run_regions n r.object (run_length t k))) r.wide)

module _ (size shift lowest free : ℕ) (entries : Entries) (starts : Starts) (memory : Memory) (rows : List Row) (t : Table)
    (s : IsRegionTable size shift lowest free entries starts memory rows) (e : table_of size memory.all rows ≡ t) (k j : ℕ)
    (can : CanMove t k j)
    (r : IsRun size memory.all rows t k) where
  -- no free region is below the run's new place but such as were there
  lowest_below : lowest ≤ j
  lowest_below =
      let kn = known size memory.all rows t j e (let l = can.below in let h = can.known in omega arith) in
      used_le rows lowest j s.used_below
      (ap kind_is_free (sym (kind_is size memory.all rows t j kn) ∙ can.free j (omega arith) can.below))

  can_release : IsReleasable (kind_of t k)
  can_release = subst IsReleasable (sym can.run) tt

  pub moved_sound : (new : Entries) (mid starts' : Starts) (memory' : Memory) (number at n weaks : ℕ) (rows' : List Row)
      → number ≡ length rows → at ≡ j * size → n ≡ tile_size (Object r.object) → weaks ≡ length r.object.weaks
      → AreEntriesPut (IsPut at (at + n)) entries new → Clears starts mid k t.words_per_region → starts' ≡ start_added mid at weaks
      → memory'.all ≡ put memory.all (j * size) (take n (drop (k * size) memory.all)) → memory'.written ≡ memory.written
      → rows' ≡ paste (freed_rows rows k (run_length t k)) j (run_rows size n 0 (run_length t k)) (run_length t k)
      → IsRegionTable size shift lowest free new starts' memory' (take number (rows' ++ drop (length rows') rows))
  moved_sound new mid starts' memory' number at n weaks rows' number_is at_is n_is weaks_is put_entries clear flags all written rows_is =
      let m : ℕ = run_length t k in
      let mids : List Row = freed_rows rows k m in
      let run : List Row = run_rows size n 0 m in
      let below = can.below in
      let room = r.room in
      let low = lowest_below in
      let w1 = freed size memory.all rows t k j s.table e can r in
      let same = freed_same size memory.all rows t k j s.table e can r in
      let long = freed_long size memory.all rows t k j s.table e can r in
      let kn = known size memory.all rows t k e can.known in
      let used1 : AreUsedBelow lowest mids =
      subst (AreUsedBelow lowest) same (used_written rows mids (replicate m free_row) lowest k m lowest (length rows) s.used_below
      r.room (omega arith) (omega arith) refl refl) in
      let count1 : free + m ≡ free_row_count mids =
      subst (λ (rs : List Row). free + m ≡ free_row_count rs) same (count_released rows mids k k m free (length rows) r.in_rows
      (release_used size memory.all rows t k kn can_release) refl r.room r.count s.free_is refl refl) in
      let sound = release_sound size shift lowest free entries starts memory rows t s e mid memory mids lowest (free + m) k can.known
      can_release used1 count1 clear (omega arith) w1 in
      let fit : j + m ≤ length mids = omega arith in
      let count : length rows' ≡ length rows =
      ap (λ (rs : List Row). length rs) rows_is ∙ length-paste mids run j m fit (length-run_rows size n 0 m) ∙ long in
      let last : take number (rows' ++ drop (length rows') rows) ≡ rows' = with_rows rows rows' number number_is count in
      let last1 : take number (rows' ++ drop (length rows') mids) ≡ rows' =
      with_rows mids rows' number (number_is ∙ sym long) (count ∙ sym long) in
      let used2 : AreUsedBelow lowest rows' =
      subst (AreUsedBelow lowest) last1 (used_written mids rows' run lowest j m lowest number used1 fit low (omega arith)
      (number_is ∙ sym long) rows_is) in
      let count2 : free ≡ free_row_count rows' =
      (let c = subst (λ (rs : List Row). free + m ≡ free_row_count rs + m) last1 (count_run mids rows' j m (free + m) number size n fit
      (front size memory.all rows t k j s.table e can r) count1 (number_is ∙ sym long) rows_is) in omega arith) in
      let narrow : (released t k).words_per_region ≡ size =
      (releases size memory.all rows t k j s.table e can r).size ∙ sym r.wide in
      let w2 = moved_table size memory.all rows t k j s.table e can r n number memory'.all rows' n_is number_is all rows_is in
      let w2' : IsWrittenTable size memory'.all rows'
      (with_regions (released t k) j m (run_regions (released t k).words_per_region r.object m)) =
      subst (λ (rs : List Row). IsWrittenTable size memory'.all rs
      (with_regions (released t k) j m (run_regions (released t k).words_per_region r.object m))) last
      (subst (λ (x : ℕ). IsWrittenTable size memory'.all (take number (rows' ++ drop (length rows') rows))
      (with_regions (released t k) j m (run_regions x r.object m))) (sym narrow) w2) in
      let stands = object_within (table_of size memory.all rows) t memory.written (k * size) r.object s.written e r.stands.is in
      let less : j * size ≤ k * size = less_times j k size (omega arith) in
      subst (λ (rs : List Row). IsRegionTable size shift lowest free new starts' memory' rs) (sym last)
      (run_sound_at size shift lowest (free + m) entries mid memory mids (released t k) sound w1.table_is new starts' memory' rows' lowest
      free j m at n weaks r.object r.some (makes size memory.all rows t k j s.table e can r)
      (at_is ∙ ap (λ (x : ℕ). j * x) (sym narrow)) n_is put_entries (sym weaks_is) flags
      (λ off. subst (λ (u : Table). AreBare u) e (s.bare (sym clear.pairs ∙ off)) (k * size) r.object r.stands.is) used2 count2
      (omega (arith, written)) (omega (arith, stands, less, at_is, n_is, written)) w2')
    where
      less_times : (a b w : ℕ) → a ≤ b → a * w ≤ b * w
      less_times a b w h = let at : b ≡ a + (b - a) = omega arith in rw at (omega arith)

-- What is where once the run at k begins at j. No word is in it
pub record MovesRun (t t' : Table) (k j : ℕ) (s : Stored) : Type 0 where
  pub size : t'.words_per_region ≡ t.words_per_region
  pub count : length t'.regions ≡ length t.regions
  pub was : object_at t (k * t.words_per_region) ≡ Some s
  pub is : object_at t' (j * t.words_per_region) ≡ Some s
  pub room : object_at t (j * t.words_per_region) ≡ None
  pub gone : object_at t' (k * t.words_per_region) ≡ None
  pub others : (y : ℕ) → y ≢ k * t.words_per_region → y ≢ j * t.words_per_region → tile_in t' y ≡ tile_in t y
  pub first : nth_region t' j ≡ First s
  pub later : (q : ℕ) → j < q → q < j + run_length t k → kind_of t' q ≡ kinds.Rest
  pub free : (q : ℕ) → j + run_length t k ≤ q → q < k + run_length t k → kind_of t' q ≡ kinds.Free
  pub below : (q : ℕ) → q < j → kind_of t' q ≡ kind_of t q
  pub above : (q : ℕ) → k + run_length t k ≤ q → kind_of t' q ≡ kind_of t q
  pub same : (q : ℕ) → (q < j) ⊎ (k + run_length t k ≤ q) → nth_region t' q ≡ nth_region t q
  pub unmoved : HasNoForwarded t → HasNoForwarded t'

region_bottom : (k size : ℕ) → 0 < size → k * size / size ≡ k
region_bottom k size z = ap (λ (n : ℕ). n / size) (let e : k * size ≡ k * size + 0 = omega arith in e) ∙ div-mul-add k size 0 z

none_object : (t : Table) (y : ℕ) → tile_in t y ≡ None → object_at t y ≡ None
unfolding object_at
none_object t y e = ap tile_object e

object_is : (t : Table) (y : ℕ) (s : Stored) → object_at t y ≡ Some s → tile_in t y ≡ Some (Object s)
unfolding object_at
object_is t y s e = object_tile (tile_in t y) s e

free_tile : (t : Table) (y : ℕ) → kind_of t (y / t.words_per_region) ≡ kinds.Free → tile_in t y ≡ None
free_tile t y f = free_void t y f

-- the object at the first region's bottom is the only tile of a run
run_tile : (t : Table) (k y : ℕ) (s : Stored) → 0 < t.words_per_region → nth_region t k ≡ First s → k ≤ y / t.words_per_region
    → y / t.words_per_region < k + run_length t k → y ≢ k * t.words_per_region → tile_in t y ≡ None
run_tile t k y s z first low high apart = elim (cases_eq (y / t.words_per_region) k) [
  | inr ne ↦ run_later t k y (omega arith) high
  | inl e ↦ tile_of_region t y (First s) (ap (nth_region t) e ∙ first) ∙ away (y % t.words_per_region)
      (λ o.
      let whole : y / t.words_per_region * t.words_per_region + y % t.words_per_region ≡ y = omega arith in
      let at : y / t.words_per_region * t.words_per_region ≡ k * t.words_per_region = ap (λ (n : ℕ). n * t.words_per_region) e in
      apart (omega arith))
]
  where
    away : (o : ℕ) → o ≢ 0 → region_tile (First s) o ≡ None
    away zero n = absurd (n refl)
    away (suc o) n = refl

pub run_moves : (t : Table) (k j : ℕ) (s : Stored) → IsShaped t → CanMove t k j → nth_region t k ≡ First s
    → MovesRun t (moved_run t k j) k j s
unfolding moved_run
run_moves t k j s shaped can first =
    let size : ℕ = t.words_per_region in
    let m : ℕ = run_length t k in
    let below = can.below in
    let known = can.known in
    let rel = run_released t k s can.known first in
    let within = block_within t k can.known in
    let mid : Table = released t k in
    let free_then : (q : ℕ) → j ≤ q → q < j + m → kind_of mid q ≡ kinds.Free = λ q low high. elim (cases_lt q k) [
      | inl b ↦ rel.kinds_same q (inl b) ∙ can.free q low b
      | inr b ↦ rel.free q b (omega arith)
    ] in
    let count = rel.count in
    let made = run_made_at mid j m s (rw rel.size shaped.positive) (omega arith) (omega arith)
    (λ q low high. free_number mid q (free_then q low high)) in
    let t' : Table = with_regions mid j m (run_regions mid.words_per_region s m) in
    let is : t' ≡ moved_as (nth_region t k) t k j =
    rw first (ap (λ (n : ℕ). with_regions mid j m (run_regions n s m)) rel.size) in
    let wide : t'.words_per_region ≡ size = made.size ∙ rel.size in
    let low_at = region_bottom j size shaped.positive in
    let old_at = region_bottom k size shaped.positive in
    let differ : k * size ≢ j * size = λ q. let same : k ≡ j = sym old_at ∙ ap (λ (n : ℕ). n / size) q ∙ low_at in omega arith in
    let others : (y : ℕ) → y ≢ k * size → y ≢ j * size → tile_in t' y ≡ tile_in t y = λ y a b.
    made.others y (λ q. b (q ∙ ap (λ (n : ℕ). j * n) rel.size)) ∙ elim (cases_lt (y / size) k) [
      | inl lt ↦ rel.others y (inl lt)
      | inr ge ↦ elim (cases_lt (y / size) (k + m)) [
        | inr past ↦ rel.others y (inr past)
        | inl lt ↦ rel.gone y ge lt ∙ sym (run_tile t k y s shaped.positive first ge lt a)
      ]
    ] in
    subst (λ (u : Table). MovesRun t u k j s) is (record {
      size = wide;
      count = made.count ∙ rel.count;
      was = first_object t k s shaped.positive first;
      is = ap (λ (n : ℕ). object_at t' (j * n)) (sym wide) ∙ first_object t' j s (rw wide shaped.positive) made.first;
      room = none_object t (j * size) (free_tile t (j * size) (ap (kind_of t) low_at ∙ can.free j (omega arith) can.below));
      gone = none_object t' (k * size) (made.others (k * size) (λ q. differ (q ∙ ap (λ (n : ℕ). j * n) rel.size))
          ∙ rel.gone (k * size) (omega (arith, old_at)) (omega (arith, old_at)));
      others = others;
      first = made.first;
      later = made.later;
      free = λ q low high. made.kinds_same q (inr low) ∙ elim (cases_lt q k) [
        | inl b ↦ rel.kinds_same q (inl b) ∙ can.free q (omega arith) b
        | inr b ↦ rel.free q b high
      ];
      below = λ q b. made.kinds_same q (inl b) ∙ rel.kinds_same q (inl (omega arith));
      above = λ q b. made.kinds_same q (inr (omega arith)) ∙ rel.kinds_same q (inr b);
      same = λ q out. elim out [
        | inl b ↦ made.same q (inl b) ∙ rel.same q (inl (omega arith))
        | inr b ↦ made.same q (inr (omega arith)) ∙ rel.same q (inr b)
      ];
      unmoved = λ none. made.unmoved (rel.unmoved none);
    })

object_same : (t t' : Table) (a : ℕ) → tile_in t' a ≡ tile_in t a → object_at t a ≡ object_at t' a
unfolding object_at
object_same t t' a e = ap tile_object (sym e)

-- each object in an ordinary region is still at most half a region large
pub halves_moved : (t t' : Table) (k j : ℕ) (s : Stored) → CanMove t k j → 0 < t.words_per_region → MovesRun t t' k j s → AreHalves t
    → AreHalves t'
halves_moved t t' k j s can z m halves a object is ordinary =
    let q : ℕ = a / t'.words_per_region in
    let below = can.below in
    let at : a / t'.words_per_region ≡ a / t.words_per_region = ap (λ (n : ℕ). a / n) m.size in
    let moved : a ≢ j * t.words_per_region = λ e.
    let here : a / t'.words_per_region ≡ j = at ∙ ap (λ (n : ℕ). n / t.words_per_region) e ∙ region_bottom j t.words_per_region z in
    let no : kinds.Ordinary ≡ kinds.First = sym ordinary ∙ ap (kind_of t') here ∙ kind_at t' j (First s) m.first in
    absurd cc in
    let left : a ≢ k * t.words_per_region = λ e.
    let no : None ≡ Some object = sym m.gone ∙ ap (object_at t') (sym e) ∙ is in
    absurd cc in
    let same : object_at t a ≡ Some object = object_same t t' a (m.others a left moved) ∙ is in
    let kind : kind_of t (a / t.words_per_region) ≡ kinds.Ordinary = was (a / t.words_per_region) (ap (kind_of t') (sym at) ∙ ordinary) in
    subst (λ (n : ℕ). 2 * tile_size (Object object) ≤ n) (sym m.size) (halves a object same kind)
  where
    -- an ordinary region lies outside those of the run, the old and the new
    was : (q : ℕ) → kind_of t' q ≡ kinds.Ordinary → kind_of t q ≡ kinds.Ordinary
    was q o = elim (cases_lt q j) [
      | inl b ↦ sym (m.below q b) ∙ o
      | inr b ↦ elim (cases_lt q (k + run_length t k)) [
        | inr p ↦ sym (m.above q p) ∙ o
        | inl p ↦ absurd (elim (cases_lt q (j + run_length t k)) [
          | inr f ↦ (let no : kinds.Free ≡ kinds.Ordinary = sym (m.free q f p) ∙ o in cc)
          | inl f ↦ elim (cases_eq q j) [
            | inl e ↦ (let no : kinds.First ≡ kinds.Ordinary = sym (ap (kind_of t') e ∙ kind_at t' j (First s) m.first) ∙ o in cc)
            | inr n ↦ (let no : kinds.Rest ≡ kinds.Ordinary = sym (m.later q (let d = can.below in omega arith) f) ∙ o in cc)
          ]
        ])
      ]
    ]
