-- A tile of an ordinary region gives way to others.
-- the words of a tile are others, which say these tiles
use Rattle.regions.proofs.Common.{header_of, header_word, HasObject, HasTargets, new_object, Free, Ordinary, Table, region_at, with_region}
use Rattle.regions.proofs.Common.{EachForwarded, EachForwardedIn, object_at, tile_in, tile_object, region_replaced, replace_tile, remainder}
use Rattle.regions.proofs.Common.{AllPositive, sizes_in, first_stored, region_of, regions_of, IsRow, table_of, IsTable, free_row}
use Rattle.regions.proofs.Common.{put_remainder, Tile, Object, Filler, tile_size, total_size, tiles, IsTiled, put, Kind, Row, ◌≡◌, ◌≢◌, ◌+◌}
use Rattle.regions.proofs.Common.{◌-◌, ◌*◌, ◌/◌, ◌%◌, ◌^◌, ◌<◌, ◌≤◌, ◌∷◌, ◌++◌, ◌∙◌, ℕ, zero, suc, Some, None, List, [], length, take, drop}
use Rattle.regions.proofs.Common.{get_or, refl, sym, ap, subst, arith, inl, inr, replicate, length-append, length-take, length-drop}
use Rattle.regions.proofs.Common.{append_assoc, length-replicate, set-get_or, row_fits, set}
use Rattle.heap_words.specs.declared.header.Header.TheVariants as headers
use Rattle.heap_words.specs.Contents.{counts_of}
use Rattle.regions.proofs.Words.Fields.{IsOne, one_object, IsTiled_none, tiles_none}
use Rattle.regions.proofs.Tiles.Making.{targets_of, tiles_total, plain_from}
use Rattle.regions.proofs.Words.Parse.{tile_at-tiles, tiles-append, IsTiled-append, tiles-put, IsTiled-put}
use Rattle.regions.proofs.Words.Places.{InOrdinary, place_of}
use Rattle.regions.proofs.Rows.RowLemmas.{regions-at, start_at}
use Rattle.regions.proofs.Words.Sizes.{EachForwardedIn-imp}
use Rattle.regions.proofs.Tiles.Targets.{IsWrittenTable}
use Rattle.regions.proofs.Tiles.Kept.{IsKept, replace_kept, EachForwardedIn-both}
use Rattle.regions.proofs.Walks.WalkMade.{tiles_positive}
use Rattle.regions.proofs.Words.Written.{region_changed, IsChange}
use Rattle.heap_words.proofs.Codec.{header_of-word}
use Rattle.regions.proofs.Words.Puts.{put_is, put_drop, put_take, put_extend}
use Rattle.heap_words.proofs.Blocks.{put_more}
use Rattle.regions.proofs.Tiles.Pushes.{change_of, IsPush}
use Rattle.regions.proofs.Words.Fresh.{fresh, stored_fresh}
use Rattle.regions.proofs.Words.Counts.{counted}
use Rattle.regions.specs.Tiles.{IsTileHeader}
use Rattle.regions.specs.Table.{new_pairs}
use Rattle.regions.specs.declared.row.Kind.TheVariants as kinds
use Rattle.std.proofs.lemmas.List.{append-nil}

pub record IsBlock (sizes : ℕ → ℕ) (block : List ℕ) (m : ℕ) (new : List Tile) : Type 0 where
  pub length_is : length block ≡ m
  pub tiled : IsTiled sizes 0 block
  pub tiles_are : tiles sizes 0 block ≡ new

content_put : (words : List ℕ) (n o x used : ℕ) (block : List ℕ) → n + o ≡ x → n ≤ length words → o + length block ≤ used
    → used ≤ length (drop n words) → take used (drop n (put words x block)) ≡ put (take used (drop n words)) o block
content_put words n o x used block e h room long =
    ap (λ y. take used (drop n (put words y block))) (sym e) ∙ ap (take used) (put_drop words n o block h)
    ∙ put_take (drop n words) o used block room long

replace_tile-is : (t : Table) (size x : ℕ) (new : List Tile) → size ≡ t.words_per_region
    → replace_tile t x new ≡ with_region t (x / size) (region_replaced (get_or t.regions (x / size) Free) (x % size) new)
unfolding replace_tile region_at
replace_tile-is t size x new e = rw e refl

pub tile_replaced : (size : ℕ) (words : List ℕ) (rows : List Row) (t : Table) (x : ℕ) (tile : Tile) (block : List ℕ) (new : List Tile)
    → IsTable size words rows → table_of size words rows ≡ t → InOrdinary (sizes_in words) size words rows x tile
    → IsBlock (sizes_in words) block (tile_size tile) new → tile_in t x ≡ Some tile → EachForwardedIn (λ to. to ≢ x) t.regions
    → EachForwarded (λ to. HasObject t to × (to ≢ x)) new
    → IsWrittenTable size (put words x block) rows (replace_tile t x new) × (x + tile_size tile ≤ length words)
tile_replaced size words rows t x tile block new g e q b there spared fresh =
    let f : (ℕ → ℕ) = sizes_in words in
    let k : ℕ = x / size in
    let n : ℕ = x / size * size in
    let o : ℕ = x % size in
    let row : Row = get_or rows k free_row in
    let is_at : n + o ≡ x = omega (arith, g.region_size.0) in
    let fits : n + size ≤ length words = rw g.covers (row_fits k size (length rows) size q.known (omega arith)) in
    let st = start_at f size rows k n 0 words free_row refl q.known g.rows_right
    (λ e. let f : kinds.Ordinary ≡ kinds.Rest = sym q.kind_is ∙ e in cc) in
    let right : IsRow f size (drop n words) row.used kinds.Ordinary =
    subst (λ (kind : Kind). IsRow f size (drop n words) row.used kind) q.kind_is st.0.row_is in
    let content : List ℕ = take row.used (drop n words) in
    let here = tile_at-tiles f 0 o o content tile right.1 (omega arith) q.tile_is in
    let len : length content ≡ row.used = simp (length-take, length-drop) (omega (arith, right.0)) in
    let room : o + length block ≤ row.used = omega (arith, here.1, b.length_is) in
    let x_is = put_is words x block (omega (arith, right.0)) in
    let long : row.used ≤ length (drop n words) = simp length-drop (omega (arith, right.0)) in
    let content_is : take row.used (drop n (put words x block)) ≡ put content o block =
    content_put words n o x row.used block is_at (omega arith) room long in
    let right' : IsRow f size (drop n (put words x block)) row.used kinds.Ordinary =
    (right.0, rw content_is (IsTiled-put f 0 o o content block tile right.1 (omega arith) q.tile_is b.length_is b.tiled)) in
    let right'' : IsRow f size (drop n (put words x block)) row.used row.kind = rw q.kind_is right' in
    let old : get_or (regions_of f size words rows) k Free ≡ Ordinary (tiles f 0 content) =
    regions-at f size rows k n words free_row refl q.known ∙ rw q.kind_is refl in
    let region_is : region_of f (drop n (put words x block)) row ≡ region_replaced (get_or (regions_of f size words rows) k Free) o new =
    rw (q.kind_is, old, content_is)
    (ap Ordinary (tiles-put f 0 o o content block tile right.1 (omega arith) q.tile_is b.length_is b.tiled ∙ rw b.tiles_are refl)) in
    let push : IsPush words (put words x block) (n + o) (length block) =
    rw is_at (record { length_is = x_is.length_is; before = x_is.before; after = x_is.after }) in
    let change : IsChange size words (put words x block) n =
    change_of size n o (length block) words (put words x block) push (omega (arith, right.0)) in
    let all = EachForwardedIn-both (HasObject t) (λ to. to ≢ x) t.regions (targets_of size words rows t g e) spared in
    let size_is : size ≡ t.words_per_region = ap (λ (u : Table). u.words_per_region) e in
    let positive : AllPositive new = subst (λ (ts : List Tile). AllPositive ts) b.tiles_are (tiles_positive f 0 block b.tiled) in
    let total : total_size new ≡ tile_size tile =
    sym (ap total_size b.tiles_are) ∙ (let n = tiles_total f 0 block b.tiled in omega (arith, b.length_is)) in
    let kept = replace_kept t x tile new (rw (← size_is) g.region_size.0) there positive total all fresh in
    let u : Table = with_region t k (region_replaced (get_or t.regions k Free) o new) in
    let is : replace_tile t x new ≡ u = replace_tile-is t size x new size_is in
    let kept' : EachForwardedIn (IsKept t u) u.regions = subst (λ (v : Table). EachForwardedIn (IsKept t v) v.regions) is kept in
    let region_is' : region_of f (drop n (put words x block)) row ≡ region_replaced (get_or t.regions k Free) o new =
    region_is ∙ ap (λ (u : Table). region_replaced (get_or u.regions k Free) o new) e in
    let w = region_changed size words (put words x block) rows t k row _ g e q.known (plain_from _ q.kind_is)
    (plain_from _ q.kind_is) change right'' region_is' kept' in
    let w' = rw (set-get_or rows k free_row) at w in
    (subst (λ (v : Table). IsWrittenTable size (put words x block) rows v) (sym is) w', omega (arith, right.0, here.1))

pub one_filler : (sizes : ℕ → ℕ) (w n : ℕ) (body : List ℕ) → header_of w ≡ Some (headers.Filler (suc n)) → length body ≡ n
    → IsOne sizes (w ∷ body) (Filler (suc n))
one_filler sizes w n body e l =
    let m : length body ≡ suc n - 1 = omega arith in
    record {
      tiles_are = rw (e, tiles_none sizes (suc n - 1) body m) refl;
      tiled = rw e (tt, omega arith, IsTiled_none sizes (suc n - 1) body m);
    }

-- an object at the start of a filler, the rest of which is a filler again
pub record IsFilled (sizes : ℕ → ℕ) (words words' : List ℕ) (x m : ℕ) (new : List Tile) : Type 0 where
  pub block : List ℕ
  pub is_block : IsBlock sizes block m new
  pub words_are : words' ≡ put words x block

-- what is left of a filler behind a block, unless that has no words
pub with_rest : (sizes : ℕ → ℕ) (words words' : List ℕ) (x m rest : ℕ) (new : List Tile) → IsFilled sizes words words' x m new
    → x + m + rest ≤ length words → rest < 2 ^ 24
    → IsFilled sizes words (put_remainder words' (x + m) rest) x (m + rest) (new ++ remainder rest)
with_rest sizes words words' x m zero new f l small = record {
  block = f.block;
  is_block = record {
    length_is = f.is_block.length_is ∙ omega arith;
    tiled = f.is_block.tiled;
    tiles_are = f.is_block.tiles_are ∙ sym (append-nil new);
  };
  words_are = f.words_are;
}
with_rest sizes words words' x m (suc r) new f l small =
    let header : ℕ = header_word (headers.Filler (suc r)) in
    let more = put_more words x m header f.block f.is_block.length_is (omega arith) in
    let len' : length (f.block ++ header ∷ []) ≡ m + 1 = length-append f.block (header ∷ []) ∙ omega (arith, f.is_block.length_is) in
    let stale : List ℕ = take r (drop (x + length (f.block ++ header ∷ [])) words) in
    let len'' : length stale ≡ r = simp (length-take, length-drop) (omega arith) in
    let extend = put_extend words x r (f.block ++ header ∷ []) (omega arith) in
    let two = one_filler sizes header r stale (header_of-word (headers.Filler (suc r)) (omega arith, small)) len'' in
    let whole : (f.block ++ header ∷ []) ++ stale ≡ f.block ++ (header ∷ stale) = append_assoc f.block (header ∷ []) stale in
    record {
      block = f.block ++ (header ∷ stale);
      is_block = record {
        length_is = length-append f.block (header ∷ stale) ∙ omega (arith, f.is_block.length_is);
        tiled = IsTiled-append sizes 0 f.block (header ∷ stale) f.is_block.tiled two.tiled;
        tiles_are = tiles-append sizes 0 f.block (header ∷ stale) f.is_block.tiled
            ∙ ap (λ (ts : List Tile). ts ++ tiles sizes 0 (header ∷ stale)) f.is_block.tiles_are
            ∙ ap (λ (ts : List Tile). new ++ ts) two.tiles_are;
      };
      words_are = ap (λ (ws : List ℕ). set ws (x + m) header) f.words_are ∙ more ∙ extend ∙ ap (put words x) whole;
    }

-- an object of so many of each at the start of a filler, of which z words are its fields and its data
pub filled : (sizes : ℕ → ℕ) (words : List ℕ) (x w name p weak held d z rest : ℕ) → IsTileHeader (header_of w)
    → counts_of (header_of w) ≡ Some (counted p weak held d) → z ≡ p + (weak + held) + d → x + (2 + z) + rest ≤ length words → rest < 2 ^ 24
    → IsFilled sizes words (put_remainder (put words x (w ∷ name ∷ replicate z 0)) (x + (2 + z)) rest) x
    (2 + z + rest) (Object (fresh name p weak held d) ∷ remainder rest)
filled sizes words x w name p weak held d z rest head counts q l small =
    let len : length (w ∷ name ∷ replicate z 0) ≡ 2 + z = omega (arith, length-replicate {A = ℕ} z 0) in
    let one = one_object sizes w p weak held d (name ∷ replicate z 0) head counts (omega (arith, q)) in
    let are = one.tiles_are ∙ ap (λ s. Object s ∷ []) (stored_fresh name p weak held d z q) in
    with_rest sizes words (put words x (w ∷ name ∷ replicate z 0)) x (2 + z) rest
    (Object (fresh name p weak held d) ∷ []) (record {
      block = w ∷ name ∷ replicate z 0;
      is_block = record { length_is = len; tiled = one.tiled; tiles_are = are };
      words_are = refl;
    }) l small

pub filler_quiet : (P : ℕ → Type 0) (rest : ℕ) → EachForwarded P (remainder rest)
filler_quiet P zero = tt
filler_quiet P (suc n) = tt

-- no moved tile leads to what is no object
pub spared_filler : (t : Table) (x n : ℕ) → tile_in t x ≡ Some (Filler n) → HasTargets t → EachForwardedIn (λ to. to ≢ x) t.regions
unfolding object_at
spared_filler t x n h g = EachForwardedIn-imp (HasObject t) (λ to. to ≢ x) t.regions away g
  where
    away : (to : ℕ) → HasObject t to → to ≢ x
    away to o q =
        let a : tile_object (tile_in t to) ≡ None = ap (λ y. tile_object (tile_in t y)) q ∙ ap tile_object h in
        let b : tile_object (tile_in t to) ≡ Some o.object = o.is in
        let c : None ≡ Some o.object = sym a ∙ b in
        cc

-- a tile of an ordinary region lies in the words, and is no longer than a region
tile_room : (size : ℕ) (words : List ℕ) (rows : List Row) (x : ℕ) (tile : Tile) → IsTable size words rows
    → InOrdinary (sizes_in words) size words rows x tile → (x + tile_size tile ≤ length words) × (tile_size tile ≤ size)
tile_room size words rows x tile g q =
    let n : ℕ = x / size * size in
    let o : ℕ = x % size in
    let row : Row = get_or rows (x / size) free_row in
    let is_at : n + o ≡ x = omega (arith, g.region_size.0) in
    let fits : n + size ≤ length words = rw g.covers (row_fits (x / size) size (length rows) size q.known (omega arith)) in
    let st = start_at (sizes_in words) size rows (x / size) n 0 words free_row refl q.known g.rows_right
    (λ e. let f : kinds.Ordinary ≡ kinds.Rest = sym q.kind_is ∙ e in cc) in
    let right : IsRow (sizes_in words) size (drop n words) row.used kinds.Ordinary =
    subst (λ (kind : Kind). IsRow (sizes_in words) size (drop n words) row.used kind) q.kind_is st.0.row_is in
    let here = tile_at-tiles (sizes_in words) 0 o o (take row.used (drop n words)) tile right.1 (omega arith) q.tile_is in (
      omega (arith, here.1, length-take row.used (drop n words), right.0),
      omega (arith, here.1, length-take row.used (drop n words), right.0),
    )

pub tile_fits : (size : ℕ) (words : List ℕ) (rows : List Row) (x : ℕ) (tile : Tile) → IsTable size words rows
    → InOrdinary (sizes_in words) size words rows x tile → x + tile_size tile ≤ length words
tile_fits size words rows x tile g q = (tile_room size words rows x tile g q).0

pub tile_short : (size : ℕ) (words : List ℕ) (rows : List Row) (x : ℕ) (tile : Tile) → IsTable size words rows
    → InOrdinary (sizes_in words) size words rows x tile → tile_size tile ≤ size
tile_short size words rows x tile g q = (tile_room size words rows x tile g q).1

-- an object is made in a filler: the words as the steps leave them
pub fresh_filled : (size : ℕ) (words : List ℕ) (rows : List Row) (t : Table) (x w name p weak held d z n at rest more : ℕ)
    (made new : List ℕ) → IsTable size words rows → table_of size words rows ≡ t → tile_in t x ≡ Some (Filler n)
    → IsTileHeader (header_of w) → counts_of (header_of w) ≡ Some (counted p weak held d) → z ≡ p + (weak + held) + d
    → n ≡ 2 + z + rest → made ≡ put words x (w ∷ name ∷ replicate z 0)
    → new ≡ put_remainder made at more → at ≡ x + (2 + z) → more ≡ rest
    → IsWrittenTable size new rows (replace_tile t x (Object (fresh name p weak held d) ∷ remainder rest))
fresh_filled size words rows t x w name p weak held d z n at rest more made new g e h head counts z_is n_is made_is new_is at_is more_is =
    elim (place_of (sizes_in words) size words rows x (Filler n) (ap (λ (u : Table). tile_in u x) e ∙ h)) [
      | inl q ↦
          let fits = tile_fits size words rows x (Filler n) g q in
          let short = tile_short size words rows x (Filler n) g q in
          let f = filled (sizes_in words) words x w name p weak held d z rest head counts z_is (omega (arith, fits, n_is))
          (omega (arith, short, n_is, g.region_size.1)) in
          let b : IsBlock (sizes_in words) f.block n (Object (fresh name p weak held d) ∷ remainder rest) =
          subst (λ (m : ℕ). IsBlock (sizes_in words) f.block m (Object (fresh name p weak held d) ∷ remainder rest)) (sym n_is)
          f.is_block in
          let r = tile_replaced size words rows t x (Filler n) f.block (Object (fresh name p weak held d) ∷ remainder rest) g e q b h
          (spared_filler t x n h (targets_of size words rows t g e)) (filler_quiet _ rest) in
          let words_is : new ≡ put words x f.block = new_is ∙ ap (λ (ws : List ℕ). put_remainder ws at more) made_is
          ∙ ap (λ (a : ℕ). put_remainder (put words x (w ∷ name ∷ replicate z 0)) a more) at_is
          ∙ ap (λ (m : ℕ). put_remainder (put words x (w ∷ name ∷ replicate z 0)) (x + (2 + z)) m) more_is
          ∙ f.words_are in
          subst (λ (ws : List ℕ).
          IsWrittenTable size ws rows (replace_tile t x (Object (fresh name p weak held d) ∷ remainder rest))) (sym words_is) r.0
      | inr q ↦ absurd (let f : Filler n ≡ Object (first_stored (drop (x / size * size) words)) = q.tile_is in cc)
    ]

-- one without pairs
pub filler_filled : (size : ℕ) (words : List ℕ) (rows : List Row) (t : Table) (x name p weak d n at rest more : ℕ) (made new : List ℕ)
    → IsTable size words rows → table_of size words rows ≡ t → tile_in t x ≡ Some (Filler n) → n ≡ 2 + p + weak + d + rest → p < 2 ^ 24
    → weak < 2 ^ 8 → d < 2 ^ 24 → made ≡ put words x (header_word (headers.Object p weak d) ∷ name ∷ replicate (p + weak + d) 0)
    → new ≡ put_remainder made at more → at ≡ x + (2 + p + weak + d) → more ≡ rest
    → IsWrittenTable size new rows (replace_tile t x (Object (new_object name p weak d) ∷ remainder rest))
filler_filled size words rows t x name p weak d n at rest more made new g e h n_is small_p small_w small_d made_is new_is at_is more_is =
    let is = header_of-word (headers.Object p weak d) (small_p, small_w, small_d) in
    fresh_filled size words rows t x (header_word (headers.Object p weak d)) name p weak 0 d (p + weak + d) n at rest more made new g e h
    (rw is tt) (ap counts_of is) (omega arith) (omega (arith, n_is)) made_is new_is (omega (arith, at_is)) more_is

-- and one of pairs
pub pairs_filled : (size : ℕ) (words : List ℕ) (rows : List Row) (t : Table) (x name p m d n at rest more : ℕ) (made new : List ℕ)
    → IsTable size words rows → table_of size words rows ≡ t → tile_in t x ≡ Some (Filler n) → n ≡ 2 + p + (m + m) + d + rest → 0 < m
    → p < 2 ^ 8 → m < 2 ^ 23 → d < 2 ^ 24
    → made ≡ put words x (header_word (headers.Pairs p m d) ∷ name ∷ replicate (p + (m + m) + d) 0)
    → new ≡ put_remainder made at more → at ≡ x + (2 + p + (m + m) + d) → more ≡ rest
    → IsWrittenTable size new rows (replace_tile t x (Object (new_pairs name p m d) ∷ remainder rest))
pairs_filled size words rows t x name p m d n at rest more made new g e h n_is some small_p small_m small_d made_is new_is at_is more_is =
    let is = header_of-word (headers.Pairs p m d) (small_p, small_m, small_d) in
    fresh_filled size words rows t x (header_word (headers.Pairs p m d)) name p m m d (p + (m + m) + d) n at rest more made new g e h
    (rw is some) (ap counts_of is) refl (omega (arith, n_is)) made_is new_is (omega (arith, at_is)) more_is

pub filler_fits : (size : ℕ) (words : List ℕ) (rows : List Row) (t : Table) (x n : ℕ) → IsTable size words rows
    → table_of size words rows ≡ t → tile_in t x ≡ Some (Filler n) → x + n ≤ length words
filler_fits size words rows t x n g e h =
    elim (place_of (sizes_in words) size words rows x (Filler n) (ap (λ (u : Table). tile_in u x) e ∙ h)) [
      | inl q ↦ tile_fits size words rows x (Filler n) g q
      | inr q ↦ absurd (let f : Filler n ≡ Object (first_stored (drop (x / size * size) words)) = q.tile_is in cc)
    ]
