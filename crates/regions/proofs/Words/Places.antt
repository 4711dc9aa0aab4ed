-- Where a tile of the table lies in the words, at any sizes of moved objects.
use Rattle.regions.proofs.Common.{◌≡◌, ◌+◌, ◌-◌, ◌*◌, ◌/◌, ◌%◌, ◌<◌, ◌≤◌, ◌⊎◌, ◌∷◌, ◌++◌, ◌∙◌, ℕ, zero, suc, Option, Some, None, List, []}
use Rattle.regions.proofs.Common.{length, take, drop, get_or, refl, sym, ap, subst, arith, inl, inr, add-zero, length-append, length-take}
use Rattle.regions.proofs.Common.{length-drop, length-map, drop-append-le, drop-drop, take-append-drop, get_or-drop, cases_lt, Header}
use Rattle.regions.proofs.Common.{header_of, Stored, Tile, Object, tile_size, tile_at, stored_of, tile_by, size_by, tiles, IsTiled, Table}
use Rattle.regions.proofs.Common.{region_tile, region_at, tile_in, object_at, object_size, stored_by, first_stored, region_by}
use Rattle.regions.proofs.Common.{IsObjectHeader, IsRow, left_by, AreRows, free_row, table_by, IsTableBy, IsTable, sizes_in, Row, Kind}
use Rattle.heap_words.specs.declared.header.Header.TheVariants as headers
use Rattle.heap_words.specs.declared.header.ObjectCounts.{ObjectCounts}
use Rattle.heap_words.specs.Contents.{counts_of, counted_size}
use Rattle.regions.specs.Tiles.{IsTileHeader}
use Rattle.regions.proofs.Words.Counts.{counted, counts_in, counted_tile}
use Rattle.regions.proofs.Tiles.Laws.{object_tile}
use Rattle.regions.proofs.Words.Parse.{skip_le, first_tile, tile_at-tiles, stored_of-append}
use Rattle.regions.proofs.Rows.RowLemmas.{regions-at, regions-past, start_at, left_le}
use Rattle.regions.specs.declared.row.Kind.TheVariants as kinds

pub table_right : {size : ℕ} {words : List ℕ} {rows : List Row} → IsTable size words rows → IsTableBy (sizes_in words) size words rows
table_right g = record { region_size = g.region_size; covers = g.covers; small = g.small; rows_right = g.rows_right }

-- a word of an object
pub record IsInObject (t : Table) (x place : ℕ) : Type 0 where
  pub object : Stored
  pub is : object_at t x ≡ Some object
  pub below : place < x + tile_size (Object object)

-- a tile in an ordinary region
pub record InOrdinary (f : ℕ → ℕ) (size : ℕ) (words : List ℕ) (rows : List Row) (x : ℕ) (t : Tile) : Type 0 where
  pub known : x / size < length rows
  pub kind_is : (get_or rows (x / size) free_row).kind ≡ kinds.Ordinary
  pub tile_is : tile_at (x % size) (tiles f 0 (take (get_or rows (x / size) free_row).used (drop (x / size * size) words))) ≡ Some t

-- the one tile of a run
pub record InFirst (f : ℕ → ℕ) (size : ℕ) (words : List ℕ) (rows : List Row) (x : ℕ) (t : Tile) : Type 0 where
  pub known : x / size < length rows
  pub kind_is : (get_or rows (x / size) free_row).kind ≡ kinds.First
  pub at_bottom : x % size ≡ 0
  pub tile_is : t ≡ Object (first_stored (drop (x / size * size) words))

by_kind : (sizes : ℕ → ℕ) (ws : List ℕ) (used : ℕ) (kind : Kind) (o : ℕ) (t : Tile) → region_tile (region_by sizes ws used kind) o ≡ Some t
    → ((kind ≡ kinds.Ordinary) × (tile_at o (tiles sizes 0 (take used ws)) ≡ Some t))
    ⊎ ((kind ≡ kinds.First) × (o ≡ 0) × (t ≡ Object (first_stored ws)))
by_kind sizes ws used kinds.Ordinary o t h = inl (refl, h)
by_kind sizes ws used kinds.First zero t h = inr (refl, refl, cc)
by_kind sizes ws used _ _ t h = cc

pub place_of : (f : ℕ → ℕ) (size : ℕ) (words : List ℕ) (rows : List Row) (x : ℕ) (t : Tile)
    → tile_in (table_by f size words rows) x ≡ Some t → InOrdinary f size words rows x t ⊎ InFirst f size words rows x t
unfolding tile_in region_at
place_of f size words rows x t h =
    elim (cases_lt (x / size) (length rows)) [
      | inl p ↦
          let e = regions-at f size rows (x / size) (x / size * size) words free_row refl p in
          elim (by_kind _ _ _ _ _ _ (rw e at h)) [
            | inl q ↦ inl (record { known = p; kind_is = q.0; tile_is = q.1 })
            | inr q ↦ inr (record { known = p; kind_is = q.0; at_bottom = q.1; tile_is = q.2 })
          ]
      | inr p ↦ absurd (let e = regions-past f size rows (x / size) words p in let f = rw e at h in cc)
    ]

pub object_place : (f : ℕ → ℕ) (size : ℕ) (words : List ℕ) (rows : List Row) (x : ℕ) (s : Stored)
    → object_at (table_by f size words rows) x ≡ Some s → InOrdinary f size words rows x (Object s) ⊎ InFirst f size words rows x (Object s)
unfolding object_at
object_place f size words rows x s h = place_of f size words rows x (Object s) (object_tile _ s h)

-- an object is its words: it lies in the table, and its header says so
pub record IsIn (words : List ℕ) (x : ℕ) (s : Stored) : Type 0 where
  pub header_is : counts_of (header_of (get_or words x 0)) ≡ Some (counts_in s)
  pub head : IsTileHeader (header_of (get_or words x 0))
  pub stored_is : s ≡ stored_of (length s.pointers) (length s.weaks) (length s.held) (length s.values) (drop (x + 1) words)
  pub fits : x + 2 + length s.pointers + (length s.weaks + length s.held) + length s.values ≤ length words

-- what the words after a header say is an object, and the header counts it
pub record IsLive (o : Option Header) (ws : List ℕ) (s : Stored) : Type 0 where
  pub counts : counts_of o ≡ Some (counts_in s)
  pub stored : s ≡ stored_of (length s.pointers) (length s.weaks) (length s.held) (length s.values) ws

-- the object of so many words has so many fields
pub counts_are : (p weak held d : ℕ) (ws : List ℕ) → 1 + p + (weak + held) + d ≤ length ws
    → counts_in (stored_of p weak held d ws) ≡ counted p weak held d
counts_are p weak held d ws f =
    let ep : length (stored_of p weak held d ws).pointers ≡ p = simp (length-map, length-take, length-drop) (omega arith) in
    let ew : length (stored_of p weak held d ws).weaks ≡ weak = simp (length-map, length-take, length-drop) (omega arith) in
    let eh : length (stored_of p weak held d ws).held ≡ held = simp (length-map, length-take, length-drop) (omega arith) in
    let ed : length (stored_of p weak held d ws).values ≡ d = simp (length-take, length-drop) (omega arith) in
    cc

counted_again : (s : Stored) (p weak held d : ℕ) (ws : List ℕ) → 1 + p + (weak + held) + d ≤ length ws → stored_of p weak held d ws ≡ s
    → (counts_in s ≡ counted p weak held d) × (s ≡ stored_of (length s.pointers) (length s.weaks) (length s.held) (length s.values) ws)
counted_again s p weak held d ws f e =
    let are : counts_in s ≡ counted p weak held d = ap counts_in (sym e) ∙ counts_are p weak held d ws f in
    (are, sym e ∙ ap (λ (c : ObjectCounts). stored_of c.pointers c.weaks c.held c.values ws) (sym are))

pub live_by : (sizes : ℕ → ℕ) (o : Option Header) (ws : List ℕ) (s : Stored) → IsTileHeader o → size_by sizes o - 1 ≤ length ws
    → tile_by sizes ws o ≡ Object s → IsLive o ws s
live_by sizes (Some (headers.Object p weak d)) ws s t f h =
    let e : stored_of p weak 0 d ws ≡ s = cc in
    let again = counted_again s p weak 0 d ws (omega arith) e in
    record { counts = ap Some (sym again.0); stored = again.1 }
live_by sizes (Some (headers.Pairs p n d)) ws s t f h =
    let e : stored_of p n n d ws ≡ s = cc in
    let again = counted_again s p n n d ws (omega arith) e in
    record { counts = ap Some (sym again.0); stored = again.1 }
live_by sizes _ ws s t f h = cc

pub front_word : (words : List ℕ) (x w : ℕ) (v : List ℕ) → drop x words ≡ w ∷ v → get_or words x 0 ≡ w
front_word words x w v e =
    let f : get_or words (x + 0) 0 ≡ w = sym (get_or-drop x words 0 0) ∙ ap (λ (ws : List ℕ). get_or ws 0 0) e in
    rw add-zero at f

live_in : (sizes : ℕ → ℕ) (v u words : List ℕ) (x : ℕ) (s : Stored) → drop x words ≡ v ++ u → IsTiled sizes 0 v
    → first_tile sizes v ≡ Object s → IsIn words x s
live_in sizes [] u words x s e t h = cc
live_in sizes (w ∷ v) u words x s e t h =
    let fits : size_by sizes (header_of w) - 1 ≤ length v = skip_le sizes _ v t.2 in
    let l = live_by sizes (header_of w) v s t.0 fits h in
    let word : get_or words x 0 ≡ w = front_word words x w (v ++ u) e in
    let behind : drop (x + 1) words ≡ v ++ u = sym (drop-drop 1 x words) ∙ ap (λ (ws : List ℕ). drop 1 ws) e in
    let size : size_by sizes (header_of w) ≡ 2 + length s.pointers + (length s.weaks + length s.held) + length s.values =
    (counted_tile sizes (header_of w) v (counts_in s) l.counts).1 in
    let whole : length (drop x words) ≡ suc (length v) + length u = rw e (length-append (w ∷ v) u) in
    record {
      header_is = rw word l.counts;
      head = rw word t.0;
      stored_is = l.stored ∙ sym (stored_of-append _ _ _ _ v u (omega arith))
          ∙ ap (stored_of (length s.pointers) (length s.weaks) (length s.held) (length s.values)) (sym behind);
      fits = omega (arith, length-drop x words);
    }

pub split_at : (words : List ℕ) (n o x used : ℕ) → n + o ≡ x → o ≤ length (take used (drop n words))
    → drop x words ≡ drop o (take used (drop n words)) ++ drop used (drop n words)
split_at words n o x used e h =
    sym (ap (λ m. drop m words) e) ∙ sym (drop-drop o n words)
    ∙ ap (drop o) (sym (take-append-drop used (drop n words))) ∙ drop-append-le o _ _ h

in_ordinary : (f : ℕ → ℕ) (size : ℕ) (words : List ℕ) (rows : List Row) (x : ℕ) (s : Stored) → IsTableBy f size words rows
    → InOrdinary f size words rows x (Object s) → IsIn words x s
in_ordinary f size words rows x s g q =
    let row : Row = get_or rows (x / size) free_row in
    let n : ℕ = x / size * size in
    let o : ℕ = x % size in
    let is_at : n + o ≡ x = omega (arith, g.region_size.0) in
    let st = start_at f size rows (x / size) n 0 words free_row refl q.known g.rows_right
    (λ e. let c : kinds.Ordinary ≡ kinds.Rest = sym q.kind_is ∙ e in cc) in
    let right : IsRow f size (drop n words) row.used kinds.Ordinary =
    subst (λ (kind : Kind). IsRow f size (drop n words) row.used kind) q.kind_is st.0.row_is in
    let t = tile_at-tiles f 0 o o (take row.used (drop n words)) (Object s) right.1 (omega arith) q.tile_is in
    let rest : drop x words ≡ drop o (take row.used (drop n words)) ++ drop row.used (drop n words) =
    split_at words n o x row.used is_at (omega (arith, t.1)) in
    live_in f (drop o (take row.used (drop n words))) (drop row.used (drop n words)) words x s rest t.2 t.0

room : (m k l size n : ℕ) → l ≡ m + suc k → n ≡ l * size → n ≡ m * size + size + k * size
room m k l size n e f = f ∙ rw e (omega arith)

first_by : (o : Option Header) (ws : List ℕ) (s : Stored) → IsObjectHeader o → object_size o - 1 ≤ length ws → stored_by ws o ≡ s
    → IsLive o ws s
first_by (Some (headers.Object p weak d)) ws s i f h = live_by (λ _. 0) (Some (headers.Object p weak d)) ws s tt f (ap Object h)
first_by (Some (headers.Pairs p n d)) ws s i f h = live_by (λ _. 0) (Some (headers.Pairs p n d)) ws s i f (ap Object h)
first_by _ ws s i f h = absurd i

object_size_pos : (o : Option Header) → 0 < object_size o
object_size_pos None = omega arith
object_size_pos (Some (headers.Object p weak d)) = omega arith
object_size_pos (Some (headers.Pairs p n d)) = omega arith
object_size_pos (Some (headers.Filler n)) = omega arith
object_size_pos (Some (headers.Forwarded to)) = omega arith

object_tile_header : (o : Option Header) → IsObjectHeader o → IsTileHeader o
object_tile_header (Some (headers.Object p weak d)) i = tt
object_tile_header (Some (headers.Pairs p n d)) i = i
object_tile_header _ i = absurd i

first_in : (v words : List ℕ) (x : ℕ) (s : Stored) → drop x words ≡ v → IsObjectHeader (header_of (get_or v 0 0)) → first_stored v ≡ s
    → object_size (header_of (get_or v 0 0)) ≤ length v → IsIn words x s
first_in [] words x s e i h f = absurd (omega (arith, object_size_pos (header_of 0)))
first_in (w ∷ v) words x s e i h f =
    let l = first_by (header_of w) v s i (omega arith) h in
    let word : get_or words x 0 ≡ w = front_word words x w v e in
    let behind : drop (x + 1) words ≡ v = sym (drop-drop 1 x words) ∙ ap (λ (ws : List ℕ). drop 1 ws) e in
    let size : object_size (header_of w) ≡ 2 + length s.pointers + (length s.weaks + length s.held) + length s.values =
    ap counted_size l.counts in
    let whole : length (drop x words) ≡ suc (length v) = ap (λ (ws : List ℕ). length ws) e in
    record {
      header_is = rw word l.counts;
      head = rw word (object_tile_header (header_of w) i);
      stored_is = l.stored ∙ sym (ap (stored_of (length s.pointers) (length s.weaks) (length s.held) (length s.values)) behind);
      fits = omega (arith, length-drop x words);
    }

pub in_first : (f : ℕ → ℕ) (size : ℕ) (words : List ℕ) (rows : List Row) (x : ℕ) (s : Stored) → IsTableBy f size words rows
    → InFirst f size words rows x (Object s) → IsIn words x s
in_first f size words rows x s g q =
    let k : ℕ = x / size in
    let n : ℕ = x / size * size in
    let is_at : n ≡ x = omega (arith, g.region_size.0, q.at_bottom) in
    let st =
    start_at f size rows k n 0 words free_row refl q.known g.rows_right (λ e. let c : kinds.First ≡ kinds.Rest = sym q.kind_is ∙ e in cc) in
    let right = subst (λ (kind : Kind). IsRow f size (drop n words) (get_or rows k free_row).used kind) q.kind_is st.0.row_is in
    let behind = subst (λ (kind : Kind).
    AreRows f size (left_by size (drop n words) kind) (drop size (drop n words)) (drop (suc k) rows)) q.kind_is st.0.rest_are in
    let ends = left_le f size _ _ _ behind in
    let all =
    room (length (drop (suc k) rows)) k (length rows) size (length words) (omega (arith, length-drop (suc k) rows, q.known)) g.covers in
    first_in (drop n words) words x s (ap (λ m. drop m words) (sym is_at)) right.0 (cc) (omega (arith, length-drop n words))

pub object_is_in : (f : ℕ → ℕ) (size : ℕ) (words : List ℕ) (rows : List Row) (x : ℕ) (s : Stored) → IsTableBy f size words rows
    → object_at (table_by f size words rows) x ≡ Some s → IsIn words x s
object_is_in f size words rows x s g h = elim (object_place f size words rows x s h) [
  | inl q ↦ in_ordinary f size words rows x s g q
  | inr q ↦ in_first f size words rows x s g q
]
