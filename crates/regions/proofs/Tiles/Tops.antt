-- How many words of a region are handed out, whatever its kind.
use Rattle.regions.proofs.Common.{◌≡◌, ℕ, ◌*◌, ◌<◌, ◌≤◌, min, List, length, drop, get_or, refl, sym, ◌∙◌, ap, subst, arith, row_fits}
use Rattle.regions.proofs.Common.{Stored, header_of, get_or-drop, Object, tile_size, Region, Free, First, Rest, Table, region_used}
use Rattle.regions.proofs.Common.{nth_region, used_of, object_size, sizes_in, first_stored, IsRow, table_of, IsTable, free_row, Row, Kind}
use Rattle.regions.specs.declared.row.Kind.TheVariants as kinds
use Rattle.regions.proofs.Rows.RowLemmas.{start_at}
use Rattle.regions.proofs.Tiles.Making.{known, kind_is, top_is, IsTop}
use Rattle.regions.proofs.Tiles.ShapedMade.{first_words, shaped_of}

pub top_all : (size : ℕ) (words : List ℕ) (rows : List Row) (t : Table) (k : ℕ) → IsTable size words rows → table_of size words rows ≡ t
    → k < length t.regions → IsTop size words rows t k
unfolding used_of
top_all size words rows t k g e h = go (get_or rows k free_row).kind refl
  where
    row : Row
    row = get_or rows k free_row

    region : (r : Region) → nth_region t k ≡ r → row.used ≡ region_used size r → row.used ≤ size → IsTop size words rows t k
    region r f used le =
        let n = known size words rows t k e h in
        record {
          used_is = used ∙ sym (ap (region_used size) f) ∙ ap (λ (m : ℕ). region_used m (nth_region t k)) n.size_is;
          used_le = le;
          room = rw g.covers (row_fits k size (length rows) size n.in_rows (omega arith));
        }

    start : (kind : Kind) → row.kind ≡ kind → (kind ≡ kinds.Rest → ⊥) → IsRow (sizes_in words) size (drop (k * size) words) row.used kind
    start kind q other =
        let n = known size words rows t k e h in
        let st = start_at (sizes_in words) size rows k (k * size) 0 words free_row refl n.in_rows g.rows_right (λ z. other (sym q ∙ z)) in
        subst (λ (kind : Kind). IsRow (sizes_in words) size (drop (k * size) words) row.used kind) q st.0.row_is

    go : (kind : Kind) → row.kind ≡ kind → IsTop size words rows t k
    go kinds.Ordinary q = top_is size words rows t k g e h (kind_is size words rows t k (known size words rows t k e h) ∙ q)
    go kinds.Free q =
        let n = known size words rows t k e h in
        let zero_is : row.used ≡ 0 = start kinds.Free q (λ z. cc) in
        region Free (n.region_is ∙ rw q refl) zero_is (omega arith)
    go kinds.First q =
        let n = known size words rows t k e h in
        let s : Stored = first_stored (drop (k * size) words) in
        let is : nth_region t k ≡ First s = n.region_is ∙ rw q refl in
        let r = start kinds.First q (λ z. cc) in
        let long = first_words size words rows t k s g e is in
        let word : get_or (drop (k * size) words) 0 0 ≡ get_or words (k * size) 0 =
        get_or-drop (k * size) words 0 0 ∙ ap (λ (n : ℕ). get_or words n 0) (omega arith) in
        let used : row.used ≡ min size (tile_size (Object s)) =
        r.1 ∙ ap (λ (w : ℕ). min size (object_size (header_of w))) word ∙ ap (min size) long.0 in
        region (First s) is used (omega (arith, used))
    go kinds.Rest q =
        let n = known size words rows t k e h in
        let is : nth_region t k ≡ Rest row.used = n.region_is ∙ rw q refl in
        let shape = shaped_of size words rows t g e in
        let l = shape.later k row.used is in
        region (Rest row.used) is refl (omega (arith, l.words, n.size_is))
