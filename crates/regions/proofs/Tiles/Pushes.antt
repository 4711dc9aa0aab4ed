-- One more tile at a region's top.
-- the change of words that a push makes
use Rattle.regions.proofs.Common.{HasObject, Ordinary, Table, nth_region, used_of, kind_of, EachForwarded, push_tile}
use Rattle.regions.proofs.Common.{region_with_tile, sizes_in, region_of, IsRow, table_of, IsTable, free_row, Tile}
use Rattle.regions.proofs.Common.{tiles, Kind, Row, ◌≡◌, ◌+◌, ◌-◌, ◌*◌, ◌<◌, ◌≤◌, ◌∷◌, ◌++◌, ◌∙◌, ℕ, List, [], length}
use Rattle.regions.proofs.Common.{take, drop, get_or, set, refl, sym, ap, subst, arith, take-take, drop-drop, drop-take}
use Rattle.regions.proofs.Rows.RowLemmas.{start_at}
use Rattle.regions.proofs.Tiles.Targets.{IsWrittenTable}
use Rattle.regions.proofs.Tiles.Kept.{push_kept}
use Rattle.regions.proofs.Words.Written.{region_changed, IsChange}
use Rattle.regions.proofs.Words.Fields.{IsOne}
use Rattle.regions.proofs.Words.Parse.{tiles-append, IsTiled-append}
use Rattle.regions.proofs.Tiles.Making.{targets_of, known, kind_is, top_is, plain_from}
use Rattle.regions.proofs.Words.Puts.{take_add}
use Rattle.regions.specs.declared.row.Kind.TheVariants as kinds

pub record IsPush (words words' : List ℕ) (at m : ℕ) : Type 0 where
  pub length_is : length words' ≡ length words
  pub before : take at words' ≡ take at words
  pub after : drop (at + m) words' ≡ drop (at + m) words

pub change_of : (size n used m : ℕ) (words words' : List ℕ) → IsPush words words' (n + used) m
    → used + m ≤ size → IsChange size words words' n
change_of size n used m words words' c room =
    let le : n ≤ n + used = omega arith in
    let rest : size ≡ used + m + (size - (used + m)) = omega arith in
    let at : n + used + m + (size - (used + m)) ≡ n + size = omega arith in
    record {
      length_is = c.length_is;
      before = sym (take-take n (n + used) words' le) ∙ ap (take n) c.before ∙ take-take n (n + used) words le;
      after = sym (drop-drop (size - (used + m)) (n + used + m) words' ∙ ap (λ j. drop j words') at) ∙ ap (drop (size - (used + m))) c.after
          ∙ (drop-drop (size - (used + m)) (n + used + m) words ∙ ap (λ j. drop j words) at);
    }

pub pushed : (size : ℕ) (words words' : List ℕ) (rows : List Row) (t : Table) (k m : ℕ) (tile : Tile) → IsTable size words rows
    → table_of size words rows ≡ t → k < length t.regions → kind_of t k ≡ kinds.Ordinary → used_of t k + m ≤ size
    → IsPush words words' (k * size + used_of t k) m → IsOne (sizes_in words) (take m (drop (k * size + used_of t k) words')) tile
    → EachForwarded (HasObject t) (tile ∷ [])
    → IsWrittenTable size words' (set rows k (record { kind = kinds.Ordinary; used = used_of t k + m })) (push_tile t k tile)
unfolding push_tile nth_region
pushed size words words' rows t k m tile g e h o room c one fresh =
    let f : (ℕ → ℕ) = sizes_in words in
    let n : ℕ = k * size in
    let kn = known size words rows t k e h in
    let top = top_is size words rows t k g e h o in
    let used : ℕ = used_of t k in
    let is : (get_or rows k free_row).kind ≡ kinds.Ordinary = sym (kind_is size words rows t k kn) ∙ o in
    let st =
    start_at f size rows k n 0 words free_row refl kn.in_rows g.rows_right (λ e. let f : kinds.Ordinary ≡ kinds.Rest = sym is ∙ e in cc) in
    let right0 : IsRow f size (drop n words) (get_or rows k free_row).used kinds.Ordinary =
    subst (λ (kind : Kind). IsRow f size (drop n words) (get_or rows k free_row).used kind) is st.0.row_is in
    let right : IsRow f size (drop n words) used kinds.Ordinary =
    subst (λ (u : ℕ). IsRow f size (drop n words) u kinds.Ordinary) top.used_is right0 in
    let old : nth_region t k ≡ Ordinary (tiles f 0 (take used (drop n words))) = kn.region_is ∙ rw (is, top.used_is) refl in
    let front : take used (drop n words') ≡ take used (drop n words) =
    sym (drop-take n used words') ∙ ap (drop n) c.before ∙ drop-take n used words in
    let content : take (used + m) (drop n words') ≡ take used (drop n words) ++ take m (drop (n + used) words') =
    take_add used m (drop n words') ∙ rw (front, drop-drop used n words') refl in
    let right' : IsRow f size (drop n words') (used + m) kinds.Ordinary = (room, rw content (IsTiled-append f 0 _ _ right.1 one.tiled)) in
    let region_is : region_of f (drop n words') (record { kind = kinds.Ordinary; used = used + m })
    ≡ region_with_tile (nth_region t k) tile =
    rw (old, content) (ap Ordinary (tiles-append f 0 _ _ right.1 ∙ rw one.tiles_are refl)) in
    let change : IsChange size words words' n = change_of size n used m words words' c room in
    let kept = push_kept t k tile (targets_of size words rows t g e) fresh in
    region_changed size words words' rows t k (record { kind = kinds.Ordinary; used = used + m }) (region_with_tile (nth_region t k) tile) g
    e kn.in_rows (plain_from _ is) tt change right' region_is kept
