-- First tiles over each change of the table.
use Rattle.regions.proofs.Common.{length-replicate, AreTilesWritten, free_row_count, EachForwarded, IsRegionTable, replicate}
use Rattle.regions.proofs.Common.{AreEntriesPut, replace_tile, with_regions, IsReleasable, object_words, AreUsedBelow, div-mul-add}
use Rattle.regions.proofs.Common.{region_tile, pointers_at, set_pointer, run_regions, start_added, length-set, total_size}
use Rattle.regions.proofs.Common.{nth_region, new_object, first_free, IsOrdinary, run_length, free_table, AreEntries, Forwarded, IsSome}
use Rattle.regions.proofs.Common.{IsPut, IsCutOff, AreBare, false, with_pairs}
use Rattle.regions.proofs.Common.{tile_size, object_at, fields_at, values_at, set_field, set_value, remainder, push_tile}
use Rattle.regions.proofs.Common.{region_at, first_run, AreStarts, forgotten, cases_lt, Ordinary, weaks_at, set_weak, released}
use Rattle.regions.proofs.Common.{table_of, sizes_in, IsShaped, HasWeaks, tile_in, is_free, kind_of, used_of, Entries, Option, []}
use Rattle.regions.proofs.Common.{length, get_or, Stored, Object, Filler, Region, top_of, Memory, Starts, ℕ}
use Rattle.regions.proofs.Common.{subst, arith, Table, First, taken, Some, None, List, refl, Tile, Free, Rest, ◌≡◌}
use Rattle.regions.proofs.Common.{◌≢◌, ◌+◌, ◌*◌, ◌/◌, ◌%◌, ◌<◌, ◌≤◌, ◌∷◌, ◌∙◌, inl, inr, sym, Row, ap}
use Rattle.regions.proofs.Tiles.Targets.{IsWrittenTable}
use Rattle.regions.proofs.Tiles.Making.{length-regions_of}
use Rattle.regions.proofs.Tiles.ShapedMade.{shaped_of, first_object, kind_at}
use Rattle.regions.proofs.Tiles.Laws.{tile_of}
use Rattle.regions.proofs.Tiles.Bare.{tile_held, bare_fewer, bare_added, bare_written, bare_forwarded, bare_cut}
use Rattle.regions.proofs.Tiles.Changes.{WritesObject, pointer_put, weak_put, field_put, field_size, field_weaks, field_held, value_put}
use Rattle.regions.proofs.Tiles.WeakStarts.{tile_weaks, Notes, notes, Forgets, forgets, Clears, none_there, none_in, free_void, run_later}
use Rattle.regions.proofs.Tiles.WeakStarts.{starts_same, starts_written, starts_added, starts_cut, starts_forwarded, starts_released}
use Rattle.regions.proofs.Words.Access.{has_pointer, has_weak}
use Rattle.regions.proofs.Words.FieldAccess.{has_field}
use Rattle.regions.proofs.Words.Values.{has_value}
use Rattle.regions.proofs.Tiles.Placing.{remainder_total, remainder_positive, remainder_unmoved, Replaces, filler_replaced, filler_push}
use Rattle.regions.proofs.Tiles.Placing.{region_taken}
use Rattle.regions.proofs.LongRuns.RunLaws.{frees, Releases, ordinary_released, run_released, TakesRun, run_made}
use Rattle.regions.proofs.Tiles.TileLaws.{Forwards, object_forwarded}
use Rattle.regions.proofs.Words.ObjectWords.{words_of}
use Rattle.regions.proofs.Tiles.Within.{within_fewer, within_added, within_cut}
use Rattle.regions.proofs.Cards.FirstTiles.{no_tile, entries_added, entries_same, entries_fewer, entries_cut}
use Rattle.regions.specs.declared.row.Kind.TheVariants as kinds

pub sound_changed : (size shift lowest low free free' : ℕ) (entries new : Entries) (starts starts' : Starts) (memory memory' : Memory)
    (rows rows' : List Row) (t t' : Table) → IsRegionTable size shift lowest free entries starts memory rows
    → table_of size memory.all rows ≡ t
    → IsWrittenTable size memory'.all rows' t' → length t'.regions ≡ length t.regions → new.card_words ≡ entries.card_words
    → length new.starts ≡ length entries.starts → AreUsedBelow low rows' → free' ≡ free_row_count rows'
    → starts'.region_words ≡ starts.region_words → starts'.pairs ≡ starts.pairs → length starts'.flags ≡ length starts.flags
    → (AreStarts t starts.flags → AreStarts t' starts'.flags) → (starts.pairs ≡ false → AreBare t → AreBare t')
    → (AreEntries t entries → AreEntries t' new)
    → (AreTilesWritten t memory.written → AreTilesWritten t' memory'.written)
    → IsRegionTable size shift low free' new starts' memory' rows'
sound_changed size shift lowest low free free' entries new starts starts' memory memory' rows rows' t t' s e w count len each used
    counted wide same_pairs long told held right within =
    let before : length t.regions ≡ length rows =
    ap (λ (u : Table). length u.regions) (sym e) ∙ length-regions_of (sizes_in memory.all) size rows memory.all in
    let after : length t'.regions ≡ length rows' =
    ap (λ (u : Table). length u.regions) (sym w.table_is) ∙ length-regions_of (sizes_in memory'.all) size rows' memory'.all in
    let same : length memory'.all ≡ length memory.all =
    w.is_table.covers ∙ ap (λ (n : ℕ). n * size) (sym after ∙ count ∙ before) ∙ sym s.table.covers in
    record {
      table = w.is_table;
      written = subst (λ (u : Table). AreTilesWritten u memory'.written) (sym w.table_is)
          (within (subst (λ (u : Table). AreTilesWritten u memory.written) e s.written));
      power = s.power;
      narrow = s.narrow;
      used_below = used;
      free_is = counted;
      whole_cards = rw len s.whole_cards;
      each_card = rw (each, len) (same ∙ s.each_card);
      first_tiles =
          subst (λ (u : Table). AreEntries u new) (sym w.table_is) (right (subst (λ (u : Table). AreEntries u entries) e s.first_tiles));
      weak_regions = wide ∙ s.weak_regions;
      weak_count = long ∙ s.weak_count ∙ sym same;
      weak_starts = subst (λ (u : Table). AreStarts u starts'.flags) (sym w.table_is)
          (told (subst (λ (u : Table). AreStarts u starts.flags) e s.weak_starts));
      bare = λ off.
          let was : starts.pairs ≡ false = sym same_pairs ∙ off in
          subst (λ (u : Table). AreBare u) (sym w.table_is) (held was (subst (λ (u : Table). AreBare u) e (s.bare was)));
    }

-- no region of a new table has a tile
pub free_entries : (count size : ℕ) (entries : Entries) → AreEntries (free_table count size) entries
unfolding free_table tile_in region_at
free_entries count size entries a c h = absurd (let z : None ≡ Some h.tile = sym (none (a / size)) ∙ h.tile_is in cc)
  where
    none : (k : ℕ) → region_tile (get_or (replicate count Free) k Free) (a % size) ≡ None
    none k = ap (λ (r : Region). region_tile r (a % size)) (frees count k)

pub new_size : (name p weak d : ℕ) → tile_size (Object (new_object name p weak d)) ≡ 2 + p + weak + d
new_size name p weak d =
    omega (arith, length-replicate {A = Option ℕ} p None, length-replicate {A = Option ℕ} weak None, length-replicate {A = ℕ} d 0)

-- ---- an object is written
object_entries : (t t' : Table) (entries : Entries) (x : ℕ) (s s' : Stored) → WritesObject t t' x s s'
    → tile_size (Object s') ≡ tile_size (Object s) → AreEntries t entries → AreEntries t' entries
object_entries t t' entries x s s' w size e =
    entries_same t t' entries x (Object s) (Object s') w.size (tile_of t x s w.was) (tile_of t' x s' w.is) w.others size e

module _ (size shift lowest free : ℕ) (entries : Entries) (starts : Starts) (memory : Memory) (rows : List Row) (t : Table)
    (s : IsRegionTable size shift lowest free entries starts memory rows) (e : table_of size memory.all rows ≡ t) where
  shaped : IsShaped t
  shaped = shaped_of size memory.all rows t s.table e

  -- a flag for each word of the regions
  pub flag_count : length starts.flags ≡ length t.regions * t.words_per_region
  flag_count =
      let rows_are : length rows ≡ length t.regions =
      sym (length-regions_of (sizes_in memory.all) size rows memory.all) ∙ ap (λ (u : Table). length u.regions) e in
      let wide : size ≡ t.words_per_region = ap (λ (u : Table). u.words_per_region) e in
      s.weak_count ∙ s.table.covers ∙ ap (λ (n : ℕ). n * size) rows_are ∙ ap (λ (n : ℕ). length t.regions * n) wide

  -- the set is of the table's regions
  pub region_words : starts.region_words ≡ t.words_per_region
  region_words = s.weak_regions ∙ ap (λ (u : Table). u.words_per_region) e

  -- regions stay as large
  same_size : (memory' : Memory) (rows' : List Row) (t' : Table) → IsWrittenTable size memory'.all rows' t'
      → t'.words_per_region ≡ t.words_per_region
  same_size memory' rows' t' w =
      sym (ap (λ (u : Table). u.words_per_region) w.table_is) ∙ ap (λ (u : Table). u.words_per_region) e

  -- where a tile stands there is a flag
  pub known_now : (a : ℕ) (tile : Tile) → tile_in t a ≡ Some tile → 0 < tile_size tile → a < length starts.flags
  known_now a tile is some = let within = shaped.within a tile is in let count = flag_count in omega arith

  known_then : (memory' : Memory) (rows' : List Row) (t' : Table) (a : ℕ) (tile : Tile) → IsWrittenTable size memory'.all rows' t'
      → length t'.regions ≡ length t.regions → tile_in t' a ≡ Some tile → 0 < tile_size tile → a < length starts.flags
  known_then memory' rows' t' a tile w count is some =
      let within = (shaped_of size memory'.all rows' t' w.is_table w.table_is).within a tile is in
      let wide = same_size memory' rows' t' w in
      let total : length t'.regions * t'.words_per_region ≡ length t.regions * t.words_per_region =
      ap (λ (n : ℕ). n * t'.words_per_region) count ∙ ap (λ (n : ℕ). length t.regions * n) wide in
      let flags = flag_count in
      omega arith

  written_sound : (memory' : Memory) (t' : Table) (x : ℕ) (o o' : Stored) → WritesObject t t' x o o'
      → tile_size (Object o') ≡ tile_size (Object o) → length o'.weaks ≡ length o.weaks → length o'.held ≡ length o.held
      → memory.written ≤ memory'.written → IsWrittenTable size memory'.all rows t'
      → IsRegionTable size shift lowest free entries starts memory' rows
  written_sound memory' t' x o o' put same weaks held more w =
      sound_changed size shift lowest lowest free free entries entries starts starts memory memory' rows rows t t' s e w put.count refl refl
      s.used_below s.free_is refl refl refl (λ g. starts_written t t' starts.flags g x o o' put weaks)
      (λ _ g. bare_written t t' g x o o' put held)
      (object_entries t t' entries x o o' put same)
      (λ g.
      let all = g.each x (Object o) (tile_of t x o put.was) in
      within_added t t' memory.written memory'.written x (Object o') more (omega arith) (tile_of t' x o' put.is) put.others g)

  pub pointer_sound : (memory' : Memory) (x i : ℕ) (v : Option ℕ) → i < length (pointers_at t x)
      → memory.written ≤ memory'.written → IsWrittenTable size memory'.all rows (set_pointer t x i v)
      → IsRegionTable size shift lowest free entries starts memory' rows
  pointer_sound memory' x i v h more w =
      let p = has_pointer t x i h in
      let o = p.object in
      written_sound memory' (set_pointer t x i v) x o _ (pointer_put t x i v o shaped.positive p.object_is)
      (ap (λ n. 2 + n + (length o.weaks + length o.held) + length o.values) (length-set o.pointers i v)) refl refl more w

  pub weak_sound : (memory' : Memory) (x i : ℕ) (v : Option ℕ) → i < length (weaks_at t x)
      → memory.written ≤ memory'.written → IsWrittenTable size memory'.all rows (set_weak t x i v)
      → IsRegionTable size shift lowest free entries starts memory' rows
  weak_sound memory' x i v h more w =
      let p = has_weak t x i h in
      let o = p.object in
      written_sound memory' (set_weak t x i v) x o _ (weak_put t x i v o shaped.positive p.object_is)
      (ap (λ n. 2 + length o.pointers + (n + length o.held) + length o.values) (length-set o.weaks i v)) (length-set o.weaks i v) refl
      more w

  pub field_sound : (memory' : Memory) (x i : ℕ) (v : Option ℕ) → i < length (fields_at t x)
      → memory.written ≤ memory'.written → IsWrittenTable size memory'.all rows (set_field t x i v)
      → IsRegionTable size shift lowest free entries starts memory' rows
  field_sound memory' x i v h more w =
      let p = has_field t x i h in
      let o = p.object in
      written_sound memory' (set_field t x i v) x o _ (field_put t x i v o shaped.positive p.object_is)
      (field_size o i v) (field_weaks o i v) (field_held o i v) more w

  pub value_sound : (memory' : Memory) (x i v : ℕ) → i < length (values_at t x)
      → memory.written ≤ memory'.written → IsWrittenTable size memory'.all rows (set_value t x i v)
      → IsRegionTable size shift lowest free entries starts memory' rows
  value_sound memory' x i v h more w =
      let p = has_value t x i h in
      let o = p.object in
      written_sound memory' (set_value t x i v) x o _ (value_put t x i v o shaped.positive p.object_is)
      (ap (λ n. 2 + length o.pointers + (length o.weaks + length o.held) + n) (length-set o.values i v)) refl refl more w

  pub forward_sound : (starts' : Starts) (memory' : Memory) (t' : Table) (a to n : ℕ) (x : Stored)
      → Forwards t t' a to n → tile_in t a ≡ Some (Object x) → tile_size (Object x) ≡ n
      → Forgets starts starts' a (length x.weaks)
      → memory.written ≤ memory'.written → IsWrittenTable size memory'.all rows t'
      → IsRegionTable size shift lowest free entries starts' memory' rows
  forward_sound starts' memory' t' a to n x f was long gone more w =
      sound_changed size shift lowest lowest free free entries entries starts starts' memory memory' rows rows t t' s e w f.count refl refl
      s.used_below s.free_is gone.region_words gone.pairs gone.len (λ g. starts_forwarded t t' starts starts' g a to n x was f gone)
      (λ _ g. bare_forwarded t t' g a to n f)
      (entries_same t t' entries a (Object x) (Forwarded to n) f.size was f.is f.others (sym long))
      (λ g.
      let all = g.each a (Object x) was in
      within_added t t' memory.written memory'.written a (Forwarded to n) more (omega arith) f.is f.others g)

  -- a region is taken, or regions are released
  pub fewer_sound : (starts' : Starts) (memory' : Memory) (rows' : List Row) (low free' : ℕ) (t' : Table)
      → length t'.regions ≡ length t.regions → ((y : ℕ) (u : Tile) → tile_in t' y ≡ Some u → tile_in t y ≡ Some u)
      → ((b y : ℕ) → IsSome (tile_in t' b) → y / t.words_per_region ≡ b / t.words_per_region → tile_in t' y ≡ tile_in t y)
      → AreUsedBelow low rows' → free' ≡ free_row_count rows' → starts'.region_words ≡ starts.region_words
      → starts'.pairs ≡ starts.pairs → length starts'.flags ≡ length starts.flags → (AreStarts t starts.flags → AreStarts t' starts'.flags)
      → memory.written ≤ memory'.written → IsWrittenTable size memory'.all rows' t'
      → IsRegionTable size shift low free' entries starts' memory' rows'
  fewer_sound starts' memory' rows' low free' t' count fewer near used counted wide same_pairs long told more w =
      sound_changed size shift lowest low free free' entries entries starts starts' memory memory' rows rows' t t' s e w count refl refl
      used counted wide same_pairs long told (λ _ g. bare_fewer t t' g fewer)
      (entries_fewer t t' entries (same_size memory' rows' t' w) fewer near)
      (within_fewer t t' memory.written memory'.written more fewer)

  -- a tile more
  pub added_sound : (new : Entries) (starts' : Starts) (memory' : Memory) (rows' : List Row) (low free' : ℕ) (t' : Table) (a n : ℕ)
      (tile : Tile) → length t'.regions ≡ length t.regions → tile_in t' a ≡ Some tile → ((y : ℕ) → y ≢ a → tile_in t' y ≡ tile_in t y)
      → n ≡ tile_size tile → AreEntriesPut (IsPut a (a + n)) entries new → (HasWeaks t a → ⊥)
      → Notes starts starts' a tile → (starts.pairs ≡ false → tile_held tile ≡ []) → AreUsedBelow low rows' → free' ≡ free_row_count rows'
      → memory.written ≤ memory'.written → a + n ≤ memory'.written → IsWrittenTable size memory'.all rows' t'
      → IsRegionTable size shift low free' new starts' memory' rows'
  added_sound new starts' memory' rows' low free' t' a n tile count is others long put none noted held used counted more fits w =
      sound_changed size shift lowest low free free' entries new starts starts' memory memory' rows rows' t t' s e w count put.card_words
      put.len used counted noted.region_words noted.pairs noted.len (λ g. starts_added t t' starts starts' g a tile is none others noted)
      (λ off g. bare_added t t' g a tile is (held off) others)
      (entries_added t t' entries new a tile (shaped_of size memory'.all rows' t' w.is_table w.table_is) (same_size memory' rows' t' w)
      is others (subst (λ (m : ℕ). AreEntriesPut (IsPut a (a + m)) entries new) long put))
      (within_added t t' memory.written memory'.written a tile more (omega arith) is others)

  -- a tile cut off a filler's front
  pub cut_sound : (new : Entries) (starts' : Starts) (memory' : Memory) (t' : Table) (x n r : ℕ) (tile : Tile)
      → Replaces t t' x n (tile ∷ remainder r) → tile_in t x ≡ Some (Filler n) → 0 < tile_size tile → tile_size tile + r ≡ n
      → AreEntriesPut (IsCutOff entries.card_words x (x + tile_size tile) (x + n)) entries new → Notes starts starts' x tile
      → (starts.pairs ≡ false → tile_held tile ≡ []) → memory.written ≤ memory'.written → IsWrittenTable size memory'.all rows t'
      → IsRegionTable size shift lowest free new starts' memory' rows
  cut_sound new starts' memory' t' x n r tile cut was some sum put noted held more w =
      sound_changed size shift lowest lowest free free entries new starts starts' memory memory' rows rows t t' s e w cut.count
      put.card_words put.len s.used_below s.free_is noted.region_words noted.pairs noted.len
      (λ g. starts_cut t t' starts starts' g x n r tile (omega arith) (none_in t x (Filler n) was refl) cut noted)
      (λ off g. bare_cut t t' g x n r tile cut (held off))
      (entries_cut t t' x n r tile shaped (shaped_of size memory'.all rows t' w.is_table w.table_is) cut was some sum entries new put)
      (within_cut t t' memory.written memory'.written x n r tile more cut was sum)

  pub taken_sound : (memory' : Memory) (rows' : List Row) (low free' k : ℕ) → first_free t ≡ Some k → AreUsedBelow low rows'
      → free' ≡ free_row_count rows' → memory.written ≤ memory'.written → IsWrittenTable size memory'.all rows' (taken t (first_free t))
      → IsRegionTable size shift low free' entries starts memory' rows'
  taken_sound memory' rows' low free' k first used counted more w =
      let taken_is = region_taken t k first in
      let fewer : (y : ℕ) (u : Tile) → tile_in (taken t (Some k)) y ≡ Some u → tile_in t y ≡ Some u =
      λ y u h. sym (taken_is.others y) ∙ h in
      fewer_sound starts memory' rows' low free' (taken t (Some k)) taken_is.count fewer (λ b y h near. taken_is.others y) used counted
      refl refl refl
      (λ g. starts_same t (taken t (Some k)) starts.flags g taken_is.others)
      more
      (subst (λ (o : Option ℕ). IsWrittenTable size memory'.all rows' (taken t o)) first w)

  pub release_sound : (starts' : Starts) (memory' : Memory) (rows' : List Row) (low free' k : ℕ) → k < length t.regions
      → IsReleasable (kind_of t k) → AreUsedBelow low rows' → free' ≡ free_row_count rows' → Clears starts starts' k t.words_per_region
      → memory.written ≤ memory'.written → IsWrittenTable size memory'.all rows' (released t k)
      → IsRegionTable size shift low free' entries starts' memory' rows'
  release_sound starts' memory' rows' low free' k known can used counted clear more w = go (nth_region t k) refl
    where
      gone : (m : ℕ) → 0 < m → ((y : ℕ) → k < y / t.words_per_region → y / t.words_per_region < k + m → tile_in t y ≡ None)
          → Releases t (released t k) k m → IsRegionTable size shift low free' entries starts' memory' rows'
      gone m some later x =
          fewer_sound starts' memory' rows' low free' (released t k) x.count (λ y u h. elim (cases_lt (y / t.words_per_region) k) [
            | inl b ↦ sym (x.others y (inl b)) ∙ h
            | inr b ↦ elim (cases_lt (y / t.words_per_region) (k + m)) [
              | inl f ↦ absurd (let z : None ≡ Some u = sym (x.gone y b f) ∙ h in cc)
              | inr f ↦ sym (x.others y (inr f)) ∙ h
            ]
          ]) (λ b y h near. x.others y (elim (cases_lt (b / t.words_per_region) k) [
            | inl f ↦ inl (omega arith)
            | inr f ↦ elim (cases_lt (b / t.words_per_region) (k + m)) [
              | inl d ↦ absurd (no_tile (tile_in (released t k) b) (x.gone b f d) h)
              | inr d ↦ inr (omega arith)
            ]
          ])) used counted clear.region_words clear.pairs clear.len
          (λ g. starts_released t (released t k) starts starts' g k m shaped.positive some later x clear) more w

      go : (r : Region) → nth_region t k ≡ r → IsRegionTable size shift low free' entries starts' memory' rows'
      go Free e = absurd (subst IsReleasable (kind_at t k Free e) can)
      go (Ordinary ts) e =
          gone 1 (omega arith) (λ y low high. absurd (omega arith)) (ordinary_released t k known (kind_at t k (Ordinary ts) e))
      go (First o) e = gone (run_length t k) (omega arith) (λ y low high. run_later t k y low high) (run_released t k o known e)
      go (Rest n) e = absurd (subst IsReleasable (kind_at t k (Rest n) e) can)

  pub push_sound : (new : Entries) (starts' : Starts) (memory' : Memory) (rows' : List Row) (low free' k at n weaks : ℕ) (tile : Tile)
      → k < length t.regions → kind_of t k ≡ kinds.Ordinary → 0 < tile_size tile
      → used_of t k + tile_size tile ≤ t.words_per_region → EachForwarded (λ _. ⊥) (tile ∷ [])
      → at ≡ top_of t k → n ≡ tile_size tile → AreEntriesPut (IsPut at (at + n)) entries new
      → tile_weaks tile ≡ weaks → starts' ≡ start_added starts at weaks → (starts.pairs ≡ false → tile_held tile ≡ [])
      → AreUsedBelow low rows' → free' ≡ free_row_count rows'
      → memory.written ≤ memory'.written → at + n ≤ memory'.written → IsWrittenTable size memory'.all rows' (push_tile t k tile)
      → IsRegionTable size shift low free' new starts' memory' rows'
  push_sound new starts' memory' rows' low free' k at n weaks tile known ordinary some room unmoved there long
      put slots flags_are held used counted more fits w =
      let push = filler_push t k tile shaped.positive shaped.fitting known ordinary some room unmoved in
      let here : tile_in (push_tile t k tile) at ≡ Some tile = ap (tile_in (push_tile t k tile)) there ∙ push.is in
      let n' =
      notes starts starts' at weaks tile (known_then memory' rows' (push_tile t k tile) at tile w push.count here some) slots flags_are in
      added_sound new starts' memory' rows' low free' (push_tile t k tile) at n tile push.count here
      (λ y apart. push.others y (λ z. apart (z ∙ sym there))) long put
      (none_there t at (ap (tile_in t) there ∙ push.was)) n' held used counted more fits w

  pub run_sound_at : (new : Entries) (starts' : Starts) (memory' : Memory) (rows' : List Row) (low free' k m at n weaks : ℕ) (o : Stored)
      → 0 < m → TakesRun t (with_regions t k m (run_regions t.words_per_region o m)) k m o → at ≡ k * t.words_per_region
      → n ≡ tile_size (Object o) → AreEntriesPut (IsPut at (at + n)) entries new
      → length o.weaks ≡ weaks → starts' ≡ start_added starts at weaks → (starts.pairs ≡ false → o.held ≡ [])
      → AreUsedBelow low rows' → free' ≡ free_row_count rows'
      → memory.written ≤ memory'.written → at + n ≤ memory'.written
      → IsWrittenTable size memory'.all rows' (with_regions t k m (run_regions t.words_per_region o m))
      → IsRegionTable size shift low free' new starts' memory' rows'
  run_sound_at new starts' memory' rows' low free' k m at n weaks o some made there long put slots flags_are held used counted
      more fits w =
      let t' : Table = with_regions t k m (run_regions t.words_per_region o m) in
      let here : tile_in t' (k * t.words_per_region) ≡ Some (Object o) =
      tile_of t' (k * t.words_per_region) o (first_object t' k o shaped.positive made.first) in
      let now : tile_in t' at ≡ Some (Object o) = ap (tile_in t') there ∙ here in
      let known = known_then memory' rows' t' at (Object o) w made.count now (omega arith) in
      let zero : k * t.words_per_region + 0 ≡ at = omega arith in
      let region : at / t.words_per_region ≡ k =
      ap (λ (a : ℕ). a / t.words_per_region) (sym zero) ∙ div-mul-add k t.words_per_region 0 shaped.positive in
      let void : tile_in t at ≡ None = free_void t at (ap (kind_of t) region ∙ made.was_free k (omega arith) (omega arith)) in
      added_sound new starts' memory' rows' low free' t' at n (Object o) made.count now
      (λ y apart. made.others y (λ z. apart (z ∙ sym there))) long put (none_there t at void)
      (notes starts starts' at weaks (Object o) known slots flags_are) held used counted more fits w

  pub run_sound : (new : Entries) (starts' : Starts) (memory' : Memory) (rows' : List Row) (low free' k m at n weaks : ℕ) (o : Stored)
      → 0 < m → first_run is_free m t.regions ≡ Some k → at ≡ k * t.words_per_region → n ≡ tile_size (Object o)
      → AreEntriesPut (IsPut at (at + n)) entries new
      → length o.weaks ≡ weaks → starts' ≡ start_added starts at weaks → (starts.pairs ≡ false → o.held ≡ [])
      → AreUsedBelow low rows' → free' ≡ free_row_count rows'
      → memory.written ≤ memory'.written → at + n ≤ memory'.written
      → IsWrittenTable size memory'.all rows' (with_regions t k m (run_regions t.words_per_region o m))
      → IsRegionTable size shift low free' new starts' memory' rows'
  run_sound new starts' memory' rows' low free' k m at n weaks o some first =
      run_sound_at new starts' memory' rows' low free' k m at n weaks o some (run_made t k m o shaped.positive some first)

  pub front_sound : (new : Entries) (starts' : Starts) (memory' : Memory) (x n r at end weaks : ℕ) (tile : Tile)
      → tile_in t x ≡ Some (Filler n) → 0 < tile_size tile → tile_size tile + r ≡ n → EachForwarded (λ _. ⊥) (tile ∷ [])
      → at ≡ x + tile_size tile → end ≡ x + n
      → AreEntriesPut (IsCutOff entries.card_words x at end) entries new
      → tile_weaks tile ≡ weaks → starts' ≡ start_added starts x weaks → (starts.pairs ≡ false → tile_held tile ≡ [])
      → memory.written ≤ memory'.written → IsWrittenTable size memory'.all rows (replace_tile t x (tile ∷ remainder r))
      → IsRegionTable size shift lowest free new starts' memory' rows
  front_sound new starts' memory' x n r at end weaks tile was some sum unmoved at_is end_is put slots flags_are held more w =
      let total : total_size (tile ∷ remainder r) ≡ n = ap (λ (m : ℕ). tile_size tile + m) (remainder_total r) ∙ sum in
      let cut = filler_replaced t x n (tile ∷ remainder r) shaped.positive shaped.fitting was (omega arith) (some, remainder_positive r)
      total (joined_unmoved tile r unmoved) in
      let n' = notes starts starts' x weaks tile (known_now x (Filler n) was (omega arith)) slots flags_are in
      cut_sound new starts' memory' (replace_tile t x (tile ∷ remainder r)) x n r tile cut was some sum
      (rw (at_is, end_is) at put) n' held more w
    where
      joined_unmoved : (u : Tile) (r : ℕ) → EachForwarded (λ _. ⊥) (u ∷ []) → EachForwarded (λ _. ⊥) (u ∷ remainder r)
      joined_unmoved (Forwarded to m) r h = absurd h.0
      joined_unmoved _ r h = remainder_unmoved r

  pub forwarded_sound : (starts' : Starts) (memory' : Memory) (a to weaks : ℕ) (o : Stored) → object_at t a ≡ Some o
      → IsOrdinary (region_at t a) → weaks ≡ length o.weaks → starts' ≡ forgotten starts a weaks
      → memory.written ≤ memory'.written → IsWrittenTable size memory'.all rows (replace_tile t a (Forwarded to (object_words t a) ∷ []))
      → IsRegionTable size shift lowest free entries starts' memory' rows
  forwarded_sound starts' memory' a to weaks o there ordinary slots gone more w =
      let is = tile_of t a o there in
      let long = words_of t a o there in
      let f = object_forwarded t a to o shaped.positive ordinary is in
      let gone' =
      subst (λ (n : ℕ). Forgets starts starts' a n) slots (forgets starts starts' a weaks (known_now a (Object o) is (omega arith)) gone) in
      forward_sound starts' memory' (replace_tile t a (Forwarded to (tile_size (Object o)) ∷ [])) a to
      (tile_size (Object o)) o f is refl gone' more (rw long at w)

-- an object of pairs is about to be made: with that noted the table is as sound
pub noted_sound : (size shift lowest free : ℕ) (entries : Entries) (starts : Starts) (memory : Memory) (rows : List Row)
    → IsRegionTable size shift lowest free entries starts memory rows
    → IsRegionTable size shift lowest free entries (with_pairs starts) memory rows
noted_sound size shift lowest free entries starts memory rows s = record {
  table = s.table;
  written = s.written;
  power = s.power;
  narrow = s.narrow;
  used_below = s.used_below;
  free_is = s.free_is;
  whole_cards = s.whole_cards;
  each_card = s.each_card;
  first_tiles = s.first_tiles;
  weak_regions = s.weak_regions;
  weak_count = s.weak_count;
  weak_starts = s.weak_starts;
  bare = λ off. absurd cc;
}
