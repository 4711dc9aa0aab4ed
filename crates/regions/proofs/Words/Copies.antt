-- Tiles put at a top: an object's copy, a filler.
-- one tile's words, put at a region's top
use Rattle.regions.proofs.Common.{◌≡◌, ℕ, zero, suc, ◌+◌, ◌*◌, ◌<◌, ◌≤◌, Some, List, [], ◌∷◌, length, take, drop, get_or, set, ◌∙◌, ap}
use Rattle.regions.proofs.Common.{arith, length-take, length-drop, header_of, Stored, Tile, Object, Filler, tile_size, put, Table}
use Rattle.regions.proofs.Common.{object_at, kind_of, used_of, top_of, push_tile, HasObject, object_words, EachForwarded, sizes_in}
use Rattle.regions.proofs.Common.{table_of, IsTable, free_row, Row}
use Rattle.heap_words.specs.declared.header.Header.TheVariants as headers
use Rattle.regions.proofs.Words.Fields.{IsOne}
use Rattle.regions.proofs.Tiles.Making.{known, top_is}
use Rattle.regions.proofs.Words.Puts.{put_is}
use Rattle.regions.proofs.Tiles.Pushes.{pushed}
use Rattle.regions.proofs.Tiles.Replaced.{one_filler}
use Rattle.regions.proofs.Tiles.Targets.{IsWrittenTable}
use Rattle.regions.proofs.Tiles.Forwards.{header_put}
use Rattle.regions.proofs.Words.ObjectWords.{there, one_copy}
use Rattle.regions.specs.declared.row.Kind.TheVariants as kinds

pub block_pushed : (size : ℕ) (words : List ℕ) (rows : List Row) (t : Table) (k m : ℕ) (block : List ℕ) (tile : Tile)
    → IsTable size words rows → table_of size words rows ≡ t → k < length t.regions → kind_of t k ≡ kinds.Ordinary → used_of t k + m ≤ size
    → length block ≡ m → IsOne (sizes_in words) block tile → EachForwarded (HasObject t) (tile ∷ [])
    → IsWrittenTable size (put words (k * size + used_of t k) block)
    (set rows k (record { kind = kinds.Ordinary; used = used_of t k + m })) (push_tile t k tile)
block_pushed size words rows t k m block tile g e h o room len one fresh =
    let top = top_is size words rows t k g e h o in
    let x = put_is words (k * size + used_of t k) block (omega (arith, top.room)) in
    let at : take m (drop (k * size + used_of t k) (put words (k * size + used_of t k) block)) ≡ block = rw (← len) x.at in
    pushed size words _ rows t k m tile g e h o room
    (record { length_is = x.length_is; before = x.before; after = rw (← len) x.after }) (rw at one) fresh

-- the same, as the steps leave the table's fields
pub pushed_in : (size : ℕ) (words : List ℕ) (rows : List Row) (t : Table) (k m : ℕ) (block : List ℕ) (tile : Tile) (at used n number : ℕ)
    (new : List ℕ) → IsTable size words rows → table_of size words rows ≡ t → k < length t.regions → kind_of t k ≡ kinds.Ordinary
    → used_of t k + m ≤ t.words_per_region → length block ≡ m → IsOne (sizes_in words) block tile → EachForwarded (HasObject t) (tile ∷ [])
    → at ≡ k * t.words_per_region + used_of t k → used ≡ (get_or rows k free_row).used → n ≡ m → number ≡ k → new ≡ put words at block
    → IsWrittenTable size new (set rows number (record { kind = kinds.Ordinary; used = used + n })) (push_tile t k tile)
pushed_in size words rows t k m block tile at used n number new g e h o room len one fresh at_is used_is n_is number_is new_is =
    let kn = known size words rows t k e h in
    let top = top_is size words rows t k g e h o in
    let room' : used_of t k + m ≤ size = rw kn.size_is room in
    let at_is' : at ≡ k * size + used_of t k = rw kn.size_is at_is in
    let words_is : new ≡ put words (k * size + used_of t k) block = rw (← at_is') new_is in
    let done = block_pushed size words rows t k m block tile g e h o room' len one fresh in
    rw (words_is, used_is, top.used_is, n_is, number_is) done

pub copy_pushed : (size : ℕ) (words : List ℕ) (rows : List Row) (t : Table) (k from at used n number : ℕ) (s : Stored) (new : List ℕ)
    → IsTable size words rows → table_of size words rows ≡ t → k < length t.regions → kind_of t k ≡ kinds.Ordinary
    → object_at t from ≡ Some s → used_of t k + object_words t from ≤ t.words_per_region → at ≡ top_of t k
    → used ≡ (get_or rows k free_row).used → n ≡ object_words t from → number ≡ k → new ≡ put words at (take n (drop from words))
    → IsWrittenTable size new (set rows number (record { kind = kinds.Ordinary; used = used + n })) (push_tile t k (Object s))
copy_pushed size words rows t k from at used n number s new g e h o is room at_is used_is n_is number_is copied =
    let i = there size words rows t from s g e is in
    let one = one_copy (sizes_in words) words from s i.is_in in
    let n_is' : n ≡ tile_size (Object s) = n_is ∙ i.words_are in
    let room' : used_of t k + tile_size (Object s) ≤ t.words_per_region = omega (arith, i.words_are) in
    let block : List ℕ = take (tile_size (Object s)) (drop from words) in
    let length_is : length block ≡ tile_size (Object s) = simp (length-take, length-drop) (omega (arith, i.fits, i.words_are)) in
    let new_is : new ≡ put words at block = copied ∙ ap (λ (m : ℕ). put words at (take m (drop from words))) n_is' in
    pushed_in size words rows t k (tile_size (Object s)) block (Object s) at used n number new g e h o room' length_is
    one tt at_is used_is n_is' number_is new_is

pub filler_pushed : (size : ℕ) (words : List ℕ) (rows : List Row) (t : Table) (k m w at used n number : ℕ) → IsTable size words rows
    → table_of size words rows ≡ t → k < length t.regions → kind_of t k ≡ kinds.Ordinary → used_of t k + m ≤ t.words_per_region → 0 < m
    → header_of w ≡ Some (headers.Filler m) → at ≡ k * t.words_per_region + used_of t k → used ≡ (get_or rows k free_row).used
    → n ≡ m → number ≡ k
    → IsWrittenTable size (set words at w) (set rows number (record { kind = kinds.Ordinary; used = used + n })) (push_tile t k (Filler m))
filler_pushed size words rows t k zero w at used n number g e h o room z is at_is used_is n_is number_is = absurd (omega arith)
filler_pushed size words rows t k (suc m) w at used n number g e h o room z is at_is used_is n_is number_is =
    let kn = known size words rows t k e h in
    let top = top_is size words rows t k g e h o in
    let at_is' : at ≡ k * size + used_of t k = rw kn.size_is at_is in
    let room' : used_of t k + suc m ≤ size = rw kn.size_is room in
    let stale : List ℕ = take m (drop (at + 1) words) in
    let len : length stale ≡ m = simp (length-take, length-drop) (omega (arith, top.room)) in
    let one = one_filler (sizes_in words) w m stale is len in
    pushed_in size words rows t k (suc m) (w ∷ stale) (Filler (suc m)) at used n number (set words at w) g e h o room (omega (arith, len))
    one tt at_is used_is n_is number_is (header_put words at w m (omega (arith, top.room)))
