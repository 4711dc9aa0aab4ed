-- Fillers: one more at a region's top, and one split in two.
use Rattle.regions.proofs.Common.{header_word, put, sizes_in, first_stored, table_of, IsTable, free_row, put_remainder, Table, tile_in}
use Rattle.regions.proofs.Common.{kind_of, used_of, top_of, push_tile, replace_tile, remainder, Object, Filler, Row, ◌≡◌, ◌+◌}
use Rattle.regions.proofs.Common.{◌*◌, ◌/◌, ◌^◌, ◌<◌, ◌≤◌, ◌∷◌, ◌∙◌, ℕ, zero, suc, Some, List, [], length, take, drop, get_or, set}
use Rattle.regions.proofs.Common.{refl, sym, ap, subst, arith, inl, inr, add-zero, length-take, length-drop}
use Rattle.heap_words.specs.declared.header.Header.TheVariants as headers
use Rattle.heap_words.proofs.Codec.{header_of-word}
use Rattle.heap_words.proofs.Blocks.{put_none, put_more}
use Rattle.regions.proofs.Tiles.Making.{known, targets_of}
use Rattle.regions.proofs.Words.Places.{place_of}
use Rattle.regions.proofs.Words.Puts.{put_extend}
use Rattle.regions.proofs.Tiles.Replaced.{IsBlock, IsFilled, one_filler, filler_quiet, spared_filler, tile_fits, tile_short, tile_replaced}
use Rattle.regions.proofs.Tiles.Replaced.{with_rest}
use Rattle.regions.proofs.Words.Copies.{filler_pushed}
use Rattle.regions.proofs.Tiles.Targets.{IsWrittenTable}
use Rattle.regions.specs.declared.row.Kind.TheVariants as kinds

-- a filler's header is its words
pub filler_set : (sizes : ℕ → ℕ) (words : List ℕ) (x n : ℕ) → x + suc n ≤ length words → suc n < 2 ^ 24
    → IsFilled sizes words (set words x (header_word (headers.Filler (suc n)))) x (suc n) (Filler (suc n) ∷ [])
filler_set sizes words x n l small =
    let header : ℕ = header_word (headers.Filler (suc n)) in
    let a : set (put words x []) (x + 0) header ≡ put words x (header ∷ []) = put_more words x 0 header [] refl (omega arith) in
    let one : set words x header ≡ put words x (header ∷ []) = rw (add-zero, put_none) at a in
    let stale : List ℕ = take n (drop (x + 1) words) in
    let extend : put words x (header ∷ []) ≡ put words x (header ∷ stale) = put_extend words x n (header ∷ []) (omega arith) in
    let len : length stale ≡ n = simp (length-take, length-drop) (omega arith) in
    let f = one_filler sizes header n stale (header_of-word (headers.Filler (suc n)) (omega arith, small)) len in
    record {
      block = header ∷ stale;
      is_block = record { length_is = ap suc len; tiled = f.tiled; tiles_are = f.tiles_are };
      words_are = one ∙ extend;
    }

-- a filler is split
pub filler_split : (sizes : ℕ → ℕ) (words : List ℕ) (x n rest : ℕ) → x + suc n + rest ≤ length words → suc n < 2 ^ 24 → rest < 2 ^ 24
    → IsFilled sizes words (put_remainder (set words x (header_word (headers.Filler (suc n)))) (x + suc n) rest) x
    (suc n + rest) (Filler (suc n) ∷ remainder rest)
filler_split sizes words x n rest l small small' =
    with_rest sizes words (set words x (header_word (headers.Filler (suc n)))) x (suc n) rest (Filler (suc n) ∷ [])
    (filler_set sizes words x n (omega arith) small) l small'

pub filler_cut : (size : ℕ) (words : List ℕ) (rows : List Row) (t : Table) (x s n at rest more : ℕ) (made new : List ℕ)
    → IsTable size words rows → table_of size words rows ≡ t → tile_in t x ≡ Some (Filler n) → n ≡ s + rest → 0 < s
    → made ≡ set words x (header_word (headers.Filler s)) → new ≡ put_remainder made at more → at ≡ x + s → more ≡ rest
    → IsWrittenTable size new rows (replace_tile t x (Filler s ∷ remainder rest))
filler_cut size words rows t x zero n at rest more made new g e h n_is z made_is new_is at_is more_is = absurd (omega arith)
filler_cut size words rows t x (suc s) n at rest more made new g e h n_is z made_is new_is at_is more_is =
    elim (place_of (sizes_in words) size words rows x (Filler n) (ap (λ (u : Table). tile_in u x) e ∙ h)) [
      | inl q ↦
          let fits = tile_fits size words rows x (Filler n) g q in
          let short = tile_short size words rows x (Filler n) g q in
          let f =
          filler_split (sizes_in words) words x s rest (omega arith) (omega (arith, g.region_size.1)) (omega (arith, g.region_size.1)) in
          let b : IsBlock (sizes_in words) f.block n (Filler (suc s) ∷ remainder rest) =
          subst (λ (m : ℕ). IsBlock (sizes_in words) f.block m (Filler (suc s) ∷ remainder rest)) (sym n_is) f.is_block in
          let r = tile_replaced size words rows t x (Filler n) f.block (Filler (suc s) ∷ remainder rest) g e q b h
          (spared_filler t x n h (targets_of size words rows t g e)) (filler_quiet _ rest) in
          let words_is : new ≡ put words x f.block = new_is ∙ ap (λ (ws : List ℕ). put_remainder ws at more) made_is
          ∙ ap (λ (a : ℕ). put_remainder (set words x (header_word (headers.Filler (suc s)))) a more) at_is
          ∙ ap (λ (m : ℕ). put_remainder (set words x (header_word (headers.Filler (suc s)))) (x + suc s) m) more_is ∙ f.words_are in
          subst (λ (ws : List ℕ). IsWrittenTable size ws rows (replace_tile t x (Filler (suc s) ∷ remainder rest))) (sym words_is) r.0
      | inr q ↦ absurd (let f : Filler n ≡ Object (first_stored (drop (x / size * size) words)) = q.tile_is in cc)
    ]

pub filler_added : (size : ℕ) (words : List ℕ) (rows : List Row) (t : Table) (k m at used n number : ℕ) (new : List ℕ)
    → IsTable size words rows → table_of size words rows ≡ t → k < length t.regions → kind_of t k ≡ kinds.Ordinary
    → used_of t k + m ≤ t.words_per_region → 0 < m → at ≡ top_of t k → used ≡ (get_or rows k free_row).used → n ≡ m → number ≡ k
    → new ≡ set words at (header_word (headers.Filler m))
    → IsWrittenTable size new (set rows number (record { kind = kinds.Ordinary; used = used + n })) (push_tile t k (Filler m))
filler_added size words rows t k m at used n number new g e h o room z at_is used_is n_is number_is new_is =
    let kn = known size words rows t k e h in
    let small : m < 2 ^ 24 = omega (arith, g.region_size.1, kn.size_is) in
    rw new_is (filler_pushed size words rows t k m (header_word (headers.Filler m)) at used n number g e h o room z
    (header_of-word (headers.Filler m) (z, small)) at_is used_is n_is number_is)
