-- An object becomes forwarded.
use Rattle.regions.proofs.Common.{◌≡◌, ◌≢◌, ◌+◌, ◌-◌, ◌<◌, ◌≤◌, ◌∷◌, ◌∙◌, ℕ, suc, Option, Some, None, List, [], length, take, drop, set}
use Rattle.regions.proofs.Common.{refl, sym, ap, subst, arith, inl, inr, add-zero, length-take, length-drop, IsSome, header_of, header_word}
use Rattle.regions.proofs.Common.{Stored, Object, Forwarded, tile_size, put, Table, object_at, region_at, IsOrdinary, HasObject}
use Rattle.regions.proofs.Common.{object_words, stored_size, replace_tile, EachForwarded, EachForwardedIn, sizes_in, table_of, IsTable, Row}
use Rattle.heap_words.specs.declared.header.Header.TheVariants as headers
use Rattle.heap_words.proofs.Codec.{header_of-word}
use Rattle.regions.proofs.Words.Places.{object_place}
use Rattle.regions.proofs.Words.Fields.{IsOne, IsTiled_none, tiles_none}
use Rattle.heap_words.proofs.Blocks.{put_none, put_more}
use Rattle.regions.proofs.Words.Puts.{put_extend}
use Rattle.regions.proofs.Tiles.Replaced.{IsBlock, tile_replaced, tile_fits}
use Rattle.regions.proofs.Tiles.Targets.{IsWrittenTable}
use Rattle.regions.proofs.Words.Access.{not_first}
use Rattle.regions.proofs.Words.ObjectWords.{there, some_object}
use Rattle.regions.proofs.Tiles.Laws.{tile_of}

one_moved : (sizes : ℕ → ℕ) (w to m : ℕ) (body : List ℕ) → header_of w ≡ Some (headers.Forwarded to) → sizes to ≡ m → 0 < m
    → m ≡ suc (length body) → IsOne sizes (w ∷ body) (Forwarded to m)
one_moved sizes w to m body e f z l =
    let n : length body ≡ sizes to - 1 = omega arith in
    record {
      tiles_are = rw (e, tiles_none sizes (sizes to - 1) body n, f) refl;
      tiled = rw e (tt, omega arith, IsTiled_none sizes (sizes to - 1) body n);
    }

stored_some : (o : Option Stored) → 0 < stored_size o → (s : Stored) × (o ≡ Some s)
stored_some None h = absurd (omega arith)
stored_some (Some s) h = (s, refl)

sized_object : (t : Table) (x : ℕ) → 0 < object_words t x → (s : Stored) × (object_at t x ≡ Some s)
unfolding object_words
sized_object t x h = stored_some (object_at t x) h

-- a header alone is written: the words behind it are as they were
pub header_put : (words : List ℕ) (x w m : ℕ) → x + suc m ≤ length words → set words x w ≡ put words x (w ∷ take m (drop (x + 1) words))
header_put words x w m h =
    let a = put_more words x 0 w [] refl (omega arith) in
    let b : set words x w ≡ put words x (w ∷ []) = rw (add-zero, put_none) at a in
    b ∙ put_extend words x m (w ∷ []) (omega arith)

pub forwarded : (size : ℕ) (words : List ℕ) (rows : List Row) (t : Table) (x to : ℕ) → IsTable size words rows
    → table_of size words rows ≡ t → IsSome (object_at t x) → IsOrdinary (region_at t x) → object_words t to ≡ object_words t x → to ≢ x
    → EachForwardedIn (λ y. y ≢ x) t.regions
    → IsWrittenTable size (set words x (header_word (headers.Forwarded to))) rows (replace_tile t x (Forwarded to (object_words t x) ∷ []))
forwarded size words rows t x to g e h ordinary copy apart spared =
    let found = some_object (object_at t x) h in
    let s : Stored = found.0 in
    let o = there size words rows t x s g e found.1 in
    let r = sized_object t to (omega (arith, o.large)) in
    let c = there size words rows t to r.0 g e r.1 in
    let m : ℕ = tile_size (Object s) in
    let w : ℕ = header_word (headers.Forwarded to) in
    let is : header_of w ≡ Some (headers.Forwarded to) = header_of-word (headers.Forwarded to) (omega (arith, c.fits, g.small)) in
    let at : object_at (table_of size words rows) x ≡ Some s = ap (λ (u : Table). object_at u x) e ∙ found.1 in
    elim (object_place (sizes_in words) size words rows x s at) [
      | inl q ↦
          let fits = tile_fits size words rows x (Object s) g q in
          let stale : List ℕ = take (m - 1) (drop (x + 1) words) in
          let len : length stale ≡ m - 1 = simp (length-take, length-drop) (omega (arith, fits)) in
          let one = one_moved (sizes_in words) w to m stale is (c.size_is ∙ copy ∙ o.words_are) (omega arith) (omega (arith, len)) in
          let b : IsBlock (sizes_in words) (w ∷ stale) m (Forwarded to m ∷ []) = record {
            length_is = omega (arith, len);
            tiled = one.tiled;
            tiles_are = one.tiles_are;
          } in
          let fresh : EachForwarded (λ y. HasObject t y × (y ≢ x)) (Forwarded to m ∷ []) =
          ((record { object = r.0; is = r.1 }, apart), tt) in
          let done = tile_replaced size words rows t x (Object s) (w ∷ stale) (Forwarded to m ∷ []) g e q b
          (tile_of t x s found.1) spared fresh in
          rw (header_put words x w (m - 1) (omega (arith, fits)), o.words_are) done.0
      | inr q ↦ absurd (not_first size words rows x (Object s) q (subst (λ (u : Table). IsOrdinary (region_at u x)) (sym e) ordinary))
    ]
