-- What a header counts is what its tile has.
use Rattle.regions.proofs.Common.{◌≡◌, ◌+◌, ◌<◌, ◌∷◌, ◌∙◌, ℕ, Option, Some, List, [], length, refl, sym, subst, Header, Object}
use Rattle.regions.proofs.Common.{inl, inr, arith}
use Rattle.regions.proofs.Common.{Stored, stored_of, tile_by, size_by, counts_of, stored_by, IsObjectHeader, ap}
use Rattle.regions.specs.Shaped.{IsPaired}
use Rattle.heap_words.specs.Contents.{IsPlainHeader}
use Rattle.regions.specs.Tiles.{IsTileHeader}
use Rattle.heap_words.specs.Sizes.{size_of}
use Rattle.heap_words.specs.declared.header.ObjectCounts.{ObjectCounts}
use Rattle.heap_words.specs.declared.header.Header.TheVariants as headers

-- so many pointers, weak slots, held slots and data words
abbrev pub counted : ℕ → ℕ → ℕ → ℕ → ObjectCounts
counted p weak held d = record { pointers = p; weaks = weak; held = held; values = d }

-- how many an object has
abbrev pub counts_in : Stored → ObjectCounts
counts_in s = counted (length s.pointers) (length s.weaks) (length s.held) (length s.values)

abbrev pub IsCountedTile : (ℕ → ℕ) → Option Header → List ℕ → ObjectCounts → Type 0
IsCountedTile sizes o ws c = (tile_by sizes ws o ≡ Object (stored_of c.pointers c.weaks c.held c.values ws))
    × (size_by sizes o ≡ size_of c.pointers (c.weaks + c.held) c.values)

pub counted_tile : (sizes : ℕ → ℕ) (o : Option Header) (ws : List ℕ) (c : ObjectCounts) → counts_of o ≡ Some c → IsCountedTile sizes o ws c
counted_tile sizes (Some (headers.Object p weak d)) ws c e =
    let same : counted p weak 0 d ≡ c = cc in subst (IsCountedTile sizes (Some (headers.Object p weak d)) ws) same (refl, refl)
counted_tile sizes (Some (headers.Pairs p n d)) ws c e =
    let same : counted p n n d ≡ c = cc in subst (IsCountedTile sizes (Some (headers.Pairs p n d)) ws) same (refl, refl)
counted_tile sizes _ ws c e = cc

-- the object that they tell
pub counted_stored : (o : Option Header) (ws : List ℕ) (c : ObjectCounts) → counts_of o ≡ Some c
    → stored_by ws o ≡ stored_of c.pointers c.weaks c.held c.values ws
counted_stored (Some (headers.Object p weak d)) ws c e =
    let same : counted p weak 0 d ≡ c = cc in ap (λ (k : ObjectCounts). stored_of k.pointers k.weaks k.held k.values ws) same
counted_stored (Some (headers.Pairs p n d)) ws c e =
    let same : counted p n n d ≡ c = cc in ap (λ (k : ObjectCounts). stored_of k.pointers k.weaks k.held k.values ws) same
counted_stored _ ws c e = cc

-- a tile's header that counts fields is an object's
pub object_header : (o : Option Header) (c : ObjectCounts) → IsTileHeader o → counts_of o ≡ Some c → IsObjectHeader o
object_header (Some (headers.Object p weak d)) c t e = tt
object_header (Some (headers.Pairs p n d)) c t e = t
object_header _ c t e = cc

-- and where it counts no held slots, that of an object without pairs
pub plain_header : (o : Option Header) (c : ObjectCounts) → IsTileHeader o → counts_of o ≡ Some c → c.held ≡ 0 → IsPlainHeader o
plain_header (Some (headers.Object p weak d)) c t e none = tt
plain_header (Some (headers.Pairs p n d)) c t e none =
    let same : n ≡ c.held = let k : counted p n n d ≡ c = cc in ap (λ (x : ObjectCounts). x.held) k in
    absurd (let some : 0 < n = t in omega (arith, some, same, none))
plain_header _ c t e none = cc

-- an object has no held slots, or as many as weak slots
pub paired_by : (o : Option Header) (s : Stored) → counts_of o ≡ Some (counts_in s) → IsPaired s
paired_by (Some (headers.Object p weak d)) s e =
    let k : counted p weak 0 d ≡ counts_in s = cc in
    let none : length s.held ≡ 0 = sym (ap (λ (x : ObjectCounts). x.held) k) in inl (empty s.held none)
  where
    empty : (hs : List (Option ℕ)) → length hs ≡ 0 → hs ≡ []
    empty [] q = refl
    empty (h ∷ hs) q = absurd (omega (arith, q))
paired_by (Some (headers.Pairs p n d)) s e =
    let k : counted p n n d ≡ counts_in s = cc in
    inr (sym (ap (λ (x : ObjectCounts). x.held) k) ∙ ap (λ (x : ObjectCounts). x.weaks) k)
paired_by _ s e = cc
