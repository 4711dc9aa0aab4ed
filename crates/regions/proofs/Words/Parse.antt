-- How the tiles of words change with the words.
-- the tile that began before the words ends in them
use Rattle.regions.proofs.Common.{◌≡◌, ◌+◌, ◌-◌, ◌<◌, ◌≤◌, ◌∷◌, ◌++◌, ℕ, zero, suc, Option, Some, None, List, [], length, take, drop}
use Rattle.regions.proofs.Common.{get_or, refl, sym, ap, arith, cond, leb, inl, inr, length-take, length-drop, length-map, drop-append-le}
use Rattle.regions.proofs.Common.{take-append-drop, get_or_append_left, leb_tells, Header, header_of, Tile, Object, Filler, tile_size}
use Rattle.regions.proofs.Common.{tile_at, replace, stored_of, tile_by, size_by, tiles, IsTiled, put}
use Rattle.std.proofs.lemmas.List.{take-append-le}
use Rattle.heap_words.specs.declared.header.Header.TheVariants as headers

pub skip_le : (sizes : ℕ → ℕ) (k : ℕ) (ws : List ℕ) → IsTiled sizes k ws → k ≤ length ws
skip_le sizes (suc k) (w ∷ ws) h = let e = skip_le sizes k ws h in omega arith
skip_le sizes _ _ h = omega arith

pub tiles-skip : (sizes : ℕ → ℕ) (k : ℕ) (ws : List ℕ) → tiles sizes k ws ≡ tiles sizes 0 (drop k ws)
tiles-skip sizes (suc k) (w ∷ ws) = tiles-skip sizes k ws
tiles-skip sizes _ _ = refl

pub IsTiled-skip : (sizes : ℕ → ℕ) (k : ℕ) (ws : List ℕ) → IsTiled sizes k ws → IsTiled sizes 0 (drop k ws)
IsTiled-skip sizes (suc k) [] h = refl
IsTiled-skip sizes (suc k) (w ∷ ws) h = IsTiled-skip sizes k ws h
IsTiled-skip sizes zero _ h = h

pub IsTiled-append : (sizes : ℕ → ℕ) (k : ℕ) (xs ys : List ℕ) → IsTiled sizes k xs → IsTiled sizes 0 ys → IsTiled sizes k (xs ++ ys)
IsTiled-append sizes k [] ys h g = rw h g
IsTiled-append sizes zero (x ∷ xs) ys h g = (h.0, h.1, IsTiled-append sizes _ xs ys h.2 g)
IsTiled-append sizes (suc k) (x ∷ xs) ys h g = IsTiled-append sizes k xs ys h g

pub get_or-append : (xs ys : List ℕ) (i : ℕ) → i < length xs → get_or (xs ++ ys) i 0 ≡ get_or xs i 0
get_or-append xs ys i h = get_or_append_left xs ys 0 i h

pub stored_of-append : (p weak held d : ℕ) (xs ys : List ℕ) → 1 + p + (weak + held) + d ≤ length xs
    → stored_of p weak held d (xs ++ ys) ≡ stored_of p weak held d xs
stored_of-append p weak held d xs ys h =
    let e0 : get_or (xs ++ ys) 0 0 ≡ get_or xs 0 0 = get_or-append xs ys 0 (omega arith) in
    let e1 : drop 1 (xs ++ ys) ≡ drop 1 xs ++ ys = drop-append-le 1 xs ys (omega arith) in
    let e2 : drop (suc p) (xs ++ ys) ≡ drop (suc p) xs ++ ys = drop-append-le (suc p) xs ys (omega arith) in
    let e3 : take p (drop 1 xs ++ ys) ≡ take p (drop 1 xs) = take-append-le p (drop 1 xs) ys (omega (arith, length-drop 1 xs)) in
    let e4 : take weak (drop (suc p) xs ++ ys) ≡ take weak (drop (suc p) xs) =
    take-append-le weak (drop (suc p) xs) ys (omega (arith, length-drop (suc p) xs)) in
    let e5 : drop (suc (p + weak)) (xs ++ ys) ≡ drop (suc (p + weak)) xs ++ ys = drop-append-le (suc (p + weak)) xs ys (omega arith) in
    let e6 : take held (drop (suc (p + weak)) xs ++ ys) ≡ take held (drop (suc (p + weak)) xs) =
    take-append-le held (drop (suc (p + weak)) xs) ys (omega (arith, length-drop (suc (p + weak)) xs)) in
    let e7 : drop (suc (p + (weak + held))) (xs ++ ys) ≡ drop (suc (p + (weak + held))) xs ++ ys =
    drop-append-le (suc (p + (weak + held))) xs ys (omega arith) in
    let e8 : take d (drop (suc (p + (weak + held))) xs ++ ys) ≡ take d (drop (suc (p + (weak + held))) xs) =
    take-append-le d (drop (suc (p + (weak + held))) xs) ys (omega (arith, length-drop (suc (p + (weak + held))) xs)) in
    cc

-- what a tile says does not depend on the words after it
pub tile_by-append : (sizes : ℕ → ℕ) (o : Option Header) (xs ys : List ℕ) → size_by sizes o - 1 ≤ length xs
    → tile_by sizes (xs ++ ys) o ≡ tile_by sizes xs o
tile_by-append sizes (Some (headers.Object p weak d)) xs ys h = ap Object (stored_of-append p weak 0 d xs ys (omega arith))
tile_by-append sizes (Some (headers.Pairs p n d)) xs ys h = ap Object (stored_of-append p n n d xs ys (omega arith))
tile_by-append sizes _ xs ys h = refl

pub tiles-append : (sizes : ℕ → ℕ) (k : ℕ) (xs ys : List ℕ) → IsTiled sizes k xs
    → tiles sizes k (xs ++ ys) ≡ tiles sizes k xs ++ tiles sizes 0 ys
tiles-append sizes k [] ys h = rw h refl
tiles-append sizes zero (x ∷ xs) ys h =
    let k = size_by sizes (header_of x) - 1 in
    let e : tile_by sizes (xs ++ ys) (header_of x) ≡ tile_by sizes xs (header_of x) =
    tile_by-append sizes (header_of x) xs ys (skip_le sizes k xs h.2) in
    let f : tiles sizes k (xs ++ ys) ≡ tiles sizes k xs ++ tiles sizes 0 ys = tiles-append sizes k xs ys h.2 in
    cc
tiles-append sizes (suc k) (x ∷ xs) ys h = tiles-append sizes k xs ys h

-- a tile that fits has the size that its header says
pub tile_size-by : (sizes : ℕ → ℕ) (o : Option Header) (ws : List ℕ) → size_by sizes o - 1 ≤ length ws
    → tile_size (tile_by sizes ws o) ≡ size_by sizes o
tile_size-by sizes (Some (headers.Object p weak d)) ws h = simp (length-map, length-take, length-drop) (omega arith)
tile_size-by sizes (Some (headers.Pairs p n d)) ws h = simp (length-map, length-take, length-drop) (omega arith)
tile_size-by sizes _ ws h = refl

-- the tile that the words begin with
abbrev pub first_tile : (ℕ → ℕ) → List ℕ → Tile
first_tile sizes [] = Filler 1
first_tile sizes (w ∷ ws) = tile_by sizes ws (header_of w)

pub past : (s o : ℕ) (r : Option Tile) (t : Tile) → cond (leb s o) r None ≡ Some t → (s ≤ o) × (r ≡ Some t)
past s o r t f =
    elim (leb_tells s o) [ inl u ↦ (u.1, rw u.0 at f) | inr u ↦ absurd (let g : None ≡ Some t = rw u.0 at f in cc) ]

-- the tile at an offset is the one that its words say, and it fits
pub tile_at-tiles : (sizes : ℕ → ℕ) (k o n : ℕ) (ws : List ℕ) (t : Tile) → IsTiled sizes k ws → n ≡ k + o
    → tile_at o (tiles sizes k ws) ≡ Some t
    → (first_tile sizes (drop n ws) ≡ t) × (n + tile_size t ≤ length ws) × IsTiled sizes 0 (drop n ws)
tile_at-tiles sizes k o n [] t h e f = cc
tile_at-tiles sizes zero zero zero (w ∷ ws) t h e f =
    let k = size_by sizes (header_of w) - 1 in
    let r : tile_by sizes ws (header_of w) ≡ t = cc in
    let fits : k ≤ length ws = skip_le sizes k ws h.2 in
    let is : tile_size (tile_by sizes ws (header_of w)) ≡ size_by sizes (header_of w) = tile_size-by sizes (header_of w) ws fits in
    let size : tile_size t ≡ tile_size (tile_by sizes ws (header_of w)) = ap tile_size (sym r) in
    (r, omega arith, h)
tile_at-tiles sizes zero (suc o) (suc n) (w ∷ ws) t h e f =
    let k = size_by sizes (header_of w) - 1 in
    let fits : k ≤ length ws = skip_le sizes k ws h.2 in
    let is : tile_size (tile_by sizes ws (header_of w)) ≡ size_by sizes (header_of w) = tile_size-by sizes (header_of w) ws fits in
    let p = past (tile_size (tile_by sizes ws (header_of w))) (suc o) _ t f in
    let r = tile_at-tiles sizes k (suc o - tile_size (tile_by sizes ws (header_of w))) n ws t h.2 (omega (arith, p.0)) p.1 in
    (r.0, omega (arith, r.1), r.2)
tile_at-tiles sizes (suc k) o (suc n) (w ∷ ws) t h e f =
    let r = tile_at-tiles sizes k o n ws t h (omega arith) f in
    (r.0, omega (arith, r.1), r.2)
tile_at-tiles sizes _ _ _ (w ∷ ws) t h e f = absurd (omega arith)

-- what stands before the place is as before
put_front : (ws : List ℕ) (n : ℕ) (block : List ℕ) → n ≤ length ws → (ys : List ℕ) × (put ws n block ≡ take n ws ++ ys)
put_front ws zero block h = (block ++ drop (length block) ws, refl)
put_front [] (suc n) block h = absurd (omega arith)
put_front (w ∷ ws) (suc n) block h = let r = put_front ws n block (omega arith) in (r.0, ap (λ xs. w ∷ xs) r.1)

tile_by-put : (sizes : ℕ → ℕ) (o : Option Header) (ws : List ℕ) (n : ℕ) (block : List ℕ) → size_by sizes o - 1 ≤ n → n ≤ length ws
    → tile_by sizes (put ws n block) o ≡ tile_by sizes ws o
tile_by-put sizes o ws n block h b =
    let r = put_front ws n block b in
    let fits : size_by sizes o - 1 ≤ length (take n ws) = simp length-take (omega arith) in
    let e : tile_by sizes (take n ws ++ r.0) o ≡ tile_by sizes (take n ws) o = tile_by-append sizes o (take n ws) r.0 fits in
    let f : tile_by sizes (take n ws ++ drop n ws) o ≡ tile_by sizes (take n ws) o = tile_by-append sizes o (take n ws) (drop n ws) fits in
    let whole : take n ws ++ drop n ws ≡ ws = take-append-drop n ws in
    cc r.1

-- behind the first tile
drop_first : (n k w : ℕ) (ws : List ℕ) → n ≡ suc k → drop n (w ∷ ws) ≡ drop k ws
drop_first n k w ws e = ap (λ m. drop m (w ∷ ws)) e

-- the block that the words begin with is in other words at its place
pub IsTiled-put : (sizes : ℕ → ℕ) (k o n : ℕ) (ws block : List ℕ) (t : Tile) → IsTiled sizes k ws → n ≡ k + o
    → tile_at o (tiles sizes k ws) ≡ Some t → length block ≡ tile_size t → IsTiled sizes 0 block → IsTiled sizes k (put ws n block)
IsTiled-put sizes k o n [] block t h e f l g = cc
IsTiled-put sizes zero zero zero (w ∷ ws) block t h e f l g =
    let k = size_by sizes (header_of w) - 1 in
    let r : tile_by sizes ws (header_of w) ≡ t = cc in
    let fits : k ≤ length ws = skip_le sizes k ws h.2 in
    let is : tile_size (tile_by sizes ws (header_of w)) ≡ size_by sizes (header_of w) = tile_size-by sizes (header_of w) ws fits in
    let size : tile_size t ≡ tile_size (tile_by sizes ws (header_of w)) = ap tile_size (sym r) in
    rw (drop_first (length block) k w ws (omega arith)) (IsTiled-append sizes 0 block _ g (IsTiled-skip sizes k ws h.2))
IsTiled-put sizes zero (suc o) (suc n) (w ∷ ws) block t h e f l g =
    let k = size_by sizes (header_of w) - 1 in
    let fits : k ≤ length ws = skip_le sizes k ws h.2 in
    let is : tile_size (tile_by sizes ws (header_of w)) ≡ size_by sizes (header_of w) = tile_size-by sizes (header_of w) ws fits in
    let p = past (tile_size (tile_by sizes ws (header_of w))) (suc o) _ t f in
    (h.0, h.1, IsTiled-put sizes k _ n ws block t h.2 (omega (arith, p.0)) p.1 l g)
IsTiled-put sizes (suc k) o (suc n) (w ∷ ws) block t h e f l g = IsTiled-put sizes k o n ws block t h (omega arith) f l g
IsTiled-put sizes _ _ _ (w ∷ ws) block t h e f l g = absurd (omega arith)

pub tiles-put : (sizes : ℕ → ℕ) (k o n : ℕ) (ws block : List ℕ) (t : Tile) → IsTiled sizes k ws → n ≡ k + o
    → tile_at o (tiles sizes k ws) ≡ Some t → length block ≡ tile_size t → IsTiled sizes 0 block
    → tiles sizes k (put ws n block) ≡ replace o (tiles sizes 0 block) (tiles sizes k ws)
tiles-put sizes k o n [] block t h e f l g = cc
tiles-put sizes zero zero zero (w ∷ ws) block t h e f l g =
    let k = size_by sizes (header_of w) - 1 in
    let r : tile_by sizes ws (header_of w) ≡ t = cc in
    let fits : k ≤ length ws = skip_le sizes k ws h.2 in
    let is : tile_size (tile_by sizes ws (header_of w)) ≡ size_by sizes (header_of w) = tile_size-by sizes (header_of w) ws fits in
    let size : tile_size t ≡ tile_size (tile_by sizes ws (header_of w)) = ap tile_size (sym r) in
    rw (drop_first (length block) k w ws (omega arith), tiles-append sizes 0 block (drop k ws) g, tiles-skip sizes k ws) refl
tiles-put sizes zero (suc o) (suc n) (w ∷ ws) block t h e f l g =
    let k = size_by sizes (header_of w) - 1 in
    let fits : k ≤ length ws = skip_le sizes k ws h.2 in
    let is : tile_size (tile_by sizes ws (header_of w)) ≡ size_by sizes (header_of w) = tile_size-by sizes (header_of w) ws fits in
    let p = past (tile_size (tile_by sizes ws (header_of w))) (suc o) _ t f in
    let at = tile_at-tiles sizes k _ n ws t h.2 (omega (arith, p.0)) p.1 in
    let same : tile_by sizes (put ws n block) (header_of w) ≡ tile_by sizes ws (header_of w) =
    tile_by-put sizes (header_of w) ws n block (omega (arith, p.0)) (omega (arith, at.1)) in
    let rest = tiles-put sizes k _ n ws block t h.2 (omega (arith, p.0)) p.1 l g in
    cc
tiles-put sizes (suc k) o (suc n) (w ∷ ws) block t h e f l g = tiles-put sizes k o n ws block t h (omega arith) f l g
tiles-put sizes _ _ _ (w ∷ ws) block t h e f l g = absurd (omega arith)
