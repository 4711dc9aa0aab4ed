-- What a write behind an object's header does to the tiles.
-- the words of one tile
use Rattle.regions.proofs.Common.{◌≡◌, ◌+◌, ◌-◌, ◌<◌, ◌≤◌, ◌∷◌, ◌++◌, ◌∙◌, ℕ, zero, suc, Option, Some, List, [], length, take, drop, map}
use Rattle.regions.proofs.Common.{set, refl, sym, ap, arith, zero-add, length-take, length-set, take-append-drop, drop-set-lt, drop-set-add}
use Rattle.regions.proofs.Common.{take-set-le, header_of, pointer_of, Stored, Tile, Object, tile_at, replace, stored_of, size_by, tiles}
use Rattle.regions.proofs.Common.{IsTiled, put}
use Rattle.std.proofs.lemmas.List.{set-append_left, map-set}
use Rattle.heap_model.specs.Graph.{held_by}
use Rattle.heap_model.proofs.Fields.{field_set}
use Rattle.regions.proofs.Common.{None}
use Rattle.regions.proofs.Common.{counts_of, with_field, fields, tile_size, length-append}
use Rattle.regions.specs.Tiles.{IsTileHeader}
use Rattle.regions.proofs.Words.Counts.{counted, counts_in, counted_tile}
use Rattle.regions.proofs.Words.Parse.{skip_le, stored_of-append, first_tile, tile_at-tiles, tiles-put, IsTiled-put}
use Rattle.regions.proofs.Words.Places.{live_by}

pub tiles_none : (sizes : ℕ → ℕ) (k : ℕ) (ws : List ℕ) → length ws ≡ k → tiles sizes k ws ≡ []
tiles_none sizes k [] e = refl
tiles_none sizes zero (w ∷ ws) e = absurd (omega arith)
tiles_none sizes (suc k) (w ∷ ws) e = tiles_none sizes k ws (omega arith)

pub IsTiled_none : (sizes : ℕ → ℕ) (k : ℕ) (ws : List ℕ) → length ws ≡ k → IsTiled sizes k ws
IsTiled_none sizes k [] e = omega arith
IsTiled_none sizes zero (w ∷ ws) e = absurd (omega arith)
IsTiled_none sizes (suc k) (w ∷ ws) e = IsTiled_none sizes k ws (omega arith)

pub record IsOne (sizes : ℕ → ℕ) (block : List ℕ) (t : Tile) : Type 0 where
  pub tiles_are : tiles sizes 0 block ≡ t ∷ []
  pub tiled : IsTiled sizes 0 block

pub one_object : (sizes : ℕ → ℕ) (w p weak held d : ℕ) (body : List ℕ) → IsTileHeader (header_of w)
    → counts_of (header_of w) ≡ Some (counted p weak held d) → length body ≡ 1 + p + (weak + held) + d
    → IsOne sizes (w ∷ body) (Object (stored_of p weak held d body))
one_object sizes w p weak held d body head e l =
    let n : length body ≡ 2 + p + (weak + held) + d - 1 = omega arith in
    let t = counted_tile sizes (header_of w) body (counted p weak held d) e in
    record {
      tiles_are = rw (t.0, t.1, tiles_none sizes (2 + p + (weak + held) + d - 1) body n) refl;
      tiled = (head, rw t.1 (omega arith), rw t.1 (IsTiled_none sizes (2 + p + (weak + held) + d - 1) body n));
    }

pub take_set : (n : ℕ) (ws : List ℕ) (i v : ℕ) → take n (set ws i v) ≡ set (take n ws) i v
take_set (suc n) (w ∷ ws) (suc i) v = ap (λ xs. w ∷ xs) (take_set n ws i v)
take_set _ _ _ v = refl

-- a write within a block, as the block in its place
pub set_put : (ws : List ℕ) (o m j v : ℕ) → j < m → o + m ≤ length ws → set ws (o + j) v ≡ put ws o (set (take m (drop o ws)) j v)
set_put ws zero m j v h l =
    let n : length (set (take m ws) j v) ≡ m = simp (length-set, length-take) (omega arith) in
    let e : set (take m ws ++ drop m ws) j v ≡ set (take m ws) j v ++ drop m ws =
    set-append_left (take m ws) (drop m ws) j v (simp length-take (omega arith)) in
    let whole : take m ws ++ drop m ws ≡ ws = take-append-drop m ws in
    rw (zero-add j, n) (rw whole at e)
set_put [] (suc o) m j v h l = absurd (omega arith)
set_put (w ∷ ws) (suc o) m j v h l =
    let e : suc o + j ≡ suc (o + j) = omega arith in
    rw e (ap (λ xs. w ∷ xs) (set_put ws o m j v h (omega arith)))

-- what the object's words say once one behind its header is written
abbrev pub Turns : Stored → ℕ → ℕ → Stored → Type 0
Turns s j v s' = (body : List ℕ) → 1 + length s.pointers + (length s.weaks + length s.held) + length s.values ≤ length body
    → s ≡ stored_of (length s.pointers) (length s.weaks) (length s.held) (length s.values) body
    → stored_of (length s.pointers) (length s.weaks) (length s.held) (length s.values) (set body j v) ≡ s'

-- the words of the object at an offset
pub record IsObjectAt (content : List ℕ) (o : ℕ) (s : Stored) : Type 0 where
  pub word : ℕ
  pub body : List ℕ
  pub words_are : take (2 + length s.pointers + (length s.weaks + length s.held) + length s.values) (drop o content) ≡ word ∷ body
  pub header_is : counts_of (header_of word) ≡ Some (counts_in s)
  pub head : IsTileHeader (header_of word)
  pub length_is : length body ≡ 1 + length s.pointers + (length s.weaks + length s.held) + length s.values
  pub stored_is : s ≡ stored_of (length s.pointers) (length s.weaks) (length s.held) (length s.values) body

object_words : (sizes : ℕ → ℕ) (content ws : List ℕ) (o : ℕ) (s : Stored) → drop o content ≡ ws → IsTiled sizes 0 ws
    → first_tile sizes ws ≡ Object s → IsObjectAt content o s
object_words sizes content [] o s e t f = cc
object_words sizes content (w ∷ ws) o s e t f =
    let fits = skip_le sizes (size_by sizes (header_of w) - 1) ws t.2 in
    let l = live_by sizes (header_of w) ws s t.0 fits f in
    let n : size_by sizes (header_of w) ≡ 2 + length s.pointers + (length s.weaks + length s.held) + length s.values =
    (counted_tile sizes (header_of w) ws (counts_in s) l.counts).1 in
    let m : 2 + length s.pointers + (length s.weaks + length s.held) + length s.values
    ≡ suc (1 + length s.pointers + (length s.weaks + length s.held) + length s.values) =
    omega arith in
    let len : length (take (1 + length s.pointers + (length s.weaks + length s.held) + length s.values) ws)
    ≡ 1 + length s.pointers + (length s.weaks + length s.held) + length s.values =
    simp length-take (omega arith) in
    let same : stored_of (length s.pointers) (length s.weaks) (length s.held) (length s.values)
    (take (1 + length s.pointers + (length s.weaks + length s.held) + length s.values) ws
    ++ drop (1 + length s.pointers + (length s.weaks + length s.held) + length s.values) ws)
    ≡ stored_of (length s.pointers) (length s.weaks) (length s.held) (length s.values)
    (take (1 + length s.pointers + (length s.weaks + length s.held) + length s.values) ws) =
    stored_of-append _ _ _ _ _ _ (omega arith) in
    record {
      word = w;
      body = take (1 + length s.pointers + (length s.weaks + length s.held) + length s.values) ws;
      words_are = rw (e, m) refl;
      header_is = l.counts;
      head = t.0;
      length_is = len;
      stored_is = l.stored
          ∙ (rw (take-append-drop (1 + length s.pointers + (length s.weaks + length s.held) + length s.values) ws) at same);
    }

pub record IsObjectSet (sizes : ℕ → ℕ) (content : List ℕ) (o j v : ℕ) (s : Stored) : Type 0 where
  pub tiles_are : tiles sizes 0 (set content (o + j) v) ≡ replace o (Object s ∷ []) (tiles sizes 0 content)
  pub tiled : IsTiled sizes 0 (set content (o + j) v)

pub object_set : (sizes : ℕ → ℕ) (content : List ℕ) (o j v : ℕ) (s s' : Stored) → IsTiled sizes 0 content
    → tile_at o (tiles sizes 0 content) ≡ Some (Object s) → j < 1 + length s.pointers + (length s.weaks + length s.held) + length s.values
    → Turns s j v s'
    → IsObjectSet sizes content o (suc j) v s'
object_set sizes content o j v s s' t f h g =
    let at = tile_at-tiles sizes 0 o o content (Object s) t (omega arith) f in
    let w = object_words sizes content (drop o content) o s refl at.2 at.0 in
    let size : ℕ = 2 + length s.pointers + (length s.weaks + length s.held) + length s.values in
    let e : set content (o + suc j) v ≡ put content o (set (take size (drop o content)) (suc j) v) =
    set_put content o size (suc j) v (omega arith) at.1 in
    let b : set (take size (drop o content)) (suc j) v ≡ w.word ∷ set w.body j v = ap (λ ws. set ws (suc j) v) w.words_are in
    let one = one_object sizes w.word (length s.pointers) (length s.weaks) (length s.held) (length s.values) (set w.body j v)
    w.head w.header_is
    (length-set w.body j v ∙ w.length_is) in
    let turned : stored_of (length s.pointers) (length s.weaks) (length s.held) (length s.values) (set w.body j v) ≡ s' =
    g w.body (omega (arith, w.length_is)) w.stored_is in
    let len : length (w.word ∷ set w.body j v) ≡ size = simp length-set (omega (arith, w.length_is)) in
    record {
      tiles_are = rw (e, b) (tiles-put sizes 0 o o content (w.word ∷ set w.body j v) (Object s) t (omega arith) f len one.tiled
          ∙ rw (one.tiles_are, turned) refl);
      tiled = rw (e, b) (IsTiled-put sizes 0 o o content (w.word ∷ set w.body j v) (Object s) t (omega arith) f len one.tiled);
    }

-- the object with one pointer changed
abbrev pub with_pointer : Stored → ℕ → Option ℕ → Stored
with_pointer s i v = record s { pointers = set s.pointers i v }

stored_of-set_pointer : (p weak held d : ℕ) (body : List ℕ) (i v : ℕ) → i < p → 1 + p + (weak + held) + d ≤ length body
    → stored_of p weak held d (set body (suc i) v) ≡ with_pointer (stored_of p weak held d body) i (pointer_of v)
stored_of-set_pointer p weak held d [] i v h l = absurd (omega arith)
stored_of-set_pointer p weak held d (w ∷ ws) i v h l =
    let a : map pointer_of (take p (set ws i v)) ≡ set (map pointer_of (take p ws)) i (pointer_of v) =
    rw (take_set p ws i v) (map-set pointer_of (take p ws) i v) in
    let b : drop p (set ws i v) ≡ drop p ws = drop-set-lt p ws i v h in
    let c : drop (p + weak) (set ws i v) ≡ drop (p + weak) ws = drop-set-lt (p + weak) ws i v (omega arith) in
    let e : drop (p + (weak + held)) (set ws i v) ≡ drop (p + (weak + held)) ws =
    drop-set-lt (p + (weak + held)) ws i v (omega arith) in
    cc

pub turns_pointer : (s : Stored) (i v : ℕ) → i < length s.pointers → Turns s (suc i) v (with_pointer s i (pointer_of v))
turns_pointer s i v h = λ body l e.
    stored_of-set_pointer _ _ _ _ body i v h l ∙ ap (λ (r : Stored). with_pointer r i (pointer_of v)) (sym e)

-- the object with one weak slot changed
abbrev pub with_weak : Stored → ℕ → Option ℕ → Stored
with_weak s i v = record s { weaks = set s.weaks i v }

stored_of-set_weak : (p weak held d : ℕ) (body : List ℕ) (i v : ℕ) → i < weak → 1 + p + (weak + held) + d ≤ length body
    → stored_of p weak held d (set body (suc p + i) v) ≡ with_weak (stored_of p weak held d body) i (pointer_of v)
stored_of-set_weak p weak held d [] i v h l = absurd (omega arith)
stored_of-set_weak p weak held d (w ∷ ws) i v h l =
    let at : suc p + i ≡ suc (p + i) = omega arith in
    let a : take p (set ws (p + i) v) ≡ take p ws = take-set-le p ws (p + i) v (omega arith) in
    let b : map pointer_of (take weak (drop p (set ws (p + i) v))) ≡ set (map pointer_of (take weak (drop p ws))) i (pointer_of v)
    = ap (λ (xs : List ℕ). map pointer_of (take weak xs)) (drop-set-add p ws i v)
    ∙ ap (λ (xs : List ℕ). map pointer_of xs) (take_set weak (drop p ws) i v) ∙ map-set pointer_of (take weak (drop p ws)) i v in
    let c : drop (p + weak) (set ws (p + i) v) ≡ drop (p + weak) ws = drop-set-lt (p + weak) ws (p + i) v (omega arith) in
    let e : drop (p + (weak + held)) (set ws (p + i) v) ≡ drop (p + (weak + held)) ws =
    drop-set-lt (p + (weak + held)) ws (p + i) v (omega arith) in
    rw (at, a, b, c, e) refl

pub turns_weak : (s : Stored) (i v : ℕ) → i < length s.weaks → Turns s (suc (length s.pointers) + i) v (with_weak s i (pointer_of v))
turns_weak s i v h = λ body l e. stored_of-set_weak _ _ _ _ body i v h l ∙ ap (λ (r : Stored). with_weak r i (pointer_of v)) (sym e)

-- a field that is set leaves as many held slots, and the object as long
pub field_held : (s : Stored) (i : ℕ) (v : Option ℕ) → length (with_field s i v).held ≡ length s.held
field_held s i v =
    let f = field_set s i v in
    let y : Stored = with_field s i v in
    let all = ap (λ (l : List (Option ℕ)). length l) f.fields_are ∙ length-set (fields s) i v in
    omega (
      arith,
      all,
      f.shape,
      f.slots,
      length-append s.pointers (s.weaks ++ s.held),
      length-append s.weaks s.held,
      length-append y.pointers (y.weaks ++ y.held),
      length-append y.weaks y.held,
    )

pub field_size : (s : Stored) (i : ℕ) (v : Option ℕ) → tile_size (Object (with_field s i v)) ≡ tile_size (Object s)
field_size s i v = let f = field_set s i v in omega (arith, f.shape, ap length f.values, f.slots, field_held s i v)

-- what keys that are nil held goes, and as many slots are left
pub held_by_long : (ws vs : List (Option ℕ)) → length (held_by ws vs) ≡ length vs
held_by_long ws [] = refl
held_by_long [] (v ∷ vs) = ap suc (held_by_long [] vs)
held_by_long (None ∷ ws) (v ∷ vs) = ap suc (held_by_long ws vs)
held_by_long (Some k ∷ ws) (v ∷ vs) = ap suc (held_by_long ws vs)

-- the object with one held slot changed
abbrev pub with_held : Stored → ℕ → Option ℕ → Stored
with_held s i v = record s { held = set s.held i v }

stored_of-set_held : (p weak held d : ℕ) (body : List ℕ) (i v : ℕ) → i < held → 1 + p + (weak + held) + d ≤ length body
    → stored_of p weak held d (set body (suc (p + weak) + i) v) ≡ with_held (stored_of p weak held d body) i (pointer_of v)
stored_of-set_held p weak held d [] i v h l = absurd (omega arith)
stored_of-set_held p weak held d (w ∷ ws) i v h l =
    let at : suc (p + weak) + i ≡ suc (p + weak + i) = omega arith in
    let from : p + weak + i ≡ p + (weak + i) = omega arith in
    let a : take p (set ws (p + weak + i) v) ≡ take p ws = take-set-le p ws (p + weak + i) v (omega arith) in
    let b : take weak (drop p (set ws (p + weak + i) v)) ≡ take weak (drop p ws) =
    ap (λ n. take weak (drop p (set ws n v))) from ∙ ap (take weak) (drop-set-add p ws (weak + i) v)
    ∙ take-set-le weak (drop p ws) (weak + i) v (omega arith) in
    let c : map pointer_of (take held (drop (p + weak) (set ws (p + weak + i) v)))
    ≡ set (map pointer_of (take held (drop (p + weak) ws))) i (pointer_of v) =
    ap (λ (xs : List ℕ). map pointer_of (take held xs)) (drop-set-add (p + weak) ws i v)
    ∙ ap (λ (xs : List ℕ). map pointer_of xs) (take_set held (drop (p + weak) ws) i v)
    ∙ map-set pointer_of (take held (drop (p + weak) ws)) i v in
    let e : drop (p + (weak + held)) (set ws (p + weak + i) v) ≡ drop (p + (weak + held)) ws =
    drop-set-lt (p + (weak + held)) ws (p + weak + i) v (omega arith) in
    rw (at, a, b, c, e) refl

pub turns_held : (s : Stored) (i v : ℕ) → i < length s.held
    → Turns s (suc (length s.pointers + length s.weaks) + i) v (with_held s i (pointer_of v))
turns_held s i v h = λ body l e. stored_of-set_held _ _ _ _ body i v h l ∙ ap (λ (r : Stored). with_held r i (pointer_of v)) (sym e)
