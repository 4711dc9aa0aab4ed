-- An object is copied to the top of a region and forwarded to its copy.
use Rattle.std.proofs.Common.{◌≡◌, ◌≢◌, ◌+◌, ◌*◌, ◌/◌, ◌%◌, ◌<◌, ◌≤◌, ◌∷◌, ◌∙◌, ℕ, [], Option, Some, None, length, get_or, refl, sym, ap}
use Rattle.std.proofs.Common.{subst, arith, IsSome, IfSome}
use Rattle.regions.specs.Shaped.{IsShaped}
use Rattle.heap_model.specs.Heap.{Stored}
use Rattle.regions.specs.Tiles.{Tile, Object, Forwarded, tile_size}
use Rattle.regions.specs.Table.{Region, Free, Ordinary, Table, region_at, nth_region, region_tile, region_used}
use Rattle.regions.specs.Table.{region_replaced, region_with_tile, tile_in, tile_object, object_at, object_words, stored_size, kind_of}
use Rattle.regions.specs.Table.{used_of, top_of, push_tile, replace_tile, IsOrdinary, EachForwardedIn, free_count}
use Rattle.regions.specs.Walks.{AreFitting}
use Rattle.regions.specs.declared.row.Kind.TheVariants as kinds
use Rattle.regions.proofs.Tiles.Laws.{object_tile}
use Rattle.regions.proofs.Tiles.Placing.{Pushed, filler_push, ordinary_at}
use Rattle.regions.proofs.Words.Sizes.{EachForwardedIn-set, EachForwardedIn-at, EachForwarded-append, EachForwarded-replace}
use Rattle.regions.proofs.Tiles.TileLaws.{Forwards, object_forwarded}
use Rattle.regions.proofs.Tiles.Totals.{used_same, total-replace}
use Rattle.object_copy.specs.Copies.{Destinations, Opens, CopiesAndForwards, CopiesObject}
use Rattle.object_copy.proofs.Frees.{same_free}
use Rattle.object_copy.proofs.Opened.{Opened, opened, opened_moved}

pub ordinary_region : (t : Table) (a : ℕ) → kind_of t (a / t.words_per_region) ≡ kinds.Ordinary → IsOrdinary (region_at t a)
unfolding kind_of nth_region region_at
ordinary_region t a e = let q = ordinary_at (get_or t.regions (a / t.words_per_region) Free) e in subst IsOrdinary (sym q.is) tt

replaced_used : (size o : ℕ) (r : Region) (u n : Tile) → region_tile r o ≡ Some u → tile_size n ≡ tile_size u
    → region_used size (region_replaced r o (n ∷ [])) ≡ region_used size r
replaced_used size o Free u n h e = absurd cc
replaced_used size o (Ordinary ts) u n h e = total-replace ts (n ∷ []) o u h (omega arith)
replaced_used size o _ u n h e = refl

tile_of : (t : Table) (a : ℕ) (u : Tile) → tile_in t a ≡ Some u
    → region_tile (nth_region t (a / t.words_per_region)) (a % t.words_per_region) ≡ Some u
unfolding tile_in region_at nth_region
tile_of t a u h = h

used_replaced : (t : Table) (a : ℕ) (u n : Tile) → tile_in t a ≡ Some u → tile_size n ≡ tile_size u → (j : ℕ)
    → used_of (replace_tile t a (n ∷ [])) j ≡ used_of t j
unfolding replace_tile region_at nth_region used_of
used_replaced t a u n h e j =
    used_same t (a / t.words_per_region)
    (region_replaced (get_or t.regions (a / t.words_per_region) Free) (a % t.words_per_region) (n ∷ []))
    (a % t.words_per_region) u (tile_of t a u h)
    (replaced_used t.words_per_region (a % t.words_per_region) (get_or t.regions (a / t.words_per_region) Free) u n (tile_of t a u h) e) j

pub pushed_moved : (P : ℕ → Type 0) (t : Table) (k : ℕ) (x : Stored) → EachForwardedIn P t.regions
    → EachForwardedIn P (push_tile t k (Object x)).regions
unfolding push_tile nth_region
pushed_moved P t k x m = EachForwardedIn-set P t.regions k (region_with_tile (get_or t.regions k Free) (Object x))
    (one (get_or t.regions k Free) (EachForwardedIn-at P t.regions k m)) m
  where
    one : (r : Region) → EachForwardedIn P (r ∷ []) → EachForwardedIn P (region_with_tile r (Object x) ∷ [])
    one Free h = tt
    one (Ordinary ts) h = (EachForwarded-append P ts (Object x ∷ []) h.0 tt, tt)
    one _ h = tt

object_of : (t : Table) (a : ℕ) (u : Option Tile) → tile_in t a ≡ u → object_at t a ≡ tile_object u
unfolding object_at
object_of t a u e = ap tile_object e

pub tile_of_object : (t : Table) (a : ℕ) (x : Stored) → object_at t a ≡ Some x → tile_in t a ≡ Some (Object x)
unfolding object_at
tile_of_object t a x e = object_tile (tile_in t a) x e

pub some_of : (o : Option Stored) → IsSome o → (x : Stored) × (o ≡ Some x)
some_of None h = absurd cc
some_of (Some x) h = (x, refl)

pub words_of : (t : Table) (a : ℕ) (x : Stored) → object_at t a ≡ Some x → object_words t a ≡ tile_size (Object x)
unfolding object_words
words_of t a x e = ap stored_size e

module _ (t o : Table) (k from : ℕ) (x : Stored) (w : Opened t o k) (z : 0 < t.words_per_region) (fitting : AreFitting o)
    (at : object_at t from ≡ Some x) (ordinary : kind_of t (from / t.words_per_region) ≡ kinds.Ordinary)
    (room : used_of o k + tile_size (Object x) ≤ o.words_per_region) where
  positive : 0 < o.words_per_region
  positive = let e = w.size in omega arith

  abbrev to : ℕ
  to = k * o.words_per_region + used_of o k

  abbrev p : Table
  p = push_tile o k (Object x)

  pub pushed : Pushed o p k to (Object x)
  pushed = filler_push o k (Object x) positive fitting (let e = w.count in let n = w.known in omega arith) w.ordinary (omega arith) room tt

  pub here : tile_in o from ≡ Some (Object x)
  here = w.tiles from ∙ tile_of_object t from x at

  pub apart : to ≢ from
  apart e = let q = pushed.was in let r = ap (tile_in o) e in let h = here in absurd cc

  pub stands : tile_in p from ≡ Some (Object x)
  stands = pushed.others from (λ e. apart (sym e)) ∙ here

  pub object_there : object_at o from ≡ Some x
  object_there = object_of o from (Some (Object x)) here

  pub object : object_at p from ≡ Some x
  object = object_of p from (Some (Object x)) stands

  pub copy : object_at p to ≡ Some x
  copy = object_of p to (Some (Object x)) pushed.is

  pub region : IsOrdinary (region_at p from)
  region = ordinary_region p from (
      let e : p.words_per_region ≡ t.words_per_region = pushed.size ∙ w.size in
      subst (λ (n : ℕ). kind_of p (from / n) ≡ kinds.Ordinary) (sym e)
      (pushed.kinds_same (from / t.words_per_region) ∙ w.stays (from / t.words_per_region) ordinary)
      )

  abbrev after : Table
  after = replace_tile p from (Forwarded to (tile_size (Object x)) ∷ [])

  forwards : Forwards p after from to (tile_size (Object x))
  forwards = object_forwarded p from to x (let e = pushed.size in let q = positive in omega arith) region stands

  frees : free_count after ≡ free_count o
  frees = same_free o after (forwards.count ∙ pushed.count) (λ j. forwards.kinds_same j ∙ pushed.kinds_same j)

  pub copies : CopiesObject t after k from to x
  copies =
      let f = forwards in
      let u = used_replaced p from (Object x) (Forwarded to (tile_size (Object x))) stands refl in
      record {
        size = f.size ∙ pushed.size ∙ w.size;
        count = f.count ∙ pushed.count ∙ w.count;
        known = w.known;
        ordinary = f.kinds_same k ∙ pushed.kinds_same k ∙ w.ordinary;
        was_free = w.was_free;
        kinds_same = λ j n. f.kinds_same j ∙ pushed.kinds_same j ∙ w.kinds_same j n;
        at = ap (λ (n : ℕ). k * n + used_of o k) w.size ∙ ap (λ (n : ℕ). k * t.words_per_region + n) (w.used k);
        within = let e = w.size in let q = w.used k in omega arith;
        was = sym (w.tiles to) ∙ pushed.was;
        copy = f.others to apart ∙ pushed.is;
        forwarded = f.is;
        others = λ y n m. f.others y n ∙ pushed.others y m ∙ w.tiles y;
        used = u k ∙ pushed.used ∙ ap (λ (n : ℕ). n + tile_size (Object x)) (w.used k);
        used_same = λ j n. u j ∙ pushed.used_others j n ∙ w.used j;
        free_same = λ e. frees ∙ w.free_same e;
        free_less = λ e. (let a = frees in let b = w.free_less e in omega arith);
      }

-- what the copy of an object asks, before and after the object is at the top of its destination
pub record CanCopy (o : Table) (k from : ℕ) : Type 0 where
  pub object : IsSome (object_at o from)
  pub room : used_of o k + object_words o from ≤ o.words_per_region

pub record CanForward (u : Table) (from to : ℕ) : Type 0 where
  pub object : IsSome (object_at u from)
  pub ordinary : IsOrdinary (region_at u from)
  pub copy : object_words u to ≡ object_words u from
  pub apart : to ≢ from
  pub untargeted : EachForwardedIn (λ a. a ≢ from) u.regions

is_some : (o : Option Stored) (x : Stored) → o ≡ Some x → IsSome o
is_some o x e = rw e refl

module _ (t o : Table) (d e : Destinations) (k from size : ℕ) (known : IfSome d.last (λ j. j < length t.regions))
    (last : IfSome d.last (λ j. kind_of t j ≡ kinds.Ordinary)) (opens : Opens t o d e size k)
    (shaped : IsShaped o) (size_is : size ≡ object_words t from) (some : IsSome (object_at t from))
    (ordinary : kind_of t (from / t.words_per_region) ≡ kinds.Ordinary) where
  w : Opened t o k
  w = opened t o d e size k known last opens

  z : 0 < t.words_per_region
  z = let q = w.size in let p = shaped.positive in omega arith

  room_for : (x : Stored) → object_at t from ≡ Some x → used_of o k + tile_size (Object x) ≤ o.words_per_region
  room_for x at = let q = words_of t from x at in let f = opens.fits in omega arith

  pub can_copy : CanCopy o k from
  can_copy =
      let (x, at) = some_of (object_at t from) some in
      let there = object_there t o k from x w z shaped.fitting at ordinary (room_for x at) in
      let q = words_of o from x there in
      let r = room_for x at in
      record { object = is_some (object_at o from) x there; room = omega arith }

  module _ (u : Table) (to : ℕ) (at_is : to ≡ top_of o k)
      (pushed_is : (s : Stored) → object_at o from ≡ Some s → u ≡ push_tile o k (Object s)) where
    pub can_forward : EachForwardedIn (λ a. a ≢ from) t.regions → CanForward u from to
    can_forward m =
        let (x, at) = some_of (object_at t from) some in
        let r = room_for x at in
        let there = object_there t o k from x w z shaped.fitting at ordinary r in
        let ob = object t o k from x w z shaped.fitting at ordinary r in
        let co = copy t o k from x w z shaped.fitting at ordinary r in
        subst (λ (v : Table). CanForward v from to) (sym (pushed_is x there))
        (subst (λ (n : ℕ). CanForward (push_tile o k (Object x)) from n) (sym at_is) (record {
          object = is_some (object_at (push_tile o k (Object x)) from) x ob;
          ordinary = region t o k from x w z shaped.fitting at ordinary r;
          copy = words_of (push_tile o k (Object x)) (top_of o k) x co ∙ sym (words_of (push_tile o k (Object x)) from x ob);
          apart = apart t o k from x w z shaped.fitting at ordinary r;
          untargeted = pushed_moved (λ a. a ≢ from) o k x (opened_moved (λ a. a ≢ from) t o d e size k opens m);
        }))

    module _ (v : Table) (f : Destinations) (forward_is : v ≡ replace_tile u from (Forwarded to (object_words u from) ∷ []))
        (places_are : f ≡ record { regions = e.regions; last = e.last; room = e.room; words = e.words + size }) where
      table_is : (x : Stored) → object_at t from ≡ Some x
          → v ≡ replace_tile (push_tile o k (Object x)) from (Forwarded to (tile_size (Object x)) ∷ [])
      table_is x at =
          let r = room_for x at in
          let there = object_there t o k from x w z shaped.fitting at ordinary r in
          let ob = object t o k from x w z shaped.fitting at ordinary r in
          let q = words_of (push_tile o k (Object x)) from x ob in
          let same = pushed_is x there in
          forward_is ∙ ap (λ (y : Table). replace_tile y from (Forwarded to (object_words y from) ∷ [])) same
          ∙ ap (λ (n : ℕ). replace_tile (push_tile o k (Object x)) from (Forwarded to n ∷ [])) q

      pub copied : (x : Stored) → object_at t from ≡ Some x → CopiesAndForwards t v d f from to x
      copied x at = let n : size ≡ tile_size (Object x) = size_is ∙ words_of t from x at in record {
        region = k;
        table = o;
        places = e;
        opens = subst (λ (m : ℕ). Opens t o d e m k) n opens;
        at = at_is;
        table_is = table_is x at;
        places_are = places_are ∙ ap (λ (m : ℕ). record { regions = e.regions; last = e.last; room = e.room; words = e.words + m }) n;
      }

      pub changed : (x : Stored) (j : ℕ) → object_at t from ≡ Some x → f.last ≡ Some j → CopiesObject t v j from to x
      changed x j at l =
          let r = room_for x at in
          let same : k ≡ j = (let a = opens.last in let b = ap (λ (y : Destinations). y.last) places_are in cc) in
          subst (λ (n : ℕ). CopiesObject t v n from to x) same
          (subst (λ (y : Table). CopiesObject t y k from to x)
          (sym (table_is x at
          ∙ ap (λ (n : ℕ). replace_tile (push_tile o k (Object x)) from (Forwarded n (tile_size (Object x)) ∷ [])) at_is))
          (subst (λ (n : ℕ).
          CopiesObject t (replace_tile (push_tile o k (Object x)) from (Forwarded (top_of o k) (tile_size (Object x)) ∷ [])) k from n x)
          (sym at_is) (copies t o k from x w z shaped.fitting at ordinary r)))

replaced_moved : (P : ℕ → Type 0) (t : Table) (a to n : ℕ) → P to → EachForwardedIn P t.regions
    → EachForwardedIn P (replace_tile t a (Forwarded to n ∷ [])).regions
unfolding replace_tile region_at
replaced_moved P t a to n h m =
    EachForwardedIn-set P t.regions (a / t.words_per_region)
    (region_replaced (get_or t.regions (a / t.words_per_region) Free) (a % t.words_per_region) (Forwarded to n ∷ []))
    (one (get_or t.regions (a / t.words_per_region) Free) (EachForwardedIn-at P t.regions (a / t.words_per_region) m)) m
  where
    one : (r : Region) → EachForwardedIn P (r ∷ [])
        → EachForwardedIn P (region_replaced r (a % t.words_per_region) (Forwarded to n ∷ []) ∷ [])
    one Free q = tt
    one (Ordinary ts) q = (EachForwarded-replace P (a % t.words_per_region) (Forwarded to n ∷ []) ts (h, tt) q.0, tt)
    one _ q = tt

-- what holds of each moved tile still does, where it holds of the new place
pub copied_moved : (P : ℕ → Type 0) (t t' : Table) (d d' : Destinations) (from to : ℕ) (x : Stored)
    → CopiesAndForwards t t' d d' from to x → P to
    → EachForwardedIn P t.regions → EachForwardedIn P t'.regions
copied_moved P t t' d d' from to x c h m =
    subst (λ (u : Table). EachForwardedIn P u.regions) (sym c.table_is)
    (replaced_moved P (push_tile c.table c.region (Object x)) from to (tile_size (Object x)) h
    (pushed_moved P c.table c.region x (opened_moved P t c.table d c.places (tile_size (Object x)) c.region c.opens m)))
