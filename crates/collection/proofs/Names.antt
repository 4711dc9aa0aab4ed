-- The names of kept objects: of those of ordinary regions, and of all.
use Rattle.std.proofs.Common.{◌≡◌, ◌≢◌, ◌+◌, ◌*◌, ◌/◌, ◌<◌, ◌≤◌, ◌∷◌, ◌∙◌, ℕ, suc, zero, Bool, true, List, [], Option, Some, None, length}
use Rattle.std.proofs.Common.{refl, sym, ap, subst, arith, slice_get}
use Rattle.std.proofs.Math.Nat.{suc-mul}
use Rattle.heap_model.specs.Graph.{Graph, IsReachable, object_named}
use Rattle.heap_model.specs.Clearing.{WillShow}
use Rattle.heap_model.specs.Heap.{Stored}
use Rattle.regions.specs.Tiles.{Object, tile_size}
use Rattle.regions.specs.Table.{Table, Region, Free, Ordinary, First, Rest, AreHalves, kind_of, nth_region, stored_size}
use Rattle.regions.specs.Shaped.{IsShaped}
use Rattle.regions.specs.declared.row.Kind.{Kind}
use Rattle.regions.specs.declared.row.Kind.TheVariants as kinds
use Rattle.regions.proofs.LongRuns.Blocks.{kind_is}
use Rattle.regions.proofs.Tiles.ShapedMade.{first_object}
use Rattle.mark_bitmap.specs.Live.{kept_words}
use Rattle.mark_bitmap.proofs.Ranges.{div_is}
use Rattle.evacuation.specs.Evacuates.{words_at, stored_words}
use Rattle.step_core.specs.Stands.{CoreState, kept_of, heap_of}
use Rattle.step_core.specs.Measures.{sum_below}
use Rattle.step_core.specs.Pause.{named_words}
use Rattle.step_core.proofs.Mutating.Reading.{object_kept}
use Rattle.step_core.proofs.Pauses.CopiedNames.{names_of, names_get, name_is, same_words, words_same}
use Rattle.collection.specs.Space.{AreReachable, kept_by_kind, kept_sum}
use Rattle.collection.proofs.Sums.{sum_same, sum_le, sum_plus}
use Rattle.collection.proofs.Wide.{first_words}

abbrev put : Option Stored → ℕ → List ℕ → List ℕ
put None a rest = rest
put (Some x) a rest = a ∷ rest

-- the addresses of n from one on at which something is
abbrev listed : (ℕ → Option Stored) → ℕ → ℕ → List ℕ
listed f a zero = []
listed f a (suc n) = put (f a) a (listed f (suc a) n)

abbrev pub total : (ℕ → Option Stored) → ℕ → ℕ → ℕ
total f a zero = 0
total f a (suc n) = stored_size (f a) + total f (suc a) n

pub total_same : (f g : ℕ → Option Stored) (n a : ℕ) → ((x : ℕ) → a ≤ x → x < a + n → f x ≡ g x) → total f a n ≡ total g a n
total_same f g zero a e = refl
total_same f g (suc n) a e =
    let h = ap stored_size (e a (omega arith) (omega arith)) in
    let r = total_same f g n (suc a) (λ x l u. e x (omega (arith, l)) (omega (arith, u))) in
    omega (arith, h, r)

total_none : (n a : ℕ) → total (λ x. None) a n ≡ 0
total_none zero a = refl
total_none (suc n) a = let r = total_none n (suc a) in omega (arith, r)

pub total_kept : (c : CoreState) (n a : ℕ) → total (kept_of c) a n ≡ kept_words c.table c.marker.tams c.marker.bitmaps.previous a n
unfolding kept_of
total_kept c zero a = refl
total_kept c (suc n) a = let r = total_kept c n (suc a) in omega (arith, r)

pub total_split : (f : ℕ → Option Stored) (n m whole a b : ℕ) → whole ≡ n + m → b ≡ a + n → total f a whole ≡ total f a n + total f b m
total_split f zero m whole a b e h =
    let p : whole ≡ m = omega (arith, e) in
    let q : b ≡ a = omega (arith, h) in
    omega (arith, ap (total f a) p, ap (λ (x : ℕ). total f x m) q)
total_split f (suc n) m zero a b e h = absurd (omega (arith, e))
total_split f (suc n) m (suc whole) a b e h = omega (arith, total_split f n m whole (suc a) b (omega (arith, e)) (omega (arith, h)))

total_regions : (f : ℕ → Option Stored) (words n : ℕ) → total f 0 (n * words) ≡ sum_below (λ k. total f (k * words) words) n
total_regions f words zero = let z : zero * words ≡ 0 = omega arith in ap (λ (m : ℕ). total f 0 m) z
total_regions f words (suc n) =
    let s = total_split f (n * words) words (suc n * words) 0 (n * words) (omega (arith, suc-mul n words)) (omega arith) in
    let r = total_regions f words n in
    omega (arith, s, r)

abbrev kept_if : Kind → Option Stored → Option Stored
kept_if kinds.Ordinary o = o
kept_if _ o = None

kept_if_some : (k : Kind) (o : Option Stored) (x : Stored) → kept_if k o ≡ Some x → o ≡ Some x
kept_if_some kinds.Ordinary o x e = e
kept_if_some _ o x e = absurd cc

kept_if_ordinary : (k : Kind) (o : Option Stored) (x : Stored) → kept_if k o ≡ Some x → k ≡ kinds.Ordinary
kept_if_ordinary kinds.Ordinary o x e = refl
kept_if_ordinary _ o x e = absurd cc

module _ (kept f : ℕ → Option Stored) (sub : (a : ℕ) (x : Stored) → f a ≡ Some x → kept a ≡ Some x) where
  list_words : (n a : ℕ) → words_at kept (listed f a n) ≡ total f a n
  list_words zero a = refl
  list_words (suc n) a = go (f a) refl (list_words n (suc a))
    where
      go : (o : Option Stored) → f a ≡ o → words_at kept (listed f (suc a) n) ≡ total f (suc a) n
          → words_at kept (put (f a) a (listed f (suc a) n)) ≡ stored_size (f a) + total f (suc a) n
      go None e r =
          let p = ap (λ (q : Option Stored). words_at kept (put q a (listed f (suc a) n))) e in
          let s = ap stored_size e in
          omega (arith, r, p, s)
      go (Some x) e r =
          let p = ap (λ (q : Option Stored). words_at kept (put q a (listed f (suc a) n))) e in
          let s = ap stored_size e in
          let k = ap stored_words (sub a x e) in
          omega (arith, r, p, s, k)

  record Member (a n b : ℕ) : Type 0 where
    pub low : a ≤ b
    pub high : b < a + n
    pub object : Stored
    pub is : f b ≡ Some object

  none_got : (i a b : ℕ) → slice_get (listed f a zero) i ≡ Some b → ⊥
  none_got i a b h = (let e = h in cc)

  member : (n a i b : ℕ) → slice_get (listed f a n) i ≡ Some b → Member a n b
  member zero a i b e = absurd (none_got i a b e)
  member (suc n) a i b e = go (f a) refl i e (λ j h. member n (suc a) j b h)
    where
      go : (o : Option Stored) → f a ≡ o → (i : ℕ) → slice_get (put (f a) a (listed f (suc a) n)) i ≡ Some b
          → ((j : ℕ) → slice_get (listed f (suc a) n) j ≡ Some b → Member (suc a) n b) → Member a (suc n) b
      go None q i h r =
          let m = r i (ap (λ (o : Option Stored). slice_get (put o a (listed f (suc a) n)) i) (sym q) ∙ h) in
          record { low = (let l = m.low in omega arith); high = (let u = m.high in omega arith); object = m.object; is = m.is }
      go (Some x) q zero h r =
          let g : Some a ≡ Some b = ap (λ (o : Option Stored). slice_get (put o a (listed f (suc a) n)) 0) (sym q) ∙ h in
          let same : a ≡ b = cc in
          record { low = omega arith; high = omega arith; object = x; is = ap f (sym same) ∙ q }
      go (Some x) q (suc i) h r =
          let m = r i (ap (λ (o : Option Stored). slice_get (put o a (listed f (suc a) n)) (suc i)) (sym q) ∙ h) in
          record { low = (let l = m.low in omega arith); high = (let u = m.high in omega arith); object = m.object; is = m.is }

  list_distinct : (n a i j b : ℕ) → slice_get (listed f a n) i ≡ Some b → slice_get (listed f a n) j ≡ Some b → i ≡ j
  list_distinct zero a i j b ei ej = absurd (none_got i a b ei)
  list_distinct (suc n) a i j b ei ej = go (f a) refl i j ei ej (λ k l h m. list_distinct n (suc a) k l b h m) (λ k h. member n
      (suc a) k b h)
    where
      go : (o : Option Stored) → f a ≡ o → (i j : ℕ) → slice_get (put (f a) a (listed f (suc a) n)) i ≡ Some b
          → slice_get (put (f a) a (listed f (suc a) n)) j ≡ Some b
          → ((k l : ℕ) → slice_get (listed f (suc a) n) k ≡ Some b → slice_get (listed f (suc a) n) l ≡ Some b → k ≡ l)
          → ((k : ℕ) → slice_get (listed f (suc a) n) k ≡ Some b → Member (suc a) n b) → i ≡ j
      go None q i j h k r m =
          r i j (ap (λ (o : Option Stored). slice_get (put o a (listed f (suc a) n)) i) (sym q) ∙ h)
          (ap (λ (o : Option Stored). slice_get (put o a (listed f (suc a) n)) j) (sym q) ∙ k)
      go (Some x) q zero zero h k r m = refl
      go (Some x) q zero (suc j) h k r m =
          let g : Some a ≡ Some b = ap (λ (o : Option Stored). slice_get (put o a (listed f (suc a) n)) 0) (sym q) ∙ h in
          let same : a ≡ b = cc in
          let w = m j (ap (λ (o : Option Stored). slice_get (put o a (listed f (suc a) n)) (suc j)) (sym q) ∙ k) in
          absurd (let l = w.low in omega arith)
      go (Some x) q (suc i) zero h k r m =
          let g : Some a ≡ Some b = ap (λ (o : Option Stored). slice_get (put o a (listed f (suc a) n)) 0) (sym q) ∙ k in
          let same : a ≡ b = cc in
          let w = m i (ap (λ (o : Option Stored). slice_get (put o a (listed f (suc a) n)) (suc i)) (sym q) ∙ h) in
          absurd (let l = w.low in omega arith)
      go (Some x) q (suc i) (suc j) h k r m =
          ap suc (r i j (ap (λ (o : Option Stored). slice_get (put o a (listed f (suc a) n)) (suc i)) (sym q) ∙ h)
          (ap (λ (o : Option Stored). slice_get (put o a (listed f (suc a) n)) (suc j)) (sym q) ∙ k))

-- the kept objects that a part of the heap has
module _ (c : CoreState) (g : Graph) (shows : WillShow g (heap_of c)) (reached : (a : ℕ) (x : Stored) → kept_of c a ≡ Some x
    → IsReachable g x.name) (here : ℕ → Option Stored) (sub : (a : ℕ) (x : Stored) → here a ≡ Some x → kept_of c a ≡ Some x) where
  abbrev size : ℕ
  size = length c.table.regions * c.table.words_per_region

  abbrev addresses : List ℕ
  addresses = listed here 0 size

  there : (i a : ℕ) → slice_get addresses i ≡ Some a → (x : Stored) × ((heap_of c).kept a ≡ Some x)
  there i a e =
      let m = member (kept_of c) here sub size 0 i a e in
      (m.object, sub a m.object m.is)

  abbrev set : ℕ → Bool
  set a = true

  pub reachable : AreReachable g (total here 0 size)
  reachable = record {
    names = names_of g (heap_of c) shows set addresses;
    distinct = λ i j n ei ej.
        let p = names_get g (heap_of c) shows set addresses i n ei in
        let q = names_get g (heap_of c) shows set addresses j n ej in
        let x = there i p.address p.there in
        let y = there j q.address q.there in
        let same = shows.distinct p.address q.address x.0 y.0 x.1 y.1
        (sym (name_is g (heap_of c) shows set p.address x.0 x.1) ∙ p.name ∙ sym q.name
        ∙ name_is g (heap_of c) shows set q.address y.0 y.1) in
        list_distinct (kept_of c) here sub size 0 i j p.address p.there (q.there ∙ ap Some (sym same));
    each = λ i n e.
        let p = names_get g (heap_of c) shows set addresses i n e in
        let x = there i p.address p.there in
        subst (IsReachable g) (sym (name_is g (heap_of c) shows set p.address x.0 x.1) ∙ p.name) (reached p.address x.0 x.1);
    total = words_same g (heap_of c) shows set addresses there ∙ list_words (kept_of c) here sub size 0;
  }

  -- an object has as many words in the graph
  pub named_size : (i n : ℕ) → slice_get reachable.names i ≡ Some n
      → (a : ℕ) × (x : Stored) × (here a ≡ Some x) × (named_words (object_named g n) ≡ tile_size (Object x))
  unfolding reachable
  named_size i n e =
      let p = names_get g (heap_of c) shows set addresses i n e in
      let m = member (kept_of c) here sub size 0 i p.address p.there in
      let is = sub p.address m.object m.is in (
        p.address,
        m.object,
        m.is,
        ap (λ (k : ℕ). named_words (object_named g k)) (sym p.name) ∙ same_words g (heap_of c) shows set p.address m.object is
            ∙ ap stored_words is,
      )

-- those of ordinary regions
module _ (c : CoreState) where
  abbrev t : Table
  t = c.table

  abbrev words : ℕ
  words = t.words_per_region

  abbrev pub in_ordinary : ℕ → Option Stored
  in_ordinary a = kept_if (kind_of t (a / words)) (kept_of c a)

  pub ordinary_kept : (a : ℕ) (x : Stored) → in_ordinary a ≡ Some x → kept_of c a ≡ Some x
  ordinary_kept a x e = kept_if_some (kind_of t (a / words)) (kept_of c a) x e

  region_total : (k : ℕ) → total in_ordinary (k * words) words ≡ kept_by_kind (kind_of t k) c k
  region_total k =
      total_same in_ordinary (λ a. kept_if (kind_of t k) (kept_of c a)) words (k * words)
      (λ x l u. ap (λ (j : ℕ). kept_if (kind_of t j) (kept_of c x)) (div_is x words k l u)) ∙ by_kind (kind_of t k)
    where
      by_kind : (o : Kind) → total (λ a. kept_if o (kept_of c a)) (k * words) words ≡ kept_by_kind o c k
      by_kind kinds.Free = total_none words (k * words)
      by_kind kinds.Ordinary = total_kept c words (k * words)
      by_kind _ = total_none words (k * words)

  pub ordinary_total : total in_ordinary 0 (length t.regions * words) ≡ kept_sum c
  ordinary_total =
      total_regions in_ordinary words (length t.regions)
      ∙ sum_same (λ k. total in_ordinary (k * words) words) (λ k. kept_by_kind (kind_of t k) c k) (length t.regions) (λ k h. region_total k)

  -- each has at most half a region's words
  pub ordinary_small : AreHalves t → (a : ℕ) (x : Stored) → in_ordinary a ≡ Some x → 2 * tile_size (Object x) ≤ words
  ordinary_small halves a x e =
      halves a x (object_kept c a x (ordinary_kept a x e)) (kept_if_ordinary (kind_of t (a / words)) (kept_of c a) x e)

kept_first : (o : Option Stored) → o ≢ None → (x : Stored) × (o ≡ Some x)
kept_first None n = absurd (n refl)
kept_first (Some x) n = (x, refl)

-- with all that is kept: no less than that of ordinary regions, and the objects of runs
module _ (c : CoreState) (shape : IsShaped c.table)
    (runs : (k : ℕ) → kind_of c.table k ≡ kinds.First → kept_of c (k * c.table.words_per_region) ≢ None) where
  one_total : (f : ℕ → Option Stored) (n a : ℕ) (x : Stored) → 0 < n → f a ≡ Some x → tile_size (Object x) ≤ total f a n
  one_total f zero a x h e = absurd (omega (arith, h))
  one_total f (suc n) a x h e = let s = ap stored_size e in omega (arith, s)

  each_total : (k : ℕ) → kept_by_kind (kind_of c.table k) c k + first_words (nth_region c.table k)
      ≤ total (kept_of c) (k * c.table.words_per_region) c.table.words_per_region
  each_total k = go (nth_region c.table k) refl
    where
      go : (r : Region) → nth_region c.table k ≡ r → kept_by_kind (kind_of c.table k) c k + first_words (nth_region c.table k)
          ≤ total (kept_of c) (k * c.table.words_per_region) c.table.words_per_region
      go Free e =
          let a = ap (λ (o : Kind). kept_by_kind o c k) (kind_is c.table k Free e) in
          let b = ap first_words e in
          omega (arith, a, b)
      go (Ordinary ts) e =
          let a = ap (λ (o : Kind). kept_by_kind o c k) (kind_is c.table k (Ordinary ts) e) in
          let b = ap first_words e in
          let d = total_kept c c.table.words_per_region (k * c.table.words_per_region) in
          omega (arith, a, b, d)
      go (First s) e =
          let a = ap (λ (o : Kind). kept_by_kind o c k) (kind_is c.table k (First s) e) in
          let b = ap first_words e in
          let x = kept_first (kept_of c (k * c.table.words_per_region)) (runs k (kind_is c.table k (First s) e)) in
          let there = object_kept c (k * c.table.words_per_region) x.0 x.1 in
          let is = first_object c.table k s shape.positive e in
          let same : x.0 ≡ s = cc in
          let d = one_total (kept_of c) c.table.words_per_region (k * c.table.words_per_region) s shape.positive (x.1 ∙ ap Some same) in
          omega (arith, a, b, d)
      go (Rest n) e =
          let a = ap (λ (o : Kind). kept_by_kind o c k) (kind_is c.table k (Rest n) e) in
          let b = ap first_words e in
          omega (arith, a, b)

  pub all_total : kept_sum c + sum_below (λ k. first_words (nth_region c.table k)) (length c.table.regions)
      ≤ total (kept_of c) 0 (length c.table.regions * c.table.words_per_region)
  all_total =
      let a = sum_le (λ k. kept_by_kind (kind_of c.table k) c k + first_words (nth_region c.table k))
      (λ k. total (kept_of c) (k * c.table.words_per_region) c.table.words_per_region) (length c.table.regions) (λ k h. each_total k) in
      let b = sum_plus (λ k. kept_by_kind (kind_of c.table k) c k) (λ k. first_words (nth_region c.table k)) (length c.table.regions) in
      let d = total_regions (kept_of c) c.table.words_per_region (length c.table.regions) in
      omega (arith, a, b, d)
