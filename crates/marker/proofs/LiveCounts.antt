-- The counts of marked words: what changes them, and how large they are.
use Rattle.std.proofs.Common.{◌≡◌, ◌≢◌, ◌+◌, ◌-◌, ◌*◌, ◌/◌, ◌%◌, ◌^◌, ◌<◌, ◌≤◌, ◌∙◌, inl, inr, ℕ, zero, suc, Bool, true, false, List, Some}
use Rattle.std.proofs.Common.{None, length, get_or, set, replicate, refl, sym, ap, subst, arith, get_or-set_same, get_or-set_other}
use Rattle.std.proofs.Common.{length-set, if◌then◌else◌}
use Rattle.std.proofs.lemmas.Bool.{cases_eq, cases_Bool, ltb-true}
use Rattle.std.proofs.lemmas.List.{get_or-replicate, length-replicate}
use Rattle.heap_words.specs.Configs.{max_words}
use Rattle.regions.specs.Tiles.{Object}
use Rattle.regions.specs.Table.{Table, Region, Free, Ordinary, First, Rest, region_tile, region_at, nth_region, region_kind, kind_of}
use Rattle.regions.specs.Table.{tile_in, tile_object, object_at, stored_size, object_words, top_of}
use Rattle.regions.specs.Shaped.{IsShaped}
use Rattle.regions.specs.declared.row.Kind.TheVariants as kinds
use Rattle.regions.proofs.Tiles.Laws.{object_tile}
use Rattle.mark_bitmap.specs.Marks.{is_marked}
use Rattle.mark_bitmap.specs.Tops.{is_in_region}
use Rattle.mark_bitmap.specs.Kept.{MarksObjects}
use Rattle.mark_bitmap.specs.Live.{marked_words, live_bound_of}
use Rattle.mark_bitmap.proofs.Ranges as ranges
use Rattle.mark_bitmap.proofs.LiveWords.{in_region, region_low, region_high, none_words, tops_le}
use Rattle.mark_bitmap.proofs.LiveBounds.{words_stay, marked_used, bound_is, bound_le_twice}
use Rattle.mark_bitmap.proofs.Spans.{spans}
use Rattle.marker.specs.Live.{CountsWords}

if_words : (b : Bool) (x y : ℕ) → (b ≡ true → x ≡ y) → (if b then x else 0) ≡ (if b then y else 0)
if_words true x y e = e refl
if_words false x y e = refl

-- the same addresses are marked, and each marked object has as many words
pub marked_words_same : (t t' : Table) (marks marks' : List Bool) (n a : ℕ)
    → ((x : ℕ) → a ≤ x → x < a + n → is_marked marks' x ≡ is_marked marks x)
    → ((x : ℕ) → a ≤ x → x < a + n → is_marked marks x ≡ true → object_words t' x ≡ object_words t x)
    → marked_words t' marks' a n ≡ marked_words t marks a n
marked_words_same t t' marks marks' zero a marked words = refl
marked_words_same t t' marks marks' (suc n) a marked words =
    let here : (if is_marked marks' a then object_words t' a else 0) ≡ (if is_marked marks a then object_words t a else 0) =
    ap (λ (b : Bool). if b then object_words t' a else 0) (marked a (omega arith) (omega arith))
    ∙ if_words (is_marked marks a) (object_words t' a) (object_words t a) (words a (omega arith) (omega arith)) in
    omega (
      arith,
      here,
      marked_words_same t t' marks marks' n (suc a) (λ x l h. marked x (omega (arith, l)) (omega (arith, h)))
          (λ x l h. words x (omega (arith, l)) (omega (arith, h))),
    )

pub counts_same : (t t' : Table) (marks marks' : List Bool) (counts : List ℕ) → CountsWords t marks counts
    → length t'.regions ≡ length t.regions → t'.words_per_region ≡ t.words_per_region
    → ((x : ℕ) → is_marked marks' x ≡ is_marked marks x)
    → ((x : ℕ) → is_marked marks x ≡ true → object_words t' x ≡ object_words t x) → CountsWords t' marks' counts
counts_same t t' marks marks' counts c count size marked words = record {
  each_region = c.each_region ∙ sym count;
  each = λ k h.
      c.each k (omega (arith, h, count))
      ∙ sym (marked_words_same t t' marks marks' t.words_per_region (k * t.words_per_region) (λ x l g. marked x) (λ x l g. words x))
      ∙ ap (λ (w : ℕ). marked_words t' marks' (k * w) w) (sym size);
}

-- an object more is marked
words_added : (t : Table) (marks : List Bool) (a n from : ℕ) → a < length marks → is_marked marks a ≡ false → from ≤ a → a < from + n
    → marked_words t (set marks a true) from n ≡ marked_words t marks from n + object_words t a
words_added t marks a zero from inside unmarked low high = absurd (omega (arith, low, high))
words_added t marks a (suc n) from inside unmarked low high = elim (cases_eq a from) [
  | inl same ↦
      let now : is_marked (set marks a true) from ≡ true =
      ap (is_marked (set marks a true)) (sym same) ∙ get_or-set_same marks a true false inside in
      let was : is_marked marks from ≡ false = ap (is_marked marks) (sym same) ∙ unmarked in
      let rest = marked_words_same t t marks (set marks a true) n (suc from)
      (λ x l h. get_or-set_other marks a x true false (λ e. absurd (omega (arith, l, same, e)))) (λ x l h m. refl) in
      omega (
        arith,
        ap (λ (b : Bool). if b then object_words t from else 0) now,
        ap (λ (b : Bool). if b then object_words t from else 0) was,
        ap (object_words t) same,
        rest,
      )
  | inr apart ↦
      let here : is_marked (set marks a true) from ≡ is_marked marks from = get_or-set_other marks a from true false (λ e. apart (sym e)) in
      omega (
        arith,
        ap (λ (b : Bool). if b then object_words t from else 0) here,
        words_added t marks a n (suc from) inside unmarked (omega (arith, low, apart)) (omega (arith, high)),
      )
]

-- an object of a region is marked: its words are counted there
pub counts_added : (t : Table) (marks marks' : List Bool) (counts : List ℕ) (a k size : ℕ) → 0 < t.words_per_region
    → CountsWords t marks counts → a < length marks → is_marked marks a ≡ false
    → marks' ≡ set marks a true → k ≡ a / t.words_per_region → k < length t.regions → size ≡ object_words t a
    → CountsWords t marks' (set counts k (get_or counts k 0 + size))
counts_added t marks marks' counts a k size z c inside unmarked now own known words =
    let w : ℕ = t.words_per_region in
    let bottom : k * w ≡ a / w * w = ap (λ (n : ℕ). n * w) own in
    let inside_own = ranges.in_own_region w a z in
    let low : k * w ≤ a = omega (arith, bottom, region_low w (a / w) a inside_own) in
    let high : a < k * w + w = omega (arith, bottom, region_high w (a / w) a inside_own) in
    record {
      each_region = length-set counts k (get_or counts k 0 + size) ∙ c.each_region;
      each = λ j h. elim (cases_eq j k) [
        | inl same ↦ subst (λ (i : ℕ). get_or (set counts k (get_or counts k 0 + size)) i 0 ≡ marked_words t marks' (i * w) w) (sym same)
            (let added = words_added t marks a w (k * w) inside unmarked low high in
            get_or-set_same counts k (get_or counts k 0 + size) 0 (omega (arith, known, c.each_region))
            ∙ omega (arith, c.each k known, words, added, ap (λ (m : List Bool). marked_words t m (k * w) w) now))
        | inr apart ↦
            get_or-set_other counts k j (get_or counts k 0 + size) 0 apart ∙ c.each j h
            ∙ sym (marked_words_same t t marks (set marks a true) w (j * w)
            (λ x l g. get_or-set_other marks a x true false (λ e. apart (other j x a k w l g e low high))) (λ x l g m. refl))
            ∙ ap (λ (m : List Bool). marked_words t m (j * w) w) (sym now)
      ];
    }
  where
    other : (j x a k w : ℕ) → j * w ≤ x → x < j * w + w → x ≡ a → k * w ≤ a → a < k * w + w → j ≡ k
    other j x a k w low high e low' high' = sym (ranges.div_is x w j low high) ∙ ap (λ (y : ℕ). y / w) e ∙ ranges.div_is a w k low' high'

-- a region's marks go, and with them its count
pub counts_forgotten : (t : Table) (marks marks' : List Bool) (counts : List ℕ) (k : ℕ) → CountsWords t marks counts
    → k < length t.regions → 0 < t.words_per_region
    → ((a : ℕ) → is_marked marks' a ≡ (if is_in_region t.words_per_region k a then false else is_marked marks a))
    → CountsWords t marks' (set counts k 0)
counts_forgotten t marks marks' counts k c known z now =
    let w : ℕ = t.words_per_region in
    record {
      each_region = length-set counts k 0 ∙ c.each_region;
      each = λ j h. elim (cases_eq j k) [
        | inl same ↦ subst (λ (i : ℕ). get_or (set counts k 0) i 0 ≡ marked_words t marks' (i * w) w) (sym same)
            (get_or-set_same counts k 0 0 (omega (arith, known, c.each_region))
            ∙ sym (none_words t marks' w (k * w)
            (λ x l g. now x ∙ ap (λ (b : Bool). if b then false else is_marked marks x) (in_region w k x l g))))
        | inr apart ↦
            get_or-set_other counts k j 0 0 apart ∙ c.each j h
            ∙ sym (marked_words_same t t marks marks' w (j * w)
            (λ x l g. now x ∙ ap (λ (b : Bool). if b then false else is_marked marks x) (out j x l g apart)) (λ x l g m. refl))
      ];
    }
  where
    out : (j x : ℕ) → j * t.words_per_region ≤ x → x < j * t.words_per_region + t.words_per_region → j ≢ k
        → is_in_region t.words_per_region k x ≡ false
    out j x low high apart = elim (cases_Bool (is_in_region t.words_per_region k x)) [
      | inl inside ↦ absurd (apart (sym (ranges.div_is x t.words_per_region j low high) ∙ ranges.nth_region t.words_per_region k x inside))
      | inr outside ↦ outside
    ]

-- nothing is marked, and nothing counted
pub counts_none : (t : Table) (marks : List Bool) (counts : List ℕ) (n : ℕ) → counts ≡ replicate n 0 → n ≡ length t.regions
    → ((a : ℕ) → is_marked marks a ≡ false) → CountsWords t marks counts
counts_none t marks counts n zero_all count none = record {
  each_region = ap length zero_all ∙ length-replicate {A = ℕ} n 0 ∙ count;
  each = λ k h.
      ap (λ (l : List ℕ). get_or l k 0) zero_all ∙ get_or-replicate n k 0 0 (omega (arith, h, count))
      ∙ sym (none_words t marks t.words_per_region (k * t.words_per_region) (λ x l g. none x));
}

-- ---- how large a count is
-- in a region that isn't ordinary an object starts at the bottom alone
void_words : (t : Table) (k x : ℕ) → kind_of t k ≢ kinds.Ordinary → k * t.words_per_region < x
    → x < k * t.words_per_region + t.words_per_region → object_words t x ≡ 0
unfolding object_words object_at tile_in region_at kind_of nth_region
void_words t k x other low high =
    let w : ℕ = t.words_per_region in
    let row : x / w ≡ k = ranges.div_is x w k (omega (arith, low)) high in
    let whole : x / w * w + x % w ≡ x = omega (arith, low, high) in
    let same : x / w * w ≡ k * w = ap (λ (n : ℕ). n * w) row in
    ap (λ (n : ℕ). stored_size (tile_object (region_tile (get_or t.regions n Free) (x % w)))) row
    ∙ go (get_or t.regions k Free) (x % w) other (omega (arith, whole, same, low))
  where
    go : (r : Region) (o : ℕ) → region_kind r ≢ kinds.Ordinary → 0 < o → stored_size (tile_object (region_tile r o)) ≡ 0
    go Free o apart z = refl
    go (Ordinary ts) o apart z = absurd (apart refl)
    go (First s) zero apart z = absurd (omega (arith, z))
    go (First s) (suc o) apart z = refl
    go (Rest n) o apart z = refl

void_marked : (t : Table) (marks : List Bool) (n a : ℕ)
    → ((x : ℕ) → a ≤ x → x < a + n → object_words t x ≡ 0) → marked_words t marks a n ≡ 0
void_marked t marks zero a none = refl
void_marked t marks (suc n) a none =
    omega (
      arith,
      most (is_marked marks a) (object_words t a) (none a (omega arith) (omega arith)),
      void_marked t marks n (suc a) (λ x l h. none x (omega (arith, l)) (omega (arith, h))),
    )
  where
    most : (b : Bool) (x : ℕ) → x ≡ 0 → (if b then x else 0) ≡ 0
    most true x e = e
    most false x e = refl

object_small : (t : Table) (a : ℕ) → IsShaped t → object_words t a ≤ max_words
unfolding object_words object_at
object_small t a shape = go (object_at t a) refl
  where
    go : (o : _) → object_at t a ≡ o → stored_size (object_at t a) ≤ max_words
    go None e = rw e (omega arith)
    go (Some s) e = omega (arith, ap stored_size e, shape.within a (Object s) (object_tile _ s e), shape.in_all)

-- the marked objects that start in a region have no more words than a heap can have
pub region_small : (t : Table) (marks : List Bool) (k : ℕ) → IsShaped t
    → marked_words t marks (k * t.words_per_region) t.words_per_region ≤ max_words
region_small t marks k shape = go (kind_of t k) refl
  where
    others : kind_of t k ≢ kinds.Ordinary → (n : ℕ) → n ≡ t.words_per_region → marked_words t marks (k * t.words_per_region) n ≤ max_words
    others other zero e = omega arith
    others other (suc n) e =
        let rest =
        void_marked t marks n (suc (k * t.words_per_region)) (λ x l h. void_words t k x other (omega (arith, l)) (omega (arith, h, e))) in
        omega (
          arith,
          rest,
          at_most (is_marked marks (k * t.words_per_region)) (object_words t (k * t.words_per_region)),
          object_small t (k * t.words_per_region) shape,
        )
      where
        at_most : (b : Bool) (x : ℕ) → (if b then x else 0) ≤ x
        at_most true x = omega arith
        at_most false x = omega arith

    go : (kind : _) → kind_of t k ≡ kind → marked_words t marks (k * t.words_per_region) t.words_per_region ≤ max_words
    go kinds.Ordinary e =
        let p = spans t k shape e in
        omega (
          arith,
          marked_used t marks k (k * t.words_per_region) t.words_per_region p (omega arith) (omega arith),
          p.top_le,
          shape.small,
        )
    go kinds.Free e = others (λ o. (let f = e in cc)) t.words_per_region refl
    go kinds.First e = others (λ o. (let f = e in cc)) t.words_per_region refl
    go kinds.Rest e = others (λ o. (let f = e in cc)) t.words_per_region refl

-- ---- the live bound
-- no mark stands at or above its region's top at mark start, so all that is marked in a region is marked below it
all_below : (t : Table) (tops : List ℕ) (marks : List Bool) (k : ℕ) → IsShaped t → MarksObjects t tops marks → k < length t.regions
    → marked_words t marks (k * t.words_per_region) t.words_per_region
    ≡ marked_words t marks (k * t.words_per_region) (get_or tops k 0 - k * t.words_per_region)
all_below t tops marks k shape m known =
    let w : ℕ = t.words_per_region in
    let whole : k * w + w - k * w ≡ w = omega arith in
    sym (ap (marked_words t marks (k * w)) whole)
    ∙ words_stay t marks (k * w) (get_or tops k 0) (k * w + w) (m.bottom k known) (tops_le t tops marks k shape m) unmarked
  where
    unmarked : (a : ℕ) → get_or tops k 0 ≤ a → a < k * t.words_per_region + t.words_per_region → is_marked marks a ≡ false
    unmarked a low high = elim (cases_Bool (is_marked marks a)) [
      | inl marked ↦
          let below = m.below a marked in
          let inside = in_region t.words_per_region k a (omega (arith, low, m.bottom k known)) high in
          let is = sym (ranges.below_in t.words_per_region tops k a inside) ∙ below in
          absurd (omega (arith, ltb-true a (get_or tops k 0) is, low))
      | inr no_mark ↦ no_mark
    ]

pub look_is : (t : Table) (tops : List ℕ) (marks : List Bool) (counts : List ℕ) (k count above top start : ℕ) → IsShaped t
    → MarksObjects t tops marks → CountsWords t marks counts → k < length t.regions
    → count ≡ get_or counts k 0 → top ≡ top_of t k → start ≡ get_or tops k 0 → above ≡ top - start
    → count + above ≡ live_bound_of t tops marks k
look_is t tops marks counts k count above top start shape m c known e f g h =
    omega (arith, h, bound_is t tops marks k count top start (e ∙ c.each k known ∙ all_below t tops marks k shape m known) f g)

pub look_small : (t : Table) (tops : List ℕ) (marks : List Bool) (k : ℕ) → IsShaped t → MarksObjects t tops marks
    → k < length t.regions → kind_of t k ≡ kinds.Ordinary → live_bound_of t tops marks k < 2 ^ 32
look_small t tops marks k shape m known ordinary = omega (arith, bound_le_twice t tops marks k shape m known ordinary, shape.small)
