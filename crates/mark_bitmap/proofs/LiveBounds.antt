-- How large live bounds are, and how they are summed.
use Rattle.regions.proofs.Common.{◌≡◌, ◌+◌, ◌-◌, ◌*◌, ◌<◌, ◌≤◌, ◌∙◌, ℕ, zero, suc, Bool, true, false, List, Option, Some, None, length}
use Rattle.regions.proofs.Common.{get_or, refl, sym, ap, arith, if◌then◌else◌, lt-ltb, Stored, Table, kind_of, top_of}
use Rattle.regions.proofs.Common.{object_at, stored_size, object_words, IsShaped}
use Rattle.regions.specs.declared.row.Kind.TheVariants as kinds
use Rattle.mark_bitmap.specs.Marks.{is_marked}
use Rattle.mark_bitmap.specs.Tops.{Tops, below_previous}
use Rattle.mark_bitmap.specs.Kept.{MarksObjects, kept_in}
use Rattle.mark_bitmap.specs.Live.{marked_words, kept_words, live_bound_of}
use Rattle.mark_bitmap.proofs.Ranges.{below_in}
use Rattle.mark_bitmap.proofs.Spans.{Spans, spans, chosen_words, chosen_le}
use Rattle.mark_bitmap.proofs.LiveWords.{in_region, tops_le, none_words}

-- the marked objects
abbrev pub marked_in : Table → List Bool → ℕ → Option Stored
marked_in t marks a = if is_marked marks a then object_at t a else None

size_if : (b : Bool) (o : Option Stored) → (if b then stored_size o else 0) ≡ stored_size (if b then o else None)
size_if true o = refl
size_if false o = refl

marked_chosen : (t : Table) (marks : List Bool) (n a : ℕ) → marked_words t marks a n ≡ chosen_words (marked_in t marks) a n
unfolding object_words
marked_chosen t marks zero a = refl
marked_chosen t marks (suc n) a = omega (arith, size_if (is_marked marks a) (object_at t a), marked_chosen t marks n (suc a))

kept_chosen : (t : Table) (tops : Tops) (previous : List Bool) (n a : ℕ)
    → kept_words t tops previous a n ≡ chosen_words (kept_in t tops previous) a n
kept_chosen t tops previous zero a = refl
kept_chosen t tops previous (suc n) a = omega (arith, kept_chosen t tops previous n (suc a))

chosen_split : (g : ℕ → Option Stored) (n m whole a b : ℕ) → whole ≡ n + m → b ≡ a + n
    → chosen_words g a whole ≡ chosen_words g a n + chosen_words g b m
chosen_split g zero m whole a b e f =
    let same : whole ≡ m = omega (arith, e) in
    let here : b ≡ a = omega (arith, f) in
    omega (arith, ap (chosen_words g a) same, ap (λ (x : ℕ). chosen_words g x m) here)
chosen_split g (suc n) m zero a b e f = absurd (omega (arith, e))
chosen_split g (suc n) m (suc whole) a b e f = omega (arith, chosen_split g n m whole (suc a) b (omega (arith, e)) (omega (arith, f)))

if_some : (b : Bool) (o : Option Stored) (s : Stored) → (if b then o else None) ≡ Some s → (b ≡ true) × (o ≡ Some s)
if_some true o s e = (refl, e)
if_some false o s e = cc

kept_some : (below marked : Bool) (o : Option Stored) (s : Stored)
    → (if below then (if marked then o else None) else o) ≡ Some s → o ≡ Some s
kept_some true marked o s e = (if_some marked o s e).1
kept_some false marked o s e = e

-- chosen objects of a region lie between its bottom and its top
below_top : (t : Table) (k : ℕ) (g : ℕ → Option Stored) → Spans t k → ((x : ℕ) (s : Stored) → g x ≡ Some s → object_at t x ≡ Some s)
    → (a n : ℕ) → k * t.words_per_region ≤ a → a + n ≤ k * t.words_per_region + t.words_per_region → chosen_words g a n ≤ top_of t k - a
below_top t k g p object a n low high =
    chosen_le t k (top_of t k) g p (record { object = object; ends = λ x s l h e. p.ends x s l h (object x s e) }) a n low high

pub marked_used : (t : Table) (marks : List Bool) (k a n : ℕ) → Spans t k → k * t.words_per_region ≤ a
    → a + n ≤ k * t.words_per_region + t.words_per_region → marked_words t marks a n ≤ top_of t k - a
marked_used t marks k a n p low high =
    let le = below_top t k (marked_in t marks) p (λ x s e. (if_some (is_marked marks x) (object_at t x) s e).1) a n low high in
    omega (arith, marked_chosen t marks n a, le)

pub bound_le_twice : (t : Table) (tops : List ℕ) (marks : List Bool) (k : ℕ) → IsShaped t → MarksObjects t tops marks
    → k < length t.regions → kind_of t k ≡ kinds.Ordinary → live_bound_of t tops marks k ≤ 2 * t.words_per_region
unfolding live_bound_of
bound_le_twice t tops marks k shape m known ordinary =
    let p = spans t k shape ordinary in
    let top = tops_le t tops marks k shape m in
    let marked =
    marked_used t marks k (k * t.words_per_region) (get_or tops k 0 - k * t.words_per_region) p (omega arith) (omega (arith, top)) in
    omega (arith, marked, m.bottom k known, m.top k known, p.top_le)

size_kept : (below marked : Bool) (o : Option Stored) → below ≡ true
    → stored_size (if below then (if marked then o else None) else o) ≡ (if marked then stored_size o else 0)
size_kept true marked o e = sym (size_if marked o)
size_kept false marked o e = cc

-- below a top at mark start what is kept is what is marked
kept_low : (t : Table) (tops : Tops) (previous : List Bool) (n a : ℕ) → ((x : ℕ) → a ≤ x → x < a + n → below_previous t tops x ≡ true)
    → kept_words t tops previous a n ≡ marked_words t previous a n
unfolding object_words
kept_low t tops previous zero a below = refl
kept_low t tops previous (suc n) a below =
    let here : stored_size (kept_in t tops previous a) ≡ (if is_marked previous a then stored_size (object_at t a) else 0) =
    size_kept (below_previous t tops a) (is_marked previous a) (object_at t a) (below a (omega arith) (omega arith)) in
    omega (arith, here, kept_low t tops previous n (suc a) (λ x l h. below x (omega (arith, l)) (omega (arith, h))))

kept_high : (t : Table) (tops : Tops) (previous : List Bool) (k a n : ℕ) → Spans t k → k * t.words_per_region ≤ a
    → a + n ≤ k * t.words_per_region + t.words_per_region → kept_words t tops previous a n ≤ top_of t k - a
kept_high t tops previous k a n p low high =
    let le = below_top t k (kept_in t tops previous) p
    (λ x s e. kept_some (below_previous t tops x) (is_marked previous x) (object_at t x) s e) a n low high in
    omega (arith, kept_chosen t tops previous n a, le)

pub kept_le : (t : Table) (tops : Tops) (previous : List Bool) (k : ℕ) → IsShaped t → MarksObjects t tops.previous previous
    → k < length t.regions → kind_of t k ≡ kinds.Ordinary
    → kept_words t tops previous (k * t.words_per_region) t.words_per_region ≤ live_bound_of t tops.previous previous k
unfolding live_bound_of
kept_le t tops previous k shape m known ordinary =
    let words : ℕ = t.words_per_region in
    let bottom : ℕ = k * words in
    let start : ℕ = get_or tops.previous k 0 in
    let p = spans t k shape ordinary in
    let top = tops_le t tops.previous previous k shape m in
    let low = m.bottom k known in
    let below : (x : ℕ) → bottom ≤ x → x < bottom + (start - bottom) → below_previous t tops x ≡ true = λ x l h.
    below_in words tops.previous k x (in_region words k x l (omega (arith, h, top))) ∙ lt-ltb x start (omega (arith, h, low)) in
    let split = chosen_split (kept_in t tops previous) (start - bottom) (words - (start - bottom)) words bottom start
    (omega (arith, top, low)) (omega (arith, low)) in
    let chosen = kept_chosen t tops previous in
    let marked = kept_low t tops previous (start - bottom) bottom below in
    let rest = kept_high t tops previous k start (words - (start - bottom)) p low (omega (arith, top, low)) in
    omega (arith, split, chosen words bottom, chosen (start - bottom) bottom, chosen (words - (start - bottom)) start, marked, rest)

-- the words of what is marked from one address up to another
abbrev pub words_between : Table → List Bool → ℕ → ℕ → ℕ
words_between t marks from to = marked_words t marks from (to - from)

pub words_stay : (t : Table) (marks : List Bool) (from at to : ℕ) → from ≤ at → at ≤ to
    → ((a : ℕ) → at ≤ a → a < to → is_marked marks a ≡ false) → words_between t marks from to ≡ words_between t marks from at
words_stay t marks from at to low high none =
    let split = chosen_split (marked_in t marks) (at - from) (to - at) (to - from) from at (omega (arith, low, high))
    (omega (arith, low)) in
    let chosen = marked_chosen t marks in
    let rest = none_words t marks (to - at) at (λ x l h. none x l (omega (arith, h, high))) in
    omega (arith, split, chosen (to - from) from, chosen (at - from) from, chosen (to - at) at, rest)

-- the live bound in its two parts
pub bound_is : (t : Table) (tops : List ℕ) (marks : List Bool) (k below top start : ℕ)
    → below ≡ marked_words t marks (k * t.words_per_region) (get_or tops k 0 - k * t.words_per_region)
    → top ≡ top_of t k → start ≡ get_or tops k 0 → below + (top - start) ≡ live_bound_of t tops marks k
unfolding live_bound_of
bound_is t tops marks k below top start e f g = omega (arith, e, f, g)
