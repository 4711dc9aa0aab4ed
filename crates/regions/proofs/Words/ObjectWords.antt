-- The words of an object of the table.
use Rattle.regions.proofs.Common.{◌≡◌, ◌+◌, ◌≤◌, ◌∷◌, ◌++◌, ◌∙◌, Option, None, ℕ, suc, Some, List, [], length, take, drop, get_or, refl}
use Rattle.regions.proofs.Common.{sym}
use Rattle.regions.proofs.Common.{ap, subst, arith, drop-cons, length-take, length-drop, take-append-drop, get_or-drop, Stored, Object}
use Rattle.regions.proofs.Common.{tile_size, stored_of, Table, object_at, object_words, stored_size, object_pointers, object_weaks}
use Rattle.regions.proofs.Common.{object_values, pointers_at, weaks_at, values_at, IsSome, header_of, pointer_count, counts_of}
use Rattle.regions.proofs.Common.{sizes_in, table_of, IsTable, Row}
use Rattle.heap_words.specs.Contents.{weak_count, value_count, pointers_of, weaks_of, values_of, counted_size, IsPlainHeader}
use Rattle.regions.specs.Shaped.{IsPaired}
use Rattle.regions.proofs.Words.Counts.{counts_in, paired_by, plain_header}
use Rattle.regions.proofs.Words.Parse.{stored_of-append}
use Rattle.regions.proofs.Words.Places.{table_right, IsInObject, IsIn, object_is_in}
use Rattle.regions.proofs.Words.Fields.{IsOne, one_object}

pub words_of : (t : Table) (x : ℕ) (s : Stored) → object_at t x ≡ Some s → object_words t x ≡ tile_size (Object s)
unfolding object_words
words_of t x s e = ap stored_size e

-- its header and its name are words of it
pub header_in : (t : Table) (x : ℕ) (s : Stored) → object_at t x ≡ Some s → IsInObject t x x
header_in t x s e = record { object = s; is = e; below = omega arith }

pub name_in : (t : Table) (x : ℕ) (s : Stored) → object_at t x ≡ Some s → IsInObject t x (x + 1)
name_in t x s e = record { object = s; is = e; below = omega arith }

-- what is known of an object from its address
pub record IsThere (words : List ℕ) (t : Table) (x : ℕ) (s : Stored) : Type 0 where
  pub is : object_at t x ≡ Some s
  pub is_in : IsIn words x s
  pub words_are : object_words t x ≡ tile_size (Object s)
  pub size_is : sizes_in words x ≡ object_words t x
  pub fits : x + object_words t x ≤ length words
  pub large : 2 ≤ object_words t x

pub there : (size : ℕ) (words : List ℕ) (rows : List Row) (t : Table) (x : ℕ) (s : Stored) → IsTable size words rows
    → table_of size words rows ≡ t → object_at t x ≡ Some s → IsThere words t x s
there size words rows t x s g e h =
    let i = object_is_in (sizes_in words) size words rows x s (table_right g) (ap (λ (u : Table). object_at u x) e ∙ h) in
    let n = words_of t x s h in
    record {
      is = h;
      is_in = i;
      words_are = n;
      size_is = ap counted_size i.header_is ∙ sym n;
      fits = omega (arith, i.fits);
      large = omega arith;
    }

-- an object in words is plain, or one of pairs
pub paired_there : (words : List ℕ) (t : Table) (x : ℕ) (s : Stored) → IsThere words t x s → IsPaired s
paired_there words t x s i = paired_by (header_of (get_or words x 0)) s i.is_in.header_is

-- without held slots it has the header of one without pairs
pub plain_there : (words : List ℕ) (t : Table) (x : ℕ) (s : Stored) → IsThere words t x s → s.held ≡ []
    → IsPlainHeader (header_of (get_or words x 0))
plain_there words t x s i none =
    plain_header (header_of (get_or words x 0)) (counts_in s) i.is_in.head i.is_in.header_is (ap (λ (hs : List (Option ℕ)). length hs) none)

pub some_object : (o : Option Stored) → IsSome o → (s : Stored) × (o ≡ Some s)
some_object None h = cc
some_object (Some s) h = (s, refl)

pub object_there : (size : ℕ) (words : List ℕ) (rows : List Row) (t : Table) (x : ℕ) → IsTable size words rows
    → table_of size words rows ≡ t → IsSome (object_at t x) → (s : Stored) × IsThere words t x s
object_there size words rows t x g e h = let o = some_object (object_at t x) h in (o.0, there size words rows t x o.0 g e o.1)

pub name_read : (words : List ℕ) (t : Table) (x : ℕ) (s : Stored) → IsThere words t x s → get_or words (x + 1) 0 ≡ s.name
name_read words t x s i =
    let a : s.name ≡ get_or (drop (x + 1) words) 0 0 = ap (λ (r : Stored). r.name) i.is_in.stored_is in
    let b : get_or (drop (x + 1) words) 0 0 ≡ get_or words (x + 1) 0 =
    get_or-drop (x + 1) words 0 0 ∙ ap (λ k. get_or words k 0) (let z : x + 1 + 0 ≡ x + 1 = omega arith in z) in
    sym b ∙ sym a

-- the object's header is an object's
pub is_counted : (words : List ℕ) (t : Table) (x : ℕ) (s : Stored) → IsThere words t x s → IsSome (counts_of (header_of (get_or words x 0)))
is_counted words t x s i = rw i.is_in.header_is refl

-- what the object's header counts
pub pointers_counted : (words : List ℕ) (t : Table) (x : ℕ) (s : Stored) → IsThere words t x s
    → pointer_count (header_of (get_or words x 0)) ≡ length (pointers_at t x)
unfolding pointers_at
pointers_counted words t x s i = ap pointers_of i.is_in.header_is ∙ sym (ap (λ (o : Option Stored). length (object_pointers o)) i.is)

pub weaks_counted : (words : List ℕ) (t : Table) (x : ℕ) (s : Stored) → IsThere words t x s
    → weak_count (header_of (get_or words x 0)) ≡ length (weaks_at t x)
unfolding weaks_at
weaks_counted words t x s i = ap weaks_of i.is_in.header_is ∙ sym (ap (λ (o : Option Stored). length (object_weaks o)) i.is)

pub values_counted : (words : List ℕ) (t : Table) (x : ℕ) (s : Stored) → IsThere words t x s
    → value_count (header_of (get_or words x 0)) ≡ length (values_at t x)
unfolding values_at
values_counted words t x s i = ap values_of i.is_in.header_is ∙ sym (ap (λ (o : Option Stored). length (object_values o)) i.is)

-- an object's words are one tile, wherever they stand
pub one_copy : (sizes : ℕ → ℕ) (words : List ℕ) (x : ℕ) (s : Stored) → IsIn words x s
    → IsOne sizes (take (tile_size (Object s)) (drop x words)) (Object s)
one_copy sizes words x s i =
    let p : ℕ = length s.pointers in
    let weak : ℕ = length s.weaks in
    let held : ℕ = length s.held in
    let d : ℕ = length s.values in
    let body : List ℕ = drop (x + 1) words in
    let m : ℕ = 1 + p + (weak + held) + d in
    let at : x + 1 ≡ suc x = omega arith in
    let whole : drop x words ≡ get_or words x 0 ∷ body = rw at (drop-cons words x 0 (omega (arith, i.fits))) in
    let n : tile_size (Object s) ≡ suc m = omega arith in
    let block : take (tile_size (Object s)) (drop x words) ≡ get_or words x 0 ∷ take m body = rw (n, whole) refl in
    let len : length (take m body) ≡ m = simp (length-take, length-drop) (omega (arith, i.fits)) in
    let one = one_object sizes (get_or words x 0) p weak held d (take m body) i.head i.header_is len in
    let same : stored_of p weak held d (take m body ++ drop m body) ≡ stored_of p weak held d (take m body) =
    stored_of-append p weak held d (take m body) (drop m body) (omega arith) in
    let joined : take m body ++ drop m body ≡ body = take-append-drop m body in
    let stored : stored_of p weak held d (take m body) ≡ s = sym same ∙ ap (stored_of p weak held d) joined ∙ sym i.stored_is in
    rw block (subst (λ (r : Stored). IsOne sizes (get_or words x 0 ∷ take m body) (Object r)) stored one)
