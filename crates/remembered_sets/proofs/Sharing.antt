-- The filters of four neighbouring regions in one table.
use Rattle.std.proofs.Common.{get_or-set_other, get_or-set_same, if◌then◌else◌, length-set, replicate, length, eq-eqb, ne_eqb, false, subst}
use Rattle.std.proofs.Common.{arith, Bool, true, List, refl, ◌&&◌, ◌≡◌, ◌≢◌, ◌+◌, ◌*◌, ◌/◌, ◌<◌, ◌∙◌, inl, inr, eqb, set, sym, ap₂, ap, ℕ}
use Rattle.std.proofs.lemmas.Bool.{cases_eq}
use Rattle.std.proofs.lemmas.List.{get_or-replicate, length-replicate}
use Rattle.std.proofs.lemmas.List.FromFn.{fill_by_all, length-map-range_with_len, get_or-map-range_with_len}
use Rattle.std.proofs.lemmas.Nat.{mul-add-lt, div-mul-add}
use Rattle.bit_sets.specs.Bits.{has, is_between}
use Rattle.remembered_sets.specs.Sets.{CardFilter, empty_filter, emptied_filter}
use Rattle.remembered_sets.specs.Sharing.{no_filter, is_taken, part_flags, four_filters, filter_at}
use Rattle.remembered_sets.proofs.Laws.{in_region_is}
use Rattle.bit_sets.proofs.BitWords.{and-false}

-- ---- the flags of one part
pub length-part : (used flags : List Bool) (size part : ℕ) → length (part_flags used flags size part) ≡ size
length-part used flags size part = length-map-range_with_len (λ place. is_taken used flags size part place) 0 size

pub taken-part : (used flags : List Bool) (size part place : ℕ) → place < size
    → has (part_flags used flags size part) place ≡ is_taken used flags size part place
taken-part used flags size part place h =
    get_or-map-range_with_len (λ k. is_taken used flags size part k) 0 size place place false h (omega arith)

-- flags that agree with those of the part are the part's
part_is : (used flags : List Bool) (size part : ℕ) (new : List Bool) → length new ≡ size
    → ((place : ℕ) → place < size → has new place ≡ is_taken used flags size part place) → new ≡ part_flags used flags size part
part_is used flags size part new len each = fill_by_all (λ place. is_taken used flags size part place) new size false len each

part_same : (used flags used' flags' : List Bool) (size part : ℕ)
    → ((place : ℕ) → place < size → is_taken used' flags' size part place ≡ is_taken used flags size part place)
    → part_flags used' flags' size part ≡ part_flags used flags size part
part_same used flags used' flags' size part same =
    part_is used flags size part (part_flags used' flags' size part) (length-part used' flags' size part)
    (λ place h. taken-part used' flags' size part place h ∙ same place h)

-- a place is of the part that it is counted in
part_of : (size part place : ℕ) → place < size → (part * size + place) / size ≡ part
part_of size part place h = div-mul-add part size place h

pub apart : (size part other at place : ℕ) → other ≢ part → at < size → place < size → other * size + place ≢ part * size + at
apart size part other at place ne h k e =
    ne (sym (part_of size other place k) ∙ ap (λ (x : ℕ). x / size) e ∙ part_of size part at h)

pub within : (size part at n : ℕ) → part < 4 → at < size → n ≡ 4 * size → part * size + at < n
within size part at n p h e = let all : part * size + at < size * 4 = mul-add-lt part size at 4 p h in omega (arith, all, e)

-- ---- a flag is set
set_here : (used flags : List Bool) (size part at : ℕ) → at < size → part * size + at < length flags → has used part ≡ true
    → part_flags used (set flags (part * size + at) true) size part ≡ set (part_flags used flags size part) at true
set_here used flags size part at h k e =
    let old : List Bool = part_flags used flags size part in
    let new : List Bool = set flags (part * size + at) true in
    sym (part_is used new size part (set old at true) (length-set old at true ∙ length-part used flags size part) (λ place q.
    elim (cases_eq place at) [
      | inl same ↦
          let inside : at < length old = omega (arith, h, length-part used flags size part) in
          let there : is_taken used new size part at ≡ true =
          ap (λ (b : Bool). b && has new (part * size + at)) e ∙ get_or-set_same flags (part * size + at) true false k in
          subst (λ (x : ℕ). has (set old at true) x ≡ is_taken used new size part x) (sym same)
          (get_or-set_same old at true false inside ∙ sym there)
      | inr ne ↦
          get_or-set_other old at place true false ne ∙ taken-part used flags size part place q
          ∙ ap (λ (b : Bool). has used part && b)
          (sym (get_or-set_other flags (part * size + at) (part * size + place) true false (λ z. ne (omega (arith, z)))))
    ]))

set_elsewhere : (used flags : List Bool) (size part other at place : ℕ) → other ≢ part → at < size → place < size
    → is_taken used (set flags (part * size + at) true) size other place ≡ is_taken used flags size other place
set_elsewhere used flags size part other at place ne h k =
    ap (λ (b : Bool). has used other && b)
    (get_or-set_other flags (part * size + at) (other * size + place) true false (apart size part other at place ne h k))

-- ---- the four
pub filter_is : (rows : ℕ) (used flags : List Bool) (size part : ℕ) → part < 4
    → filter_at (four_filters rows used flags size) part ≡ record { rows = rows; flags = part_flags used flags size part }
unfolding four_filters
filter_is rows used flags size part h =
    get_or-map-range_with_len (λ p. record { rows = rows; flags = part_flags used flags size p }) 0 4 part part no_filter h (omega arith)

pub length-four : (rows : ℕ) (used flags : List Bool) (size : ℕ) → length (four_filters rows used flags size) ≡ 4
unfolding four_filters
length-four rows used flags size =
    length-map-range_with_len {X = CardFilter} (λ p. record { rows = rows; flags = part_flags used flags size p }) 0 4

-- the four where one has changed
four_are : (rows size : ℕ) (used flags used' flags' : List Bool) (part : ℕ) (new : CardFilter)
    → new ≡ record { rows = rows; flags = part_flags used' flags' size part }
    → ((other place : ℕ) → other ≢ part → place < size → is_taken used' flags' size other place ≡ is_taken used flags size other place)
    → four_filters rows used' flags' size ≡ set (four_filters rows used flags size) part new
unfolding four_filters
four_are rows size used flags used' flags' part new is others =
    let four : List CardFilter = four_filters rows used flags size in
    sym (fill_by_all (λ p. record { rows = rows; flags = part_flags used' flags' size p }) (set four part new) 4 no_filter
    (length-set four part new ∙ length-four rows used flags size) (λ k h. elim (cases_eq k part) [
      | inl same ↦
          let inside : part < length four = omega (arith, h, same, length-four rows used flags size) in
          subst (λ (x : ℕ). filter_at (set four part new) x ≡ record { rows = rows; flags = part_flags used' flags' size x }) (sym same)
          (get_or-set_same four part new no_filter inside ∙ is)
      | inr ne ↦
          get_or-set_other four part k new no_filter ne ∙ filter_is rows used flags size k h
          ∙ ap (λ (l : List Bool). record { rows = rows; flags = l })
          (sym (part_same used flags used' flags' size k (λ place q. others k place ne q)))
    ]))

-- two places of a part are taken, whose flags count
pub two_taken : (rows size part first second : ℕ) (used flags used' flags' : List Bool) → part < 4 → first < size → second < size
    → length used ≡ 4 → length flags' ≡ 4 * size → used' ≡ set used part true
    → ((other place : ℕ) → place < size → is_taken used' flags' size other place ≡ is_taken used flags size other place)
    → four_filters rows used' (set (set flags' (part * size + first) true) (part * size + second) true) size
    ≡ set (four_filters rows used flags size) part
    (record { rows = rows; flags = set (set (part_flags used flags size part) first true) second true })
two_taken rows size part first second used flags used' flags' p h k four len is same =
    let one : List Bool = set flags' (part * size + first) true in
    let counts' : has used' part ≡ true =
    ap (λ (u : List Bool). has u part) is ∙ get_or-set_same used part true false (omega (arith, p, four)) in
    four_are rows size used flags used' (set one (part * size + second) true) part
    (record { rows = rows; flags = set (set (part_flags used flags size part) first true) second true })
    (ap (λ (l : List Bool). record { rows = rows; flags = l }) (sym (
    set_here used' one size part second k
    (omega (arith, within size part second (4 * size) p k refl, len, length-set flags' (part * size + first) true)) counts'
    ∙ ap (λ (l : List Bool). set l second true) (
    set_here used' flags' size part first h (within size part first (length flags') p h len) counts'
    ∙ ap (λ (l : List Bool). set l first true) (part_same used flags used' flags' size part (λ place q. same part place q))))))
    (λ other place ne q. set_elsewhere used' one size part other second place ne k q
    ∙ set_elsewhere used' flags' size part other first place ne h q ∙ same other place q)

-- one of the four is emptied
pub part_emptied : (rows size part : ℕ) (used flags : List Bool) → part < 4 → length used ≡ 4
    → four_filters rows (set used part false) flags size
    ≡ set (four_filters rows used flags size) part (emptied_filter (filter_at (four_filters rows used flags size) part))
part_emptied rows size part used flags p four =
    let none : replicate size false ≡ part_flags (set used part false) flags size part =
    part_is (set used part false) flags size part (replicate size false) (length-replicate size false)
    (λ place h. get_or-replicate size place false false h
    ∙ sym (ap (λ (b : Bool). b && has flags (part * size + place)) (get_or-set_same used part false false (omega (arith, p, four))))) in
    four_are rows size used flags (set used part false) flags part (emptied_filter (filter_at (four_filters rows used flags size) part))
    (ap emptied_filter (filter_is rows used flags size part p)
    ∙ ap (λ (n : ℕ). record { rows = rows; flags = replicate n false }) (length-part used flags size part)
    ∙ ap (λ (l : List Bool). record { rows = rows; flags = l }) none)
    (λ other place ne h. ap (λ (b : Bool). b && has flags (other * size + place)) (get_or-set_other used part other false false ne))

-- the flags of a part count from now on, none of which is set
pub begun : (size part other place : ℕ) (used flags flags' : List Bool) → part < 4 → length used ≡ 4 → has used part ≡ false
    → place < size → ((a : ℕ) → has flags' a ≡ (if is_between (part * size) (part * size + size) a then false else has flags a))
    → is_taken (set used part true) flags' size other place ≡ is_taken used flags size other place
begun size part other place used flags flags' p four unused h cleared =
    let own : is_between (part * size) (part * size + size) (other * size + place) ≡ eqb other part =
    in_region_is size part (other * size + place) (omega (arith, h))
    ∙ ap (λ (x : ℕ). eqb x part) (part_of size other place h) in
    let now : has flags' (other * size + place) ≡ (if eqb other part then false else has flags (other * size + place)) =
    cleared (other * size + place) ∙ ap (λ (b : Bool). if b then false else has flags (other * size + place)) own in
    elim (cases_eq other part) [
      | inl same ↦
          ap (λ (b : Bool). has (set used part true) other && b)
          (now ∙ ap (λ (b : Bool). if b then false else has flags (other * size + place)) (eq-eqb other part same))
          ∙ and-false (has (set used part true) other)
          ∙ sym (ap (λ (b : Bool). b && has flags (other * size + place)) (ap (has used) same ∙ unused))
      | inr ne ↦
          ap₂ (λ (x y : Bool). x && y) (get_or-set_other used part other true false ne)
          (now ∙ ap (λ (b : Bool). if b then false else has flags (other * size + place)) (ne_eqb other part ne))
    ]

-- ---- new ones
pub four_new : (rows w size : ℕ) → size ≡ 3 * rows * w
    → four_filters rows (replicate 4 false) (replicate (4 * size) false) size ≡ replicate 4 (empty_filter w rows)
unfolding four_filters
four_new rows w size e =
    sym (fill_by_all (λ p. record { rows = rows; flags = part_flags (replicate 4 false) (replicate (4 * size) false) size p })
    (replicate 4 (empty_filter w rows)) 4 no_filter (length-replicate 4 (empty_filter w rows))
    (λ k h. get_or-replicate 4 k (empty_filter w rows) no_filter h
    ∙ ap (λ (l : List Bool). record { rows = rows; flags = l })
    (ap (λ (n : ℕ). replicate n false) (sym e)
    ∙ part_is (replicate 4 false) (replicate (4 * size) false) size k (replicate size false) (length-replicate size false)
    (λ place q. get_or-replicate size place false false q
    ∙ sym (ap (λ (b : Bool). b && has (replicate (4 * size) false) (k * size + place)) (get_or-replicate 4 k false false h))))))
