-- Reads and writes of several data words of an object, one after another.
use Rattle.regions.proofs.Common.{◌≡◌, ◌+◌, ◌-◌, ◌<◌, ◌≤◌, ◌∷◌, ◌∙◌, ℕ, zero, suc, Some, List, [], length, take, drop, get_or, set, refl}
use Rattle.regions.proofs.Common.{sym, ap, subst, arith, length-set, get_or-set_other, drop-drop, drop-take, take-take, IsSome, header_of}
use Rattle.heap_words.specs.Contents.{fields_of}
use Rattle.regions.proofs.Common.{put, counts_of, field_count, Memory, Stored, Table, object_at, object_values, values_at, set_value}
use Rattle.regions.proofs.Common.{table_of, IsRegionTable, IsTable, AreTilesWritten, Entries, Starts, Row}
use Rattle.std.proofs.Common.{ap₂}
use Rattle.heap_words.proofs.Blocks.{put_none}
use Rattle.regions.specs.Table.{set_values}
use Rattle.regions.proofs.Words.ObjectWords.{object_there, there}
use Rattle.regions.proofs.Words.Values.{has_value, value_written, with_value}
use Rattle.regions.proofs.Tiles.Changes.{value_put}
use Rattle.regions.proofs.Tiles.ShapedMade.{shaped_of}
use Rattle.regions.proofs.Tiles.Within.{object_within}
use Rattle.regions.proofs.Cards.Entries.{value_sound}

-- ---- reads
values_here : (t : Table) (x : ℕ) (s : Stored) → object_at t x ≡ Some s → values_at t x ≡ s.values
unfolding values_at
values_here t x s e = ap object_values e

-- so many of the first d from one on
part_of : (n from d : ℕ) (ws : List ℕ) → from + n ≤ d → take n (drop from (take d ws)) ≡ take n (drop from ws)
part_of n from d ws h =
    let e : d ≡ from + (d - from) = omega arith in
    ap (λ (m : ℕ). take n (drop from (take m ws))) e ∙ ap (take n) (drop-take from (d - from) ws)
    ∙ take-take n (d - from) (drop from ws) (omega arith)

pub record AreValuesRead (words : List ℕ) (written : ℕ) (t : Table) (x from n : ℕ) : Type 0 where
  pub at : x < written
  pub object : IsSome (counts_of (header_of (get_or words x 0)))
  pub within : x + 2 + field_count (header_of (get_or words x 0)) + from + n ≤ written
  pub values : take n (drop (x + 2 + field_count (header_of (get_or words x 0)) + from) words) ≡ take n (drop from (values_at t x))

pub values_read : (size : ℕ) (words : List ℕ) (rows : List Row) (t : Table) (written x from n : ℕ) → IsTable size words rows
    → table_of size words rows ≡ t → AreTilesWritten (table_of size words rows) written → IsSome (object_at t x)
    → from + n ≤ length (values_at t x) → AreValuesRead words written t x from n
values_read size words rows t written x from n g e all some h =
    let o = object_there size words rows t x g e some in
    let s : Stored = o.0 in
    let is = o.1.is_in in
    let here = values_here t x s o.1.is in
    let few : from + n ≤ length s.values = omega (arith, h, ap (λ (vs : List ℕ). length vs) here) in
    let count : field_count (header_of (get_or words x 0)) ≡ length s.pointers + (length s.weaks + length s.held) =
    ap fields_of is.header_is in
    let inside = object_within (table_of size words rows) t written x s all e o.1.is in
    let p : ℕ = suc (length s.pointers + (length s.weaks + length s.held)) in
    let rest : List ℕ = drop p (drop (x + 1) words) in
    let are : values_at t x ≡ take (length s.values) rest = here ∙ ap (λ (r : Stored). r.values) is.stored_is in
    let place : x + 1 + p + from ≡ x + 2 + field_count (header_of (get_or words x 0)) + from = omega (arith, count) in
    let at : drop from rest ≡ drop (x + 2 + field_count (header_of (get_or words x 0)) + from) words =
    ap (drop from) (drop-drop p (x + 1) words) ∙ drop-drop from (x + 1 + p) words ∙ ap (λ (k : ℕ). drop k words) place in
    record {
      at = omega arith;
      object = rw is.header_is refl;
      within = omega (arith, inside, count, few);
      values = sym (ap (λ (vs : List ℕ). take n (drop from vs)) are ∙ part_of n from (length s.values) rest few ∙ ap (take n) at);
    }

-- ---- writes
-- a word is set, and then those after it
put_set : (ws : List ℕ) (n v : ℕ) (vs : List ℕ) → n < length ws → put (set ws n v) (suc n) vs ≡ put ws n (v ∷ vs)
put_set [] n v vs h = absurd (omega arith)
put_set (w ∷ ws) zero v vs h = refl
put_set (w ∷ ws) (suc n) v vs h = ap (λ (xs : List ℕ). w ∷ xs) (put_set ws n v vs (omega arith))

-- an object has as many data words as before
pub values_stay : (t : Table) (x i v : ℕ) → 0 < t.words_per_region → i < length (values_at t x)
    → length (values_at (set_value t x i v) x) ≡ length (values_at t x)
values_stay t x i v positive h =
    let p = has_value t x i h in
    let now = values_here (set_value t x i v) x (with_value p.object i v) (value_put t x i v p.object positive p.object_is).is in
    let was = values_here t x p.object p.object_is in
    ap (λ (vs : List ℕ). length vs) now ∙ length-set p.object.values i v ∙ sym (ap (λ (vs : List ℕ). length vs) was)

abbrev memory_of : List ℕ → ℕ → Memory
memory_of ws n = record { all = ws; written = n }

pub record AreValuesSet (size shift lowest free : ℕ) (entries : Entries) (starts : Starts) (memory : Memory) (rows : List Row) (t : Table)
    : Type 0 where
  pub sound : IsRegionTable size shift lowest free entries starts memory rows
  pub table_is : table_of size memory.all rows ≡ t

-- so many words stand in the place of as many: then the table has each data word
pub values_set : (size shift lowest free : ℕ) (entries : Entries) (starts : Starts) (memory memory' : Memory) (rows : List Row) (t : Table)
    (x from : ℕ) (vs : List ℕ) → IsRegionTable size shift lowest free entries starts memory rows → table_of size memory.all rows ≡ t
    → from + length vs ≤ length (values_at t x) → memory'.written ≡ memory.written
    → memory'.all ≡ put memory.all (x + 2 + field_count (header_of (get_or memory.all x 0)) + from) vs
    → AreValuesSet size shift lowest free entries starts memory' rows (set_values t x from vs)
values_set size shift lowest free entries starts memory memory' rows t x from [] s e h same all =
    let is : memory'.all ≡ memory.all = all ∙ put_none memory.all _ in
    let k : memory' ≡ memory = ap₂ (λ (ws : List ℕ) (n : ℕ). memory_of ws n) is same in
    record {
      sound = subst (λ (m : Memory). IsRegionTable size shift lowest free entries starts m rows) (sym k) s;
      table_is = ap (λ (ws : List ℕ). table_of size ws rows) is ∙ e;
    }
values_set size shift lowest free entries starts memory memory' rows t x from (v ∷ vs) s e h same all =
    let place : ℕ = x + 2 + field_count (header_of (get_or memory.all x 0)) + from in
    let first : from < length (values_at t x) = omega arith in
    let p = has_value t x from first in
    let one : Memory = record { all = set memory.all place v; written = memory.written } in
    let w = value_written size memory.all rows t x from v s.table e first in
    let sound = value_sound size shift lowest free entries starts memory rows t s e one x from v first (omega arith) w in
    let positive = (shaped_of size memory.all rows t s.table e).positive in
    let many = values_stay t x from v positive first in
    let header : get_or (set memory.all place v) x 0 ≡ get_or memory.all x 0 =
    get_or-set_other memory.all place x v 0 (λ (z : x ≡ place). omega arith) in
    let o = there size memory.all rows t x p.object s.table e p.object_is in
    let count : field_count (header_of (get_or memory.all x 0))
    ≡ length p.object.pointers + (length p.object.weaks + length p.object.held) =
    ap fields_of o.is_in.header_is in
    let inside : place < length memory.all = omega (arith, o.fits, o.words_are, count, p.within) in
    let next : x + 2 + field_count (header_of (get_or (set memory.all place v) x 0)) + suc from ≡ suc place = rw header (omega arith) in
    values_set size shift lowest free entries starts one memory' rows (set_value t x from v) x (suc from) vs sound w.table_is
    (omega (arith, many, h)) same
    (all ∙ sym (put_set memory.all place v vs inside) ∙ ap (λ (n : ℕ). put (set memory.all place v) n vs) (sym next))
