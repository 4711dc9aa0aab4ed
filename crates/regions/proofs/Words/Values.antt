-- Reads and writes of an object's data.
use Rattle.regions.proofs.Common.{◌≡◌, ◌+◌, ◌-◌, ◌<◌, ◌≤◌, ◌∷◌, ◌∙◌, ℕ, suc, Some, List, [], length, take, drop, get_or, set, refl, sym, ap}
use Rattle.regions.proofs.Common.{arith, length-set, drop-drop, drop-set-add, take-set-le, get_or-drop, get_or-take, slice_get-get_or}
use Rattle.regions.proofs.Common.{header_of, Stored, stored_of, Table, object_at, values_at, object_values, set_value, put_object, table_of}
use Rattle.regions.proofs.Common.{IsTable, IsSome, counts_of, field_count, Row}
use Rattle.std.specs.List.{slice_get}
use Rattle.heap_words.specs.Contents.{fields_of}
use Rattle.regions.proofs.Words.Places.{IsInObject, IsIn}
use Rattle.regions.proofs.Words.Access.{HasPart, has_part, part_written}
use Rattle.regions.proofs.Words.Fields.{Turns, take_set}
use Rattle.regions.proofs.Tiles.Targets.{IsWrittenTable}
use Rattle.regions.proofs.Words.ObjectWords.{there}

pub has_value : (t : Table) (x i : ℕ) → i < length (values_at t x) → HasPart t x i (λ s. length s.values)
unfolding values_at
has_value t x i h = has_part t x i (λ s. length s.values) (λ o. length (object_values o)) (λ s. refl) refl h

value_word_at : (words : List ℕ) (x i : ℕ) (s : Stored) → IsIn words x s → i < length s.values
    → slice_get s.values i ≡ Some (get_or words (x + 2 + (length s.pointers + (length s.weaks + length s.held)) + i) 0)
value_word_at words x i s g h =
    let p : ℕ = length s.pointers in
    let d : ℕ = length s.values in
    let weak : ℕ = length s.weaks + length s.held in
    let rest : List ℕ = drop (suc (p + weak)) (drop (x + 1) words) in
    let are : s.values ≡ take d rest = ap (λ (r : Stored). r.values) g.stored_is in
    let at : rest ≡ drop (x + 1 + suc (p + weak)) words = drop-drop (suc (p + weak)) (x + 1) words in
    let e1 = slice_get-get_or s.values i 0 h in
    let e2 : get_or s.values i 0 ≡ get_or (take d rest) i 0 = ap (λ (vs : List ℕ). get_or vs i 0) are in
    let e3 : get_or (take d rest) i 0 ≡ get_or rest i 0 = get_or-take d rest i 0 h in
    let e4 : get_or rest i 0 ≡ get_or words (x + 1 + suc (p + weak) + i) 0 =
    ap (λ (vs : List ℕ). get_or vs i 0) at ∙ get_or-drop (x + 1 + suc (p + weak)) words i 0 in
    let place : x + 1 + suc (p + weak) + i ≡ x + 2 + (p + weak) + i = omega arith in
    e1 ∙ ap Some (e2 ∙ e3 ∙ e4 ∙ ap (λ a. get_or words a 0) place)

pub record IsValueRead (words : List ℕ) (t : Table) (x i : ℕ) : Type 0 where
  pub at : IsInObject t x x
  pub object : IsSome (counts_of (header_of (get_or words x 0)))
  pub in_object : IsInObject t x (x + 2 + field_count (header_of (get_or words x 0)) + i)
  pub value : slice_get (values_at t x) i ≡ Some (get_or words (x + 2 + field_count (header_of (get_or words x 0)) + i) 0)

pub value_read : (size : ℕ) (words : List ℕ) (rows : List Row) (t : Table) (x i : ℕ) → IsTable size words rows
    → table_of size words rows ≡ t → i < length (values_at t x) → IsValueRead words t x i
unfolding values_at
value_read size words rows t x i g e h =
    let p = has_value t x i h in
    let o = there size words rows t x p.object g e p.object_is in
    let count : field_count (header_of (get_or words x 0)) ≡ length p.object.pointers + (length p.object.weaks + length p.object.held) =
    ap fields_of o.is_in.header_is in
    record {
      at = record { object = p.object; is = p.object_is; below = omega arith };
      object = rw o.is_in.header_is refl;
      in_object = record { object = p.object; is = p.object_is; below = omega (arith, p.within, count) };
      value = rw (p.object_is, count) (value_word_at words x i p.object o.is_in p.within);
    }

abbrev pub with_value : Stored → ℕ → ℕ → Stored
with_value s i v = record s { values = set s.values i v }

-- words are read from one on, and one after them is written
before_set : (n k : ℕ) (ws : List ℕ) (j v : ℕ) → n + k ≤ j → take k (drop n (set ws j v)) ≡ take k (drop n ws)
before_set n k ws j v h =
    let at : j ≡ n + (j - n) = omega arith in
    ap (λ m. take k (drop n (set ws m v))) at ∙ ap (take k) (drop-set-add n ws (j - n) v)
    ∙ take-set-le k (drop n ws) (j - n) v (omega arith)

stored_of-set_value : (p weak held d : ℕ) (body : List ℕ) (i v : ℕ) → 1 + p + (weak + held) + d ≤ length body
    → stored_of p weak held d (set body (suc (p + (weak + held)) + i) v) ≡ with_value (stored_of p weak held d body) i v
stored_of-set_value p weak held d [] i v l = absurd (omega arith)
stored_of-set_value p weak held d (w ∷ ws) i v l =
    let q : ℕ = p + (weak + held) in
    let at : suc (p + (weak + held)) + i ≡ suc (p + (weak + held) + i) = omega arith in
    let a : take p (set ws (q + i) v) ≡ take p ws = take-set-le p ws (q + i) v (omega arith) in
    let b : take weak (drop p (set ws (q + i) v)) ≡ take weak (drop p ws) = before_set p weak ws (q + i) v (omega arith) in
    let c : take held (drop (p + weak) (set ws (q + i) v)) ≡ take held (drop (p + weak) ws) =
    before_set (p + weak) held ws (q + i) v (omega arith) in
    let e : take d (drop q (set ws (q + i) v)) ≡ set (take d (drop q ws)) i v =
    ap (take d) (drop-set-add q ws i v) ∙ take_set d (drop q ws) i v in
    rw (at, a, b, c, e) refl

turns_value : (s : Stored) (i v : ℕ) → Turns s (suc (length s.pointers + (length s.weaks + length s.held)) + i) v (with_value s i v)
turns_value s i v = λ body l e. stored_of-set_value _ _ _ _ body i v l ∙ ap (λ (r : Stored). with_value r i v) (sym e)

pub set_value-is : (t : Table) (x i v : ℕ) (s : Stored) → object_at t x ≡ Some s → set_value t x i v ≡ put_object t x (with_value s i v)
unfolding set_value
set_value-is t x i v s e = rw e refl

pub value_written : (size : ℕ) (words : List ℕ) (rows : List Row) (t : Table) (x i v : ℕ) → IsTable size words rows
    → table_of size words rows ≡ t → i < length (values_at t x)
    → IsWrittenTable size (set words (x + 2 + field_count (header_of (get_or words x 0)) + i) v) rows (set_value t x i v)
value_written size words rows t x i v g e h =
    let p = has_value t x i h in
    let o = there size words rows t x p.object g e p.object_is in
    let count : field_count (header_of (get_or words x 0)) ≡ length p.object.pointers + (length p.object.weaks + length p.object.held) =
    ap fields_of o.is_in.header_is in
    rw (set_value-is t x i v p.object p.object_is)
    (part_written size words rows t x (x + 2 + field_count (header_of (get_or words x 0)) + i)
    (suc (length p.object.pointers + (length p.object.weaks + length p.object.held)) + i) v p.object (with_value p.object i v) g e
    (ap (λ (u : Table). object_at u x) e ∙ p.object_is) (omega (arith, count)) (omega (arith, p.within))
    (turns_value p.object i v) (simp length-set))
