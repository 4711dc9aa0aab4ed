-- How a word that is set, and words at the end, change the objects that are in a list of words.
use Rattle.std.proofs.Common.{◌≡◌, ◌+◌, ◌-◌, ◌<◌, ◌≤◌, ◌∷◌, ◌++◌, ◌∙◌}
use Rattle.std.proofs.Common.{ℕ, zero, suc, List, [], Bool, true, false, cond, Option, Some, None, option_map, slice_get, length, get_or}
use Rattle.std.proofs.Common.{set, map, take, drop, replicate, refl, sym, ap, subst, arith, length-take, length-drop}
use Rattle.std.proofs.lemmas.List.{get_or-take, get_or-drop, get_or-map, map-set, take-set-le, drop-set-lt, drop-set-add, drop-append-le}
use Rattle.std.proofs.lemmas.List.{take-append-le, drop_at, drop-drop, drop-replicate, take-replicate, map_push, length-map, take_all}
use Rattle.std.proofs.lemmas.Bool.{lt-ltb}
use Rattle.std.proofs.lemmas.Option.{slice_get-map, slice_get-get_or}
use Rattle.heap_model.specs.Graph.{Object}
use Rattle.object_graph.specs.Fields.{pointer_of, object_in}
use Rattle.object_graph.specs.InWords.{start_of, weaks_of, object_at, objects_in, AreInTurn, some_weaks}
use Rattle.graph_runs.specs.Sparing.{have_weaks}
use Rattle.std.specs.Prelude.{nat_lt}
use Rattle.object_graph.specs.declared.objects.Entry.{Entry}

-- a word among the first ones is set among them
take-set_in : (n i : ℕ) (xs : List ℕ) (x : ℕ) → take n (set xs i x) ≡ set (take n xs) i x
take-set_in zero i xs x = refl
take-set_in (suc n) i [] x = refl
take-set_in (suc n) zero (y ∷ xs) x = refl
take-set_in (suc n) (suc i) (y ∷ xs) x = ap (λ (ys : List ℕ). y ∷ ys) (take-set_in n i xs x)

-- the k-th of some words
pub part_word : (words : List ℕ) (s n k d : ℕ) → k < n → get_or (take n (drop s words)) k d ≡ get_or words (s + k) d
part_word words s n k d lt = get_or-take n (drop s words) k d lt ∙ get_or-drop s words k d

pub part_length : (words : List ℕ) (s n : ℕ) → s + n ≤ length words → length (take n (drop s words)) ≡ n
part_length words s n le = grind (arith, length-take, length-drop)

part_set : (words : List ℕ) (s n k x : ℕ) → take n (drop s (set words (s + k) x)) ≡ set (take n (drop s words)) k x
part_set words s n k x = ap (take n) (drop-set-add s words k x) ∙ take-set_in n k (drop s words) x

part_set_before : (words : List ℕ) (s n p x : ℕ) → p < s → take n (drop s (set words p x)) ≡ take n (drop s words)
part_set_before words s n p x lt = ap (take n) (drop-set-lt s words p x lt)

part_set_behind : (words : List ℕ) (s n p x : ℕ) → s + n ≤ p → take n (drop s (set words p x)) ≡ take n (drop s words)
part_set_behind words s n p x le =
    let at : s + (p - s) ≡ p = omega arith in
    let there : take n (drop s (set words (s + (p - s)) x)) ≡ take n (drop s words) =
    ap (take n) (drop-set-add s words (p - s) x) ∙ take-set-le n (drop s words) (p - s) x (omega arith) in
    subst (λ (q : ℕ). take n (drop s (set words q x)) ≡ take n (drop s words)) at there

part_more : (words more : List ℕ) (s n : ℕ) → s + n ≤ length words → take n (drop s (words ++ more)) ≡ take n (drop s words)
part_more words more s n le =
    ap (take n) (drop-append-le s words more (omega arith)) ∙ take-append-le n (drop s words) more (rw (length-drop s words) (omega arith))

part_zeros : (words : List ℕ) (s j m n : ℕ) → s ≡ length words + j → j + n ≤ m → take n (drop s (words ++ replicate m 0)) ≡ replicate n 0
part_zeros words s j m n is le =
    let first : drop s (words ++ replicate m 0) ≡ drop j (drop (length words) (words ++ replicate m 0)) =
    rw is (sym (drop-drop j (length words) (words ++ replicate m 0))) in
    let second : drop s (words ++ replicate m 0) ≡ replicate (m - j) 0 =
    first ∙ ap (drop j) (drop_at words (replicate m 0) (length words) refl) ∙ drop-replicate j m 0 in
    ap (take n) second ∙ take-replicate n (m - j) 0 (omega arith)

map-zeros : (n : ℕ) → map pointer_of (replicate n 0) ≡ replicate n None
map-zeros zero = refl
map-zeros (suc n) = ap (λ (xs : List (Option ℕ)). None ∷ xs) (map-zeros n)

-- an object of the same lists
same_object : {p q u v : List (Option ℕ)} {x y : List ℕ} → p ≡ q → u ≡ v → x ≡ y
    → ◌≡◌ {A = Object} (record { pointers = p; weaks = u; held = []; values = x })
    (record { pointers = q; weaks = v; held = []; values = y })
same_object a b c = cc

object_before : (words : List ℕ) (e : Entry) (p x : ℕ) → start_of e + e.pointers + weaks_of e + e.values ≤ p
    → object_at (set words p x) e ≡ object_at words e
object_before words e p x le = same_object
    (ap (map pointer_of) (part_set_behind words (start_of e) e.pointers p x (omega arith)))
    (ap (map pointer_of) (part_set_behind words (start_of e + e.pointers) (weaks_of e) p x (omega arith)))
    (part_set_behind words (start_of e + e.pointers + weaks_of e) e.values p x le)

object_behind : (words : List ℕ) (e : Entry) (p x : ℕ) → p < start_of e → object_at (set words p x) e ≡ object_at words e
object_behind words e p x lt = same_object
    (ap (map pointer_of) (part_set_before words (start_of e) e.pointers p x lt))
    (ap (map pointer_of) (part_set_before words (start_of e + e.pointers) (weaks_of e) p x (omega arith)))
    (part_set_before words (start_of e + e.pointers + weaks_of e) e.values p x (omega arith))

object_more : (words more : List ℕ) (e : Entry) → start_of e + e.pointers + weaks_of e + e.values ≤ length words
    → object_at (words ++ more) e ≡ object_at words e
object_more words more e le = same_object
    (ap (map pointer_of) (part_more words more (start_of e) e.pointers (omega arith)))
    (ap (map pointer_of) (part_more words more (start_of e + e.pointers) (weaks_of e) (omega arith)))
    (part_more words more (start_of e + e.pointers + weaks_of e) e.values le)

-- entries in turn end after their first word
turn_ends : (es : List Entry) (from end : ℕ) → AreInTurn es from end → from ≤ end
turn_ends [] from end turn = omega (arith, turn)
turn_ends (e ∷ es) from end turn =
    let rest = turn_ends es (from + e.pointers + weaks_of e + e.values) end turn.1 in omega arith

pub turn_within : (es : List Entry) (from end i : ℕ) (d : Entry) → AreInTurn es from end → i < length es
    → start_of (get_or es i d) + (get_or es i d).pointers + weaks_of (get_or es i d) + (get_or es i d).values ≤ end
turn_within [] from end i d turn lt = absurd (omega arith)
turn_within (e ∷ es) from end zero d turn lt =
    let rest = turn_ends es (from + e.pointers + weaks_of e + e.values) end turn.1 in
    let start = turn.0 in omega arith
turn_within (e ∷ es) from end (suc i) d turn lt = turn_within es (from + e.pointers + weaks_of e + e.values) end i d turn.1 (omega arith)

turn_from : (es : List Entry) (from end i : ℕ) (d : Entry) → AreInTurn es from end → i < length es → from ≤ start_of (get_or es i d)
turn_from [] from end i d turn lt = absurd (omega arith)
turn_from (e ∷ es) from end zero d turn lt = let start = turn.0 in omega arith
turn_from (e ∷ es) from end (suc i) d turn lt =
    let rest = turn_from es (from + e.pointers + weaks_of e + e.values) end i d turn.1 (omega arith) in omega arith

pub turn_push : (es : List Entry) (from end last : ℕ) (e : Entry) → AreInTurn es from end → start_of e ≡ end
    → end + e.pointers + weaks_of e + e.values ≡ last → AreInTurn (es ++ e ∷ []) from last
turn_push [] from end last e turn start is = (start ∙ sym turn, ap (λ (n : ℕ). n + e.pointers + weaks_of e + e.values) turn ∙ is)
turn_push (x ∷ es) from end last e turn start is =
    (turn.0, turn_push es (from + x.pointers + weaks_of x + x.values) end last e turn.1 start is)

-- a word before all of them changes none
objects_behind : (es : List Entry) (from end p x : ℕ) (words : List ℕ) → AreInTurn es from end → p < from
    → objects_in (set words p x) es ≡ objects_in words es
objects_behind [] from end p x words turn lt = refl
objects_behind (e ∷ es) from end p x words turn lt =
    let start = turn.0 in
    let head = object_behind words e p x (omega arith) in
    let tail = objects_behind es (from + e.pointers + weaks_of e + e.values) end p x words turn.1 (omega arith) in
    cc

-- a word of one object changes no other
objects_set : (es : List Entry) (from end i p x : ℕ) (d : Entry) (words : List ℕ) → AreInTurn es from end → i < length es
    → start_of (get_or es i d) ≤ p → p < start_of (get_or es i d) + (get_or es i d).pointers + weaks_of
    (get_or es i d) + (get_or es i d).values
    → objects_in (set words p x) es ≡ set (objects_in words es) i (object_at (set words p x) (get_or es i d))
objects_set [] from end i p x d words turn lt low high = absurd (omega arith)
objects_set (e ∷ es) from end zero p x d words turn lt low high =
    let start = turn.0 in
    ap (λ (xs : List Object). object_at (set words p x) e ∷ xs)
    (objects_behind es (from + e.pointers + weaks_of e + e.values) end p x words turn.1 (omega arith))
objects_set (e ∷ es) from end (suc i) p x d words turn lt low high =
    let start = turn.0 in
    let least = turn_from es (from + e.pointers + weaks_of e + e.values) end i d turn.1 (omega arith) in
    let head = object_before words e p x (omega arith) in
    let tail = objects_set es (from + e.pointers + weaks_of e + e.values) end i p x d words turn.1 (omega arith) low high in
    cc

objects_more : (es : List Entry) (from end : ℕ) (words more : List ℕ) → AreInTurn es from end → end ≤ length words
    → objects_in (words ++ more) es ≡ objects_in words es
objects_more [] from end words more turn le = refl
objects_more (e ∷ es) from end words more turn le =
    let start = turn.0 in
    let rest = turn_ends es (from + e.pointers + weaks_of e + e.values) end turn.1 in
    let head = object_more words more e (omega arith) in
    let tail = objects_more es (from + e.pointers + weaks_of e + e.values) end words more turn.1 le in
    cc

-- what an entry tells of the object in its place
pub record IsEntry (words : List ℕ) (objects : List Object) (i : ℕ) (e : Entry) : Type 0 where
  pub object : object_in objects i ≡ object_at words e
  pub pointers : length (object_in objects i).pointers ≡ e.pointers
  pub weaks : length (object_in objects i).weaks ≡ weaks_of e
  pub values : length (object_in objects i).values ≡ e.values
  pub within : start_of e + e.pointers + weaks_of e + e.values ≤ length words

pointers_length : (words : List ℕ) (s n : ℕ) → s + n ≤ length words → length (map pointer_of (take n (drop s words))) ≡ n
pointers_length words s n le = length-map (take n (drop s words)) pointer_of ∙ part_length words s n le

pub entry_of : (words : List ℕ) (es : List Entry) (objects : List Object) (i : ℕ) (e : Entry) → objects_in words es ≡ objects
    → AreInTurn es 0 (length words) → i < length objects → e ≡ get_or es i e → IsEntry words objects i e
entry_of words es objects i e view turn inside is =
    let lt : i < length es = omega (arith, ap length view, length-map es (object_at words)) in
    let object : object_in objects i ≡ object_at words e =
    ap (λ (xs : List Object). object_in xs i) (sym view) ∙ get_or-map (object_at words) es i e _ lt ∙ ap (object_at words) (sym is) in
    let within : start_of e + e.pointers + weaks_of e + e.values ≤ length words =
    subst (λ (y : Entry). start_of y + y.pointers + weaks_of y + y.values ≤ length words) (sym is)
    (turn_within es 0 (length words) i e turn lt) in
    record {
      object = object;
      pointers = ap (λ (o : Object). length o.pointers) object ∙ pointers_length words (start_of e) e.pointers (omega arith);
      weaks = ap (λ (o : Object). length o.weaks) object ∙ pointers_length words (start_of e + e.pointers) (weaks_of e) (omega arith);
      values = ap (λ (o : Object). length o.values) object ∙ part_length words (start_of e + e.pointers + weaks_of e) e.values within;
      within = within;
    }

-- a pointer or weak slot among those from a place on
slot_read : (words : List ℕ) (s n k x : ℕ) → s + n ≤ length words → k < n → x ≡ get_or words (s + k) x
    → slice_get (map pointer_of (take n (drop s words))) k ≡ Some (pointer_of x)
slot_read words s n k x le field is =
    let part = take n (drop s words) in
    let there : k < length part = rw (part_length words s n le) field in
    let word : get_or part k x ≡ x = part_word words s n k x field ∙ sym is in
    slice_get-map pointer_of part k ∙ ap (option_map pointer_of) (slice_get-get_or part k x there ∙ ap (λ (y : ℕ). Some y) word)

-- a field that is read
pub pointer_read : (words : List ℕ) (objects : List Object) (i k x : ℕ) (e : Entry) → IsEntry words objects i e → k < e.pointers
    → x ≡ get_or words (start_of e + k) x → slice_get (object_in objects i).pointers k ≡ Some (pointer_of x)
pointer_read words objects i k x e entry field is =
    ap (λ (o : Object). slice_get o.pointers k) entry.object
    ∙ slot_read words (start_of e) e.pointers k x (omega (arith, entry.within)) field is

pub weak_read : (words : List ℕ) (objects : List Object) (i k x : ℕ) (e : Entry) → IsEntry words objects i e → k < weaks_of e
    → x ≡ get_or words (start_of e + e.pointers + k) x → slice_get (object_in objects i).weaks k ≡ Some (pointer_of x)
weak_read words objects i k x e entry field is =
    ap (λ (o : Object). slice_get o.weaks k) entry.object
    ∙ slot_read words (start_of e + e.pointers) (weaks_of e) k x (omega (arith, entry.within)) field is

pub value_read : (words : List ℕ) (objects : List Object) (i k x : ℕ) (e : Entry) → IsEntry words objects i e → k < e.values
    → x ≡ get_or words (start_of e + e.pointers + weaks_of e + k) x → slice_get (object_in objects i).values k ≡ Some x
value_read words objects i k x e entry field is =
    let part = take e.values (drop (start_of e + e.pointers + weaks_of e) words) in
    let there : k < length part = rw (part_length words (start_of e + e.pointers + weaks_of e) e.values entry.within) field in
    let word : get_or part k x ≡ x = part_word words (start_of e + e.pointers + weaks_of e) e.values k x field ∙ sym is in
    ap (λ (o : Object). slice_get o.values k) entry.object ∙ slice_get-get_or part k x there ∙ ap (λ (y : ℕ). Some y) word

-- a word is set within the words of the object in a place
pub word_set : (words : List ℕ) (es : List Entry) (objects : List Object) (i p x : ℕ) (e : Entry) → objects_in words es ≡ objects
    → AreInTurn es 0 (length words) → i < length objects → e ≡ get_or es i e
    → start_of e ≤ p → p < start_of e + e.pointers + weaks_of e + e.values
    → objects_in (set words p x) es ≡ set objects i (object_at (set words p x) e)
word_set words es objects i p x e view turn inside is low high =
    let lt : i < length es = omega (arith, ap length view, length-map es (object_at words)) in
    let least = subst (λ (y : Entry). start_of y ≤ p) is low in
    let most = subst (λ (y : Entry). p < start_of y + y.pointers + weaks_of y + y.values) is high in
    let changed = objects_set es 0 (length words) i p x e words turn lt least most in
    changed ∙ ap (λ (y : Entry). set (objects_in words es) i (object_at (set words p x) y)) (sym is)
    ∙ ap (λ (xs : List Object). set xs i (object_at (set words p x) e)) view

slots_set : (words : List ℕ) (s n k x : ℕ)
    → map pointer_of (take n (drop s (set words (s + k) x))) ≡ set (map pointer_of (take n (drop s words))) k (pointer_of x)
slots_set words s n k x = ap (map pointer_of) (part_set words s n k x) ∙ map-set pointer_of (take n (drop s words)) k x

-- a field that is set
pub pointer_set : (words : List ℕ) (es : List Entry) (objects : List Object) (i k x : ℕ) (e : Entry) → objects_in words es ≡ objects
    → AreInTurn es 0 (length words) → i < length objects → e ≡ get_or es i e → IsEntry words objects i e → k < e.pointers
    → objects_in (set words (start_of e + k) x) es ≡ set objects i
    (record (object_in objects i) { pointers = set (object_in objects i).pointers k (pointer_of x) })
pointer_set words es objects i k x e view turn inside is entry field =
    let changed = word_set words es objects i (start_of e + k) x e view turn inside is (omega arith) (omega arith) in
    let one = slots_set words (start_of e) e.pointers k x in
    let two = ap (map pointer_of) (part_set_before words (start_of e + e.pointers) (weaks_of e) (start_of e + k) x (omega arith)) in
    let three = part_set_before words (start_of e + e.pointers + weaks_of e) e.values (start_of e + k) x (omega arith) in
    let old = entry.object in
    cc

pub weak_set : (words : List ℕ) (es : List Entry) (objects : List Object) (i k x : ℕ) (e : Entry) → objects_in words es ≡ objects
    → AreInTurn es 0 (length words) → i < length objects → e ≡ get_or es i e → IsEntry words objects i e → k < weaks_of e
    → objects_in (set words (start_of e + e.pointers + k) x) es ≡ set objects i
    (record (object_in objects i) { weaks = set (object_in objects i).weaks k (pointer_of x) })
weak_set words es objects i k x e view turn inside is entry field =
    let changed = word_set words es objects i (start_of e + e.pointers + k) x e view turn inside is (omega arith) (omega arith) in
    let one = ap (map pointer_of) (part_set_behind words (start_of e) e.pointers (start_of e + e.pointers + k) x (omega arith)) in
    let two = slots_set words (start_of e + e.pointers) (weaks_of e) k x in
    let three = part_set_before words (start_of e + e.pointers + weaks_of e) e.values (start_of e + e.pointers + k) x (omega arith) in
    let old = entry.object in
    cc

pub value_set : (words : List ℕ) (es : List Entry) (objects : List Object) (i k x : ℕ) (e : Entry) → objects_in words es ≡ objects
    → AreInTurn es 0 (length words) → i < length objects → e ≡ get_or es i e → IsEntry words objects i e → k < e.values
    → objects_in (set words (start_of e + e.pointers + weaks_of e + k) x) es ≡ set objects i
    (record (object_in objects i) { values = set (object_in objects i).values k x })
value_set words es objects i k x e view turn inside is entry field =
    let changed = word_set words es objects i (start_of e + e.pointers + weaks_of e + k) x e view turn inside is (omega arith)
    (omega arith) in
    let one = ap (map pointer_of) (part_set_behind words (start_of e) e.pointers (start_of e + e.pointers + weaks_of e + k) x
    (omega arith)) in
    let two = ap (map pointer_of) (part_set_behind words (start_of e + e.pointers) (weaks_of e) (start_of e + e.pointers + weaks_of e + k)
    x (omega arith)) in
    let three = part_set words (start_of e + e.pointers + weaks_of e) e.values k x in
    let old = entry.object in
    cc

pub object_push : (words : List ℕ) (es : List Entry) (n : ℕ) (e : Entry) → AreInTurn es 0 (length words) → start_of e ≡ length words
    → n ≡ e.pointers + weaks_of e + e.values
    → objects_in (words ++ replicate n 0) (es ++ e ∷ []) ≡ objects_in words es
    ++ record { pointers = replicate e.pointers None; weaks = replicate (weaks_of e) None; held = []; values = replicate e.values 0 } ∷ []
object_push words es n e turn start is =
    let older = objects_more es 0 (length words) words (replicate n 0) turn (omega arith) in
    let one = ap (map pointer_of) (part_zeros words (start_of e) 0 n e.pointers (omega arith) (omega arith)) ∙ map-zeros e.pointers in
    let two = ap (map pointer_of) (part_zeros words (start_of e + e.pointers) e.pointers n (weaks_of e) (omega arith) (omega arith))
    ∙ map-zeros (weaks_of e) in
    let three = part_zeros words (start_of e + e.pointers + weaks_of e) (e.pointers + weaks_of e) n e.values (omega arith) (omega arith) in
    let push = map_push (object_at (words ++ replicate n 0)) es e in
    cc

-- the words after n more of them, and the entries after one more
grown : (words new : List ℕ) (len end n : ℕ) → len ≡ length words → end ≡ len + n → new ≡ take end words ++ replicate (end - len) 0
    → new ≡ words ++ replicate n 0
grown words new len end n is sum made =
    let count : end - len ≡ n = omega arith in
    made ∙ ap (λ (xs : List ℕ). xs ++ replicate (end - len) 0) (take_all end words (omega arith))
    ∙ ap (λ (k : ℕ). words ++ replicate k 0) count

-- an entry for an object of so many fields, which starts after all words
pub record IsLast (e : Entry) (was p w d : ℕ) : Type 0 where
  pub start : start_of e ≡ was
  pub pointers : e.pointers ≡ p
  pub weaks : weaks_of e ≡ w
  pub values : e.values ≡ d

pub is_last : {was p w d : ℕ} (e : Entry) → start_of e ≡ was → e.pointers ≡ p → weaks_of e ≡ w → e.values ≡ d → IsLast e was p w d
is_last e start pointers weaks values = record { start = start; pointers = pointers; weaks = weaks; values = values }

pub pushed : (words new : List ℕ) (es after : List Entry) (objects : List Object) (was end p w d : ℕ) (e : Entry)
    → objects_in words es ≡ objects → AreInTurn es 0 (length words) → was ≡ length words → IsLast e was p w d → end ≡ was + p + w + d
    → new ≡ take end words ++ replicate (end - was) 0 → after ≡ es ++ e ∷ []
    → objects_in new after
    ≡ objects ++ record { pointers = replicate p None; weaks = replicate w None; held = []; values = replicate d 0 } ∷ []
pushed words new es after objects was end p w d e view turn is last sum made more =
    let l1 = last.start in let l2 = last.pointers in let l3 = last.weaks in let l4 = last.values in
    let now : new ≡ words ++ replicate (e.pointers + weaks_of e + e.values) 0 =
    grown words new was end (e.pointers + weaks_of e + e.values) is (omega arith) made in
    let push = object_push words es (e.pointers + weaks_of e + e.values) e turn (l1 ∙ is) refl in
    let there : objects_in new after ≡ objects
    ++ record { pointers = replicate e.pointers None; weaks = replicate (weaks_of e) None; held = []; values = replicate e.values 0 } ∷ []
    = cc in
    there ∙ ap (λ (x : Object). objects ++ x ∷ [])
    (same_object (ap (λ (n : ℕ). replicate n None) l2) (ap (λ (n : ℕ). replicate n None) l3) (ap (λ (n : ℕ). replicate n 0) l4))

pub pushed_turn : (words new : List ℕ) (es after : List Entry) (was end p w d : ℕ) (e : Entry) → AreInTurn es 0 (length words)
    → was ≡ length words → IsLast e was p w d → end ≡ was + p + w + d → length new ≡ end → after ≡ es ++ e ∷ []
    → AreInTurn after 0 (length new)
pushed_turn words new es after was end p w d e turn is last sum long more =
    let l1 = last.start in let l2 = last.pointers in let l3 = last.weaks in let l4 = last.values in
    rw more (turn_push es 0 (length words) (length new) e turn (l1 ∙ is) (omega arith))

-- whether there is a weak slot, of one more entry
pub some_weaks_none : (es after : List Entry) (e : Entry) → weaks_of e ≡ 0 → after ≡ es ++ e ∷ [] → some_weaks after ≡ some_weaks es
some_weaks_none es after e none more = rw more (by_list es)
  where
    by_list : (es : List Entry) → some_weaks (es ++ e ∷ []) ≡ some_weaks es
    by_list [] = rw none refl
    by_list (x ∷ es) = ap (λ (b : Bool). cond (nat_lt 0 (weaks_of x)) true b) (by_list es)

pub some_weaks_one : (es after : List Entry) (e : Entry) → 0 < weaks_of e → after ≡ es ++ e ∷ [] → some_weaks after ≡ true
some_weaks_one es after e one more = rw more (by_list es)
  where
    first : nat_lt 0 (weaks_of e) ≡ true
    first = lt-ltb 0 (weaks_of e) one

    by_list : (es : List Entry) → some_weaks (es ++ e ∷ []) ≡ true
    by_list [] = rw first refl
    by_list (x ∷ es) = ap (λ (b : Bool). cond (nat_lt 0 (weaks_of x)) true b) (by_list es) ∙ both (nat_lt 0 (weaks_of x))
      where
        both : (b : Bool) → cond b true true ≡ true
        both true = refl
        both false = refl

-- the objects in words have weak slots where their entries tell of some
pub weaks_told : (words : List ℕ) (es : List Entry) (objects : List Object) → objects_in words es ≡ objects → AreInTurn es 0 (length words)
    → have_weaks objects ≡ some_weaks es
weaks_told words es objects view turn = ap have_weaks (sym view) ∙ by_list es 0 turn
  where
    by_list : (es : List Entry) (from : ℕ) → AreInTurn es from (length words) → have_weaks (objects_in words es) ≡ some_weaks es
    by_list [] from turn = refl
    by_list (e ∷ es) from turn =
        let start = turn.0 in
        let rest = turn_ends es (from + e.pointers + weaks_of e + e.values) (length words) turn.1 in
        let count : length (object_at words e).weaks ≡ weaks_of e =
        pointers_length words (start_of e + e.pointers) (weaks_of e) (omega arith) in
        ap (λ (n : ℕ). cond (nat_lt 0 n) true (have_weaks (objects_in words es))) count
        ∙ ap (λ (b : Bool). cond (nat_lt 0 (weaks_of e)) true b) (by_list es (from + e.pointers + weaks_of e + e.values) turn.1)
