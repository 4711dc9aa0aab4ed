-- Where the step of an event ends.
use Rattle.std.proofs.Common.{◌≡◌, ◌+◌, ◌<◌, ◌≤◌, ◌∷◌, ◌++◌, ◌∙◌}
use Rattle.std.proofs.Common.{ℕ, suc, Bool, true, false, List, [], length, take, drop, get_or, map, Option}
use Rattle.std.proofs.Common.{Some, None, refl, sym, ap, arith, inl, inr, Bor}
use Rattle.std.specs.Prelude.{codes}
use Rattle.std.specs.List.{All}
use Rattle.std.specs.Str.{bytes_eq}
use Rattle.std.proofs.Math.Seq.{drop-cons, take-append_seam, drop-append_seam, get_or-append_seam}
use Rattle.std.proofs.lemmas.Bool.{cases_lt, lt-ltb, le-ltb}
use Rattle.std.proofs.lemmas.List.{take-append-drop, length-append, get_or-map, get_or_append_left}
use Rattle.std.proofs.lemmas.List.{drop-drop, take-map, drop-map, length-map}
use Rattle.std.proofs.lemmas.List.Sums.{passes_at_first, position_or_len_is}
use Rattle.std.proofs.lemmas.Slice.Eq.{bytes_eq-Decides}
use Rattle.heap_steps.specs.declared.step.Reply.{Reply}
use Rattle.script_text.specs.Reading.{◌>>=◌}
use Rattle.script_text.specs.EventWords.{equals_at, step_part, reply_part, reply_of, answer_of}

abbrev pub is_equals : List ℕ → Bool
is_equals w = bytes_eq w (codes "=")

-- no `=` is before a place
abbrev pub NoneBefore : List (List ℕ) → ℕ → Type 0
NoneBefore ws at = (k : ℕ) → k < at → is_equals (get_or ws k []) ≡ false

pub none_yet : (ws : List (List ℕ)) → NoneBefore ws 0
none_yet ws k lt = absurd (omega arith)

pub one_later : (ws : List (List ℕ)) (at : ℕ) → NoneBefore ws at → is_equals (get_or ws at []) ≡ false → NoneBefore ws (at + 1)
one_later ws at before here k lt = elim (cases_lt k at) [
  | inl lower ↦ before k lower
  | inr same ↦ (let e : k ≡ at = omega arith in ap (λ (i : ℕ). is_equals (get_or ws i [])) e ∙ here)
]

pub found_here : (ws : List (List ℕ)) (at : ℕ) → at < length ws → NoneBefore ws at → is_equals (get_or ws at []) ≡ true → at ≡ equals_at ws
found_here ws at lt before here = sym (position_or_len_is is_equals ws at [] (omega arith) before (λ inside. here))

pub found_nowhere : (ws : List (List ℕ)) (at : ℕ) → at ≡ length ws → NoneBefore ws at → at ≡ equals_at ws
found_nowhere ws at end before = sym (position_or_len_is is_equals ws at [] (omega arith) before (λ inside. absurd (omega arith)))

-- the two parts, by the place of the first `=`
pub step_before : (ws : List (List ℕ)) → equals_at ws + 1 < length ws → step_part ws ≡ take (equals_at ws) ws
unfolding step_part
step_before ws lt = rw (lt-ltb (equals_at ws + 1) (length ws) lt) refl

pub step_all : (ws : List (List ℕ)) → length ws ≤ equals_at ws + 1 → step_part ws ≡ ws
unfolding step_part
step_all ws le = rw (le-ltb (equals_at ws + 1) (length ws) le) refl

pub reply_behind : (ws : List (List ℕ)) → equals_at ws + 1 < length ws → reply_part ws ≡ Some (drop (equals_at ws + 1) ws)
unfolding reply_part
reply_behind ws lt = rw (lt-ltb (equals_at ws + 1) (length ws) lt) refl

pub no_reply_behind : (ws : List (List ℕ)) → length ws ≤ equals_at ws + 1 → reply_part ws ≡ None
unfolding reply_part
no_reply_behind ws le = rw (le-ltb (equals_at ws + 1) (length ws) le) refl

-- a word of the code, compared
pub at_word : (ws : List (Bor (List ℕ))) (i : ℕ) (d : Bor (List ℕ)) (r b : Bool) → i < length ws
    → r ≡ bytes_eq (get_or ws i d).now (codes "=") → r ≡ b → is_equals (get_or (map (λ w. w.now) ws) i []) ≡ b
at_word ws i d r b lt e is = ap is_equals (get_or-map (λ w. w.now) ws i d [] lt) ∙ sym e ∙ is

abbrev texts : List (Bor (List ℕ)) → List (List ℕ)
texts ws = map (λ w. w.now) ws

abbrev pub answered : Option (List (List ℕ)) → Option Reply
answered o = o >>= reply_of

pub words_before : (ws : List (Bor (List ℕ))) (end : ℕ) → end ≡ equals_at (texts ws) → end + 1 < length ws
    → texts (take end ws) ≡ step_part (texts ws)
words_before ws end e lt =
    let long : length (texts ws) ≡ length ws = length-map ws (λ w. w.now) in
    sym (take-map (λ w. w.now) end ws) ∙ ap (λ (k : ℕ). take k (texts ws)) e ∙ sym (step_before (texts ws) (omega arith))

pub words_all : (ws : List (Bor (List ℕ))) (end : ℕ) → end ≡ equals_at (texts ws) → length ws ≤ end + 1 → texts ws ≡ step_part (texts ws)
words_all ws end e le = let long : length (texts ws) ≡ length ws = length-map ws (λ w. w.now) in sym (step_all (texts ws) (omega arith))

pub answer_behind : (ws rest : List (Bor (List ℕ))) (end : ℕ) (r : Option Reply) → end ≡ equals_at (texts ws) → end + 1 < length ws
    → rest ≡ drop (end + 1) ws → r ≡ reply_of (texts rest) → r ≡ answer_of (texts ws)
unfolding answer_of
answer_behind ws rest end r e lt is read =
    let long : length (texts ws) ≡ length ws = length-map ws (λ w. w.now) in
    let behind : reply_part (texts ws) ≡ Some (drop (equals_at (texts ws) + 1) (texts ws)) = reply_behind (texts ws) (omega arith) in
    let same : texts rest ≡ drop (equals_at (texts ws) + 1) (texts ws) =
    ap texts is ∙ sym (drop-map (λ w. w.now) (end + 1) ws) ∙ ap (λ (k : ℕ). drop (k + 1) (texts ws)) e in
    read ∙ ap reply_of same ∙ ap (λ (o : Option (List (List ℕ))). o >>= reply_of) (sym behind)

pub no_answer : (ws : List (Bor (List ℕ))) (end : ℕ) → end ≡ equals_at (texts ws) → length ws ≤ end + 1 → None ≡ answer_of (texts ws)
unfolding answer_of
no_answer ws end e le =
    let long : length (texts ws) ≡ length ws = length-map ws (λ w. w.now) in
    ap (λ (o : Option (List (List ℕ))). o >>= reply_of) (sym (no_reply_behind (texts ws) (omega arith)))

some_words : (x y : List (List ℕ)) → Some x ≡ Some y → x ≡ y
some_words x y e = cc

no_words : (x : List (List ℕ)) → None ≡ Some x → ⊥
no_words x e = cc

-- an event's words are those of its step, `=` and those of its reply
pub parted : (ws rest : List (List ℕ)) → reply_part ws ≡ Some rest → ws ≡ step_part ws ++ codes "=" ∷ rest
parted ws rest e =
    elim (cases_lt (equals_at ws + 1) (length ws)) [
      | inl lt ↦ (
          let inside : equals_at ws < length ws = omega arith in
          let sign : get_or ws (equals_at ws) [] ≡ codes "=" =
          (bytes_eq-Decides (get_or ws (equals_at ws) []) (codes "=")).0 (passes_at_first is_equals ws [] inside) in
          let next : suc (equals_at ws) ≡ equals_at ws + 1 = omega arith in
          let behind : drop (equals_at ws + 1) ws ≡ rest = some_words (drop (equals_at ws + 1) ws) rest (sym (reply_behind ws lt) ∙ e) in
          sym (take-append-drop (equals_at ws) ws)
          ∙ ap (λ (t : List (List ℕ)). take (equals_at ws) ws ++ t) (drop-cons ws (equals_at ws) [] inside)
          ∙ ap (λ (t : List ℕ). take (equals_at ws) ws ++ t ∷ drop (suc (equals_at ws)) ws) sign
          ∙ ap (λ (k : ℕ). take (equals_at ws) ws ++ codes "=" ∷ drop k ws) next
          ∙ ap (λ (t : List (List ℕ)). take (equals_at ws) ws ++ codes "=" ∷ t) behind
          ∙ ap (λ (t : List (List ℕ)). t ++ codes "=" ∷ rest) (sym (step_before ws lt)))
      | inr le ↦ absurd (no_words rest (sym (no_reply_behind ws le) ∙ e))
    ]

first_equals : (body rest : List (List ℕ)) → All (λ w. is_equals w ≡ false) body → equals_at (body ++ codes "=" ∷ rest) ≡ length body
first_equals body rest plain =
    let long : length (body ++ codes "=" ∷ rest) ≡ length body + suc (length rest) = length-append body (codes "=" ∷ rest) in
    position_or_len_is is_equals (body ++ codes "=" ∷ rest) (length body) [] (omega arith)
    (λ k lt. ap is_equals (get_or_append_left body (codes "=" ∷ rest) [] k lt) ∙ plain k [] lt)
    (λ inside. ap is_equals (get_or-append_seam body (codes "=") rest []))

pub step_again : (body rest : List (List ℕ)) → All (λ w. is_equals w ≡ false) body → 1 ≤ length rest
    → step_part (body ++ codes "=" ∷ rest) ≡ body
step_again body rest plain some =
    let first = first_equals body rest plain in
    let long : length (body ++ codes "=" ∷ rest) ≡ length body + suc (length rest) = length-append body (codes "=" ∷ rest) in
    step_before (body ++ codes "=" ∷ rest) (omega arith) ∙ ap (λ (k : ℕ). take k (body ++ codes "=" ∷ rest)) first
    ∙ take-append_seam body (codes "=" ∷ rest)

pub reply_again : (body rest : List (List ℕ)) → All (λ w. is_equals w ≡ false) body → 1 ≤ length rest
    → reply_part (body ++ codes "=" ∷ rest) ≡ Some rest
reply_again body rest plain some =
    let first = first_equals body rest plain in
    let long : length (body ++ codes "=" ∷ rest) ≡ length body + suc (length rest) = length-append body (codes "=" ∷ rest) in
    let again : drop (length body + 1) (body ++ codes "=" ∷ rest) ≡ rest =
    sym (drop-drop 1 (length body) (body ++ codes "=" ∷ rest)) ∙ ap (drop 1) (drop-append_seam body (codes "=" ∷ rest)) in
    reply_behind (body ++ codes "=" ∷ rest) (omega arith) ∙ ap (λ (k : ℕ). Some (drop (k + 1) (body ++ codes "=" ∷ rest))) first
    ∙ ap (λ (t : List (List ℕ)). Some t) again
