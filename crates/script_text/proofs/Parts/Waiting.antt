-- What waits in a buffer between two places.
use Rattle.std.proofs.Common.{◌≡◌, ℕ, ◌+◌, ◌-◌, ◌<◌, ◌≤◌, List, ◌∷◌, ◌++◌, length, take, drop, get_or, eqb, sym, ap, subst, ◌∙◌, arith}
use Rattle.std.proofs.Math.Seq.{take-append-add}
use Rattle.std.proofs.lemmas.Bool.{ne_eqb}
use Rattle.std.proofs.lemmas.Grind.{get_or_default_zero}
use Rattle.std.proofs.lemmas.List.{length-take, length-take-le, length-drop, length-append, take-append-le, drop-take, drop-drop, take_at}
use Rattle.std.proofs.lemmas.List.{get_or-take, get_or-drop}
use Rattle.std.proofs.lemmas.List.Splits.{slice_split_none}
use borrow.Rule.Slice.PartMut.{put_mid, post_of}
use Rattle.script_text.specs.Awaited.{EndsLine, IsUnended}
use Rattle.script_text.specs.Feeds.{end_of, line_of}
use Rattle.script_text.specs.Lines.{pieces_of}
use Rattle.script_text.specs.Waiting.{EndsWhole}
use Rattle.script_text.proofs.Parts.Splitting.{ended_by, ended_piece, first_is_first}

-- the bytes between two places
abbrev pub waiting : List ℕ → ℕ → ℕ → List ℕ
waiting bytes start end = take (end - start) (drop start bytes)

-- what is left where some bytes and one more are taken
pub rest_is : (bytes : List ℕ) (start end n : ℕ) → n < length (waiting bytes start end)
    → drop (n + 1) (waiting bytes start end) ≡ waiting bytes (start + (n + 1)) end
rest_is bytes start end n lt =
    let small : n < end - start = omega (arith, length-take (end - start) (drop start bytes)) in
    let parts : end - start ≡ (n + 1) + (end - (start + (n + 1))) = omega arith in
    ap (λ (k : ℕ). drop (n + 1) (take k (drop start bytes))) parts ∙ drop-take (n + 1) (end - (start + (n + 1))) (drop start bytes)
    ∙ ap (take (end - (start + (n + 1)))) (drop-drop (n + 1) start bytes)

-- the line feed before the place where the whole lines end
last_feed : (bytes : List ℕ) (start whole end : ℕ) → EndsWhole bytes start whole end → start < whole
    → get_or (waiting bytes start end) (whole - 1 - start) 0 ≡ 10
last_feed bytes start whole end w lt =
    let there : start + (whole - 1 - start) ≡ whole - 1 = omega arith in
    get_or-take (end - start) (drop start bytes) (whole - 1 - start) 0 (omega (arith, w.within))
    ∙ get_or-drop start bytes (whole - 1 - start) 0 ∙ ap (λ (k : ℕ). get_or bytes k 0) there ∙ w.feed lt

size_of_waiting : (bytes : List ℕ) (start end : ℕ) → end ≤ length bytes → length (waiting bytes start end) ≡ end - start
size_of_waiting bytes start end fits = length-take-le (end - start) (drop start bytes) (omega (arith, length-drop start bytes))

-- a whole line waits
pub waits_whole : (bytes : List ℕ) (start whole end : ℕ) → EndsWhole bytes start whole end → end ≤ length bytes → start < whole
    → end_of (waiting bytes start end) < length (waiting bytes start end)
waits_whole bytes start whole end w fits lt =
    ended_by (waiting bytes start end) (whole - 1 - start) (omega (arith, size_of_waiting bytes start end fits, w.within))
    (last_feed bytes start whole end w lt)

-- no whole line waits
pub waits_cut : (bytes : List ℕ) (start end : ℕ) → EndsWhole bytes start start end → end ≤ length bytes
    → IsUnended (waiting bytes start end)
waits_cut bytes start end w fits =
    slice_split_none (λ b. eqb b 10) (waiting bytes start end) (λ k d lt.
    let size : length (waiting bytes start end) ≡ end - start = size_of_waiting bytes start end fits in
    let here : get_or (waiting bytes start end) k d ≡ get_or bytes (start + k) 0 =
    get_or_default_zero (waiting bytes start end) k d lt ∙ get_or-take (end - start) (drop start bytes) k 0 (omega (arith, size))
    ∙ get_or-drop start bytes k 0 in
    ap (λ (b : ℕ). eqb b 10) here ∙ ne_eqb (get_or bytes (start + k) 0) 10 (w.clear (start + k) (omega arith) (omega (arith, size))))

-- the line at the front is taken
line_behind : (bytes : List ℕ) (start whole end : ℕ) → EndsWhole bytes start whole end → end ≤ length bytes → start < whole
    → EndsLine (waiting bytes start end) (line_of (waiting bytes start end))
    (waiting bytes (start + (end_of (waiting bytes start end) + 1)) end)
line_behind bytes start whole end w fits lt =
    let t = waiting bytes start end in
    let ended : end_of t < length t = waits_whole bytes start whole end w fits lt in
    ended_piece t ended ∙ ap (λ (rest : List ℕ). line_of t ∷ pieces_of rest) (rest_is bytes start end (end_of t) ended)

pub line_taken : (self seen bytes : List ℕ) (start whole end n : ℕ) → waiting seen start end ≡ self → seen ≡ bytes
    → EndsWhole bytes start whole end → end ≤ length bytes → start < whole → n ≡ end_of (waiting seen start end) →
    EndsLine self (line_of self) (waiting bytes (start + (n + 1)) end)
line_taken self seen bytes start whole end n is same w fits lt ends =
    let t : waiting bytes start end ≡ self = ap (λ (b : List ℕ). waiting b start end) (sym same) ∙ is in
    let e : n ≡ end_of (waiting bytes start end) = ends ∙ ap (λ (b : List ℕ). end_of (waiting b start end)) same in
    let here : EndsLine self (line_of self) (waiting bytes (start + (end_of (waiting bytes start end) + 1)) end) =
    subst (λ (s : List ℕ). EndsLine s (line_of s) (waiting bytes (start + (end_of (waiting bytes start end) + 1)) end)) t
    (line_behind bytes start whole end w fits lt) in
    subst (λ (k : ℕ). EndsLine self (line_of self) (waiting bytes (start + (k + 1)) end)) (sym e) here

-- and the whole lines after it end where they did
pub still_whole : (seen bytes : List ℕ) (start whole end n : ℕ) → seen ≡ bytes → EndsWhole bytes start whole end → end ≤ length bytes
    → start < whole → n ≡ end_of (waiting seen start end) → EndsWhole bytes (start + (n + 1)) whole end
still_whole seen bytes start whole end n same w fits lt ends =
    let e : n ≡ end_of (waiting bytes start end) = ends ∙ ap (λ (b : List ℕ). end_of (waiting b start end)) same in
    let first : end_of (waiting bytes start end) ≤ whole - 1 - start =
    first_is_first (waiting bytes start end) (whole - 1 - start) (last_feed bytes start whole end w lt) in
    record {
      begun = omega (arith, e, first);
      within = w.within;
      feed = λ some. w.feed lt;
      clear = w.clear;
    }

-- what waits is turned to the front
turned : (bytes new : List ℕ) (start end : ℕ) → start ≤ end → end ≤ length bytes
    → new ≡ drop start (take end bytes) ++ take start (take end bytes)
    → take (end - start) (new ++ drop end bytes) ≡ waiting bytes start end
turned bytes new start end begun within is =
    let whole : length (take end bytes) ≡ end = length-take-le end bytes within in
    let size : length (drop start (take end bytes)) ≡ end - start = omega (arith, length-drop start (take end bytes)) in
    let parts : start + (end - start) ≡ end = omega arith in
    let front : drop start (take end bytes) ≡ waiting bytes start end =
    ap (λ (k : ℕ). drop start (take k bytes)) (sym parts) ∙ drop-take start (end - start) bytes in
    let long : end - start ≤ length new =
    omega (arith, ap length is, length-append (drop start (take end bytes)) (take start (take end bytes))) in
    take-append-le (end - start) new (drop end bytes) long ∙ ap (take (end - start)) is
    ∙ take_at (drop start (take end bytes)) (take start (take end bytes)) (end - start) size ∙ front

-- some bytes are read after it
pub read_behind_it : (bytes new read : List ℕ) (start end count k : ℕ) → start ≤ end → end ≤ length bytes
    → new ≡ drop start (take end bytes) ++ take start (take end bytes) → count ≤ length read → length new ≡ end →
    take (end - start + count) (put_mid (end - start) k (new ++ drop end bytes) read) ≡ waiting bytes start end ++ take count read
read_behind_it bytes new read start end count k begun within is few size =
    let front = take (end - start) (new ++ drop end bytes) in
    let long : end - start ≡ length front =
    sym (length-take-le (end - start) (new ++ drop end bytes) (omega (arith, length-append new (drop end bytes)))) in
    ap (λ (m : ℕ). take (m + count) (front ++ (read ++ post_of (end - start) k (new ++ drop end bytes)))) long
    ∙ take-append-add front (read ++ post_of (end - start) k (new ++ drop end bytes)) count
    ∙ ap (λ (t : List ℕ). front ++ t) (take-append-le count read (post_of (end - start) k (new ++ drop end bytes)) few)
    ∙ ap (λ (t : List ℕ). t ++ take count read) (turned bytes new start end begun within is)
