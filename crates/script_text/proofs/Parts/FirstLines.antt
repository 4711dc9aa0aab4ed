-- The line at the front of a text.
use Rattle.std.proofs.Common.{◌≡◌, ℕ, ◌≤◌, Bool, true, false, eqb, List, [], ◌∷◌, ◌++◌, length, refl, sym, ap, ◌∙◌, append_assoc, arith}
use Rattle.std.specs.List.{All, join_with_byte, onto_first}
use Rattle.std.proofs.lemmas.List.{length-append}
use Rattle.std.proofs.lemmas.List.Elements.{All-nil, All-cons, All-head, All-tail}
use Rattle.std.proofs.lemmas.List.Splits.{join_with_byte-slice_split, slice_split-cons_yes, slice_split-cons_no, slice_split_at}
use Rattle.script_text.specs.Lines.{pieces_of}
use Rattle.script_text.proofs.Reading.ReadOn.{pieces_some}

-- no byte is a line feed
abbrev pub IsClear : List ℕ → Type 0
IsClear line = All (λ b. eqb b 10 ≡ false) line

clear_more : (b : ℕ) (d : Bool) (text line : List ℕ) (ps : List (List ℕ)) (x : List ℕ) (xs : List (List ℕ)) → eqb b 10 ≡ d
    → pieces_of text ≡ x ∷ xs → IsClear x → pieces_of (b ∷ text) ≡ line ∷ ps → IsClear line
clear_more b true text line ps x xs feed some clear e =
    let first : [] ∷ pieces_of text ≡ line ∷ ps = sym (slice_split-cons_yes (λ d. eqb d 10) b text feed) ∙ e in
    let none : line ≡ [] = cc in
    rw none (All-nil (λ d. eqb d 10 ≡ false))
clear_more b false text line ps x xs other some clear e =
    let first : (b ∷ x) ∷ xs ≡ line ∷ ps = ap (onto_first b) (sym some) ∙ sym (slice_split-cons_no (λ d. eqb d 10) b text other) ∙ e in
    let is : line ≡ b ∷ x = cc in
    rw is (All-cons (λ d. eqb d 10 ≡ false) b x other clear)

-- no line feed is in a text's first line
pub first_clear : (text line : List ℕ) (ps : List (List ℕ)) → pieces_of text ≡ line ∷ ps → IsClear line
first_clear [] line ps e =
    let none : line ≡ [] = cc in
    rw none (All-nil (λ b. eqb b 10 ≡ false))
first_clear (b ∷ text) line ps e =
    let some = pieces_some text in
    clear_more b (eqb b 10) text line ps some.0 some.1 refl some.2 (first_clear text some.0 some.1 some.2) e

-- the text is its first line, a line feed and what is after it
pub begins_is : (text line rest : List ℕ) → pieces_of text ≡ line ∷ pieces_of rest → text ≡ line ++ 10 ∷ rest
begins_is text line rest e =
    let some = pieces_some rest in
    let back : join_with_byte 10 (some.0 ∷ some.1) ≡ rest = ap (join_with_byte 10) (sym some.2) ∙ join_with_byte-slice_split 10 rest in
    sym (join_with_byte-slice_split 10 text) ∙ ap (join_with_byte 10) (e ∙ ap (λ (ps : List (List ℕ)). line ∷ ps) some.2)
    ∙ ap (λ (t : List ℕ). line ++ 10 ∷ t) back

-- whatever is after a whole line, it is the first
pub pieces_at : (line t : List ℕ) → IsClear line → pieces_of (line ++ 10 ∷ t) ≡ line ∷ pieces_of t
pieces_at line t clear = slice_split_at (λ b. eqb b 10) line 10 t clear refl

-- a beginning of a line goes on with the first line of what comes
pub with_part : (part m x : List ℕ) (xs : List (List ℕ)) → IsClear part → pieces_of m ≡ x ∷ xs → pieces_of (part ++ m) ≡ (part ++ x) ∷ xs
with_part [] m x xs clear e = e
with_part (b ∷ part) m x xs clear e =
    slice_split-cons_no (λ d. eqb d 10) b (part ++ m) (All-head (λ d. eqb d 10 ≡ false) b part clear)
    ∙ ap (onto_first b) (with_part part m x xs (All-tail (λ d. eqb d 10 ≡ false) b part clear) e)

-- a line feed comes, at the end at the latest
abbrev SomeLine : List ℕ → Type 0
SomeLine m = (x : List ℕ) × (rest : List ℕ) × (pieces_of (m ++ 10 ∷ []) ≡ x ∷ pieces_of rest)

line_more : (b : ℕ) (d : Bool) (m : List ℕ) → eqb b 10 ≡ d → SomeLine m → SomeLine (b ∷ m)
line_more b true m feed some = ([], m ++ 10 ∷ [], slice_split-cons_yes (λ d. eqb d 10) b (m ++ 10 ∷ []) feed)
line_more b false m other some = (b ∷ some.0, some.1, slice_split-cons_no (λ d. eqb d 10) b (m ++ 10 ∷ []) other ∙ ap (onto_first b) some.2)

some_line : (m : List ℕ) → SomeLine m
some_line [] = ([], [], refl)
some_line (b ∷ m) = line_more b (eqb b 10) m refl (some_line m)

-- a beginning of a line ends as a line that is no shorter
pub ends_longer : (part more : List ℕ) → IsClear part
    → (line : List ℕ) × (rest : List ℕ) × (pieces_of (part ++ more ++ 10 ∷ []) ≡ line ∷ pieces_of rest) × (length part ≤ length line)
ends_longer part more clear =
    let some = some_line more in
    let joined : pieces_of (part ++ more ++ 10 ∷ []) ≡ (part ++ some.0) ∷ pieces_of some.1 =
    ap pieces_of (append_assoc part more (10 ∷ [])) ∙ with_part part (more ++ 10 ∷ []) some.0 (pieces_of some.1) clear some.2 in
    (part ++ some.0, some.1, joined, omega (arith, length-append part some.0))
