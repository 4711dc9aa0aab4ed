-- The words of a line, found one after another.
use Rattle.std.proofs.Common.{◌≡◌, ◌+◌, ◌-◌, ◌<◌, ◌≤◌, ◌∷◌, ◌++◌, ◌∙◌}
use Rattle.std.proofs.Common.{ℕ, suc, true, false, not, eqb, List, [], length, take, drop, get_or, set, map}
use Rattle.std.proofs.Common.{refl, sym, ap, subst, append_assoc, arith, inl, inr}
use Rattle.std.specs.List.{All}
use Rattle.std.proofs.Math.Seq.{drop-cons, take-append_seam}
use Rattle.std.proofs.lemmas.Grind.{get_or_default_zero}
use Rattle.std.proofs.lemmas.Bool.{cases_lt, eqb-true, ne_eqb}
use Rattle.std.proofs.lemmas.List.{take_more_set, map-append, drop-take, take-take, drop-drop, take-append-drop, take_all, length-take}
use Rattle.std.proofs.lemmas.List.{length-take-le, length-append, get_or-take, get_or-drop}
use Rattle.std.proofs.lemmas.List.Splits.{slice_split_at, slice_split_none, slice_split_first}
use Rattle.std.proofs.lemmas.List.Sums.{fails_before_first, passes_at_first, prefix_len-le-length}
use Rattle.script_text.specs.Feeds.{end_of, line_of}
use Rattle.script_text.specs.Lines.{pieces_of, words_of}

-- the line as far as a place: the words before it, of which the first twelve are kept, and where the present word starts
pub record IsSplit (text : List ℕ) (ws : List (List ℕ)) (start at : ℕ) : Type 0 where
  pub within : at ≤ end_of text
  pub words : take 12 (words_of (line_of text)) ≡ take 12 (ws ++ words_of (drop start (line_of text)))
  pub clear : length ws < 12 → (k : ℕ) → start ≤ k → k < at → get_or text k 0 ≡ 32 → ⊥

-- what is kept, with one more
pub kept_more : {A B : Type 0} (f : A → B) (xs : List A) (i : ℕ) (y : A) → i < length xs
    → map f (take (i + 1) (set xs i y)) ≡ map f (take i xs) ++ f y ∷ []
kept_more f xs i y lt = ap (map f) (take_more_set xs i y lt) ∙ map-append f (take i xs) (y ∷ [])

-- the line ends at the first line feed
pub here_ends : (text : List ℕ) (at : ℕ) → at ≤ end_of text → at < length text → get_or text at 0 ≡ 10 → end_of text ≡ at
here_ends text at within lt feed =
    elim (cases_lt at (end_of text)) [
      | inl before ↦ (let no : eqb (get_or text at 0) 10 ≡ false = fails_before_first (λ b. eqb b 10) text at 0 before in
          let yes : eqb (get_or text at 0) 10 ≡ true = rw feed refl in absurd cc)
      | inr past ↦ omega arith
    ]

pub not_yet : (text : List ℕ) (at : ℕ) → at ≤ end_of text → at < length text → (get_or text at 0 ≡ 10 → ⊥) → at + 1 ≤ end_of text
not_yet text at within lt other =
    elim (cases_lt at (end_of text)) [
      | inl before ↦ omega arith
      | inr past ↦ (let same : end_of text ≡ at = omega arith in
          let feed : eqb (get_or text (end_of text) 0) 10 ≡ true = passes_at_first (λ b. eqb b 10) text 0 (rw same lt) in
          absurd (other (eqb-true _ _ (rw same at feed))))
    ]

-- a part of the line is that part of the text
part_of_line : (text : List ℕ) (start at : ℕ) → start ≤ at → at ≤ end_of text
    → take (at - start) (drop start (line_of text)) ≡ take (at - start) (drop start text)
part_of_line text start at begun within =
    let e : end_of text ≡ start + (end_of text - start) = omega arith in
    let m : at - start ≤ end_of text - start = omega arith in
    let whole : drop start (line_of text) ≡ take (end_of text - start) (drop start text) =
    ap (λ (k : ℕ). drop start (take k text)) e ∙ drop-take start (end_of text - start) text in
    ap (take (at - start)) whole ∙ take-take (at - start) (end_of text - start) (drop start text) m

cut_at : (line : List ℕ) (start at : ℕ) → start ≤ at → at < length line
    → drop start line ≡ take (at - start) (drop start line) ++ get_or line at 0 ∷ drop (at + 1) line
cut_at line start at begun lt =
    let e : start + (at - start) ≡ at = omega arith in
    let next : suc at ≡ at + 1 = omega arith in
    let rest : drop (at - start) (drop start line) ≡ get_or line at 0 ∷ drop (at + 1) line =
    drop-drop (at - start) start line ∙ ap (λ (k : ℕ). drop k line) e ∙ drop-cons line at 0 lt
    ∙ ap (λ (k : ℕ). get_or line at 0 ∷ drop k line) next in
    sym (take-append-drop (at - start) (drop start line)) ∙ ap (λ (t : List ℕ). take (at - start) (drop start line) ++ t) rest

-- no space is in a part of the text
clear_part : (text : List ℕ) (start n : ℕ) → ((k : ℕ) → start ≤ k → k < start + n → get_or text k 0 ≡ 32 → ⊥)
    → All (λ b. eqb b 32 ≡ false) (take n (drop start text))
clear_part text start n clear = λ k d lt.
    let small : k < n = omega (arith, length-take n (drop start text)) in
    let inside : k < length (take n (drop start text)) = lt in
    let same : get_or (take n (drop start text)) k d ≡ get_or text (start + k) 0 =
    get_or_default_zero (take n (drop start text)) k d inside ∙ get_or-take n (drop start text) k 0 small ∙ get_or-drop start text k 0 in
    rw same (ne_eqb (get_or text (start + k) 0) 32 (clear (start + k) (omega arith) (omega arith)))

-- a byte that ends no word that is kept
pub goes_on : (text : List ℕ) (ws : List (List ℕ)) (start at : ℕ) → IsSplit text ws start at → at < length text
    → (get_or text at 0 ≡ 10 → ⊥) → (length ws < 12 → get_or text at 0 ≡ 32 → ⊥) → IsSplit text ws start (at + 1)
goes_on text ws start at split lt other inner = record {
  within = not_yet text at split.within lt other;
  words = split.words;
  clear = λ few k from before space. elim (cases_lt k at) [
    | inl old ↦ split.clear few k from old space
    | inr new ↦ (let same : k ≡ at = omega arith in inner few (ap (λ (i : ℕ). get_or text i 0) (sym same) ∙ space))
  ];
}

line_byte : (text : List ℕ) (at : ℕ) → at < end_of text → get_or (line_of text) at 0 ≡ get_or text at 0
line_byte text at lt = get_or-take (end_of text) text at 0 lt

end_within : (text : List ℕ) → end_of text ≤ length text
end_within text = prefix_len-le-length (λ b. not (eqb b 10)) text

-- a word of the line that a space ends
pub word_then : (text : List ℕ) (start at : ℕ) → start ≤ at → at < end_of text → get_or text at 0 ≡ 32
    → ((k : ℕ) → start ≤ k → k < at → get_or text k 0 ≡ 32 → ⊥)
    → words_of (drop start (line_of text)) ≡ take (at - start) (drop start text) ∷ words_of (drop (at + 1) (line_of text))
word_then text start at begun before space none =
    let long : length (line_of text) ≡ end_of text = length-take-le (end_of text) text (end_within text) in
    let part : take (at - start) (drop start (line_of text)) ≡ take (at - start) (drop start text) =
    part_of_line text start at begun (omega arith) in
    let byte : get_or (line_of text) at 0 ≡ 32 = line_byte text at before ∙ space in
    let cut : drop start (line_of text) ≡ take (at - start) (drop start text) ++ 32 ∷ drop (at + 1) (line_of text) =
    cut_at (line_of text) start at begun (omega arith)
    ∙ ap (λ (t : List ℕ). t ++ get_or (line_of text) at 0 ∷ drop (at + 1) (line_of text)) part
    ∙ ap (λ (b : ℕ). take (at - start) (drop start text) ++ b ∷ drop (at + 1) (line_of text)) byte in
    let clear : All (λ b. eqb b 32 ≡ false) (take (at - start) (drop start text)) =
    clear_part text start (at - start) (λ k from below s. none k from (omega arith) s) in
    ap words_of cut ∙ slice_split_at (λ b. eqb b 32) (take (at - start) (drop start text)) 32 (drop (at + 1) (line_of text)) clear refl

-- the last word of the line
pub word_last : (text : List ℕ) (start at : ℕ) → start ≤ at → ((k : ℕ) → start ≤ k → k < at → get_or text k 0 ≡ 32 → ⊥)
    → words_of (drop start (take at text)) ≡ take (at - start) (drop start text) ∷ []
word_last text start at begun none =
    let e : at ≡ start + (at - start) = omega arith in
    let part : drop start (take at text) ≡ take (at - start) (drop start text) =
    ap (λ (k : ℕ). drop start (take k text)) e ∙ drop-take start (at - start) text in
    let clear : All (λ b. eqb b 32 ≡ false) (take (at - start) (drop start text)) =
    clear_part text start (at - start) (λ k from below s. none k from (omega arith) s) in
    ap words_of part ∙ slice_split_none (λ b. eqb b 32) (take (at - start) (drop start text)) clear

-- a space ends a word
pub new_word : (text : List ℕ) (ws : List (List ℕ)) (start at : ℕ) → IsSplit text ws start at → start ≤ at → at < length text
    → get_or text at 0 ≡ 32 → length ws < 12 → IsSplit text (ws ++ take (at - start) (drop start text) ∷ []) (at + 1) (at + 1)
new_word text ws start at split begun lt space few =
    let no_feed : get_or text at 0 ≡ 10 → ⊥ = λ feed. omega arith in
    let next : at + 1 ≤ end_of text = not_yet text at split.within lt no_feed in
    let parts : words_of (drop start (line_of text)) ≡ take (at - start) (drop start text) ∷ words_of (drop (at + 1) (line_of text)) =
    word_then text start at begun (omega arith) space (split.clear few) in
    record {
      within = next;
      words = split.words ∙ ap (λ (rest : List (List ℕ)). take 12 (ws ++ rest)) parts
          ∙ ap (take 12) (sym (append_assoc ws (take (at - start) (drop start text) ∷ []) (words_of (drop (at + 1) (line_of text)))));
      clear = λ few k from before s. absurd (omega arith);
    }

-- the line's end, with room for its last word
pub last_word : (text : List ℕ) (ws : List (List ℕ)) (start at : ℕ) → IsSplit text ws start at → start ≤ at → at < length text
    → get_or text at 0 ≡ 10 → length ws < 12 → ws ++ take (at - start) (drop start text) ∷ [] ≡ take 12 (words_of (take at text))
last_word text ws start at split begun lt feed few =
    let ends : end_of text ≡ at = here_ends text at split.within lt feed in
    let parts : words_of (drop start (take at text)) ≡ take (at - start) (drop start text) ∷ [] =
    word_last text start at begun (split.clear few) in
    let short : length (ws ++ take (at - start) (drop start text) ∷ []) ≤ 12 =
    omega (arith, length-append ws (take (at - start) (drop start text) ∷ [])) in
    let whole : take 12 (words_of (take at text)) ≡ take 12 (ws ++ words_of (drop start (take at text))) =
    subst (λ (n : ℕ). take 12 (words_of (take n text)) ≡ take 12 (ws ++ words_of (drop start (take n text)))) ends split.words in
    sym (whole ∙ ap (λ (rest : List (List ℕ)). take 12 (ws ++ rest)) parts
    ∙ take_all 12 (ws ++ take (at - start) (drop start text) ∷ []) short)

-- the line's end after twelve words
pub no_more : (text : List ℕ) (ws : List (List ℕ)) (start at : ℕ) → IsSplit text ws start at → at < length text → get_or text at 0 ≡ 10
    → length ws ≡ 12 → ws ≡ take 12 (words_of (take at text))
no_more text ws start at split lt feed full =
    let ends : end_of text ≡ at = here_ends text at split.within lt feed in
    let whole : take 12 (words_of (take at text)) ≡ take 12 (ws ++ words_of (drop start (take at text))) =
    subst (λ (n : ℕ). take 12 (words_of (take n text)) ≡ take 12 (ws ++ words_of (drop start (take n text)))) ends split.words in
    let first : take 12 (ws ++ words_of (drop start (take at text))) ≡ ws =
    ap (λ (n : ℕ). take n (ws ++ words_of (drop start (take at text)))) (sym full)
    ∙ take-append_seam ws (words_of (drop start (take at text))) in
    sym (whole ∙ first)

pub first_piece : (text : List ℕ) (at : ℕ) → at ≤ end_of text → at < length text → get_or text at 0 ≡ 10
    → pieces_of text ≡ take at text ∷ pieces_of (drop (at + 1) text)
first_piece text at within lt feed =
    let ends : end_of text ≡ at = here_ends text at within lt feed in
    let split : pieces_of text ≡ take (end_of text) text ∷ pieces_of (drop (end_of text + 1) text) =
    slice_split_first (λ b. eqb b 10) text 0 (rw ends lt) in
    split ∙ ap (λ (n : ℕ). take n text ∷ pieces_of (drop (n + 1) text)) ends

-- the first line feed is no later than one that is there
pub first_is_first : (text : List ℕ) (at : ℕ) → get_or text at 0 ≡ 10 → end_of text ≤ at
first_is_first text at feed =
    elim (cases_lt at (end_of text)) [
      | inl before ↦ (let no : eqb (get_or text at 0) 10 ≡ false = fails_before_first (λ b. eqb b 10) text at 0 before in
          let yes : eqb (get_or text at 0) 10 ≡ true = rw feed refl in absurd cc)
      | inr past ↦ past
    ]

pub ended_by : (text : List ℕ) (at : ℕ) → at < length text → get_or text at 0 ≡ 10 → end_of text < length text
ended_by text at lt feed = omega (arith, first_is_first text at feed)

-- the text after its first line
pub ended_piece : (text : List ℕ) → end_of text < length text → pieces_of text ≡ line_of text ∷ pieces_of (drop (end_of text + 1) text)
ended_piece text lt = slice_split_first (λ b. eqb b 10) text 0 lt
