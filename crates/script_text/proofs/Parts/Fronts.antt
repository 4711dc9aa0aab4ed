-- A word that is in a line from a place on.
use Rattle.std.proofs.Common.{◌≡◌, ◌+◌, ◌-◌, ◌*◌, ◌<◌, ◌≤◌, ◌∷◌, ◌++◌, ◌∙◌, ℕ, zero, suc, Bool, true, false, cond}
use Rattle.std.proofs.Common.{List, [], length, take, drop, get_or, refl, ap, sym, arith, inl, inr}
use Rattle.std.specs.List.{All}
use Rattle.std.specs.Char.{digit_value}
use Rattle.std.specs.Fmt.{decimal}
use Rattle.std.specs.Str.Parse.{AllDigits, digits_value, digits_value_after}
use Rattle.std.proofs.Math.Seq.{drop-cons, take-suc}
use Rattle.std.proofs.lemmas.Bool.{cases_lt}
use Rattle.std.proofs.lemmas.List.{ext_get_or, get_or-take, get_or-drop, length-take-le, length-drop}
use Rattle.script_text.specs.Feeds.{end_of}
use Rattle.script_text.specs.Lines.{words_of}
use Rattle.script_text.specs.Fronts.{part, IsClear, IsNext, IsLastWord}
use Rattle.script_text.specs.Reading.{small}
use Rattle.script_text.proofs.Parts.Numbers.{digit_is, spells}
use Rattle.script_text.proofs.Parts.Splitting.{here_ends, not_yet, word_then, word_last}

-- a space ends it
pub next_word : (text : List ℕ) (at past : ℕ) → end_of text < length text → IsClear text at past → get_or text past 0 ≡ 32
    → IsNext text at (part text at past) (past + 1)
next_word text at past ended clear space =
    let no_feed : get_or text past 0 ≡ 10 → ⊥ = λ feed. omega arith in
    let next : past + 1 ≤ end_of text = not_yet text past clear.within (omega (arith, clear.within)) no_feed in
    record { words = word_then text at past clear.order (omega arith) space clear.clear; within = next }

-- a space does where more words follow, else a line feed
pub last_word : (text : List ℕ) (at past : ℕ) (more : Bool) → end_of text < length text → IsClear text at past
    → get_or text past 0 ≡ cond more 32 10 → IsLastWord text at (part text at past) past more
last_word text at past true ended clear space =
    let next = next_word text at past ended clear space in
    record { words = next.words; ends = next.within }
last_word text at past false ended clear feed =
    let ends : end_of text ≡ past = here_ends text past clear.within (omega (arith, clear.within)) feed in
    let words : words_of (drop at (take past text)) ≡ part text at past ∷ [] = word_last text at past clear.order clear.clear in
    record {
      words = ap (λ (n : ℕ). words_of (drop at (take n text))) ends ∙ words;
      ends = sym ends;
    }

-- a part goes on over a byte that is no space and no line feed
pub clear_more : (text : List ℕ) (at past : ℕ) → end_of text < length text → IsClear text at past → 32 < get_or text past 0
    → IsClear text at (past + 1)
clear_more text at past ended clear letter =
    let order = clear.order in
    let no_feed : get_or text past 0 ≡ 10 → ⊥ = λ feed. omega arith in
    record {
      order = omega arith;
      within = not_yet text past clear.within (omega (arith, clear.within)) no_feed;
      clear = λ k from before space. elim (cases_lt k past) [
        | inl old ↦ clear.clear k from old space
        | inr new ↦ (let same : k ≡ past = omega arith in
            let here : get_or text past 0 ≡ 32 = ap (λ (i : ℕ). get_or text i 0) (sym same) ∙ space in
            omega arith)
      ];
    }

-- no byte is a part in which no space is
pub clear_none : (text : List ℕ) (at : ℕ) → at ≤ end_of text → IsClear text at at
clear_none text at within = record { order = omega arith; within = within; clear = λ k from before space. absurd (omega arith) }

-- a part with a byte in front of it
pub clear_front : (text : List ℕ) (at past : ℕ) → 32 < get_or text at 0 → IsClear text (at + 1) past → IsClear text at past
clear_front text at past letter clear =
    let order = clear.order in
    record {
      order = omega arith;
      within = clear.within;
      clear = λ k from before space. elim (cases_lt at k) [
        | inl behind ↦ clear.clear k (omega arith) before space
        | inr here ↦ (let same : k ≡ at = omega arith in
            let byte : get_or text at 0 ≡ 32 = ap (λ (i : ℕ). get_or text i 0) (sym same) ∙ space in
            omega arith)
      ];
    }

pub part_front : (text : List ℕ) (at past : ℕ) → at < past → at < length text
    → part text at past ≡ get_or text at 0 ∷ part text (at + 1) past
part_front text at past before lt =
    let more : past - at ≡ suc (past - (at + 1)) = omega arith in
    let next : suc at ≡ at + 1 = omega arith in
    ap (λ (n : ℕ). take n (drop at text)) more ∙ ap (take (suc (past - (at + 1)))) (drop-cons text at 0 lt)
    ∙ ap (λ (k : ℕ). get_or text at 0 ∷ take (past - (at + 1)) (drop k text)) next

pub part_one : (text : List ℕ) (at : ℕ) → at < length text → part text at (at + 1) ≡ get_or text at 0 ∷ []
part_one text at lt =
    let none : at + 1 - (at + 1) ≡ 0 = omega arith in
    part_front text at (at + 1) (omega arith) lt
    ∙ ap (λ (n : ℕ). get_or text at 0 ∷ take n (drop (at + 1) text)) none

-- as a part of the text, a word is at a place
abbrev pub StandsAt : List ℕ → ℕ → List ℕ → ℕ → Type 0
StandsAt text at word count = (k : ℕ) → k < count → get_or text (at + k) 0 ≡ get_or word k 0

pub part_is : (text : List ℕ) (at : ℕ) (word : List ℕ) (count : ℕ) → count ≡ length word → at + count ≤ length text
    → StandsAt text at word count → part text at (at + count) ≡ word
part_is text at word count all within same =
    let long : length (part text at (at + count)) ≡ length word =
    length-take-le (at + count - at) (drop at text) (omega (arith, length-drop at text)) ∙ omega arith in
    ext_get_or 0 (part text at (at + count)) word long (λ k lt.
    let small : k < count = omega (arith, long) in
    get_or-take (at + count - at) (drop at text) k 0 (omega arith) ∙ get_or-drop at text k 0 ∙ same k small)

pub clear_word : (text : List ℕ) (at : ℕ) (word : List ℕ) (count : ℕ) → count ≤ length word → at + count ≤ end_of text
    → All (λ b. 32 < b) word → StandsAt text at word count → IsClear text at (at + count)
clear_word text at word count all within letters same = record {
  order = omega arith;
  within = within;
  clear = λ k from before space.
      let small : k - at < count = omega arith in
      let place : at + (k - at) ≡ k = omega arith in
      let here : get_or word (k - at) 0 ≡ 32 = sym (same (k - at) small) ∙ ap (λ (i : ℕ). get_or text i 0) place ∙ space in
      let letter : 32 < get_or word (k - at) 0 = letters (k - at) 0 (omega arith) in
      omega arith;
}

-- a part with one more byte after it
pub part_more : (text : List ℕ) (at past : ℕ) → at ≤ past → past < length text
    → part text at (past + 1) ≡ part text at past ++ get_or text past 0 ∷ []
part_more text at past order lt =
    let count : past + 1 - at ≡ suc (past - at) = omega arith in
    let place : at + (past - at) ≡ past = omega arith in
    let inside : past - at < length (drop at text) = omega (arith, length-drop at text) in
    ap (λ (n : ℕ). take n (drop at text)) count ∙ take-suc (drop at text) (past - at) 0 inside
    ∙ ap (λ (b : ℕ). part text at past ++ b ∷ []) (get_or-drop at text (past - at) 0 ∙ ap (λ (k : ℕ). get_or text k 0) place)

value_after_more : (n : ℕ) (ds : List ℕ) (b : ℕ)
    → digits_value_after 10 n (ds ++ b ∷ []) ≡ digits_value_after 10 n ds * 10 + digit_value b
value_after_more n [] b = refl
value_after_more n (d ∷ ds) b = value_after_more (n * 10 + digit_value d) ds b

-- a number with one more digit
pub value_more : (ds : List ℕ) (b : ℕ) → digits_value 10 (ds ++ b ∷ []) ≡ digits_value 10 ds * 10 + digit_value b
value_more ds b = value_after_more 0 ds b

pub digits_more : (ds : List ℕ) (b : ℕ) → AllDigits 10 ds → digit_value b < 10 → AllDigits 10 (ds ++ b ∷ [])
digits_more [] b digits digit = (digit, tt)
digits_more (d ∷ ds) b digits digit = (digits.0, digits_more ds b digits.1 digit)

-- a digit that isn't zero
pub not_zero : (b x : ℕ) → (b ≡ 48 → ⊥) → b ≡ 48 + x → 0 < x
not_zero b zero other e = absurd (other e)
not_zero b (suc x) other e = omega arith

-- two digits, the first of them not zero, spell a number
pub two_digits : (text : List ℕ) (at x y : ℕ) → at + 1 < length text → 0 < x → x < 10 → y < 10 → get_or text at 0 ≡ 48 + x
    → get_or text (at + 1) 0 ≡ 48 + y → (part text at (at + 2) ≡ decimal (x * 10 + y)) × (x * 10 + y ≤ small)
two_digits text at x y inside some one two first second =
    let a = get_or text at 0 in
    let b = get_or text (at + 1) 0 in
    let past : at + 2 ≡ at + 1 + 1 = omega arith in
    let word : part text at (at + 2) ≡ (a ∷ []) ++ b ∷ [] =
    ap (part text at) past ∙ part_more text at (at + 1) (omega arith) inside
    ∙ ap (λ (w : List ℕ). w ++ b ∷ []) (part_one text at (omega arith)) in
    let first_is : digit_value a ≡ x = digit_is a (omega arith) (omega arith) ∙ omega arith in
    let second_is : digit_value b ≡ y = digit_is b (omega arith) (omega arith) ∙ omega arith in
    let digits : AllDigits 10 ((a ∷ []) ++ b ∷ []) = digits_more (a ∷ []) b (omega arith, tt) (omega arith) in
    let value : digits_value 10 ((a ∷ []) ++ b ∷ []) ≡ x * 10 + y =
    value_more (a ∷ []) b ∙ ap (λ (n : ℕ). n * 10 + digit_value b) (value_more [] a ∙ omega arith)
    ∙ ap (λ (d : ℕ). x * 10 + d) second_is in
    let lone : get_or ((a ∷ []) ++ b ∷ []) 0 0 ≡ 48 → length ((a ∷ []) ++ b ∷ []) ≡ 1 = λ zero. absurd (omega (arith, zero)) in
    (word ∙ spells ((a ∷ []) ++ b ∷ []) (x * 10 + y) digits value (omega arith) (omega arith) lone, omega arith)
