use Rattle.std.proofs.Common.{◌≡◌, ◌+◌, ◌-◌, ◌<◌, ◌∙◌, ◌∷◌, [], ℕ, suc, List, Some, None, ap, arith, length, slice_get, sym, take}
use Rattle.std.proofs.lemmas.List.{length-drop}
use Rattle.script_text.specs.Lines.{pieces_of}
use Rattle.script_text.proofs.Parts.Pieces.{behind, behind_is, pieces_behind}
use Rattle.script_text.proofs.hints.behind.Goals as goal

-- a place after the first of a list
next : (p : List ℕ) (ps : List (List ℕ)) (n k : ℕ) → 1 < n → slice_get (p ∷ ps) (n - 1 + k) ≡ slice_get ps (n - 1 - 1 + k)
next p ps n k more =
    let e : n - 1 + k ≡ suc (n - 1 - 1 + k) = omega arith in
    ap (slice_get (p ∷ ps)) e

-- where there is one line, none is after it
none_behind : (ps : List (List ℕ)) (x p : List ℕ) (n k i : ℕ) → ps ≡ x ∷ [] → 1 < n → slice_get ps (n - 1 + k) ≡ Some p
    → slice_get ps i ≡ Some p
none_behind ps x p n k i e more is =
    let index : n - 1 + k ≡ suc (n - 1 - 1 + k) = omega arith in
    let none : slice_get ps (n - 1 + k) ≡ None =
    ap (λ (qs : List (List ℕ)). slice_get qs (n - 1 + k)) e ∙ ap (slice_get (x ∷ [])) index in
    absurd (cc)

-- what is left where one line is passed
passed : (rest line after p : List ℕ) (left k : ℕ) → pieces_of rest ≡ line ∷ pieces_of after → 1 < left
    → slice_get (pieces_of rest) (left - 1 + k) ≡ Some p → slice_get (pieces_of after) (left - 1 - 1 + k) ≡ Some p
passed rest line after p left k e more is =
    sym (next line (pieces_of after) left k more) ∙ ap (λ (ps : List (List ℕ)). slice_get ps (left - 1 + k)) (sym e) ∙ is

pub returns-in_default : goal.returns-in_default
returns-in_default c = λ k p is. none_behind (pieces_of c.loop-left.rest.now) c.loop-left.rest.now p c.loop-left.left k k
    c.in_default.ensures.none c.loop-left-test.true (c.loop-left.invariant.there k p is)

pub loop-left-preserved : goal.loop-left-preserved
loop-left-preserved c =
    let rest = c.loop-left.rest.now in
    let n = c.in-Some.front.length in
    record {
      room = c.split_line.auto.words ∙ c.loop-left.invariant.room;
      bound = omega (arith, c.loop-left.invariant.bound, ap length (behind_is (n + 1) rest), length-drop (n + 1) rest);
      there = λ k p is. passed rest (take n rest) (behind (n + 1) rest) p c.loop-left.left k (pieces_behind rest n c.in-Some.ensures.line)
          c.loop-left-test.true (c.loop-left.invariant.there k p is);
    }

pub returns : goal.returns
returns c = λ k p is.
    let none : c.loop-left.left - 1 + k ≡ k = omega (arith, c.loop-left-test.false) in
    ap (slice_get (pieces_of c.loop-left.rest.now)) (sym none) ∙ c.loop-left.invariant.there k p is
