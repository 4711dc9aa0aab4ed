-- A text after its first line.
use Rattle.std.proofs.Common.{◌≡◌, ℕ, ◌+◌, ◌-◌, ◌<◌, List, ◌∷◌, length, take, drop, sym, ap, ◌∙◌, arith}
use Rattle.std.proofs.lemmas.List.{take_all, length-drop}
use Rattle.script_text.specs.Feeds.{end_of, line_of}
use Rattle.script_text.specs.Lines.{pieces_of}
use Rattle.script_text.proofs.Parts.Splitting.{ended_piece}

-- what is after the first bytes
abbrev pub behind : ℕ → List ℕ → List ℕ
behind k text = take (length text - k) (drop k text)

pub behind_is : (k : ℕ) (text : List ℕ) → behind k text ≡ drop k text
behind_is k text = take_all (length text - k) (drop k text) (omega (arith, length-drop k text))

pub pieces_behind : (text : List ℕ) (k : ℕ) → pieces_of text ≡ take k text ∷ pieces_of (drop (k + 1) text)
    → pieces_of text ≡ take k text ∷ pieces_of (behind (k + 1) text)
pieces_behind text k e = e ∙ ap (λ (t : List ℕ). take k text ∷ pieces_of t) (sym (behind_is (k + 1) text))

-- the text after its first line, which ends where it is told to
pub pieces_ended : (text : List ℕ) (k : ℕ) → end_of text < length text → k ≡ end_of text
    → pieces_of text ≡ line_of text ∷ pieces_of (behind (k + 1) text)
pieces_ended text k lt is = ended_piece text lt ∙ ap (λ (n : ℕ). line_of text ∷ pieces_of (drop (n + 1) text)) (sym is)
    ∙ ap (λ (t : List ℕ). line_of text ∷ pieces_of t) (sym (behind_is (k + 1) text))
