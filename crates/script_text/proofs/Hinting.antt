-- What is told of a line with a fault, put together.
use Rattle.std.proofs.Common.{◌≡◌, ◌∙◌, ◌+◌, ◌-◌, ◌++◌, ℕ, List, Some, ap, append_assoc, arith, codes, slice_get}
use Rattle.std.specs.Fmt.{decimal}
use Rattle.script_text.specs.Faults.{shown}
use Rattle.script_text.specs.Lines.{pieces_of}

-- what is in a told line before what is said of it
abbrev pub front : ℕ → List ℕ → List ℕ
front n line = codes "line " ++ decimal n ++ codes ": " ++ shown line ++ codes "; "

-- the first line after others is the one that is asked for
pub same_line : (input rest first line : List ℕ) (n : ℕ)
    → ((k : ℕ) (l : List ℕ) → slice_get (pieces_of input) (n - 1 + k) ≡ Some l → slice_get (pieces_of rest) k ≡ Some l)
    → slice_get (pieces_of rest) 0 ≡ Some first → slice_get (pieces_of input) (n - 1) ≡ Some line → first ≡ line
same_line input rest first line n behind here is =
    let e : n - 1 + 0 ≡ n - 1 = omega arith in
    let there = behind 0 line (ap (slice_get (pieces_of input)) e ∙ is) in
    cc

-- three texts after a beginning
pub three : (start a b c mid left all : List ℕ) → mid ≡ start ++ a → left ≡ mid ++ b → all ≡ left ++ c → all ≡ start ++ (a ++ b ++ c)
three start a b c mid left all p q r = rw (r, q, p) (simp append_assoc)

-- four
pub four : (start a b c d mid left last all : List ℕ) → mid ≡ start ++ a → left ≡ mid ++ b → last ≡ left ++ c → all ≡ last ++ d
    → all ≡ start ++ (a ++ b ++ c ++ d)
four start a b c d mid left last all p q r s = rw (s, r, q, p) (simp append_assoc)
