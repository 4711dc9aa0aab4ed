-- Types that are read line by line.
use Rattle.std.proofs.Common.{◌≡◌, ◌≢◌, ◌∙◌, ◌++◌, ◌∷◌, ◌+◌, ◌<◌, ◌≤◌, [], ℕ, Bool, true, false, List, Option, Some, None, Result, Ok, Err}
use Rattle.std.proofs.Common.{ap, arith, eqb, inl, inr, length, get_or, refl, subst, sym, take, drop}
use Rattle.std.specs.Prelude.{is_some, option_map}
use Rattle.std.specs.Borrow.{Bor}
use Rattle.std.proofs.lemmas.Bool.{cases_lt}
use Rattle.std.proofs.lemmas.Grind.{get_or_default_zero}
use Rattle.std.proofs.lemmas.List.{take_all}
use Rattle.std.proofs.lemmas.List.Splits.{slice_split_none}
use Rattle.std.proofs.lemmas.List.Sums.{fails_before_first}
use Rattle.script_text.specs.Feeds.{end_of, line_of}
use Rattle.script_text.specs.Lines.{pieces_of}
use Rattle.script_text.proofs.Parts.Splitting.{ended_piece}
use Rattle.type_names.specs.NamedLines.{TypeName, is_passed, type_in}
use Rattle.type_names.specs.Naming.{in_line, name_among, types_from, with_line}
use Rattle.type_names.specs.declared.faults.TypesFault.{TypesFault}

-- a text without a line feed is one line
pub last_piece : (text : List ℕ) → length text ≤ end_of text → pieces_of text ≡ text ∷ []
last_piece text past = slice_split_none (λ b. eqb b 10) text (λ k d lt.
    ap (λ (b : ℕ). eqb b 10) (get_or_default_zero text k d lt) ∙ fails_before_first (λ b. eqb b 10) text k 0 (omega (arith, lt, past)))

-- the line at the front of a text is its first
pub first_piece : (text : List ℕ) → (lines : List (List ℕ)) × (pieces_of text ≡ line_of text ∷ lines)
first_piece text = elim (cases_lt (end_of text) (length text)) [
  | inl ended ↦ (pieces_of (drop (end_of text + 1) text), ended_piece text ended)
  | inr last ↦ ([], last_piece text last ∙ ap (λ (l : List ℕ). l ∷ []) (sym (take_all (end_of text) text last)))
]

-- what is read of a line is added
pub goes_on : (n : ℕ) (ts more : List TypeName) (rest line : List ℕ) (lines : List (List ℕ)) → pieces_of rest ≡ line ∷ lines
    → with_line ts line ≡ Ok more → types_from n ts (pieces_of rest) ≡ types_from (n + 1) more lines
goes_on n ts more rest line lines piece read = rw (piece, read) refl

-- or has a mistake
pub goes_wrong : (n : ℕ) (ts : List TypeName) (fault : TypesFault) (rest line : List ℕ) (lines : List (List ℕ))
    → pieces_of rest ≡ line ∷ lines → in_line n (with_line ts line) ≡ Err fault → types_from n ts (pieces_of rest) ≡ Err fault
goes_wrong n ts fault rest line lines piece read = rw (piece, read) refl

pub is_fault : (n : ℕ) (ts : List TypeName) (rest line : List ℕ) (total : Result (List TypeName) TypesFault) (fault : TypesFault)
    → line ≡ line_of rest → types_from n ts (pieces_of rest) ≡ total → in_line n (with_line ts line) ≡ Err fault → total ≡ Err fault
is_fault n ts rest line total fault same so_far read =
    let (lines, piece) = first_piece rest in
    sym so_far ∙ goes_wrong n ts fault rest (line_of rest) lines piece
    (subst (λ (l : List ℕ). in_line n (with_line ts l) ≡ Err fault) same read)

-- the last line is read
pub is_done : (n : ℕ) (ts more : List TypeName) (rest line : List ℕ) (total : Result (List TypeName) TypesFault)
    → length rest ≤ end_of rest → line ≡ rest → types_from n ts (pieces_of rest) ≡ total → with_line ts line ≡ Ok more
    → total ≡ Ok more
is_done n ts more rest line total past same so_far read =
    sym so_far ∙ goes_on n ts more rest rest [] (last_piece rest past) (subst (λ (l : List ℕ). with_line ts l ≡ Ok more) same read)

-- a word has a name, or none
named_if : {X Y : Type 0} (f : X → Y) (o : Option X) → is_some (option_map f o) ≡ is_some o
named_if f None = refl
named_if f (Some x) = refl

pub taken : (ts : List TypeName) (t : TypeName) (line : List ℕ) (found : Option (Bor (List ℕ))) → is_passed line ≡ false
    → type_in line ≡ Ok t → option_map (λ name. name.now) found ≡ name_among ts t.word → is_some found ≡ false
    → with_line ts line ≡ Ok (ts ++ t ∷ [])
taken ts t line found passed read are none =
    let fresh = sym (ap is_some are) ∙ named_if (λ name. name.now) found ∙ none in
    rw (passed, read, fresh) refl
