-- The steps that are left of a text without a fault.
use Rattle.std.proofs.Common.{◌≡◌, ◌+◌, ◌≤◌, ◌∷◌, ◌∙◌}
use Rattle.std.proofs.Common.{ℕ, Bool, true, false, cond, List, [], length, Result, Ok, Err, refl, sym, ap, arith}
use Rattle.std.specs.Prelude.{◌==◌}
use Rattle.std.proofs.lemmas.List.Splits.{length-slice_split}
use Rattle.std.proofs.lemmas.List.Sums.{count_by-le-length}
use Rattle.heap_words.specs.declared.config.Config.{Config}
use Rattle.heap_steps.specs.Actors.{StepList}
use Rattle.heap_steps.specs.declared.step.Step.{Step}
use Rattle.script_text.specs.declared.fault.Kind.{Kind}
use Rattle.script_text.specs.declared.fault.Kind.TheVariants as kinds
use Rattle.script_text.specs.declared.fault.LineFault.{LineFault}
use Rattle.script_text.specs.Lines.{◌>>=◌, at, pieces_of, heap_line_of, step_line_of, items_of, steps_of, script_of}
use Rattle.script_text.specs.StepsLeft.{steps_read, steps_in, IsFaultless}
use Rattle.script_text.proofs.Reading.ReadOn.{script_items, fault, no_steps, read_on, pieces_some, script_begins, items_more}
use Rattle.script_text.proofs.Reading.ReadOn.{items_fail, goes_on, goes_wrong, is_done, is_cut}
use Rattle.script_text.proofs.Reading.Stops.{rest_fails}

-- Faults alone have the numbers of lines.
last_anywhere : (b : Bool) (n m : ℕ) (ss : List Step) → cond b (Ok []) (Err (fault n kinds.Cut)) ≡ Ok ss
    → cond b (Ok []) (Err (fault m kinds.Cut)) ≡ Ok ss
last_anywhere true n m ss e = e
last_anywhere false n m ss e = absurd cc

line_anywhere : (r : Result Step Kind) (more more' : Result (List Step) LineFault) (n m : ℕ) (ss : List Step)
    → ((ts : List Step) → more ≡ Ok ts → more' ≡ Ok ts) → (at n r >>= λ s. more >>= λ ts. Ok (s ∷ ts)) ≡ Ok ss
    → (at m r >>= λ s. more' >>= λ ts. Ok (s ∷ ts)) ≡ Ok ss
line_anywhere (Ok s) (Ok ts) more' n m ss rest e = rw (rest ts refl) e
line_anywhere _ _ more' n m ss rest e = absurd cc

ok_anywhere : (ps : List (List ℕ)) (p : List ℕ) (n m : ℕ) (c : Config) (ss : List Step) → steps_of n c (p ∷ ps) ≡ Ok ss
    → steps_of m c (p ∷ ps) ≡ Ok ss
unfolding items_of
ok_anywhere [] p n m c ss e = last_anywhere (length p == 0) n m ss e
ok_anywhere (q ∷ ps) p n m c ss e =
    line_anywhere (step_line_of c p) (steps_of (n + 1) c (q ∷ ps)) (steps_of (m + 1) c (q ∷ ps)) n m ss
    (λ ts rest. ok_anywhere ps q (n + 1) (m + 1) c ts rest) e

abbrev pub are_read : List Step → Result (List Step) LineFault
are_read ss = Ok ss

is_read : (r : Result (List Step) LineFault) (ss : List Step) → r ≡ Ok ss → (r ≡ Ok (steps_read r)) × (steps_read r ≡ ss)
is_read (Ok ts) ss e = (refl, cc)
is_read (Err f) ss e = absurd cc

-- the lines are as good from any number on
left_from : (n : ℕ) (c : Config) (lines : List ℕ) (ss : List Step) → steps_of n c (pieces_of lines) ≡ Ok ss
    → IsFaultless c lines × (steps_in c lines ≡ ss)
left_from n c lines ss e =
    let some = pieces_some lines in
    let here : steps_of n c (some.0 ∷ some.1) ≡ Ok ss = ap (steps_of n c) (sym some.2) ∙ e in
    is_read (steps_of 2 c (pieces_of lines)) ss (ap (steps_of 2 c) some.2 ∙ ok_anywhere some.1 some.0 n 2 c ss here)

behind_first : (r : Result (List Step) LineFault) (s : Step) (all : List Step) → (r >>= λ ss. Ok (s ∷ ss)) ≡ Ok all
    → (ss : List Step) × (r ≡ Ok ss) × (all ≡ s ∷ ss)
behind_first (Ok ss) s all e = (ss, refl, cc)
behind_first (Err f) s all e = absurd cc

-- the first step that is left, and the others after its line
pub first_left : (c : Config) (rest line after : List ℕ) (s : Step) → pieces_of rest ≡ line ∷ pieces_of after → step_line_of c line ≡ Ok s
    → IsFaultless c rest → IsFaultless c after × (steps_in c rest ≡ s ∷ steps_in c after)
first_left c rest line after s e ok good =
    let some = pieces_some after in
    let one : (steps_of (2 + 1) c (pieces_of after) >>= λ ss. Ok (s ∷ ss)) ≡ Ok (steps_in c rest) =
    sym (items_more (script_items c) 2 line (pieces_of after) some.0 some.1 s some.2 ok) ∙ ap (steps_of 2 c) (sym e) ∙ good in
    let (ss, others, all) = behind_first (steps_of (2 + 1) c (pieces_of after)) s (steps_in c rest) one in
    let left = left_from (2 + 1) c after ss others in
    (left.0, all ∙ ap (λ (ts : List Step). s ∷ ts) (sym left.1))

-- no line that is left has a fault
pub none_wrong : (c : Config) (rest line after : List ℕ) (k : Kind) → pieces_of rest ≡ line ∷ pieces_of after
    → step_line_of c line ≡ Err k → IsFaultless c rest → ⊥
none_wrong c rest line after k e bad good =
    let some = pieces_some after in
    let wrong : steps_of 2 c (pieces_of rest) ≡ Err (fault 2 k) =
    ap (steps_of 2 c) e ∙ items_fail (script_items c) 2 line (pieces_of after) some.0 some.1 k some.2 bad in
    let both : are_read (steps_in c rest) ≡ Err (fault 2 k) = sym good ∙ wrong in
    cc

last_none : (b : Bool) → steps_read (cond b (Ok []) (Err (fault 2 kinds.Cut))) ≡ []
last_none true = refl
last_none false = refl

-- where no line is left, no step is
pub none_left : (c : Config) (rest : List ℕ) → pieces_of rest ≡ rest ∷ [] → steps_in c rest ≡ []
unfolding items_of
none_left c rest e = ap (λ (ps : List (List ℕ)). steps_read (steps_of 2 c ps)) e ∙ last_none (length rest == 0)

-- there are no more steps than bytes
line_few : (r : Result Step Kind) (more : Result (List Step) LineFault) (n k : ℕ) → length (steps_read more) ≤ k
    → length (steps_read (at n r >>= λ s. more >>= λ ss. Ok (s ∷ ss))) ≤ k + 1
line_few (Ok s) (Ok ss) n k le = omega arith
line_few (Ok s) (Err f) n k le = omega arith
line_few (Err f) more n k le = omega arith

last_few : (b : Bool) (n : ℕ) → length (steps_read (cond b (Ok []) (Err (fault n kinds.Cut)))) ≤ 0
last_few true n = omega arith
last_few false n = omega arith

pieces_few : (ps : List (List ℕ)) (p : List ℕ) (n : ℕ) (c : Config) → length (steps_read (steps_of n c (p ∷ ps))) ≤ length ps
unfolding items_of
pieces_few [] p n c = last_few (length p == 0) n
pieces_few (q ∷ ps) p n c =
    let le : length (steps_read (steps_of n c (p ∷ q ∷ ps))) ≤ length ps + 1 =
    line_few (step_line_of c p) (steps_of (n + 1) c (q ∷ ps)) n (length ps) (pieces_few ps q (n + 1) c) in
    omega arith

pub few_left : (c : Config) (lines : List ℕ) → length (steps_in c lines) ≤ length lines
few_left c lines =
    let some = pieces_some lines in
    let le : length (steps_in c lines) ≤ length some.1 =
    rw some.2 (pieces_few some.1 some.0 2 c) in
    let all : length (pieces_of lines) ≡ length (some.0 ∷ some.1) = ap length some.2 in
    omega (arith, length-slice_split (λ (b : ℕ). b == 10) lines, count_by-le-length (λ (b : ℕ). b == 10) lines)

-- some steps of the lines were read, and these lines are left, from line n on
abbrev pub IsReadTo : Config → ℕ → List ℕ → List ℕ → Type 0
IsReadTo c n rest lines = (before : List Step)
    × (read_on (script_items c) (record { config = c; steps = before }) (steps_of n c (pieces_of rest))
    ≡ read_on (script_items c) (no_steps c) (steps_of 2 c (pieces_of lines)))

pub one_read : (c : Config) (n : ℕ) (rest line after lines : List ℕ) (s : Step) → pieces_of rest ≡ line ∷ pieces_of after
    → step_line_of c line ≡ Ok s → IsReadTo c n rest lines → IsReadTo c (n + 1) after lines
one_read c n rest line after lines s e ok (before, so_far) =
    (_, goes_on (script_items c) (record { config = c; steps = before }) n rest line after s _ e ok so_far)

pub fails_at : (c : Config) (n : ℕ) (rest line after lines : List ℕ) (k : Kind) → pieces_of rest ≡ line ∷ pieces_of after
    → step_line_of c line ≡ Err k → IsReadTo c n rest lines → steps_of 2 c (pieces_of lines) ≡ Err (fault n k)
fails_at c n rest line after lines k e bad (before, so_far) =
    rest_fails (script_items c) (no_steps c) (steps_of 2 c (pieces_of lines)) (fault n k)
    (goes_wrong (script_items c) (record { config = c; steps = before }) n rest line after k _ e bad so_far)

all_read : (c : Config) (r : Result (List Step) LineFault) (p : StepList) → read_on (script_items c) (no_steps c) r ≡ Ok p
    → r ≡ Ok (steps_read r)
all_read c (Ok ss) p e = refl
all_read c (Err f) p e = absurd cc

pub ends_good : (c : Config) (n : ℕ) (rest lines : List ℕ) → pieces_of rest ≡ rest ∷ [] → (length rest == 0) ≡ true
    → IsReadTo c n rest lines → IsFaultless c lines
ends_good c n rest lines e empty (before, so_far) =
    all_read c (steps_of 2 c (pieces_of lines)) (record { config = c; steps = before })
    (is_done (script_items c) (record { config = c; steps = before }) n rest _ e empty so_far)

pub ends_cut : (c : Config) (n : ℕ) (rest lines : List ℕ) → pieces_of rest ≡ rest ∷ [] → (length rest == 0) ≡ false
    → IsReadTo c n rest lines → steps_of 2 c (pieces_of lines) ≡ Err (fault n kinds.Cut)
ends_cut c n rest lines e some (before, so_far) =
    rest_fails (script_items c) (no_steps c) (steps_of 2 c (pieces_of lines)) (fault n kinds.Cut)
    (is_cut (script_items c) (record { config = c; steps = before }) n rest _ e some so_far)

-- the whole script, where its other lines have no fault, and where one has
pub is_script : (text line lines : List ℕ) (c : Config) → pieces_of text ≡ line ∷ pieces_of lines → heap_line_of line ≡ Ok c
    → IsFaultless c lines → Ok (record { config = c; steps = steps_in c lines }) ≡ script_of text
is_script text line lines c e ok good =
    ap (read_on (script_items c) (no_steps c)) (sym good) ∙ script_begins text line lines c e ok

pub is_no_script : (text line lines : List ℕ) (c : Config) (f : LineFault) → pieces_of text ≡ line ∷ pieces_of lines
    → heap_line_of line ≡ Ok c → steps_of 2 c (pieces_of lines) ≡ Err f → Err f ≡ script_of text
is_no_script text line lines c f e ok bad = ap (read_on (script_items c) (no_steps c)) (sym bad) ∙ script_begins text line lines c e ok
