-- Where reading stops for want of memory no line has a fault yet.
use Rattle.std.proofs.Common.{◌≡◌, ◌+◌, ◌≤◌, ◌∷◌, ◌∙◌}
use Rattle.std.proofs.Common.{ℕ, Bool, true, false, cond, List, [], length, Option, Some, None, Result, Ok, Err, refl, sym, ap, arith}
use Rattle.std.specs.Prelude.{◌==◌, nat_lt, codes}
use Rattle.std.specs.Str.{bytes_eq}
use Rattle.heap_words.specs.declared.config.Config.{Config}
use Rattle.heap_steps.specs.declared.step.Step.TheVariants as steps
use Rattle.script_text.specs.declared.fault.Kind.{Kind}
use Rattle.script_text.specs.declared.fault.Kind.TheVariants as kinds
use Rattle.script_text.specs.declared.fault.LineFault.{LineFault}
use Rattle.script_text.specs.Reading.{number_of, small, allowed_of, collection_of, sizes_of}
use Rattle.script_text.specs.Lines.{◌>>=◌, or_fault, at, words_of, pieces_of, mutator_of, step_of, heap_line_of}
use Rattle.script_text.specs.Lines.{step_line_of, items_of, FailsBy, StopsAt}
use Rattle.script_text.proofs.Reading.ReadOn.{Items, items, fault, read_on, pieces_some, goes_on}

-- a line's own fault is never want of memory
abbrev pub Never : {A : Type 0} → Result A Kind → Type 0
Never r = r ≡ Err kinds.NoMemory → ⊥

pub never_or : {A : Type 0} (o : Option A) (k : Kind) → (k ≡ kinds.NoMemory → ⊥) → Never (or_fault o k)
never_or None k other e = other (cc)
never_or (Some x) k other e = cc

pub never_cond : {A : Type 0} (b : Bool) (x y : Result A Kind) → Never x → Never y → Never (cond b x y)
never_cond true x y first second e = first e
never_cond false x y first second e = second e

pub never_bind : {A B : Type 0} (r : Result A Kind) (f : A → Result B Kind) → Never r → ((x : A) → Never (f x)) → Never (r >>= f)
never_bind (Ok x) f first second e = second x e
never_bind (Err k) f first second e = first (cc)

pub never_ok : {A : Type 0} (x : A) → Never (Ok x)
never_ok x e = cc

pub never_err : {A : Type 0} (k : Kind) → (k ≡ kinds.NoMemory → ⊥) → Never {A = A} (Err k)
never_err k other e = other (cc)

pub mutator_never : (c : Config) (word : List ℕ) → Never (mutator_of c word)
unfolding mutator_of
mutator_never c word =
    never_bind (or_fault (number_of small word) kinds.BadActor) (λ m. cond (nat_lt m c.mutators) (Ok m) (Err kinds.BadActor))
    (never_or (number_of small word) kinds.BadActor (λ e. cc))
    (λ m. never_cond (nat_lt m c.mutators) (Ok m) (Err kinds.BadActor) (never_ok m) (never_err kinds.BadActor (λ e. cc)))

step_never : (c : Config) (ws : List (List ℕ)) → Never (step_of c ws)
unfolding step_of
step_never c [] = never_err kinds.BadActor (λ e. cc)
step_never c (actor ∷ rest) =
    never_cond (bytes_eq actor (codes "gc")) _ _
    (never_bind (or_fault (collection_of c.format rest) kinds.BadStep) (λ k. Ok (steps.Collector k))
    (never_or (collection_of c.format rest) kinds.BadStep (λ e. cc)) (λ k. never_ok (steps.Collector k)))
    (never_bind (mutator_of c actor)
    (λ m. or_fault (allowed_of c rest) kinds.BadStep >>= λ a. Ok (steps.Mutator (record { mutator = m; action = a })))
    (mutator_never c actor)
    (λ m. never_bind (or_fault (allowed_of c rest) kinds.BadStep) (λ a. Ok (steps.Mutator (record { mutator = m; action = a })))
    (never_or (allowed_of c rest) kinds.BadStep (λ e. cc)) (λ a. never_ok (steps.Mutator (record { mutator = m; action = a })))))

pub step_line_never : (c : Config) (line : List ℕ) (k : Kind) → step_line_of c line ≡ Err k → k ≡ kinds.NoMemory → ⊥
unfolding step_line_of
step_line_never c line k e memory = never_cond (nat_lt 120 (length line)) (Err kinds.LongLine) (step_of c (words_of line))
    (never_err kinds.LongLine (λ d. cc)) (step_never c (words_of line)) (e ∙ ap (λ (x : Kind). Err x) memory)

pub heap_line_never : (line : List ℕ) (k : Kind) → heap_line_of line ≡ Err k → k ≡ kinds.NoMemory → ⊥
unfolding heap_line_of
heap_line_never line k e memory =
    never_cond (nat_lt 120 (length line)) (Err kinds.LongLine) (or_fault (sizes_of (words_of line)) kinds.BadHeap)
    (never_err kinds.LongLine (λ d. cc)) (never_or (sizes_of (words_of line)) kinds.BadHeap (λ d. cc)) (e ∙ ap (λ (x : Kind). Err x) memory)

-- a line's own fault is the text's
pub fault_is : {Y : Type 0} (k : Kind) (n : ℕ) (text : List ℕ) (total : Result Y LineFault) → (k ≡ kinds.NoMemory → ⊥)
    → total ≡ Err (fault n k) → FailsBy k (fault n k) text total
fault_is kinds.NoMemory n text total other e = absurd (other refl)
fault_is _ n text total other e = e

-- a fault of the lines from an item on is one of its line or of a later one
abbrev wrong : {A : Type 0} → LineFault → Result (List A) LineFault
wrong f = Err f

at_line : (n : ℕ) (f g : LineFault) → f ≡ g → n ≤ f.line → n ≤ g.line
at_line n f g e le = rw (sym e) le

cut_later : {A : Type 0} (b : Bool) (n : ℕ) (f : LineFault) → cond b (Ok []) (Err (fault n kinds.Cut)) ≡ wrong {A = A} f → n ≤ f.line
cut_later true n f e = absurd cc
cut_later false n f e = let same : fault n kinds.Cut ≡ f = cc in at_line n (fault n kinds.Cut) f same (omega arith)

line_later : {A : Type 0} (r : Result A Kind) (more : Result (List A) LineFault) (n : ℕ) (f : LineFault)
    → ((g : LineFault) → more ≡ Err g → n + 1 ≤ g.line) → (at n r >>= λ x. more >>= λ xs. Ok (x ∷ xs)) ≡ Err f → n ≤ f.line
line_later (Ok x) (Ok xs) n f rest e = absurd cc
line_later (Ok x) (Err g) n f rest e = let same : g ≡ f = cc in let le = rest g refl in at_line n g f same (omega arith)
line_later (Err k) more n f rest e = let same : fault n k ≡ f = cc in at_line n (fault n k) f same (omega arith)

later : {A P : Type 0} (t : Items A P) (ps : List (List ℕ)) (n : ℕ) (p : List ℕ) (f : LineFault) → items t n (p ∷ ps) ≡ Err f
    → t.number n ≤ f.line
unfolding items_of
later t [] n p f e = cut_later (length p == 0) (t.number n) f e
later t (q ∷ ps) n p f e = line_later (t.read n p) (items t (n + 1) (q ∷ ps)) (t.number n) f
    (λ g h. let le : t.number (n + 1) ≤ g.line = later t ps (n + 1) q g h in omega (arith, t.next n)) e

pub rest_fails : {A P : Type 0} (t : Items A P) (p : P) (r : Result (List A) LineFault) (f : LineFault) → read_on t p r ≡ Err f → r ≡ Err f
rest_fails t p (Ok xs) f e = absurd cc
rest_fails t p (Err g) f e = cc

-- a line less is left, and its number is one more
pub one_less : (n : ℕ) (rest line after : List ℕ) → pieces_of rest ≡ line ∷ pieces_of after
    → (n + 1) + length (pieces_of after) ≡ n + length (pieces_of rest)
one_less n rest line after e = let count : length (pieces_of rest) ≡ length (line ∷ pieces_of after) = ap length e in omega arith

-- the line is read, and nothing up to it is at fault
pub stops : {A P : Type 0} (t : Items A P) (p : P) (n : ℕ) (text rest line after : List ℕ) (x : A) (total : Result P LineFault)
    → pieces_of rest ≡ line ∷ pieces_of after → t.read n line ≡ Ok x → read_on t p (items t n (pieces_of rest)) ≡ total
    → 1 ≤ t.number n → t.number n + length (pieces_of rest) ≡ length (pieces_of text) + 1 → StopsAt (t.number n) text total
stops t p n text rest line after x total e ok so_far from count =
    let some = pieces_some after in
    let two : length (pieces_of rest) ≡ length (line ∷ some.0 ∷ some.1) = ap length (e ∙ ap (λ (ps : List (List ℕ)). line ∷ ps) some.2) in
    record {
      counted = from;
      ended = omega arith;
      before = λ first wrong.
          let failed : items t (n + 1) (pieces_of after) ≡ Err first =
          rest_fails t (t.more p (x ∷ [])) (items t (n + 1) (pieces_of after)) first
          (goes_on t p n rest line after x total e ok so_far ∙ wrong) in
          let le : t.number (n + 1) ≤ first.line = later t some.1 (n + 1) some.0 first (ap (items t (n + 1)) (sym some.2) ∙ failed) in
          omega (arith, t.next n);
    }
