-- Reading goes on line by line.
use Rattle.std.proofs.Common.{◌≡◌, ◌+◌, ◌∷◌, ◌++◌, ◌∙◌}
use Rattle.std.proofs.Common.{ℕ, Bool, true, false, cond, List, [], length, Result, Ok, Err, refl, sym, ap, append_assoc}
use Rattle.std.specs.Prelude.{◌==◌}
use Rattle.std.specs.List.{slice_split, onto_first}
use Rattle.std.proofs.lemmas.List.{append-nil}
use Rattle.heap_words.specs.declared.config.Config.{Config}
use Rattle.heap_steps.specs.Actors.{StepList, EventList}
use Rattle.heap_steps.specs.declared.step.Step.{Step}
use Rattle.heap_steps.specs.declared.step.Event.{Event}
use Rattle.script_text.specs.declared.fault.Kind.{Kind}
use Rattle.script_text.specs.declared.fault.Kind.TheVariants as kinds
use Rattle.script_text.specs.declared.fault.LineFault.{LineFault}
use Rattle.script_text.specs.Lines.{◌>>=◌, pieces_of, heap_line_of, step_line_of, items_of, headed, steps_of, script_by, script_of}
use Rattle.script_text.specs.Events.{event_line_of, events_of, record_by, record_of}

abbrev pub fault : ℕ → Kind → LineFault
fault n k = record { line = n; kind = k }

-- the items of a text, and what holds them: what a line says, which line is an item's, and how more items are held
pub record Items (A P : Type 0) : Type 0 where
  pub read : ℕ → List ℕ → Result A Kind
  pub number : ℕ → ℕ
  pub next : (n : ℕ) → number (n + 1) ≡ number n + 1
  pub more : P → List A → P
  pub none : (p : P) → more p [] ≡ p
  pub joined : (p : P) (x : A) (xs : List A) → more (more p (x ∷ [])) xs ≡ more p (x ∷ xs)

-- those of scripts, and of records
abbrev pub script_items : Config → Items Step StepList
script_items c = record {
  read = λ n. step_line_of c;
  number = λ n. n;
  next = λ n. refl;
  more = λ p ss. record p { steps = p.steps ++ ss };
  none = λ p. ap (λ (ss : List Step). record p { steps = ss }) (append-nil p.steps);
  joined = λ p s ss. ap (λ (x : List Step). record p { steps = x }) (append_assoc p.steps (s ∷ []) ss);
}

abbrev pub record_items : Config → Items Event EventList
record_items c = record {
  read = λ n. event_line_of n c;
  number = λ n. n + 1;
  next = λ n. refl;
  more = λ p es. record p { events = p.events ++ es };
  none = λ p. ap (λ (es : List Event). record p { events = es }) (append-nil p.events);
  joined = λ p e es. ap (λ (x : List Event). record p { events = x }) (append_assoc p.events (e ∷ []) es);
}

abbrev pub no_steps : Config → StepList
no_steps c = record { config = c; steps = [] }

abbrev pub no_events : Config → EventList
no_events c = record { config = c; events = [] }

abbrev pub items : {A P : Type 0} → Items A P → ℕ → List (List ℕ) → Result (List A) LineFault
items t n ps = items_of t.read t.number n ps

-- what was read first, and the items of the lines after it
abbrev pub read_on : {A P : Type 0} → Items A P → P → Result (List A) LineFault → Result P LineFault
read_on t p (Ok xs) = Ok (t.more p xs)
read_on t p (Err f) = Err f

-- there is always a piece
onto_first_some : (b : ℕ) (ps : List (List ℕ)) → (x : List ℕ) × (xs : List (List ℕ)) × (onto_first b ps ≡ x ∷ xs)
onto_first_some b [] = (b ∷ [], [], refl)
onto_first_some b (p ∷ ps) = (b ∷ p, ps, refl)

cond_some : (t : Bool) (ps qs : List (List ℕ)) → (x : List ℕ) × (xs : List (List ℕ)) × (qs ≡ x ∷ xs)
    → (x : List ℕ) × (xs : List (List ℕ)) × (cond t ([] ∷ ps) qs ≡ x ∷ xs)
cond_some true ps qs some = ([], ps, refl)
cond_some false ps qs some = some

pub pieces_some : (text : List ℕ) → (x : List ℕ) × (xs : List (List ℕ)) × (pieces_of text ≡ x ∷ xs)
pieces_some [] = ([], [], refl)
pieces_some (b ∷ text) = cond_some (b == 10) (slice_split (λ d. d == 10) text) (onto_first b (slice_split (λ d. d == 10) text))
    (onto_first_some b (slice_split (λ d. d == 10) text))

-- the first line is read
pub heap_first : {Y : Type 0} (by : Config → List (List ℕ) → Result Y LineFault) (line : List ℕ) (ps : List (List ℕ)) (x : List ℕ)
    (xs : List (List ℕ)) (c : Config) → ps ≡ x ∷ xs → heap_line_of line ≡ Ok c → by c ps ≡ headed by (line ∷ ps)
unfolding headed
heap_first by line ps x xs c e ok = rw (e, ok) refl

heap_fails : {Y : Type 0} (by : Config → List (List ℕ) → Result Y LineFault) (line : List ℕ) (ps : List (List ℕ)) (x : List ℕ)
    (xs : List (List ℕ)) (k : Kind) → ps ≡ x ∷ xs → heap_line_of line ≡ Err k → headed by (line ∷ ps) ≡ Err (fault 1 k)
unfolding headed
heap_fails by line ps x xs k e bad = rw (e, bad) refl

pub begins : {Y : Type 0} (by : Config → List (List ℕ) → Result Y LineFault) (text line rest : List ℕ) (c : Config)
    → pieces_of text ≡ line ∷ pieces_of rest → heap_line_of line ≡ Ok c → by c (pieces_of rest) ≡ headed by (pieces_of text)
begins by text line rest c e ok =
    let some = pieces_some rest in
    heap_first by line (pieces_of rest) some.0 some.1 c some.2 ok ∙ ap (headed by) (sym e)

pub begins_wrong : {Y : Type 0} (by : Config → List (List ℕ) → Result Y LineFault) (text line rest : List ℕ) (k : Kind)
    → pieces_of text ≡ line ∷ pieces_of rest → heap_line_of line ≡ Err k → headed by (pieces_of text) ≡ Err (fault 1 k)
begins_wrong by text line rest k e bad =
    let some = pieces_some rest in
    ap (headed by) e ∙ heap_fails by line (pieces_of rest) some.0 some.1 k some.2 bad

pub no_line : {Y : Type 0} (by : Config → List (List ℕ) → Result Y LineFault) (text : List ℕ) (k : Kind) → pieces_of text ≡ text ∷ []
    → k ≡ cond (length text == 0) kinds.BadHeap kinds.Cut → headed by (pieces_of text) ≡ Err (fault 1 k)
unfolding headed
no_line by text k e same = ap (headed by) e ∙ ap (λ (x : Kind). Err (fault 1 x)) (sym same)

steps_begun : (c : Config) (r : Result (List Step) LineFault)
    → read_on (script_items c) (no_steps c) r ≡ (r >>= λ ss. Ok (record { config = c; steps = ss }))
steps_begun c (Ok ss) = refl
steps_begun c (Err f) = refl

pub script_begins : (text line rest : List ℕ) (c : Config) → pieces_of text ≡ line ∷ pieces_of rest → heap_line_of line ≡ Ok c
    → read_on (script_items c) (no_steps c) (steps_of 2 c (pieces_of rest)) ≡ script_of text
script_begins text line rest c e ok = steps_begun c (steps_of 2 c (pieces_of rest)) ∙ begins script_by text line rest c e ok

events_begun : (c : Config) (r : Result (List Event) LineFault)
    → read_on (record_items c) (no_events c) r ≡ (r >>= λ es. Ok (record { config = c; events = es }))
events_begun c (Ok es) = refl
events_begun c (Err f) = refl

pub record_begins : (text line rest : List ℕ) (c : Config) → pieces_of text ≡ line ∷ pieces_of rest → heap_line_of line ≡ Ok c
    → read_on (record_items c) (no_events c) (events_of 1 c (pieces_of rest)) ≡ record_of text
record_begins text line rest c e ok = events_begun c (events_of 1 c (pieces_of rest)) ∙ begins record_by text line rest c e ok

-- one more line is read
read_more : {A P : Type 0} (t : Items A P) (p : P) (x : A) (r : Result (List A) LineFault)
    → read_on t (t.more p (x ∷ [])) r ≡ read_on t p (r >>= λ xs. Ok (x ∷ xs))
read_more t p x (Ok xs) = ap (λ (q : _). Ok q) (t.joined p x xs)
read_more t p x (Err f) = refl

pub items_more : {A P : Type 0} (t : Items A P) (n : ℕ) (line : List ℕ) (ps : List (List ℕ)) (y : List ℕ) (ys : List (List ℕ)) (x : A)
    → ps ≡ y ∷ ys → t.read n line ≡ Ok x → items t n (line ∷ ps) ≡ (items t (n + 1) ps >>= λ xs. Ok (x ∷ xs))
unfolding items_of
items_more t n line ps y ys x e ok = rw (e, ok) refl

pub items_fail : {A P : Type 0} (t : Items A P) (n : ℕ) (line : List ℕ) (ps : List (List ℕ)) (y : List ℕ) (ys : List (List ℕ)) (k : Kind)
    → ps ≡ y ∷ ys → t.read n line ≡ Err k → items t n (line ∷ ps) ≡ Err (fault (t.number n) k)
unfolding items_of
items_fail t n line ps y ys k e bad = rw (e, bad) refl

pub goes_on : {A P : Type 0} (t : Items A P) (p : P) (n : ℕ) (rest line after : List ℕ) (x : A) (total : Result P LineFault)
    → pieces_of rest ≡ line ∷ pieces_of after → t.read n line ≡ Ok x
    → read_on t p (items t n (pieces_of rest)) ≡ total → read_on t (t.more p (x ∷ [])) (items t (n + 1) (pieces_of after)) ≡ total
goes_on t p n rest line after x total e ok so_far =
    let some = pieces_some after in
    read_more t p x (items t (n + 1) (pieces_of after))
    ∙ ap (read_on t p) (sym (items_more t n line (pieces_of after) some.0 some.1 x some.2 ok))
    ∙ ap (λ (ps : List (List ℕ)). read_on t p (items t n ps)) (sym e) ∙ so_far

pub goes_wrong : {A P : Type 0} (t : Items A P) (p : P) (n : ℕ) (rest line after : List ℕ) (k : Kind) (total : Result P LineFault)
    → pieces_of rest ≡ line ∷ pieces_of after → t.read n line ≡ Err k
    → read_on t p (items t n (pieces_of rest)) ≡ total → total ≡ Err (fault (t.number n) k)
goes_wrong t p n rest line after k total e bad so_far =
    let some = pieces_some after in
    sym so_far ∙ ap (λ (ps : List (List ℕ)). read_on t p (items t n ps)) e
    ∙ ap (read_on t p) (items_fail t n line (pieces_of after) some.0 some.1 k some.2 bad)

-- no line is left
pub is_done : {A P : Type 0} (t : Items A P) (p : P) (n : ℕ) (rest : List ℕ) (total : Result P LineFault) → pieces_of rest ≡ rest ∷ []
    → (length rest == 0) ≡ true → read_on t p (items t n (pieces_of rest)) ≡ total → total ≡ Ok p
unfolding items_of
is_done t p n rest total e empty so_far =
    sym so_far ∙ ap (λ (ps : List (List ℕ)). read_on t p (items t n ps)) e ∙ rw empty (ap (λ (q : _). Ok q) (t.none p))

pub is_cut : {A P : Type 0} (t : Items A P) (p : P) (n : ℕ) (rest : List ℕ) (total : Result P LineFault) → pieces_of rest ≡ rest ∷ []
    → (length rest == 0) ≡ false → read_on t p (items t n (pieces_of rest)) ≡ total → total ≡ Err (fault (t.number n) kinds.Cut)
unfolding items_of
is_cut t p n rest total e some so_far =
    sym so_far ∙ ap (λ (ps : List (List ℕ)). read_on t p (items t n ps)) e ∙ rw some refl

pub read_same : {A P : Type 0} (t : Items A P) (p q : P) (r : Result (List A) LineFault) (total : Result P LineFault) → p ≡ q
    → read_on t q r ≡ total → read_on t p r ≡ total
read_same t p q r total e h = rw e h
