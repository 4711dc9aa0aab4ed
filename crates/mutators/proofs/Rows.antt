-- A turn keeps what the journal keeps.
use Rattle.std.proofs.Common.{◌≡◌, ◌≢◌, ◌+◌, ◌<◌, ◌≤◌, ◌==◌, ◌∷◌, ◌++◌, ◌∙◌, ℕ, Bool, true, false, cond, List, [], Some, None, length}
use Rattle.std.proofs.Common.{take, refl, ap, sym, subst, arith, get_or, get_or-set_same, get_or-set_other, ⊎_elim, length-set}
use Rattle.std.proofs.Common.{eqb, map, ◌↔◌, IsTrue, All, slice_index, slice_index_or, slice_get, slice_set}
use Rattle.std.proofs.lemmas.List.{take_more, get_or-map, length-map}
use Rattle.std.proofs.lemmas.Option.{get_or_from_slice_get, slice_get-get_or, slice_get_past, slice_get_within}
use Rattle.std.proofs.lemmas.Grind.{get_or_default_zero}
use Rattle.std.proofs.lemmas.List.Elements.{All-append, All-cons}
use Rattle.std.proofs.lemmas.Bool.Decides.{nat_tests, eqb_tells}
use Rattle.std.proofs.lemmas.Bool.{cases_eq}
use Rattle.heap_words.specs.declared.config.Config.{Config}
use Rattle.heap_steps.specs.Actors.{IsStep}
use Rattle.step_core.specs.Steps.{Actor, Event, Reply, Step}
use Rattle.heap_steps.specs.declared.step.Actor.TheVariants.{Mutator, Collector, Marker, Refiner}
use Rattle.heap_steps.specs.declared.step.Step.TheVariants as steps
use Rattle.step_core.specs.Stands.{CoreState}
use Rattle.step_core.specs.Cycle.{Does}
use Rattle.step_core.specs.Passages.{actor_of, RunsTo}
use Rattle.mutators.specs.Scripts.{same_actor, scripted, steps_of, is_scripted, IsOwn, mark_4, refine_2}
use Rattle.mutators.specs.Journals.{JournalState, mutators_of, script_at, IsBeginning, Keeps, event_of, IsScriptLine}
use Rattle.mutators.specs.Turns.{TakesTurn, IsCast, next_at, next_step, moved}
use Rattle.mutators.proofs.Lines.{steps_push_same, steps_push_other}

-- the same actor only at the same place
pub same_scripted : (m k : ℕ) → same_actor (scripted m k) (scripted m k) ≡ true
same_scripted m k = elim (k == m) as (λ b. same_actor (cond b Collector (Mutator k)) (cond b Collector (Mutator k)) ≡ true) [
  | true ↦ refl
  | false ↦ grind (arith, nat_tests)
]

pub other_scripted : (m j k : ℕ) → j ≢ k → same_actor (scripted m j) (scripted m k) ≡ false
other_scripted m j k apart = grind (arith, nat_tests)

-- at a place that is there, one element more is taken
pub take_next : (xs : List Step) (i : ℕ) (s : Step) → slice_get xs i ≡ Some s → (i < length xs) × (take (i + 1) xs ≡ take i xs ++ s ∷ [])
take_next xs i s here =
    let low = slice_get_within xs i s here in
    (low, take_more xs i s low ∙ ap (λ x. take i xs ++ x ∷ []) (get_or_from_slice_get xs i s s here))

pub begins_row : (m : ℕ) (scripts : List (List Step)) (places : List ℕ) (events : List Event) (k : ℕ) (s : Step) (r : Reply)
    → IsBeginning m scripts places events → k ≤ m → length places ≡ m + 1
    → slice_get (slice_index_or scripts k []) (slice_index places k) ≡ Some s
    → IsBeginning m scripts (slice_set places k (slice_index places k + 1)) (events ++ event_of (scripted m k) s r ∷ [])
begins_row m scripts places events k s r was below spots here j within =
    let p = slice_index places k in
    let e : Event = event_of (scripted m k) s r in
    let next = take_next (slice_index_or scripts k []) p s here in
    let P : ℕ → Type 0 =
    λ q. (steps_of (scripted m j) (events ++ e ∷ []) ≡ take q (slice_index_or scripts j [])) × (q ≤ length (slice_index_or scripts j [])) in
    ⊎_elim
    (λ (is : j ≡ k).
    let Q : ℕ → Type 0 =
    λ i. (steps_of (scripted m i) (events ++ e ∷ []) ≡ take (slice_index (slice_set places k (p + 1)) i) (slice_index_or scripts i []))
    × (slice_index (slice_set places k (p + 1)) i ≤ length (slice_index_or scripts i [])) in
    let here' : slice_index (slice_set places k (p + 1)) k ≡ p + 1 = get_or-set_same places k (p + 1) 0 (omega arith) in
    subst Q (sym is) (rw here' (
      steps_push_same (scripted m k) events e (same_scripted m k) ∙ ap (λ l. l ++ s ∷ []) (was k below).0 ∙ sym next.1,
      omega arith,
    )))
    (λ (apart : j ≢ k).
    let there : slice_index (slice_set places k (p + 1)) j ≡ slice_index places j = get_or-set_other places k j (p + 1) 0 apart in
    subst P (sym there) (steps_push_other (scripted m j) events e (other_scripted m j k apart) ∙ (was j within).0, (was j within).1))
    (cases_eq j k)

pub begins_other : (m : ℕ) (scripts : List (List Step)) (places : List ℕ) (events : List Event) (a : Actor) (s : Step) (r : Reply)
    → IsBeginning m scripts places events → is_scripted a ≡ false → IsBeginning m scripts places (events ++ event_of a s r ∷ [])
begins_other m scripts places events a s r was background j within =
    (steps_push_other (scripted m j) events (event_of a s r) (not_scripted m j a background) ∙ (was j within).0, (was j within).1)
  where
    not_scripted : (m j : ℕ) (a : Actor) → is_scripted a ≡ false → same_actor (scripted m j) a ≡ false
    not_scripted m j (Mutator i) b = absurd (cc)
    not_scripted m j Collector b = absurd (cc)
    not_scripted m j a b = grind (arith, nat_tests)

-- what a step of the core gives: whatever the events lead to, they lead to it with one event more
abbrev pub Records : CoreState → List Event → CoreState → Event → Type 0
Records c es c' e = (config : Config) → RunsTo config es c → RunsTo config (es ++ e ∷ []) c'

-- one event more
keeps_event : (d : JournalState) (c : CoreState) (places : List ℕ) (a : Actor) (s : Step) (r : Reply) → Keeps d
    → Records d.core d.events c (event_of a s r) → c.config ≡ d.core.config
    → length places ≡ length d.places → IsBeginning (mutators_of d) d.scripts places (d.events ++ event_of a s r ∷ [])
    → IsOwn d.core.config a s
    → Keeps (record { core = c; scripts = d.scripts; places = places; events = d.events ++ event_of a s r ∷ [] })
keeps_event d c places a s r was runs same len begins own =
    let m : c.config.mutators ≡ mutators_of d = ap (λ x. x.mutators) same in
    let e : Event = event_of a s r in
    let Own : Config → Event → Type 0 = λ n x. IsOwn n x.actor x.step in
    record {
      runs = subst (λ (n : Config). RunsTo n (d.events ++ e ∷ []) c) (sym same) (runs d.core.config was.runs);
      begins = subst (λ (n : ℕ). IsBeginning n d.scripts places (d.events ++ e ∷ [])) (sym m) begins;
      own = subst (λ (n : Config). All (Own n) (d.events ++ e ∷ [])) (sym same)
          (All-append (Own d.core.config) d.events (e ∷ []) was.own
          (All-cons (Own d.core.config) e [] own (λ i x below. absurd (omega arith))));
      each_script = was.each_script ∙ ap (λ n. n + 1) (sym m);
      each_place = len ∙ was.each_place ∙ ap (λ n. n + 1) (sym m);
      lines = subst (λ (n : Config). (k : ℕ) → k ≤ n.mutators → All (IsScriptLine n k) (script_at d k)) (sym same) was.lines;
      few = rw m was.few;
    }

-- a line of a script is a step of its actor
own_line : (config : Config) (k : ℕ) (s : Step) → IsScriptLine config k s → IsOwn config (scripted config.mutators k) s
own_line config k s line = subst (λ (a : Actor). IsOwn config a s) line.1 (own s line.0)
  where
    own : (s : Step) → IsStep config s → IsOwn config (actor_of s) s
    own (steps.Mutator o) yet = (refl, yet)
    own (steps.Collector c) yet = yet

pub line_at : (d : JournalState) (k : ℕ) (s : Step) → Keeps d → k ≤ mutators_of d → next_at d k ≡ Some s → IsScriptLine d.core.config k s
line_at d k s was below next =
    let at = slice_get_within (script_at d k) (slice_index d.places k) s next in
    subst (IsScriptLine d.core.config k) (get_or_from_slice_get (script_at d k) (slice_index d.places k) s s next)
    (was.lines k below (slice_index d.places k) s at)

pub keeps_row : (d : JournalState) (c : CoreState) (k : ℕ) (s : Step) (r : Reply) → Keeps d → k ≤ mutators_of d → next_at d k ≡ Some s
    → Records d.core d.events c (event_of (scripted (mutators_of d) k) s r) → c.config ≡ d.core.config
    → Keeps (record {
      core = c;
      scripts = d.scripts;
      places = slice_set d.places k (slice_index d.places k + 1);
      events = d.events ++ event_of (scripted (mutators_of d) k) s r ∷ [];
    })
keeps_row d c k s r was below next step same =
    let own : IsOwn d.core.config (scripted (mutators_of d) k) s = own_line d.core.config k s (line_at d k s was below next) in
    keeps_event d c (slice_set d.places k (slice_index d.places k + 1)) (scripted (mutators_of d) k) s r was step same (simp length-set)
    (begins_row (mutators_of d) d.scripts d.places d.events k s r was.begins below was.each_place next) own

pub keeps_other : (d : JournalState) (c : CoreState) (a : Actor) (s : Step) (r : Reply) → Keeps d → IsCast (mutators_of d) a
    → is_scripted a ≡ false → next_step d a ≡ Some s → Records d.core d.events c (event_of a s r) → c.config ≡ d.core.config
    → Keeps (record { core = c; scripts = d.scripts; places = d.places; events = d.events ++ event_of a s r ∷ [] })
keeps_other d c a s r was cast background next step same =
    keeps_event d c d.places a s r was step same refl
    (begins_other (mutators_of d) d.scripts d.places d.events a s r was.begins background) (own_other d a s cast background next)
  where
    own_other : (d : JournalState) (a : Actor) (s : Step) → IsCast (mutators_of d) a → is_scripted a ≡ false
        → next_step d a ≡ Some s → IsOwn d.core.config a s
    own_other d (Mutator i) s cast b n = absurd (cc)
    own_other d Collector s cast b n = absurd (cc)
    own_other d (Marker i) s cast b n = (cast, marks d.core.marker.running s n)
      where
        marks : (b : Bool) (s : Step) → cond b (Some mark_4) None ≡ Some s → s ≡ mark_4
        marks true s n = cc
        marks false s n = absurd (cc)
    own_other d (Refiner i) s cast b n = (cast, refines (length d.core.cards.queue == 0) s n)
      where
        refines : (b : Bool) (s : Step) → cond b None (Some refine_2) ≡ Some s → s ≡ refine_2
        refines true s n = absurd (cc)
        refines false s n = cc

-- the scripted actor at a place takes the next line of its script
pub next_row : (d : JournalState) (k : ℕ)
    → (next_step d (scripted (mutators_of d) k) ≡ next_at d k)
    × (moved d (scripted (mutators_of d) k) ≡ slice_set d.places k (slice_index d.places k + 1))
    × (is_scripted (scripted (mutators_of d) k) ≡ true)
next_row d k =
    let P : Bool → Type 0 = λ b. (next_step d (cond b Collector (Mutator k)) ≡ next_at d k)
    × (moved d (cond b Collector (Mutator k)) ≡ slice_set d.places k (slice_index d.places k + 1))
    × (is_scripted (cond b Collector (Mutator k)) ≡ true) in
    ⊎_elim (λ (h : (eqb k (mutators_of d) ≡ true) × (k ≡ mutators_of d)).
    subst P (sym h.0) (ap (λ j. next_at d j) (sym h.1), ap (λ j. slice_set d.places j (slice_index d.places j + 1)) (sym h.1), refl))
    (λ (h : (eqb k (mutators_of d) ≡ false) × (k ≢ mutators_of d)). subst P (sym h.0) (refl, refl, refl)) (eqb_tells k (mutators_of d))

-- what the code read is the next line, or there is none
reads : {V : Type 0} (f : V → List Step) (xs : List V) (places : List ℕ) (k : ℕ) (v : V) (p : ℕ)
    → k < length xs → k < length places → p ≡ get_or places k p → v ≡ get_or xs k v
    → (get_or places k 0 ≡ p) × (get_or (map f xs) k [] ≡ f v)
reads {V} f xs places k v p row spot place script =
    (sym (get_or_default_zero places k p spot) ∙ sym place, get_or-map f xs k v [] row ∙ ap f (sym script))

pub next_is : {V : Type 0} (f : V → List Step) (xs : List V) (places : List ℕ) (k : ℕ) (v : V) (p : ℕ) (s : Step)
    → k < length xs → k < length places → p ≡ get_or places k p → v ≡ get_or xs k v → p < length (f v) → s ≡ get_or (f v) p s
    → slice_get (get_or (map f xs) k []) (get_or places k 0) ≡ Some s
next_is {V} f xs places k v p s row spot place script below step =
    let h = reads f xs places k v p row spot place script in
    rw (h.0, h.1) (slice_get-get_or (f v) p s below ∙ ap (λ (x : Step). Some x) (sym step))

pub none_is : {V : Type 0} (f : V → List Step) (xs : List V) (places : List ℕ) (k : ℕ) (v : V) (p : ℕ)
    → k < length xs → k < length places → p ≡ get_or places k p → v ≡ get_or xs k v → length (f v) ≤ p
    → slice_get (get_or (map f xs) k []) (get_or places k 0) ≡ None
none_is {V} f xs places k v p row spot place script over =
    let h = reads f xs places k v p row spot place script in
    rw (h.0, h.1) (slice_get_past (f v) p over)

-- each of the scripts that the code read is at its end just where each of the journal's is
pub each_ended : {V : Type 0} (f : V → List Step) (xs ys : List V) (places qs : List ℕ) (m : ℕ) (b : Bool) → ys ≡ xs
    → qs ≡ places → length (map f xs) ≡ m + 1 → (IsTrue b ↔ ((k : ℕ) → k < length ys → length (get_or (map f ys) k []) ≤ get_or qs k 0))
    → IsTrue b ↔ ((k : ℕ) → k ≤ m → length (get_or (map f xs) k []) ≤ get_or places k 0)
each_ended {V} f xs ys places qs m b same same' len is =
    let n : length xs ≡ m + 1 = sym (length-map xs f) ∙ len in
    let Q : List V × List ℕ → Type 0 = λ x. IsTrue b ↔ ((k : ℕ) → k < length x.0 → length (get_or (map f x.0) k []) ≤ get_or x.1 k 0) in
    let h : Q (xs, places) = subst Q (λ i. (same i, same' i)) is in
    (λ t k within. h.0 t k (omega arith), λ all. h.1 (λ k below. all k (omega arith)))

-- the whole turn of a scripted actor
pub row_turn : (d w : JournalState) (c : CoreState) (a : Actor) (k p : ℕ) (s : Step) (r : Reply) (events : List Event) → w ≡ d → Keeps w
    → k ≤ mutators_of d → a ≡ scripted (mutators_of d) k → next_at w k ≡ Some s → slice_index w.places k ≡ p
    → Records w.core w.events c (event_of a s r) → Does s r w.core c → c.config ≡ w.core.config → events ≡ w.events ++ event_of a s r ∷ []
    → Keeps (record { core = c; scripts = w.scripts; places = slice_set w.places k (p + 1); events = events })
    × TakesTurn d (record { core = c; scripts = w.scripts; places = slice_set w.places k (p + 1); events = events }) a
row_turn d w c a k p s r events same was below actor next place step does config pushed =
    let Goal : JournalState → Actor → ℕ → List Event → Type 0 = λ d a p es.
    Keeps (record { core = c; scripts = w.scripts; places = slice_set w.places k (p + 1); events = es })
    × TakesTurn d (record { core = c; scripts = w.scripts; places = slice_set w.places k (p + 1); events = es }) a in
    let actor' : a ≡ scripted (mutators_of w) k = actor ∙ ap (λ (x : JournalState). scripted (mutators_of x) k) (sym same) in
    let below' : k ≤ mutators_of w = rw same below in
    let a' : Actor = scripted (mutators_of w) k in
    let step' : Records w.core w.events c (event_of a' s r) =
    subst (λ (x : Actor). Records w.core w.events c (event_of x s r)) actor' step in
    let h = next_row w k in
    let here : Goal w a' (slice_index w.places k) (w.events ++ event_of a' s r ∷ []) = (
      keeps_row w c k s r was below' next step' config,
      record { step = s; reply = r; next = h.0 ∙ next; does = does; event = refl; place = sym h.1 },
    ) in
    let pushed' : w.events ++ event_of a' s r ∷ [] ≡ events =
    ap (λ (x : Actor). w.events ++ event_of x s r ∷ []) (sym actor') ∙ sym pushed in
    subst (λ (x : JournalState × Actor × ℕ × List Event). Goal x.0 x.1 x.2 x.3) (λ i. (same i, sym actor' i, place i, pushed' i)) here

-- the whole turn of a background actor
pub other_turn : (d w : JournalState) (c : CoreState) (a : Actor) (s : Step) (r : Reply) (events : List Event) → w ≡ d → Keeps w
    → IsCast (mutators_of d) a → is_scripted a ≡ false → next_step d a ≡ Some s
    → Records w.core w.events c (event_of a s r) → Does s r w.core c → c.config ≡ w.core.config → events ≡ w.events ++ event_of a s r ∷ []
    → Keeps (record { core = c; scripts = w.scripts; places = w.places; events = events })
    × TakesTurn d (record { core = c; scripts = w.scripts; places = w.places; events = events }) a
other_turn d w c a s r events same was cast background next step does config pushed =
    let Goal : JournalState → List Event → Type 0 = λ d es.
    Keeps (record { core = c; scripts = w.scripts; places = w.places; events = es })
    × TakesTurn d (record { core = c; scripts = w.scripts; places = w.places; events = es }) a in
    let next' : next_step w a ≡ Some s = ap (λ (x : JournalState). next_step x a) same ∙ next in
    let cast' : IsCast (mutators_of w) a = subst (λ (x : JournalState). IsCast (mutators_of x) a) (sym same) cast in
    let here : Goal w (w.events ++ event_of a s r ∷ []) = (
      keeps_other w c a s r was cast' background next' step config,
      record { step = s; reply = r; next = next'; does = does; event = refl; place = stays w a background },
    ) in
    subst (λ (x : JournalState × List Event). Goal x.0 x.1) (λ i. (same i, sym pushed i)) here
  where
    stays : (d : JournalState) (a : Actor) → is_scripted a ≡ false → d.places ≡ moved d a
    stays d (Mutator i) b = absurd (cc)
    stays d Collector b = absurd (cc)
    stays d _ b = refl

pub place_is : (places : List ℕ) (k p : ℕ) → k < length places → p ≡ get_or places k p → get_or places k 0 ≡ p
place_is places k p spot place = sym (get_or_default_zero places k p spot) ∙ sym place

-- no line is left
pub none_turn : (d w : JournalState) (a : Actor) (k : ℕ) → w ≡ d → a ≡ scripted (mutators_of d) k → next_at w k ≡ None
    → (is_scripted a ≡ true) × (next_step d a ≡ None) × (d ≡ d)
none_turn d w a k same actor none =
    let h = next_row d k in
    let P : Actor → Type 0 = λ a. (is_scripted a ≡ true) × (next_step d a ≡ None) × (d ≡ d) in
    subst P (sym actor) (h.2, h.0 ∙ ap (λ (x : JournalState). next_at x k) (sym same) ∙ none, refl)
