-- The search for reachable names: what is flagged is reachable, each flagged place is looked at or waits, and in the end
-- nothing waits.
use Rattle.std.proofs.Common.{◌≡◌, ◌+◌, ◌-◌, ◌<◌, ◌≤◌, ◌⊎◌, ◌∷◌, ◌++◌, ◌∙◌}
use Rattle.std.proofs.Common.{ℕ, zero, suc, Bool, true, false, cond, List, [], length, take, Option, Some, None, Result, Ok, Err, refl, sym}
use Rattle.std.proofs.Common.{ap, subst, inl, inr, arith}
use Rattle.std.specs.Prelude.{slice_get, slice_set, slice_index_or, replicate, reverse, IfOk}
use Rattle.std.proofs.Math.Dec.{leb}
use Rattle.graph_runs.proofs.SinceLaws.{no_pair}
use Rattle.std.proofs.lemmas.Bool.{cases_lt, cases_eq, leb-true, leb-false, le-leb}
use Rattle.std.proofs.lemmas.Option.{get_or_from_slice_get, slice_get_past, slice_get_within}
use Rattle.heap_model.specs.Graph.{Graph, Object, object_named, next_name, IsReachable, FromRoot, FromObject}
use Rattle.heap_model.specs.Weak.{AreReached, Clears, cleared_graph}
use Rattle.heap_model.proofs.Cleared.{cleared_by}
use Rattle.std.proofs.lemmas.List.{length-replicate, reverse-append, reverse-reverse}
use Rattle.heap_model.proofs.Lists.{get_kept-set, get-set_same, get-set_other, get-push_last, get-push_cases, get-append_cases}
use Rattle.heap_model.proofs.Lists.{get-append_left, get-append_right, length-set, length-push}
use Rattle.heap_model.proofs.Changed.{named_at, at_least}
use Rattle.graph_runs.specs.State.{State, AtRoot, AtField, IsNameOf, HoldsNames, HaveNoPairs, IsEarlier, ForSnapshot, IsSoundState}
use Rattle.graph_runs.specs.Run.{ClearsBy}
use Rattle.object_graph.specs.Reached.{Search, started, flag_of, flagged_at, found, all_found, looked_in, looked_at, looked, searched}

-- how many flags are set
abbrev pub count_set : List Bool → ℕ
count_set [] = 0
count_set (true ∷ bs) = suc (count_set bs)
count_set (false ∷ bs) = count_set bs

count_bound : (bs : List Bool) → count_set bs ≤ length bs
count_bound [] = omega arith
count_bound (true ∷ bs) = let k = count_bound bs in omega arith
count_bound (false ∷ bs) = let k = count_bound bs in omega arith

count_more : (bs : List Bool) (p : ℕ) → slice_get bs p ≡ Some false → count_set (slice_set bs p true) ≡ suc (count_set bs)
count_more [] p e = cc
count_more (true ∷ bs) zero e = cc
count_more (false ∷ bs) zero e = refl
count_more (true ∷ bs) (suc p) e = ap suc (count_more bs p e)
count_more (false ∷ bs) (suc p) e = count_more bs p e

count_none : (n : ℕ) → count_set (replicate n false) ≡ 0
count_none zero = refl
count_none (suc n) = count_none n

get_none : (n p : ℕ) → slice_get (replicate n false) p ≡ Some true → ⊥
get_none zero p e = cc
get_none (suc n) zero e = cc
get_none (suc n) (suc p) e = get_none n p e

there_is : {A : Type 0} (xs : List A) (i : ℕ) → i < length xs → (x : A) × (slice_get xs i ≡ Some x)
there_is [] i k = absurd (omega arith)
there_is (x ∷ xs) zero k = (x, refl)
there_is (x ∷ xs) (suc i) k = there_is xs i (omega arith)

-- the name's flag is there and set
abbrev pub IsOn : ℕ → List Bool → ℕ → Type 0
IsOn first flags n = (first ≤ n) × (slice_get flags (n - first) ≡ Some true)

abbrev pub IsWaiting : List ℕ → ℕ → ℕ → Type 0
IsWaiting queue i p = (k : ℕ) × (i ≤ k) × (slice_get queue k ≡ Some p)

-- every pointer of the object in a place is flagged
abbrev pub IsLookedAt : Graph → List Bool → ℕ → Type 0
IsLookedAt g flags p = (x : Object) (j n : ℕ) → slice_get g.objects p ≡ Some x → slice_get x.pointers j ≡ Some (Some n)
    → IsOn g.first_name flags n

-- the search has looked at the first i places of its queue
pub record Grows (g : Graph) (s : Search) (i : ℕ) : Type 0 where
  pub first : s.first_name ≡ g.first_name
  pub size : length s.flags ≡ length g.objects
  pub count : length s.queue ≡ count_set s.flags
  pub at : i ≤ length s.queue
  pub only : (p : ℕ) → slice_get s.flags p ≡ Some true → IsReachable g (g.first_name + p)
  pub waits : (p : ℕ) → slice_get s.flags p ≡ Some true → IsLookedAt g s.flags p ⊎ IsWaiting s.queue i p
  pub queued : (k p : ℕ) → slice_get s.queue k ≡ Some p → slice_get s.flags p ≡ Some true

-- flags that are set stay set
abbrev pub Keeps : Search → Search → Type 0
Keeps s t = (p : ℕ) → slice_get s.flags p ≡ Some true → slice_get t.flags p ≡ Some true

pub begins : (g : Graph) → Grows g (record { first_name = g.first_name; flags = replicate (length g.objects) false; queue = [] }) 0
begins g = record {
  first = refl;
  size = length-replicate (length g.objects) false;
  count = sym (count_none (length g.objects));
  at = omega arith;
  only = λ p e. absurd (get_none (length g.objects) p e);
  waits = λ p e. absurd (get_none (length g.objects) p e);
  queued = λ k p e. cc;
}

abbrev set_at : Search → ℕ → Search
set_at s p = record s { flags = slice_set s.flags p true; queue = s.queue ++ p ∷ [] }

keeps_set : (s : Search) (p : ℕ) → slice_get s.flags p ≡ Some false → Keeps s (set_at s p)
keeps_set s p e q f = elim (get_kept-set s.flags p q true true f) [
  | inl same ↦ absurd (let e1 = ap (slice_get s.flags) same in cc)
  | inr k ↦ k
]

set_grows : (g : Graph) (s : Search) (i p : ℕ) → Grows g s i → slice_get s.flags p ≡ Some false → IsReachable g (g.first_name + p)
    → Grows g (set_at s p) i
set_grows g s i p k e r =
    let at = k.at in
    let more = length-push s.queue p in
    record {
      first = k.first;
      size = length-set s.flags p true ∙ k.size;
      count = length-push s.queue p ∙ ap suc k.count ∙ sym (count_more s.flags p e);
      at = omega arith;
      only = λ q f. elim (cases_eq q p) [
        | inl same ↦ subst (λ a. IsReachable g (g.first_name + a)) (sym same) r
        | inr ne ↦ k.only q (sym (get-set_other s.flags p q true (λ b. ne (sym b))) ∙ f)
      ];
      waits = λ q f. elim (cases_eq q p) [
        | inl same ↦ inr (
          length s.queue,
          at,
          subst (λ a. slice_get (s.queue ++ p ∷ []) (length s.queue) ≡ Some a) (sym same) (get-push_last s.queue p),
        )
        | inr ne ↦ elim (k.waits q (sym (get-set_other s.flags p q true (λ b. ne (sym b))) ∙ f)) [
          | inl done ↦ inl (λ x j n at is. ((done x j n at is).0, keeps_set s p e (n - g.first_name) (done x j n at is).1))
          | inr w ↦ inr (w.0, w.1, get-append_left s.queue (p ∷ []) w.0 q w.2)
        ]
      ];
      queued = λ c q f. elim (get-push_cases s.queue p q c f) [
        | inl a ↦ keeps_set s p e q (k.queued c q a)
        | inr a ↦ subst (λ b. slice_get (slice_set s.flags p true) b ≡ Some true) (sym a.1) (get-set_same s.flags p true false e)
      ];
    }

-- a name that is found is flagged from then on, and what was flagged stays so
pub record Finds (g : Graph) (s t : Search) (i : ℕ) : Type 0 where
  pub grows : Grows g t i
  pub keeps : Keeps s t

find_place : (g : Graph) (s : Search) (i p : ℕ) (f : Option Bool) → slice_get s.flags p ≡ f → p < length s.flags → Grows g s i
    → IsReachable g (g.first_name + p)
    → Finds g s (flagged_at s p f) i × (slice_get (flagged_at s p f).flags p ≡ Some true)
find_place g s i p None e k grows r = let there = there_is s.flags p k in let e1 = there.1 in absurd cc
find_place g s i p (Some true) e k grows r = (record { grows = grows; keeps = λ q f. f }, e)
find_place g s i p (Some false) e k grows r =
    (record { grows = set_grows g s i p grows e r; keeps = keeps_set s p e }, get-set_same s.flags p true false e)

find_on : (g : Graph) (s : Search) (i n : ℕ) (b : Bool) → leb s.first_name n ≡ b → IsNameOf g n → Grows g s i → IsReachable g n
    → Finds g s (cond b (flagged_at s (n - s.first_name) (slice_get s.flags (n - s.first_name))) s) i
    × IsOn g.first_name (cond b (flagged_at s (n - s.first_name) (slice_get s.flags (n - s.first_name))) s).flags n
find_on g s i n false e name grows r = let k = leb-false s.first_name n e in let f = grows.first in let l = name.0 in absurd (omega arith)
find_on g s i n true e name grows r =
    let f = grows.first in
    let size = grows.size in
    let low = name.0 in
    let high = name.1 in
    let here : g.first_name + (n - s.first_name) ≡ n = omega arith in
    let there : n - s.first_name < length s.flags = omega arith in
    let found = find_place g s i (n - s.first_name) (slice_get s.flags (n - s.first_name)) refl there grows
    (subst (IsReachable g) (sym here) r) in (
      found.0,
      (
        low,
        subst (λ a. slice_get (flagged_at s (n - s.first_name) (slice_get s.flags (n - s.first_name))).flags
            (n - a) ≡ Some true) f found.1,
      ),
    )

-- the names of a list are all found
pub record FindsAll (g : Graph) (s t : Search) (i : ℕ) (vs : List (Option ℕ)) : Type 0 where
  pub finds : Finds g s t i
  pub all : (j n : ℕ) → slice_get vs j ≡ Some (Some n) → IsOn g.first_name t.flags n

pub find_all : (g : Graph) (s : Search) (i : ℕ) (vs : List (Option ℕ)) → Grows g s i
    → ((j n : ℕ) → slice_get vs j ≡ Some (Some n) → IsNameOf g n × IsReachable g n) → FindsAll g s (all_found s vs) i vs
find_all g s i [] grows each = record { finds = record { grows = grows; keeps = λ p e. e }; all = λ j n e. cc }
find_all g s i (None ∷ vs) grows each =
    let rest = find_all g s i vs grows (λ j n e. each (suc j) n e) in
    record { finds = rest.finds; all = λ j n e. later j n e rest }
  where
    later : (j n : ℕ) → slice_get (None ∷ vs) j ≡ Some (Some n) → FindsAll g s (all_found s vs) i vs
        → IsOn g.first_name (all_found s vs).flags n
    later zero n e rest = cc
    later (suc j) n e rest = rest.all j n e
find_all g s i (Some a ∷ vs) grows each =
    let now = find_on g s i a (leb s.first_name a) refl (each 0 a refl).0 grows (each 0 a refl).1 in
    let rest = find_all g (found s (Some a)) i vs now.0.grows (λ j n e. each (suc j) n e) in
    record {
      finds = record { grows = rest.finds.grows; keeps = λ p e. rest.finds.keeps p (now.0.keeps p e) };
      all = λ j n e. later j n e now.1 rest;
    }
  where
    later : (j n : ℕ) → slice_get (Some a ∷ vs) j ≡ Some (Some n) → IsOn g.first_name (found s (Some a)).flags a
        → FindsAll g (found s (Some a)) (all_found (found s (Some a)) vs) i vs → IsOn g.first_name (all_found (found s (Some a)) vs).flags n
    later zero n e on rest = let same : a ≡ n = cc in
        subst (IsOn g.first_name (all_found (found s (Some a)) vs).flags) same (on.0, rest.finds.keeps (a - g.first_name) on.1)
    later (suc j) n e on rest = rest.all j n e

-- what the pointers of a flagged place's object name
place_name : (g : Graph) → HoldsNames g → (s : Search) (i p : ℕ) (x : Object) → Grows g s i → slice_get s.flags p ≡ Some true
    → slice_get g.objects p ≡ Some x
    → (j n : ℕ) → slice_get x.pointers j ≡ Some (Some n) → IsNameOf g n × IsReachable g n
place_name g holds s i p x grows on at j n e =
    let low : g.first_name ≤ g.first_name + p = omega arith in
    let same : g.first_name + p - g.first_name ≡ p = omega arith in
    let named : object_named g (g.first_name + p) ≡ Some x = named_at g (g.first_name + p) low ∙ ap (slice_get g.objects) same ∙ at in (
      holds n (AtField p j x at (get-append_left x.pointers (x.weaks ++ x.held) j (Some n) e)),
      FromObject (g.first_name + p) n j x (grows.only p on) named e,
    )

-- a look at the i-th place of the queue
pub look_grows : (g : Graph) → HoldsNames g → (s : Search) (i p : ℕ) (x : Object) → Grows g s i → slice_get s.queue i ≡ Some p
    → slice_get g.objects p ≡ Some x
    → Grows g (all_found s x.pointers) (suc i)
look_grows g holds s i p x grows next at =
    let on = grows.queued i p next in
    let done = find_all g s i x.pointers grows (place_name g holds s i p x grows on at) in
    let after = done.finds.grows in
    record {
      first = after.first;
      size = after.size;
      count = after.count;
      only = after.only;
      at = (let bound = slice_get_within s.queue i p next in let q = prefix_kept s x.pointers i p next in
          slice_get_within (all_found s x.pointers).queue i p q);
      waits = λ q f. elim (after.waits q f) [
        | inl d ↦ inl d
        | inr w ↦ elim (cases_eq w.0 i) [
          | inl same ↦
              let here : q ≡ p = (let e1 = w.2 in let e2 = prefix_kept s x.pointers i p next in
              let e3 = ap (slice_get (all_found s x.pointers).queue) same in let e4 : Some q ≡ Some p = sym e1 ∙ e3 ∙ e2 in cc) in
              inl (λ y j n aty is. done.all j n
              (let e5 : slice_get g.objects p ≡ Some y = ap (slice_get g.objects) (sym here) ∙ aty in let e6 : y ≡ x = cc in
              ap (λ (z : Object). slice_get z.pointers j) (sym e6) ∙ is))
          | inr ne ↦ inr (w.0, (let low = w.1 in omega arith), w.2)
        ]
      ];
      queued = after.queued;
    }
  where
    flagged_kept : (s : Search) (p : ℕ) (f : Option Bool) (k q : ℕ) → slice_get s.queue k ≡ Some q
        → slice_get (flagged_at s p f).queue k ≡ Some q
    flagged_kept s p None k q e = e
    flagged_kept s p (Some true) k q e = e
    flagged_kept s p (Some false) k q e = get-append_left s.queue (p ∷ []) k q e

    on_kept : (s : Search) (p : ℕ) (f : Option Bool) (b : Bool) (k q : ℕ) → slice_get s.queue k ≡ Some q
        → slice_get (cond b (flagged_at s p f) s).queue k ≡ Some q
    on_kept s p f true k q e = flagged_kept s p f k q e
    on_kept s p f false k q e = e

    prefix_kept : (s : Search) (vs : List (Option ℕ)) (k q : ℕ) → slice_get s.queue k ≡ Some q → slice_get (all_found s vs).queue k ≡ Some q
    prefix_kept s [] k q e = e
    prefix_kept s (None ∷ vs) k q e = prefix_kept s vs k q e
    prefix_kept s (Some n ∷ vs) k q e = prefix_kept (found s (Some n)) vs k q
        (on_kept s (n - s.first_name) (slice_get s.flags (n - s.first_name)) (leb s.first_name n) k q e)

-- after i looks: all of them were at places of the queue, or the queue ended before
pub record Looked (g : Graph) (s : Search) (i : ℕ) : Type 0 where
  pub to : ℕ
  pub grows : Grows g s to
  pub why : (to ≡ i) ⊎ ((to ≡ length s.queue) × (to ≤ i))

pub looked_on : (g : Graph) → HoldsNames g → (s : Search) (i p : ℕ) (x : Object) → Looked g s i → slice_get s.queue i ≡ Some p
    → slice_get g.objects p ≡ Some x → Looked g (all_found s x.pointers) (suc i)
looked_on g holds s i p x l next at = elim l.why [
  | inl same ↦ record { to = suc i; grows = look_grows g holds s i p x (subst (Grows g s) same l.grows) next at; why = inl refl }
  | inr past ↦ absurd (let k = slice_get_within s.queue i p next in let a = past.0 in let b = past.1 in omega arith)
]

pub looked_past : (g : Graph) (s : Search) (i : ℕ) → Looked g s i → slice_get s.queue i ≡ None → Looked g s (suc i)
looked_past g s i l none =
    let past : length s.queue ≤ i = elim (cases_lt i (length s.queue)) [
      | inl k ↦ (let t = there_is s.queue i k in let e = t.1 in absurd cc)
      | inr k ↦ k
    ] in
    let at = l.grows.at in
    elim l.why [
      | inl same ↦ record { to = l.to; grows = l.grows; why = inr ((omega arith), (omega arith)) }
      | inr q ↦ record { to = l.to; grows = l.grows; why = inr (q.0, (let b = q.1 in omega arith)) }
    ]

-- after as many looks as there are objects, nothing waits
pub looked_all : (g : Graph) (s : Search) → Looked g s (length g.objects) → (p : ℕ) → slice_get s.flags p ≡ Some true
    → IsLookedAt g s.flags p
looked_all g s l p e =
    let bound = count_bound s.flags in
    let count = l.grows.count in
    let size = l.grows.size in
    let all : length s.queue ≤ l.to = elim l.why [ inl a ↦ omega arith | inr a ↦ (let b = a.0 in omega arith) ] in
    elim (l.grows.waits p e) [
      | inl done ↦ done
      | inr w ↦ absurd (let k = slice_get_within s.queue w.0 p w.2 in let low = w.1 in omega arith)
    ]

on_flag : (first : ℕ) (flags : List Bool) (n : ℕ) → IsOn first flags n → flag_of first flags n ≡ true
on_flag first flags n on = let e1 = le-leb first n on.0 in rw e1 (get_or_from_slice_get flags (n - first) true false on.1)

flag_on : (first : ℕ) (flags : List Bool) (n : ℕ) → flag_of first flags n ≡ true → IsOn first flags n
flag_on first flags n e = flag_cases (leb first n) refl e
  where
    read_on : (flags : List Bool) (p : ℕ) → slice_index_or flags p false ≡ true → slice_get flags p ≡ Some true
    read_on [] p e = cc
    read_on (b ∷ flags) zero e = ap Some e
    read_on (b ∷ flags) (suc p) e = read_on flags p e

    flag_cases : (b : Bool) → leb first n ≡ b → cond b (slice_index_or flags (n - first) false) false ≡ true → IsOn first flags n
    flag_cases true q e = (leb-true first n q, read_on flags (n - first) e)
    flag_cases false q e = cc

-- so the flags tell what is reachable
pub flags_reached : (g : Graph) (s : Search) → HaveNoPairs g → Looked g s (length g.objects)
    → ((j n : ℕ) → slice_get g.roots j ≡ Some (Some n) → IsOn g.first_name s.flags n) → AreReached g (flag_of g.first_name s.flags)
flags_reached g s none l roots = record {
  roots = λ j n e. on_flag g.first_name s.flags n (roots j n e);
  pointers = λ m n i o fm named e.
      let on = flag_on g.first_name s.flags m fm in
      let at = sym (named_at g m (at_least g m o named)) ∙ named in
      on_flag g.first_name s.flags n (looked_all g s l (m - g.first_name) on.1 o i n at e);
  held = λ m k n i fm fk p. absurd (no_pair g none m i k n p);
  only = λ n f.
      let on = flag_on g.first_name s.flags n f in
      let low = on.0 in
      let same : g.first_name + (n - g.first_name) ≡ n = omega arith in
      subst (IsReachable g) same (l.grows.only (n - g.first_name) on.1);
}

flag_keeps : (s : Search) (p : ℕ) (f : Option Bool) → slice_get s.flags p ≡ f → Keeps s (flagged_at s p f)
flag_keeps s p None e q on = on
flag_keeps s p (Some true) e q on = on
flag_keeps s p (Some false) e q on = keeps_set s p e q on

found_keeps : (s : Search) (v : Option ℕ) → Keeps s (found s v)
found_keeps s None q on = on
found_keeps s (Some n) q on = by_bool (leb s.first_name n)
  where
    by_bool : (b : Bool) → slice_get (cond b (flagged_at s (n - s.first_name) (slice_get s.flags (n - s.first_name))) s).flags q ≡ Some true
    by_bool true = flag_keeps s (n - s.first_name) (slice_get s.flags (n - s.first_name)) refl q on
    by_bool false = on

all_keeps : (s : Search) (vs : List (Option ℕ)) → Keeps s (all_found s vs)
all_keeps s [] q on = on
all_keeps s (v ∷ vs) q on = all_keeps (found s v) vs q (found_keeps s v q on)

looked_keeps : (s : Search) (objects : List Object) (o : Option ℕ) → Keeps s (looked_at s objects o)
looked_keeps s objects None q on = on
looked_keeps s objects (Some p) q on = inside (slice_get objects p)
  where
    inside : (x : Option Object) → slice_get (looked_in s x).flags q ≡ Some true
    inside None = on
    inside (Some x) = all_keeps s x.pointers q on

looked_by : (g : Graph) → HoldsNames g → (s : Search) (i : ℕ) → Looked g s i → (o : Option ℕ) → slice_get s.queue i ≡ o
    → Looked g (looked_at s g.objects o) (suc i)
looked_by g holds s i l None e = looked_past g s i l e
looked_by g holds s i l (Some p) e = inside (slice_get g.objects p) refl
  where
    inside : (x : Option Object) → slice_get g.objects p ≡ x → Looked g (looked_in s x) (suc i)
    inside None none = absurd (
        let k = slice_get_within s.flags p true (l.grows.queued i p e) in
        let size = l.grows.size in
        let t = there_is g.objects p (omega arith) in
        let e1 = t.1 in cc)
    inside (Some x) at = looked_on g holds s i p x l e at

searched_looked : (g : Graph) → HoldsNames g → (s : Search) → Looked g s 0 → (k : ℕ) → Looked g (searched s g.objects k) k
searched_looked g holds s l zero = l
searched_looked g holds s l (suc k) = looked_by g holds (searched s g.objects k) k (searched_looked g holds s l k)
    (slice_get (searched s g.objects k).queue k) refl

searched_keeps : (s : Search) (objects : List Object) (k : ℕ) → Keeps s (searched s objects k)
searched_keeps s objects zero q on = on
searched_keeps s objects (suc k) q on = looked_keeps (searched s objects k) objects (slice_get (searched s objects k).queue k) q
    (searched_keeps s objects k q on)

-- after the queue's end no look changes anything
pub searched_past : (s : Search) (objects : List Object) (i k : ℕ) → i ≤ k → length (searched s objects i).queue ≤ i
    → searched s objects k ≡ searched s objects i
searched_past s objects i zero within past = let e : 0 ≡ i = omega arith in ap (λ (n : ℕ). searched s objects n) e
searched_past s objects i (suc k) within past = elim (cases_lt k i) [
  | inl low ↦ (let e : suc k ≡ i = omega arith in ap (λ (n : ℕ). searched s objects n) e)
  | inr high ↦ (
      let e = searched_past s objects i k high past in
      ap (λ (t : Search). looked t objects k) e
      ∙ ap (λ (place : Option ℕ). looked_at (searched s objects i) objects place)
      (slice_get_past (searched s objects i).queue k (omega arith)))
]

-- a list and the same backwards have the same elements
in_reverse : (ts : List (Option ℕ)) (j : ℕ) (v : Option ℕ) → slice_get (reverse ts) j ≡ Some v → (i : ℕ) × (slice_get ts i ≡ Some v)
in_reverse [] j v e = cc
in_reverse (t ∷ ts) j v e =
    let f : slice_get (reverse ts ++ t ∷ []) j ≡ Some v =
    ap (λ (l : List (Option ℕ)). slice_get l j) (sym (reverse-append (t ∷ []) ts)) ∙ e in
    elim (get-push_cases (reverse ts) t v j f) [
      | inl q ↦ (let r = in_reverse ts j v q in (suc r.0, r.1))
      | inr q ↦ (0, ap Some (sym q.1))
    ]

of_reverse : (ts : List (Option ℕ)) (j : ℕ) (v : Option ℕ) → slice_get ts j ≡ Some v → (i : ℕ) × (slice_get (reverse ts) i ≡ Some v)
of_reverse ts j v e = in_reverse (reverse ts) j v (ap (λ (l : List (Option ℕ)). slice_get l j) (reverse-reverse ts) ∙ e)

-- the search from the touched names and the graph's roots finds what is reachable from them
search_reached : (g : Graph) (ts : List (Option ℕ)) (flags : List Bool) → HoldsNames (record g { roots = reverse ts ++ g.roots })
    → HaveNoPairs g
    → flags ≡ (searched (all_found (all_found (started g) ts) g.roots) g.objects (length g.objects)).flags
    → AreReached (record g { roots = reverse ts ++ g.roots }) (flag_of g.first_name flags)
search_reached g ts flags holds none is = subst (λ (l : List Bool). AreReached s (flag_of g.first_name l)) (sym is)
    (flags_reached s last none
    (searched_looked s holds second (record { to = 0; grows = rest.finds.grows; why = inl refl }) (length g.objects)) roots_on)
  where
    s : Graph
    s = record g { roots = reverse ts ++ g.roots }

    from_root : (j n : ℕ) → slice_get s.roots j ≡ Some (Some n) → IsNameOf s n × IsReachable s n
    from_root j n e = (holds n (AtRoot j e), FromRoot j n e)

    some : FindsAll s (started g) (all_found (started g) ts) 0 ts
    some = find_all s (started g) 0 ts (begins s)
        (λ j n e. let r = of_reverse ts j (Some n) e in from_root r.0 n (get-append_left (reverse ts) g.roots r.0 (Some n) r.1))

    second : Search
    second = all_found (all_found (started g) ts) g.roots

    rest : FindsAll s (all_found (started g) ts) second 0 g.roots
    rest = find_all s (all_found (started g) ts) 0 g.roots some.finds.grows
        (λ j n e. let r = get-append_right (reverse ts) g.roots j (Some n) e in from_root r.0 n r.1)

    last : Search
    last = searched second g.objects (length g.objects)

    on_last : (n : ℕ) → IsOn g.first_name second.flags n → IsOn g.first_name last.flags n
    on_last n on = (on.0, searched_keeps second g.objects (length g.objects) (n - g.first_name) on.1)

    roots_on : (j n : ℕ) → slice_get s.roots j ≡ Some (Some n) → IsOn g.first_name last.flags n
    roots_on j n e = elim (get-append_cases (reverse ts) g.roots j (Some n) e) [
      | inl q ↦ (let r = in_reverse ts j (Some n) q in let on = some.all r.0 n r.1 in
          on_last n (on.0, rest.finds.keeps (n - g.first_name) on.1))
      | inr q ↦ on_last n (rest.all q.0 n q.1)
    ]

pub view_reached : (g view : Graph) (ts : List (Option ℕ)) (flags : List Bool) → record g { roots = reverse ts ++ g.roots } ≡ view
    → HoldsNames view → HaveNoPairs view
    → flags ≡ (searched (all_found (all_found (started g) ts) g.roots) g.objects (length g.objects)).flags
    → AreReached view (flag_of view.first_name flags)
view_reached g view ts flags same holds none is =
    subst (λ (v : Graph). AreReached v (flag_of v.first_name flags)) same (search_reached g ts flags (subst HoldsNames (sym same) holds)
    (subst HaveNoPairs (sym same) none) is)

-- the loop over a list of names
found_upto : (s : Search) (vs : List (Option ℕ)) (i : ℕ) (t u : Search) → i < length vs → t ≡ all_found s (take i vs)
    → u ≡ found t (slice_index_or vs i None) → u ≡ all_found s (take (suc i) vs)
found_upto s [] i t u k e f = absurd (omega arith)
found_upto s (v ∷ vs) zero t u k e f = f ∙ ap (λ (x : Search). found x v) e
found_upto s (v ∷ vs) (suc i) t u k e f = found_upto (found s v) vs i t u (omega arith) e f

pub found_more : (s : Search) (vs : List (Option ℕ)) (i : ℕ) (t u : Search) → i < length vs → t ≡ all_found s (take i vs)
    → u ≡ found t (slice_index_or vs i None) → u ≡ all_found s (take (i + 1) vs)
found_more s vs i t u k e f = let next : suc i ≡ i + 1 = omega arith in
    subst (λ (j : ℕ). u ≡ all_found s (take j vs)) next (found_upto s vs i t u k e f)

-- clearing by such flags is what the end of marking does
pub cleared_by_flags : (st : State) (s g new : Graph) (flags : List Bool) (limit : ℕ) → IsSoundState st → st.snapshot ≡ Some s
    → g ≡ st.graph
    → AreReached s (flag_of s.first_name flags) → limit ≡ next_name s → new ≡ cleared_graph (flag_of g.first_name flags) limit g
    → ClearsBy st.snapshot st.graph new
cleared_by_flags st s g new flags limit sound is same reached l e =
    let earlier : ForSnapshot (Some s) (λ t. IsEarlier t st.graph) =
    subst (λ (o : Option Graph). ForSnapshot o (λ t. IsEarlier t st.graph)) is sound.snapshot in
    let clears : Clears s g (cleared_graph (flag_of s.first_name flags) (next_name s) g) =
    cleared_by s (flag_of s.first_name flags) reached g in
    let first : s.first_name ≡ g.first_name = earlier.first_name ∙ ap (λ (x : Graph). x.first_name) (sym same) in
    let there : Clears s g new = subst (Clears s g)
    (sym (e ∙ ap (λ (k : ℕ). cleared_graph (flag_of g.first_name flags) k g) l
    ∙ ap (λ (k : ℕ). cleared_graph (flag_of k flags) (next_name s) g) (sym first))) clears in
    subst (λ (o : Option Graph). ClearsBy o st.graph new) (sym is) (subst (λ (x : Graph). Clears s x new) same there)

-- the same of what a call answered
pub if_reached : {V E : Type 0} (r : Result V E) (items : V → List Bool) (g view : Graph) (ts others : List (Option ℕ))
    → record g { roots = reverse ts ++ g.roots } ≡ view → HoldsNames view → HaveNoPairs view → others ≡ ts
    → IfOk r (λ v. items v ≡ (searched (all_found (all_found (started g) others) g.roots) g.objects (length g.objects)).flags)
    → IfOk r (λ v. AreReached view (flag_of view.first_name (items v)))
if_reached (Ok v) items g view ts others same holds none given is =
    view_reached g view ts (items v) same holds none
    (is ∙ ap (λ (l : List (Option ℕ)).
    (searched (all_found (all_found (started g) l) g.roots) g.objects (length g.objects)).flags) given)
if_reached (Err e) items g view ts others same holds none given is = tt
