-- Ways, level by level.
use Rattle.std.proofs.Common.{◌≡◌, ◌∙◌, ℕ, zero, suc, ◌+◌, ◌-◌, ◌<◌, ◌≤◌, List, [], ◌∷◌, ◌++◌, Option, Some, None, length, take, map}
use Rattle.std.proofs.Common.{refl, sym, ap, subst, arith, inl, inr, append_assoc}
use Rattle.std.specs.Prelude.{slice_get, slice_set}
use Rattle.std.proofs.lemmas.Bool.{cases_lt}
use Rattle.std.proofs.lemmas.List.{append-nil, length-map, length-take-le}
use Rattle.step_core.specs.Stands.{CoreState}
use Rattle.heap_walk.specs.Paths.{HoldsByRoot, Leads, IsWay, IsShortest, HasMany, TellsCount, TellsWay, room_of}
use Rattle.heap_walk.specs.Searching.{name_at, name_if, entry_of_step, IsAmong, LeadsInto, IsCovered, IsNewStep, IsOnce, HasGrown}
use Rattle.heap_walk.specs.Searching.{IsRootStepIn, Chain}
use Rattle.heap_walk.specs.declared.holders.Holder.{Holder}
use Rattle.heap_walk.proofs.Places.{other_place, set_length, take_more, named_in}
use Rattle.heap_walk.proofs.Growing.{among_same, leads_same, leads_wider, grown_more}

pub chain_same : (c : CoreState) (q r : List Holder) (room d x : ℕ) → ((y : ℕ) → x ≤ y → slice_get r y ≡ slice_get q y) → Chain c q room x d
    → Chain c r room x d
chain_same c q r room zero x same e = e
chain_same c q r room (suc d) x same (h, at, leads, rest) = (
  h,
  same x (omega arith) ∙ at,
  leads_same c q r (suc x) room h (λ y le. same y (omega arith)) leads,
  chain_same c q r room d h.mutator (λ y le. same y (let on = leads.on in omega arith)) rest,
)

-- some way leads from the object of a name to that of another
abbrev pub LeadsSomehow : CoreState → ℕ → ℕ → Type 0
LeadsSomehow c m n = (hs : List Holder) × Leads c m hs n

-- What a search has found of the ways to the object of a name, when it comes to a level: from each step of it as many steps lead there
pub record Searched (c : CoreState) (n : ℕ) (q : List Holder) (room low last depth : ℕ) : Type 0 where
  pub positive : 0 < low
  pub down : low ≤ last
  pub within : last < suc room
  pub few : depth + last ≤ room
  pub named : name_at q (room - 1) ≡ Some n
  pub chains : (x : ℕ) → low ≤ x → x < last → Chain c q room x depth
  pub leads : (x m : ℕ) → low ≤ x → x < room → name_at q x ≡ Some m → LeadsSomehow c m n
  pub once : IsOnce q low room
  pub near : (m : ℕ) (hs : List Holder) → Leads c m hs n → length hs < depth → IsAmong q last room m
  pub here : (m : ℕ) (hs : List Holder) → Leads c m hs n → length hs ≤ depth → IsAmong q low room m
  pub covered : (a : ℕ) → IsCovered c q last room low room a
  pub rootless : (x m : ℕ) (h : Holder) → last ≤ x → x < room → name_at q x ≡ Some m → HoldsByRoot c m h → ⊥

pub searched_first : (c : CoreState) (n : ℕ) (q : List Holder) (room low last depth : ℕ) → 2 ≤ room → low ≡ room - 1 → last ≡ room
    → depth ≡ 0 → name_at q (room - 1) ≡ Some n → Searched c n q room low last depth
searched_first c n q room low last depth two is end first named = record {
  positive = omega arith;
  down = omega arith;
  within = omega arith;
  few = omega arith;
  named = named;
  chains = λ x on under. subst (λ (d : ℕ). Chain c q room x d) (sym first) (let e : suc x ≡ room = omega arith in e);
  leads = λ x m on under e. ([], (let same = sym e ∙ ap (name_at q) (let there : x ≡ room - 1 = omega arith in there) ∙ named in cc));
  once = λ x y m xl xu yl yu xn yn. omega arith;
  near = λ m hs l lt. absurd (omega arith);
  here = λ m hs l le. only m hs l (omega arith);
  covered = λ a x m h on under e told strong. absurd (omega arith);
  rootless = λ x m h on under e root. omega arith;
}
  where
    only : (m : ℕ) (hs : List Holder) → Leads c m hs n → length hs ≤ 0 → IsAmong q low room m
    only m [] l le = record { at = room - 1; on = omega arith; under = omega arith; named = named ∙ ap Some (sym l) }
    only m (h ∷ hs) l le = absurd (omega arith)

module _ (c : CoreState) (n : ℕ) (q : List Holder) (room low last depth : ℕ) (s : Searched c n q room low last depth) where
  -- ---- one level more
  -- steps into the level, as it is in another buffer
  lead_on : (r : List Holder) (h : Holder) → ((y : ℕ) → low ≤ y → slice_get r y ≡ slice_get q y) → LeadsInto c r low last h
      → LeadsSomehow c h.name n
  lead_on r h same l =
      let under = l.under in
      let within = s.within in
      let (hs, on) = s.leads h.mutator l.next l.on (omega arith) (sym (ap name_if (same h.mutator l.on)) ∙ l.named) in
      (entry_of_step h ∷ hs, (refl, (l.next, l.holds, on)))

  leads_all : (r : List Holder) (next : ℕ) → HasGrown c q r low last next room → (x m : ℕ) → next ≤ x → x < room → name_at r x ≡ Some m
      → LeadsSomehow c m n
  leads_all r next g x m on under e = elim (cases_lt x low) [
    | inl lt ↦
        let step = g.steps x on lt in
        let same : step.step.name ≡ m = (let two = sym (ap name_if step.at) ∙ e in cc) in
        subst (λ (k : ℕ). LeadsSomehow c k n) same (lead_on r step.step g.same step.leads)
    | inr ge ↦ s.leads x m ge under (sym (ap name_if (g.same x ge)) ∙ e)
  ]

  module _ (r : List Holder) (next : ℕ) (g : HasGrown c q r low last next room)
      (all : (a : ℕ) → IsCovered c r low last next room a) where
    covered_next : (a : ℕ) → IsCovered c r low room next room a
    covered_next a = λ x m h on under e told strong. elim (cases_lt x last) [
      | inl lt ↦ all a x m h on lt e told strong
      | inr ge ↦ among_same q r low next room h.name g.down g.same
          (s.covered a x m h ge under (sym (ap name_if (g.same x on)) ∙ e) told strong)
    ]

    here_next : (m : ℕ) (hs : List Holder) → Leads c m hs n → length hs ≤ suc depth → IsAmong r next room m
    here_next m [] l le = among_same q r low next room m g.down g.same (s.here m [] l (omega arith))
    here_next m (h ∷ hs) (e, (k, holds, l)) le =
        let i = among_same q r low low room k (omega arith) g.same (s.here k hs l (omega arith)) in
        subst (λ (x : ℕ). IsAmong r next room x) e
        (covered_next holds.address i.at k h i.on i.under i.named holds.told holds.strong)

    chain_next : (x : ℕ) → next ≤ x → x < low → Chain c r room x (suc depth)
    chain_next x on under =
        let step = g.steps x on under in
        let l = step.leads in
        let from = l.on in
        let within = s.within in (
          step.step,
          step.at,
          leads_wider c r low last (suc x) room step.step (omega arith) (omega arith) l,
          chain_same c q r room depth step.step.mutator (λ y le. g.same y (omega arith)) (s.chains step.step.mutator l.on l.under),
        )

    pub searched_next : (more : ℕ) → more ≡ depth + 1 → low < last → 0 < next → IsRootStepIn c q low last None
        → Searched c n r room next low more
    searched_next more is some positive rootless =
        let same : more ≡ suc depth = omega arith in
        let within = s.within in
        let few = s.few in
        record {
          positive = positive;
          down = g.down;
          within = omega arith;
          few = omega arith;
          named = ap name_if (g.same (room - 1) (omega arith)) ∙ s.named;
          chains = λ x on under. subst (λ (d : ℕ). Chain c r room x d) (sym same) (chain_next x on under);
          leads = leads_all r next g;
          once = g.once s.once;
          near = λ m hs l lt. among_same q r low low room m (omega arith) g.same (s.here m hs l (omega arith));
          here = λ m hs l le. here_next m hs l (omega arith);
          covered = covered_next;
          rootless = λ x m h on under e root. elim (cases_lt x last) [
            | inl lt ↦ rootless x m h on lt (sym (ap name_if (g.same x on)) ∙ e) root
            | inr ge ↦ s.rootless x m h ge under (sym (ap name_if (g.same x on)) ∙ e) root
          ];
        }

  -- ---- the room is spent
  pub many : (r : List Holder) → HasGrown c q r low last 1 room → (h : Holder) → IsNewStep c r low last 1 room h → room ≤ length r
      → 2 ≤ room → HasMany c n room
  many r g h new long two =
      let positive = s.positive in
      let more = grown_more c r low last 1 room h 0 refl (omega arith) (omega arith) new q g in
      let once = more.once s.once in
      let all = slice_set r 0 h in
      record {
        names = map (λ (x : Holder). x.name) (take room all);
        counted = length-map (take room all) (λ (x : Holder). x.name) ∙
            taken all (let same : length all ≡ length r = set_length r 0 h in omega arith);
        once = λ i j m a b.
            let (il, ie) = named_in all room i m a in
            let (jl, je) = named_in all room j m b in
            once i j m (omega arith) il (omega arith) jl ie je;
        lead = λ i m a. let (il, ie) = named_in all room i m a in leads_all all 0 more i m (omega arith) il ie;
      }
    where
      taken : (xs : List Holder) → room ≤ length xs → length (take room xs) ≡ room
      taken xs le = length-take-le room xs le

  -- ---- no root leads there
  all_among : low ≡ last → (m : ℕ) (hs : List Holder) → Leads c m hs n → IsAmong q low room m
  all_among e m [] l = s.here m [] l (omega arith)
  all_among e m (h ∷ hs) (is, (k, holds, l)) =
      let i = all_among e k hs l in
      let on = i.on in
      subst (λ (x : ℕ). IsAmong q low room x) is
      (s.covered holds.address i.at k h (omega arith) i.under i.named holds.told holds.strong)

  pub no_way : (low < last → ⊥) → (hs : List Holder) → IsWay c hs n → ⊥
  no_way none [] w = w
  no_way none (h ∷ hs) (m, root, l) =
      let down = s.down in
      let i = all_among (omega arith) m hs l in
      let on = i.on in
      s.rootless i.at m h (omega arith) i.under i.named root

  -- ---- a shortest way
  pub shortest : (hs : List Holder) → length hs ≡ suc depth → IsWay c hs n → IsShortest c hs n
  shortest hs long way = record { way = way; least = least }
    where
      least : (other : List Holder) → IsWay c other n → length hs ≤ length other
      least [] w = absurd w
      least (h ∷ ks) (m, root, l) = elim (cases_lt (length ks) depth) [
        | inl lt ↦ let i = s.near m ks l lt in absurd (s.rootless i.at m h i.on i.under i.named root)
        | inr ge ↦ omega arith
      ]

  pub told_way : (out : List Holder) (count : ℕ) → depth + 1 ≡ count → depth + 1 ≤ length out → IsWay c (take (depth + 1) out) n
      → TellsCount c n out count
  told_way out zero e long way = absurd (omega arith)
  told_way out (suc k) e long way = (
    omega arith,
    subst (λ (m : ℕ). IsShortest c (take m out) n) e
        (shortest (take (depth + 1) out) (let same = length-take-le (depth + 1) out long in omega arith) way),
  )

  pub told_none : (out : List Holder) (count : ℕ) → last ≤ low → 0 ≡ count → TellsCount c n out count
  told_none out zero le e = no_way (λ lt. absurd {A = ⊥} (omega arith))
  told_none out (suc k) le e = absurd (omega arith)

-- ---- a way is written
pub record Writing (c : CoreState) (q out : List Holder) (root : Holder) (at room depth place left : ℕ) : Type 0 where
  pub below : place < left
  pub within : left < room
  pub chain : Chain c q room left (depth - place)
  pub same : (y : ℕ) → left ≤ y → slice_get out y ≡ slice_get q y
  pub way : (m n : ℕ) → name_at q at ≡ Some m → HoldsByRoot c m root → (k : ℕ) (hs : List Holder) → name_at q left ≡ Some k
      → Leads c k hs n → IsWay c (take (suc place) out ++ hs) n

pub writing_first : (c : CoreState) (q : List Holder) (root : Holder) (at room depth place left : ℕ) → place ≡ 0 → left ≡ at → 0 < at
    → at < room → room ≤ length q → Chain c q room at depth → Writing c q (slice_set q 0 root) root at room depth place left
writing_first c [] root at room depth place left p l positive under long chain = absurd (omega arith)
writing_first c (z ∷ q) root at room depth place left p l positive under long chain = record {
  below = omega arith;
  within = omega arith;
  chain = subst (λ (x : ℕ). Chain c (z ∷ q) room x (depth - place)) (sym l)
      (subst (λ (d : ℕ). Chain c (z ∷ q) room at d) (let e : depth ≡ depth - place = omega arith in e) chain);
  same = λ y le. other_place (z ∷ q) 0 y root (λ e. absurd {A = ⊥} (omega arith));
  way = λ m n named holds k hs is leads.
      let same : k ≡ m = (let two = sym is ∙ ap (name_at (z ∷ q)) l ∙ named in cc) in
      subst (λ (x : ℕ). IsWay c (take (suc x) (root ∷ q) ++ hs) n) (sym p)
      (m, holds, subst (λ (x : ℕ). Leads c x hs n) same leads);
}

pub writing_next : (c : CoreState) (q out : List Holder) (root step : Holder) (at room depth place left place' left' : ℕ)
    → Writing c q out root at room depth place left → place < depth → room ≤ length out → slice_get out left ≡ Some step
    → left' ≡ step.mutator → place' ≡ place + 1
    → Writing c q (slice_set out place' (entry_of_step step)) root at room depth place' left'
writing_next c q out root step at room depth place left place' left' w lt long is on one =
    go (depth - place) refl w.chain
  where
    taken : place' < length out
        → take (suc place') (slice_set out place' (entry_of_step step)) ≡ take (suc place) out ++ entry_of_step step ∷ []
    taken le = take_more out place' (suc place') (entry_of_step step) le refl
        ∙ ap (λ (k : ℕ). take k out ++ entry_of_step step ∷ []) (let e : place' ≡ suc place = omega arith in e)

    go : (d : ℕ) → depth - place ≡ d → Chain c q room left d
        → Writing c q (slice_set out place' (entry_of_step step)) root at room depth place' left'
    go zero e chain = absurd (omega arith)
    go (suc d) e (h, there, leads, rest) =
        let below = w.below in
        let within = w.within in
        let from = leads.on in
        let under = leads.under in
        let same : h ≡ step = (let two = sym there ∙ sym (w.same left (omega arith)) ∙ is in cc) in
        let to : h.mutator ≡ left' = ap (λ (x : Holder). x.mutator) same ∙ sym on in
        record {
          below = omega arith;
          within = omega arith;
          chain = subst (λ (x : ℕ). Chain c q room x (depth - place')) to
              (subst (λ (k : ℕ). Chain c q room h.mutator k) (let e : d ≡ depth - place' = omega arith in e) rest);
          same = λ y le. other_place out place' y (entry_of_step step) (λ e. absurd {A = ⊥} (omega arith)) ∙ w.same y (omega arith);
          way = λ m n named holds k hs left_is l.
              let next : leads.next ≡ k =
              (let two = sym leads.named ∙ ap (name_at q) to ∙ left_is in cc) in
              let more = w.way m n named holds h.name (entry_of_step h ∷ hs) (ap name_if there)
              (refl, (leads.next, leads.holds, subst (λ (x : ℕ). Leads c x hs n) (sym next) l)) in
              subst (λ (l : List Holder). IsWay c l n)
              (ap (λ (x : Holder). take (suc place) out ++ entry_of_step x ∷ hs) same
              ∙ sym (append_assoc (take (suc place) out) (entry_of_step step ∷ []) hs)
              ∙ ap (λ (l : List Holder). l ++ hs) (sym (taken (omega arith)))) more;
        }

pub writing_last : (c : CoreState) (q out : List Holder) (root : Holder) (at room depth place left : ℕ)
    → Writing c q out root at room depth place left → depth ≤ place → place ≤ depth
    → (m n : ℕ) → name_at q at ≡ Some m → name_at q (room - 1) ≡ Some n → HoldsByRoot c m root → IsWay c (take (depth + 1) out) n
writing_last c q out root at room depth place left w le ge m n first last holds =
    let none : depth - place ≡ 0 = omega arith in
    let end : suc left ≡ room = subst (λ (d : ℕ). Chain c q room left d) none w.chain in
    let there : left ≡ room - 1 = omega arith in
    subst (λ (l : List Holder). IsWay c l n)
    (append-nil (take (suc place) out) ∙ ap (λ (k : ℕ). take k out) (let e : suc place ≡ depth + 1 = omega arith in e))
    (w.way m n first holds n [] (ap (name_at q) there ∙ last) refl)

-- ---- what is told
-- a buffer for less than two entries
pub few_names : (c : CoreState) (n room : ℕ) → room < 2 → HasMany c n room
few_names c n zero lt = record { names = []; counted = refl; once = λ i j m a b. absurd (cc); lead = λ i m a. absurd (cc) }
few_names c n (suc zero) lt = record {
  names = n ∷ [];
  counted = refl;
  once = λ i j m a b. let x = only i m a in let y = only j m b in omega arith;
  lead = λ i m a. ([], sym (itself i m a));
}
  where
    only : (i m : ℕ) → slice_get (n ∷ []) i ≡ Some m → i ≡ 0
    only zero m e = refl
    only (suc i) m e = absurd (cc)

    itself : (i m : ℕ) → slice_get (n ∷ []) i ≡ Some m → n ≡ m
    itself zero m e = cc
    itself (suc i) m e = absurd (cc)
few_names c n (suc (suc k)) lt = absurd (omega arith)

pub told_all : (c : CoreState) (n : ℕ) (before after : List Holder) (room : ℕ) (r : Option ℕ) → room ≡ room_of (length before)
    → (r ≡ None → HasMany c n room) → ((k : ℕ) → r ≡ Some k → TellsCount c n after k) → TellsWay c n before after r
told_all c n before after room None e none some = subst (λ (k : ℕ). HasMany c n k) e (none refl)
told_all c n before after room (Some k) e none some = some k refl
