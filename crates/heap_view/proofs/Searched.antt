-- A search, step by step.
use Rattle.std.proofs.Common.{◌≡◌, ◌∙◌, ◌⊎◌, ℕ, zero, suc, ◌+◌, ◌<◌, ◌≤◌, Bool, true, false, List, [], ◌∷◌, ◌++◌, Option, Some, None}
use Rattle.std.proofs.Common.{ap, arith, inl, inr, length, refl, replicate, subst, sym}
use Rattle.std.specs.Prelude.{IsSome, slice_get, slice_index_or}
use Rattle.std.proofs.lemmas.Bool.{cases_lt, cases_eq}
use Rattle.std.proofs.lemmas.Option.{slice_get_within}
use Rattle.bit_sets.specs.Bits.{has}
use Rattle.regions.specs.Shaped.{IsShaped}
use Rattle.regions.specs.Table.{pointers_at}
use Rattle.step_core.specs.Stands.{CoreState, IsCore, kept_of}
use Rattle.step_core.specs.Mutators.{root_of}
use Rattle.heap_walk.specs.Starts.{word_count}
use Rattle.heap_walk.proofs.Keeping.{kept_tile}
use Rattle.heap_walk.proofs.Linking.{link_kept, root_kept}
use Rattle.heap_walk.proofs.TileStarts.{tile_below}
use Rattle.heap_view.specs.Search.{AreFound, Finds, HasRoots, HasSearched, IsFoundBy, IsReached, IsSearch, KeepsPlaces}
use Rattle.heap_view.specs.declared.search.Stage.{Stage}
use Rattle.heap_view.proofs.Finding.{at_front, found_more, found_none, old_or_new, reached_last, reached_more}

-- a kept object is within the set
pub within_set : (c : CoreState) (q : List Stage) (seen : List Bool) (a : ℕ) → IsShaped c.table → AreFound c q seen → IsSome (kept_of c a)
    → a < length seen
within_set c q seen a g f kept =
    let below = tile_below c.table a g (kept_tile c a kept) in
    let room = f.room in
    omega (arith, below, room)

either : (b : Bool) → (b ≡ true) ⊎ (b ≡ false)
either true = inl refl
either false = inr refl

-- ---- an object that may be new
-- those that are found, and each that was; and the object, with at most so many in between as all have
pub record HasFound (c : CoreState) (q : List Stage) (q' : List Stage) (seen' : List Bool) (a d : ℕ) : Type 0 where
  pub are : AreFound c q' seen'
  pub kept : (b e : ℕ) → IsReached q b e → IsReached q' b e
  pub reached : IsReached q' a d
  pub same : (i : ℕ) (t : Stage) → slice_get q i ≡ Some t → slice_get q' i ≡ Some t
  pub old : (i : ℕ) (t : Stage) → slice_get q' i ≡ Some t → (slice_get q i ≡ Some t) ⊎ ((i ≡ length q) × (t.depth ≡ d))

pub finds : (c : CoreState) (q q' : List Stage) (seen seen' : List Bool) (s : Stage) → AreFound c q seen → Finds seen seen' q q' s
    → IsSome (kept_of c s.at) → IsFoundBy c q s s.depth → s.depth ≤ length q → s.at < length seen
    → ((i : ℕ) (t : Stage) → slice_get q i ≡ Some t → t.depth ≤ s.depth) → HasFound c q q' seen' s.at s.depth
finds c q q' seen seen' s f fs kept by short lt most = elim (either (has seen s.at)) [
  | inl known ↦
      let (same, all) = fs.known known in
      let (d, r) = f.found s.at known in
      subst (λ (l : List Stage). HasFound c q l seen' s.at s.depth) (sym all)
      (subst (λ (l : List Bool). HasFound c q q l s.at s.depth) (sym same) (record {
        are = f;
        kept = λ b e r. r;
        reached = record { place = r.place; stage = r.stage; there = r.there; at = r.at; near = most r.place r.stage r.there };
        same = λ i t e. e;
        old = λ i t e. inl e;
      }))
  | inr fresh ↦
      let (set, all) = fs.fresh fresh in
      subst (λ (l : List Stage). HasFound c q l seen' s.at s.depth) (sym all)
      (subst (λ (l : List Bool). HasFound c q (q ++ s ∷ []) l s.at s.depth) (sym set) (record {
        are = found_more c q seen s f kept by short lt fresh;
        kept = λ b e r. reached_more q (s ∷ []) b e r;
        reached = reached_last q s s.depth (omega arith);
        same = λ i t e. front i t e;
        old = λ i t e. elim (old_or_new q s i t e) [
          | inl old ↦ inl old
          | inr new ↦ inr (new.0, sym (ap (λ (x : Stage). x.depth) new.1))
        ];
      }))
]
  where
    front : (i : ℕ) (t : Stage) → slice_get q i ≡ Some t → slice_get (q ++ s ∷ []) i ≡ Some t
    front i t e = at_front q (s ∷ []) i t e

-- ---- roots
pub roots_first : (c : CoreState) (q : List Stage) (seen : List Bool) → q ≡ [] → seen ≡ replicate (word_count c.table) false
    → HasRoots c q seen 0
roots_first c q seen none out =
    subst (λ (l : List Stage). HasRoots c l seen 0) (sym none)
    (subst (λ (l : List Bool). HasRoots c [] l 0) (sym out) (record {
      are = found_none c;
      flat = λ i s e. let within = slice_get_within [] i s e in absurd (omega (arith, within));
      roots = λ p a lt e. absurd (omega (arith, lt));
    }))

pub root_nil : (c : CoreState) (q : List Stage) (seen : List Bool) (place : ℕ) → HasRoots c q seen place → root_of c place ≡ None
    → HasRoots c q seen (place + 1)
root_nil c q seen place h nil = record {
  are = h.are;
  flat = h.flat;
  roots = λ p a lt e. elim (cases_eq p place) [
    | inl same ↦ absurd (let two = sym (ap (root_of c) same) ∙ e in let no = sym nil ∙ two in cc)
    | inr other ↦ h.roots p a (omega (arith, lt, other)) e
  ];
}

pub root_found : (c : CoreState) (q q' : List Stage) (seen seen' : List Bool) (place : ℕ) (s : Stage) → IsShaped c.table → IsCore c
    → place < length c.roots → HasRoots c q seen place → root_of c place ≡ Some s.at → s.from ≡ place → s.depth ≡ 0
    → Finds seen seen' q q' s → HasRoots c q' seen' (place + 1)
root_found c q q' seen seen' place s g core lt h leads from flat fs = record {
  are = more.are;
  flat = λ i t e. elim (more.old i t e) [ inl old ↦ h.flat i t old | inr new ↦ new.1 ∙ flat ];
  roots = λ p a below e. elim (cases_eq p place) [
    | inl same ↦
        let two : root_of c place ≡ Some a = sym (ap (root_of c) same) ∙ e in
        let there : s.at ≡ a = (let three = sym leads ∙ two in cc) in
        subst (λ (d : ℕ). IsReached q' a d) flat (subst (λ (b : ℕ). IsReached q' b s.depth) there more.reached)
    | inr other ↦ more.kept a 0 (h.roots p a (omega (arith, below, other)) e)
  ];
}
  where
    kept : IsSome (kept_of c s.at)
    kept = root_kept c place s.at core leads

    by : IsFoundBy c q s s.depth
    by = subst (λ (d : ℕ). IsFoundBy c q s d) (sym flat)
        (record {
          place = subst (λ (p : ℕ). p < length c.roots) (sym from) lt;
          leads = ap (root_of c) from ∙ leads;
        })

    more : HasFound c q q' seen' s.at s.depth
    more = finds c q q' seen seen' s h.are fs kept by (omega (arith, flat)) (within_set c q seen s.at g h.are kept)
        (λ i t e. let none = h.flat i t e in omega (arith, none))

no_root : (xs : List (Option ℕ)) (i a : ℕ) → length xs ≤ i → slice_index_or xs i None ≡ Some a → ⊥
no_root [] i a le e = cc
no_root (x ∷ xs) zero a le e = absurd (omega (arith, le))
no_root (x ∷ xs) (suc i) a le e = no_root xs i a (omega (arith, le)) e

pub roots_all : (c : CoreState) (q : List Stage) (seen : List Bool) (place : ℕ) → length c.roots ≤ place → HasRoots c q seen place
    → HasSearched c q seen 0 0
roots_all c q seen place le h = record {
  are = h.are;
  roots = λ p a e. elim (cases_lt p place) [
    | inl lt ↦ h.roots p a lt e
    | inr ge ↦ absurd (no_root c.roots p a (omega (arith, le, ge)) e)
  ];
  sorted = λ i j s t le e f. let none = h.flat i s e in omega (arith, none);
  near = λ i s t e f. let none = h.flat i t f in omega (arith, none);
  closed = λ i k b s lt e leads. absurd (omega (arith, lt));
  part = λ k b s lt e leads. absurd (omega (arith, lt));
}

-- ---- pointers
pub link_nil : (c : CoreState) (q : List Stage) (seen : List Bool) (place index : ℕ) (s : Stage) → HasSearched c q seen place index
    → slice_get q place ≡ Some s → slice_get (pointers_at c.table s.at) index ≡ Some None → HasSearched c q seen place (index + 1)
link_nil c q seen place index s h there nil = record {
  are = h.are;
  roots = h.roots;
  sorted = h.sorted;
  near = h.near;
  closed = h.closed;
  part = λ k b t lt e leads. elim (cases_eq k index) [
    | inl same ↦ absurd (
        let is : s ≡ t = (let two = sym there ∙ e in cc) in
        let here = subst (λ (x : ℕ). slice_get (pointers_at c.table t.at) x ≡ Some (Some b)) same leads in
        let no = subst (λ (x : Stage). slice_get (pointers_at c.table x.at) index ≡ Some None) is nil in
        let two = sym no ∙ here in cc)
    | inr other ↦ h.part k b t (omega (arith, lt, other)) e leads
  ];
}

pub link_found : (c : CoreState) (q q' : List Stage) (seen seen' : List Bool) (place index : ℕ) (s n : Stage) → IsShaped c.table → IsCore c
    → HasSearched c q seen place index → slice_get q place ≡ Some s → slice_get (pointers_at c.table s.at) index ≡ Some (Some n.at)
    → n.from ≡ place → n.depth ≡ s.depth + 1 → Finds seen seen' q q' n → HasSearched c q' seen' place (index + 1)
link_found c q q' seen seen' place index s n g core h there leads from deep fs = record {
  are = more.are;
  roots = λ p a e. more.kept a 0 (h.roots p a e);
  sorted = λ i j t u le e f. elim (more.old i t e) [
    | inl old ↦ elim (more.old j u f) [
      | inl too ↦ h.sorted i j t u le old too
      | inr new ↦ let near = h.near i s t there old in let is = new.1 in omega (arith, near, is, deep)
    ]
    | inr new ↦ elim (more.old j u f) [
      | inl too ↦ absurd (let within = slice_get_within q j u too in let at = new.0 in omega (arith, within, at, le))
      | inr too ↦ let is = new.1 in let same = too.1 in omega (arith, is, same)
    ]
  ];
  near = λ i t u e f.
      let is = itself t e in
      elim (more.old i u f) [
        | inl old ↦ subst (λ (x : Stage). u.depth ≤ suc x.depth) is (h.near i s u there old)
        | inr new ↦ subst (λ (x : Stage). u.depth ≤ suc x.depth) is (let far = new.1 in omega (arith, far, deep))
      ];
  closed = λ i k b t lt e to. elim (more.old i t e) [
    | inl old ↦ more.kept b (suc t.depth) (h.closed i k b t lt old to)
    | inr new ↦ absurd (let within = slice_get_within q place s there in let at = new.0 in omega (arith, within, at, lt))
  ];
  part = λ k b t lt e to.
      let is = itself t e in
      elim (cases_eq k index) [
        | inl same ↦
            let here = subst (λ (x : ℕ). slice_get (pointers_at c.table t.at) x ≡ Some (Some b)) same to in
            let mine = subst (λ (x : Stage). slice_get (pointers_at c.table x.at) index ≡ Some (Some n.at)) is leads in
            let at : n.at ≡ b = (let two = sym mine ∙ here in cc) in
            let far : n.depth ≡ suc t.depth = (let d = ap (λ (x : Stage). x.depth) is in omega (arith, d, deep)) in
            subst (λ (d : ℕ). IsReached q' b d) far (subst (λ (x : ℕ). IsReached q' x n.depth) at more.reached)
        | inr other ↦ more.kept b (suc t.depth)
            (h.part k b t (omega (arith, lt, other)) (there ∙ ap Some is) to)
      ];
}
  where
    kept : IsSome (kept_of c n.at)
    kept = link_kept c false s.at index n.at core (h.are.kept place s there) leads

    by : IsFoundBy c q n n.depth
    by = subst (λ (d : ℕ). IsFoundBy c q n d) (let e : suc s.depth ≡ n.depth = omega (arith, deep) in e)
        (record {
          before = s;
          there = ap (slice_get q) from ∙ there;
          depth = refl;
          leads = record { index = index; leads = leads };
        })

    more : HasFound c q q' seen' n.at n.depth
    more = finds c q q' seen seen' n h.are fs kept by
        (let short = h.are.short place s there in let within = slice_get_within q place s there in omega (arith, short, within, deep))
        (within_set c q seen n.at g h.are kept)
        (λ i t e. let near = h.near i s t there e in omega (arith, near, deep))

    itself : (t : Stage) → slice_get q' place ≡ Some t → s ≡ t
    itself t e = let two = sym (more.same place s there) ∙ e in cc

-- all pointers of an object are followed
pub links_all : (c : CoreState) (q : List Stage) (seen : List Bool) (place index : ℕ) (s : Stage) → slice_get q place ≡ Some s
    → length (pointers_at c.table s.at) ≤ index → HasSearched c q seen place index → HasSearched c q seen (place + 1) 0
links_all c q seen place index s there le h = record {
  are = h.are;
  roots = h.roots;
  sorted = h.sorted;
  near = λ i t u e f.
      let near = h.near i s u there f in
      let up = h.sorted place (place + 1) s t (omega arith) there e in
      omega (arith, near, up);
  closed = λ i k b t lt e to. elim (cases_eq i place) [
    | inl same ↦
        let here : slice_get q place ≡ Some t = sym (ap (slice_get q) same) ∙ e in
        let is : s ≡ t = (let two = sym there ∙ here in cc) in
        let within = slice_get_within (pointers_at c.table t.at) k (Some b) to in
        let few = subst (λ (x : Stage). length (pointers_at c.table x.at) ≤ index) is le in
        h.part k b t (omega (arith, within, few)) here to
    | inr other ↦ h.closed i k b t (omega (arith, lt, other)) e to
  ];
  part = λ k b t lt e to. absurd (omega (arith, lt));
}

-- places are below the words of the heap
pub places_few : (c : CoreState) (q : List Stage) (seen : List Bool) → AreFound c q seen → length q ≤ word_count c.table
places_few c q seen f =
    let counted = f.counted in
    let room = f.room in
    omega (arith, counted, room)

pub search_over : (c : CoreState) (q : List Stage) (seen : List Bool) (place : ℕ) → length q ≤ place → place ≤ length q
    → HasSearched c q seen place 0 → IsSearch c q
search_over c q seen place ge le h =
    record { seen = seen; over = subst (λ (p : ℕ). HasSearched c q seen p 0) (let e : place ≡ length q = omega (arith, ge, le) in e) h }

pub keeps_places : (q q' : List Stage) (seen seen' : List Bool) (s : Stage) → Finds seen seen' q q' s → KeepsPlaces q q'
keeps_places q q' seen seen' s fs = elim (either (has seen s.at)) [
  | inl known ↦ let (same, all) = fs.known known in λ i t e. ap (λ (l : List Stage). slice_get l i) all ∙ e
  | inr fresh ↦
      let (set, all) = fs.fresh fresh in
      λ i t e. ap (λ (l : List Stage). slice_get l i) all ∙ at_front q (s ∷ []) i t e
]
