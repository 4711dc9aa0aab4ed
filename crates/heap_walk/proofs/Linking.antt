-- Which links of a kept object lead to the object of a name.
use Rattle.std.proofs.Common.{◌≡◌, ◌∙◌, ℕ, zero, suc, ◌+◌, ◌<◌, ◌≤◌, ◌==◌, Bool, true, false, List}
use Rattle.std.proofs.Common.{[], ◌∷◌, Option, Some, None, length, refl, sym, ap, subst, arith, map}
use Rattle.std.specs.Prelude.{IsSome, IfSome, slice_get, slice_index_or, position}
use Rattle.std.specs.Option.{option_map}
use Rattle.std.proofs.lemmas.Option.{get_or_from_slice_get, slice_get-map}
use Rattle.std.proofs.Common.{lt-ltb, le-ltb}
use Rattle.std.proofs.lemmas.List.Sums.{position_or_len_is, count_by-le-length}
use Rattle.std.proofs.lemmas.List.{length-map}
use Rattle.std.specs.List.{count_by}
use Rattle.regions.specs.Shaped.{IsShaped}
use Rattle.refinement.proofs.Holders.{object_within}
use Rattle.heap_model.specs.Heap.{Stored}
use Rattle.heap_model.specs.Clearing.{kept_word, where_kept}
use Rattle.regions.specs.Table.{Table, object_at, pointers_at, weaks_at, object_pointers, object_weaks}
use Rattle.step_core.specs.Stands.{CoreState, IsCore, kept_of, name_of, name_in}
use Rattle.step_core.specs.Mutators.{weaks_shown}
use Rattle.step_core.proofs.Cycles.Cycling.{can_begin}
use Rattle.step_core.proofs.Objects.{has_name}
use Rattle.graph_runs.specs.State.{root_counts_of}
use Rattle.step_core.specs.Mutators.{root_of}
use Rattle.heap_walk.specs.Holders.{leads_to, is_name, links_at, root_holder, root_holders, field_holder}
use Rattle.heap_walk.proofs.Keeping.{kept_is, some_kept}

-- a word of what weak slots show leads to a kept object
shown_word : (c : CoreState) (ws : List (Option ℕ)) (i b : ℕ) → slice_get (map (kept_word (kept_of c)) ws) i ≡ Some (Some b)
    → IsSome (kept_of c b)
shown_word c ws i b e = go (slice_get ws i) (sym (slice_get-map (kept_word (kept_of c)) ws i) ∙ e)
  where
    at : (o : Option Stored) (a : ℕ) → kept_of c a ≡ o → where_kept o a ≡ Some b → IsSome (kept_of c b)
    at None a is f = cc
    at (Some s) a is f = let same : a ≡ b = cc in subst (λ (n : ℕ). IsSome (kept_of c n)) same (rw is refl)

    go : (o : Option (Option ℕ)) → option_map (kept_word (kept_of c)) o ≡ Some (Some b) → IsSome (kept_of c b)
    go None f = cc
    go (Some None) f = cc
    go (Some (Some a)) f = at (kept_of c a) a refl (let g : where_kept (kept_of c a) a ≡ Some b = cc in g)

-- where a link of a kept object leads an object is kept
pub link_kept : (c : CoreState) (weak : Bool) (a i b : ℕ) → IsCore c → IsSome (kept_of c a)
    → slice_get (links_at weak c a) i ≡ Some (Some b)
    → IsSome (kept_of c b)
unfolding kept_of pointers_at
link_kept c false a i b core h e =
    let (s, is) = some_kept c a h in
    let there : pointers_at c.table a ≡ s.pointers = ap object_pointers (kept_is c a s is) in
    let (x, k) = (can_begin c core).pointer a i b s is (sym (ap (λ (l : List (Option ℕ)). slice_get l i) there) ∙ e) in
    rw k refl
link_kept c true a i b core h e =
    let (s, is) = some_kept c a h in
    let shown : weaks_shown c a ≡ map (kept_word (kept_of c)) (weaks_at c.table a) = rw is refl in
    shown_word c (weaks_at c.table a) i b (sym (ap (λ (l : List (Option ℕ)). slice_get l i) shown) ∙ e)

-- its name tells whether it is the one
pub root_leads : (c : CoreState) (t : Table) (n m b : ℕ) (w : Option ℕ) → t ≡ c.table → IsSome (object_at t b)
    → IfSome (object_at t b) (λ s. m ≡ s.name) → w ≡ Some b → (m == n) ≡ leads_to c.table n w
root_leads c t n m b w same h named e =
    let is : name_in c.table (Some b) ≡ Some m = subst (λ (u : Table). name_of (object_at u b) ≡ Some m) same (has_name (object_at t b) m h
    named) in
    sym (ap (leads_to c.table n) e ∙ ap (is_name n) is)

pub link_leads : (c : CoreState) (t : Table) (n m b : ℕ) (ws : List (Option ℕ)) (i : ℕ) → t ≡ c.table → IsSome (object_at t b)
    → IfSome (object_at t b) (λ s. m ≡ s.name) → slice_get ws i ≡ Some (Some b)
    → (m == n) ≡ leads_to c.table n (slice_index_or ws i None)
link_leads c t n m b ws i same h named e =
    root_leads c t n m b (slice_index_or ws i None) same h named (get_or_from_slice_get ws i (Some b) None e)

pub link_nil : (c : CoreState) (n : ℕ) (ws : List (Option ℕ)) (i : ℕ) → slice_get ws i ≡ Some None
    → false ≡ leads_to c.table n (slice_index_or ws i None)
link_nil c n ws i e = sym (ap (leads_to c.table n) (get_or_from_slice_get ws i None None e))

-- ---- the first one
pub none_leads : {A : Type 0} (p : A → Bool) (xs : List A) (n : ℕ) (d : A) → length xs ≤ n
    → ((k : ℕ) → k < n → p (slice_index_or xs k d) ≡ false)
    → None ≡ position p xs
none_leads p xs n d len none =
    let all = position_or_len_is p xs (length xs) d (omega arith) (λ k l. none k (omega arith)) (λ l. absurd (omega arith)) in
    rw (all, le-ltb (length xs) (length xs) (omega arith)) refl

pub first_leads : {A : Type 0} (p : A → Bool) (xs : List A) (i : ℕ) (d : A) → i < length xs
    → ((k : ℕ) → k < i → p (slice_index_or xs k d) ≡ false)
    → p (slice_index_or xs i d) ≡ true → Some i ≡ position p xs
first_leads p xs i d lt none here =
    let found = position_or_len_is p xs i d (omega arith) none (λ l. here) in
    rw (found, lt-ltb i (length xs) lt) refl

-- ---- roots
root_word : (ws : List (Option ℕ)) (i b : ℕ) → slice_index_or ws i None ≡ Some b → slice_get ws i ≡ Some (Some b)
root_word [] i b e = cc
root_word (w ∷ ws) zero b e = ap Some e
root_word (w ∷ ws) (suc i) b e = root_word ws i b e

-- a root leads to a kept object
pub root_kept : (c : CoreState) (i b : ℕ) → IsCore c → slice_index_or c.roots i None ≡ Some b → IsSome (kept_of c b)
unfolding kept_of
root_kept c i b core e = let (x, k) = (can_begin c core).root i b (root_word c.roots i b e) in rw k refl

-- ---- how many links an object has
shown_length : (c : CoreState) (a : ℕ) (s : Stored) → kept_of c a ≡ Some s → length (weaks_shown c a) ≡ length s.weaks
unfolding weaks_at
shown_length c a s e =
    let shown : weaks_shown c a ≡ map (kept_word (kept_of c)) (weaks_at c.table a) = rw e refl in
    ap length shown ∙ length-map (weaks_at c.table a) (kept_word (kept_of c))
    ∙ ap (λ (o : Option Stored). length (object_weaks o)) (kept_is c a s e)

pub links_small : (c : CoreState) (p : Option ℕ → Bool) (a : ℕ) → IsShaped c.table → IsSome (kept_of c a)
    → count_by p (pointers_at c.table a) + count_by p (weaks_shown c a) < 4294967296
unfolding pointers_at
links_small c p a g h =
    let (s, is) = some_kept c a h in
    let there = kept_is c a s is in
    let within = object_within c.table a s g there in
    let all = g.in_all in
    let pointers = ap (λ (o : Option Stored). length (object_pointers o)) there in
    let slots = shown_length c a s is in
    let few = count_by-le-length p (pointers_at c.table a) in
    let few_slots = count_by-le-length p (weaks_shown c a) in
    omega (arith, within, all, pointers, slots, few, few_slots)

pub one_root : (c : CoreState) (n p : ℕ) → leads_to c.table n (root_of c p) ≡ true
    → root_holders c n p ≡ root_holder (root_counts_of c.config) p ∷ []
one_root c n p e = rw e refl

-- ---- the entry of a kept object
pub one_holder : (c : CoreState) (t : Table) (a name kind place k : ℕ) → t ≡ c.table → IsSome (kept_of c a)
    → IfSome (object_at t a) (λ s. name ≡ s.name) → (count : ℕ) → k ≡ count
    → IfSome (kept_of c a) (λ s. field_holder name kind place k ≡ field_holder s.name kind place count)
one_holder c t a name kind place k same h named count e =
    let (s, is) = some_kept c a h in
    let there : object_at t a ≡ Some s = rw (same, kept_is c a s is) refl in
    let here : name ≡ s.name = subst (λ (o : Option Stored). IfSome o (λ s. name ≡ s.name)) there named in
    subst (λ (o : Option Stored). IfSome o (λ s. field_holder name kind place k ≡ field_holder s.name kind place count)) (sym is)
    (rw (here, e) refl)
