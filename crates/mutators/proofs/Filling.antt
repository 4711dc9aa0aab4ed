-- One line more is added to the script of its actor.
use Rattle.std.proofs.Common.{◌≡◌, ◌≢◌, ◌+◌, ◌<◌, ◌≤◌, ◌∷◌, ◌++◌, ◌∙◌, ℕ, true, List, [], length, take, map, sym, ap, subst, arith, get_or}
use Rattle.std.proofs.Common.{refl}
use Rattle.std.proofs.Common.{get_or-set_same, get_or-set_other, length-set, ⊎_elim, slice_set}
use Rattle.std.proofs.lemmas.Bool.{cases_eq}
use Rattle.std.proofs.lemmas.List.{length-map, get_or-map, map-set, length_push, set-get_or}
use Rattle.heap_steps.specs.declared.step.Step.{Step}
use Rattle.step_core.specs.Passages.{actor_of}
use Rattle.mutators.specs.Scripts.{same_actor, scripted, lines_of}
use Rattle.mutators.proofs.Lines.{lines_same, lines_other, lines_room}
use Rattle.mutators.proofs.Rows.{same_scripted, other_scripted}

mine : (m : ℕ) (ls : List Step) (i p k : ℕ) (s d : Step) → scripted m p ≡ actor_of s → s ≡ get_or ls i d → k ≡ p
    → same_actor (scripted m k) (actor_of (get_or ls i d)) ≡ true
mine m ls i p k s d is here same =
    subst (λ a. same_actor (scripted m k) a ≡ true) (ap (λ (j : ℕ). scripted m j) same ∙ is ∙ ap actor_of here) (same_scripted m k)

-- the step is a line of the script at its place
line_here : (m : ℕ) (ls : List Step) (i p k : ℕ) (s d : Step) → scripted m p ≡ actor_of s → i < length ls → s ≡ get_or ls i d → k ≡ p
    → lines_of (scripted m k) (take (i + 1) ls) ≡ lines_of (scripted m k) (take i ls) ++ s ∷ []
line_here m ls i p k s d is below here same =
    subst (λ (x : Step). lines_of (scripted m k) (take (i + 1) ls) ≡ lines_of (scripted m k) (take i ls) ++ x ∷ []) (sym here)
    (lines_same (scripted m k) ls i d below (mine m ls i p k s d is here same))

-- and of no other one
lines_apart : (m : ℕ) (ls : List Step) (i p k : ℕ) (s d : Step) → scripted m p ≡ actor_of s → i < length ls → s ≡ get_or ls i d → k ≢ p
    → lines_of (scripted m k) (take (i + 1) ls) ≡ lines_of (scripted m k) (take i ls)
lines_apart m ls i p k s d is below here apart =
    lines_other (scripted m k) ls i d below
    (ap (λ a. same_actor (scripted m k) a) (sym (is ∙ ap actor_of here)) ∙ other_scripted m k p apart)

pub filled : (m : ℕ) (rows rows' : List (List Step)) (ls : List Step) (i p : ℕ) (s d : Step) → length rows ≡ m + 1 → p ≤ m
    → scripted m p ≡ actor_of s → i < length ls → s ≡ get_or ls i d → rows' ≡ slice_set rows p (get_or rows p [] ++ s ∷ [])
    → ((k : ℕ) → k ≤ m → get_or rows k [] ≡ lines_of (scripted m k) (take i ls))
    → (k : ℕ) → k ≤ m → get_or rows' k [] ≡ lines_of (scripted m k) (take (i + 1) ls)
filled m rows rows' ls i p s d len low is below here added was k within =
    let now : get_or rows' k [] ≡ get_or (slice_set rows p (get_or rows p [] ++ s ∷ [])) k [] =
    ap (λ (r : List (List Step)). get_or r k []) added in
    ⊎_elim
    (λ (same : k ≡ p).
    let set : get_or (slice_set rows p (get_or rows p [] ++ s ∷ [])) p [] ≡ get_or rows p [] ++ s ∷ [] =
    get_or-set_same rows p (get_or rows p [] ++ s ∷ []) [] (omega (arith, len, low)) in
    now ∙ ap (λ (j : ℕ). get_or (slice_set rows p (get_or rows p [] ++ s ∷ [])) j []) same ∙ set
    ∙ ap (λ (j : ℕ). get_or rows j [] ++ s ∷ []) (sym same) ∙ ap (λ (l : List Step). l ++ s ∷ []) (was k within)
    ∙ sym (line_here m ls i p k s d is below here same))
    (λ (apart : k ≢ p).
    now ∙ get_or-set_other rows p k (get_or rows p [] ++ s ∷ []) [] apart ∙ was k within
    ∙ sym (lines_apart m ls i p k s d is below here apart))
    (cases_eq k p)

-- one line more is counted
pub counted : (m : ℕ) (rooms rooms' : List ℕ) (ls : List Step) (i p n : ℕ) (s d : Step) → length rooms ≡ m + 1 → p ≤ m
    → scripted m p ≡ actor_of s → i < length ls → s ≡ get_or ls i d → n ≡ get_or rooms p 0 + 1 → rooms' ≡ slice_set rooms p n
    → ((k : ℕ) → k ≤ m → get_or rooms k 0 ≡ length (lines_of (scripted m k) (take i ls)))
    → (k : ℕ) → k ≤ m → get_or rooms' k 0 ≡ length (lines_of (scripted m k) (take (i + 1) ls))
counted m rooms rooms' ls i p n s d len low is below here more set was k within =
    let now : get_or rooms' k 0 ≡ get_or (slice_set rooms p n) k 0 = ap (λ (r : List ℕ). get_or r k 0) set in
    ⊎_elim
    (λ (same : k ≡ p).
    let there : get_or (slice_set rooms p n) p 0 ≡ n = get_or-set_same rooms p n 0 (omega (arith, len, low)) in
    now ∙ ap (λ (j : ℕ). get_or (slice_set rooms p n) j 0) same ∙ there ∙ more ∙ ap (λ (j : ℕ). get_or rooms j 0 + 1) (sym same)
    ∙ ap (λ (j : ℕ). j + 1) (was k within) ∙ sym (length_push (lines_of (scripted m k) (take i ls)) s)
    ∙ ap (λ (l : List Step). length l) (sym (line_here m ls i p k s d is below here same)))
    (λ (apart : k ≢ p).
    now ∙ get_or-set_other rooms p k n 0 apart ∙ was k within
    ∙ ap (λ (l : List Step). length l) (sym (lines_apart m ls i p k s d is below here apart)))
    (cases_eq k p)

-- who gets a line had room for it
pub has_room : (m : ℕ) (rows : List (List Step)) (rooms : List ℕ) (ls : List Step) (i p : ℕ) (s d : Step) → p ≤ m
    → scripted m p ≡ actor_of s → i < length ls → s ≡ get_or ls i d
    → ((k : ℕ) → k ≤ m → get_or rows k [] ≡ lines_of (scripted m k) (take i ls))
    → ((k : ℕ) → k ≤ m → get_or rooms k 0 ≡ length (lines_of (scripted m k) ls))
    → length (get_or rows p []) < get_or rooms p 0
has_room m rows rooms ls i p s d low is below here was each =
    let so_far = ap (λ (l : List Step). length l) (was p low) in
    let whole = each p low in
    let left = lines_room (scripted m p) ls i d below (mine m ls i p p s d is here refl) in
    omega (arith, so_far, whole, left)

-- a line more leaves the number of scripts
pub as_many : {V : Type 0} (f : V → List Step) (xs ys : List V) (p : ℕ) (l : List Step)
    → map f ys ≡ slice_set (map f xs) p l → length ys ≡ length xs
as_many {V} f xs ys p l is = sym (length-map ys f) ∙ ap (λ (r : List (List Step)). length r) is ∙ (simp length-set) ∙ length-map xs f

-- a line is added in one row
pub row_added : {V : Type 0} (f : V → List Step) (xs : List V) (p : ℕ) (v w : V) (s : Step) → p < length xs
    → v ≡ get_or xs p v → f w ≡ f v ++ s ∷ [] → map f (slice_set xs p w) ≡ slice_set (map f xs) p (get_or (map f xs) p [] ++ s ∷ [])
row_added {V} f xs p v w s row here added =
    map-set f xs p w ∙ ap (λ (l : List Step). slice_set (map f xs) p l)
    (added ∙ ap (λ (l : List Step). l ++ s ∷ []) (sym (get_or-map f xs p v [] row ∙ ap f (sym here))))

-- a row that is written keeps its room
pub room_kept : {V : Type 0} (f : V → ℕ) (xs : List V) (p : ℕ) (v w : V) → p < length xs → v ≡ get_or xs p v → f w ≡ f v
    → map f (slice_set xs p w) ≡ map f xs
room_kept {V} f xs p v w row here same =
    map-set f xs p w ∙ ap (λ (n : ℕ). slice_set (map f xs) p n)
    (same ∙ ap f here ∙ sym (get_or-map f xs p v 0 row)) ∙ set-get_or (map f xs) p 0

-- the row that is read has room left if the list of rows has it there
pub row_room : {V : Type 0} (f : V → List Step) (g : V → ℕ) (xs : List V) (p : ℕ) (v : V) → p < length xs → v ≡ get_or xs p v
    → length (get_or (map f xs) p []) < get_or (map g xs) p 0 → length (f v) < g v
row_room {V} f g xs p v row here room =
    let lines = ap (λ (l : List Step). length l) (get_or-map f xs p v [] row ∙ ap f (sym here)) in
    let most = get_or-map g xs p v 0 row ∙ ap g (sym here) in
    omega (arith, lines, most, room)
