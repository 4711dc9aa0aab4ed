-- An actor's lines and the steps of its events, with one more.
use Rattle.std.proofs.Common.{◌≡◌, ℕ, suc, zero, ◌+◌, ◌<◌, ◌≤◌, Bool, true, false, cond, List, [], ◌∷◌, ◌++◌, refl, ap, sym, ◌∙◌}
use Rattle.std.proofs.Common.{length, take, drop, get_or, arith, append-nil}
use Rattle.std.proofs.lemmas.List.{take_more, length-append, take-append-drop}
use Rattle.step_core.specs.Steps.{Actor, Event, Step}
use Rattle.step_core.specs.Passages.{actor_of}
use Rattle.mutators.specs.Scripts.{same_actor, steps_of, lines_of}

pub steps_push_same : (a : Actor) (es : List Event) (e : Event) → same_actor a e.actor ≡ true
    → steps_of a (es ++ e ∷ []) ≡ steps_of a es ++ e.step ∷ []
steps_push_same a [] e same = rw same refl
steps_push_same a (x ∷ es) e same =
    elim (same_actor a x.actor) as
    (λ b. cond b (x.step ∷ steps_of a (es ++ e ∷ [])) (steps_of a (es ++ e ∷ []))
    ≡ cond b (x.step ∷ steps_of a es) (steps_of a es) ++ e.step ∷ [])
    [ true ↦ ap (λ l. x.step ∷ l) (steps_push_same a es e same) | false ↦ steps_push_same a es e same ]

pub steps_push_other : (a : Actor) (es : List Event) (e : Event) → same_actor a e.actor ≡ false → steps_of a (es ++ e ∷ []) ≡ steps_of a es
steps_push_other a [] e other = rw other refl
steps_push_other a (x ∷ es) e other =
    elim (same_actor a x.actor) as
    (λ b. cond b (x.step ∷ steps_of a (es ++ e ∷ [])) (steps_of a (es ++ e ∷ [])) ≡ cond b (x.step ∷ steps_of a es) (steps_of a es))
    [ true ↦ ap (λ l. x.step ∷ l) (steps_push_other a es e other) | false ↦ steps_push_other a es e other ]

lines_append : (a : Actor) (xs ys : List Step) → lines_of a (xs ++ ys) ≡ lines_of a xs ++ lines_of a ys
lines_append a [] ys = refl
lines_append a (x ∷ xs) ys =
    elim (same_actor a (actor_of x)) as
    (λ b. cond b (x ∷ lines_of a (xs ++ ys)) (lines_of a (xs ++ ys)) ≡ cond b (x ∷ lines_of a xs) (lines_of a xs) ++ lines_of a ys)
    [ true ↦ ap (λ l. x ∷ l) (lines_append a xs ys) | false ↦ lines_append a xs ys ]

lines_push : (a : Actor) (ls : List Step) (l : Step)
    → lines_of a (ls ++ l ∷ []) ≡ cond (same_actor a (actor_of l)) (lines_of a ls ++ l ∷ []) (lines_of a ls)
lines_push a ls l =
    lines_append a ls (l ∷ [])
    ∙ elim (same_actor a (actor_of l)) as
    (λ b. lines_of a ls ++ cond b (l ∷ []) [] ≡ cond b (lines_of a ls ++ l ∷ []) (lines_of a ls))
    [ true ↦ refl | false ↦ append-nil (lines_of a ls) ]

-- one line more is looked at
pub lines_take : (a : Actor) (ls : List Step) (i : ℕ) (d : Step) → i < length ls
    → lines_of a (take (i + 1) ls)
    ≡ cond (same_actor a (actor_of (get_or ls i d))) (lines_of a (take i ls) ++ get_or ls i d ∷ []) (lines_of a (take i ls))
lines_take a ls i d below = ap (λ r. lines_of a r) (take_more ls i d below) ∙ lines_push a (take i ls) (get_or ls i d)

pub lines_same : (a : Actor) (ls : List Step) (i : ℕ) (d : Step) → i < length ls → same_actor a (actor_of (get_or ls i d)) ≡ true
    → lines_of a (take (i + 1) ls) ≡ lines_of a (take i ls) ++ get_or ls i d ∷ []
lines_same a ls i d below same = lines_take a ls i d below ∙ rw same refl

pub lines_other : (a : Actor) (ls : List Step) (i : ℕ) (d : Step) → i < length ls → same_actor a (actor_of (get_or ls i d)) ≡ false
    → lines_of a (take (i + 1) ls) ≡ lines_of a (take i ls)
lines_other a ls i d below other = lines_take a ls i d below ∙ rw other refl

-- a line that is to come isn't among those so far
pub lines_room : (a : Actor) (ls : List Step) (i : ℕ) (d : Step) → i < length ls → same_actor a (actor_of (get_or ls i d)) ≡ true
    → length (lines_of a (take i ls)) < length (lines_of a ls)
lines_room a ls i d below same =
    let more = ap (λ (l : List Step). length l) (lines_same a ls i d below same)
    ∙ length-append (lines_of a (take i ls)) (get_or ls i d ∷ []) in
    let parts = ap (λ (l : List Step). length l)
    (ap (λ (l : List Step). lines_of a l) (sym (take-append-drop (i + 1) ls)) ∙ lines_append a (take (i + 1) ls) (drop (i + 1) ls))
    ∙ length-append (lines_of a (take (i + 1) ls)) (lines_of a (drop (i + 1) ls)) in
    omega (arith, more, parts)

pub lines_few : (a : Actor) (ls : List Step) (i : ℕ) → length (lines_of a (take i ls)) ≤ i
lines_few a ls zero = omega arith
lines_few a [] (suc i) = omega arith
lines_few a (l ∷ ls) (suc i) =
    let few = lines_few a ls i in
    elim (same_actor a (actor_of l)) as (λ b. length (cond b (l ∷ lines_of a (take i ls)) (lines_of a (take i ls))) ≤ suc i)
    [ true ↦ omega arith | false ↦ omega arith ]
