-- What is in the logs in all, as one of them changes.
use Rattle.std.proofs.Common.{inl, inr, ◌≡◌, ◌⊎◌, ℕ, zero, suc, ◌<◌, List, [], ◌∷◌, ◌++◌, length, set, refl, sym, ⊎_elim, arith}
use Rattle.std.specs.List.{Contains, concat}
use Rattle.std.proofs.lemmas.List.Elements.{Contains-append_left, Contains-append_right, Contains-append_cases, Contains-push}
use Rattle.std.proofs.lemmas.List.Elements.{Contains-push_cases}
use Rattle.satb_log.specs.Logs.{log_of, logged}

no_element : (b : ℕ) → Contains [] b → ⊥
no_element b h = omega (arith, h.1)

-- what one log holds
pub of_one : (logs : List (List ℕ)) (m b : ℕ) → Contains (log_of logs m) b → Contains (logged logs) b
of_one [] m b h = absurd (no_element b h)
of_one (log ∷ logs) zero b h = Contains-append_left log (concat logs) b h
of_one (log ∷ logs) (suc m) b h = Contains-append_right log (concat logs) b (of_one logs m b h)

-- where another list is in place of a log
pub stays : (logs : List (List ℕ)) (m : ℕ) (now : List ℕ) (b : ℕ) → Contains (logged logs) b
    → Contains (logged (set logs m now)) b ⊎ Contains (log_of logs m) b
stays [] m now b h = inl h
stays (log ∷ logs) zero now b h = elim (Contains-append_cases log (concat logs) b h) [
  | inl own ↦ inr own
  | inr other ↦ inl (Contains-append_right now (concat logs) b other)
]
stays (log ∷ logs) (suc m) now b h = elim (Contains-append_cases log (concat logs) b h) [
  | inl first ↦ inl (Contains-append_left log (concat (set logs m now)) b first)
  | inr other ↦ elim (stays logs m now b other) [
    | inl rest ↦ inl (Contains-append_right log (concat (set logs m now)) b rest)
    | inr own ↦ inr own
  ]
]

pub was_or_new : (logs : List (List ℕ)) (m : ℕ) (now : List ℕ) (b : ℕ) → Contains (logged (set logs m now)) b
    → Contains (logged logs) b ⊎ Contains now b
was_or_new [] m now b h = inl h
was_or_new (log ∷ logs) zero now b h = elim (Contains-append_cases now (concat logs) b h) [
  | inl own ↦ inr own
  | inr other ↦ inl (Contains-append_right log (concat logs) b other)
]
was_or_new (log ∷ logs) (suc m) now b h = elim (Contains-append_cases log (concat (set logs m now)) b h) [
  | inl first ↦ inl (Contains-append_left log (concat logs) b first)
  | inr other ↦ elim (was_or_new logs m now b other) [ inl rest ↦ inl (Contains-append_right log (concat logs) b rest) | inr own ↦ inr own ]
]

pub of_new : (logs : List (List ℕ)) (m : ℕ) (now : List ℕ) (b : ℕ) → m < length logs → Contains now b → Contains (logged (set logs m now)) b
of_new [] m now b known h = absurd (omega (arith, known))
of_new (log ∷ logs) zero now b known h = Contains-append_left now (concat logs) b h
of_new (log ∷ logs) (suc m) now b known h =
    Contains-append_right log (concat (set logs m now)) b (of_new logs m now b (omega (arith, known)) h)

-- an address more in one log
pub stays_logged : (logs : List (List ℕ)) (m a b : ℕ) → m < length logs → Contains (logged logs) b
    → Contains (logged (set logs m (log_of logs m ++ a ∷ []))) b
stays_logged logs m a b known h =
    let now : List ℕ = log_of logs m ++ a ∷ [] in
    ⊎_elim (λ k. k) (λ own. of_new logs m now b known (Contains-append_left (log_of logs m) (a ∷ []) b own)) (stays logs m now b h)

pub new_logged : (logs : List (List ℕ)) (m a : ℕ) → m < length logs → Contains (logged (set logs m (log_of logs m ++ a ∷ []))) a
new_logged logs m a known = of_new logs m (log_of logs m ++ a ∷ []) a known (Contains-push (log_of logs m) a)

pub only_logged : (logs : List (List ℕ)) (m a b : ℕ) → Contains (logged (set logs m (log_of logs m ++ a ∷ []))) b
    → Contains (logged logs) b ⊎ (b ≡ a)
only_logged logs m a b h = elim (was_or_new logs m (log_of logs m ++ a ∷ []) b h) [
  | inl was ↦ inl was
  | inr now ↦ elim (Contains-push_cases (log_of logs m) a b now) [ inl own ↦ inl (of_one logs m b own) | inr e ↦ inr (sym e) ]
]

-- a log that is emptied
pub only_rest : (logs : List (List ℕ)) (m b : ℕ) → Contains (logged (set logs m [])) b → Contains (logged logs) b
only_rest logs m b h = ⊎_elim (λ was. was) (λ none. absurd (no_element b none)) (was_or_new logs m [] b h)

-- all logs are empty
pub none_logged : (logs : List (List ℕ)) → ((m : ℕ) → m < length logs → log_of logs m ≡ []) → logged logs ≡ []
none_logged [] h = refl
none_logged (log ∷ logs) h =
    let first : log ≡ [] = h zero (omega arith) in
    let rest : concat logs ≡ [] = none_logged logs (λ m k. h (suc m) (omega (arith, k))) in
    rw (first, rest) refl
