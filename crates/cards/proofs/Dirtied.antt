-- A mutator makes a card dirty: what is where, by cases, and what that keeps.
use Rattle.std.proofs.Common.{◌≡◌, ◌≢◌, ◌+◌, ◌<◌, if◌then◌else◌, ◌∷◌, ◌++◌, ◌∙◌, ℕ, true, false, eqb, List, [], length, set, All, lit<}
use Rattle.std.proofs.Common.{refl, sym, ap, arith, get_or-set_same, length-set, length-append, eq-eqb, ne_eqb, eqb-true, set-set}
use Rattle.std.proofs.lemmas.Bool.{eqb-false}
use Rattle.std.proofs.lemmas.List.Elements.{All-set}
use Rattle.cards.specs.Cards.{Cards, is_dirty, log_of, entered, sent, sent_if_full, dirtied}
use Rattle.cards.specs.Inside.{IsCounted}
use Rattle.cards.proofs.Listed.{IsCounted-entered, IsCounted-sent}

log_entered : (v : Cards) (m c : ℕ) (now : List ℕ) → m < length v.logs → now ≡ log_of v m ++ c ∷ [] → log_of (entered v m c) m ≡ now
log_entered v m c now known e = get_or-set_same v.logs m (log_of v m ++ c ∷ []) [] known ∙ sym e

pub dirtied_full : (v : Cards) (m c : ℕ) (now : List ℕ) → is_dirty v c ≡ false → m < length v.logs → now ≡ log_of v m ++ c ∷ []
    → length now ≡ 4
    → dirtied v m c ≡ record { dirty = set v.dirty c true; logs = set v.logs m []; queue = v.queue ++ now }
dirtied_full v m c now clean known e four =
    let log : log_of (entered v m c) m ≡ now = log_entered v m c now known e in
    let full : eqb (length (log_of (entered v m c) m)) 4 ≡ true = eq-eqb (length (log_of (entered v m c) m)) 4 (ap length log ∙ four) in
    rw (clean, full, log, set-set) refl

pub dirtied_short : (v : Cards) (m c : ℕ) (now : List ℕ) → is_dirty v c ≡ false → m < length v.logs → now ≡ log_of v m ++ c ∷ []
    → (length now ≡ 4 → ⊥)
    → dirtied v m c ≡ record { dirty = set v.dirty c true; logs = set v.logs m now; queue = v.queue }
dirtied_short v m c now clean known e short =
    let log : log_of (entered v m c) m ≡ now = log_entered v m c now known e in
    let full : eqb (length (log_of (entered v m c) m)) 4 ≡ false =
    ne_eqb (length (log_of (entered v m c) m)) 4 (λ q. short (sym (ap length log) ∙ q)) in
    rw (clean, full, ← e) refl

-- what holds of a dirty card's table, and after each of the two ways of making a clean card dirty
pub dirtied_cases : (P : Cards → Type 0) (v : Cards) (m c : ℕ) → (is_dirty v c ≡ true → P v)
    → (is_dirty v c ≡ false → P (sent_if_full (entered v m c) m)) → P (dirtied v m c)
dirtied_cases P v m c was clean =
    elim (is_dirty v c) as (λ b. is_dirty v c ≡ b → P (if b then v else sent_if_full (entered v m c) m)) [ true ↦ was | false ↦ clean ] refl

pub sent_cases : (P : Cards → Type 0) (t : Cards) (m : ℕ) → (length (log_of t m) ≡ 4 → P (sent t m))
    → ((length (log_of t m) ≡ 4 → ⊥) → P t) → P (sent_if_full t m)
sent_cases P t m full short =
    elim (eqb (length (log_of t m)) 4) as (λ b. eqb (length (log_of t m)) 4 ≡ b → P (if b then sent t m else t)) [
      | true ↦ λ e. full (eqb-true (length (log_of t m)) 4 e)
      | false ↦ λ e. short (eqb-false (length (log_of t m)) 4 e)
    ] refl

pub IsCounted-dirtied : (v : Cards) (m c : ℕ) → IsCounted v → m < length v.logs → c < length v.dirty → IsCounted (dirtied v m c)
IsCounted-dirtied v m c all known h =
    dirtied_cases IsCounted v m c (λ was. all) (λ clean.
    let more : IsCounted (entered v m c) = IsCounted-entered v m c all known h clean in
    sent_cases IsCounted (entered v m c) m
    (λ full. IsCounted-sent (entered v m c) m more (omega (arith, length-set v.logs m (log_of v m ++ c ∷ [])))) (λ short. more))

abbrev IsShort : Cards → Type 0
IsShort t = All (λ log. length log < 4) t.logs

below_four : (n k : ℕ) → n < 4 → k ≡ n + 1 → k ≢ 4 → k < 4
below_four n k h e ne = omega arith

pub IsShort-dirtied : (v : Cards) (m c : ℕ) → IsShort v → m < length v.logs → IsShort (dirtied v m c)
IsShort-dirtied v m c short known =
    dirtied_cases IsShort v m c (λ was. short) (λ clean.
    let now : List ℕ = log_of v m ++ c ∷ [] in
    let log : log_of (entered v m c) m ≡ now = log_entered v m c now known refl in
    sent_cases IsShort (entered v m c) m
    (λ full. rw set-set (All-set (λ log. length log < 4) v.logs m [] (lit< tt) short))
    (λ more. All-set (λ log. length log < 4) v.logs m now
    (below_four (length (log_of v m)) (length now) (short m [] known) (length-append (log_of v m) (c ∷ []))
    (λ q. more (ap length log ∙ q))) short))

pub length-dirtied : (v : Cards) (m c : ℕ) → length (dirtied v m c).dirty ≡ length v.dirty
length-dirtied v m c =
    dirtied_cases (λ t. length t.dirty ≡ length v.dirty) v m c (λ was. refl) (λ clean.
    sent_cases (λ t. length t.dirty ≡ length v.dirty) (entered v m c) m (λ full. length-set v.dirty c true)
    (λ short. length-set v.dirty c true))
