-- Words written in the place of others.
use Rattle.regions.proofs.Common.{◌≡◌, ◌+◌, ◌-◌, ◌≤◌, ◌∷◌, ◌++◌, ◌∙◌, ℕ, zero, suc, List, [], length, take, drop, refl, sym, ap, arith}
use Rattle.regions.proofs.Common.{zero-add, length-append, length-take, length-drop, append_assoc, drop-drop, take-append-drop, take_at}
use Rattle.regions.proofs.Common.{drop-take, put}
use Rattle.std.proofs.lemmas.List.{drop_at}

pub record IsPut (ws : List ℕ) (n : ℕ) (block : List ℕ) : Type 0 where
  pub length_is : length (put ws n block) ≡ length ws
  pub before : take n (put ws n block) ≡ take n ws
  pub at : take (length block) (drop n (put ws n block)) ≡ block
  pub after : drop (n + length block) (put ws n block) ≡ drop (n + length block) ws

pub put_is : (ws : List ℕ) (n : ℕ) (block : List ℕ) → n + length block ≤ length ws → IsPut ws n block
put_is ws zero block h = record {
  length_is = simp (length-append, length-drop) (omega arith);
  before = refl;
  at = take_at block _ (length block) refl;
  after = rw (zero-add (length block)) (drop_at block _ (length block) refl);
}
put_is [] (suc n) block h = absurd (omega arith)
put_is (w ∷ ws) (suc n) block h =
    let i = put_is ws n block (omega arith) in
    let e : suc n + length block ≡ suc (n + length block) = omega arith in
    record {
      length_is = ap suc i.length_is;
      before = ap (λ xs. w ∷ xs) i.before;
      at = i.at;
      after = rw e i.after;
    }

take_nil : (n : ℕ) → take n (let e : List ℕ = [] in e) ≡ []
take_nil zero = refl
take_nil (suc n) = refl

pub take_add : (a b : ℕ) (ws : List ℕ) → take (a + b) ws ≡ take a ws ++ take b (drop a ws)
take_add zero b ws = rw (zero-add b) refl
take_add (suc a) b [] = take_nil (suc a + b) ∙ sym (take_nil b)
take_add (suc a) b (w ∷ ws) =
    let e : suc a + b ≡ suc (a + b) = omega arith in
    rw e (ap (λ xs. w ∷ xs) (take_add a b ws))

pub put_drop : (ws : List ℕ) (n o : ℕ) (block : List ℕ) → n ≤ length ws → drop n (put ws (n + o) block) ≡ put (drop n ws) o block
put_drop ws zero o block h = rw (zero-add o) refl
put_drop [] (suc n) o block h = absurd (omega arith)
put_drop (w ∷ ws) (suc n) o block h = let e : suc n + o ≡ suc (n + o) = omega arith in rw e (put_drop ws n o block (omega arith))

pub put_take : (ws : List ℕ) (o used : ℕ) (block : List ℕ) → o + length block ≤ used → used ≤ length ws
    → take used (put ws o block) ≡ put (take used ws) o block
put_take ws zero used block h l =
    let rest : used ≡ length block + (used - length block) = omega arith in
    let e : take (length block + (used - length block)) (block ++ drop (length block) ws)
    ≡ block ++ take (used - length block) (drop (length block) ws) =
    take_add (length block) (used - length block) (block ++ drop (length block) ws)
    ∙ rw (take_at block (drop (length block) ws) (length block) refl, drop_at block (drop (length block) ws) (length block) refl) refl in
    let f : drop (length block) (take (length block + (used - length block)) ws) ≡ take (used - length block) (drop (length block) ws) =
    drop-take (length block) (used - length block) ws in
    rw (← rest) at (e ∙ ap (λ xs. block ++ xs) (sym f))
put_take (w ∷ ws) (suc o) (suc used) block h l = ap (λ xs. w ∷ xs) (put_take ws o used block (omega arith) (omega arith))
put_take _ (suc o) _ block h l = absurd (omega arith)

pub put_extend : (ws : List ℕ) (n m : ℕ) (block : List ℕ) → n + length block + m ≤ length ws
    → put ws n block ≡ put ws n (block ++ take m (drop (n + length block) ws))
put_extend ws zero m block h =
    let z : drop (0 + length block) ws ≡ drop (length block) ws = rw (zero-add (length block)) refl in
    let len : length (block ++ take m (drop (length block) ws)) ≡ length block + m =
    simp (length-append, length-take, length-drop) (omega arith) in
    let e : take m (drop (length block) ws) ++ drop m (drop (length block) ws) ≡ drop (length block) ws =
    take-append-drop m (drop (length block) ws) in
    let f : drop m (drop (length block) ws) ≡ drop (length block + m) ws = drop-drop m (length block) ws in
    rw (z, len, append_assoc, ← f, e) refl
put_extend [] (suc n) m block h = absurd (omega arith)
put_extend (w ∷ ws) (suc n) m block h =
    let e : suc n + length block ≡ suc (n + length block) = omega arith in
    rw e (ap (λ xs. w ∷ xs) (put_extend ws n m block (omega arith)))
