-- A text without its cut last line.
use Rattle.std.proofs.Common.{◌≡◌, ℕ, Bool, true, false, cond, eqb, List, [], ◌∷◌, ◌++◌, refl, ap}
use Rattle.std.proofs.lemmas.List.Elements.{All-head, All-tail}
use Rattle.script_text.specs.Awaited.{has_feed, whole_lines}
use Rattle.script_text.proofs.Parts.FirstLines.{IsClear}

no_feed : (t : List ℕ) → IsClear t → has_feed t ≡ false
no_feed [] clear = refl
no_feed (b ∷ t) clear = rw (All-head (λ d. eqb d 10 ≡ false) b t clear) (no_feed t (All-tail (λ d. eqb d 10 ≡ false) b t clear))

or_true : (b x : Bool) → x ≡ true → cond b true x ≡ true
or_true true x e = refl
or_true false x e = e

feed_there : (front part : List ℕ) → has_feed (front ++ 10 ∷ part) ≡ true
feed_there [] part = refl
feed_there (b ∷ front) part = or_true (eqb b 10) (has_feed (front ++ 10 ∷ part)) (feed_there front part)

-- a text without a line feed has no whole line
pub no_whole : (part : List ℕ) → IsClear part → whole_lines part ≡ []
no_whole [] clear = refl
no_whole (b ∷ part) clear = rw (no_feed (b ∷ part) clear) refl

-- what is after the last line feed is cut off
pub whole_at : (front part : List ℕ) → IsClear part → whole_lines (front ++ 10 ∷ part) ≡ front ++ 10 ∷ []
whole_at [] part clear = ap (λ (t : List ℕ). 10 ∷ t) (no_whole part clear)
whole_at (b ∷ front) part clear = rw (feed_there (b ∷ front) part) (ap (λ (t : List ℕ). b ∷ t) (whole_at front part clear))

-- whole lines at the front stay
pub whole_front : (front x : List ℕ) → whole_lines (front ++ 10 ∷ x) ≡ front ++ 10 ∷ whole_lines x
whole_front [] x = refl
whole_front (b ∷ front) x = rw (feed_there (b ∷ front) x) (ap (λ (t : List ℕ). b ∷ t) (whole_front front x))
