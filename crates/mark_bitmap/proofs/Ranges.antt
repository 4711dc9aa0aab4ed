-- Which addresses lie in a region, and below its top.
use Rattle.regions.proofs.Common.{◌≡◌, ◌≢◌, ◌+◌, ◌*◌, ◌/◌, ◌%◌, ◌<◌, ◌≤◌, ◌∙◌, ℕ, true, false, List, length, get_or, set, ltb, leb}
use Rattle.regions.proofs.Common.{refl, sym, ap, arith, ⊎_elim, get_or-set_same, get_or-set_other, cases_lt, and_parts, ltb-true, leb-true}
use Rattle.regions.proofs.Common.{le-leb, lt-ltb, get_or_past}
use Rattle.mark_bitmap.specs.Tops.{is_in_region, is_below, LiesBelow}
pub use Rattle.regions.proofs.Words.Divides.{div_is}

div_low : (a n : ℕ) → 0 < n → a / n * n ≤ a
div_low a n z = let f : a / n * n + a % n ≡ a = omega arith in omega arith

div_high : (a n : ℕ) → 0 < n → a < a / n * n + n
div_high a n z = let f : a / n * n + a % n ≡ a = omega arith in omega arith

pub nth_region : (words k a : ℕ) → is_in_region words k a ≡ true → a / words ≡ k
nth_region words k a h =
    let p = and_parts (leb (k * words) a) (ltb a (k * words + words)) h in
    div_is a words k (leb-true (k * words) a p.0) (ltb-true a (k * words + words) p.1)

pub in_own_region : (words a : ℕ) → 0 < words → is_in_region words (a / words) a ≡ true
in_own_region words a z =
    rw (le-leb (a / words * words) a (div_low a words z), lt-ltb a (a / words * words + words) (div_high a words z)) refl

pub other_region : (words k a : ℕ) → 0 < words → is_in_region words k a ≡ false → a / words ≢ k
other_region words k a z h e =
    let own : is_in_region words k a ≡ true = ap (λ (n : ℕ). is_in_region words n a) (sym e) ∙ in_own_region words a z in
    cc

pub below_in : (words : ℕ) (tops : List ℕ) (k a : ℕ) → is_in_region words k a ≡ true → is_below words tops a ≡ ltb a (get_or tops k 0)
unfolding is_below
below_in words tops k a h = ap (λ (n : ℕ). ltb a (get_or tops n 0)) (nth_region words k a h)

pub lies_below : (words : ℕ) (tops : List ℕ) (a : ℕ) → 0 < words → is_below words tops a ≡ true → LiesBelow words tops a
unfolding is_below
lies_below words tops a z h =
    let below : a < get_or tops (a / words) 0 = ltb-true a (get_or tops (a / words) 0) h in
    record {
      region = a / words;
      known = ⊎_elim (λ b. b) (λ b. absurd (omega (arith, below, get_or_past tops (a / words) 0 b))) (cases_lt (a / words) (length tops));
      at_least = div_low a words z;
      less = div_high a words z;
      below = below;
    }

pub below_set_in : (words : ℕ) (tops : List ℕ) (k top a : ℕ) → k < length tops → is_in_region words k a ≡ true
    → is_below words (set tops k top) a ≡ ltb a top
below_set_in words tops k top a inside h =
    below_in words (set tops k top) k a h ∙ ap (λ (n : ℕ). ltb a n) (get_or-set_same tops k top 0 inside)

pub below_set_other : (words : ℕ) (tops : List ℕ) (k top a : ℕ) → 0 < words → is_in_region words k a ≡ false
    → is_below words (set tops k top) a ≡ is_below words tops a
unfolding is_below
below_set_other words tops k top a z h = ap (λ (n : ℕ). ltb a n) (get_or-set_other tops k (a / words) top 0 (other_region words k a z h))

-- an address in a region with a top at its bottom isn't below it
pub not_below_bottom : (words k a : ℕ) → is_in_region words k a ≡ true → ltb a (k * words) ≡ false
not_below_bottom words k a h =
    let p = and_parts (leb (k * words) a) (ltb a (k * words + words)) h in
    let low : k * words ≤ a = leb-true (k * words) a p.0 in
    elim (ltb a (k * words)) as (λ b. ltb a (k * words) ≡ b → b ≡ false)
    [ true ↦ λ e. absurd (omega (arith, ltb-true a (k * words) e)) | false ↦ λ e. refl ] refl
