-- Regions in a row give way to others: which objects stay.
use Rattle.regions.proofs.Common.{◌≡◌, ◌+◌, ◌/◌, ◌<◌, ◌≤◌, ◌⊎◌, ◌∷◌, ◌++◌, ℕ, zero, suc, Some, List, [], length, take, drop, get_or, refl}
use Rattle.regions.proofs.Common.{arith, inl, inr, Stored, Region, Free, Ordinary, First, Rest, Table, region_at, tile_in, object_at}
use Rattle.regions.proofs.Common.{with_regions, EachForwardedIn, HasObject}
use Rattle.regions.proofs.Tiles.Kept.{IsKept, same_object, each_kept}

pub EachForwardedIn-append : (P : ℕ → Type 0) (rs qs : List Region) → EachForwardedIn P rs
    → EachForwardedIn P qs → EachForwardedIn P (rs ++ qs)
EachForwardedIn-append P [] qs a b = b
EachForwardedIn-append P (Free ∷ rs) qs a b = EachForwardedIn-append P rs qs a b
EachForwardedIn-append P (Ordinary ts ∷ rs) qs a b = (a.0, EachForwardedIn-append P rs qs a.1 b)
EachForwardedIn-append P (First s ∷ rs) qs a b = EachForwardedIn-append P rs qs a b
EachForwardedIn-append P (Rest n ∷ rs) qs a b = EachForwardedIn-append P rs qs a b

pub EachForwardedIn-take : (P : ℕ → Type 0) (k : ℕ) (rs : List Region) → EachForwardedIn P rs → EachForwardedIn P (take k rs)
EachForwardedIn-take P (suc k) (Free ∷ rs) a = EachForwardedIn-take P k rs a
EachForwardedIn-take P (suc k) (Ordinary ts ∷ rs) a = (a.0, EachForwardedIn-take P k rs a.1)
EachForwardedIn-take P (suc k) (First s ∷ rs) a = EachForwardedIn-take P k rs a
EachForwardedIn-take P (suc k) (Rest n ∷ rs) a = EachForwardedIn-take P k rs a
EachForwardedIn-take P _ _ a = tt

pub EachForwardedIn-drop : (P : ℕ → Type 0) (k : ℕ) (rs : List Region) → EachForwardedIn P rs → EachForwardedIn P (drop k rs)
EachForwardedIn-drop P zero rs a = a
EachForwardedIn-drop P (suc k) [] a = tt
EachForwardedIn-drop P (suc k) (Free ∷ rs) a = EachForwardedIn-drop P k rs a
EachForwardedIn-drop P (suc k) (Ordinary ts ∷ rs) a = EachForwardedIn-drop P k rs a.1
EachForwardedIn-drop P (suc k) (First s ∷ rs) a = EachForwardedIn-drop P k rs a
EachForwardedIn-drop P (suc k) (Rest n ∷ rs) a = EachForwardedIn-drop P k rs a

-- outside the m regions from k on
abbrev pub IsOutside : ℕ → ℕ → ℕ → Type 0
IsOutside k m q = (q < k) ⊎ (k + m ≤ q)

past_block : (block rs : List Region) (m q : ℕ) → length block ≡ m → m ≤ q → m ≤ length rs
    → get_or (block ++ drop m rs) q Free ≡ get_or rs q Free
past_block [] rs m q e h l = let z : m ≡ 0 = omega arith in rw z refl
past_block (b ∷ block) (r ∷ rs) (suc m) (suc q) e h l = past_block block rs m q (omega arith) (omega arith) (omega arith)
past_block (b ∷ block) _ _ _ e h l = absurd (omega arith)

pub get_or-spliced : (rs block : List Region) (k m q n : ℕ) → length block ≡ m → n ≡ k + m → n ≤ length rs → IsOutside k m q
    → get_or (take k rs ++ (block ++ drop n rs)) q Free ≡ get_or rs q Free
get_or-spliced rs block zero m q n e a h o =
    let z : n ≡ m = omega arith in
    rw z (past_block block rs m q e (elim o [ inl x ↦ absurd (omega arith) | inr x ↦ omega arith ]) (omega arith))
get_or-spliced (r ∷ rs) block (suc k) m zero (suc n) e a h o = refl
get_or-spliced (r ∷ rs) block (suc k) m (suc q) (suc n) e a h o =
    get_or-spliced rs block k m q n e (omega arith) (omega arith) (elim o [ inl x ↦ inl (omega arith) | inr x ↦ inr (omega arith) ])
get_or-spliced _ block (suc k) m q _ e a h o = absurd (omega arith)

object_at-spliced : (t : Table) (k m : ℕ) (block : List Region) (x : ℕ) (s : Stored) → length block ≡ m → k + m ≤ length t.regions
    → IsOutside k m (x / t.words_per_region) → object_at t x ≡ Some s → object_at (with_regions t k m block) x ≡ Some s
unfolding object_at tile_in region_at
object_at-spliced t k m block x s e h o is = rw (get_or-spliced t.regions block k m (x / t.words_per_region) (k + m) e refl h o) is

-- each moved tile's target lies outside: it is kept
pub spliced_kept : (t : Table) (k m : ℕ) (block : List Region) (P : ℕ → Type 0) → length block ≡ m → k + m ≤ length t.regions
    → EachForwardedIn P t.regions → EachForwardedIn P block → ((x : ℕ) → P x → HasObject t x × IsOutside k m (x / t.words_per_region))
    → EachForwardedIn (IsKept t (with_regions t k m block)) (with_regions t k m block).regions
spliced_kept t k m block P e h g fresh out =
    let a : EachForwardedIn P (take k t.regions ++ (block ++ drop (k + m) t.regions)) =
    EachForwardedIn-append P (take k t.regions) (block ++ drop (k + m) t.regions) (EachForwardedIn-take P k t.regions g)
    (EachForwardedIn-append P block (drop (k + m) t.regions) fresh (EachForwardedIn-drop P (k + m) t.regions g)) in
    each_kept P t (with_regions t k m block)
    (λ x p. same_object t (with_regions t k m block) x (out x p).0
    (object_at-spliced t k m block x (out x p).0.object e h (out x p).1 (out x p).0.is)) a
