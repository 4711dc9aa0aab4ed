-- Which kept object has a name, tile by tile.
use Rattle.std.proofs.Common.{◌≡◌, ◌∙◌, ℕ, ◌+◌, ◌<◌, Option, Some, None, refl, sym, ap, subst, arith, inl, inr}
use Rattle.std.specs.Prelude.{IsSome, IfSome}
use Rattle.std.proofs.lemmas.Bool.{cases_lt, cases_eq}
use Rattle.heap_model.specs.Heap.{Stored}
use Rattle.regions.specs.Table.{Table, object_at}
use Rattle.step_core.specs.Stands.{CoreState, kept_of, name_of}
use Rattle.heap_walk.specs.Starts.{IsTileFrom, place_of}
use Rattle.heap_walk.specs.Kept.{IsKeptFrom, IsObjectOf}
use Rattle.heap_walk.proofs.Keeping.{kept_is, some_kept}
use Rattle.heap_walk.proofs.Placing.{onward, until}

-- none that starts below a place has the name
abbrev pub NoneNamed : CoreState → ℕ → ℕ → Type 0
NoneNamed c n end = (a : ℕ) → a < end → name_of (kept_of c a) ≡ Some n → ⊥

-- what has a name is kept
pub named_kept : (c : CoreState) (n a : ℕ) → name_of (kept_of c a) ≡ Some n → IsSome (kept_of c a)
named_kept c n a e = go (kept_of c a) e
  where
    go : (o : Option Stored) → name_of o ≡ Some n → IsSome o
    go None f = absurd (cc)
    go (Some s) f = refl

-- the name of a kept object
pub kept_named : (c : CoreState) (t : Table) (a m : ℕ) → t ≡ c.table → IsSome (kept_of c a) → IfSome (object_at t a) (λ s. m ≡ s.name)
    → name_of (kept_of c a) ≡ Some m
kept_named c t a m e h n =
    let (s, is) = some_kept c a h in
    let there : object_at t a ≡ Some s = rw e (kept_is c a s is) in
    let same : m ≡ s.name = subst (λ (o : Option Stored). IfSome o (λ s. m ≡ s.name)) there n in
    ap name_of is ∙ ap Some (sym same)

pub none_first : (c : CoreState) (n : ℕ) (o : Option ℕ) → IsTileFrom c.table 0 o → NoneNamed c n (place_of c.table o)
none_first c n o t = λ a low e. onward c 0 o t a (omega arith) low (named_kept c n a e)

pub none_next : (c : CoreState) (n : ℕ) (left o : Option ℕ) (at : ℕ) → o ≡ Some at → IsKeptFrom c (place_of c.table left) o
    → (next : Option ℕ) → IsTileFrom c.table (at + 1) next → (name_of (kept_of c at) ≡ Some n → ⊥) → NoneNamed c n (place_of c.table left)
    → NoneNamed c n (place_of c.table next)
none_next c n left o at is k next t other p = λ a low e. elim (cases_lt a (place_of c.table left)) [
  | inl lt ↦ p a lt e
  | inr ge ↦ elim (cases_lt a at) [
    | inl before ↦ until c (place_of c.table left) at o is k a (omega arith) before (named_kept c n a e)
    | inr after ↦ elim (cases_eq a at) [
      | inl same ↦ other (subst (λ (x : ℕ). name_of (kept_of c x) ≡ Some n) same e)
      | inr above ↦ onward c (at + 1) next t a (omega arith) low (named_kept c n a e)
    ]
  ]
]

pub none_left : (c : CoreState) (n : ℕ) (left o : Option ℕ) → o ≡ None → IsKeptFrom c (place_of c.table left) o
    → NoneNamed c n (place_of c.table left) → IsObjectOf c n None
none_left c n left None e k p = λ a named. elim (cases_lt a (place_of c.table left)) [
  | inl lt ↦ p a lt named
  | inr ge ↦ k a (omega arith) (named_kept c n a named)
]
none_left c n left (Some b) e k p = cc
