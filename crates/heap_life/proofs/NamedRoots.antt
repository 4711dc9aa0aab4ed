-- The roots that aren't nil, one after another; an object's text.
use Rattle.std.proofs.Common.{◌≡◌, ◌∙◌, ◌+◌, ◌-◌, ◌<◌, ◌≤◌, ℕ, zero, suc, List, [], ◌∷◌, ◌++◌, Option, Some, None, length, take, drop}
use Rattle.std.proofs.Common.{ap, sym, refl, arith, inl, inr, drop-cons, add-one}
use Rattle.std.specs.Prelude.{IfSome, IsSome, codes, slice_index_or}
use Rattle.std.specs.Fmt.{decimal}
use Rattle.std.specs.List.{flat_map}
use Rattle.std.proofs.lemmas.Bool.{cases_lt}
use Rattle.std.proofs.lemmas.List.{drop_all}
use Rattle.root_table.specs.Roots.{AreNil, IsNextNamed}
use Rattle.heap_model.specs.Heap.{Stored}
use Rattle.script_text.specs.Texts.{Adds}
use Rattle.step_core.specs.Stands.{CoreState}
use Rattle.heap_dump.specs.Lists.{named}
use Rattle.heap_life.specs.Telling.{root_at, root_text}
use Rattle.heap_dump.specs.Fields.{fields_text}
use Rattle.heap_dump.specs.declared.fields.Spelling.TheVariants.{Page}
use Rattle.heap_life.specs.RegionTexts.{letter_text, progress_text, stored_text}
use Rattle.heap_dump.specs.declared.shares.Part.{Part}
use Rattle.heap_dump.proofs.Putting.{adds_at}

-- a place that holds nil is passed over
passed_nil : (ws : List (Option ℕ)) (from : ℕ) → from < length ws → slice_index_or ws from None ≡ None
    → named from (drop from ws) ≡ named (suc from) (drop (suc from) ws)
passed_nil ws from lt nil =
    ap (named from) (drop-cons ws from None lt ∙ ap (λ (w : Option ℕ). w ∷ drop (suc from) ws) nil)

skipped : (ws : List (Option ℕ)) (k from place : ℕ) → place ≡ k + from → place ≤ length ws → AreNil ws from place
    → named from (drop from ws) ≡ named place (drop place ws)
skipped ws zero from place is fits nil = ap (λ (n : ℕ). named n (drop n ws)) (let e : from ≡ place = omega arith in e)
skipped ws (suc k) from place is fits nil =
    passed_nil ws from (omega arith) (nil from (omega arith) (omega arith))
    ∙ skipped ws k (suc from) place (omega arith) fits (λ n low high. nil n (omega arith) high)

pub none_named : (ws : List (Option ℕ)) (from : ℕ) → AreNil ws from (length ws) → named from (drop from ws) ≡ []
none_named ws from nil =
    elim (cases_lt from (length ws)) [
      | inl lt ↦ skipped ws (length ws - from) from (length ws) (omega arith) (omega arith) nil
          ∙ ap (named (length ws)) (drop_all (length ws) ws (omega arith))
      | inr ge ↦ ap (named from) (drop_all from ws ge)
    ]

pub next_is : (ws : List (Option ℕ)) (from place : ℕ) → place < length ws → (next : IsNextNamed ws from place)
    → named from (drop from ws) ≡ (place, next.address) ∷ named (place + 1) (drop (place + 1) ws)
next_is ws from place lt next =
    skipped ws (place - from) from place (let low = next.from_on in omega arith) (omega arith) next.nil_before
    ∙ ap (named place) (drop-cons ws place None lt ∙ ap (λ (w : Option ℕ). w ∷ drop (suc place) ws) next.holds)
    ∙ ap (λ (n : ℕ). (place, next.address) ∷ named n (drop n ws)) (sym (add-one place))

one_less : (x : ℕ × ℕ) (xs : List (ℕ × ℕ)) (n m : ℕ) → n ≡ suc m → take n (x ∷ xs) ≡ x ∷ take m xs
one_less x xs n m e = ap (λ (k : ℕ). take k (x ∷ xs)) e

pub told_next : (ws : List (Option ℕ)) (from place count : ℕ) → place < length ws → count < 64 → IsNextNamed ws from place
    → flat_map root_text (take (64 - count) (named from (drop from ws)))
    ≡ root_at place (slice_index_or ws place None) ++ flat_map root_text (take (64 - (count + 1)) (named (place + 1) (drop (place + 1) ws)))
told_next ws from place count lt few next =
    ap (λ (l : List (ℕ × ℕ)). flat_map root_text (take (64 - count) l)) (next_is ws from place lt next)
    ∙ ap (flat_map root_text)
    (one_less (place, next.address) (named (place + 1) (drop (place + 1) ws)) (64 - count) (64 - (count + 1)) (omega arith))
    ∙ ap (λ (w : Option ℕ). root_at place w ++ flat_map root_text (take (64 - (count + 1)) (named (place + 1) (drop (place + 1) ws))))
    (sym next.holds)

pub told_none : (ws : List (Option ℕ)) (from n : ℕ) → AreNil ws from (length ws)
    → flat_map root_text (take n (named from (drop from ws))) ≡ []
told_none ws from n nil = ap (λ (l : List (ℕ × ℕ)). flat_map root_text (take n l)) (none_named ws from nil) ∙ nothing n
  where
    nothing : (n : ℕ) → flat_map root_text (take n []) ≡ []
    nothing zero = refl
    nothing (suc n) = refl

pub told_enough : (ws : List (Option ℕ)) (from n : ℕ) → n ≡ 0 → flat_map root_text (take n (named from (drop from ws))) ≡ []
told_enough ws from n e = ap (λ (k : ℕ). flat_map root_text (take k (named from (drop from ws)))) e

pub object_told : (c : CoreState) (a : ℕ) (part : Part) (name : ℕ) (o : Option Stored) → IsSome o → IfSome o (λ s. name ≡ s.name)
    → (x y : Option (List ℕ))
    → Adds x (decimal name ++ codes " " ++ letter_text part ++ progress_text c a ++ fields_text Page c a) y
    → Adds x (stored_text c a part o) y
object_told c a part name None some named x y h = absurd (cc)
object_told c a part name (Some s) some named x y h =
    adds_at (λ (n : ℕ). decimal n ++ codes " " ++ letter_text part ++ progress_text c a
    ++ fields_text Page c a) x y s.name name (sym named) h
