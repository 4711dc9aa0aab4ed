-- Lists after their titles.
use Rattle.std.proofs.Common.{◌≡◌, ◌≢◌, ℕ, List, Option, length, take, ap, arith, ne_eqb}
use Rattle.std.specs.Prelude.{codes}
use Rattle.std.specs.List.{flat_map}
use Rattle.std.proofs.lemmas.List.{take_all}
use Rattle.script_text.specs.Texts.{Adds, spaced_number}
use Rattle.heap_dump.proofs.Putting.{adds_as, then_adds}
use Rattle.heap_view.specs.Lists.{titled_line}

pub line_some : {A : Type 0} (title : List ℕ) (text : A → List ℕ) (xs : List A) (a b d e : Option (List ℕ)) → length xs ≢ 0
    → Adds a title b → Adds b (flat_map text xs) d → Adds d (codes "\n") e → Adds a (titled_line title text xs) e
line_some title text xs a b d e some p q r =
    rw (ne_eqb (length xs) 0 some) (then_adds a d e _ _ (then_adds a b d _ _ p q) r)

-- as many as there are
pub all_added : (xs : List ℕ) (n : ℕ) (a b : Option (List ℕ)) → n ≡ length xs → Adds a (flat_map spaced_number (take n xs)) b
    → Adds a (flat_map spaced_number xs) b
all_added xs n a b all p = adds_as a b _ _ (ap (flat_map spaced_number) (take_all n xs (omega arith))) p
