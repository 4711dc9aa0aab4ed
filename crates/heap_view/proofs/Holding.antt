-- Who names an object, line by line.
use Rattle.std.proofs.Common.{◌≡◌, ◌∙◌, ℕ, ◌-◌, ◌≤◌, List, [], ◌∷◌, ◌++◌, Option, length, refl, sym, ap, arith, ne_eqb}
use Rattle.std.specs.Prelude.{codes}
use Rattle.std.specs.List.{flat_map}
use Rattle.script_text.specs.Texts.{Adds}
use Rattle.regions.specs.Shaped.{IsShaped}
use Rattle.step_core.specs.Stands.{CoreState}
use Rattle.heap_walk.specs.Holders.{holders_at, place_count}
use Rattle.heap_walk.specs.declared.holders.Holder.{Holder}
use Rattle.heap_walk.proofs.Keeping.{kept_tile}
use Rattle.heap_walk.proofs.Placing.{at_object, nothing_if}
use Rattle.heap_walk.proofs.TileStarts.{tile_below}
use Rattle.heap_dump.proofs.Putting.{adds_as, then_adds}
use Rattle.heap_view.specs.Objects.{holder_line, holder_lines}

-- nothing names it from the last place on
pub no_holder : (c : CoreState) (n : ℕ) → IsShaped c.table → (x : ℕ) → place_count c ≤ x → holders_at c n x ≡ []
no_holder c n g x le =
    at_object c n x (omega (arith, le))
    ∙ nothing_if c n (x - length c.roots)
    (λ some. let b = tile_below c.table (x - length c.roots) g (kept_tile c (x - length c.roots) some) in omega (arith, b, le))

-- ---- lines
pub no_lines : (hs : List Holder) (a b : Option (List ℕ)) → hs ≡ [] → Adds a (codes "named by nothing\n") b → Adds a (holder_lines hs) b
no_lines hs a b e p = adds_as a b (codes "named by nothing\n") (holder_lines hs) (sym (ap holder_lines e)) p

lines_of : (h : Holder) (hs : List Holder) → holder_lines (h ∷ hs) ≡ codes "named by\n" ++ flat_map holder_line (h ∷ hs)
lines_of h hs = rw (ne_eqb (length (h ∷ hs)) 0 (λ e. absurd (omega (arith, e)))) refl

pub each_line : (hs rest : List Holder) (h : Holder) (a b d e : Option (List ℕ)) → hs ≡ h ∷ rest → Adds a (codes "named by\n") b
    → Adds b (holder_line h) d → Adds d (flat_map holder_line rest) e → Adds a (holder_lines hs) e
each_line hs rest h a b d e is p q r =
    adds_as a e (codes "named by\n" ++ (holder_line h ++ flat_map holder_line rest)) (holder_lines hs)
    (sym (ap holder_lines is ∙ lines_of h rest))
    (then_adds a b e _ _ p (then_adds b d e _ _ q r))
