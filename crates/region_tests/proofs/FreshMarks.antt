-- Tables and marks that tests build.
use Rattle.regions.proofs.Common.{◌≡◌, ◌*◌, ◌<◌, ◌∙◌, ℕ, Bool, false, List, length, get_or, replicate, ap, arith, length-replicate}
use Rattle.regions.proofs.Common.{length-map-range_with_len, get_or-map-range_with_len, Table}
use Rattle.mark_bitmap.specs.Tops.{bottoms}
use Rattle.mark_bitmap.specs.Kept.{MarksObjects}
use Rattle.mark_bitmap.proofs.ObjectLaws.{none_marked}

-- nothing is marked, and all tops are at the bottoms
pub fresh_objects : (t : Table) (count words : ℕ) (tops : List ℕ) (marks : List Bool)
    → count ≡ length t.regions → words ≡ t.words_per_region → tops ≡ bottoms count words
    → marks ≡ replicate (count * words) false → MarksObjects t tops marks
fresh_objects t count words tops marks regions size low none =
    let at : (k : ℕ) → k < length t.regions → get_or tops k 0 ≡ k * t.words_per_region = λ k h.
    ap (λ (l : List ℕ). get_or l k 0) low
    ∙ get_or-map-range_with_len (λ n. n * words) 0 count k k 0 (omega (arith, h, regions)) (omega arith) ∙ ap (λ n. k * n) size in
    let unmarked : (a : ℕ) → get_or marks a false ≡ false =
    λ a. ap (λ (l : List Bool). get_or l a false) none ∙ none_marked (count * words) a in
    record {
      each_region = ap length low ∙ length-map-range_with_len (λ n. n * words) 0 count ∙ regions;
      each_word =
          ap length none ∙ length-replicate (count * words) false ∙ ap (λ n. n * words) regions ∙ ap (λ n. length t.regions * n) size;
      bottom = λ k h. omega (arith, at k h);
      top = λ k h. omega (arith, at k h);
      object = λ a h. absurd (let e = unmarked a in cc);
      below = λ a h. absurd (let e = unmarked a in cc);
    }
