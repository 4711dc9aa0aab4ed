-- While each moved object's new place holds an object, a change that keeps the objects' places and sizes keeps the tiles.
use Rattle.regions.proofs.Common.{◌≡◌, ℕ, List, length, sym, ◌∙◌, ap, subst, Region, Table, EachForwardedIn, HasObject, HasTargets}
use Rattle.regions.proofs.Common.{sizes_in, table_of, table_by, IsTable, IsTableBy, AreRows, Row}
use Rattle.regions.proofs.Words.Places.{table_right, object_is_in}
use Rattle.heap_words.specs.Contents.{counted_size}
use Rattle.regions.proofs.Words.Sizes.{AgreeIn, EachForwardedIn-imp, regions-agree, AreRows-agree}
use Rattle.regions.proofs.Tiles.Kept.{IsKept}

pub record IsWrittenTable (size : ℕ) (words' : List ℕ) (rows : List Row) (t : Table) : Type 0 where
  pub is_table : IsTable size words' rows
  pub table_is : table_of size words' rows ≡ t

size_kept : (size : ℕ) (words words' : List ℕ) (rows rows' : List Row) (x : ℕ) → IsTable size words rows
    → IsTableBy (sizes_in words) size words' rows'
    → IsKept (table_of size words rows) (table_by (sizes_in words) size words' rows') x → sizes_in words' x ≡ sizes_in words x
size_kept size words words' rows rows' x g h k =
    let old = object_is_in (sizes_in words) size words rows x k.before (table_right g) k.before_is in
    let new = object_is_in (sizes_in words) size words' rows' x k.after h k.after_is in
    ap counted_size new.header_is ∙ k.size_is ∙ sym (ap counted_size old.header_is)

-- Words and rows that are right by the old sizes are right, if each moved tile's target is kept.
pub written_table : (size : ℕ) (words words' : List ℕ) (rows rows' : List Row) (t t' : Table) → IsTable size words rows
    → table_of size words rows ≡ t → length words' ≡ length words → length rows' ≡ length rows
    → AreRows (sizes_in words) size 0 words' rows' → table_by (sizes_in words) size words' rows' ≡ t'
    → EachForwardedIn (IsKept t t') t'.regions → IsWrittenTable size words' rows' t'
written_table size words words' rows rows' t t' g e l m right is kept =
    let f : (ℕ → ℕ) = sizes_in words in
    let u : Table = table_by f size words' rows' in
    let by_f : IsTableBy f size words' rows' = record {
      region_size = g.region_size;
      covers = l ∙ rw m g.covers;
      small = rw l g.small;
      rows_right = right;
    } in
    let kept' : EachForwardedIn (IsKept (table_of size words rows) u) u.regions =
    subst (λ (v : Table). EachForwardedIn (IsKept (table_of size words rows) v) v.regions) (sym is)
    (subst (λ (v : Table). EachForwardedIn (IsKept v t') t'.regions) (sym e) kept) in
    let agree : AgreeIn f (sizes_in words') u.regions =
    EachForwardedIn-imp (IsKept (table_of size words rows) u) (λ to. sizes_in words' to ≡ sizes_in words to) u.regions
    (λ to k. size_kept size words words' rows rows' to g by_f k) kept' in
    let same = regions-agree f (sizes_in words') size words' rows' agree in
    let whole : table_of size words' rows' ≡ t' = ap (λ (rs : List Region). record { words_per_region = size; regions = rs }) same ∙ is in
    let targets : HasTargets t' =
    EachForwardedIn-imp (IsKept t t') (HasObject t') t'.regions (λ to k. record { object = k.after; is = k.after_is }) kept in
    record {
      is_table = record {
        region_size = g.region_size;
        covers = by_f.covers;
        small = by_f.small;
        rows_right = AreRows-agree f (sizes_in words') size rows' 0 words' agree right;
        targets = subst (λ (v : Table). HasTargets v) (sym whole) targets;
      };
      table_is = whole;
    }
