-- A table and buffers that a test places in.
use Rattle.regions.proofs.Common.{◌≡◌, ℕ, length, sym, ◌∙◌, ap, subst, length-replicate, Table, HasNoForwarded, free_table}
use Rattle.std.proofs.Common.{Result, Ok, Err, IfOk, OnErr}
use Rattle.alloc_buffers.specs.Placement.{Buffers, BuffersStand, IsAllocation, closed}
use Rattle.alloc_buffers.specs.declared.placement.Allocation.{Allocation}
use Rattle.alloc_buffers.specs.declared.placement.Allocation.TheVariants as allocations

-- a table of regions of so many words, and the buffers of so many mutators
pub record IsReady (regions region words mutators : ℕ) (t : Table) (b : Buffers) : Type 0 where
  pub count : length b.open_buffers ≡ mutators
  pub region_count : length t.regions ≡ regions
  pub words_are : b.words ≡ words
  pub region_size : t.words_per_region ≡ region
  pub unmoved : HasNoForwarded t
  pub stand : BuffersStand t b

pub ready_new : (regions region words mutators : ℕ) (t : Table) (b : Buffers) → t ≡ free_table regions region → HasNoForwarded t
    → b ≡ closed words mutators → BuffersStand t b → IsReady regions region words mutators t b
unfolding free_table
ready_new regions region words mutators t b table none buffers stand = record {
  count = ap (λ (d : Buffers). length d.open_buffers) buffers ∙ length-replicate mutators _;
  region_count = ap (λ (u : Table). length u.regions) table ∙ length-replicate regions _;
  words_are = ap (λ (d : Buffers). d.words) buffers;
  region_size = ap (λ (u : Table). u.words_per_region) table;
  unmoved = none;
  stand = stand;
}

same_ready : (regions region words mutators : ℕ) (t t' : Table) (b b' : Buffers) → t' ≡ t → b' ≡ b
    → IsReady regions region words mutators t b → IsReady regions region words mutators t' b'
same_ready regions region words mutators t t' b b' table buffers ready =
    subst (λ (u : Table). IsReady regions region words mutators u b') (sym table)
    (subst (λ (d : Buffers). IsReady regions region words mutators t d) (sym buffers) ready)

pub ready_after : {E : Type 0} (r : Result Allocation E) (regions region words mutators size : ℕ) (t t' : Table) (b b' : Buffers)
    → IsReady regions region words mutators t b
    → IfOk r (λ p. IsAllocation t t' b b' size p) → OnErr r (t' ≡ t) → OnErr r (b' ≡ b) → IsReady regions region words mutators t' b'
ready_after (Ok (allocations.Filler a)) regions region words mutators size t t' b b' ready place table buffers =
    let placed = place.1 in
    record {
      count = placed.open_count ∙ ready.count;
      region_count = placed.count ∙ ready.region_count;
      words_are = placed.words ∙ ready.words_are;
      region_size = placed.region_size ∙ ready.region_size;
      unmoved = placed.unmoved;
      stand = placed.stand;
    }
ready_after (Ok (allocations.Run k count)) regions region words mutators size t t' b b' ready place table buffers =
    same_ready regions region words mutators t t' b b' place.1.table place.1.buffers ready
ready_after (Err e) regions region words mutators size t t' b b' ready place table buffers =
    same_ready regions region words mutators t t' b b' table buffers ready
