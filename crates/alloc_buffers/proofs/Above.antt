-- Which addresses lie at or above limits when objects are placed and regions are released.
use Rattle.regions.proofs.Common.{◌≡◌, ◌≢◌, ℕ, ◌+◌, ◌*◌, ◌/◌, ◌<◌, ◌≤◌, ◌⊎◌, Some, length, sym, ◌∙◌, ap, subst, arith, inl, inr, slice_get}
use Rattle.regions.proofs.Common.{cases_lt, cases_eq, Tile, Filler, tile_size, AreFitting, IsShaped, Table, used_of, top_of, kind_of}
use Rattle.regions.proofs.Common.{tile_in, released}
use Rattle.regions.specs.declared.row.Kind.TheVariants as kinds
use Rattle.regions.proofs.Tiles.Placing.{Pushed}
use Rattle.regions.proofs.Tiles.Released.{region_released, used_stays, kind_stays, row_within, tile_below_top, filler_within}
use Rattle.alloc_buffers.specs.declared.buffers.Buffer.{Buffer}
use Rattle.alloc_buffers.specs.Placement.{Buffers, BuffersStand, IsAbove, AreAbove}

-- no address is in two regions
one_region : (a i j size : ℕ) → 0 < size → i * size ≤ a → a < i * size + size → j * size ≤ a → a < j * size + size → j ≡ i
one_region a i j size z il ih jl jh = sym (row_within a j size z jl jh) ∙ row_within a i size z il ih

-- after an address in the same region
pub above_behind : (limit : ℕ → ℕ) (size k x y : ℕ) → 0 < size → k * size ≤ x → x ≤ y → y < k * size + size → IsAbove size limit x
    → IsAbove size limit y
above_behind limit size k x y z low le high above = λ j jl jh.
    let same = one_region y k j size z (omega arith) high jl jh in
    let at : limit k ≤ x = above k low (omega arith) in
    subst (λ (i : ℕ). limit i ≤ y) (sym same) (omega arith)

-- as much of each region is handed out as before
pub above_same : (t t' : Table) (b : Buffers) (limit : ℕ → ℕ) → t'.words_per_region ≡ t.words_per_region
    → length t'.regions ≡ length t.regions → ((k : ℕ) → used_of t' k ≡ used_of t k) → AreAbove t b limit → AreAbove t' b limit
above_same t t' b limit size count used above = record {
  tops = λ k h.
      let at = above.tops k (omega (arith, count)) in
      let bottom : k * t'.words_per_region ≡ k * t.words_per_region = ap (λ (w : ℕ). k * w) size in
      omega (arith, at, bottom, used k);
  buffers = λ m x e. subst (λ (w : ℕ). IsAbove w limit x.next) (sym size) (above.buffers m x e);
}

-- other buffers are open
pub above_buffers : (t : Table) (b b' : Buffers) (limit : ℕ → ℕ)
    → ((m : ℕ) (x : Buffer) → slice_get b'.open_buffers m ≡ Some (Some x) → IsAbove t.words_per_region limit x.next) → AreAbove t b limit
    → AreAbove t b' limit
above_buffers t b b' limit opened above = record { tops = above.tops; buffers = opened }

-- a tile is pushed at a region's top
pub above_pushed : (t t' : Table) (b : Buffers) (k a : ℕ) (tile : Tile) (limit : ℕ → ℕ) → Pushed t t' k a tile → AreAbove t b limit
    → IsAbove t.words_per_region limit a × AreAbove t' b limit
above_pushed t t' b k a tile limit p above =
    let size : ℕ = t.words_per_region in
    let room = p.room in
    let some = p.positive in
    let at = p.at in
    let top = above.tops k p.known in (
      λ j jl jh.
          let same = one_region a k j size (omega arith) (omega arith) (omega arith) jl jh in
          subst (λ (i : ℕ). limit i ≤ a) (sym same) (omega arith),
      record {
        tops = λ j h.
            let was = above.tops j (omega (arith, p.count)) in
            let bottom : j * t'.words_per_region ≡ j * size = ap (λ (w : ℕ). j * w) p.size in
            elim (cases_eq j k) [
              | inl e ↦
                  let more : used_of t' j ≡ used_of t j + tile_size tile = rw e p.used in
                  omega arith
              | inr n ↦ let same = p.used_others j n in omega arith
            ];
        buffers = λ m x e. subst (λ (w : ℕ). IsAbove w limit x.next) (sym p.size) (above.buffers m x e);
      },
    )

-- an address within a filler
pub above_filler : (t : Table) (limit : ℕ → ℕ) (x n j : ℕ) → 0 < t.words_per_region → AreFitting t → tile_in t x ≡ Some (Filler n) → j < n
    → IsAbove t.words_per_region limit x → IsAbove t.words_per_region limit (x + j)
above_filler t limit x n j z fitting e lt above =
    let size : ℕ = t.words_per_region in
    let k : ℕ = x / size in
    let low : k * size ≤ x = omega arith in
    let high : x < k * size + size = omega arith in
    let end = filler_within t x n k z fitting e low high in
    above_behind limit size k x (x + j) z low (omega arith) (omega arith) above

-- no open buffer is in a region above whose limit nothing is handed out
buffer_outside : (t : Table) (b : Buffers) (limit : ℕ → ℕ) (k m : ℕ) (x : Buffer) → IsShaped t → BuffersStand t b → AreAbove t b limit
    → kind_of t k ≡ kinds.Ordinary → limit k ≡ top_of t k → slice_get b.open_buffers m ≡ Some (Some x)
    → (x.next < k * t.words_per_region) ⊎ (k * t.words_per_region + t.words_per_region ≤ x.next)
buffer_outside t b limit k m x shaped stand above o full e =
    let size : ℕ = t.words_per_region in
    elim (cases_lt x.next (k * size)) [
      | inl lt ↦ inl lt
      | inr low ↦ elim (cases_lt x.next (k * size + size)) [
        | inl high ↦
            let f = stand.fillers m x e in
            let limited : limit k ≤ x.next = above.buffers m x e k low high in
            let below = tile_below_top t x.next k (Filler x.rest) shaped o low high f.filler in
            absurd (omega (arith, f.positive, limited, below, full))
        | inr past ↦ inr past
      ]
    ]

pub stand_released : (t : Table) (b : Buffers) (limit : ℕ → ℕ) (k : ℕ) → IsShaped t → BuffersStand t b → AreAbove t b limit
    → k < length t.regions
    → kind_of t k ≡ kinds.Ordinary → limit k ≡ top_of t k → b.current ≢ Some k → BuffersStand (released t k) b
stand_released t b limit k shaped stand above known o full other =
    let r = region_released t k shaped.positive known o in
    record {
      known = λ j e. let h = stand.known j e in omega (arith, h, r.count);
      ordinary = λ j e. kind_stays t (released t k) k j r (λ same. other (e ∙ ap Some same)) ∙ stand.ordinary j e;
      fillers = λ m x e.
          let f = stand.fillers m x e in
          record { positive = f.positive; filler = r.stays x.next (buffer_outside t b limit k m x shaped stand above o full e) ∙ f.filler };
      apart = stand.apart;
    }

pub above_released : (t : Table) (b : Buffers) (limit limit' : ℕ → ℕ) (k : ℕ) → IsShaped t → AreAbove t b limit → k < length t.regions
    → kind_of t k ≡ kinds.Ordinary → ((j : ℕ) → j ≢ k → limit' j ≡ limit j) → limit' k ≡ k * t.words_per_region
    → AreAbove (released t k) b limit'
above_released t b limit limit' k shaped above known o others here =
    let t' : Table = released t k in
    let r = region_released t k shaped.positive known o in
    record {
      tops = λ j h.
          let bottom : j * t'.words_per_region ≡ j * t.words_per_region = ap (λ (w : ℕ). j * w) r.size in
          elim (cases_eq j k) [
            | inl e ↦
                let low : limit' j ≡ j * t.words_per_region = rw e here in
                omega arith
            | inr n ↦
                let was = above.tops j (omega (arith, h, r.count)) in
                omega (arith, others j n, used_stays t t' k j r n)
          ];
      buffers = λ m x e. subst (λ (w : ℕ). IsAbove w limit' x.next) (sym r.size) (λ j low high. elim (cases_eq j k) [
        | inl q ↦
            let bottom : limit' j ≡ j * t.words_per_region = rw q here in
            omega arith
        | inr n ↦ let was = above.buffers m x e j low high in omega (arith, others j n)
      ]);
    }
