-- What a placement changes.
use Rattle.regions.proofs.Common.{◌≡◌, ◌≢◌, ◌+◌, ◌-◌, ◌*◌, ◌<◌, ◌≤◌, ◌⊎◌, ◌∷◌, ◌∙◌, ℕ, zero, suc, Option, Some, None, List, [], length}
use Rattle.regions.proofs.Common.{refl, sym, ap, subst, arith, inl, inr, slice_get, leb_tells, length-set, set-set, get_or-set_other}
use Rattle.regions.proofs.Common.{slice_get-get_or, replicate, cases_lt, cases_eq, le-leb, Tile, Filler, Object, tile_at, total_size}
use Rattle.regions.proofs.Common.{AreFitting, Table, Free, Ordinary, nth_region, region_kind, used_of, top_of, kind_of, first_free, taken}
use Rattle.regions.proofs.Common.{push_tile, replace_tile, remainder, tile_in, object_at, HasNoForwarded, tile_object, new_object}
use Rattle.std.specs.Prelude.{slice_set, slice_index_or}
use Rattle.heap_model.proofs.Lists.{get-set_cases, get-set_same, get-set_other}
use Rattle.regions.specs.declared.row.Kind.TheVariants as kinds
use Rattle.regions.proofs.Tiles.Placing.{remainder_total, remainder_positive, remainder_unmoved, Replaces, filler_replaced, Pushed}
use Rattle.regions.proofs.Tiles.Placing.{filler_push, region_taken}
use Rattle.regions.proofs.Tiles.Changes.{object_same}
use Rattle.regions.proofs.Tiles.Twice.{replaced_twice, filler_fitting}
use Rattle.regions.proofs.LongRuns.Blocks.{void_object}
use Rattle.alloc_buffers.proofs.Above.{above_same, above_buffers, above_pushed, above_filler}
use Rattle.alloc_buffers.specs.declared.buffers.Buffer.{Buffer}
use Rattle.alloc_buffers.specs.declared.placement.Allocation.TheVariants as allocations
use Rattle.alloc_buffers.specs.Placement.{Buffers, BuffersStand, HasFiller, IsAllocated, HasRoom, with_buffer, IsAbove, AreAbove}
use Rattle.alloc_buffers.specs.OpenBuffers.{buffer_of}
use Rattle.alloc_buffers.specs.Placement.{alone, room_for, in_new_buffer, closed, in_buffer, allocation_of, CanAllocate, IsMadeAt}

-- an open buffer is at its address
buffer_at : (next rest : ℕ) (x : Buffer) → buffer_of next rest ≡ Some x → (x.next ≡ next) × (x.rest ≡ rest) × (0 < rest)
buffer_at next zero x e = cc
buffer_at next (suc n) x e = let same : record { next = next; rest = suc n } ≡ x = cc in
    (sym (ap (λ (y : Buffer). y.next) same), sym (ap (λ (y : Buffer). y.rest) same), omega arith)

object_none : (t : Table) (y n : ℕ) → tile_in t y ≡ Some (Filler n) → object_at t y ≡ None
unfolding object_at
object_none t y n e = rw e refl

alone_void : (n j : ℕ) → tile_object (tile_at j (remainder n)) ≡ None
alone_void (suc n) (suc j) = elim (leb_tells (suc n) (suc j)) [ inl q ↦ rw q.0 refl | inr q ↦ rw q.0 refl ]
alone_void _ _ = refl

-- in a part of a filler that is split is no object
parts_void : (s r j : ℕ) → tile_object (tile_at j (Filler s ∷ remainder r)) ≡ None
parts_void s r zero = refl
parts_void s r (suc j) = elim (leb_tells s (suc j)) [ inl q ↦ rw q.0 (alone_void r (suc j - s)) | inr q ↦ rw q.0 refl ]

object_by : (t : Table) (y : ℕ) (o : Option Tile) → tile_in t y ≡ o → tile_object o ≡ None → object_at t y ≡ None
unfolding object_at
object_by t y o e v = ap tile_object e ∙ v

second_part : (s r : ℕ) → 0 < s → 0 < r → tile_at s (Filler s ∷ remainder r) ≡ Some (Filler r)
second_part (suc s) (suc r) p q =
    let z : suc s - suc s ≡ 0 = omega arith in
    elim (leb_tells (suc s) (suc s)) [ inl k ↦ rw (k.0, z) refl | inr k ↦ absurd (let lt = k.1 in omega arith) ]
second_part _ _ p q = absurd (omega arith)

set_cases : {A : Type 0} (xs : List A) (i j : ℕ) (v w : A) → slice_get (slice_set xs i v) j ≡ Some w
    → ((j ≡ i) × (w ≡ v)) ⊎ ((j ≢ i) × (slice_get xs j ≡ Some w))
set_cases xs i j v w e = elim (cases_eq j i) [
  | inl q ↦ elim (get-set_cases xs i j v w e) [
    | inl is ↦ inl (q, is)
    | inr was ↦ let same : slice_get (slice_set xs i v) j ≡ Some v =
        subst (λ (k : ℕ). slice_get (slice_set xs k v) j ≡ Some v) q (get-set_same xs j v w was) in inl (q, cc)
  ]
  | inr n ↦ inr (n, sym (get-set_other xs i j v (λ h. n (sym h))) ∙ e)
]

-- a filler at a region's top
top_placed : (t t1 t2 : Table) (b : Buffers) (k size a : ℕ) → BuffersStand t b → HasNoForwarded t → HasRoom t t1 k size
    → Pushed t1 t2 k a (Filler size) → IsAllocated t t2 b (record b { current = Some k }) size a
top_placed t t1 t2 b k size a s none r p =
    let apart : (m : ℕ) (x : Buffer) → slice_get b.open_buffers m ≡ Some (Some x) → x.next ≢ a = λ m x e h.
    let f = s.fillers m x e in
    let here : tile_in t a ≡ Some (Filler x.rest) = subst (λ (y : ℕ). tile_in t y ≡ Some (Filler x.rest)) h f.filler in
    let void : tile_in t a ≡ None = sym (r.tiles a) ∙ p.was in cc in
    record {
      filler = p.is;
      spare = apart;
      objects = λ y. elim (cases_eq y a) [
        | inl q ↦ rw q (object_none t2 a size p.is ∙ sym (void_object t a (sym (r.tiles a) ∙ p.was)))
        | inr n ↦ object_same t t2 y (p.others y n ∙ r.tiles y)
      ];
      unmoved = p.unmoved (r.unmoved none);
      region_size = p.size ∙ r.region_size;
      stand = record {
        known = λ j e. let same : k ≡ j = cc in rw (← same, p.count) r.known;
        ordinary = λ j e. let same : k ≡ j = cc in rw (← same) (p.kinds_same k ∙ r.ordinary);
        fillers = λ m x e. let f = s.fillers m x e in
            record { positive = f.positive; filler = p.others x.next (apart m x e) ∙ r.tiles x.next ∙ f.filler };
        apart = s.apart;
      };
      open_count = refl;
      words = refl;
      count = p.count ∙ r.count;
      in_use = λ j n h. r.in_use j n (sym (p.kinds_same j) ∙ h);
      kinds_stay = λ j n. p.kinds_same j ∙ r.kinds_stay j n;
      above = λ limit h.
          let same = above_same t t1 b limit r.region_size r.count r.used h in
          let more = above_pushed t1 t2 b k a (Filler size) limit p same in (
            subst (λ (n : ℕ). IsAbove n limit a) r.region_size more.0,
            above_buffers t2 b _ limit more.1.buffers more.1,
          );
    }

-- a region that was in use stays what it is when another one is taken
kind_taken : (t : Table) (k : ℕ) → first_free t ≡ Some k → (j : ℕ) → kind_of t j ≢ kinds.Free → kind_of (taken t (Some k)) j ≡ kind_of t j
unfolding kind_of nth_region
kind_taken t k first j n =
    elim (cases_eq j k) [
      | inl e ↦ absurd (n (ap (kind_of t) e ∙ (region_taken t k first).was))
      | inr e ↦ ap region_kind (get_or-set_other t.regions k j (Ordinary []) Free e)
    ]

pub fresh_is : (t t' : Table) (k n w : ℕ) → Some k ≡ first_free t → t' ≡ taken t (first_free t) → w ≤ t.words_per_region → n ≡ k
    → HasRoom t t' n w
fresh_is t t' k n w first is small same =
    let is' : t' ≡ taken t (Some k) = is ∙ ap (taken t) (sym first) in
    let u = region_taken t k (sym first) in
    let facts : HasRoom t (taken t (Some k)) k w = record {
      region_size = u.size;
      known = u.known;
      ordinary = u.ordinary;
      room = omega (arith, u.empty, u.size);
      unmoved = u.unmoved;
      kinds_same = u.kinds_same;
      in_use = u.in_use;
      kinds_stay = kind_taken t k (sym first);
      count = u.count;
      tiles = u.others;
      used = u.used;
    } in
    subst (λ (j : ℕ). HasRoom t t' j w) (sym same) (subst (λ (v : Table). HasRoom t v k w) (sym is') facts)

-- an object's filler at the start of a buffer
pub split_placed : (t t' : Table) (b : Buffers) (m size : ℕ) (x : Buffer) → BuffersStand t b → HasNoForwarded t → 0 < t.words_per_region
    → AreFitting t → slice_get b.open_buffers m ≡ Some (Some x) → 0 < size → size ≤ x.rest
    → t' ≡ replace_tile t x.next (Filler size ∷ remainder (x.rest - size))
    → IsAllocated t t' b (with_buffer b b.current m (buffer_of (x.next + size) (x.rest - size))) size x.next
split_placed t t' b m size x s none z fitting here p le is =
    let n : ℕ = x.rest in
    let r : ℕ = x.rest - size in
    let f = s.fillers m x here in
    let total : total_size (Filler size ∷ remainder r) ≡ n = omega (arith, remainder_total r) in
    let w' = filler_replaced t x.next n (Filler size ∷ remainder r) z fitting f.filler f.positive (p, remainder_positive r) total
    (remainder_unmoved r) in
    let w : Replaces t t' x.next n (Filler size ∷ remainder r) =
    subst (λ (u : Table). Replaces t u x.next n (Filler size ∷ remainder r)) (sym is) w' in
    let start : x.next + 0 ≡ x.next = omega arith in
    let first : tile_in t' x.next ≡ Some (Filler size) = ap (tile_in t') (sym start) ∙ w.within 0 f.positive in
    let fresh : (y : Buffer) → buffer_of (x.next + size) r ≡ Some y → HasFiller t' y = λ y e.
    let at = buffer_at (x.next + size) r y e in
    let lt : size < n = omega (arith, at.2) in
    record {
      positive = omega (arith, at.1, at.2);
      filler = ap (tile_in t') at.0 ∙ w.within size lt ∙ second_part size r p at.2 ∙ ap (λ (j : ℕ). Some (Filler j)) (sym at.1);
    } in
    let off : (j : ℕ) (y : Buffer) → j ≢ m → slice_get b.open_buffers j ≡ Some (Some y)
    → (y.next < x.next) ⊎ (x.next + n ≤ y.next) = λ j y ne e.
    let g = s.fillers j y e in
    elim (cases_lt y.next x.next) [
      | inl lt ↦ inl lt
      | inr ge ↦ elim (cases_lt y.next (x.next + n)) [
        | inl lt ↦ absurd (elim (cases_eq y.next x.next) [
          | inl same ↦ ne (s.apart j m y x e here same)
          | inr differ ↦
              let at : x.next + (y.next - x.next) ≡ y.next = omega arith in
              let void : tile_in t y.next ≡ None = ap (tile_in t) (sym at) ∙ w.inside (y.next - x.next) (omega arith) (omega arith) in
              let filler = g.filler in cc
        ])
        | inr past ↦ inr past
      ]
    ] in
    record {
      filler = first;
      spare = λ j y e. elim (set_cases b.open_buffers m j (buffer_of (x.next + size) r) (Some y) e) [
        | inl q ↦ λ h. let at = buffer_at (x.next + size) r y (sym q.1) in omega (arith, at.0)
        | inr q ↦ λ h. q.0 (s.apart j m y x q.1 here h)
      ];
      objects = λ y. elim (cases_lt y x.next) [
        | inl lt ↦ object_same t t' y (w.others y (inl lt))
        | inr ge ↦ elim (cases_lt y (x.next + n)) [
          | inl lt ↦
              let at : x.next + (y - x.next) ≡ y = omega arith in
              let after : object_at t' y ≡ None =
              object_by t' y _ (ap (tile_in t') (sym at) ∙ w.within (y - x.next) (omega arith)) (parts_void size r (y - x.next)) in
              let before : object_at t y ≡ None = elim (cases_eq y x.next) [
                | inl same ↦ object_none t y n (ap (tile_in t) same ∙ f.filler)
                | inr differ ↦ void_object t y (ap (tile_in t) (sym at) ∙ w.inside (y - x.next) (omega arith) (omega arith))
              ] in
              after ∙ sym before
          | inr past ↦ object_same t t' y (w.others y (inr past))
        ]
      ];
      unmoved = w.unmoved none;
      region_size = w.size;
      stand = record {
        known = λ k e. rw w.count (s.known k e);
        ordinary = λ k e. w.kinds_same k ∙ s.ordinary k e;
        fillers = λ j y e. elim (set_cases b.open_buffers m j (buffer_of (x.next + size) r) (Some y) e) [
          | inl q ↦ fresh y (sym q.1)
          | inr q ↦ let g = s.fillers j y q.1 in record { positive = g.positive; filler = w.others y.next (off j y q.0 q.1) ∙ g.filler }
        ];
        apart = λ i j y u ey eu h. elim (set_cases b.open_buffers m i (buffer_of (x.next + size) r) (Some y) ey) [
          | inl q ↦ elim (set_cases b.open_buffers m j (buffer_of (x.next + size) r) (Some u) eu) [
            | inl v ↦ q.0 ∙ sym v.0
            | inr v ↦ absurd (between y u j (sym q.1) h v.0 v.1)
          ]
          | inr q ↦ elim (set_cases b.open_buffers m j (buffer_of (x.next + size) r) (Some u) eu) [
            | inl v ↦ absurd (between u y i (sym v.1) (sym h) q.0 q.1)
            | inr v ↦ s.apart i j y u q.1 v.1 h
          ]
        ];
      };
      open_count = length-set b.open_buffers m _;
      words = refl;
      count = w.count;
      in_use = λ j n h. n (sym (w.kinds_same j) ∙ h);
      kinds_stay = λ j n. w.kinds_same j;
      above = λ limit h.
          let old : IsAbove t.words_per_region limit x.next = h.buffers m x here in
          let same = above_same t t' b limit w.size w.count w.used h in (
            old,
            above_buffers t' b (with_buffer b b.current m (buffer_of (x.next + size) r)) limit
                (λ j y e. elim (set_cases b.open_buffers m j (buffer_of (x.next + size) r) (Some y) e) [
                  | inl q ↦
                      let at = buffer_at (x.next + size) r y (sym q.1) in
                      let lt : size < n = omega (arith, at.1, at.2) in
                      let behind = above_filler t limit x.next n size z fitting f.filler lt old in
                      subst (λ (i : ℕ). IsAbove t'.words_per_region limit i) (sym at.0)
                      (subst (λ (i : ℕ). IsAbove i limit (x.next + size)) (sym w.size) behind)
                  | inr q ↦ same.buffers j y q.1
                ]) same,
          );
    }
  where
    between : (y u : Buffer) (j : ℕ) → buffer_of (x.next + size) (x.rest - size) ≡ Some y → y.next ≡ u.next → j ≢ m
        → slice_get b.open_buffers j ≡ Some (Some u) → ⊥
    between y u j e h ne eu =
        let at = buffer_at (x.next + size) (x.rest - size) y e in
        let g = s.fillers j u eu in
        let f = s.fillers m x here in
        let total : total_size (Filler size ∷ remainder (x.rest - size)) ≡ x.rest = omega (arith, remainder_total (x.rest - size)) in
        let w = filler_replaced t x.next x.rest (Filler size ∷ remainder (x.rest - size)) z fitting f.filler f.positive
        (p, remainder_positive (x.rest - size)) total (remainder_unmoved (x.rest - size)) in
        let place : x.next + size ≡ u.next = sym at.0 ∙ h in
        let void : tile_in t u.next ≡ None = ap (tile_in t) (sym place) ∙ w.inside size p (omega (arith, at.2)) in
        let filler = g.filler in cc

-- an object of its own at a region's top, by the steps that push its filler
pub alone_placed : (t t1 t2 : Table) (c b : Buffers) (n k size a : ℕ) → c ≡ b → BuffersStand t b → HasNoForwarded t → HasRoom t t1 k size
    → n ≡ k → 0 < t1.words_per_region → AreFitting t1 → 0 < size → a ≡ n * t1.words_per_region + used_of t1 n
    → t2 ≡ push_tile t1 n (Filler size)
    → IsAllocated t t2 b (record { words = c.words; current = Some k; open_buffers = c.open_buffers }) size a
alone_placed t t1 t2 c b n k size a e s none r same z fitting p at is =
    let push = filler_push t1 k (Filler size) z fitting r.known r.ordinary p r.room tt in
    let at' : k * t1.words_per_region + used_of t1 k ≡ a = ap (λ (j : ℕ). j * t1.words_per_region + used_of t1 j) (sym same) ∙ sym at in
    let is' : push_tile t1 k (Filler size) ≡ t2 = ap (λ (j : ℕ). push_tile t1 j (Filler size)) (sym same) ∙ sym is in
    let pushed : Pushed t1 t2 k a (Filler size) =
    subst (λ (j : ℕ). Pushed t1 t2 k j (Filler size)) at'
    (subst (λ (u : Table). Pushed t1 u k (k * t1.words_per_region + used_of t1 k) (Filler size)) is' push) in
    subst (λ (d : Buffers). IsAllocated t t2 b (record { words = d.words; current = Some k; open_buffers = d.open_buffers }) size a) (sym e)
    (top_placed t t1 t2 b k size a s none r pushed)

pub alone_is : (t t1 t2 : Table) (c b : Buffers) (n k size a : ℕ) → c ≡ b → n ≡ k
    → room_for t c.current size ≡ Some (record { region = k; table = t1 }) → a ≡ n * t1.words_per_region + used_of t1 n
    → t2 ≡ push_tile t1 n (Filler size)
    → alone b size (room_for t b.current size) ≡ Some
    (record {
      place = allocations.Filler a;
      table = t2;
      buffers = record { words = c.words; current = Some k; open_buffers = c.open_buffers };
    })
alone_is t t1 t2 c b n k size a e same is at push =
    ap (λ (d : Buffers). alone d size (room_for t d.current size)) (sym e) ∙ ap (alone c size) is ∙ rw (at, push, same) refl

pub inside_placed : (t t' : Table) (c b : Buffers) (m size at next a : ℕ) (x : Buffer) (v : Option Buffer) → c ≡ b → BuffersStand t b
    → HasNoForwarded t → 0 < t.words_per_region → AreFitting t → slice_get b.open_buffers m ≡ Some (Some x) → 0 < size → size ≤ x.rest
    → at ≡ x.next → t' ≡ replace_tile t at (Filler size ∷ remainder (x.rest - size)) → next ≡ at + size
    → v ≡ buffer_of next (x.rest - size) → a ≡ x.next
    → IsAllocated t t' b (record { words = c.words; current = c.current; open_buffers = slice_set c.open_buffers m v }) size a
inside_placed t t' c b m size at next a x v e s none z fitting here p le at_is is next_is v_is a_is =
    let is' : t' ≡ replace_tile t x.next (Filler size ∷ remainder (x.rest - size)) =
    is ∙ ap (λ (j : ℕ). replace_tile t j (Filler size ∷ remainder (x.rest - size))) at_is in
    let v' : v ≡ buffer_of (x.next + size) (x.rest - size) =
    v_is ∙ ap (λ (j : ℕ). buffer_of j (x.rest - size)) (next_is ∙ ap (λ (j : ℕ). j + size) at_is) in
    let w = split_placed t t' b m size x s none z fitting here p le is' in
    let w1 : IsAllocated t t' b (with_buffer b b.current m v) size x.next =
    subst (λ (u : Option Buffer). IsAllocated t t' b (with_buffer b b.current m u) size x.next) (sym v') w in
    let w2 : IsAllocated t t' b (with_buffer c c.current m v) size x.next =
    subst (λ (d : Buffers). IsAllocated t t' b (with_buffer d d.current m v) size x.next) (sym e) w1 in
    subst (λ (j : ℕ). IsAllocated t t' b (with_buffer c c.current m v) size j) (sym a_is) w2

-- a filler that is no buffer's becomes one
module _ (u : Table) (b : Buffers) (m a rest : ℕ) (some : 0 < rest) (filler : tile_in u a ≡ Some (Filler rest))
    (spare : (j : ℕ) (x : Buffer) → slice_get b.open_buffers j ≡ Some (Some x) → x.next ≢ a) where
  abbrev fresh : Buffer
  fresh = record { next = a; rest = rest }

  abbrev opened : Buffers
  opened = with_buffer b b.current m (Some fresh)

  -- an open buffer is that one, or it was open
  open_cases : (j : ℕ) (x : Buffer) → slice_get opened.open_buffers j ≡ Some (Some x)
      → ((j ≡ m) × (fresh ≡ x)) ⊎ (slice_get b.open_buffers j ≡ Some (Some x))
  open_cases j x e = elim (set_cases b.open_buffers m j (Some fresh) (Some x) e) [
    | inl q ↦ inl (q.0, let h = q.1 in cc)
    | inr q ↦ inr q.1
  ]

  opened_stand : BuffersStand u b → BuffersStand u opened
  opened_stand s = record {
    known = s.known;
    ordinary = s.ordinary;
    fillers = λ j x e. elim (open_cases j x e) [
      | inl q ↦ subst (HasFiller u) q.1 (record { positive = some; filler = filler })
      | inr q ↦ s.fillers j x q
    ];
    apart = λ i j x y ex ey h. elim (open_cases i x ex) [
      | inl p ↦ elim (open_cases j y ey) [
        | inl q ↦ p.0 ∙ sym q.0
        | inr q ↦ absurd (spare j y q (sym h ∙ sym (ap (λ (z : Buffer). z.next) p.1)))
      ]
      | inr p ↦ elim (open_cases j y ey) [
        | inl q ↦ absurd (spare i x p (h ∙ sym (ap (λ (z : Buffer). z.next) q.1)))
        | inr q ↦ s.apart i j x y p q h
      ]
    ];
  }

  opened_above : (limit : ℕ → ℕ) → IsAbove u.words_per_region limit a → AreAbove u b limit → AreAbove u opened limit
  opened_above limit at above = above_buffers u b opened limit (λ j x e. elim (open_cases j x e) [
    | inl q ↦ subst (λ (y : Buffer). IsAbove u.words_per_region limit y.next) q.1 at
    | inr q ↦ above.buffers j x q
  ]) above

-- an object's filler at the start of a new buffer, which was placed as one filler
pub new_placed : (t u t' : Table) (b b1 : Buffers) (m w size a next : ℕ) (v : Option Buffer) → IsAllocated t u b b1 w a
    → m < length b1.open_buffers → 0 < u.words_per_region → AreFitting u → 0 < size → size ≤ w
    → t' ≡ replace_tile u a (Filler size ∷ remainder (w - size)) → next ≡ a + size → v ≡ buffer_of next (w - size)
    → IsAllocated t t' b (with_buffer b1 b1.current m v) size a
new_placed t u t' b b1 m w size a next v first known z fitting p le is next_is v_is =
    let some : 0 < w = omega arith in
    let x : Buffer = record { next = a; rest = w } in
    let b2 : Buffers = with_buffer b1 b1.current m (Some x) in
    let here : slice_get b2.open_buffers m ≡ Some (Some x) =
    get-set_same b1.open_buffers m (Some x) _ (slice_get-get_or b1.open_buffers m None known) in
    let v' : buffer_of (a + size) (w - size) ≡ v = sym (v_is ∙ ap (λ (j : ℕ). buffer_of j (w - size)) next_is) in
    let s = split_placed u t' b2 m size x (opened_stand u b1 m a w some first.filler first.spare first.stand) first.unmoved z fitting here p
    le is in
    let all : IsAllocated t t' b (with_buffer b2 b2.current m (buffer_of (a + size) (w - size))) size a = record {
      filler = s.filler;
      spare = s.spare;
      objects = λ y. s.objects y ∙ first.objects y;
      unmoved = s.unmoved;
      region_size = s.region_size ∙ first.region_size;
      stand = s.stand;
      open_count = s.open_count ∙ length-set b1.open_buffers m (Some x) ∙ first.open_count;
      words = first.words;
      count = s.count ∙ first.count;
      in_use = λ j n. s.in_use j (first.in_use j n);
      kinds_stay = λ j n. s.kinds_stay j (first.in_use j n) ∙ first.kinds_stay j n;
      above = λ limit h.
          let old = first.above limit h in
          let at : IsAbove u.words_per_region limit a = subst (λ (n : ℕ). IsAbove n limit a) (sym first.region_size) old.0 in
          (old.0, (s.above limit (opened_above u b1 m a w some first.filler first.spare limit at old.1)).1);
    } in
    subst (λ (opens : List (Option Buffer)).
    IsAllocated t t' b (record { words = b1.words; current = b1.current; open_buffers = opens }) size a)
    (set-set b1.open_buffers m (Some x) (buffer_of (a + size) (w - size)) ∙ ap (slice_set b1.open_buffers m) v') all

pub in_new_is : (t t1 u t' : Table) (c b : Buffers) (m n k size a next : ℕ) (v : Option Buffer) → c ≡ b → n ≡ k
    → room_for t c.current c.words ≡ Some (record { region = k; table = t1 }) → a ≡ n * t1.words_per_region + used_of t1 n
    → u ≡ push_tile t1 n (Filler c.words) → t' ≡ replace_tile u a (Filler size ∷ remainder (c.words - size)) → next ≡ a + size
    → v ≡ buffer_of next (c.words - size)
    → in_new_buffer b m size (room_for t b.current b.words) ≡ Some
    (record {
      place = allocations.Filler a;
      table = t';
      buffers = record { words = c.words; current = Some k; open_buffers = slice_set c.open_buffers m v };
    })
in_new_is t t1 u t' c b m n k size a next v e same is at push split next_is v_is =
    ap (λ (d : Buffers). in_new_buffer d m size (room_for t d.current d.words)) (sym e) ∙ ap (in_new_buffer c m size) is
    ∙ rw (v_is, next_is, split, push, at, same) refl

none_open : (n m : ℕ) (x : Buffer) → slice_get (replicate {A = Option Buffer} n None) m ≡ Some (Some x) → ⊥
none_open (suc n) (suc m) x e = none_open n m x e
none_open _ _ x e = cc

-- where no buffer is open and no region is current, buffers stand in every table
pub closed_stand : (t : Table) (words mutators : ℕ) → BuffersStand t (closed words mutators)
closed_stand t words mutators = record {
  known = λ k h. absurd (cc);
  ordinary = λ k h. absurd (cc);
  fillers = λ m x h. absurd (none_open mutators m x h);
  apart = λ m n x y h k q. absurd (none_open mutators m x h);
}

-- where no buffer is open, the tops are all that is to be handed out
pub retired_above : (t : Table) (b : Buffers) (n : ℕ) (limit : ℕ → ℕ) → b.open_buffers ≡ replicate n None
    → ((k : ℕ) → k < length t.regions → limit k ≤ top_of t k) → AreAbove t b limit
retired_above t b n limit is tops = record {
  tops = tops;
  buffers = λ m x e. absurd (none_open n m x (subst (λ (opens : List (Option Buffer)). slice_get opens m ≡ Some (Some x)) is e));
}

get_or-get : {A : Type 0} (xs : List A) (i : ℕ) (d x : A) → slice_get xs i ≡ Some x → slice_index_or xs i d ≡ x
get_or-get (y ∷ xs) (suc i) d x e = get_or-get xs i d x e
get_or-get _ _ d x e = cc

placed_open : (t : Table) (b : Buffers) (m size : ℕ) (x : Buffer) → 2 * size ≤ t.words_per_region
    → slice_index_or b.open_buffers m None ≡ Some x → size ≤ x.rest → allocation_of t b m size ≡ Some (in_buffer t b m size x)
placed_open t b m size x half here room = rw (le-leb (2 * size) t.words_per_region half, here, le-leb size x.rest room) refl

-- an object made over the start of an open buffer's filler is made in its place
pub inside_made : (t t' : Table) (b b' : Buffers) (m size name p weak d a n : ℕ) (x : Buffer) → 0 < t.words_per_region → AreFitting t
    → CanAllocate t b size → slice_get b.open_buffers m ≡ Some (Some x) → size ≤ x.rest → 2 * size ≤ t.words_per_region
    → size ≡ 2 + p + weak + d → a ≡ x.next → n ≡ x.rest
    → t' ≡ replace_tile t a (Object (new_object name p weak d) ∷ remainder (n - (2 + p + weak + d)))
    → b' ≡ with_buffer b b.current m (buffer_of (x.next + size) (x.rest - size))
    → IsMadeAt t t' b b' m size (new_object name p weak d) a (in_buffer t b m size x)
inside_made t t' b b' m size name p weak d a n x z fitting ready opened room half long at_is n_is made cut =
    let f = ready.stand.fillers m x opened in
    let some = ready.positive in
    let split : List Tile = Filler size ∷ remainder (x.rest - size) in
    let left = remainder_total (x.rest - size) in
    let total : total_size split ≡ x.rest = omega (arith, left, room) in
    let w = filler_replaced t x.next x.rest split z fitting f.filler f.positive (some, remainder_positive (x.rest - size)) total
    (remainder_unmoved (x.rest - size)) in
    let here : slice_index_or b.open_buffers m None ≡ Some x = get_or-get b.open_buffers m None (Some x) opened in
    let rest : n - (2 + p + weak + d) ≡ x.rest - size = omega (arith, long, n_is) in
    record {
      place = placed_open t b m size x half here room;
      at = at_is;
      made = made ∙ ap (λ (r : ℕ). replace_tile t a (Object (new_object name p weak d) ∷ remainder r)) rest
          ∙ ap (λ (i : ℕ). replace_tile t i (Object (new_object name p weak d) ∷ remainder (x.rest - size))) at_is
          ∙ sym (replaced_twice t x.next x.rest (remainder (x.rest - size)) (Filler size) (Object (new_object name p weak d)) f.filler);
      buffers = cut;
      placed = (half, split_placed t (replace_tile t x.next split) b m size x ready.stand ready.unmoved z fitting opened some room refl);
      positive = omega (arith, w.size, z);
      fitting = filler_fitting t x.next x.rest split z fitting f.filler f.positive (some, remainder_positive (x.rest - size)) total
          (remainder_unmoved (x.rest - size));
    }
