-- Where objects with weak slots start, over each change of the table.
use Rattle.regions.proofs.Common.{get_or-set_other, get_or-set_same, if◌then◌else◌, HasNoneBelow, get_or-drop, div-mul-add, region_kind, ap}
use Rattle.regions.proofs.Common.{tile_object, region_tile, start_added, length-set, is_between, free_table, nth_region, run_length, length}
use Rattle.regions.proofs.Common.{AreRegions, replicate, Forwarded, tile_size, object_at, remainder, region_at, AreStarts, forgotten, false}
use Rattle.regions.proofs.Common.{cases_lt, cases_eq, row_fits, IsLowest, HasWeaks, HasNone, tile_at, kind_of, tile_in, is_rest, get_or, ℕ}
use Rattle.regions.proofs.Common.{mul-le, Stored, Object, Region, Starts, subst, arith, Table, zero, Bool, true, Some, None, List, drop}
use Rattle.regions.proofs.Common.{refl, Tile, Free, ◌≡◌, ◌≢◌, ◌+◌, ◌-◌, ◌*◌, ◌/◌, ◌%◌, ◌<◌, ◌≤◌, ◌⊎◌, ◌∷◌, ◌∙◌, suc, inl, inr, sym, has}
use Rattle.regions.proofs.Words.Parse.{past}
use Rattle.regions.proofs.Tiles.Laws.{tile_of}
use Rattle.regions.proofs.Tiles.Changes.{WritesObject, object_same}
use Rattle.regions.proofs.Tiles.Placing.{Replaces}
use Rattle.regions.proofs.Tiles.TileLaws.{Forwards}
use Rattle.regions.proofs.LongRuns.RunLaws.{Releases, frees, tile_of_region}
use Rattle.regions.proofs.LongRuns.RunGone.{rest_no_tile}
use Rattle.regions.proofs.Rows.Fronts.{front_passes}
use Rattle.regions.proofs.Cards.FirstTiles.{if_between, if_below, if_above}
use Rattle.regions.specs.declared.row.Kind.TheVariants as kinds
use Rattle.bit_sets.proofs.BitWords.{has_none}

-- ---- what tiles have weak slots
-- a tile's weak slots
abbrev pub tile_weaks : Tile → ℕ
tile_weaks (Object s) = length s.weaks
tile_weaks _ = 0

pub object_is : (t : Table) (a : ℕ) (s : Stored) → tile_in t a ≡ Some (Object s) → object_at t a ≡ Some s
unfolding object_at
object_is t a s h = ap tile_object h

has_of : (t : Table) (a : ℕ) (tile : Tile) → tile_in t a ≡ Some tile → 0 < tile_weaks tile → HasWeaks t a
has_of t a (Object s) e some = record { object = s; is = object_is t a s e; some = some }
has_of t a _ e some = absurd (omega arith)

weaks_of : (t : Table) (a : ℕ) (tile : Tile) → tile_in t a ≡ Some tile → HasWeaks t a → 0 < tile_weaks tile
weaks_of t a tile e h =
    let is = tile_of t a h.object h.is in
    let same : Object h.object ≡ tile = cc in
    subst (λ (u : Tile). 0 < tile_weaks u) same h.some

-- there are none where no tile starts, and at a tile that has none
pub none_there : (t : Table) (a : ℕ) → tile_in t a ≡ None → HasWeaks t a → ⊥
none_there t a e h = let is = tile_of t a h.object h.is in cc

pub none_in : (t : Table) (a : ℕ) (tile : Tile) → tile_in t a ≡ Some tile → tile_weaks tile ≡ 0 → HasWeaks t a → ⊥
none_in t a tile e z h = let some = weaks_of t a tile e h in omega arith

moved : (t t' : Table) (a : ℕ) → tile_in t' a ≡ tile_in t a → HasWeaks t' a → HasWeaks t a
moved t t' a e h = record { object = h.object; is = sym (object_same t t' a e) ∙ h.is; some = h.some }

-- ---- what flags change
-- a is in the set now if the tile has weak slots
pub record Notes (old new : Starts) (a : ℕ) (tile : Tile) : Type 0 where
  pub region_words : new.region_words ≡ old.region_words
  pub pairs : new.pairs ≡ old.pairs
  pub len : length new.flags ≡ length old.flags
  pub others : (j : ℕ) → j ≢ a → has new.flags j ≡ has old.flags j
  pub each : 0 < tile_weaks tile → has new.flags a ≡ true
  pub only : has new.flags a ≡ true → (has old.flags a ≡ true) ⊎ (0 < tile_weaks tile)

pub notes : (old new : Starts) (a weaks : ℕ) (tile : Tile) → a < length old.flags → tile_weaks tile ≡ weaks
    → new ≡ start_added old a weaks → Notes old new a tile
notes old new a zero tile known count is = record {
  region_words = ap (λ (s : Starts). s.region_words) is;
  pairs = ap (λ (s : Starts). s.pairs) is;
  len = ap (λ (s : Starts). length s.flags) is;
  others = λ j n. ap (λ (s : Starts). has s.flags j) is;
  each = λ some. absurd (omega arith);
  only = λ h. inl (sym (ap (λ (s : Starts). has s.flags a) is) ∙ h);
}
notes old new a (suc n) tile known count is = record {
  region_words = ap (λ (s : Starts). s.region_words) is;
  pairs = ap (λ (s : Starts). s.pairs) is;
  len = ap (λ (s : Starts). length s.flags) is ∙ length-set old.flags a true;
  others = λ j n. ap (λ (s : Starts). has s.flags j) is ∙ get_or-set_other old.flags a j true false n;
  each = λ some. ap (λ (s : Starts). has s.flags a) is ∙ get_or-set_same old.flags a true false known;
  only = λ h. inr (omega arith);
}

-- a is not in the set any more, if it was
pub record Forgets (old new : Starts) (a weaks : ℕ) : Type 0 where
  pub region_words : new.region_words ≡ old.region_words
  pub pairs : new.pairs ≡ old.pairs
  pub len : length new.flags ≡ length old.flags
  pub others : (j : ℕ) → j ≢ a → has new.flags j ≡ has old.flags j
  pub here : has new.flags a ≡ true → (has old.flags a ≡ true) × (weaks ≡ 0)

pub forgets : (old new : Starts) (a weaks : ℕ) → a < length old.flags → new ≡ forgotten old a weaks → Forgets old new a weaks
forgets old new a zero known is = record {
  region_words = ap (λ (s : Starts). s.region_words) is;
  pairs = ap (λ (s : Starts). s.pairs) is;
  len = ap (λ (s : Starts). length s.flags) is;
  others = λ j n. ap (λ (s : Starts). has s.flags j) is;
  here = λ h. (sym (ap (λ (s : Starts). has s.flags a) is) ∙ h, refl);
}
forgets old new a (suc n) known is = record {
  region_words = ap (λ (s : Starts). s.region_words) is;
  pairs = ap (λ (s : Starts). s.pairs) is;
  len = ap (λ (s : Starts). length s.flags) is ∙ length-set old.flags a false;
  others = λ j n. ap (λ (s : Starts). has s.flags j) is ∙ get_or-set_other old.flags a j false false n;
  here = λ h. absurd (let out = ap (λ (s : Starts). has s.flags a) is ∙ get_or-set_same old.flags a false false known in cc);
}

-- the addresses of region k are not in the set, and the others are as they were
pub record Clears (old new : Starts) (k size : ℕ) : Type 0 where
  pub region_words : new.region_words ≡ old.region_words
  pub pairs : new.pairs ≡ old.pairs
  pub len : length new.flags ≡ length old.flags
  pub flags : (a : ℕ) → has new.flags a ≡ (if is_between (k * size) (k * size + size) a then false else has old.flags a)

pub clears : (old new : Starts) (n k size : ℕ) → n ≡ k → old.region_words ≡ size
    → new.region_words ≡ old.region_words → length new.flags ≡ length old.flags → new.pairs ≡ old.pairs
    → ((a : ℕ)
    → has new.flags a ≡ (if is_between (n * old.region_words) (n * old.region_words + old.region_words) a then false else has old.flags a))
    → Clears old new k size
clears old new n k size number words wide len pairs flags = record {
  region_words = wide;
  pairs = pairs;
  len = len;
  flags = rw (number, words) at flags;
}

-- a region that isn't among the regions has no flag to clear
pub none_cleared : (size k : ℕ) (regions flags : List Bool) → AreRegions size regions flags → has regions k ≡ false → (a : ℕ)
    → has flags a ≡ (if is_between (k * size) (k * size + size) a then false else has flags a)
none_cleared size k regions flags r out a = elim (cases_lt a (k * size)) [
  | inl b ↦ sym (if_below (k * size) (k * size + size) a false (has flags a) b)
  | inr b ↦ elim (cases_lt a (k * size + size)) [
    | inl f ↦ go (has flags a) refl b f ∙ sym (if_between (k * size) (k * size + size) a false (has flags a) b f)
    | inr f ↦ sym (if_above (k * size) (k * size + size) a false (has flags a) f)
  ]
]
  where
    go : (b : Bool) → has flags a ≡ b → k * size ≤ a → a < k * size + size → has flags a ≡ false
    go false e low high = e
    go true e low high =
        let place : k * size + (a - k * size) ≡ a = omega arith in
        let number : a / size ≡ k = ap (λ (y : ℕ). y / size) (sym place) ∙ div-mul-add k size (a - k * size) (omega arith) in
        let yes = r.each a e in
        absurd (let at = ap (has regions) number in cc)

-- a search that goes on behind a region: nothing between is in the set
module _ (size : ℕ) (regions flags : List Bool) (r : AreRegions size regions flags) (from : ℕ) where
  -- no region from left on up to k is among the regions
  none_between : (left k : ℕ) → HasNoneBelow (has flags) from (left * size) → HasNoneBelow (has regions) left k
      → HasNoneBelow (has flags) from (k * size)
  none_between left k before none a low high = elim (cases_lt a (left * size)) [
    | inl b ↦ before a low b
    | inr b ↦ go (has flags a) refl b
  ]
    where
      go : (b : Bool) → has flags a ≡ b → left * size ≤ a → has flags a ≡ false
      go false e behind = e
      go true e behind =
          let yes = r.each a e in
          let no = none (a / size) (mul_low left behind) (mul_high k high) in
          absurd cc
        where
          whole : a / size * size + a % size ≡ a
          whole = omega arith

          mul_low : (left : ℕ) → left * size ≤ a → left ≤ a / size
          mul_low left h = elim (cases_lt (a / size) left) [
            | inl b ↦ (let p = r.positive in
                let m = row_fits (a / size) size left size b (omega arith) in
                let small : a % size < size = omega (arith, p) in
                let e = whole in
                absurd (omega arith))
            | inr b ↦ b
          ]

          mul_high : (k : ℕ) → a < k * size → a / size < k
          mul_high k h = elim (cases_lt (a / size) k) [
            | inl b ↦ b
            | inr b ↦ (let m = mul-le k size (a / size) size b (omega arith) in let e = whole in absurd (omega arith))
          ]

  -- the lowest address of region k is the lowest of all
  pub next_found : (left k start found : ℕ) → HasNoneBelow (has flags) from (left * size) → HasNoneBelow (has regions) left k → from ≤ start
      → ((a : ℕ) → from ≤ a → k * size ≤ a → start ≤ a) → IsLowest (has flags) start found → IsLowest (has flags) from found
  next_found left k start found before none later begin l = record {
    at_least = (let h = l.at_least in omega arith);
    is_in = l.is_in;
    lowest = λ a low high. elim (cases_lt a (k * size)) [
      | inl b ↦ none_between left k before none a low b
      | inr b ↦ l.lowest a (begin a low b) high
    ];
  }

  -- region k has none
  pub next_passed : (left k start next : ℕ) → next ≡ k + 1 → HasNoneBelow (has flags) from (left * size) → HasNoneBelow (has regions) left k
      → ((a : ℕ) → from ≤ a → k * size ≤ a → start ≤ a) → HasNoneBelow (has flags) start (k * size + size)
      → HasNoneBelow (has flags) from (next * size)
  next_passed left k start next e before none begin l a low high = elim (cases_lt a (k * size)) [
    | inl b ↦ none_between left k before none a low b
    | inr b ↦ l a (begin a low b)
        (let more : next * size ≡ k * size + size = ap (λ (n : ℕ). n * size) (e ∙ (let s : k + 1 ≡ suc k = omega arith in s)) ∙ suc_row k in
        omega arith)
  ]
    where
      suc_row : (k : ℕ) → suc k * size ≡ k * size + size
      suc_row k = omega arith

  -- no region is left
  pub next_none : (left : ℕ) → HasNoneBelow (has flags) from (left * size) → HasNone (has regions) left → HasNone (has flags) from
  next_none left before none a low = none_between left (suc (a / size)) before (λ k l h. none k l) a low
      (let p = r.positive in
      let whole : a / size * size + a % size ≡ a = omega arith in
      let small : a % size < size = omega (arith, p) in
      omega arith)

-- ---- over each change of the table
-- a new table has no object
pub starts_free : (count size n : ℕ) (flags : List Bool) → flags ≡ replicate n false → AreStarts (free_table count size) flags
unfolding free_table tile_in region_at
starts_free count size n flags e = record {
  each = λ a h. absurd (none_there (free_table count size) a (ap (λ (r : Region). region_tile r (a % size)) (frees count (a / size))) h);
  only = λ a h. absurd (let out = ap (λ (f : List Bool). has f a) e ∙ has_none n a in cc);
}

no_object : (r o : ℕ) (s : Stored) → tile_at o (remainder r) ≡ Some (Object s) → ⊥
no_object (suc r) (suc o) s e = let p = past (suc r) (suc o) _ (Object s) e in let none : None ≡ Some (Object s) = p.1 in cc
no_object _ _ s e = cc

pub cut_object : (tile : Tile) (r o : ℕ) (s : Stored) → tile_at o (tile ∷ remainder r) ≡ Some (Object s) → (o ≡ 0) × (tile ≡ Object s)
cut_object tile r zero s e = (refl, cc)
cut_object tile r (suc o) s e = let p = past (tile_size tile) (suc o) _ (Object s) e in absurd (no_object r (suc o - tile_size tile) s p.1)

module _ (t t' : Table) (flags : List Bool) (g : AreStarts t flags) where
  pub starts_same : ((y : ℕ) → tile_in t' y ≡ tile_in t y) → AreStarts t' flags
  starts_same same = record { each = λ a h. g.each a (moved t t' a (same a) h); only = λ a h. moved t' t a (sym (same a)) (g.only a h) }

  pub starts_written : (a : ℕ) (o o' : Stored) → WritesObject t t' a o o' → length o'.weaks ≡ length o.weaks → AreStarts t' flags
  starts_written a o o' w count = record {
    each = λ x h. elim (cases_eq x a) [
      | inl q ↦
          let some = weaks_of t' a (Object o') now (subst (HasWeaks t') q h) in
          subst (λ (y : ℕ). has flags y ≡ true) (sym q) (g.each a (has_of t a (Object o) was (omega arith)))
      | inr n ↦ g.each x (moved t t' x (w.others x n) h)
    ];
    only = λ x h. elim (cases_eq x a) [
      | inl q ↦
          let some = weaks_of t a (Object o) was (g.only a (subst (λ (y : ℕ). has flags y ≡ true) q h)) in
          subst (HasWeaks t') (sym q) (has_of t' a (Object o') now (omega arith))
      | inr n ↦ moved t' t x (sym (w.others x n)) (g.only x h)
    ];
  }
    where
      was : tile_in t a ≡ Some (Object o)
      was = tile_of t a o w.was

      now : tile_in t' a ≡ Some (Object o')
      now = tile_of t' a o' w.is

module _ (t t' : Table) (old new : Starts) (g : AreStarts t old.flags) where
  -- what stands at a noted address
  noted_there : (a : ℕ) (tile : Tile) → Notes old new a tile → tile_in t' a ≡ Some tile → HasWeaks t' a → has new.flags a ≡ true
  noted_there a tile n here h = n.each (weaks_of t' a tile here h)

  noted_only : (a : ℕ) (tile : Tile) → Notes old new a tile → tile_in t' a ≡ Some tile → (HasWeaks t a → ⊥)
      → has new.flags a ≡ true → HasWeaks t' a
  noted_only a tile n here none h = elim (n.only h) [ inl was ↦ absurd (none (g.only a was)) | inr some ↦ has_of t' a tile here some ]

  pub starts_added : (a : ℕ) (tile : Tile) → tile_in t' a ≡ Some tile → (HasWeaks t a → ⊥) → ((y : ℕ) → y ≢ a → tile_in t' y ≡ tile_in t y)
      → Notes old new a tile → AreStarts t' new.flags
  starts_added a tile here none others n = record {
    each = λ x h. elim (cases_eq x a) [
      | inl q ↦ subst (λ (y : ℕ). has new.flags y ≡ true) (sym q) (noted_there a tile n here (subst (HasWeaks t') q h))
      | inr m ↦ n.others x m ∙ g.each x (moved t t' x (others x m) h)
    ];
    only = λ x h. elim (cases_eq x a) [
      | inl q ↦ subst (HasWeaks t') (sym q) (noted_only a tile n here none (subst (λ (y : ℕ). has new.flags y ≡ true) q h))
      | inr m ↦ moved t' t x (sym (others x m)) (g.only x (sym (n.others x m) ∙ h))
    ];
  }

  pub starts_cut : (a n r : ℕ) (tile : Tile) → 0 < n → (HasWeaks t a → ⊥) → Replaces t t' a n (tile ∷ remainder r)
      → Notes old new a tile → AreStarts t' new.flags
  starts_cut a n r tile some none c m = record {
    each = λ x h. elim (cases_eq x a) [
      | inl q ↦ subst (λ (y : ℕ). has new.flags y ≡ true) (sym q) (noted_there a tile m here (subst (HasWeaks t') q h))
      | inr apart ↦ m.others x apart ∙ g.each x (moved t t' x (c.others x (outside x apart h)) h)
    ];
    only = λ x h. elim (cases_eq x a) [
      | inl q ↦ subst (HasWeaks t') (sym q) (noted_only a tile m here none (subst (λ (y : ℕ). has new.flags y ≡ true) q h))
      | inr apart ↦
          let was = g.only x (sym (m.others x apart) ∙ h) in
          moved t' t x (sym (c.others x (outside_then x apart was))) was
    ];
  }
    where
      first : a + 0 ≡ a
      first = omega arith

      here : tile_in t' a ≡ Some tile
      here = ap (tile_in t') (sym first) ∙ c.within 0 some

      outside : (x : ℕ) → x ≢ a → HasWeaks t' x → (x < a) ⊎ (a + n ≤ x)
      outside x apart h = elim (cases_lt x a) [
        | inl b ↦ inl b
        | inr b ↦ elim (cases_lt x (a + n)) [
          | inl f ↦
              let place : a + (x - a) ≡ x = omega arith in
              let at : tile_at (x - a) (tile ∷ remainder r) ≡ Some (Object h.object) =
              sym (c.within (x - a) (omega arith)) ∙ ap (tile_in t') place ∙ tile_of t' x h.object h.is in
              let p = cut_object tile r (x - a) h.object at in
              let zero_is = p.0 in
              absurd (apart (omega arith))
          | inr f ↦ inr f
        ]
      ]

      outside_then : (x : ℕ) → x ≢ a → HasWeaks t x → (x < a) ⊎ (a + n ≤ x)
      outside_then x apart h = elim (cases_lt x a) [
        | inl b ↦ inl b
        | inr b ↦ elim (cases_lt x (a + n)) [
          | inl f ↦
              let place : a + (x - a) ≡ x = omega arith in
              absurd (none_there t x (ap (tile_in t) (sym place) ∙ c.inside (x - a) (omega arith) (omega arith)) h)
          | inr f ↦ inr f
        ]
      ]

  pub starts_forwarded : (a to n : ℕ) (o : Stored) → tile_in t a ≡ Some (Object o) → Forwards t t' a to n
      → Forgets old new a (length o.weaks) → AreStarts t' new.flags
  starts_forwarded a to n o was f k = record {
    each = λ x h. elim (cases_eq x a) [
      | inl q ↦ absurd (none_in t' a (Forwarded to n) f.is refl (subst (HasWeaks t') q h))
      | inr m ↦ k.others x m ∙ g.each x (moved t t' x (f.others x m) h)
    ];
    only = λ x h. elim (cases_eq x a) [
      | inl q ↦
          let still = k.here (subst (λ (y : ℕ). has new.flags y ≡ true) q h) in
          absurd (none_in t a (Object o) was still.1 (g.only a still.0))
      | inr m ↦ moved t' t x (sym (f.others x m)) (g.only x (sym (k.others x m) ∙ h))
    ];
  }

  -- the later regions of a run have no tile
  pub starts_released : (k m : ℕ) → 0 < t.words_per_region → 0 < m
      → ((y : ℕ) → k < y / t.words_per_region → y / t.words_per_region < k + m → tile_in t y ≡ None) → Releases t t' k m
      → Clears old new k t.words_per_region → AreStarts t' new.flags
  starts_released k m positive some later r c = record {
    each = λ x h. elim (cases_lt (x / t.words_per_region) k) [
      | inl b ↦ stays x (λ e. omega arith) ∙ g.each x (moved t t' x (r.others x (inl b)) h)
      | inr b ↦ elim (cases_lt (x / t.words_per_region) (k + m)) [
        | inl f ↦ absurd (none_there t' x (r.gone x b f) h)
        | inr f ↦ stays x (λ e. omega arith) ∙ g.each x (moved t t' x (r.others x (inr f)) h)
      ]
    ];
    only = λ x h. elim (cases_eq (x / t.words_per_region) k) [
      | inl q ↦ absurd (let out = goes x q in cc)
      | inr apart ↦
          let was = g.only x (sym (stays x apart) ∙ h) in
          elim (cases_lt (x / t.words_per_region) k) [
            | inl b ↦ moved t' t x (sym (r.others x (inl b))) was
            | inr b ↦ elim (cases_lt (x / t.words_per_region) (k + m)) [
              | inl f ↦ absurd (none_there t x (later x (omega arith) f) was)
              | inr f ↦ moved t' t x (sym (r.others x (inr f))) was
            ]
          ]
    ];
  }
    where
      size : ℕ
      size = t.words_per_region

      stays : (x : ℕ) → x / size ≢ k → has new.flags x ≡ has old.flags x
      stays x apart = c.flags x ∙ elim (cases_lt x (k * size)) [
        | inl b ↦ if_below (k * size) (k * size + size) x false (has old.flags x) b
        | inr b ↦ elim (cases_lt x (k * size + size)) [
          | inl f ↦
              let place : k * size + (x - k * size) ≡ x = omega arith in
              absurd (apart (ap (λ (y : ℕ). y / size) (sym place) ∙ div-mul-add k size (x - k * size) (omega arith)))
          | inr f ↦ if_above (k * size) (k * size + size) x false (has old.flags x) f
        ]
      ]

      goes : (x : ℕ) → x / size ≡ k → has new.flags x ≡ false
      goes x q =
          let whole : x / size * size + x % size ≡ x = omega arith in
          let there : k * size + x % size ≡ x = rw q at whole in
          let small : x % size < size = omega (arith, positive) in
          c.flags x ∙ if_between (k * size) (k * size + size) x false (has old.flags x) (omega arith) (omega arith)

free_region : (r : Region) → region_kind r ≡ kinds.Free → r ≡ Free
free_region Free e = refl
free_region _ e = cc

-- a free region has no tile
pub free_void : (t : Table) (a : ℕ) → kind_of t (a / t.words_per_region) ≡ kinds.Free → tile_in t a ≡ None
unfolding kind_of
free_void t a e = tile_of_region t a Free (free_region (nth_region t (a / t.words_per_region)) e)

-- the later regions of a run have no tile
pub run_later : (t : Table) (k y : ℕ) → k < y / t.words_per_region → y / t.words_per_region < k + run_length t k → tile_in t y ≡ None
unfolding nth_region
run_later t k y low high =
    let q : ℕ = y / t.words_per_region in
    let at : suc k + (q - suc k) ≡ q = omega arith in
    let rest = front_passes is_rest (drop (suc k) t.regions) Free (q - suc k) (omega arith) in
    let is : is_rest (nth_region t q) ≡ true =
    ap (λ (j : ℕ). is_rest (get_or t.regions j Free)) (sym at) ∙ ap is_rest (sym (get_or-drop (suc k) t.regions (q - suc k) Free)) ∙ rest in
    tile_of_region t y (nth_region t q) refl ∙ rest_no_tile (nth_region t q) (y % t.words_per_region) is
