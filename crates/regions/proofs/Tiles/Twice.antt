-- A tile that gives way to others, of which the first gives way at once.
use Rattle.regions.proofs.Common.{◌≡◌, ◌-◌, ◌/◌, ◌%◌, ◌<◌, ◌∷◌, ◌++◌, ◌∙◌, ℕ, zero, suc, Some, List, [], get_or, set, refl, sym, ap, subst}
use Rattle.regions.proofs.Common.{arith, inl, inr, get_or-set_same, get_or-set_other, set-set, cases_eq, Tile, Filler, tile_size}
use Rattle.regions.proofs.Common.{total_size, replace, Region, Free, Ordinary, Table, region_at, region_replaced, replace_tile}
use Rattle.regions.proofs.Common.{tile_in, EachForwarded, nth_region, kind_of, AllPositive, AreFitting, tiles_of, region_tiles}
use Rattle.regions.specs.declared.row.Kind.TheVariants as kinds
use Rattle.regions.proofs.Tiles.Laws.{known_region}
use Rattle.regions.proofs.Tiles.Placing.{filler_replaced}
use Rattle.regions.proofs.Tiles.Steps.{used_total}

replace_twice : (ts r : List Tile) (o : ℕ) (x y : Tile) → replace o (y ∷ []) (replace o (x ∷ r) ts) ≡ replace o (y ∷ r) ts
replace_twice (t ∷ ts) r (suc o) x y = ap (λ (us : List Tile). t ∷ us) (replace_twice ts r (suc o - tile_size t) x y)
replace_twice _ r _ x y = refl

region_twice : (g : Region) (r : List Tile) (o : ℕ) (x y : Tile)
    → region_replaced (region_replaced g o (x ∷ r)) o (y ∷ []) ≡ region_replaced g o (y ∷ r)
region_twice (Ordinary ts) r o x y = ap Ordinary (replace_twice ts r o x y)
region_twice _ r o x y = refl

pub replaced_twice : (t : Table) (a n : ℕ) (r : List Tile) (x y : Tile) → tile_in t a ≡ Some (Filler n)
    → replace_tile (replace_tile t a (x ∷ r)) a (y ∷ []) ≡ replace_tile t a (y ∷ r)
unfolding replace_tile region_at tile_in
replaced_twice t a n r x y h =
    let k : ℕ = a / t.words_per_region in
    let o : ℕ = a % t.words_per_region in
    let g : Region = get_or t.regions k Free in
    let here : get_or (set t.regions k (region_replaced g o (x ∷ r))) k Free ≡ region_replaced g o (x ∷ r) =
    get_or-set_same t.regions k (region_replaced g o (x ∷ r)) Free (known_region t.regions k o (Filler n) h) in
    ap (λ (rs : List Region). record { words_per_region = t.words_per_region; regions = rs })
    (ap (λ (q : Region). set (set t.regions k (region_replaced g o (x ∷ r))) k (region_replaced q o (y ∷ []))) here
    ∙ set-set t.regions k (region_replaced g o (x ∷ r)) (region_replaced (region_replaced g o (x ∷ r)) o (y ∷ []))
    ∙ ap (λ (q : Region). set t.regions k q) (region_twice g r o x y))

-- no tile is empty still
positive_joined : (us ts : List Tile) → AllPositive us → AllPositive ts → AllPositive (us ++ ts)
positive_joined [] ts h k = k
positive_joined (u ∷ us) ts h k = (h.0, positive_joined us ts h.1 k)

positive_replaced : (ts new : List Tile) (o : ℕ) → AllPositive new → AllPositive ts → AllPositive (replace o new ts)
positive_replaced [] new o h k = tt
positive_replaced (t ∷ ts) new zero h k = positive_joined new ts h k.1
positive_replaced (t ∷ ts) new (suc o) h k = (k.0, positive_replaced ts new (suc o - tile_size t) h k.1)

region_positive : (g : Region) (new : List Tile) (o : ℕ) → AllPositive new → AllPositive (region_tiles g)
    → AllPositive (region_tiles (region_replaced g o new))
region_positive (Ordinary ts) new o h k = positive_replaced ts new o h k
region_positive _ new o h k = k

tiles_positive : (t : Table) (a n : ℕ) (new : List Tile) → AreFitting t → tile_in t a ≡ Some (Filler n) → AllPositive new → (k : ℕ)
    → AllPositive (tiles_of (replace_tile t a new) k)
unfolding replace_tile region_at tile_in tiles_of nth_region
tiles_positive t a n new fitting h positive k =
    let j : ℕ = a / t.words_per_region in
    let r : Region = region_replaced (get_or t.regions j Free) (a % t.words_per_region) new in
    elim (cases_eq k j) [
      | inl q ↦
          let here : get_or (set t.regions j r) k Free ≡ r =
          ap (λ (i : ℕ). get_or (set t.regions j r) i Free) q ∙ get_or-set_same t.regions j r Free
          (known_region t.regions j _ (Filler n) h) in
          subst (λ (g : Region). AllPositive (region_tiles g)) (sym here)
          (region_positive (get_or t.regions j Free) new (a % t.words_per_region) positive (fitting j).positive)
      | inr ne ↦
          subst (λ (g : Region). AllPositive (region_tiles g)) (sym (get_or-set_other t.regions j k r Free ne)) (fitting k).positive
    ]

-- what takes a filler's place leaves each region no longer than it may be
pub filler_fitting : (t : Table) (a n : ℕ) (new : List Tile) → 0 < t.words_per_region → AreFitting t → tile_in t a ≡ Some (Filler n)
    → 0 < n → AllPositive new → total_size new ≡ n → EachForwarded (λ _. ⊥) new → AreFitting (replace_tile t a new)
filler_fitting t a n new z fitting h p positive total moved k =
    let w = filler_replaced t a n new z fitting h p positive total moved in
    let t' : Table = replace_tile t a new in
    record {
      positive = tiles_positive t a n new fitting h positive k;
      fits = λ is.
          let was : kind_of t k ≡ kinds.Ordinary = sym (w.kinds_same k) ∙ is in
          let now = used_total t' k is in
          let before = used_total t k was in
          let same = w.used k in
          let size = w.size in
          let fits = (fitting k).fits was in
          omega arith;
    }
