-- The entries of first tiles: how they are written, and that they lead on.
use Rattle.regions.proofs.Common.{◌≡◌, ◌≢◌, ◌+◌, ◌-◌, ◌*◌, ◌/◌, ◌%◌, ◌<◌, ◌≤◌, ◌⊎◌, ◌∷◌, ◌∙◌, ℕ, suc, Bool, true, false, Some, None, Option}
use Rattle.regions.proofs.Common.{List, zero, IsSome, subst, length, length-set, get_or, set, inl, inr, refl, sym, ap, arith, leb, ltb}
use Rattle.regions.proofs.Common.{if◌then◌else◌, ◌&&◌, cases_lt, cases_eq, le-leb, lt-leb, lt-ltb, le-ltb, get_or-set_same}
use Rattle.regions.proofs.Common.{get_or-set_other}
use Rattle.regions.proofs.Common.{div_ceil_times, mul-le, div_ceil, is_between, Tile, Filler, tile_size, tile_at, Table, tile_in, tiles_of}
use Rattle.regions.proofs.Common.{remainder}
use Rattle.regions.proofs.Common.{IsHolder, IsShaped, Entries, AreEntries, AreEntriesPut, LeadsTo, IsCutOff, IsOwn, IsPut}
use Rattle.regions.proofs.Words.Divides.{div_is}
use Rattle.regions.proofs.Walks.WalkFrom.{cut_at, tile_listed}
use Rattle.regions.proofs.Tiles.Holders.{one_holder}
use Rattle.regions.proofs.Tiles.Placing.{Replaces, remainder_total, tile_at-end, filler_region}
use Rattle.regions.proofs.Common.{HasCard, ◌^◌, bit_xor, max_words, pow_pos}
use Rattle.regions.proofs.Blocks.{same_block}
use Rattle.std.proofs.Math.Pow.{pow_mono}

-- ---- how they are written
-- entries from a first card up to another are written
pub record AreWritten (old new : List ℕ) (first upto last entry : ℕ) : Type 0 where
  pub bound : (upto ≤ last) ⊎ (upto ≡ first)
  pub len : length new ≡ length old
  pub inside : (c : ℕ) → first ≤ c → c < upto → get_or new c 0 ≡ entry
  pub outside : (c : ℕ) → (c < first) ⊎ (upto ≤ c) → get_or new c 0 ≡ get_or old c 0

pub written_none : (old : List ℕ) (first last entry : ℕ) → AreWritten old old first first last entry
written_none old first last entry = record { bound = inr refl; len = refl; inside = λ c x y. absurd (omega arith); outside = λ c x. refl }

pub written_more : (old new : List ℕ) (first upto last entry : ℕ) → first ≤ upto → upto < last → upto < length old
    → AreWritten old new first upto last entry → AreWritten old (set new upto entry) first (upto + 1) last entry
written_more old new first upto last entry l k h w = record {
  bound = inl (omega arith);
  len = length-set new upto entry ∙ w.len;
  inside = λ c x y. elim (cases_eq c upto) [
    | inl e ↦ ap (λ (i : ℕ). get_or (set new upto entry) i 0) e ∙ get_or-set_same new upto entry 0 (omega (arith, w.len))
    | inr e ↦ get_or-set_other new upto c entry 0 e ∙ w.inside c x (omega arith)
  ];
  outside = λ c x.
      let other : c ≢ upto = λ e. elim x [ inl b ↦ omega arith | inr b ↦ omega arith ] in
      get_or-set_other new upto c entry 0 other ∙ w.outside c (elim x [ inl b ↦ inl b | inr b ↦ inr (omega arith) ]);
}

-- a card lies before the end of so many where its first word lies below the words' end
pub card_before : (c end len : ℕ) → 0 < len → c < div_ceil end len → c * len < end
card_before c end len z h =
    let d = div_ceil_times end len z in
    let m = mul-le (suc c) len (div_ceil end len) len h (omega arith) in
    omega (arith, d.1)

pub card_behind : (c end len : ℕ) → 0 < len → div_ceil end len ≤ c → end ≤ c * len
card_behind c end len z h =
    let d = div_ceil_times end len z in
    let m = mul-le (div_ceil end len) len c len h (omega arith) in
    omega (arith, d.0)

-- how many cards the words up to an end take
pub cards_fit : (end len n : ℕ) → 0 < len → end ≤ n * len → div_ceil end len ≤ n
cards_fit end len n z h = elim (cases_lt n (div_ceil end len)) [
  | inl b ↦ (let x = card_before n end len z b in absurd (omega arith))
  | inr b ↦ b
]

pub if_between : {A : Type 0} (from to w : ℕ) (x y : A) → from ≤ w → w < to → (if is_between from to w then x else y) ≡ x
if_between from to w x y l h = rw (le-leb from w l, lt-ltb w to h) refl

pub if_below : {A : Type 0} (from to w : ℕ) (x y : A) → w < from → (if is_between from to w then x else y) ≡ y
if_below from to w x y h = rw (lt-leb from w h) refl

pub if_above : {A : Type 0} (from to w : ℕ) (x y : A) → to ≤ w → (if is_between from to w then x else y) ≡ y
if_above from to w x y h = go (leb from w)
  where
    none : ltb w to ≡ false
    none = le-ltb w to h

    go : (b : Bool) → (if b && ltb w to then x else y) ≡ y
    go true = rw none refl
    go false = refl

-- the same of a block of cards
pub block_written : (old new new' : List ℕ) (first upto next last entry : ℕ) → first ≤ upto → upto ≤ next → next ≤ last
    → length new' ≡ length new → ((c : ℕ) → get_or new' c 0 ≡ (if is_between upto next c then entry else get_or new c 0))
    → AreWritten old new first upto last entry → AreWritten old new' first next last entry
block_written old new new' first upto next last entry l m k len put w = record {
  bound = inl k;
  len = len ∙ w.len;
  inside = λ c x y. put c ∙ elim (cases_lt c upto) [
    | inl b ↦ if_below upto next c entry (get_or new c 0) b ∙ w.inside c x b
    | inr b ↦ if_between upto next c entry (get_or new c 0) b y
  ];
  outside = λ c x. put c ∙ elim x [
    | inl b ↦ if_below upto next c entry (get_or new c 0) (omega (arith, b, l)) ∙ w.outside c (inl b)
    | inr b ↦ if_above upto next c entry (get_or new c 0) b ∙ w.outside c (inr (omega (arith, b, m)))
  ];
}

-- all cards from one on up to another have the entry
pub filled : (old new : List ℕ) (from to entry i : ℕ) → to ≤ i → AreWritten old new from i to entry → (c : ℕ)
    → get_or new c 0 ≡ (if is_between from to c then entry else get_or old c 0)
filled old new from to entry i l w c =
    elim (cases_lt c from) [
      | inl b ↦ w.outside c (inl b) ∙ sym (if_below from to c entry (get_or old c 0) b)
      | inr b ↦ elim (cases_lt c to) [
        | inl d ↦ w.inside c b (omega arith) ∙ sym (if_between from to c entry (get_or old c 0) b d)
        | inr d ↦ (
            let same : i ≤ c = elim w.bound [ inl x ↦ omega arith | inr x ↦ omega arith ] in
            w.outside c (inr same) ∙ sym (if_above from to c entry (get_or old c 0) d))
      ]
    ]

-- the cards that begin in words, by their numbers
pub cards_between : (len at end c x y : ℕ) → 0 < len
    → (if is_between (div_ceil at len) (div_ceil end len) c then x else y) ≡ (if is_between at end (c * len) then x else y)
cards_between len at end c x y z =
    elim (cases_lt c (div_ceil at len)) [
      | inl b ↦ if_below (div_ceil at len) (div_ceil end len) c x y b ∙ sym (if_below at end (c * len) x y (card_before c at len z b))
      | inr b ↦ elim (cases_lt c (div_ceil end len)) [
        | inl d ↦ if_between (div_ceil at len) (div_ceil end len) c x y b d
            ∙ sym (if_between at end (c * len) x y (card_behind c at len z b) (card_before c end len z d))
        | inr d ↦ if_above (div_ceil at len) (div_ceil end len) c x y d ∙ sym (if_above at end (c * len) x y (card_behind c end len z d))
      ]
    ]

-- the last card that begins in the words has their start as its entry
pub rest_put : (old : List ℕ) (len at end past c : ℕ) → 0 < len → past ≡ div_ceil end len → div_ceil at len < past → past ≤ length old
    → (get_or (set old (past - 1) at) c 0 ≡ get_or old c 0) ⊎ IsOwn at end (c * len) (get_or (set old (past - 1) at) c 0)
rest_put old len at end past c z e h fits = elim (cases_eq c (past - 1)) [
  | inl b ↦ inr (
    card_behind c at len z (omega arith),
    card_before c end len z (omega arith),
    ap (λ (k : ℕ). get_or (set old (past - 1) at) k 0) b ∙ get_or-set_same old (past - 1) at 0 (omega arith),
  )
  | inr b ↦ inl (get_or-set_other old (past - 1) c at 0 b)
]

pub last_put : (old : List ℕ) (len at end past c : ℕ) → 0 < len → past ≡ div_ceil end len → div_ceil at len < past → past ≤ length old
    → c * len < end → end ≤ c * len + len → get_or (set old (past - 1) at) c 0 ≡ at
last_put old len at end past c z e h fits low high =
    let below : c < past = elim (cases_lt c past) [
      | inl b ↦ b
      | inr b ↦ (let reached = card_behind c end len z (omega arith) in absurd (omega arith))
    ] in
    let is : c ≡ past - 1 = elim (cases_lt c (past - 1)) [
      | inl b ↦ (
          let m = mul-le (suc c) len (past - 1) len b (omega arith) in
          let before = card_before (past - 1) end len z (omega arith) in
          absurd (omega arith))
      | inr b ↦ omega arith
    ] in
    ap (λ (k : ℕ). get_or (set old (past - 1) at) k 0) is ∙ get_or-set_same old (past - 1) at 0 (omega arith)

-- no card begins in the rest, so none is its last
pub last_none : {A : Type 0} (len at end c : ℕ) → 0 < len → div_ceil end len ≤ div_ceil at len → at ≤ c * len → c * len < end → A
last_none len at end c z h low high = elim (cases_lt c (div_ceil at len)) [
  | inl b ↦ (let before = card_before c at len z b in absurd (omega arith))
  | inr b ↦ (let reached = card_behind c end len z (omega arith) in absurd (omega arith))
]

-- the entries of an object are written, and then that of what is left
pub cut_put : (cw at middle end w before mid after : ℕ) → IsPut at middle w before mid → (after ≡ mid) ⊎ IsOwn middle end w after
    → (middle ≤ w → w < end → end ≤ w + cw → after ≡ middle) → IsCutOff cw at middle end w before after
cut_put cw at middle end w before mid after e rest last = record {
  front = λ low high. elim rest [
    | inl same ↦ same ∙ e ∙ if_between at middle w at before low high
    | inr own ↦ (let above = own.0 in absurd (omega arith))
  ];
  last = λ some low high near. last low high near;
  others = λ apart. elim rest [
    | inl same ↦ inl (same ∙ e ∙ elim apart [
      | inl b ↦ if_below at middle w at before b
      | inr b ↦ if_above at middle w at before b
    ])
    | inr own ↦ inr own
  ];
}

-- a card that begins at or below one of two words in one card begins at or below the other
card_below : (cw c x y : ℕ) → 0 < cw → x / cw ≡ y / cw → c * cw ≤ y → c * cw ≤ x
card_below cw c x y some same below =
    let low : x / cw * cw ≤ x = omega (arith, some) in
    let high : y < y / cw * cw + cw = omega (arith, some) in
    let at_most : c ≤ y / cw = elim (cases_lt (y / cw) c) [
      | inl b ↦ (let m = mul-le (suc (y / cw)) cw c cw b (omega arith) in absurd (omega (arith, m, high, below)))
      | inr b ↦ b
    ] in
    let m = mul-le c cw (y / cw) cw at_most (omega arith) in
    let whole : x / cw * cw ≡ y / cw * cw = ap (λ (n : ℕ). n * cw) same in
    omega (arith, low, m, whole)

-- no card begins in an object whose last word is in one card with the word before it
pub none_cut : (cw k at middle : ℕ) → cw ≡ 2 ^ k → k < 12 → middle ≤ max_words
    → bit_xor ((at + 4294967295) % 4294967296) ((middle + 4294967295) % 4294967296) < cw → HasCard cw at middle → ⊥
none_cut cw k at middle power narrow small near card =
    by_ends ((at + 4294967295) % 4294967296) ((middle + 4294967295) % 4294967296) refl refl near
  where
    by_ends : (x y : ℕ) → x ≡ (at + 4294967295) % 4294967296 → y ≡ (middle + 4294967295) % 4294967296 → bit_xor x y < cw → ⊥
    by_ends x y x_is y_is near =
        let some : 0 < cw = rw power (pow_pos k) in
        let few : cw ≤ 4096 = rw power (pow_mono {i = k} {j = 12} (omega arith)) in
        let (c, low, high) = card in
        let same : x / cw ≡ y / cw = same_block x y cw k power near in
        let in_y : c * cw ≤ y = omega (arith, y_is, high, small) in
        let in_x : c * cw ≤ x = card_below cw c x y some same in_y in
        let y_small : y < 2147483648 = omega (arith, y_is, high, small) in
        let far : x / cw * cw ≤ y =
        (let m : y / cw * cw ≤ y = omega (arith, some) in subst (λ (n : ℕ). n * cw ≤ y) (sym same) m) in
        let x_near : x < x / cw * cw + cw = omega (arith, some) in
        omega (arith, x_is, low, in_x, y_small, far, x_near, few)

-- nothing is written where no card begins in what is cut off
pub cut_none : (cw at middle end c before : ℕ) → (HasCard cw at middle → ⊥) → IsCutOff cw at middle end (c * cw) before before
cut_none cw at middle end c before none = record {
  front = λ low high. absurd (none (c, low, high));
  last = λ some low high near. absurd (none some);
  others = λ apart. inl refl;
}

-- ---- how they lead on
holds : (t : Table) (a w : ℕ) (u : Tile) → tile_in t a ≡ Some u → a ≤ w → w < a + tile_size u → IsHolder t a w
holds t a w u h low high = record { tile = u; tile_is = h; low = low; high = high }

-- two tiles at one place are the same
one_tile : (t : Table) (a b : ℕ) (u v : Tile) → tile_in t a ≡ Some u → tile_in t b ≡ Some v → b ≡ a → u ≡ v
one_tile t a b u v h k e = let z : Some u ≡ Some v = sym h ∙ ap (tile_in t) (sym e) ∙ k in cc

pub no_tile : (o : Option Tile) → o ≡ None → IsSome o → ⊥
no_tile None e s = cc
no_tile (Some u) e s = cc

-- an entry whose tile stays leads on
leads_on : (t t' : Table) (entry a b w : ℕ) → t'.words_per_region ≡ t.words_per_region
    → (IsSome (tile_in t entry) → IsSome (tile_in t' entry)) → a / t.words_per_region ≡ b / t.words_per_region
    → LeadsTo t entry a w → LeadsTo t' entry b w
leads_on t t' entry a b w wide stays same l = record { start = stays l.start; low = l.low; region = rw wide (l.region ∙ same) }

-- the entry of a tile is where the tile starts
leads_to : (t : Table) (a b w : ℕ) (tile : Tile) → tile_in t a ≡ Some tile → a ≤ w → b ≡ a → LeadsTo t a b w
leads_to t a b w tile is low same = record {
  start = subst (λ (o : Option Tile). IsSome o) (sym is) refl;
  low = low;
  region = ap (λ (n : ℕ). n / t.words_per_region) (sym same);
}

-- a tile starts wherever one did
starts_on : (t t' : Table) (a y : ℕ) (tile : Tile) → tile_in t' a ≡ Some tile → ((y : ℕ) → y ≢ a → tile_in t' y ≡ tile_in t y)
    → IsSome (tile_in t y) → IsSome (tile_in t' y)
starts_on t t' a y tile is others h = elim (cases_eq y a) [
  | inl same ↦ subst (λ (o : Option Tile). IsSome o) (sym (ap (tile_in t') same ∙ is)) refl
  | inr other ↦ subst (λ (o : Option Tile). IsSome o) (sym (others y other)) h
]

-- one more tile, the entry of the cards that begin in it
pub entries_added : (t t' : Table) (old new : Entries) (a : ℕ) (tile : Tile) → IsShaped t' → t'.words_per_region ≡ t.words_per_region
    → tile_in t' a ≡ Some tile → ((y : ℕ) → y ≢ a → tile_in t' y ≡ tile_in t y)
    → AreEntriesPut (IsPut a (a + tile_size tile)) old new → AreEntries t old → AreEntries t' new
entries_added t t' old new a tile g wide is others put e = rw put.card_words (λ b c h.
    let w : ℕ = c * old.card_words in
    let before : ℕ = get_or old.starts c 0 in
    let end : ℕ = a + tile_size tile in
    elim (cases_eq b a) [
      | inl same ↦ (
          let size = ap tile_size (one_tile t' a b tile h.tile is h.tile_is same) in
          let low : a ≤ w = omega (arith, h.low) in
          let high : w < end = omega (arith, h.high) in
          subst (λ (n : ℕ). LeadsTo t' n b w) (sym (put.entries c ∙ if_between a end w a before low high))
          (leads_to t' a b w tile is low same))
      | inr other ↦ (
          let was : IsHolder t b w = holds t b w h.tile (sym (others b other) ∙ h.tile_is) h.low h.high in
          let same : get_or new.starts c 0 ≡ before = put.entries c ∙ elim (cases_lt w a) [
            | inl lt ↦ if_below a end w a before lt
            | inr ge ↦ elim (cases_lt w end) [
              | inl lt ↦ absurd (other (one_holder t' b a w g h (holds t' a w tile is ge lt)))
              | inr le ↦ if_above a end w a before le
            ]
          ] in
          subst (λ (n : ℕ). LeadsTo t' n b w) (sym same)
          (leads_on t t' before b b w wide (starts_on t t' a before tile is others) refl (e b c was)))
    ])

-- a tile of the same size in place of another
pub entries_same : (t t' : Table) (entries : Entries) (a : ℕ) (u v : Tile) → t'.words_per_region ≡ t.words_per_region
    → tile_in t a ≡ Some u → tile_in t' a ≡ Some v → ((y : ℕ) → y ≢ a → tile_in t' y ≡ tile_in t y) → tile_size v ≡ tile_size u
    → AreEntries t entries → AreEntries t' entries
entries_same t t' entries a u v wide is is' others size e b c h =
    let w : ℕ = c * entries.card_words in
    let before : ℕ = get_or entries.starts c 0 in
    let was : IsHolder t b w = elim (cases_eq b a) [
      | inl same ↦ (
          let long = ap tile_size (one_tile t' a b v h.tile is' h.tile_is same) in
          holds t b w u (ap (tile_in t) same ∙ is) h.low (omega (arith, h.high)))
      | inr other ↦ holds t b w h.tile (sym (others b other) ∙ h.tile_is) h.low h.high
    ] in
    leads_on t t' before b b w wide (starts_on t t' a before v is' others) refl (e b c was)

-- no new tile, and a region with a tile has all that it had
pub entries_fewer : (t t' : Table) (entries : Entries) → t'.words_per_region ≡ t.words_per_region
    → ((y : ℕ) (u : Tile) → tile_in t' y ≡ Some u → tile_in t y ≡ Some u)
    → ((b y : ℕ) → IsSome (tile_in t' b) → y / t.words_per_region ≡ b / t.words_per_region → tile_in t' y ≡ tile_in t y)
    → AreEntries t entries → AreEntries t' entries
entries_fewer t t' entries wide fewer near e b c h =
    let w : ℕ = c * entries.card_words in
    let before : ℕ = get_or entries.starts c 0 in
    let l = e b c (holds t b w h.tile (fewer b h.tile h.tile_is) h.low h.high) in
    let there : IsSome (tile_in t' b) = subst (λ (o : Option Tile). IsSome o) (sym h.tile_is) refl in
    leads_on t t' before b b w wide (λ s. subst (λ (o : Option Tile). IsSome o) (sym (near b before there l.region)) s) refl l

-- the words of a filler are in one region
filler_region_of : (t : Table) (x n j : ℕ) → IsShaped t → tile_in t x ≡ Some (Filler n) → j < n
    → (x + j) / t.words_per_region ≡ x / t.words_per_region
filler_region_of t x n j g is lt =
    let z = g.positive in
    let k : ℕ = x / t.words_per_region in
    let whole : k * t.words_per_region + x % t.words_per_region ≡ x = omega arith in
    let fits = (g.fitting k).fits (filler_region t x n is).1 in
    let end = (cut_at (tiles_of t k) (x % t.words_per_region) (Filler n) (tile_listed t x (Filler n) is).0).1 in
    div_is (x + j) t.words_per_region k (omega arith) (omega (arith, whole, fits, end))

module _ (t t' : Table) (x n r : ℕ) (tile : Tile) (g : IsShaped t) (g' : IsShaped t') (cut : Replaces t t' x n (tile ∷ remainder r))
    (was : tile_in t x ≡ Some (Filler n)) (some : 0 < tile_size tile) (sum : tile_size tile + r ≡ n) where
  first : tile_in t' x ≡ Some tile
  first = let zero_is : x + 0 ≡ x = omega arith in ap (tile_in t') (sym zero_is) ∙ cut.within 0 (omega arith)

  rest : 0 < r → tile_in t' (x + tile_size tile) ≡ Some (Filler r)
  rest p = cut.within (tile_size tile) (omega arith) ∙ behind_first (tile_size tile) r refl some p
    where
      behind_first : (m r : ℕ) → tile_size tile ≡ m → 0 < m → 0 < r → tile_at m (tile ∷ remainder r) ≡ Some (Filler r)
      behind_first zero r q z p = absurd (omega arith)
      behind_first (suc m) zero q z p = absurd (omega arith)
      behind_first (suc m) (suc r) q z p =
          let none : suc m - suc m ≡ 0 = omega arith in
          rw (q, le-leb (suc m) (suc m) (omega arith), none) refl

  -- a tile still starts wherever one did
  stays : (y : ℕ) → IsSome (tile_in t y) → IsSome (tile_in t' y)
  stays y h = elim (cases_lt y x) [
    | inl lt ↦ subst (λ (o : Option Tile). IsSome o) (sym (cut.others y (inl lt))) h
    | inr ge ↦ elim (cases_lt y (x + n)) [
      | inr le ↦ subst (λ (o : Option Tile). IsSome o) (sym (cut.others y (inr le))) h
      | inl lt ↦ elim (cases_eq y x) [
        | inl same ↦ subst (λ (o : Option Tile). IsSome o) (sym (ap (tile_in t') same ∙ first)) refl
        | inr other ↦ (
            let place : x + (y - x) ≡ y = omega arith in
            let none : tile_in t y ≡ None = ap (tile_in t) (sym place) ∙ cut.inside (y - x) (omega arith) (omega arith) in
            absurd (no_tile (tile_in t y) none h))
      ]
    ]
  ]

  -- a word of a tile was one of a tile of the same region
  before_cut : (b w : ℕ) → IsHolder t' b w → (a : ℕ) × IsHolder t a w × (a / t.words_per_region ≡ b / t.words_per_region)
  before_cut b w h = elim (cases_lt b x) [
    | inl lt ↦ (b, holds t b w h.tile (sym (cut.others b (inl lt)) ∙ h.tile_is) h.low h.high, refl)
    | inr ge ↦ elim (cases_lt b (x + n)) [
      | inr le ↦ (b, holds t b w h.tile (sym (cut.others b (inr le)) ∙ h.tile_is) h.low h.high, refl)
      | inl lt ↦ (
          let place : x + (b - x) ≡ b = omega arith in
          let at : tile_at (b - x) (tile ∷ remainder r) ≡ Some h.tile =
          sym (cut.within (b - x) (omega arith)) ∙ ap (tile_in t') place ∙ h.tile_is in
          let end = tile_at-end (tile ∷ remainder r) (b - x) h.tile at in
          let total = remainder_total r in
          let region = filler_region_of t x n (b - x) g was (omega arith) in (
            x,
            holds t x w (Filler n) was (omega (arith, h.low)) (omega (arith, h.high)),
            sym region ∙ ap (λ (m : ℕ). m / t.words_per_region) place,
          ))
    ]
  ]

  -- a tile is cut off the front of a filler of n words, of which r are left
  pub entries_cut : (old new : Entries) → AreEntriesPut (IsCutOff old.card_words x (x + tile_size tile) (x + n)) old new
      → AreEntries t old → AreEntries t' new
  entries_cut old new put e = rw put.card_words (λ b c h. elim (cases_lt (c * old.card_words) x) [
    | inl lt ↦ other b c h ((put.entries c).others (inl lt))
    | inr ge ↦ elim (cases_lt (c * old.card_words) (x + tile_size tile)) [
      | inl lt ↦ (
          let w : ℕ = c * old.card_words in
          subst (λ (m : ℕ). LeadsTo t' m b w) (sym ((put.entries c).front ge lt))
          (leads_to t' x b w tile first ge (one_holder t' b x w g' h (holds t' x w tile first ge lt))))
      | inr le ↦ other b c h ((put.entries c).others (inr le))
    ]
  ])
    where
      other : (b c : ℕ) → IsHolder t' b (c * old.card_words)
          → (get_or new.starts c 0 ≡ get_or old.starts c 0)
          ⊎ IsOwn (x + tile_size tile) (x + n) (c * old.card_words) (get_or new.starts c 0)
          → LeadsTo t' (get_or new.starts c 0) b (c * old.card_words)
      other b c h (inl same) =
          let w : ℕ = c * old.card_words in
          let (a, before, region) = before_cut b w h in
          subst (λ (m : ℕ). LeadsTo t' m b w) (sym same)
          (leads_on t t' (get_or old.starts c 0) a b w cut.size (stays (get_or old.starts c 0)) region (e a c before))
      other b c h (inr own) =
          let w : ℕ = c * old.card_words in
          let m : ℕ = x + tile_size tile in
          let is : tile_in t' m ≡ Some (Filler r) = rest (omega (arith, own.0, own.1)) in
          subst (λ (k : ℕ). LeadsTo t' k b w) (sym own.2)
          (leads_to t' m b w (Filler r) is own.0
          (one_holder t' b m w g' h (holds t' m w (Filler r) is own.0 (omega (arith, own.1)))))
