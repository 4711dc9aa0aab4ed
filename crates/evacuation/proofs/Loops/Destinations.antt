-- What scans of copies keep.
use Rattle.std.proofs.Common.{◌≡◌, ◌+◌, ◌*◌, ◌/◌, ◌%◌, ◌<◌, ◌∙◌, ℕ, false, Option, Some, None, length, refl, sym, ap, subst}
use Rattle.std.proofs.Common.{inl, inr, arith, slice_get, IsSome}
use Rattle.std.proofs.lemmas.Bool.{cases_eq, cases_lt}
use Rattle.heap_model.specs.Heap.{Stored}
use Rattle.regions.specs.Tiles.{Object}
use Rattle.regions.specs.Table.{Table, kind_of, used_of, top_of, tile_in}
use Rattle.regions.specs.Shaped.{IsShaped}
use Rattle.regions.specs.declared.row.Kind.TheVariants as kinds
use Rattle.object_copy.specs.Copies.{Destinations}
use Rattle.object_copy.proofs.Copied.{tile_of_object}
use Rattle.evacuation.specs.Space.{IsSpaceObject, IsObjectSettled, IsRegionSettled, IsDestination, flag}
use Rattle.evacuation.specs.Turns.{Pause, IsPause, IsTurn, PauseStands, PauseGoesOn, in_set, kept_now, layout, space}
use Rattle.evacuation.specs.declared.room.Context.{Context}
use Rattle.regions.specs.Walks.{IsNextTile, IsLast}
use Rattle.regions.proofs.Tiles.Steps.{tile_low, tile_there}
use Rattle.evacuation.specs.Cursors.{AreSettledBelow}
use Rattle.evacuation.proofs.Lists.{get_within, get_before}
use Rattle.evacuation.proofs.Turns.KeptObjects.{kept_fresh, kept_object, object_of}
use Rattle.evacuation.proofs.Turns.Following.{settled_after}
use Rattle.evacuation.specs.declared.room.Notes.{Notes}

-- what stands in a destination is a kept object
pub copy_there : (p : Pause) (t : Table) (c : Context) → PauseStands p t c → (k : ℕ) → IsDestination c.destinations k → (a : ℕ)
    → a / p.start.words_per_region ≡ k → IsSome (tile_in t a) → IsSpaceObject (space p t) a
copy_there p t c stands k w a r s =
    let (u, e) = tile_there t a s in
    let free : kind_of p.start (a / p.start.words_per_region) ≡ kinds.Free = ap (kind_of p.start) r ∙ (stands.turn.taken k w).0 in
    let (x, same) = stands.turn.table.live a u free e in
    let known : a / p.start.words_per_region < length p.start.regions =
    subst (λ (m : ℕ). m < length p.start.regions) (sym r) (stands.turn.taken k w).2 in
    (x, kept_fresh p t a stands.premises stands.turn.table.size known free ∙ object_of t a (Some (Object x)) (e ∙ ap Some same))

module _ (p : Pause) (t : Table) (c : Context) (stands : PauseStands p t c) (g : IsShaped t)
    (k : ℕ) (w : IsDestination c.destinations k) where
  abbrev q : IsPause p
  q = stands.premises

  abbrev turn : IsTurn p t c.destinations
  turn = stands.turn

  words : t.words_per_region ≡ p.start.words_per_region
  words = turn.table.size

  pub copy_object : (a : ℕ) → a / p.start.words_per_region ≡ k → IsSome (tile_in t a) → IsSpaceObject (space p t) a
  copy_object a r s = copy_there p t c stands k w a r s

  pub copy_outside : (a : ℕ) → a / p.start.words_per_region ≡ k → in_set p a ≡ false
  copy_outside a r = ap (flag p.chosen) r ∙ turn.copying.taken k w

  -- a kept object of the region has a tile below its top
  pub kept_tile : (a : ℕ) (y : Stored) → kept_now p t a ≡ Some y → tile_in t a ≡ Some (Object y)
  kept_tile a y e = tile_of_object t a y (kept_object p t a y e)

  pub kept_low : (a : ℕ) (y : Stored) → a / p.start.words_per_region ≡ k → kept_now p t a ≡ Some y
      → a < k * p.start.words_per_region + used_of t k
  kept_low a y r e =
      let r' : a / t.words_per_region ≡ k = subst (λ (n : ℕ). a / n ≡ k) (sym words) r in
      let low = tile_low t a (Object y) g (kept_tile a y e) (ap (kind_of t) r' ∙ (turn.taken k w).1) in
      let s = ap (top_of t) r' in
      let m = ap (λ (n : ℕ). k * n + used_of t k) words in
      omega arith

  pub none_there : used_of t k ≡ 0 → (noted : Notes) → IsRegionSettled (layout p) noted (space p t) k
  none_there z noted b y r e = absurd (
      let low = kept_low b y r e in
      let zz = q.shaped.positive in
      let whole : b / p.start.words_per_region * p.start.words_per_region + b % p.start.words_per_region ≡ b = omega arith in
      let whole' : k * p.start.words_per_region + b % p.start.words_per_region ≡ b = rw r at whole in
      omega arith
      )

  -- the copy at an address was settled: those below the next one are
  module _ (t' : Table) (c' : Context) (on : PauseGoesOn p t t' c c') (at : ℕ) (r : at / p.start.words_per_region ≡ k)
      (o : IsSpaceObject (space p t) at) (done : AreSettledBelow p c.noted t k at)
      (settled : IsObjectSettled (layout p) c'.noted (space p t') at) where
    below_at : (b : ℕ) (y : Stored) → b / p.start.words_per_region ≡ k → b < at → kept_now p t' b ≡ Some y
        → IsObjectSettled (layout p) c'.noted (space p t') b
    below_at b y rb h e = elim (on.after.new_above b y (copy_outside b rb) e) [
      | inl was ↦ λ i. settled_after on b i (copy_outside b rb) was (done b was.0 rb h was.1 i)
      | inr high ↦ absurd (
          let low = kept_low at o.0 r o.1 in
          let s : b / p.start.words_per_region * p.start.words_per_region + used_of t (b / p.start.words_per_region)
          ≡ k * p.start.words_per_region + used_of t k =
          ap (λ (m : ℕ). m * p.start.words_per_region + used_of t m) rb in
          omega arith
          )
    ]

    pub done_next : (next : ℕ) → IsNextTile t' at next → AreSettledBelow p c'.noted t' k next
    done_next next n b y rb h e = elim (cases_lt b at) [
      | inl low ↦ below_at b y rb low e
      | inr high ↦ elim (cases_eq b at) [
        | inl same ↦ subst (IsObjectSettled (layout p) c'.noted (space p t')) (sym same) settled
        | inr other ↦ absurd (n.between b (Object y) (omega arith) h (tile_of_object t' b y (kept_object p t' b y e)))
      ]
    ]

    pub done_last : IsLast t' at → IsRegionSettled (layout p) c'.noted (space p t') k
    done_last n b y rb e = elim (cases_lt b at) [
      | inl low ↦ below_at b y rb low e
      | inr high ↦ elim (cases_eq b at) [
        | inl same ↦ subst (IsObjectSettled (layout p) c'.noted (space p t')) (sym same) settled
        | inr other ↦ absurd (n b (Object y) (omega arith) (
            let z = on.stands.turn.table.size in
            let e1 : b / t'.words_per_region ≡ k = subst (λ (m : ℕ). b / m ≡ k) (sym z) rb in
            let e2 : at / t'.words_per_region ≡ k = subst (λ (m : ℕ). at / m ≡ k) (sym z) r in
            e1 ∙ sym e2
            ) (tile_of_object t' b y (kept_object p t' b y e)))
      ]
    ]

-- ---- destination after destination
pub record AreRegionsSettled (p : Pause) (noted : Notes) (t : Table) (d : Destinations) (n : ℕ) : Type 0 where
  pub each : (m k : ℕ) → m < n → slice_get d.regions m ≡ Some k → IsRegionSettled (layout p) noted (space p t) k

module _ (p : Pause) (t t' : Table) (c c' : Context) (stands : PauseStands p t c) (on : PauseGoesOn p t t' c c') (n k : ℕ)
    (at : slice_get c.destinations.regions n ≡ Some k) where
  still : (m j : ℕ) → m < n → slice_get c.destinations.regions m ≡ Some j → IsRegionSettled (layout p) c.noted (space p t) j
      → IsRegionSettled (layout p) c'.noted (space p t') j
  still m j h e settled b y r here =
      let w : IsDestination c.destinations j = record { at = m; is = e } in
      let closed = on.after.closed j w (λ l.
      let z = stands.turn.copying.last_at j m l e in let v = get_within c.destinations.regions n k at in absurd (omega arith)) in
      let was = closed.0 b y r here in
      λ i. settled_after on b i (ap (flag p.chosen) r ∙ stands.turn.copying.taken j w) was (settled b was.0 r was.1 i)

  before : (m j : ℕ) → m < n → slice_get c'.destinations.regions m ≡ Some j → slice_get c.destinations.regions m ≡ Some j
  before m j h e = go (slice_get c.destinations.regions m) refl
    where
      go : (o : Option ℕ) → slice_get c.destinations.regions m ≡ o → slice_get c.destinations.regions m ≡ Some j
      go None f = absurd (let z = get_before c.destinations.regions m n k f at in omega arith)
      go (Some i) f = let g = on.after.taken_grows m i f in f ∙ (let same : i ≡ j = cc in ap Some same)

  pub regions_more : AreRegionsSettled p c.noted t c.destinations n → IsRegionSettled (layout p) c'.noted (space p t') k
      → AreRegionsSettled p c'.noted t' c'.destinations (n + 1)
  regions_more done settled = record {
    each = λ m j h e. elim (cases_eq m n) [
      | inl same ↦ (let f = on.after.taken_grows n k at in
          let g = ap (slice_get c'.destinations.regions) same in
          let s : k ≡ j = cc in
          subst (IsRegionSettled (layout p) c'.noted (space p t')) s settled)
      | inr other ↦ let e' = before m j (omega arith) e in still m j (omega arith) e' (done.each m j (omega arith) e')
    ];
  }

pub regions_all : (p : Pause) (noted : Notes) (t : Table) (d : Destinations) (n : ℕ) → AreRegionsSettled p noted t d n
    → slice_get d.regions n ≡ None → (k : ℕ) → IsDestination d k → IsRegionSettled (layout p) noted (space p t) k
regions_all p noted t d n done none k w = done.each w.at k (get_before d.regions n w.at k none w.is) w.is
