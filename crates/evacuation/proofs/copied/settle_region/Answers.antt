use Rattle.heap_words.specs.Configs.{max_words}
use Rattle.evacuation.specs.Space.{IsDestination}
use Rattle.std.proofs.Common.{◌≡◌, ◌∙◌, ℕ, ap, refl, subst, arith, ◌<◌, ◌≤◌, ◌+◌, ◌*◌, ◌/◌, ◌-◌, length, sym}
use Rattle.std.proofs.lemmas.Nat.{mul-le}
use Rattle.evacuation.proofs.Turns.KeptObjects.{kept_object}
use Rattle.regions.specs.Table.{tile_in, kind_of, used_of}
use Rattle.evacuation.proofs.Copies.NewPlace.{is_some}
use Rattle.regions.proofs.Words.Divides.{div_is, div_low, div_high}
use Rattle.evacuation.proofs.Turns.Following.{goes_further, stays_on, taken_after}
use Rattle.regions.proofs.Tiles.Steps as steps
use Rattle.evacuation.proofs.Loops.Destinations as scans
use Rattle.evacuation.proofs.copied.settle_region.Goals as goal

bound : (k n w : ℕ) → k < n → n * w ≤ max_words → k * w + w ≤ max_words
bound k n w h s = let m = mul-le (k + 1) w n w (omega arith) (omega arith) in omega (arith, m)

filled : (top bottom used : ℕ) → (top ≡ bottom → ⊥) → top ≡ bottom + used → 0 < used
filled top bottom used n e = omega arith

below_bottom : (x words k : ℕ) → 0 < words → x / words ≡ k → x < k * words → ⊥
below_bottom x words k z r low = let q = div_low x words k z r in absurd (omega arith)

smaller : (end at next : ℕ) → at < next → next < end → end - next < end - at
smaller end at next u h = omega arith

at_bottom : (number region words table start : ℕ) → number ≡ region → words ≡ table → table ≡ start → number * words ≡ region * start
at_bottom number region words table start a b c = ap (λ (n : ℕ). n * words) a ∙ ap (λ (n : ℕ). region * n) (b ∙ c)

pub overflow_mul-bottom : goal.overflow_mul-bottom
overflow_mul-bottom g c =
    let (stands, destination) = c.requires in
    let known = (stands.turn.taken c.args.region destination).2 in
    let count = stands.turn.table.count in
    let b = bound c.args.region (length c.args.table.now.regions) c.args.table.now.words_per_region (omega arith) c.law.ensures.in_all in
    let e = at_bottom c.number.result c.args.region c.words_per_region.result c.args.table.now.words_per_region
    c.args.table.now.words_per_region c.number.ensures c.words_per_region.ensures refl in
    rw e (omega (arith, b))

pub top-requires : goal.top-requires
top-requires g c =
    let (stands, destination) = c.requires in
    let known = (stands.turn.taken c.args.region destination).2 in
    let count = stands.turn.table.count in
    omega arith

pub returns-then-word-bottom : goal.returns-then-word-bottom
returns-then-word-bottom g c =
    let (stands, destination) = c.requires in
    let e = at_bottom c.number.result c.args.region c.words_per_region.result c.args.table.now.words_per_region
    c.args.table.now.words_per_region c.number.ensures c.words_per_region.ensures refl in
    let a = c.if-word-bottom.true in
    let b = c.word.ensures in
    let t = c.top.ensures in
    record {
      goes_on = stays_on stands;
      settled = scans.none_there g.pause c.args.table.now c.args.context.now stands c.law.ensures c.args.region destination
          (omega (arith, e, a, b, t)) c.args.context.now.noted;
    }

pub tiles-init : goal.tiles-init
tiles-init g c =
    let (stands, destination) = c.requires in
    let e = at_bottom c.number.result c.args.region c.words_per_region.result c.args.table.now.words_per_region
    c.args.table.now.words_per_region c.number.ensures c.words_per_region.ensures refl in
    let f = at_bottom c.number.result c.args.region c.words_per_region.result c.args.table.now.words_per_region
    g.pause.start.words_per_region c.number.ensures c.words_per_region.ensures stands.turn.table.size in
    let a = c.if-word-bottom.false in
    let b = c.word.ensures in
    let t = c.top.ensures in
    let at = c.new-at.ensures in
    let z = stands.premises.shaped.positive in
    let used : 0 < used_of c.args.table.now c.args.region = filled c.word.result (c.number.result * c.words_per_region.result)
    (used_of c.args.table.now c.args.region) a (omega (arith, e, b, t)) in
    let (u, there) = steps.bottom_tile c.args.table.now c.args.region c.law.ensures (stands.turn.taken c.args.region destination).1 used in
    let region : c.new-at.result / g.pause.start.words_per_region ≡ c.args.region =
    div_is c.new-at.result g.pause.start.words_per_region c.args.region (omega (arith, f, at)) (omega (arith, f, at, z)) in
    record {
      on = stays_on stands;
      region = region;
      object = scans.copy_object g.pause c.args.table.now c.args.context.now stands c.law.ensures c.args.region destination
          c.new-at.result region
          (steps.some_tile (tile_in c.args.table.now c.new-at.result) u (ap (tile_in c.args.table.now) (at ∙ e) ∙ there));
      done = λ x y r low k. absurd (below_bottom x g.pause.start.words_per_region c.args.region z r (omega (arith, f, at, low)));
    }

pub settle_object-requires : goal.settle_object-requires
settle_object-requires g c =
    let (stands, destination) = c.requires in
    let v = c.tiles.invariant in
    let w = taken_after v.on c.args.region destination in
    let out =
    scans.copy_outside g.pause c.tiles.table c.tiles.context v.on.stands c.law-in-tiles.ensures c.args.region w c.tiles.at v.region in
    (v.on.stands, (out, (v.object, subst (IsDestination c.tiles.context.destinations) (sym v.region) w)))

pub next_behind-requires : goal.next_behind-requires
next_behind-requires g c =
    let (stands, destination) = c.requires in
    let v = c.tiles.invariant in
    let on = c.settle_object.ensures.goes_on in
    let w = taken_after v.on c.args.region destination in
    let out =
    scans.copy_outside g.pause c.tiles.table c.tiles.context v.on.stands c.law-in-tiles.ensures c.args.region w c.tiles.at v.region in
    let (y, here, n) = on.after.stays c.tiles.at v.object.0 out v.object.1 in
    let region : c.tiles.at / c.settle_object.new.table.words_per_region ≡ c.args.region =
    ap (λ (m : ℕ). c.tiles.at / m) on.stands.turn.table.size ∙ v.region in
    record {
      object = is_some _ y (kept_object g.pause c.settle_object.new.table c.tiles.at y here);
      ordinary = ap (kind_of c.settle_object.new.table) region
          ∙ (on.stands.turn.taken c.args.region (taken_after on c.args.region w)).1;
    }

-- the next copy is in the same region
region_next : (at next words start region : ℕ) → words ≡ start → next / words ≡ at / words → at / start ≡ region → next / start ≡ region
region_next at next words start region size same here = subst (λ (m : ℕ). next / m ≡ at / m) size same ∙ here

pub tiles-smaller : goal.tiles-smaller
tiles-smaller g c =
    let (stands, destination) = c.requires in
    let n = c.in-Some.ensures.next in
    let region = region_next c.tiles.at c.in-Some.next c.settle_object.new.table.words_per_region g.pause.start.words_per_region
    c.args.region c.settle_object.ensures.goes_on.stands.turn.table.size n.region c.tiles.invariant.region in
    let high = div_high c.in-Some.next g.pause.start.words_per_region c.args.region stands.premises.shaped.positive region in
    smaller (c.args.region * g.pause.start.words_per_region + g.pause.start.words_per_region) c.tiles.at c.in-Some.next n.above high

pub tiles-preserved : goal.tiles-preserved
tiles-preserved g c =
    let (stands, destination) = c.requires in
    let v = c.tiles.invariant in
    let on = c.settle_object.ensures.goes_on in
    let w = taken_after v.on c.args.region destination in
    let n = c.in-Some.ensures.next in
    let region = region_next c.tiles.at c.in-Some.next c.settle_object.new.table.words_per_region g.pause.start.words_per_region
    c.args.region on.stands.turn.table.size n.region v.region in
    record {
      on = goes_further v.on on;
      region = region;
      object = scans.copy_there g.pause c.settle_object.new.table c.settle_object.new.context on.stands c.args.region
          (taken_after on c.args.region w) c.in-Some.next region n.tile;
      done = scans.done_next g.pause c.tiles.table c.tiles.context v.on.stands c.law-in-tiles.ensures c.args.region w
          c.settle_object.new.table c.settle_object.new.context on c.tiles.at v.region v.object v.done c.settle_object.ensures.settled
          c.in-Some.next n;
    }

pub returns : goal.returns
returns g c =
    let (stands, destination) = c.requires in
    let v = c.tiles.invariant in
    let on = c.settle_object.ensures.goes_on in
    record {
      goes_on = goes_further v.on on;
      settled = scans.done_last g.pause c.tiles.table c.tiles.context v.on.stands c.law-in-tiles.ensures c.args.region
          (taken_after v.on c.args.region destination) c.settle_object.new.table c.settle_object.new.context on c.tiles.at v.region
          v.object v.done c.settle_object.ensures.settled c.in_default.ensures.last;
    }
