use Rattle.std.proofs.Common.{◌≡◌, ◌-◌, ◌<◌, ◌^◌, ℕ, zero, suc, Bool, true, false, refl, arith}
use Rattle.collection.proofs.Cycles.{compacted_stands}
use Rattle.collection.proofs.Settled.{kinds_are, packed_settled, quiet_settled}
use Rattle.collection.proofs.Sinking.{below_same, rests_same, sunk_below, sunk_compact, sunk_rests}
use Rattle.collection.proofs.Slides.{compacted_quiet, low_packed}
use Rattle.collection.proofs.compaction.slide_once.Goals as goal

pub returns : goal.returns
returns g c =
    let b : ℕ = 2 ^ 32 - 1 in
    let t = c.take-reply.ensures in
    let (n, w, is, settled) = t.does in
    let d = settled.0 in
    let z = settled.1 in
    let p = settled.2 in
    let kinds = kinds_are c.args.core.now d z in
    let told = c.moves.ensures n w is in
    record {
      collects = t.collects;
      quiet = λ s q. compacted_quiet b n w d c.take-reply.new.core z.core z.shaped p t.shaped s
          (compacted_stands b c.take-reply.result s c.take-reply.new.core (t.follows s q.stands)) (quiet_settled c.args.core.now d z s q);
      packed = λ graph low packed. low_packed b n w d c.take-reply.new.core z.core z.shaped p
          (below_same c.args.core.now.table d.table kinds low) graph (packed_settled c.args.core.now d z graph packed);
      below = λ low. sunk_below n w d c.take-reply.new.core z.core z.shaped p (below_same c.args.core.now.table d.table kinds low);
      rests = λ e s q low m rests.
          let quiet = quiet_settled c.args.core.now d z s q in
          sunk_rests n w d c.take-reply.new.core z.core z.shaped p (below_same c.args.core.now.table d.table kinds low) quiet.exact
          quiet.runs
          (told.0 e) m (rests_same c.args.core.now.table d.table kinds m rests);
      compact = λ e s q low.
          let quiet = quiet_settled c.args.core.now d z s q in
          sunk_compact n w d c.take-reply.new.core z.core z.shaped p (below_same c.args.core.now.table d.table kinds low) quiet.exact
          quiet.runs
          (none n (λ some. clash c.moves.result (told.1 some) e));
    }
  where
    clash : (x : Bool) → x ≡ true → x ≡ false → ⊥
    clash x t f = cc

    none : (n : ℕ) → (0 < n → ⊥) → n ≡ 0
    none zero h = refl
    none (suc n) h = absurd (h (omega arith))
