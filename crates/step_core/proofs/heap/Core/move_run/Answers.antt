use Rattle.std.proofs.Common.{◌≡◌, ◌^◌, ◌<◌, ◌≤◌, ℕ, None, false, length, arith}
use Rattle.alloc_buffers.specs.Placement.{closed}
use Rattle.cards.specs.Cards.{is_dirty}
use Rattle.std.proofs.lemmas.Nat.{mul-le}
use Rattle.regions.specs.Table.{Table}
use Rattle.regions.specs.Shaped.{IsShaped}
use Rattle.regions.proofs.LongRuns.Blocks.{block_within}
use Rattle.step_core.specs.Stands.{ShowsGraph, KeepsFrom}
use Rattle.step_core.specs.Sliding.{IsMovable}
use Rattle.step_core.proofs.Cycles.Cycling.{to_fields}
use Rattle.step_core.proofs.Pauses.Pausing.{cards_room}
use Rattle.step_core.proofs.Pauses.Slid.{movable_known, can_redirect, between_stands, can_move, slid_shows, slid_keeps, slid_kept}
use Rattle.step_core.proofs.Pauses.Slid.{moves_from, words_copied}
use Rattle.step_core.proofs.heap.Core.move_run.Goals as goal

few_regions : (t : Table) → IsShaped t → (n : ℕ) → n ≤ length t.regions → n < 2 ^ 32
few_regions t g n le =
    let all = g.in_all in
    let some = mul-le (length t.regions) 1 (length t.regions) t.words_per_region (omega arith) g.positive in
    omega (arith, le, all, some)

pub overflow_cast-moved : goal.overflow_cast-moved
overflow_cast-moved c =
    let mv = to_fields _ _ c.self.view_is (λ d. IsMovable d c.args.first c.args.to) c.requires.movable in
    let idle = to_fields _ _ c.self.view_is (λ d. d.marker.running ≡ false) c.requires.idle in
    let none = to_fields _ _ c.self.view_is (λ d. d.clearing ≡ None) c.requires.settled in
    let clean = to_fields _ _ c.self.view_is (λ d. (card : ℕ) → is_dirty d.cards card ≡ false) c.requires.clean in
    let known = movable_known _ c.self.invariant c.law.ensures c.args.first c.args.to mv idle none clean in
    let fits = block_within c.self.inside.table c.args.first known in
    let few : c.redirect_run-moved.result.regions < 2 ^ 32 =
    few_regions _ c.law.ensures _ (omega (arith, fits, c.redirect_run-moved.ensures.regions)) in
    omega (arith, few)

pub redirect_run-moved-requires-clause-can : goal.redirect_run-moved-requires-clause-can
redirect_run-moved-requires-clause-can c =
    let mv = to_fields _ _ c.self.view_is (λ d. IsMovable d c.args.first c.args.to) c.requires.movable in
    let idle = to_fields _ _ c.self.view_is (λ d. d.marker.running ≡ false) c.requires.idle in
    let none = to_fields _ _ c.self.view_is (λ d. d.clearing ≡ None) c.requires.settled in
    let clean = to_fields _ _ c.self.view_is (λ d. (card : ℕ) → is_dirty d.cards card ≡ false) c.requires.clean in
    rw c.card_words.ensures (can_redirect _ c.self.invariant c.law.ensures c.args.first c.args.to mv idle none clean)

pub redirect_run-moved-requires-clause-room : goal.redirect_run-moved-requires-clause-room
redirect_run-moved-requires-clause-room c = cards_room _ c.self.invariant

pub forget-requires-clause-stands : goal.forget-requires-clause-stands
forget-requires-clause-stands c =
    let mv = to_fields _ _ c.self.view_is (λ d. IsMovable d c.args.first c.args.to) c.requires.movable in
    let idle = to_fields _ _ c.self.view_is (λ d. d.marker.running ≡ false) c.requires.idle in
    let none = to_fields _ _ c.self.view_is (λ d. d.clearing ≡ None) c.requires.settled in
    let clean = to_fields _ _ c.self.view_is (λ d. (card : ℕ) → is_dirty d.cards card ≡ false) c.requires.clean in
    between_stands _ c.self.invariant c.law.ensures c.args.first c.args.to mv idle none clean _ _
    (rw c.card_words.ensures at c.redirect_run-moved.ensures.redirected) c.law-2.ensures

pub forget-requires-clause-within : goal.forget-requires-clause-within
forget-requires-clause-within c =
    let mv = to_fields _ _ c.self.view_is (λ d. IsMovable d c.args.first c.args.to) c.requires.movable in
    let idle = to_fields _ _ c.self.view_is (λ d. d.marker.running ≡ false) c.requires.idle in
    let none = to_fields _ _ c.self.view_is (λ d. d.clearing ≡ None) c.requires.settled in
    let clean = to_fields _ _ c.self.view_is (λ d. (card : ℕ) → is_dirty d.cards card ≡ false) c.requires.clean in
    let known = movable_known _ c.self.invariant c.law.ensures c.args.first c.args.to mv idle none clean in
    let fits = block_within c.self.inside.table c.args.first known in
    omega (arith, fits, c.redirect_run-moved.ensures.regions, c.redirect_run-moved.ensures.redirected.table.count)

pub move_run-requires-clause-known : goal.move_run-requires-clause-known
move_run-requires-clause-known c =
    let mv = to_fields _ _ c.self.view_is (λ d. IsMovable d c.args.first c.args.to) c.requires.movable in
    let idle = to_fields _ _ c.self.view_is (λ d. d.marker.running ≡ false) c.requires.idle in
    let none = to_fields _ _ c.self.view_is (λ d. d.clearing ≡ None) c.requires.settled in
    let clean = to_fields _ _ c.self.view_is (λ d. (card : ℕ) → is_dirty d.cards card ≡ false) c.requires.clean in
    (can_move _ c.self.invariant c.law.ensures c.args.first c.args.to mv idle none clean _ _
    (rw c.card_words.ensures at c.redirect_run-moved.ensures.redirected) c.law-2.ensures).known

pub move_run-requires-clause-run : goal.move_run-requires-clause-run
move_run-requires-clause-run c =
    let mv = to_fields _ _ c.self.view_is (λ d. IsMovable d c.args.first c.args.to) c.requires.movable in
    let idle = to_fields _ _ c.self.view_is (λ d. d.marker.running ≡ false) c.requires.idle in
    let none = to_fields _ _ c.self.view_is (λ d. d.clearing ≡ None) c.requires.settled in
    let clean = to_fields _ _ c.self.view_is (λ d. (card : ℕ) → is_dirty d.cards card ≡ false) c.requires.clean in
    (can_move _ c.self.invariant c.law.ensures c.args.first c.args.to mv idle none clean _ _
    (rw c.card_words.ensures at c.redirect_run-moved.ensures.redirected) c.law-2.ensures).run

pub move_run-requires-clause-below : goal.move_run-requires-clause-below
move_run-requires-clause-below c =
    let mv = to_fields _ _ c.self.view_is (λ d. IsMovable d c.args.first c.args.to) c.requires.movable in
    mv.below

pub move_run-requires-clause-free : goal.move_run-requires-clause-free
move_run-requires-clause-free c =
    let mv = to_fields _ _ c.self.view_is (λ d. IsMovable d c.args.first c.args.to) c.requires.movable in
    let idle = to_fields _ _ c.self.view_is (λ d. d.marker.running ≡ false) c.requires.idle in
    let none = to_fields _ _ c.self.view_is (λ d. d.clearing ≡ None) c.requires.settled in
    let clean = to_fields _ _ c.self.view_is (λ d. (card : ℕ) → is_dirty d.cards card ≡ false) c.requires.clean in
    (can_move _ c.self.invariant c.law.ensures c.args.first c.args.to mv idle none clean _ _
    (rw c.card_words.ensures at c.redirect_run-moved.ensures.redirected) c.law-2.ensures).free

pub move_run-requires-clause-untargeted : goal.move_run-requires-clause-untargeted
move_run-requires-clause-untargeted c =
    let mv = to_fields _ _ c.self.view_is (λ d. IsMovable d c.args.first c.args.to) c.requires.movable in
    let idle = to_fields _ _ c.self.view_is (λ d. d.marker.running ≡ false) c.requires.idle in
    let none = to_fields _ _ c.self.view_is (λ d. d.clearing ≡ None) c.requires.settled in
    let clean = to_fields _ _ c.self.view_is (λ d. (card : ℕ) → is_dirty d.cards card ≡ false) c.requires.clean in
    (can_move _ c.self.invariant c.law.ensures c.args.first c.args.to mv idle none clean _ _
    (rw c.card_words.ensures at c.redirect_run-moved.ensures.redirected) c.law-2.ensures).untargeted

pub invariant_of-self : goal.invariant_of-self
invariant_of-self c =
    let mv = to_fields _ _ c.self.view_is (λ d. IsMovable d c.args.first c.args.to) c.requires.movable in
    let idle = to_fields _ _ c.self.view_is (λ d. d.marker.running ≡ false) c.requires.idle in
    let none = to_fields _ _ c.self.view_is (λ d. d.clearing ≡ None) c.requires.settled in
    let clean = to_fields _ _ c.self.view_is (λ d. (card : ℕ) → is_dirty d.cards card ≡ false) c.requires.clean in
    let closed_all =
    to_fields _ _ c.self.view_is (λ d. d.buffers ≡ closed d.buffers.words (length d.buffers.open_buffers)) c.requires.closed in
    let e = c.redirect_run-moved.ensures in
    let f = rw c.redirect_run-moved.ensures.regions at c.forget.ensures in
    rw (e.roots, e.room, c.move_run.ensures)
    (slid_kept _ c.self.invariant c.law.ensures c.args.first c.args.to mv idle none clean _ _ (rw c.card_words.ensures at e.redirected)
    c.law-2.ensures _ f.stands f.forgotten _ f.cleared _ f.aged closed_all)

pub returns : goal.returns
returns c =
    let mv = to_fields _ _ c.self.view_is (λ d. IsMovable d c.args.first c.args.to) c.requires.movable in
    let idle = to_fields _ _ c.self.view_is (λ d. d.marker.running ≡ false) c.requires.idle in
    let none = to_fields _ _ c.self.view_is (λ d. d.clearing ≡ None) c.requires.settled in
    let clean = to_fields _ _ c.self.view_is (λ d. (card : ℕ) → is_dirty d.cards card ≡ false) c.requires.clean in
    let closed_all =
    to_fields _ _ c.self.view_is (λ d. d.buffers ≡ closed d.buffers.words (length d.buffers.open_buffers)) c.requires.closed in
    let e = c.redirect_run-moved.ensures in
    let f = rw c.redirect_run-moved.ensures.regions at c.forget.ensures in
    let redirected = rw c.card_words.ensures at e.redirected in
    record {
      shows = λ g s. rw (e.roots, e.room, c.move_run.ensures)
          (slid_shows _ c.self.invariant c.law.ensures c.args.first c.args.to mv idle none
          clean _ _ redirected c.law-2.ensures _ f.stands f.forgotten _ f.cleared _ f.aged g
          (to_fields _ _ c.self.view_is (λ d. ShowsGraph g d) s));
      keeps = λ g s. rw (e.roots, e.room, c.move_run.ensures)
          (slid_keeps _ c.self.invariant c.law.ensures c.args.first c.args.to mv idle none
          clean _ _ redirected c.law-2.ensures _ f.stands f.forgotten _ f.cleared _ f.aged g
          (to_fields _ _ c.self.view_is (λ d. KeepsFrom g d) s));
      moves = rw (e.roots, e.room, c.move_run.ensures)
          (moves_from _ c.self.invariant c.law.ensures c.args.first c.args.to mv idle none clean
          _ _ redirected c.law-2.ensures _ f.stands f.forgotten _ f.cleared _ f.aged closed_all _ c.self.view_is _ _ e.regions
          (words_copied _ c.self.invariant c.law.ensures c.args.first c.args.to mv idle none clean _ e.words));
      few = (let known = movable_known _ c.self.invariant c.law.ensures c.args.first c.args.to mv idle none clean in
          let fits = block_within c.self.inside.table c.args.first known in
          few_regions _ c.law.ensures _ (omega (arith, fits, e.regions)));
    }
