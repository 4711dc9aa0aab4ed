use Rattle.std.proofs.Common.{◌∙◌, Bool, ap, arith, sym, subst}
use Rattle.heap_model.specs.Heap.{Heap}
use Rattle.heap_model.specs.Clearing.{WillShow}
use Rattle.heap_model.proofs.Begin.{begins}
use Rattle.marker.specs.Views.{heap_of, marking_of}
use Rattle.marker.specs.Waiting.{Waiting}
use Rattle.marker.specs.Looks.{BeginsBy}
use Rattle.marker.proofs.Views.{previous_heap, same_heap, kept_before}
use Rattle.marker.proofs.Follow.{unrooted}
use Rattle.marker.proofs.Begun.{made_ready, all_begun, all_wait, waiting_stands, with_waiting}
use Rattle.marker.proofs.marker.Marker.begin.Goals as goal

pub start-requires-clause-closed : goal.start-requires-clause-closed
start-requires-clause-closed c = unrooted c.args.table.now c.args.roots.now.words c.args.self.now c.requires.closed

pub reach_roots-requires-clause-kept : goal.reach_roots-requires-clause-kept
reach_roots-requires-clause-kept c = λ j a e.
    let s = c.start.ensures in
    kept_before c.args.table.now c.args.roots.now.words c.args.self.now c.start.new.self a s.previous_tops s.previous_marks
    (c.requires.closed.root j a e)

-- ---- in the first two formats
pub returns-then-is_by_address-clause-begins : goal.returns-then-is_by_address-clause-begins
returns-then-is_by_address-clause-begins c =
    let s = c.start.ensures in
    let r = c.reach_roots.ensures in
    let ready = made_ready c.args.table.now c.args.roots.now.words c.args.self.now c.start.new.self c.law.ensures.positive
    c.requires.stands c.requires.idle c.requires.closed s.tops s.unmarked s.unscanned s.whole s.previous_tops s.previous_marks s.logs
    s.waiting in
    all_begun c.args.table.now c.args.roots.now.words c.start.new.self c.reach_roots.new.self ready r.marks r.same r.scanned r.place r.logs
    r.waiting

pub returns-then-is_by_address-clause-roots : goal.returns-then-is_by_address-clause-roots
returns-then-is_by_address-clause-roots c =
    subst (λ (b : Bool). BeginsBy b c.reach_roots.new.self) (sym (sym c.is_by_address.ensures ∙ c.if-is_by_address.true))
    (ap (λ (w : Waiting). w.addresses) (c.reach_roots.ensures.waiting ∙ c.start.ensures.waiting)
    ∙ c.requires.stands.none_wait c.requires.idle)

pub returns-then-is_by_address-clause-snapshot : goal.returns-then-is_by_address-clause-snapshot
returns-then-is_by_address-clause-snapshot c = λ g shows.
    let s = c.start.ensures in
    let r = c.reach_roots.ensures in
    let ready = made_ready c.args.table.now c.args.roots.now.words c.args.self.now c.start.new.self c.law.ensures.positive
    c.requires.stands c.requires.idle c.requires.closed s.tops s.unmarked s.unscanned s.whole s.previous_tops s.previous_marks s.logs
    s.waiting in
    let heap = same_heap c.args.table.now c.args.roots.now.words c.start.new.self c.reach_roots.new.self r.same
    ∙ previous_heap c.args.table.now c.args.roots.now.words c.args.self.now c.start.new.self s.previous_tops s.previous_marks in
    begins g (heap_of c.args.table.now c.args.roots.now.words c.reach_roots.new.self) (marking_of c.args.table.now c.reach_roots.new.self)
    (subst (λ (h : Heap). WillShow g h) (sym heap) shows)
    (all_begun c.args.table.now c.args.roots.now.words c.start.new.self c.reach_roots.new.self ready r.marks r.same r.scanned r.place r.logs
    r.waiting)

-- ---- in the third
pub copy-requires-clause-none : goal.copy-requires-clause-none
copy-requires-clause-none c =
    ap (λ (w : Waiting). w.addresses) c.start.ensures.waiting ∙ c.requires.stands.none_wait c.requires.idle

pub copy-requires-clause-room : goal.copy-requires-clause-room
copy-requires-clause-room c =
    omega (
      arith,
      c.requires.room (sym c.is_by_address.ensures ∙ c.if-is_by_address.false),
      ap (λ (w : Waiting). w.room) c.start.ensures.waiting,
    )

pub returns-clause-stands : goal.returns-clause-stands
returns-clause-stands c =
    let s = c.start.ensures in
    let ready = made_ready c.args.table.now c.args.roots.now.words c.args.self.now c.start.new.self c.law.ensures.positive
    c.requires.stands c.requires.idle c.requires.closed s.tops s.unmarked s.unscanned s.whole s.previous_tops s.previous_marks s.logs
    s.waiting in
    waiting_stands c.args.table.now c.args.roots.now.words c.start.new.self c.copy.new.self ready s.stands s.running c.copy.ensures.held

pub returns-clause-begins : goal.returns-clause-begins
returns-clause-begins c =
    let s = c.start.ensures in
    let ready = made_ready c.args.table.now c.args.roots.now.words c.args.self.now c.start.new.self c.law.ensures.positive
    c.requires.stands c.requires.idle c.requires.closed s.tops s.unmarked s.unscanned s.whole s.previous_tops s.previous_marks s.logs
    s.waiting in
    all_wait c.args.table.now c.args.roots.now.words c.start.new.self c.copy.new.self ready c.copy.ensures.held

pub returns-clause-roots : goal.returns-clause-roots
returns-clause-roots c =
    subst (λ (b : Bool). BeginsBy b (with_waiting c.start.new.self c.copy.new.self))
    (sym (sym c.is_by_address.ensures ∙ c.if-is_by_address.false)) c.start.ensures.unmarked

pub returns-clause-snapshot : goal.returns-clause-snapshot
returns-clause-snapshot c = λ g shows.
    let s = c.start.ensures in
    let ready = made_ready c.args.table.now c.args.roots.now.words c.args.self.now c.start.new.self c.law.ensures.positive
    c.requires.stands c.requires.idle c.requires.closed s.tops s.unmarked s.unscanned s.whole s.previous_tops s.previous_marks s.logs
    s.waiting in
    let now = with_waiting c.start.new.self c.copy.new.self in
    let heap = previous_heap c.args.table.now c.args.roots.now.words c.args.self.now now s.previous_tops s.previous_marks in
    begins g (heap_of c.args.table.now c.args.roots.now.words now) (marking_of c.args.table.now now)
    (subst (λ (h : Heap). WillShow g h) (sym heap) shows)
    (all_wait c.args.table.now c.args.roots.now.words c.start.new.self c.copy.new.self ready c.copy.ensures.held)
