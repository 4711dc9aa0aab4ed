use Rattle.std.proofs.Common.{◌≡◌, ◌≢◌, ◌+◌, ◌-◌, ℕ, arith, subst}
use Rattle.regions.specs.Table.{pointers_at}
use Rattle.marker.specs.Roots.{IsInSpan}
use Rattle.marker.specs.Steps.{MarksWanted}
use Rattle.marker.proofs.Entered.{look_stands, look_keeps, with_grey}
use Rattle.marker.proofs.marker.Marker.look.Goals as goal

pub overflow_add-looked : goal.overflow_add-looked
overflow_add-looked c = omega (arith, c.requires.fits, c.looked-looked.ensures)

pub overflow_add-looked-2 : goal.overflow_add-looked-2
overflow_add-looked-2 c = omega (arith, c.requires.fits, c.looked-looked.ensures)

pub reach_pointers-requires-clause-stands : goal.reach_pointers-requires-clause-stands
reach_pointers-requires-clause-stands c =
    let some : c.looked-looked.result + c.args.words ≢ 0 = λ none. omega (arith, none, c.requires.some) in
    look_stands c.args.table.now c.args.self.now c.args.object (c.looked-looked.result + c.args.words) c.look.new.self
    c.requires.stands c.requires.running c.requires.held (omega (arith, c.requires.fewer, c.looked-looked.ensures)) c.look.ensures.looked
    (c.look.ensures.fingers c.args.self.now.bitmaps.next some (c.requires.stands.finger c.requires.running))

pub returns-clause-snapshots : goal.returns-clause-snapshots
returns-clause-snapshots c =
    let q = c.reach_pointers.ensures in
    let some : c.looked-looked.result + c.args.words ≢ 0 = λ none. omega (arith, none, c.requires.some) in
    let from : c.saturating_sub.result ≡ c.args.self.now.grey.looked - 1 =
    omega (arith, c.saturating_sub.ensures, c.looked-looked.ensures) in
    let last : ℕ = c.looked-looked.result + c.args.words - 1 in
    look_keeps c.args.table.now c.args.self.now c.reach_pointers.new.self c.args.object (c.looked-looked.result + c.args.words)
    c.look.new.self c.requires.stands c.requires.running c.requires.grey c.requires.held c.look.ensures.looked some
    (record {
      stands = q.stands;
      marks = subst (λ (k : ℕ). MarksWanted c.args.table.now (IsInSpan (pointers_at c.args.table.now c.args.object) k last)
          (with_grey c.args.self.now c.look.new.self) c.reach_pointers.new.self) from q.marks;
      same = q.same;
      scanned = q.scanned;
      place = q.place;
      scans = q.scans;
      logs = q.logs;
      waiting = q.waiting;
    })
