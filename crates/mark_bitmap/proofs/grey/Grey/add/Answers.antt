use Rattle.std.proofs.Common.{rules, ◌≢◌, arith, ap, ◌∙◌, ◌<◌, length, max}
use Rattle.mark_bitmap.specs.Marks.{is_marked}
use Rattle.mark_bitmap.specs.Grey.{Scans, finger_of}
use Rattle.mark_bitmap.proofs.Held.{stacked_grey, fingered_grey, aside_grey}
use Rattle.mark_bitmap.proofs.grey.Grey.add.Goals as goal

pub returns-then-push-clause-fingers : goal.returns-then-push-clause-fingers
returns-then-push-clause-fingers c = λ marks even unmarked f.
    let inside : Scans =
    record {
      scanned = c.self.inside.scanned;
      fingers = c.self.inside.fingers;
      held = c.self.inside.held;
      looked = c.self.inside.looked;
      stack = c.self.inside.stack;
    } in
    let room : length c.self.inside.stack.objects < c.self.inside.stack.room = search rules in
    let unscanned = ap (λ (s : Scans). is_marked s.scanned c.args.object) c.self.view_is ∙ c.requires.unscanned in
    rw (c.push.ensures.pushed c.if-push.true)
    (stacked_grey marks inside c.args.object (omega (arith, even, c.requires.known)) unmarked unscanned (rw c.self.view_is f)
    c.in-Some.held c.in-Some.is room)

pub returns-clause-fingers : goal.returns-clause-fingers
unfolding finger_of
returns-clause-fingers c = λ marks even unmarked f.
    let inside : Scans =
    record {
      scanned = c.self.inside.scanned;
      fingers = c.self.inside.fingers;
      held = c.self.inside.held;
      looked = c.self.inside.looked;
      stack = c.self.inside.stack;
    } in
    let room : finger_of (max c.in-Some.held c.args.object) < length c.self.inside.fingers = search rules in
    let unscanned = ap (λ (s : Scans). is_marked s.scanned c.args.object) c.self.view_is ∙ c.requires.unscanned in
    rw (
      c.set.ensures,
      c.max.ensures,
      c.word-3.ensures,
      c.word-4.ensures,
      c.new.ensures,
      c.min.ensures,
      c.word.ensures,
      c.word-2.ensures,
      c.push.ensures.full c.if-push.false,
    )
    (fingered_grey marks inside c.args.object (omega (arith, even, c.requires.known)) unmarked unscanned (rw c.self.view_is f)
    c.in-Some.held c.in-Some.is room)

pub returns-then-self-ne0-clause-fingers : goal.returns-then-self-ne0-clause-fingers
unfolding finger_of
returns-then-self-ne0-clause-fingers c = λ marks even unmarked f.
    let inside : Scans =
    record {
      scanned = c.self.inside.scanned;
      fingers = c.self.inside.fingers;
      held = c.self.inside.held;
      looked = c.self.inside.looked;
      stack = c.self.inside.stack;
    } in
    let room : finger_of c.args.object < length c.self.inside.fingers = search rules in
    let begun : c.self.inside.looked ≢ 0 = search rules in
    let unscanned = ap (λ (s : Scans). is_marked s.scanned c.args.object) c.self.view_is ∙ c.requires.unscanned in
    rw (c.put_aside.ensures, ← c.self.view_is)
    (aside_grey marks inside c.args.object (omega (arith, even, c.requires.known)) unmarked unscanned (rw c.self.view_is f)
    c.in-Some.held c.in-Some.is room begun)
