use Rattle.std.proofs.Common.{◌∙◌, ◌%◌, ◌+◌, ℕ, Bool, ap, subst}
use Rattle.std.specs.Prelude.{◌||◌, ◌==◌, min}
use Rattle.heap_steps.specs.Actors.{EventList}
use Rattle.heap_life.specs.Lives.{NotesTold}
use Rattle.heap_life.proofs.course.pass.Goals as goal

pub returns : goal.returns
returns c =
    let x = c.args.course.now in
    let p = c.args.pace.now in
    let due = c.is_due-due.ensures
    ∙ ap (λ (ahead : Bool). x.behind || ahead || c.args.index % p.every == 0) c.shows-ahead.ensures in
    record {
      made = c.do_step-made.result;
      passed = c.do_step-made.ensures;
      events = ap (λ (r : EventList). r.events) c.in_ok-push.ensures.ok;
      sizes = ap (λ (r : EventList). r.config) c.in_ok-push.ensures.ok;
      counted = c.count_on-course.ensures;
      copied = c.saturating_add-course.ensures ∙ ap (λ (n : ℕ). min (x.copied + n) 18446744073709551615) c.words_moved.ensures;
      behind = c.shows-ahead.ensures;
      notes = subst (λ (b : Bool). NotesTold b c.args.core.now c.args.index x.copied x.moments.items c.note_if.new.moments.items x.teller
          c.note_if.new.teller) due c.in_ok-note_if.ensures;
    }
