use Rattle.std.proofs.Common.{ℕ, List, ap, length, sym}
use Rattle.heap_steps.specs.declared.step.Event.{Event}
use Rattle.heap_life.specs.Pages.{pace_text, sizes_text}
use Rattle.heap_dump.proofs.Putting.{adds_at, then_adds}
use Rattle.heap_life.proofs.page.put_facts.Goals as goal

pub returns : goal.returns
returns c =
    let life = c.args.life.now in
    then_adds _ _ _ _ _ (then_adds _ _ _ _ _ (then_adds _ _ _ _ _ c.put_file.ensures c.put_names.ensures)
    (adds_at sizes_text _ _ life.history.config c.config-config.result (sym c.config-config.ensures) c.put_sizes.ensures))
    (adds_at (λ (n : ℕ). pace_text life.pace n) _ _ (length life.history.events) (length c.events-events.result.now)
    (ap (λ (es : List Event). length es) (sym c.events-events.ensures.events)) c.put_pace.ensures)
