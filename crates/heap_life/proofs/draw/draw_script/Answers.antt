use Rattle.std.proofs.Common.{ℕ, List, Err, ap, subst}
use Rattle.script_text.specs.Watched.{TookBytes, TakesPart}
use Rattle.heap_life.proofs.draw.draw_script.Goals as goal

pub returns-in-Ok-write_bytes : goal.returns-in-Ok-write_bytes
returns-in-Ok-write_bytes g c =
    let (input, gives, read) = c.in_ok-plan.ensures in
    let page = c.in-Ok.page.items in
    let taken = subst (λ (bytes : List ℕ). TookBytes c.args.writer.now c.write_bytes.new.writer bytes) c.as_slice.ensures.value
    c.in-Ok-write_bytes.ensures.ok in
    (input, gives, (page, record { plan = c.in_ok-plan.plan; read = read; drawn = c.in-Ok.ensures.page }, taken))

pub returns : goal.returns
returns g c =
    let (input, gives, read) = c.in_ok-plan.ensures in
    let page = c.in-Ok.page.items in
    let taken = subst (λ (bytes : List ℕ). TakesPart c.args.writer.now c.write_bytes.new.writer bytes) c.as_slice.ensures.value
    c.in-Err-write_bytes.ensures.err in (
      input,
      gives,
      (page, record { plan = c.in_ok-plan.plan; read = read; drawn = c.in-Ok.ensures.page }, taken),
      λ none. c.in-Err-write_bytes.ensures.memory (ap Err none),
    )
