use Rattle.std.proofs.Common.{◌≡◌, List, ℕ, Err, ap, subst}
use Rattle.script_text.specs.Watched.{TookBytes, TakesPart}
use Rattle.script_text.specs.declared.fault.WriteFault.{WriteFault}
use Rattle.script_text.specs.declared.fault.WriteFault.TheVariants as writes
use Rattle.heap_view.proofs.view.view_script.Goals as goal

pub returns-in-Ok-write_bytes : goal.returns-in-Ok-write_bytes
returns-in-Ok-write_bytes g c =
    let (input, gives, read) = c.in_ok-plan.ensures in
    let taken = subst (λ (l : List ℕ). TookBytes c.args.writer.now c.write_bytes.new.writer l) c.as_slice.ensures.value
    c.in-Ok-write_bytes.ensures.ok in
    (input, gives, (c.in-Ok.text.items, record { plan = c.in_ok-plan.plan; read = read; viewed = c.in-Ok.ensures.text }, taken))

pub returns : goal.returns
returns g c =
    let (input, gives, read) = c.in_ok-plan.ensures in
    let taken = subst (λ (l : List ℕ). TakesPart c.args.writer.now c.write_bytes.new.writer l) c.as_slice.ensures.value
    c.in-Err-write_bytes.ensures.err in (
      input,
      gives,
      (c.in-Ok.text.items, record { plan = c.in_ok-plan.plan; read = read; viewed = c.in-Ok.ensures.text }, taken),
      λ (e : c.in-Err-write_bytes.fault ≡ writes.NoMemory). c.in-Err-write_bytes.ensures.memory (ap (λ (w : WriteFault). Err w) e),
    )
