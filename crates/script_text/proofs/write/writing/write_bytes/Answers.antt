use Rattle.std.proofs.Common.{ℕ, arith}
use Rattle.std.proofs.lemmas.List.{length-drop, length-take}
use Rattle.script_text.proofs.Output.WriteLaws.{takes_more}
use Rattle.script_text.proofs.write.writing.write_bytes.Goals as goal

pub loop-done-preserved : goal.loop-done-preserved
loop-done-preserved g c = record {
  written = takes_more _ _ _ c.args.bytes.now c.loop-done.done c.in-Ok.count c.loop-done.invariant.written c.in-Ok.ensures.takes;
  within = omega (arith, c.in-Ok.ensures.within, length-take {A = ℕ}, length-drop {A = ℕ});
}
