use Rattle.std.proofs.Common.{ℕ, ◌+◌, ◌∙◌, drop, take, subst, sym, ap}
use Rattle.std.proofs.lemmas.List.{take-append-drop}
use Rattle.heap_steps.specs.Actors.{EventList}
use Rattle.script_text.specs.Records.{record_text}
use Rattle.script_text.specs.Watched.{TakesPart}
use Rattle.script_text.specs.Written.{AreLinesOf, with_events}
use Rattle.script_text.proofs.Output.LinesOut.{none_more, some_more, more_lines}
use Rattle.script_text.proofs.write.record_lines.put_lines.Goals as goal

pub loop-index-init : goal.loop-index-init
loop-index-init g c = record {
  counted = c.requires;
  so_far = λ first r before. subst (λ (all : EventList). AreLinesOf all first c.args.writer.now c.args.lines.now)
      (sym (none_more r)) before;
}

pub returns-in-Err-clause-err : goal.returns-in-Err-clause-err
returns-in-Err-clause-err g c first r before =
    let i = c.loop-index.index in
    let es = c.args.events.now in
    subst (λ (all : EventList). TakesPart first c.put.new.writer (record_text all))
    (some_more r (take i es) (drop i es) ∙ ap (with_events r) (take-append-drop i es))
    (c.in-Err.ensures.err first (with_events r (take i es)) (drop i es) (c.loop-index.invariant.so_far first r before))

pub loop-index-preserved : goal.loop-index-preserved
loop-index-preserved g c = record {
  counted = c.in-Ok.ensures.count ∙ ap (λ (n : ℕ). n + 1) c.loop-index.invariant.counted;
  so_far = λ first r before. more_lines r c.args.events.now c.loop-index.index _ first c.put.new.writer c.put.new.self
      c.loop-index-test.true (c.in-Ok.ensures.ok first (with_events r (take c.loop-index.index c.args.events.now))
      (c.loop-index.invariant.so_far first r before));
}
