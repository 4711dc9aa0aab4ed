use Rattle.std.proofs.Common.{◌∙◌, ℕ, List, Option, subst, sym}
use Rattle.script_text.specs.Texts.{Adds, AddsText}
use Rattle.heap_life.specs.RegionTexts.{region_text}
use Rattle.heap_life.proofs.Tellings.{told_before, told_anew}
use Rattle.heap_life.proofs.moment_text.tell_region.Goals as goal

pub returns-then-is : goal.returns-then-is
returns-then-is c =
    let lines = region_text c.args.tiles c.args.core.now c.args.region in
    told_before c.args.block.now c.put_region.new.text c.args.last.now c.args.text.now lines
    (subst (λ (t : Option (List ℕ)). Adds t lines c.put_region.new.text) c.clear.ensures c.put_region.ensures)
    (sym c.is.ensures ∙ c.if-is.true)

pub returns : goal.returns
returns c =
    let lines = region_text c.args.tiles c.args.core.now c.args.region in
    told_anew c.args.block.now c.put_region.new.text c.args.last.now c.put_text.new.self c.args.text.now c.put_text-2.new.self lines
    (subst (λ (t : Option (List ℕ)). Adds t lines c.put_region.new.text) c.clear.ensures c.put_region.ensures)
    (sym c.is.ensures ∙ c.if-is.false)
    (subst (λ (t : Option (List ℕ)). AddsText t c.put_region.new.text c.put_text.new.self) c.clear-2.ensures c.put_text.ensures)
    c.put_text-2.ensures
