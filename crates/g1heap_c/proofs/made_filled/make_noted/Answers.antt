use Rattle.std.proofs.Common.{ap}
use Rattle.g1heap_c.specs.declared.noted.Notes.{Notes}
use Rattle.g1heap_c.proofs.Watching.{fills_counted}
use Rattle.g1heap_c.proofs.made_filled.make_noted.Goals as goal

pub returns : goal.returns
returns c = let w = c.make_in-answer.ensures in record {
  asks = λ is. fills_counted _ _ _ _ _ _ _ _ _ _ (w.asks is);
  not = λ isnt. let n = w.not isnt in (n.0, ap (λ (x : Notes). x.markings) n.1);
}
