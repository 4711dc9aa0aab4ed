use Rattle.std.proofs.Common.{Vec, Global, ℕ}
use Rattle.heap_dump.proofs.Putting.{ends_with}
use Rattle.heap_life.proofs.page.text_between.Goals as goal

pub returns : goal.returns
returns c =
    ends_with (λ (v : Vec ℕ Global). v.items) c.new-text.result c.put.new.self c.put_facts.new.text _ _ c.into_bytes.result c.put.ensures
    c.put_facts.ensures c.into_bytes.ensures.ok
