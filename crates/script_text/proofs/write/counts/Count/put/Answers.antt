use Rattle.std.proofs.Common.{rules, ◌∙◌, ap, take, ℕ, ◌≡◌, length, sym, arith}
use Rattle.script_text.proofs.Output.Counts.{count_put}
use Rattle.script_text.proofs.write.counts.Count.put.Goals as goal

pub returns-clause-put : goal.returns-clause-put
returns-clause-put c number small s =
    let long : length c.args.self.now.front ≡ 20 = search rules in
    count_put c.args.self.now c.args.buffer.now c.put_text.new.buffer _ c.args.at number (omega arith) long small s
    (ap (λ (k : ℕ). take k c.put_text.new.buffer) (sym c.put_text.ensures.end) ∙ c.put_text.ensures.put) c.put_byte.ensures.put
