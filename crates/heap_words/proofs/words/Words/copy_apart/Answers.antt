use Rattle.std.proofs.Common.{arith, ◌≡◌, ◌-◌, ◌∙◌, ℕ, List, length, take, drop, replicate, sym, ap, length-take, length-drop}
use Rattle.heap_words.specs.Contents.{put}
use Rattle.heap_words.specs.Memory.{Memory}
use Rattle.heap_words.proofs.Blocks.{memory_put, read_front}
use Rattle.heap_words.proofs.words.Words.copy_apart.Goals as goal

pub returns-clause-all : goal.returns-clause-all
returns-clause-all c =
    let items : List ℕ = c.self.inside.items.items in
    let written : length items ≡ c.args.self.now.written = ap (λ (m : Memory). m.written) c.self.view_is in
    let block : take c.args.size (drop c.args.from items) ≡ take c.args.size (drop c.args.from c.args.self.now.all) =
    sym (read_front items (replicate {A = ℕ} (c.self.inside.count - length items) 0) c.args.from c.args.size
    (omega (arith, c.requires.source, written)))
    ∙ ap (λ (m : Memory). take c.args.size (drop c.args.from m.all)) c.self.view_is in
    let long : length (take c.args.size (drop c.args.from items)) ≡ c.args.size =
    simp (length-take, length-drop) (omega (arith, c.requires.source, written)) in
    memory_put items _ _ _ c.args.to _ _ c.self.view_is (omega arith)
    (rw (c.deref_mut.ensures.value, c.word.ensures, c.word-2.ensures) at c.copy_within.ensures) (omega (arith, c.requires.target, long))
    ∙ ap (λ (b : List ℕ). put c.args.self.now.all c.args.to b) block
