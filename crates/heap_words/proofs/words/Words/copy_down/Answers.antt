use Rattle.std.proofs.Common.{arith, ◌≡◌, ◌-◌, ◌++◌, ◌∙◌, ℕ, List, length, take, drop, replicate, sym, ap}
use Rattle.std.proofs.lemmas.List.{length-take, length-drop}
use Rattle.heap_words.specs.Contents.{put}
use Rattle.heap_words.specs.Memory.{Memory}
use Rattle.heap_words.proofs.Blocks.{put_back, read_front}
use Rattle.heap_words.proofs.words.Words.copy_down.Goals as goal

pub returns-clause-all : goal.returns-clause-all
returns-clause-all c =
    let items : List ℕ = c.self.inside.items.items in
    let zeros : List ℕ = replicate {A = ℕ} (c.self.inside.count - length items) 0 in
    let written : length items ≡ c.args.self.now.written = ap (λ (m : Memory). m.written) c.self.view_is in
    let all : items ++ zeros ≡ c.args.self.now.all = ap (λ (m : Memory). m.all) c.self.view_is in
    let block : take c.args.size (drop c.args.from (items ++ zeros)) ≡ take c.args.size (drop c.args.from items) =
    read_front items zeros c.args.from c.args.size (omega (arith, c.requires.source, written)) in
    let long : length (take c.args.size (drop c.args.from items)) ≡ c.args.size =
    simp (length-take, length-drop) (omega (arith, c.requires.source, written)) in
    let number : c.self.inside.items.len ≡ length items = omega arith in
    let is = rw (c.deref_mut.ensures.value, c.word.ensures, c.word-2.ensures) at c.copy_down.ensures in
    put_back items _ c.self.inside.count _ c.args.to _ number is (omega (arith, c.requires.source, c.requires.below, written, long, number))
    ∙ ap (λ (b : List ℕ). put (items ++ zeros) c.args.to b) (sym block)
    ∙ ap (λ (ws : List ℕ). put ws c.args.to (take c.args.size (drop c.args.from ws))) all
