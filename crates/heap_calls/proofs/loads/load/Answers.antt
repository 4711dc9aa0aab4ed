use Rattle.std.proofs.Common.{Some, subst, sym}
use Rattle.heap_steps.specs.declared.step.Register.{Register}
use Rattle.step_core.specs.Loads.{LoadsWord}
use Rattle.heap_calls.specs.Loads.{Loads}
use Rattle.heap_calls.specs.Numbers.{register}
use Rattle.heap_calls.specs.declared.answer.Answer.{Answer}
use Rattle.heap_calls.proofs.Loading.{told_loaded}
use Rattle.heap_calls.proofs.loads.load.Goals as goal

pub returns : goal.returns
returns c =
    let a = c.args in
    let reply = c.get_word.result in
    let after = c.get_word.new.self in
    let to = subst (λ (r : Register). LoadsWord a.core.now a.mutator r c.register-2.result a.field a.word reply after)
    c.register.ensures c.get_word.ensures in
    let both = subst (λ (r : Register). LoadsWord a.core.now a.mutator (register a.to) r a.field a.word reply after) c.register-2.ensures
    to in
    subst (λ (r : Answer). Loads a.core.now a.mutator a.to a.object a.field a.word r (Some c.get_word.new.self)) (sym c.answer_of.ensures)
    (told_loaded a.core.now c.get_word.new.self a.mutator a.to a.object a.field a.word c.get_word.result both)
