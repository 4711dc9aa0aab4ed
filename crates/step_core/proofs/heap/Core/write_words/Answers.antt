use Rattle.std.proofs.Common.{◌∙◌, ℕ, List, length, ap, arith}
use Rattle.step_core.proofs.Cores.Keeping.{object_led, values_of}
use Rattle.step_core.proofs.Cores.Words.{run_of, unwritten_past}
use Rattle.step_core.proofs.heap.Core.write_words.Goals as goal

pub value_count-requires : goal.value_count-requires
value_count-requires c = object_led _ _ _ _ c.self.view_is c.self.invariant c.in-Some.ensures.leads

pub set_values-requires-clause-object : goal.set_values-requires-clause-object
set_values-requires-clause-object c = object_led _ _ _ _ c.self.view_is c.self.invariant c.in-Some.ensures.leads

pub returns-then-from-words-clause-refused : goal.returns-then-from-words-clause-refused
returns-then-from-words-clause-refused c =
    let count = c.value_count.ensures ∙ ap (λ (vs : List ℕ). length vs) (values_of _ _ c.in-Some.at c.self.view_is) in
    unwritten_past c.args.self.now c.args.mutator c.args.object c.in-Some.at c.args.from c.args.words.now c.in-Some.ensures.leads
    (omega (arith, count, c.if-from-words.true, c.from.ensures, c.from-2.ensures))

pub invariant_of-self : goal.invariant_of-self
invariant_of-self c =
    (run_of _ c.args.self.now c.args.mutator c.args.object c.in-Some.at c.args.from c.args.words.now c.set_values.new.self c.self.view_is
    c.self.invariant c.requires.mutator c.requires.object c.in-Some.ensures.value
    (omega (arith, c.value_count.ensures, c.if-from-words.false, c.from.ensures, c.from-2.ensures)) c.set_values.ensures).core

pub returns-clause-written : goal.returns-clause-written
returns-clause-written c e =
    (run_of _ c.args.self.now c.args.mutator c.args.object c.in-Some.at c.args.from c.args.words.now c.set_values.new.self c.self.view_is
    c.self.invariant c.requires.mutator c.requires.object c.in-Some.ensures.value
    (omega (arith, c.value_count.ensures, c.if-from-words.false, c.from.ensures, c.from-2.ensures)) c.set_values.ensures).written
