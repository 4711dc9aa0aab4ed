use Rattle.std.proofs.Common.{◌≡◌, ◌∙◌, ℕ, List, length, take, drop, sym, ap, arith}
use Rattle.regions.specs.Table.{values_at}
use Rattle.step_core.proofs.Cores.Keeping.{object_led, values_of}
use Rattle.step_core.proofs.Cores.Words.{all_read, unread_past}
use Rattle.step_core.proofs.heap.Core.read_words.Goals as goal

pub value_count-requires : goal.value_count-requires
value_count-requires c = object_led _ _ _ _ c.self.view_is c.self.invariant c.in-Some.ensures.leads

pub get_values-requires-clause-object : goal.get_values-requires-clause-object
get_values-requires-clause-object c = object_led _ _ _ _ c.self.view_is c.self.invariant c.in-Some.ensures.leads

pub returns-then-from-out-clause-refused : goal.returns-then-from-out-clause-refused
returns-then-from-out-clause-refused c =
    let count = c.value_count.ensures ∙ ap (λ (vs : List ℕ). length vs) (values_of _ _ c.in-Some.at c.self.view_is) in
    unread_past c.args.self.now c.args.mutator c.args.object c.in-Some.at c.args.from (length c.args.out.now) c.in-Some.ensures.leads
    (omega (arith, count, c.if-from-out.true, c.from.ensures, c.from-2.ensures))

pub returns-clause-read : goal.returns-clause-read
returns-clause-read c e =
    let same = values_of _ _ c.in-Some.at c.self.view_is in
    let count = c.value_count.ensures ∙ ap (λ (vs : List ℕ). length vs) same in
    let long : length c.get_values.new.out ≡ length c.args.out.now = c.get_values.auto.out in
    let is : c.get_values.new.out ≡ take (length c.get_values.new.out) (drop c.args.from (values_at c.args.self.now.table c.in-Some.at)) =
    c.get_values.ensures ∙ ap (λ (vs : List ℕ). take (length c.args.out.now) (drop c.args.from vs)) same
    ∙ ap (λ (n : ℕ). take n (drop c.args.from (values_at c.args.self.now.table c.in-Some.at))) (sym long) in
    all_read c.args.self.now c.args.mutator c.args.object c.in-Some.at c.args.from c.get_values.new.out c.in-Some.ensures.leads
    (omega (arith, count, long, c.if-from-out.false, c.from.ensures, c.from-2.ensures)) is
