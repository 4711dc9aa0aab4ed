use Rattle.std.proofs.Common.{inl, inr}
use Rattle.g1heap.specs.Jobs.{DoesJob}
use Rattle.g1heap.proofs.Asking.{at_parts}
use Rattle.g1heap.proofs.program.conclude_unopened.Goals as goal

pub unopened_task-requires : goal.unopened_task-requires
unopened_task-requires g c = λ followed is. elim c.in-Script.is [
  | inl script ↦ (let e = script.1 in cc)
  | inr other ↦ elim other [
    | inl view ↦ (let e = view.3 in cc)
    | inr draw ↦ (let e = draw.2 in cc)
  ]
]

pub returns-in-Script : goal.returns-in-Script
returns-in-Script g c = λ names types given left old new unread kept.
    at_parts (λ asked. DoesJob names types asked given left old new c.args.err.now c.unopened_task.new.err c.unopened_task.result) _ _ _ _ _
    _ c.file-name.ensures c.task-task.ensures c.explained-explained.ensures
    (c.unopened_task.ensures names types given left old new unread kept)
