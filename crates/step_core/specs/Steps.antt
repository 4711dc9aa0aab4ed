-- The words of steps, each from where it is declared.
pub use Rattle.heap_steps.specs.declared.step.Action.{Action}
pub use Rattle.heap_steps.specs.declared.step.Actor.{Actor}
pub use Rattle.heap_steps.specs.declared.step.CollectorStep.{CollectorStep}
pub use Rattle.heap_steps.specs.declared.step.Counts.{Counts}
pub use Rattle.heap_steps.specs.declared.step.Event.{Event}
pub use Rattle.heap_steps.specs.declared.step.Op.{Op}
pub use Rattle.heap_steps.specs.declared.step.Refusal.{Refusal}
pub use Rattle.heap_steps.specs.declared.step.Register.{Register}
pub use Rattle.heap_steps.specs.declared.step.Reply.{Reply}
pub use Rattle.heap_steps.specs.declared.step.Step.{Step}
