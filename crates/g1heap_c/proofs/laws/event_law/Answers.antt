use Rattle.g1heap_c.proofs.Replies.{one_event}
use Rattle.g1heap_c.proofs.laws.event_law.Goals as goal

pub returns : goal.returns
returns k step answer c c' d d' es other h i = one_event step answer c c' es d d' other h i
