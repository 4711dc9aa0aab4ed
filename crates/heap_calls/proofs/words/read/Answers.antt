use Rattle.std.proofs.Common.{refl, inl}
use Rattle.heap_calls.proofs.words.read.Goals as goal

pub returns-in-Ok : goal.returns-in-Ok
returns-in-Ok c = record {
  takes = λ h. inl (record {
    done = c.done.ensures;
    has = c.in-Ok.ensures.all.0 refl;
    room = c.in-Ok.ensures.room;
    read = c.in-Ok.ensures.read refl;
  });
  not = λ none. absurd (none (c.has_register.ensures.has c.if-not-has_register.false));
}
