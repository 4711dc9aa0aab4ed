use Rattle.std.proofs.Common.{append_assoc}
use Rattle.script_text.proofs.write.lines.put_heap.Goals as goal

pub returns-clause-put : goal.returns-clause-put
returns-clause-put c = simp (
  c.put_byte.ensures.put,
  c.put_ending-at.ensures.put,
  c.verb_text.ensures.text,
  c.put_byte-at.ensures.put,
  c.put_count-at-4.ensures.put,
  c.put_count-at-3.ensures.put,
  c.put_count-at-2.ensures.put,
  c.put_count-at.ensures.put,
  append_assoc,
)
