use Rattle.std.proofs.Common.{◌<◌, ◌∙◌, arith, ap, length}
use Rattle.bit_sets.proofs.PageWords.{word_read, length-words_of}
use Rattle.bit_sets.proofs.pages.PagedWords.next_written.Goals as goal

pub next_written-requires-clause-known : goal.next_written-requires-clause-known
next_written-requires-clause-known c =
    omega (
      arith,
      c.requires.known,
      length-words_of c.self.inside.places.items c.self.inside.pool.items c.self.inside.len,
      ap length c.self.view_is,
    )

pub returns-clause-none : goal.returns-clause-none
returns-clause-none c = λ g h k.
    let known : g < c.self.inside.len =
    omega (
      arith,
      c.requires.known,
      c.next_written.ensures.within.1,
      length-words_of c.self.inside.places.items c.self.inside.pool.items
          c.self.inside.len,
      ap length c.self.view_is,
    ) in
    word_read _ _ _ _ g c.self.view_is known ∙ rw (c.deref.ensures.value, c.deref-2.ensures.value) at (c.next_written.ensures.none g h k)

pub returns-clause-found : goal.returns-clause-found
returns-clause-found c = λ h.
    let known : c.next_written.result < c.self.inside.len =
    omega (
      arith,
      c.requires.known,
      h,
      length-words_of c.self.inside.places.items c.self.inside.pool.items c.self.inside.len,
      ap length c.self.view_is,
    ) in
    rw (word_read _ _ _ _ c.next_written.result c.self.view_is known)
    (rw (c.deref.ensures.value, c.deref-2.ensures.value) at (c.next_written.ensures.found h))
