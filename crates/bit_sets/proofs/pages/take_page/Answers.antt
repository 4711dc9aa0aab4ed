use Rattle.std.proofs.Common.{◌≡◌, length, arith}
use Rattle.bit_sets.proofs.PageWords.{page_has_room, page_taken, taken_same}
use Rattle.bit_sets.proofs.pages.take_page.Goals as goal

pub write_zeros-requires-clause-room : goal.write_zeros-requires-clause-room
write_zeros-requires-clause-room c =
    omega (
      arith,
      page_has_room c.args.places.now.items c.args.pool.now.items c.args.len c.args.page c.requires.pages c.requires.known
          c.requires.free,
      c.args.pool.now.ok.0,
    )

pub overflow_cast-place : goal.overflow_cast-place
overflow_cast-place c =
    omega (
      arith,
      page_has_room c.args.places.now.items c.args.pool.now.items c.args.len c.args.page c.requires.pages c.requires.known
          c.requires.free,
      c.args.pool.now.ok.0,
    )

pub overflow_add-place : goal.overflow_add-place
overflow_add-place c =
    omega (
      arith,
      page_has_room c.args.places.now.items c.args.pool.now.items c.args.len c.args.page c.requires.pages c.requires.known
          c.requires.free,
      c.args.pool.now.ok.0,
      c.requires.pages.small,
    )

pub returns-clause-pages : goal.returns-clause-pages
returns-clause-pages c =
    let e : c.len-begin.result ≡ length c.args.pool.now.items = omega (arith, c.args.pool.now.ok.0) in
    rw e (page_taken c.args.places.now.items c.args.pool.now.items c.write_zeros.new.words.items c.args.len c.args.page c.requires.pages
    c.requires.known c.requires.free (omega (arith, c.write_zeros.new.words.ok.0, c.args.pool.now.ok.0)))

pub returns-clause-same : goal.returns-clause-same
returns-clause-same c g =
    let e : c.len-begin.result ≡ length c.args.pool.now.items = omega (arith, c.args.pool.now.ok.0) in
    rw e (taken_same c.args.places.now.items c.args.pool.now.items c.write_zeros.new.words.items c.args.len c.args.page g c.requires.pages
    c.requires.known c.requires.free c.write_zeros.ensures.same)
