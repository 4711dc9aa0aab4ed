use Rattle.script_text.proofs.expected.fits_word.Goals as goal

pub returns-in-Count : goal.returns-in-Count
returns-in-Count c = rw c.in-Count.is (c.is_count.ensures c.args.config.now)
