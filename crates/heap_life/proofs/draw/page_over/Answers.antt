use Rattle.heap_life.proofs.draw.page_over.Goals as goal

pub returns-in-Ok-page_of-clause-page : goal.returns-in-Ok-page_of-clause-page
returns-in-Ok-page_of-clause-page c = (c.in-Ok.life, c.in-Ok.ensures.life, c.in-Ok-page_of.ensures)
