use Rattle.evacuation.proofs.slide.redirect_tile.Given as goal

abbrev pub ghost-redirect_object : goal.ghost-redirect_object
ghost-redirect_object g a = g.slide
