use Rattle.evacuation.proofs.slide.redirect_card.Given as goal

abbrev pub ghost-redirect_tiles : goal.ghost-redirect_tiles
ghost-redirect_tiles g a = g.slide
