use Rattle.evacuation.proofs.slide.redirect_fields.Given as goal

abbrev pub ghost-redirect_cards : goal.ghost-redirect_cards
ghost-redirect_cards g a = g.slide

abbrev pub ghost-settle_fields : goal.ghost-settle_fields
ghost-settle_fields g a = g.slide
