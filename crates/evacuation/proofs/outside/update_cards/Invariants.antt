use Rattle.evacuation.proofs.outside.update_cards.Given as goal

abbrev pub ghost-update_cards_counted : goal.ghost-update_cards_counted
ghost-update_cards_counted g a = g.pause
