use Rattle.evacuation.proofs.pause.copy_reached.Given as goal

abbrev pub ghost-update_roots : goal.ghost-update_roots
ghost-update_roots g a = g.pause

abbrev pub ghost-update_cards : goal.ghost-update_cards
ghost-update_cards g a = g.pause

abbrev pub ghost-settle_copies : goal.ghost-settle_copies
ghost-settle_copies g a = g.pause
