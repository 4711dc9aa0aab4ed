use Rattle.evacuation.proofs.outside.update_small.Given as goal

abbrev pub ghost-names_set : goal.ghost-names_set
ghost-names_set g a = g.pause

abbrev pub ghost-update_tile : goal.ghost-update_tile
ghost-update_tile g a = g.pause
