use Rattle.evacuation.proofs.outside.update_tile.Given as goal

abbrev pub ghost-update_object : goal.ghost-update_object
ghost-update_object g a = g.pause
