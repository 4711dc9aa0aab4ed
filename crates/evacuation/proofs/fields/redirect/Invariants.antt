use Rattle.evacuation.proofs.fields.redirect.Given as goal

abbrev pub ghost-new_place : goal.ghost-new_place
ghost-new_place g a = g.pause
