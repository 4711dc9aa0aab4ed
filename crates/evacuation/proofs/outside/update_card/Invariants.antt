use Rattle.evacuation.proofs.outside.update_card.Given as goal

abbrev pub ghost-update_tiles : goal.ghost-update_tiles
ghost-update_tiles g a = g.pause

abbrev pub ghost-is_inside : goal.ghost-is_inside
ghost-is_inside g a = g.pause
