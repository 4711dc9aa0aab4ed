use Rattle.evacuation.proofs.fields.new_word.Given as goal

abbrev pub ghost-is_inside : goal.ghost-is_inside
ghost-is_inside g a = g.pause

abbrev pub ghost-new_place : goal.ghost-new_place
ghost-new_place g a = g.pause
