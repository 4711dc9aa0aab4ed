use Rattle.evacuation.proofs.fields.update_field.Given as goal

abbrev pub ghost-is_inside : goal.ghost-is_inside
ghost-is_inside g a = g.pause

abbrev pub ghost-redirect : goal.ghost-redirect
ghost-redirect g a = g.pause

abbrev pub ghost-note : goal.ghost-note
ghost-note g a = g.pause
