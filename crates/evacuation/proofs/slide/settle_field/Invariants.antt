use Rattle.evacuation.proofs.slide.settle_field.Given as goal

abbrev pub ghost-note_word : goal.ghost-note_word
ghost-note_word g a = g.slide
