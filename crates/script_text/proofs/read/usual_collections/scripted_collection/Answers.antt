use Rattle.std.proofs.Common.{ap, ◌∷◌, ◌∙◌, List, ℕ}
use Rattle.std.specs.Prelude.{codes}
use Rattle.script_text.proofs.read.usual_collections.scripted_collection.Goals as goal

pub returns : goal.returns
returns c =
    let read = c.in-Some-usual_collection.ensures in
    record {
      words = c.in-Some.ensures.words ∙ ap (λ (ws : List (List ℕ)). codes "gc" ∷ ws) read.words;
      fits = read.fits;
      owned = λ config. read.known config.format;
      within = read.ends;
    }
