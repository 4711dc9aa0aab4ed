use Rattle.std.proofs.Common.{◌∙◌, [], List, ap, map, sym}
use Rattle.std.proofs.lemmas.List.{append-nil}
use Rattle.script_text.specs.declared.expected.Expected.{Expected}
use Rattle.script_text.specs.Expected.{first_misfit}
use Rattle.script_text.proofs.expected.last_stop.Goals as goal

pub returns-in-Err : goal.returns-in-Err
returns-in-Err c =
    sym (ap (λ (ps : List Expected). first_misfit c.args.config.now c.args.from ps (map (λ w. w.now) c.args.words.now))
    (sym (append-nil c.args.end.now)) ∙ c.in-Err.ensures.stops [])

pub returns-in-Ok : goal.returns-in-Ok
returns-in-Ok c =
    sym (ap (λ (ps : List Expected). first_misfit c.args.config.now c.args.from ps (map (λ w. w.now) c.args.words.now))
    (sym (append-nil c.args.end.now)) ∙ c.in-Ok.ensures.passes [])
