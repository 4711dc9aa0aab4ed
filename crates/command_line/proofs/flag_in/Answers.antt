use Rattle.std.proofs.Common.{◌∙◌, ap, codes, Bool, false, Option}
use Rattle.std.specs.Option.{option_map_or}
use Rattle.std.specs.Str.{bytes_eq}
use Rattle.clap.proofs.WalkLemmas.{first_value-rows}
use Rattle.clap.specs.Words.{Text, found_of}
use Rattle.command_line.proofs.flag_in.Goals as goal

-- whether a text that may be there says true
abbrev says_true : Option Text → Bool
says_true text = option_map_or (λ t. bytes_eq t (codes "true")) text false

pub returns-in-Some : goal.returns-in-Some
returns-in-Some c = c.eq.ensures ∙ ap says_true (c.in-Some.ensures ∙ first_value-rows (found_of c.args.found.now) c.args.name.now)

pub returns-in-None : goal.returns-in-None
returns-in-None c = ap says_true (c.in-None.ensures ∙ first_value-rows (found_of c.args.found.now) c.args.name.now)
