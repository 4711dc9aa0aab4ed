use Rattle.std.proofs.Common.{map, string_bytes}
use Rattle.clap.specs.Words.{app_of}
use Rattle.command_line.proofs.Faults.{asked_by, missing, names_by, refused, taken, types_by}
use Rattle.command_line.proofs.job_among.Goals as goal

pub returns-in_err-matches-clause-faults : goal.returns-in_err-matches-clause-faults
returns-in_err-matches-clause-faults c =
    refused (app_of c.args.command.now) (map string_bytes c.args.words.now) c.in_err-matches.field-0.0 c.from_residual.result
    c.requires c.in_err-matches.ensures.kinds c.from_residual.ensures.1

pub returns-in-Some-clause-job : goal.returns-in-Some-clause-job
returns-in-Some-clause-job c =
    asked_by (app_of c.args.command.now) (map string_bytes c.args.words.now) c.in_ok-matches.matches _
    c.requires c.in_ok-matches.ensures.ok.2 c.in-Some.ensures.asked

pub returns-in-Some-clause-names : goal.returns-in-Some-clause-names
returns-in-Some-clause-names c =
    names_by (app_of c.args.command.now) (map string_bytes c.args.words.now) c.in_ok-matches.matches _
    c.requires c.in_ok-matches.ensures.ok.2 c.in-Some.ensures.names

pub returns-in-Some-clause-types : goal.returns-in-Some-clause-types
returns-in-Some-clause-types c =
    types_by (app_of c.args.command.now) (map string_bytes c.args.words.now) c.in_ok-matches.matches _
    c.requires c.in_ok-matches.ensures.ok.2 c.in-Some.ensures.types

pub returns-in-Some-clause-faults : goal.returns-in-Some-clause-faults
returns-in-Some-clause-faults c =
    let app = app_of c.args.command.now in
    let words = map string_bytes c.args.words.now in
    taken app words _ c.requires c.in_ok-matches.ensures.kinds
    (asked_by app words c.in_ok-matches.matches _ c.requires c.in_ok-matches.ensures.ok.2 c.in-Some.ensures.asked)

pub returns-in_ok-error-in-None-clause-faults : goal.returns-in_ok-error-in-None-clause-faults
returns-in_ok-error-in-None-clause-faults c =
    missing (app_of c.args.command.now) (map string_bytes c.args.words.now) c.in_ok-matches.matches c.in_ok-error-in-None.field-0
    c.requires c.in_ok-matches.ensures.kinds c.in_ok-matches.ensures.ok.2 c.in-None.ensures.asked c.in_ok-error-in-None.ensures.kind
