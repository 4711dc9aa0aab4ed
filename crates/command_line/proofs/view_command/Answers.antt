use Rattle.std.proofs.Common.{codes}
use Rattle.clap.specs.Words.{with_rule}
use Rattle.command_line.proofs.Shapes.{adds}
use Rattle.command_line.proofs.view_command.Goals as goal
use Rattle.command_line.specs.Program.{count, flag, large, plain, types}

pub returns : goal.returns
returns c =
    let bare = plain (codes "view") in
    let recorded = with_rule bare (flag (codes "record")) in
    let at = with_rule recorded (count (codes "at")) in
    let region = with_rule at (count (codes "region")) in
    let summary = with_rule region (flag (codes "summary")) in
    let object = with_rule summary (large (codes "object")) in
    let way = with_rule object (large (codes "path")) in
    let census = with_rule way (flag (codes "census")) in
    let snapshot = with_rule census (flag (codes "heapsnapshot")) in
    adds _ c.with_arg-command-8.result c.with_arg.result c.types.result types snapshot c.with_arg.ensures c.types.ensures.rule
    (adds _ c.with_arg-command-7.result c.with_arg-command-8.result c.flag-3.result (flag (codes "heapsnapshot")) census
    c.with_arg-command-8.ensures c.flag-3.ensures.rule
    (adds _ c.with_arg-command-6.result c.with_arg-command-7.result c.flag-2.result (flag (codes "census")) way
    c.with_arg-command-7.ensures c.flag-2.ensures.rule
    (adds _ c.with_arg-command-5.result c.with_arg-command-6.result c.large-2.result (large (codes "path")) object
    c.with_arg-command-6.ensures c.large-2.ensures.rule
    (adds _ c.with_arg-command-4.result c.with_arg-command-5.result c.large.result (large (codes "object")) summary
    c.with_arg-command-5.ensures c.large.ensures.rule
    (adds _ c.with_arg-command-3.result c.with_arg-command-4.result c.flag.result (flag (codes "summary")) region
    c.with_arg-command-4.ensures c.flag.ensures.rule
    (adds _ c.with_arg-command-2.result c.with_arg-command-3.result c.count-2.result (count (codes "region")) at
    c.with_arg-command-3.ensures c.count-2.ensures.rule
    (adds _ c.with_arg-command.result c.with_arg-command-2.result c.count.result (count (codes "at")) recorded
    c.with_arg-command-2.ensures c.count.ensures.rule
    (adds _ c.plain-command.result c.with_arg-command.result c.recorded.result (flag (codes "record")) bare c.with_arg-command.ensures
    c.recorded.ensures.rule c.plain-command.ensures))))))))
