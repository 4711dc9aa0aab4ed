use Rattle.std.proofs.Common.{◌≡◌, ◌∙◌, ◌+◌, ◌<◌, ◌≤◌, ◌∷◌, ℕ, List, Ok, Result, ap, arith, length, subst, sym, take}
use Rattle.std.proofs.lemmas.List.{length-drop, take_all}
use Rattle.script_text.specs.Feeds.{end_of, line_of}
use Rattle.script_text.specs.Lines.{pieces_of}
use Rattle.script_text.proofs.Parts.Pieces.{behind, behind_is, pieces_ended}
use Rattle.type_names.specs.NamedLines.{TypeName}
use Rattle.type_names.specs.Naming.{known, types_of, with_line}
use Rattle.type_names.specs.Tables.{AreNames}
use Rattle.type_names.specs.declared.faults.TypesFault.{TypesFault}
use Rattle.type_names.proofs.Reading.{goes_on, is_done, is_fault}
use Rattle.type_names.proofs.types.read_types.Goals as goal

pub returns-in-Err-clause-fault : goal.returns-in-Err-clause-fault
returns-in-Err-clause-fault c = λ some.
    let (ts, are, so_far) = c.lines.invariant.so_far in
    is_fault c.lines.number ts c.lines.rest.now _ _ c.in-Err.fault
    (ap (λ (n : ℕ). take n c.lines.rest.now) c.find-end.ensures.first) so_far (c.in-Err.ensures ts are some)

pub invariant_of-result : goal.invariant_of-result
invariant_of-result c =
    let (ts, are, so_far) = c.lines.invariant.so_far in
    let rest = c.lines.rest.now in
    let (more, read, names) = c.in_default.ensures ts are in
    let past = c.if-end-rest.true in
    let first = c.find-end.ensures.first in
    let done = is_done c.lines.number ts more rest _ (types_of c.args.text.now) (omega (arith, past, first))
    (take_all c.find-end.result rest (omega (arith, past))) so_far read in
    subst (λ (r : Result (List TypeName) TypesFault). AreNames (known r) c.add_line.new.names) (sym done) names

pub returns-then-end-rest-clause-named : goal.returns-then-end-rest-clause-named
returns-then-end-rest-clause-named c =
    let (ts, are, so_far) = c.lines.invariant.so_far in
    let rest = c.lines.rest.now in
    let (more, read, names) = c.in_default.ensures ts are in
    let past = c.if-end-rest.true in
    let first = c.find-end.ensures.first in (
      more,
      is_done c.lines.number ts more rest _ (types_of c.args.text.now) (omega (arith, past, first))
          (take_all c.find-end.result rest (omega (arith, past))) so_far read,
    )

pub lines-preserved : goal.lines-preserved
lines-preserved c =
    let (ts, are, so_far) = c.lines.invariant.so_far in
    let rest = c.lines.rest.now in
    let end = c.find-end.result in
    let first = c.find-end.ensures.first in
    let within = c.find-end.ensures.within in
    let (more, read, names) = c.in_default.ensures ts are in
    let inside : end < length rest = (let other = c.if-end-rest.false in omega (arith, other, within)) in
    let ended : end_of rest < length rest = omega (arith, inside, first) in
    let piece : pieces_of rest ≡ line_of rest ∷ pieces_of (behind (end + 1) rest) = pieces_ended rest end ended first in
    record {
      so_far = (
        more,
        names,
        sym (goes_on c.lines.number ts more rest (line_of rest) (pieces_of (behind (end + 1) rest)) piece
            (subst (λ (n : ℕ). with_line ts (take n rest) ≡ Ok more) first read))
            ∙ so_far,
      );
      number =
          let number = c.lines.invariant.number in
          omega (arith, number, inside, ap length (behind_is (end + 1) rest), length-drop (end + 1) rest);
    }
