use Rattle.std.proofs.Common.{inl, inr, refl}
use Rattle.std.proofs.KnownBytes.{Keeps-refl}
use Rattle.g1heap.proofs.program.do_by.Goals as goal

pub returns-in-Err-Line : goal.returns-in-Err-Line
returns-in-Err-Line g c =
    let told = rw c.in-Err-Line.field-0-is at c.in-Err-Line.ensures.fault in
    let line_told = rw c.in-Err-Line.line-is at c.conclude_types.ensures.tells in
    let tells = rw c.in-Err-Line.mistake-is at line_told in
    inr (inl (record {
      line = c.in-Err-Line.line;
      mistake = c.in-Err-Line.mistake;
      first = told (λ e. cc);
      unread = refl;
      stays = (Keeps-refl c.args.out.now.held, refl);
      one = c.conclude_types.ensures.status;
      tells = tells;
    }))
