use Rattle.std.proofs.Common.{inl, inr}
use Rattle.g1heap.proofs.Unread.{as_job}
use Rattle.g1heap.proofs.job.do_explaining.Goals as goal

pub returns-in-Script : goal.returns-in-Script
returns-in-Script g c =
    as_job c.args.name.now c.args.names.now c.args.types.now c.args.task c.args.reader.now c.do_explained.new.reader c.args.out.now
    c.do_explained.new.out c.args.err.now c.do_explained.new.err c.do_explained.result
    (λ followed is. elim c.in-Script.is [
      | inl script ↦ (let e = script.1 in cc)
      | inr other ↦ elim other [
        | inl view ↦ (let e = view.3 in cc)
        | inr draw ↦ (let e = draw.2 in cc)
      ]
    ])
    c.do_explained.ensures
