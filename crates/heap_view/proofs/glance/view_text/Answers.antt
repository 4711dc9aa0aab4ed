use Rattle.std.proofs.lemmas.Result.{IfOk-weaker}
use Rattle.heap_dump.proofs.Putting.{then_adds, told_text}
use Rattle.heap_view.proofs.glance.view_text.Goals as goal

pub returns : goal.returns
returns c =
    let (lines, viewed, added) = c.in_ok-put_viewed.ensures in
    IfOk-weaker c.into_bytes.result _ _ (λ v is. record { lines = lines; viewed = viewed; is = is })
    (told_text _ _ _ _ _ c.new-text.ensures c.into_bytes.ensures.ok (then_adds _ _ _ _ _ c.put_head.ensures added))
