use Rattle.marker.proofs.Forgotten.{table_stands}
use Rattle.marker.proofs.laws.table_law.Goals as goal

pub returns : goal.returns
returns c = λ t t' m st count size low high stays words pointers follows.
    table_stands t t' m st count size low high (λ a x _ o. stays a x o) (λ a x _ o. stays a x o)
    (λ a h. let o = st.previous.object a h in words a o.0 o.1) (λ a h. let o = st.next.object a h in words a o.0 o.1)
    (λ _ a h. let o = st.next.object a h in pointers a o.0 o.1) follows
