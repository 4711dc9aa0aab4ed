use Rattle.std.proofs.Common.{arith, ap, ◌<◌, ◌≤◌, ◌≡◌, ◌+◌, ◌++◌, ◌∷◌, [], ◌∙◌, sym, refl, length, List, ℕ, drop, append-nil, append_assoc}
use Rattle.std.specs.Prelude.{slice_index}
use Rattle.mutators.specs.Journals.{script_at, mutators_of}
use Rattle.mutators.specs.Draws.{lefts_of, open_from}
use Rattle.mutators.proofs.Drops.{open_here, open_past, open_end, lefts_len, left_here}
use Rattle.mutators.proofs.schedule.open_places.Goals.{then-is_left+in_ok-push, else-is_left}
use Rattle.mutators.proofs.schedule.open_places.Goals as goal

pub returns : goal.returns
returns c =
    let d = c.args.journal.now in
    let len = lefts_len d d refl c.mutators-mutators.ensures.keeps in
    let m : c.mutators-mutators.result ≡ mutators_of d = c.mutators-mutators.ensures.value in
    let none = open_end (lefts_of d) c.loop-k.k (omega (arith, len, m, c.loop-k-test.false)) in
    sym (append-nil c.loop-k.unfinished.items) ∙ ap (λ (l : List ℕ). c.loop-k.unfinished.items ++ l) (sym none) ∙ c.loop-k.invariant

pub loop-k-preserved : goal.loop-k-preserved
loop-k-preserved c =
    let d = c.args.journal.now in
    let k = c.loop-k.k in
    let len = lefts_len d d refl c.mutators-mutators.ensures.keeps in
    let m : c.mutators-mutators.result ≡ mutators_of d = c.mutators-mutators.ensures.value in
    let row : k < length d.scripts = omega (arith, len, m, c.loop-k-test.true) in
    let within : k < length (lefts_of d) = omega (arith, len, m, c.loop-k-test.true) in
    let rest : List ℕ = open_from (k + 1) (drop (k + 1) (lefts_of d)) in
    elim c.if-is_left.branch [
      | then-is_left+in_ok-push w ↦
          let here = open_here (lefts_of d) k within ((left_here d k row).0 (c.is_left.ensures.left w.if-is_left.true)) in
          let pushed = ap (λ v. v.items) w.unfinished-is ∙ w.in_ok-push.ensures.items in
          ap (λ (l : List ℕ). l ++ rest) pushed ∙ append_assoc c.loop-k.unfinished.items (k ∷ []) rest
          ∙ ap (λ (l : List ℕ). c.loop-k.unfinished.items ++ l) (sym here) ∙ c.loop-k.invariant
      | else-is_left w ↦
          let over : length (script_at d k) ≤ slice_index d.places k = c.is_left.ensures.over w.if-is_left.false in
          let past = open_past (lefts_of d) k within ((left_here d k row).1 over) in
          ap (λ v. v.items ++ rest) w.unfinished-is ∙ ap (λ (l : List ℕ). c.loop-k.unfinished.items ++ l) (sym past) ∙ c.loop-k.invariant
    ]
