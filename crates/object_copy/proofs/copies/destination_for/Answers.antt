use Rattle.std.proofs.Common.{◌≡◌, ◌∙◌, ℕ, sym, ap, arith, ◌<◌, ◌+◌, leb, false, inl, inr}
use Rattle.std.proofs.lemmas.Bool.Decides.{leb_tells}
use Rattle.regions.specs.Table.{used_of}
use Rattle.object_copy.specs.Copies.{fill_of}
use Rattle.object_copy.proofs.Opened.{taken_opens}
use Rattle.object_copy.proofs.copies.destination_for.Goals as goal
use Rattle.object_copy.proofs.copies.destination_for.Goals.{in-Some+else-has_room, in_default}

over : (used f size words : ℕ) → used ≡ f → leb (used + size) words ≡ false → words < f + size
over used f size words g e = elim (leb_tells (used + size) words) [
  | inl q ↦ absurd (let h = q.0 in cc)
  | inr q ↦ (let h = q.1 in omega arith)
]

pub returns : goal.returns
returns c = taken_opens c.args.table.now c.open_next.new.table c.args.destinations.now c.open_next.new.destinations c.args.size
    c.open_next.result c.open_next.ensures c.requires.small (λ f e.
    elim c.match-last.branch [
      | in-Some+else-has_room w ↦
          let q = ap (fill_of c.args.table.now) (sym c.last.ensures ∙ w.in-Some.is) in
          let g : used_of c.args.table.now w.in-Some.region ≡ f = (let h = sym q ∙ e in cc) in
          over (used_of c.args.table.now w.in-Some.region) f c.args.size c.args.table.now.words_per_region g
          (sym w.has_room.ensures ∙ w.if-has_room.false)
      | in_default w ↦ absurd (let q = ap (fill_of c.args.table.now) (sym c.last.ensures ∙ w.in_default.is) in cc)
    ])
