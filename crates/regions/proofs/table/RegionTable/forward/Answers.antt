use Rattle.regions.proofs.Common.{arith, ◌≡◌, ℕ, List, Option, length, ap, ◌∙◌, forgotten}
use Rattle.regions.proofs.Words.FieldAccess.{weaks_are}
use Rattle.regions.proofs.Words.ObjectWords.{header_in, object_there}
use Rattle.regions.proofs.Tiles.Forwards.{forwarded}
use Rattle.regions.proofs.Cards.Entries.{forwarded_sound}
use Rattle.regions.proofs.Tiles.Within.{word_within}
use Rattle.regions.proofs.table.RegionTable.forward.Goals as goal

pub write_forwarded-requires : goal.write_forwarded-requires
write_forwarded-requires c =
    let o = object_there _ _ _ _ _ c.self.invariant.table c.self.view_is c.requires.object in
    word_within _ _ _ _ _ c.self.invariant.written c.self.view_is (header_in _ _ _ o.1.is)

pub invariant_of-self : goal.invariant_of-self
invariant_of-self c =
    let o = object_there _ _ _ _ _ c.self.invariant.table c.self.view_is c.requires.object in
    let slots : c.weak_count-weaks.result ≡ length o.0.weaks =
    c.weak_count-weaks.ensures ∙ ap (λ (l : List (Option ℕ)). length l) (weaks_are c.args.self.now c.args.from o.0 o.1.is) in
    let gone = c.forget.ensures ∙ ap (λ (k : ℕ). forgotten c.self.inside.weak_starts k c.weak_count-weaks.result) c.word.ensures in
    forwarded_sound _ _ _ _ _ _ _ _ _ c.self.invariant c.self.view_is _ _ c.args.from c.args.to _ o.0 o.1.is c.requires.ordinary slots gone
    (omega (arith, c.write_forwarded.ensures.written))
    (rw c.write_forwarded.ensures.all
    (forwarded _ _ _ _ c.args.from c.args.to c.self.invariant.table c.self.view_is c.requires.object c.requires.ordinary
    c.requires.copy c.requires.apart c.requires.untargeted))

pub returns : goal.returns
returns c =
    rw c.write_forwarded.ensures.all
    (forwarded _ _ _ _ c.args.from c.args.to c.self.invariant.table c.self.view_is c.requires.object c.requires.ordinary
    c.requires.copy c.requires.apart c.requires.untargeted).table_is

pub forget-requires : goal.forget-requires
forget-requires c =
    let o = object_there _ _ _ _ _ c.self.invariant.table c.self.view_is c.requires.object in
    let count = c.self.invariant.weak_count in
    omega (arith, o.1.fits, o.1.large, count, c.word.ensures)
