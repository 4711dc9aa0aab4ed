use Rattle.regions.proofs.Common.{sym, ◌∙◌, subst, List, Option, ℕ, ap, slice_get_read}
use Rattle.root_table.specs.Roots.{RootTable}
use Rattle.marking_tests.specs.Samples.{LeadToObjects}
use Rattle.marking_tests.proofs.Samples.{set_leads}
use Rattle.marking_tests.proofs.cycles.roots_of.Goals.{then-place-lt32+then-object-len, else-place-lt32}
use Rattle.marking_tests.proofs.cycles.roots_of.Goals as goal

pub loop-place-preserved : goal.loop-place-preserved
loop-place-preserved c =
    let t = c.args.made.now.table in
    let was = c.loop-place.invariant in
    elim c.if-place-lt32.branch [
      | then-place-lt32+then-object-len w ↦
          let objects = c.args.made.now.objects.items in
          let at = w.index.result.now in
          let read =
          slice_get_read objects w.len.result _ at (w.len.ensures ∙ c.args.made.now.objects.ok.0) w.if-object-len.true w.index.ensures in
          let became = w.roots-is ∙ w.set_global.ensures in
          let words = sym (ap (λ (r : RootTable). r.words) became) in
          record {
            leads = subst (λ (u : List (Option ℕ)). LeadToObjects t u) words
                (set_leads t c.loop-place.roots.words _ at was.leads (c.requires _ at read));
            globals = ap (λ (r : RootTable). r.places.globals) became ∙ was.globals;
          }
      | else-place-lt32 w ↦ record {
        leads = subst (λ (u : List (Option ℕ)). LeadToObjects t u) (sym (ap (λ (r : RootTable). r.words) w.roots-is)) was.leads;
        globals = ap (λ (r : RootTable). r.places.globals) w.roots-is ∙ was.globals;
      }
    ]
