-- Steps of the collector before or after which clearing comes to its end.
use Rattle.std.proofs.Common.{◌≡◌, ℕ, false, Option, None, Some, length, refl, sym, ◌∙◌, ap, subst}
use Rattle.heap_words.specs.declared.config.Config.{Config}
use Rattle.heap_words.specs.declared.config.Format.{Format}
use Rattle.heap_words.specs.declared.config.Format.TheVariants.{V1, V2, V3}
use Rattle.heap_model.specs.Graph.{Graph}
use Rattle.regions.specs.Table.{kind_of}
use Rattle.step_core.specs.Stands.{CoreState, ShowsGraph, KeepsFrom}
use Rattle.step_core.specs.Reclaimed.{IsReclaimed}
use Rattle.step_core.specs.Cycle.{HasLooked, HasSettled, HasRemarked, ShowsCleared, ClearsAtOnce}
use Rattle.step_core.proofs.Cores.Collected.{kinds_stay, table_stays}

-- ---- clearing came to its end first
module _ (c d : CoreState) (h : HasSettled c d) where
  pub settled_running : d.marker.running ≡ c.marker.running
  settled_running = ap (λ (x : CoreState). x.marker.running) h.same

  pub settled_idle : c.marker.running ≡ false → d.marker.running ≡ false
  settled_idle idle = settled_running ∙ idle

  pub settled_none : d.clearing ≡ None
  settled_none = ap (λ (x : CoreState). x.clearing) h.same

  -- what is reclaimed then was in use before
  pub settled_reclaimed : (c' : CoreState) (i : ℕ) → IsReclaimed c.table c'.table i → IsReclaimed d.table c'.table i
  settled_reclaimed c' i r = record { used = λ free. r.used (sym (h.cleared.kinds i) ∙ free); free = r.free }

  -- nothing is where regions keep their kinds from then on
  pub settled_reclaims : (A : Type 0) (c' : CoreState) (i : ℕ) → c'.table ≡ d.table → IsReclaimed c.table c'.table i → A
  settled_reclaims A c' i e r = table_stays A d.table c'.table i e (settled_reclaimed c' i r)

-- ---- and after a remark by the format
pub at_once_running : (f : Format) (d c' : CoreState) → ClearsAtOnce f d c' → c'.marker.running ≡ d.marker.running
at_once_running V1 d c' h = settled_running d c' h
at_once_running (V2 card) d c' h = settled_running d c' h
at_once_running (V3 card globals registers) d c' h = ap (λ (x : CoreState). x.marker.running) h

pub at_once_kinds : (f : Format) (d c' : CoreState) → ClearsAtOnce f d c' → (i : ℕ) → kind_of c'.table i ≡ kind_of d.table i
at_once_kinds V1 d c' h i = h.cleared.kinds i
at_once_kinds (V2 card) d c' h i = h.cleared.kinds i
at_once_kinds (V3 card globals registers) d c' h i = ap (λ (x : CoreState). kind_of x.table i) h

-- a remark, and what is cleared then
module _ (n : ℕ) (c d c' : CoreState) (h : HasRemarked n c d) (o : ClearsAtOnce d.config.format d c') where
  pub remark_by_format : ClearsAtOnce c.config.format d c'
  remark_by_format = subst (λ (g : Config). ClearsAtOnce g.format d c') (ap (λ (x : CoreState). x.config) h.same) o

  pub remark_over : c'.marker.running ≡ false
  remark_over = at_once_running d.config.format d c' o ∙ h.over

  pub remark_reclaims : (A : Type 0) (i : ℕ) → IsReclaimed c.table c'.table i → A
  remark_reclaims A i r = kinds_stay A c.table c'.table i
      (at_once_kinds d.config.format d c' o i ∙ ap (λ (x : CoreState). kind_of x.table i) h.same) r

  pub remark_shows : ((s g : Graph) → ShowsGraph g c → KeepsFrom s c → ShowsCleared s g d) → ((g : Graph) → ShowsGraph g d
      → ShowsGraph g c')
      → (s g : Graph) → ShowsGraph g c → KeepsFrom s c → ShowsCleared s g c'
  remark_shows ends on s g shows keeps =
      let e = ends s g shows keeps in
      record { after = e.after; clears = e.clears; shows = on e.after e.shows }

-- ---- clearing goes on: regions keep their kinds
pub looked_kinds : (k n : ℕ) (c d : CoreState) → HasLooked k n c d → (i : ℕ) → kind_of d.table i ≡ kind_of c.table i
looked_kinds k n c d h i = go c.clearing refl
  where
    go : (o : Option ℕ) → c.clearing ≡ o → kind_of d.table i ≡ kind_of c.table i
    go None e = ap (λ (x : CoreState). kind_of x.table i) (h.nothing e).0
    go (Some place) e = (h.cleared place e).kinds i

pub looked_count : (k n : ℕ) (c d : CoreState) → HasLooked k n c d → length d.table.regions ≡ length c.table.regions
looked_count k n c d h = go c.clearing refl
  where
    go : (o : Option ℕ) → c.clearing ≡ o → length d.table.regions ≡ length c.table.regions
    go None e = ap (λ (x : CoreState). length x.table.regions) (h.nothing e).0
    go (Some place) e = (h.cleared place e).count

pub looked_reclaims : (A : Type 0) (k n : ℕ) (c d : CoreState) → HasLooked k n c d → (i : ℕ) → IsReclaimed c.table d.table i → A
looked_reclaims A k n c d h i r = kinds_stay A c.table d.table i (looked_kinds k n c d h i) r
