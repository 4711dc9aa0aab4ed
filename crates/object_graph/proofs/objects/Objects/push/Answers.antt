use Rattle.std.proofs.Common.{List, [], ◌∷◌, ◌++◌, ◌+◌, sym, ap, ◌∙◌, arith}
use Rattle.object_graph.proofs.ObjectLaws.{is_last, pushed, pushed_turn, some_weaks_one, some_weaks_none}
use Rattle.object_graph.specs.declared.objects.Entry.{Entry}
use Rattle.object_graph.proofs.objects.Objects.push.Goals as goal

pub invariant_of-self-then-weaks-gt0 : goal.invariant_of-self-then-weaks-gt0
invariant_of-self-then-weaks-gt0 c =
    let more = c.push_reserved.ensures.items ∙ ap (λ (es : List Entry). es ++ c.new-entry.result ∷ []) c.in_ok-reserve.ensures.items in
    let last = is_last c.new-entry.result (c.new-entry.ensures.start ∙ c.len-start.ensures) c.new-entry.ensures.pointers
    c.new-entry.ensures.weaks c.new-entry.ensures.values in (
      pushed_turn c.self.inside.words.items c.resize.new.self.items c.self.inside.entries.items c.push_reserved.new.self.items
          c.self.inside.words.len (c.len-start.result + (c.args.counts.pointers + c.from.result) + c.args.counts.values)
          c.args.counts.pointers c.args.weaks c.args.counts.values c.new-entry.result c.self.invariant.0 c.self.inside.words.ok.0 last
          (omega (arith, c.from.ensures, c.len-start.ensures)) (sym c.resize.new.self.ok.0 ∙ c.in_ok-resize.ensures.len) more,
      sym (some_weaks_one c.self.inside.entries.items c.push_reserved.new.self.items c.new-entry.result
          (omega (arith, c.new-entry.ensures.weaks, c.if-weaks-gt0.true)) more),
    )

pub invariant_of-self-else-weaks-gt0 : goal.invariant_of-self-else-weaks-gt0
invariant_of-self-else-weaks-gt0 c =
    let more = c.push_reserved.ensures.items ∙ ap (λ (es : List Entry). es ++ c.new-entry.result ∷ []) c.in_ok-reserve.ensures.items in
    let last = is_last c.new-entry.result (c.new-entry.ensures.start ∙ c.len-start.ensures) c.new-entry.ensures.pointers
    c.new-entry.ensures.weaks c.new-entry.ensures.values in (
      pushed_turn c.self.inside.words.items c.resize.new.self.items c.self.inside.entries.items c.push_reserved.new.self.items
          c.self.inside.words.len (c.len-start.result + (c.args.counts.pointers + c.from.result) + c.args.counts.values)
          c.args.counts.pointers c.args.weaks c.args.counts.values c.new-entry.result c.self.invariant.0 c.self.inside.words.ok.0 last
          (omega (arith, c.from.ensures, c.len-start.ensures)) (sym c.resize.new.self.ok.0 ∙ c.in_ok-resize.ensures.len) more,
      c.self.invariant.1 ∙ sym (some_weaks_none c.self.inside.entries.items c.push_reserved.new.self.items c.new-entry.result
          (omega (arith, c.new-entry.ensures.weaks, c.if-weaks-gt0.false)) more),
    )

pub returns-then-weaks-gt0-clause-ok : goal.returns-then-weaks-gt0-clause-ok
returns-then-weaks-gt0-clause-ok c =
    let more = c.push_reserved.ensures.items ∙ ap (λ (es : List Entry). es ++ c.new-entry.result ∷ []) c.in_ok-reserve.ensures.items in
    let last = is_last c.new-entry.result (c.new-entry.ensures.start ∙ c.len-start.ensures) c.new-entry.ensures.pointers
    c.new-entry.ensures.weaks c.new-entry.ensures.values in
    pushed c.self.inside.words.items c.resize.new.self.items c.self.inside.entries.items c.push_reserved.new.self.items c.args.self.now
    c.self.inside.words.len (c.len-start.result + (c.args.counts.pointers + c.from.result) + c.args.counts.values)
    c.args.counts.pointers c.args.weaks c.args.counts.values c.new-entry.result c.self.view_is c.self.invariant.0
    c.self.inside.words.ok.0 last (omega (arith, c.from.ensures, c.len-start.ensures)) c.in_ok-resize.ensures.items more

pub returns-else-weaks-gt0-clause-ok : goal.returns-else-weaks-gt0-clause-ok
returns-else-weaks-gt0-clause-ok c =
    let more = c.push_reserved.ensures.items ∙ ap (λ (es : List Entry). es ++ c.new-entry.result ∷ []) c.in_ok-reserve.ensures.items in
    let last = is_last c.new-entry.result (c.new-entry.ensures.start ∙ c.len-start.ensures) c.new-entry.ensures.pointers
    c.new-entry.ensures.weaks c.new-entry.ensures.values in
    pushed c.self.inside.words.items c.resize.new.self.items c.self.inside.entries.items c.push_reserved.new.self.items c.args.self.now
    c.self.inside.words.len (c.len-start.result + (c.args.counts.pointers + c.from.result) + c.args.counts.values)
    c.args.counts.pointers c.args.weaks c.args.counts.values c.new-entry.result c.self.view_is c.self.invariant.0
    c.self.inside.words.ok.0 last (omega (arith, c.from.ensures, c.len-start.ensures)) c.in_ok-resize.ensures.items more
