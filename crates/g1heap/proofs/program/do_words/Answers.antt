use Rattle.std.proofs.Common.{◌≡◌, ◌∙◌, List, Option, inl, map, string_bytes, subst, sym, ℕ, Some}
use Rattle.command_line.specs.Asked.{Asked, asked_by, names_of, types_by, types_of}
use Rattle.g1heap.specs.Jobs.{DoesNamed}
use Rattle.g1heap.proofs.program.do_words.Goals as goal

pub returns-in-Ok-clause-asked : goal.returns-in-Ok-clause-asked
returns-in-Ok-clause-asked g c = λ asked asks.
    let both : Some asked ≡ Some (asked_by c.in-Ok.job) = sym asks.0 ∙ c.in-Ok.ensures.job in
    let same : asked ≡ asked_by c.in-Ok.job = cc in
    let words = map string_bytes c.args.words.now in
    let named = subst (λ (p : Option (List ℕ)). DoesNamed p (types_by c.in-Ok.job) (asked_by c.in-Ok.job) c.args.input.now
    c.do_named.new.input c.args.out.now c.do_named.new.out c.args.err.now c.do_named.new.err c.do_named.result)
    (sym c.in-Ok.ensures.names) c.do_named.ensures in
    let typed = subst (λ (p : Option (List ℕ)). DoesNamed (names_of words) p (asked_by c.in-Ok.job) c.args.input.now
    c.do_named.new.input c.args.out.now c.do_named.new.out c.args.err.now c.do_named.new.err c.do_named.result)
    (sym c.in-Ok.ensures.types) named in
    inl (subst (λ (a : Asked). DoesNamed (names_of words) (types_of words) a c.args.input.now c.do_named.new.input
    c.args.out.now c.do_named.new.out c.args.err.now c.do_named.new.err c.do_named.result) (sym same) typed)
