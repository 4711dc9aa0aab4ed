-- What words ask for, and which errors they may give, by their parse.
use Rattle.std.proofs.Common.{◌≡◌, ◌∙◌, ◌∷◌, [], ap, inl, inr, List, None, Option, refl, Some, subst, sym, true}
use Rattle.std.specs.Prelude.{Err, IsErrAnd, Ok, option_and_then, Result}
use Rattle.clap.proofs.OnLiterals.{clap_on_literals}
use Rattle.clap.proofs.WalkLemmas.{both}
use Rattle.clap.specs.Faults.{fault_of, is_simple_and_free}
use Rattle.clap.specs.Kinds.{Kinds, or_else}
use Rattle.clap.specs.Words.{App, FailsBy, HasKind, HasMatchesOf, is_simple, kind_of, subcommand_of, subcommand_rows_of, Text}
use Rattle.clap.specs.declared.error.Error.{Error}
use Rattle.clap.specs.declared.error.kind.ErrorKind.TheVariants.{MissingRequiredArgument}
use Rattle.clap.specs.declared.parser.matches.ArgMatches.{ArgMatches}
use Rattle.command_line.specs.Asked.{Asked, asked_in, asked_of, faults_of, names_in, names_of, types_in, types_of}
use Rattle.command_line.specs.Program.{g1heap}

is_read_whole : is_simple_and_free g1heap ≡ true
unfolding clap_on_literals
is_read_whole = refl

-- what the matches of a parse ask for
pub asked_by : (app : App) (words : List Text) (m : ArgMatches) (asked : Asked) → app ≡ g1heap → HasMatchesOf app words m
    → Some asked ≡ option_and_then (λ found. asked_in found.0 found.1) (subcommand_rows_of m) → asked_of words ≡ Some asked
asked_by app words m asked is matches found =
    let rows = (matches (ap is_simple is ∙ (both _ _ is_read_whole).0)).1 in
    sym (found ∙ ap (option_and_then (λ found. asked_in found.0 found.1)) (rows ∙ ap (λ (a : App). subcommand_of a words) is))

-- which file of names the matches of a parse name
pub names_by : (app : App) (words : List Text) (m : ArgMatches) (names : Option Text) → app ≡ g1heap → HasMatchesOf app words m
    → names ≡ option_and_then (λ found. names_in found.1) (subcommand_rows_of m) → names_of words ≡ names
names_by app words m names is matches found =
    let rows = (matches (ap is_simple is ∙ (both _ _ is_read_whole).0)).1 in
    sym (found ∙ ap (option_and_then (λ found. names_in found.1)) (rows ∙ ap (λ (a : App). subcommand_of a words) is))

-- which file of types the matches of a parse name
pub types_by : (app : App) (words : List Text) (m : ArgMatches) (types : Option Text) → app ≡ g1heap → HasMatchesOf app words m
    → types ≡ option_and_then (λ found. types_in found.1) (subcommand_rows_of m) → types_of words ≡ types
types_by app words m types is matches found =
    let rows = (matches (ap is_simple is ∙ (both _ _ is_read_whole).0)).1 in
    sym (found ∙ ap (option_and_then (λ found. types_in found.1)) (rows ∙ ap (λ (a : App). subcommand_of a words) is))

-- words that ask for something, and that their parse takes, have no fault
pub taken : (app : App) (words : List Text) (asked : Asked) → app ≡ g1heap → (is_simple_and_free app ≡ true → fault_of app words ≡ [])
    → asked_of words ≡ Some asked → faults_of words ≡ []
taken app words asked is parsed asks =
    let none = subst (λ (a : App). fault_of a words ≡ []) is (parsed (ap is_simple_and_free is ∙ is_read_whole)) in
    rw (none, asks) refl

-- what is refused is refused whatever would come after
still_refused : (kinds next : Kinds) (e : Error) → HasKind kinds e → HasKind (or_else kinds next) e
still_refused [] next e h = elim h [ inl memory ↦ inl memory | inr none ↦ absurd none ]
still_refused (k ∷ ks) next e h = h

-- words are refused where their parse is
pub refused : {T : Type 0} (app : App) (words : List Text) (e : Error) (r : Result T Error) → app ≡ g1heap
    → (is_simple_and_free app ≡ true → HasKind (fault_of app words) e) → IsErrAnd r (λ y. y ≡ e) → FailsBy (faults_of words) r
refused app words e (Ok x) is parsed made = absurd made
refused app words e (Err y) is parsed made =
    let kind = subst (λ (a : App). HasKind (fault_of a words) e) is (parsed (ap is_simple_and_free is ∙ is_read_whole)) in
    rw made (still_refused (fault_of g1heap words) _ e kind)

-- words whose parse is taken and that ask for nothing lack an argument
pub missing : (app : App) (words : List Text) (m : ArgMatches) (e : Error) → app ≡ g1heap
    → (is_simple_and_free app ≡ true → fault_of app words ≡ []) → HasMatchesOf app words m
    → None ≡ option_and_then (λ found. asked_in found.0 found.1) (subcommand_rows_of m) → kind_of e ≡ MissingRequiredArgument
    → HasKind (faults_of words) e
missing app words m e is parsed matches found kind =
    let none = subst (λ (a : App). fault_of a words ≡ []) is (parsed (ap is_simple_and_free is ∙ is_read_whole)) in
    let rows = (matches (ap is_simple is ∙ (both _ _ is_read_whole).0)).1 in
    let nothing : asked_of words ≡ None = sym
    (found ∙ ap (option_and_then (λ found. asked_in found.0 found.1)) (rows ∙ ap (λ (a : App). subcommand_of a words) is)) in
    let faults : faults_of words ≡ MissingRequiredArgument ∷ [] = rw (none, nothing) refl in
    subst (λ (kinds : Kinds). HasKind kinds e) (sym faults) (inr (inl kind))
