-- What words with an option ask for.
use Rattle.std.proofs.Common.{◌≡◌, ◌∷◌, ◌∙◌, [], None, Some, false, true, ap, ap₂, codes, refl}
use Rattle.clap.proofs.OnLiterals.{clap_on_literals}
use Rattle.std.specs.Prelude.{fold}
use Rattle.clap.specs.Kinds.{Kinds, or_else}
use Rattle.clap.specs.Walk.{Held, Walk, finished, walked}
use Rattle.clap.specs.Words.{Text}
use Rattle.command_line.specs.Asked.{Asks, asked_in, is_path, names_in, names_of, types_in, types_of}
use Rattle.command_line.specs.Program.{drawn, viewed}
use Rattle.command_line.specs.declared.Task.TheVariants.{Draw, View}
use Rattle.command_line.specs.declared.Viewed.TheVariants.{Census, Object, Path, Regions, Snapshot}
use Rattle.command_line.proofs.Levels.{asks, asks_names, asks_types, end_fault, from_path, is_value, leaf, takes_value, to_draw, to_view}
use Rattle.command_line.proofs.Levels.{value_is_taken}

pub every : (program path : Text) → is_path path ≡ true
    → Asks (program ∷ codes "draw" ∷ path ∷ codes "--every" ∷ codes "10" ∷ []) (path, Draw 10 false, false)
unfolding clap_on_literals
every program path h = asks _ _ to_draw program path (codes "--every" ∷ codes "10" ∷ []) _ h refl refl

pub redraw : (program path : Text) → is_path path ≡ true
    → Asks (program ∷ codes "draw" ∷ path ∷ codes "--record" ∷ []) (path, Draw 1 true, false)
unfolding clap_on_literals
redraw program path h = asks _ _ to_draw program path (codes "--record" ∷ []) _ h refl refl

-- what is held after `--names`
abbrev held : Text → Held
held path = (walked (leaf drawn).rules [] (from_path path) (codes "--names")).held

pub names : (program path file : Text) → is_path path ≡ true → is_path file ≡ true
    → Asks (program ∷ codes "draw" ∷ path ∷ codes "--names" ∷ file ∷ []) (path, Draw 1 false, false)
    × (names_of (program ∷ codes "draw" ∷ path ∷ codes "--names" ∷ file ∷ []) ≡ Some file)
unfolding clap_on_literals
names program path file h k =
    let s = leaf drawn in
    let v = is_value file k in
    let options = codes "--names" ∷ file ∷ [] in
    let taken = takes_value s (held path) (codes "names") 2 file v in
    let quiet = value_is_taken s (held path) (codes "names") 2 file v in (
      asks _ _ to_draw program path options _ h (ap (λ (w : Walk). asked_in s.name (finished s.rules w.held)) taken)
          (ap₂ (λ (k : Kinds) (w : Walk). or_else (or_else k []) (end_fault s w.held)) quiet taken),
      asks_names _ _ to_draw program path options h ∙ ap (λ (w : Walk). names_in (finished s.rules w.held)) taken,
    )

pub no_names : (program path : Text) → is_path path ≡ true → names_of (program ∷ codes "draw" ∷ path ∷ []) ≡ None
unfolding clap_on_literals
no_names program path h = asks_names _ _ to_draw program path [] h

pub at : (program path : Text) → is_path path ≡ true
    → Asks (program ∷ codes "view" ∷ path ∷ codes "--at" ∷ codes "9" ∷ []) (path, View false (Some 9) (Regions None false), false)
unfolding clap_on_literals
at program path h = asks _ _ to_view program path (codes "--at" ∷ codes "9" ∷ []) _ h refl refl

pub object : (program path : Text) → is_path path ≡ true
    → Asks (program ∷ codes "view" ∷ path ∷ codes "--object" ∷ codes "7" ∷ []) (path, View false None (Object 7), false)
unfolding clap_on_literals
object program path h = asks _ _ to_view program path (codes "--object" ∷ codes "7" ∷ []) _ h refl refl

pub way : (program path : Text) → is_path path ≡ true
    → Asks (program ∷ codes "view" ∷ path ∷ codes "--path" ∷ codes "7" ∷ []) (path, View false None (Path 7), false)
unfolding clap_on_literals
way program path h = asks _ _ to_view program path (codes "--path" ∷ codes "7" ∷ []) _ h refl refl

pub census : (program path : Text) → is_path path ≡ true
    → Asks (program ∷ codes "view" ∷ path ∷ codes "--census" ∷ []) (path, View false None Census, false)
unfolding clap_on_literals
census program path h = asks _ _ to_view program path (codes "--census" ∷ []) _ h refl refl

pub heapsnapshot : (program path : Text) → is_path path ≡ true
    → Asks (program ∷ codes "view" ∷ path ∷ codes "--heapsnapshot" ∷ []) (path, View false None Snapshot, false)
unfolding clap_on_literals
heapsnapshot program path h = asks _ _ to_view program path (codes "--heapsnapshot" ∷ []) _ h refl refl

-- what is held after `--heapsnapshot --types`
abbrev held_types : Text → Held
held_types path = (fold (walked (leaf viewed).rules []) (from_path path) (codes "--heapsnapshot" ∷ codes "--types" ∷ [])).held

pub types : (program path file : Text) → is_path path ≡ true → is_path file ≡ true
    → Asks (program ∷ codes "view" ∷ path ∷ codes "--heapsnapshot" ∷ codes "--types" ∷ file ∷ [])
    (path, View false None Snapshot, false)
    × (types_of (program ∷ codes "view" ∷ path ∷ codes "--heapsnapshot" ∷ codes "--types" ∷ file ∷ []) ≡ Some file)
unfolding clap_on_literals
types program path file h k =
    let s = leaf viewed in
    let v = is_value file k in
    let options = codes "--heapsnapshot" ∷ codes "--types" ∷ file ∷ [] in
    let taken = takes_value s (held_types path) (codes "types") 2 file v in
    let quiet = value_is_taken s (held_types path) (codes "types") 2 file v in (
      asks _ _ to_view program path options _ h (ap (λ (w : Walk). asked_in s.name (finished s.rules w.held)) taken)
          (ap₂ (λ (k : Kinds) (w : Walk). or_else (or_else k []) (end_fault s w.held)) quiet taken),
      asks_types _ _ to_view program path options h ∙ ap (λ (w : Walk). types_in (finished s.rules w.held)) taken,
    )

pub no_types : (program path : Text) → is_path path ≡ true → types_of (program ∷ codes "view" ∷ path ∷ []) ≡ None
unfolding clap_on_literals
no_types program path h = asks_types _ _ to_view program path [] h
