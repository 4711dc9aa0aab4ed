-- How long the words of a line are.
use Rattle.std.proofs.Common.{◌≡◌, ℕ, ◌+◌, ◌≤◌, List, [], ◌∷◌, length, arith}
use Rattle.std.proofs.lemmas.List.{length-append}
use Rattle.script_text.specs.Spelling.{spaced}

pub spaced_next : (w x : List ℕ) (ws : List (List ℕ)) → length (spaced (w ∷ x ∷ ws)) ≡ length w + 1 + length (spaced (x ∷ ws))
spaced_next w x ws = omega (arith, length-append w (32 ∷ spaced (x ∷ ws)))

-- a word in front of others
pub spaced_behind : (w : List ℕ) (ws : List (List ℕ)) → length (spaced (w ∷ ws)) ≤ length w + 1 + length (spaced ws)
spaced_behind w [] = omega arith
spaced_behind w (x ∷ ws) = omega (arith, spaced_next w x ws)

pub two_long : (a b : List ℕ) → length (spaced (a ∷ b ∷ [])) ≡ length a + length b + 1
two_long a b = omega (arith, length-append a (32 ∷ b))

pub three_long : (a b c : List ℕ) → length (spaced (a ∷ b ∷ c ∷ [])) ≡ length a + length b + length c + 2
three_long a b c = let rest = two_long b c in omega (arith, length-append a (32 ∷ spaced (b ∷ c ∷ [])))

pub four_long : (a b c d : List ℕ) → length (spaced (a ∷ b ∷ c ∷ d ∷ [])) ≡ length a + length b + length c + length d + 3
four_long a b c d = let rest = three_long b c d in omega (arith, length-append a (32 ∷ spaced (b ∷ c ∷ d ∷ [])))

pub five_long : (a b c d e : List ℕ) → length (spaced (a ∷ b ∷ c ∷ d ∷ e ∷ [])) ≡ length a + length b + length c + length d + length e + 4
five_long a b c d e = let rest = four_long b c d e in omega (arith, length-append a (32 ∷ spaced (b ∷ c ∷ d ∷ e ∷ [])))
