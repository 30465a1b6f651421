-- A line without words, and one with words.
use Rattle.std.proofs.Common.{◌≡◌, ℕ, true, false, List, [], ◌∷◌, map, length, eqb, refl, arith}
use Rattle.std.proofs.lemmas.Bool.Decides.{nat_tests}
use Rattle.spef_file.specs.Words.{has_words}

pub no_words : {X : Type 0} (f : X → List ℕ) (xs : List X) → eqb (length xs) 0 ≡ true → map f xs ≡ []
no_words f [] e = refl
no_words f (x ∷ xs) e = absurd (grind (arith, nat_tests))

pub some_words : {X : Type 0} (f : X → List ℕ) (xs : List X) → eqb (length xs) 0 ≡ false → has_words (map f xs) ≡ true
some_words f [] e = absurd (grind (arith, nat_tests))
some_words f (x ∷ xs) e = refl
