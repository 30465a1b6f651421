-- Distinct names and their numbers.
use Rattle.std.specs.Prelude.{◌≡◌, ℕ, false, ◌++◌, List, [], ◌∷◌, Option, if◌then◌else◌, ⊤}
use Rattle.std.specs.List.{list_any, position, position_or_len}
use Rattle.std.specs.Str.{bytes_eq}

-- how many names stand before a name that is one of them
abbrev pub number_of : List (List ℕ) → List ℕ → Option ℕ
number_of names name = position (bytes_eq name) names

-- the number of a name that is put last where it is new
abbrev pub number_in : List (List ℕ) → List ℕ → ℕ
number_in names name = position_or_len (bytes_eq name) names

-- the names, with this one last where it is new
abbrev pub with_name : List (List ℕ) → List ℕ → List (List ℕ)
with_name names name = if list_any (bytes_eq name) names then names else names ++ name ∷ []

-- none of these names stands twice, nor is one of those before
abbrev pub AreNew : List (List ℕ) → List (List ℕ) → Type 0
AreNew before [] = ⊤
AreNew before (name ∷ names) = (list_any (bytes_eq name) before ≡ false) × AreNew (before ++ name ∷ []) names
