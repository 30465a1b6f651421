-- The parts of a value.
use Rattle.std.specs.Prelude.{◌≡◌, ℕ, ℤ, [], ◌∷◌, List, Err}
use Rattle.std.specs.List.{slice_split}
use Rattle.vg_num.specs.declared.fault.NumFault.TheVariants.{Form}
use Rattle.spef_net.specs.Statements.{is_colon, value_of_parts}

-- a text with colons is no value, at any unit; or its three parts are these
abbrev pub IsNoValue : List ℕ → Type 0
IsNoValue text = (places : ℤ) → value_of_parts places (slice_split is_colon text) ≡ Err Form

abbrev pub AreParts : List ℕ → List ℕ → List ℕ → List ℕ → Type 0
AreParts text low typical high = slice_split is_colon text ≡ low ∷ typical ∷ high ∷ []
