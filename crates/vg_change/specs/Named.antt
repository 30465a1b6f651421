-- The names of a design, by where they are kept, and whether one begins with a prefix.
use Rattle.std.specs.Prelude.{◌≡◌, ◌==◌, ℕ, ◌<◌, ◌≤◌, Bool, false, List, Some, slice_get}
use Rattle.std.specs.List.{starts_with}
use Rattle.ver_module.specs.Netlists.{Net as NetSpec}
use Rattle.vg_change.specs.declared.taken_name.Named.{Named}
use Rattle.vg_change.specs.declared.taken_name.Named.TheVariants.{Bytes, Net}

-- the name that is kept there
abbrev pub name_by : Named → List ℕ
name_by (Bytes bytes) = bytes.now
name_by (Net net) = net.name

-- a name begins with a prefix
abbrev pub begins : List ℕ → List ℕ → Bool
begins name prefix = starts_with ◌==◌ name prefix

-- of the nets from one number up to another none has a name that begins with a prefix
abbrev pub NoneBegins : List NetSpec → ℕ → ℕ → List ℕ → Type 0
NoneBegins nets from to prefix =
    (n : ℕ) (net : NetSpec) → from ≤ n → n < to → slice_get nets n ≡ Some net → begins net.name prefix ≡ false
