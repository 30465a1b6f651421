-- The names of nets: for the functions between.
use Rattle.std.specs.Prelude.{◌≡◌, ◌≢◌, ℕ, ◌<◌, ◌^◌, Bool, true, List, Option, Some, is_none, is_some, slice_get, MatchOption}
use Rattle.ver_module.specs.Netlists.{Net, net_name}

-- a name is that of a bit of this identifier
abbrev pub IsBitName : List ℕ → List ℕ → ℕ → Type 0
IsBitName name base bit = name ≡ net_name base (Some bit)

-- a name is that of no bit
abbrev pub IsNoBitName : List ℕ → Type 0
IsNoBitName name = (base : List ℕ) (bit : ℕ) → bit < 2 ^ 32 → name ≢ net_name base (Some bit)

-- a net is a scalar, or a bit
abbrev pub is_scalar : Net → Bool
is_scalar net = is_none net.bit

abbrev pub is_bit : Net → Bool
is_bit net = is_some net.bit

-- a net of a kind has a name
pub record IsOf (of : Net → Bool) (nets : List Net) (name : List ℕ) (id : ℕ) : Type 0 where
  pub net : Net
  pub is : slice_get nets id ≡ Some net
  pub kind : of net ≡ true
  pub named : net.name ≡ name

-- of the nets of a kind this one alone has a name, or none
abbrev pub IsOnly : (Net → Bool) → List Net → List ℕ → Option ℕ → Type 0
IsOnly kind nets name found =
    MatchOption found ((id : ℕ) → IsOf kind nets name id → ⊥)
    (λ one. IsOf kind nets name one × ((id : ℕ) → IsOf kind nets name id → id ≡ one))

-- no two scalars have one name, and no two bits
pub record AreApart (nets : List Net) : Type 0 where
  pub scalars : (name : List ℕ) (one other : ℕ) → IsOf is_scalar nets name one → IsOf is_scalar nets name other
      → one ≡ other
  pub bits : (name : List ℕ) (one other : ℕ) → IsOf is_bit nets name one → IsOf is_bit nets name other → one ≡ other
