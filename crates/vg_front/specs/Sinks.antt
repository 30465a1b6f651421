-- A node to which no child came in yet, and what is beside a branch that comes in.
use Rattle.std.specs.Prelude.{◌≡◌, ℕ, Bool, List}
use Rattle.std.specs.List.{Contains}
use Rattle.elmore.specs.declared.parts.Sink.{Sink}
use Rattle.sol_arena.specs.Slots.{none}
use Rattle.vg_front.specs.Fronts.{In}
use Rattle.vg_front.specs.Offers.{priced}
use Rattle.vg_front.specs.declared.offer.Candidate.{Candidate}
use Rattle.vg_front.specs.declared.offer.Offer.{Offer}
use Rattle.vg_front.specs.declared.part.Part.{Part}
use Rattle.vg_front.specs.declared.part.Part.TheVariants.{Dead, Live}

-- what a sink alone comes to at a node of this capacitance
abbrev pub offer_of : Sink → ℕ → Offer
offer_of sink c = record { cost = 0; q = sink.required; c = c }

-- the candidates of a sink alone, without a cell: one in the class that it wants, and none in the other
pub record IsSinkAlone (sink : Sink) (c : ℕ) (odd : Bool) (xs : List Candidate) : Type 0 where
  pub wanted : (x : Candidate) → Contains xs x → odd ≡ sink.inverted
  pub offer : (x : Candidate) → Contains xs x → x.offer ≡ offer_of sink c
  pub bare : (x : Candidate) → Contains xs x → x.sol.0 ≡ none
  pub some : odd ≡ sink.inverted → In xs (priced (offer_of sink c))

-- the load beside a branch that comes in: all that came in before, where no sink is there
abbrev pub load_beside : Part → ℕ
load_beside (Dead c) = c
load_beside (Live branch) = 0
