-- How candidates are made of proposals.
use Rattle.std.specs.Prelude.{◌≡◌, ℕ, List, [], ◌∷◌, Option, Some, None}
use Rattle.std.specs.List.{Contains}
use Rattle.sol_arena.specs.declared.arena.Sol.{Sol}
use Rattle.sol_arena.specs.declared.slot.Made.{Made}
use Rattle.sol_arena.specs.declared.slot.Slot.{Slot}
use Rattle.sol_arena.specs.Meanings.{with_own, joined, cells_of, AreApart}
use Rattle.sol_arena.specs.Slots.{made_in, IsLive}
use Rattle.vg_front.specs.declared.offer.Candidate.{Candidate}
use Rattle.vg_front.specs.declared.offer.Origin.{Origin}
use Rattle.vg_front.specs.declared.offer.Origin.TheVariants.{Cell, Join}
use Rattle.vg_front.specs.declared.offer.Proposal.{Proposal}
use Rattle.vg_front.specs.Offers.{priced, offers_of}
use Rattle.vg_front.specs.Held.{AreHeld, IsGiven}

-- the cells of what is to be made so, by those of what it is to be made of
abbrev pub cells_from : Origin → (ℕ → ℕ → Option ℕ) → ℕ → Option ℕ
cells_from (Cell node rep below) cells = with_own node (Some rep) (cells below.0)
cells_from (Join a b) cells = joined (cells a.0) (cells b.0)

-- it may be made
abbrev pub IsMakable : List Made → Origin → Type 0
IsMakable ms (Cell node rep below) = IsLive ms below.0 × (cells_of ms below.0 node ≡ None)
IsMakable ms (Join a b) = IsLive ms a.0 × IsLive ms b.0 × AreApart (cells_of ms a.0) (cells_of ms b.0)

-- of solutions of these candidates
abbrev pub IsFrom : List Made → List Candidate → Origin → Type 0
IsFrom ms xs (Cell node rep below) =
    (x : Candidate) × Contains xs x × (below.0 ≡ x.sol.0) × (cells_of ms x.sol.0 node ≡ None)
IsFrom ms xs (Join a b) =
    (x : Candidate) × (y : Candidate) × Contains xs x × Contains xs y × (a.0 ≡ x.sol.0) × (b.0 ≡ y.sol.0)
    × AreApart (cells_of ms x.sol.0) (cells_of ms y.sol.0)

abbrev pub AreFrom : List Made → List Candidate → List Proposal → Type 0
AreFrom ms xs ps = (p : Proposal) → Contains ps p → IsFrom ms xs p.origin

-- of candidates of which callers hold the uses
abbrev pub AreFromSome : List Slot → List Proposal → Type 0
AreFromSome slots ps = (xs : List Candidate) × AreHeld slots xs × AreFrom (made_in slots) xs ps

-- a solution was made so, and callers hold its use
pub record IsSolutionOf (old new : List Slot) (origin : Origin) (sol : Sol) : Type 0 where
  pub means : cells_of (made_in new) sol.0 ≡ cells_from origin (cells_of (made_in old))
  pub given : (z : Candidate) → z.sol.0 ≡ sol.0 → IsGiven old [] new (z ∷ [])

-- the candidate of a proposal
pub record IsMade (old new : List Slot) (p : Proposal) (z : Candidate) : Type 0 where
  pub offer : z.offer ≡ p.offer
  pub means : cells_of (made_in new) z.sol.0 ≡ cells_from p.origin (cells_of (made_in old))
  pub given : IsGiven old [] new (z ∷ [])

-- it comes to what was proposed, and has the cells
pub record IsMadeOf (old new : List Made) (p : Proposal) (z : Candidate) : Type 0 where
  pub offer : z.offer ≡ p.offer
  pub means : cells_of new z.sol.0 ≡ cells_from p.origin (cells_of old)

-- the candidates of all these proposals
pub record AreMadeOf (old new : List Made) (ps : List Proposal) (zs : List Candidate) : Type 0 where
  pub part : (z : Candidate) → Contains zs z → (p : Proposal) × Contains ps p × IsMadeOf old new p z
  pub all : (p : Proposal) → Contains ps p → Contains (offers_of zs) (priced p.offer)
