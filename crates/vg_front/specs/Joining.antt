-- Two branches that meet at a node, the lower one above its wire.
use Rattle.std.specs.Prelude.{◌≡◌, ℕ, Bool, List, map, Option}
use Rattle.std.specs.List.{Contains}
use Rattle.elmore.specs.Trees.{resistance}
use Rattle.elmore.specs.declared.problem.Problem.{Problem}
use Rattle.sol_arena.specs.declared.slot.Made.{Made}
use Rattle.sol_arena.specs.Meanings.{cells_of, AreApart}
use Rattle.vg_front.specs.Fronts.{IsClosedAt}
use Rattle.vg_front.specs.Held.{carried_by}
use Rattle.vg_front.specs.Making.{AreMadeOf}
use Rattle.vg_front.specs.Meeting.{IsMet}
use Rattle.vg_front.specs.Offers.{IsPartOf}
use Rattle.vg_front.specs.declared.offer.Candidate.{Candidate}
use Rattle.vg_front.specs.declared.offer.Proposal.{Proposal}

-- no solution of the one list shares a node with one of the other
abbrev pub AreAllApart : List Made → List Candidate → List Candidate → Type 0
AreAllApart ms xs ys =
    (x y : Candidate) → Contains xs x → Contains ys y → AreApart (cells_of ms x.sol.0) (cells_of ms y.sol.0)

-- the candidates of two lists together within the cap, but those that others beat
pub record AreMet (cap : Option ℕ) (old new : List Made) (xs ys zs : List Candidate) : Type 0 where
  pub proposals : List Proposal
  pub part : IsPartOf (IsMet cap xs ys) proposals
  pub made : AreMadeOf old new proposals zs

-- the candidates of each class of node v, with and without a cell there, above its wire and with a load more
pub record IsCarriedAt (p : Problem) (cap : Option ℕ) (v load : ℕ) (ms : List Made)
    (classes : Bool → List Candidate) : Type 0 where
  pub below : Bool → List Candidate
  pub closed : IsClosedAt p cap v ms below
  pub above : (odd : Bool) → classes odd ≡ map (carried_by (resistance p.tree.nodes v) load) (below odd)
