-- The climb of a walk, net by net.
use Rattle.std.proofs.Common.{◌≡◌, ℕ, suc, List, [], ◌∷◌, ◌++◌, refl, sym, ap, ◌∙◌, subst, arith, All, Some, None}
use Rattle.cut_laws.specs.Walks.{TimedNet, IsClimb}
use Rattle.vg_retime.specs.Stops.{IsRise}

-- one net more
pub rise_next : (nets : ℕ → TimedNet) (id : ℕ) (before : List ℕ) (at next : ℕ) → IsRise nets id before at → (nets at).above ≡ Some next
    → IsRise nets id (before ++ at ∷ []) next
rise_next nets id [] at next rise up = (rise, (next, ap (λ (i : ℕ). (nets i).above) rise ∙ up, refl))
rise_next nets id (below ∷ more) at next (same, (above, is, rise)) up = (same, (above, is, rise_next nets above more at next rise up))

-- over nets that are the same
pub rise_same : (nets others : ℕ → TimedNet) (id : ℕ) (before : List ℕ) (at : ℕ) → All (λ i. nets i ≡ others i) before → IsRise nets id before at
    → IsRise others id before at
rise_same nets others id [] at same rise = rise
rise_same nets others id (below ∷ more) at same (is, (next, up, rise)) = (
  is,
  (
    next,
    ap (λ (n : TimedNet). n.above) (sym (subst (λ (i : ℕ). nets i ≡ others i) (sym is) (same 0 below (omega arith)))) ∙ up,
    rise_same nets others next more at (λ k d h. same (suc k) d (omega arith)) rise,
  ),
)

-- the nets of a climb: those before the first, and the first
pub record IsPath (nets : ℕ → TimedNet) (id : ℕ) (nodes : List ℕ) (first : ℕ) : Type 0 where
  pub path : List ℕ
  pub climb : IsClimb nets id path first
  pub nodes_are : id ∷ path ≡ nodes

pub climb_of : (nets : ℕ → TimedNet) (id : ℕ) (before : List ℕ) (first : ℕ) → IsRise nets id before first → (nets first).above ≡ None
    → IsPath nets id (before ++ first ∷ []) first
climb_of nets id [] first rise top = record {
  path = [];
  climb = (rise, ap (λ (i : ℕ). (nets i).above) rise ∙ top);
  nodes_are = ap (λ (i : ℕ). i ∷ []) rise;
}
climb_of nets id (below ∷ more) first (is, (next, up, rise)) top =
    let rest = climb_of nets next more first rise top in
    record { path = next ∷ rest.path; climb = (up, rest.climb); nodes_are = λ i. is i ∷ rest.nodes_are i }
