-- Names that begin with the prefix.
use Rattle.std.proofs.Common.{◌≡◌, ℕ, List, sym, ◌∙◌, subst, Some, None}
use Rattle.vg_design.specs.Designs.{Design}
use Rattle.vg_change.specs.Taken.{taken}
use Rattle.design_read.specs.Designs.{Texts}
use Rattle.design_read.proofs.LawLemmas.{one_is}
use Rattle.vg_place.specs.Placings.{IsFreeDesign, IsTaken}

-- no name of a design of which something is said begins with the prefix
pub free_not_taken : (texts : Texts) (prefix : List ℕ) (d : Design) (name : List ℕ) → IsFreeDesign texts prefix d → IsTaken texts prefix name → ⊥
free_not_taken texts prefix d name free taken_by =
    let same : d ≡ taken_by.design = one_is texts d taken_by.design free.design_of taken_by.design_of in
    let first : taken d prefix ≡ Some name = subst (λ (design : Design). taken design prefix ≡ Some name) (sym same) taken_by.first in
    let e : None ≡ Some name = sym free.free ∙ first in
    cc
