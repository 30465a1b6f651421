-- What a change keeps where no cells are put in yet.
use Rattle.std.proofs.Common.{◌≡◌, ℕ, true, List, arith, None}
use Rattle.vg_change.specs.Changes.{IsChange, nothing}
use Rattle.vg_change.specs.Taken.{taken}
use Rattle.vg_design.specs.Designs.{Design}
use Rattle.design_read.specs.Designs.{IsDesign, Texts}
use Rattle.vg_scan.specs.Prefixes.{is_prefix}
use Rattle.change_laws.proofs.LibraryLemmas.{are_named, solid}

module _ (texts : Texts) (d : Design) (prefix : List ℕ) (design : IsDesign texts d) (word : is_prefix prefix ≡ true) (free : taken d prefix ≡ None) where
  -- no change
  pub keeps_nothing : IsChange (nothing d prefix)
  keeps_nothing = record {
    prefix = solid prefix word;
    free = free;
    repeaters = are_named texts.lib d.library design.library;
    rise = omega arith;
    rewirable = record { linked = λ i d low. absurd (omega (arith, low)); once = λ i j d less low. absurd (omega (arith, low)) };
  }
