-- The edits of the parasitics are replacements of sections.
use Rattle.std.proofs.Common.{◌≡◌, ℕ, ◌≤◌, ◌^◌, List, [], ◌∷◌, length, refl, sym, ap, ◌∙◌, arith, subst, None, All}
use Rattle.std.proofs.lemmas.Slice.Zip.{AllZip-long}
use Rattle.spef_file.specs.Indexes.{IsIndexOf}
use Rattle.spef_file.specs.declared.spef_index.SpefIndex.{SpefIndex}
use Rattle.vg_change.specs.Changes.{Changes, HavePut, nothing}
use Rattle.vg_change.specs.Placed.{PlacedNet}
use Rattle.vg_change.specs.Taken.{taken}
use Rattle.vg_design.specs.Designs.{Design}
use Rattle.change_spef_laws.specs.Laws.{SectionsAreReplaced}
use Rattle.change_spef_laws.specs.Nets.{IsChangeBy, IsPlacedNet, splits}
use Rattle.change_spef_laws.specs.Replaced.{IsReplacedBy}
use Rattle.change_spef_laws.proofs.EditLemmas.{rising_edits}
use Rattle.change_spef_laws.proofs.FewLemmas.{IsOwnSplit, few_sections, own_splits, split_count}
use Rattle.change_spef_laws.proofs.OwnLemmas.{all_replace, have_own_names}

-- the design and the prefix stay
put_stays : (old : Changes) (nets : List PlacedNet) (c : Changes) → HavePut old nets c → (c.design ≡ old.design) × (c.prefix ≡ old.prefix)
put_stays old [] c put = (ap (λ (s : Changes). s.design) put, ap (λ (s : Changes). s.prefix) put)
put_stays old (p ∷ nets) c (mid, one, more) =
    let rest = put_stays mid nets c more in
    (rest.0 ∙ ap (λ (s : Changes). s.design) one.is, rest.1 ∙ ap (λ (s : Changes). s.prefix) one.is)

-- there are no more nets than sections
few_nets : (d : Design) (prefix : List ℕ) (nets : List PlacedNet) (c : Changes) (index : SpefIndex) → IsChangeBy d prefix nets c → IsIndexOf d.spef index → length nets ≤ 2 ^ 28
few_nets d prefix nets c index by of =
    let (are, rise) = rising_edits d.spef index (nothing d prefix) c nets (length c.design.spef) of by.put refl refl by.keeps.rise in
    omega (
      arith,
      few_sections d.spef index of are.rs rise are.rows,
      AllZip-long (IsReplacedBy index.header.chars) (splits d prefix 0 nets) are.rs are.each,
      split_count d prefix 0 nets,
    )

few : (d : Design) (prefix : List ℕ) (nets : List PlacedNet) (c : Changes) → IsChangeBy d prefix nets c → length nets ≤ 2 ^ 28
few d prefix [] c by = omega arith
few d prefix (p ∷ nets) c by = few_nets d prefix (p ∷ nets) c by.put.1.is_section.index by by.put.1.is_section.named.index_of

module _ (d : Design) (prefix : List ℕ) (nets : List PlacedNet) (c : Changes) (by : IsChangeBy d prefix nets c) where
  design_is : c.design ≡ d
  design_is = (put_stays (nothing d prefix) nets c by.put).0

  prefix_is : c.prefix ≡ prefix
  prefix_is = (put_stays (nothing d prefix) nets c by.put).1

  pub none_taken : taken d prefix ≡ None
  none_taken = sym (λ j. taken (design_is j) (prefix_is j)) ∙ by.keeps.free

  pub all_own : All (IsOwnSplit prefix) (splits d prefix 0 nets)
  all_own =
      subst (λ (q : List ℕ). All (IsOwnSplit q) (splits d q 0 nets)) prefix_is
      (subst (λ (e : Design). All (IsOwnSplit c.prefix) (splits e c.prefix 0 nets)) design_is
      (own_splits c by.keeps 0 nets (subst (λ (e : Design). All (IsPlacedNet e) nets) (sym design_is) by.each) (omega (arith, few d prefix nets c by))))

pub sections_replaced : SectionsAreReplaced
sections_replaced d prefix nets c index by of =
    let (are, rise) = rising_edits d.spef index (nothing d prefix) c nets (length c.design.spef) of by.put refl refl by.keeps.rise in
    let own = all_own d prefix nets c by in
    let free = none_taken d prefix nets c by in (
      are.rs,
      record {
        each = are.each;
        edits_are = are.edits_are;
        are = record { rise = rise; each = all_replace d prefix index of free (splits d prefix 0 nets) are.rs are.each own are.rows };
        own = have_own_names d prefix index of free nets are.rs are.each own are.rows;
      },
    )
