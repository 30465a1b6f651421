-- A cut net can be written.
use Rattle.std.proofs.Common.{◌≡◌, ℕ, zero, suc, ◌+◌, ◌-◌, ◌*◌, ◌^◌, ◌<◌, ◌≤◌, [], length, map, refl, sym, ◌∙◌, subst, arith, inl, inr}
use Rattle.std.specs.List.{All}
use Rattle.std.proofs.lemmas.Bool.{cases_lt}
use Rattle.std.proofs.lemmas.List.Elements.{All-append, All-map, All-weaker}
use Rattle.spef_net.specs.declared.net.ParNet.{ParNet}
use Rattle.spef_net.specs.Nets.{IsCapOf}
use Rattle.spef_nodes.specs.Nodes.{ParNode}
use Rattle.spef_patch_laws.specs.Replacements.{HasQuietNotes, IsQuietNet}
use Rattle.spef_patch_laws.proofs.CalmLemmas.{calm, calm_line_stays}
use Rattle.spef_wire.specs.Refusals.{PassesUpTo, most_nodes}
use Rattle.spef_write.specs.Sections.{total}
use Rattle.spef_write.specs.Texts.{IsQuietLine}
use Rattle.vg_segment.specs.Segments.{IsSegmented, new_node}
use Rattle.vg_segment.specs.Texts.{cut_count}
use Rattle.segment_laws.proofs.AcceptedNetLemmas.{by_tree, driven, is_plain, is_whole, one_fewer}
use Rattle.segment_laws.proofs.CapLemmas.{same_by_node, total_by_tree}
use Rattle.segment_laws.proofs.SegmentedNetLemmas.{segmented}

quiet_none : IsQuietLine []
unfolding calm
quiet_none = calm_line_stays [] refl

-- capacitors are at nodes
pub caps_low : (net : ParNet) (n : ℕ) → length net.nodes ≤ n → All (λ (cap : ℕ × ℕ). cap.0 < n) net.caps
caps_low net n few =
    All-weaker (IsCapOf (length net.nodes)) (λ (cap : ℕ × ℕ). cap.0 < n) (λ cap is. omega (arith, is.0, few)) net.caps
    net.sound.caps_at

-- all capacitors of a net that nothing refuses have no great capacitance
charge_small : (net : ParNet) → PassesUpTo 17 net → total net.caps ≤ 10 ^ 15
charge_small net passed =
    let (root, d) = driven net passed in
    by_tree net passed root d (total net.caps ≤ 10 ^ 15)
    (elim (cases_lt (10 ^ 15) (total net.caps)) [
      | inl more ↦ inr (λ few. omega (arith, more, few))
      | inr few ↦ inl few
    ])
    (λ tree order a_tree within.
    omega (
      arith,
      within.sums.capacitances,
      total_by_tree (length net.nodes) root net.caps net.ress tree order a_tree
          (caps_low net (length net.nodes) (omega arith)),
    ))

-- so many parts are the resistors and, for each, its new nodes
count_parts : (parts n : ℕ) → 0 < parts → parts * n ≡ n + n * (parts - 1)
count_parts zero n some = absurd (omega arith)
count_parts (suc q) n some =
    let less : suc q - 1 ≡ q = omega arith in
    rw less (omega arith)

module _ (net : ParNet) (parts : ℕ) (cut : ParNet) (s : IsSegmented net parts cut) (some : 0 < parts) where
  pub node_count : length cut.nodes ≡ cut_count parts net
  node_count = (segmented net parts cut 0 s some).nodes

  pub same_charge : total cut.caps ≡ total net.caps
  same_charge =
      same_by_node (λ (cap : ℕ × ℕ). cap.1) (length cut.nodes) net.caps cut.caps
      (caps_low net (length cut.nodes) (omega (arith, node_count)))
      (caps_low cut (length cut.nodes) (omega arith)) s.caps

  pub quiet_cut : PassesUpTo 17 net → cut_count parts net ≤ most_nodes → HasQuietNotes net → IsQuietNet cut
  quiet_cut passed few notes = record {
    writable = record {
      whole = s.whole ∙ is_whole net passed;
      plain = s.plain ∙ is_plain net passed;
      charge = omega (arith, same_charge, charge_small net passed);
      nodes = omega (arith, node_count, few);
      resistors = omega (
        arith,
        few,
        one_fewer net passed,
        (segmented net parts cut 0 s some).count,
        count_parts parts (length net.ress) some,
      );
    };
    notes =
        subst (All (λ (node : ParNode). IsQuietLine node.note)) (sym s.nodes)
        (All-append (λ (node : ParNode). IsQuietLine node.note) net.nodes (map (new_node net.name) s.leaves) notes
        (All-map (λ (node : ParNode). IsQuietLine node.note) (new_node net.name) s.leaves (λ k d low. quiet_none)));
  }
