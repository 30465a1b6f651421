use Rattle.std.proofs.Common.{◌≡◌, ◌-◌, ◌*◌, ◌∙◌, length, map, ◌++◌, sym, ap, subst, List, ℕ}
use Rattle.std.specs.List.Sorted.{IsPermutation}
use Rattle.spef_net.proofs.FinishLemmas.{sound_as}
use Rattle.vg_segment.specs.Segments.{new_node, chains}
use Rattle.vg_segment.proofs.SoundLemmas.{cut_sound}
use Rattle.vg_segment.proofs.cut.segment.Goals as goal

pub invariant_of-result : goal.invariant_of-result
invariant_of-result c =
    let net = c.args.net.now in
    let leaves : List ℕ = c.in_ok-leaves.leaves.items in
    let nodes : net.nodes ++ map (new_node net.name) leaves ≡ c.in_ok-nodes.nodes = sym (c.in_ok-nodes.ensures ∙ ap (λ ls. net.nodes ++ map (new_node net.name) ls) c.as_slice.ensures.value) in
    let conns = sym (c.from_vec.ensures ∙ c.in_ok-conns.ensures.items ∙ c.as_slice-2.ensures) in
    let ress : chains c.args.parts (length net.nodes) net.ress ≡ c.in_ok-ress.ress = sym (c.in_ok-ress.ensures ∙ (λ i. chains c.args.parts (c.len-2.ensures i) (c.as_slice-4.ensures i))) in
    let same : IsPermutation net.caps c.in_ok-caps.caps = subst (λ (caps : List (ℕ × ℕ)). IsPermutation caps c.in_ok-caps.caps) c.as_slice-3.ensures c.in_ok-caps.ensures.same in
    let count : length leaves ≡ length net.ress * (c.args.parts - 1) = c.in_ok-leaves.ensures.count ∙ ap (λ n. n * (c.args.parts - 1)) c.len.ensures in
    record {
      sound = sound_as _ net.name _ _ _ _ _ _ _ _ (sym c.in_ok-name.ensures) nodes conns (λ i. c.in_ok-caps.caps) ress
          (cut_sound net c.args.parts leaves c.in_ok-caps.caps c.requires.some c.requires.size c.in_ok-leaves.ensures.few c.in_ok-leaves.ensures.free count same);
    }
