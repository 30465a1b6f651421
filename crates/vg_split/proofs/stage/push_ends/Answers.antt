use Rattle.std.proofs.Common.{◌≡◌, ℕ, ◌+◌, ◌<◌, List, [], ◌∷◌, ◌++◌, length, map, set, slice_index, Vec, Global, sym, ap, ◌∙◌, subst, arith}
use Rattle.std.proofs.lemmas.List.{length-map, length-set, map-append}
use Rattle.spef_net.specs.declared.net.ParConn.{ParConn}
use Rattle.vg_split.specs.Splits.{forest, head, is_end}
use Rattle.vg_split.specs.Steps.{AreConns, AreNumbered, ends_to, row_in}
use Rattle.vg_split.specs.declared.scratch.Scratch.{Scratch}
use Rattle.vg_split.specs.Stages.{members}
use Rattle.spef_write.specs.Printed.{PrintedNode}
use Rattle.vg_split.proofs.ConnLemmas.{conns_more}
use Rattle.vg_split.proofs.MemberLemmas.{few_members, members_rise}
use Rattle.vg_split.proofs.NumberedLemmas.{before_differ, kept_few, kept_more, kept_same, numbered_more}
use Rattle.vg_split.proofs.stage.push_ends.Goals as goal
use Rattle.vg_split.proofs.stage.push_ends.Goals.{then-is_end+in_ok-join, else-is_end}

pub join-requires-clause-few : goal.join-requires-clause-few
join-requires-clause-few c =
    let x = c.args.x.now in
    let ws = members (forest x) (head x c.args.stage) in
    let low : c.node.node-index < length ws = subst (λ (l : List ℕ). c.node.node-index < length l) c.members-node-items.ensures.are c.node-test.true in
    omega (
      arith,
      ap length c.node.invariant.nodes_are,
      length-map (ends_to x c.args.stage c.node.node-index) (row_in c.args.chars.now x c.args.stage),
      kept_few (is_end x) ws c.node.node-index (omega (arith, low)),
      low,
      few_members x c.args.stage,
      x.problem.within.nodes,
    )

pub node-preserved : goal.node-preserved
node-preserved c =
    let x = c.args.x.now in
    let k = c.args.stage in
    let i = c.node.node-index in
    let ws = members (forest x) (head x k) in
    let w = slice_index c.members-node-items.result.now i in
    let was = c.node.invariant in
    let low : i < length ws = subst (λ (l : List ℕ). i < length l) c.members-node-items.ensures.are c.node-test.true in
    let at : slice_index ws i ≡ w = ap (λ (l : List ℕ). slice_index l i) (sym c.members-node-items.ensures.are) in
    let node = row_in c.args.chars.now x k in
    elim c.if-is_end.branch [
      | then-is_end+in_ok-join t ↦
          let more : ends_to x k (i + 1) ≡ ends_to x k i ++ w ∷ [] = kept_more (is_end x) ws i w low at (sym c.is_end.ensures ∙ t.if-is_end.true) in
          let last : length c.node.nodes ≡ length (ends_to x k i) = ap length was.nodes_are ∙ length-map (ends_to x k i) node in
          let places : c.if-is_end.scratch.places.items ≡ set c.node.scratch.places.items w (length c.node.nodes)
          = ap (λ (s : Scratch). s.places.items) t.scratch-is ∙ t.join.ensures.places in
          record {
            many = ap length places ∙ length-set c.node.scratch.places.items w (length c.node.nodes) ∙ was.many;
            nodes_are =
                t.nodes-is ∙ t.in_ok-join.ensures.nodes ∙ ap (λ (l : List PrintedNode). l ++ node w ∷ []) was.nodes_are
                ∙ sym (map-append node (ends_to x k i) (w ∷ [])) ∙ ap (map node) (sym more);
            conns_are = subst (λ (l : List ℕ). AreConns x k l c.if-is_end.conns.items) (sym more)
                (conns_more x k (ends_to x k i) c.node.conns.items c.if-is_end.conns.items w (length c.node.nodes) was.conns_are last
                (ap (λ (v : Vec ParConn Global). v.items) t.conns-is ∙ t.in_ok-join.ensures.conns));
            numbered = subst (λ (l : List ℕ). AreNumbered c.if-is_end.scratch.places.items l) (sym more)
                (subst (λ (l : List ℕ). AreNumbered l (ends_to x k i ++ w ∷ [])) (sym places)
                (numbered_more c.node.scratch.places.items (ends_to x k i) w (length c.node.nodes) was.numbered
                (before_differ (is_end x) ws i w (members_rise x k) low at)
                (omega (arith, c.members-node-items.ensures.within i c.node-test.true, was.many)) last));
          }
      | else-is_end t ↦
          let same : ends_to x k (i + 1) ≡ ends_to x k i = kept_same (is_end x) ws i w low at (sym c.is_end.ensures ∙ t.if-is_end.false) in
          record {
            many = ap (λ (s : Scratch). length s.places.items) t.scratch-is ∙ was.many;
            nodes_are = t.nodes-is ∙ was.nodes_are ∙ ap (map node) (sym same);
            conns_are =
                subst (λ (l : List ℕ). AreConns x k l c.if-is_end.conns.items) (sym same)
                (subst (λ (v : Vec ParConn Global). AreConns x k (ends_to x k i) v.items) (sym t.conns-is) was.conns_are);
            numbered =
                subst (λ (l : List ℕ). AreNumbered c.if-is_end.scratch.places.items l) (sym same)
                (subst (λ (s : Scratch). AreNumbered s.places.items (ends_to x k i)) (sym t.scratch-is) was.numbered);
          }
    ]
