use Rattle.std.proofs.Common.{◌≡◌, ◌≢◌, ℕ, ◌+◌, ◌<◌, not, List, [], ◌∷◌, ◌++◌, length, map, set, slice_index, Vec, Global, sym, ap, ◌∙◌, subst, arith, append_assoc}
use Rattle.std.proofs.lemmas.List.{length-append, length-map, length-set, map-append}
use Rattle.std.proofs.lemmas.List.Elements.{All-append}
use Rattle.vg_scan.specs.Printed.{IsPrintable}
use Rattle.vg_split.specs.Conditions.{IsSplit}
use Rattle.vg_split.specs.Splits.{forest, head, is_end, ends_in, net_of}
use Rattle.vg_split.specs.Steps.{AreNumbered, inner_row, inner_to}
use Rattle.vg_split.specs.declared.scratch.Scratch.{Scratch}
use Rattle.vg_split.specs.Stages.{members}
use Rattle.spef_write.specs.Printed.{PrintedNode}
use Rattle.vg_split.proofs.MemberLemmas.{few_members, members_rise}
use Rattle.vg_split.proofs.NumberedLemmas.{before_differ, filter_few, kept_few, kept_more, kept_same, numbered_more, passing_differ}
use Rattle.vg_split.proofs.SoundLemmas.{named_net}
use Rattle.vg_split.proofs.stage.push_inners.Goals as goal
use Rattle.vg_split.proofs.stage.push_inners.Goals.{then-not-is_end+in_ok-push_inner, else-not-is_end}

pub push_inner-requires-clause-few : goal.push_inner-requires-clause-few
push_inner-requires-clause-few c =
    let x = c.args.x.now in
    let k = c.args.stage in
    let i = c.node.node-index in
    let ws = members (forest x) (head x k) in
    let node = inner_row c.args.chars.now x (net_of x k) in
    let low : i < length ws = subst (λ (l : List ℕ). i < length l) c.members-node-items.ensures.are c.node-test.true in
    omega (
      arith,
      ap length c.node.invariant.nodes_are,
      length-append c.args.nodes.now (map node (inner_to x k i)),
      length-map (inner_to x k i) node,
      kept_few (λ w. not (is_end x w)) ws i (omega (arith, low)),
      low,
      c.requires.ends,
      filter_few (is_end x) ws,
      few_members x k,
      x.problem.within.nodes,
    )

pub push_inner-requires-clause-name : goal.push_inner-requires-clause-name
push_inner-requires-clause-name c =
    let is = subst IsSplit c.x.view_is c.x.invariant.0 in
    subst IsPrintable (sym c.node.invariant.name_is) (named_net c.args.x.now is c.args.stage c.requires.stage)

pub node-preserved : goal.node-preserved
node-preserved c =
    let x = c.args.x.now in
    let k = c.args.stage in
    let i = c.node.node-index in
    let ws = members (forest x) (head x k) in
    let w = slice_index c.members-node-items.result.now i in
    let was = c.node.invariant in
    let low : i < length ws = subst (λ (l : List ℕ). i < length l) c.members-node-items.ensures.are c.node-test.true in
    let at : slice_index ws i ≡ w = ap (λ (l : List ℕ). slice_index l i) (sym c.members-node-items.ensures.are) in
    let node = inner_row c.args.chars.now x (net_of x k) in
    let ends = ends_in x k in
    elim c.if-not-is_end.branch [
      | then-not-is_end+in_ok-push_inner t ↦
          let none = sym c.is_end.ensures ∙ t.if-not-is_end.true in
          let more : inner_to x k (i + 1) ≡ inner_to x k i ++ w ∷ [] = kept_more (λ v. not (is_end x v)) ws i w low at (ap not none) in
          let last : length c.node.nodes ≡ length (ends ++ inner_to x k i)
          = omega (
            arith,
            ap length was.nodes_are,
            length-append c.args.nodes.now (map node (inner_to x k i)),
            length-map (inner_to x k i) node,
            c.requires.ends,
            length-append ends (inner_to x k i),
          ) in
          let places : c.if-not-is_end.scratch.places.items ≡ set c.node.scratch.places.items w (length c.node.nodes)
          = ap (λ (s : Scratch). s.places.items) t.scratch-is ∙ t.push_inner.ensures.places in
          record {
            many = ap length places ∙ length-set c.node.scratch.places.items w (length c.node.nodes) ∙ was.many;
            name_is = ap (λ (s : Scratch). s.name.items) t.scratch-is ∙ ap (λ (v : Vec ℕ Global). v.items) t.push_inner.ensures.name ∙ was.name_is;
            nodes_are =
                t.nodes-is ∙ t.in_ok-push_inner.ensures.nodes ∙ ap (λ (l : List ℕ). c.node.nodes ++ inner_row c.args.chars.now x l w ∷ []) was.name_is
                ∙ ap (λ (l : List PrintedNode). l ++ node w ∷ []) was.nodes_are
                ∙ append_assoc c.args.nodes.now (map node (inner_to x k i)) (node w ∷ [])
                ∙ ap (λ (l : List PrintedNode). c.args.nodes.now ++ l) (sym (map-append node (inner_to x k i) (w ∷ [])) ∙ ap (map node) (sym more));
            numbered =
                subst (λ (l : List ℕ). AreNumbered c.if-not-is_end.scratch.places.items l)
                (append_assoc ends (inner_to x k i) (w ∷ []) ∙ ap (λ (l : List ℕ). ends ++ l) (sym more))
                (subst (λ (l : List ℕ). AreNumbered l ((ends ++ inner_to x k i) ++ w ∷ [])) (sym places)
                (numbered_more c.node.scratch.places.items (ends ++ inner_to x k i) w (length c.node.nodes) was.numbered
                (All-append (λ u. u ≢ w) ends (inner_to x k i) (passing_differ (is_end x) ws w none)
                (before_differ (λ v. not (is_end x v)) ws i w (members_rise x k) low at))
                (omega (arith, c.members-node-items.ensures.within i c.node-test.true, was.many)) last));
          }
      | else-not-is_end t ↦
          let same : inner_to x k (i + 1) ≡ inner_to x k i
          = kept_same (λ v. not (is_end x v)) ws i w low at (ap not (sym c.is_end.ensures ∙ t.if-not-is_end.false)) in
          record {
            many = ap (λ (s : Scratch). length s.places.items) t.scratch-is ∙ was.many;
            name_is = ap (λ (s : Scratch). s.name.items) t.scratch-is ∙ was.name_is;
            nodes_are = t.nodes-is ∙ was.nodes_are ∙ ap (λ (l : List ℕ). c.args.nodes.now ++ map node l) (sym same);
            numbered =
                subst (λ (l : List ℕ). AreNumbered c.if-not-is_end.scratch.places.items (ends ++ l)) (sym same)
                (subst (λ (s : Scratch). AreNumbered s.places.items (ends ++ inner_to x k i)) (sym t.scratch-is) was.numbered);
          }
    ]
