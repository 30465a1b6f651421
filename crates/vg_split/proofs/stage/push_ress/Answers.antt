use Rattle.std.proofs.Common.{◌≡◌, ℕ, ◌+◌, ◌<◌, List, [], ◌∷◌, ◌++◌, drop, take, length, map, slice_index, sym, ap, ◌∙◌, subst, arith}
use Rattle.std.proofs.lemmas.List.{get_or-drop, length-drop, map-append, take_more}
use Rattle.elmore.specs.Trees.{parent_of}
use Rattle.vg_split.specs.Splits.{forest, head, res_in}
use Rattle.vg_split.specs.Stages.{members}
use Rattle.vg_split.proofs.PlaceLemmas.{member_at, parent_member, placed}
use Rattle.vg_split.proofs.stage.push_ress.Goals as goal

pub node-preserved : goal.node-preserved
node-preserved c =
    let x = c.args.x.now in
    let k = c.args.stage in
    let i = c.node.node-index in
    let places = c.args.places.now in
    let ws = members (forest x) (head x k) in
    let below = drop 1 ws in
    let w = slice_index c.below-node-items.result.now i in
    let row = res_in x k in
    let low : i < length below = subst (λ (l : List ℕ). i < length l) c.below-node-items.ensures.are c.node-test.true in
    let at : slice_index below i ≡ w = ap (λ (l : List ℕ). slice_index l i) (sym c.below-node-items.ensures.are) in
    let i_low : 1 + i < length ws = omega (arith, low, length-drop 1 ws) in
    let i_at : slice_index ws (1 + i) ≡ w = sym (get_or-drop 1 ws i 0) ∙ at in
    let above_place = ap (slice_index places) c.above-above.ensures.parent ∙ placed x k (parent_of x.problem.tree.nodes w) places c.requires.numbered
    (parent_member x k (1 + i) w c.requires.stage (omega arith) i_low i_at) in
    let place = placed x k w places c.requires.numbered (member_at x k (1 + i) w i_low i_at) in
    let r = c.above-above.ensures.r in
    let pushed : (slice_index places c.above-above.result.0, slice_index places w, c.above-above.result.1) ≡ row w = λ j. (above_place j, place j, r j) in
    let more : take (i + 1) below ≡ take i below ++ w ∷ [] = take_more below i 0 low ∙ ap (λ u. take i below ++ u ∷ []) at in
    c.in_ok-push.ensures.items
    ∙ ap (λ (t : ℕ × ℕ × ℕ). c.node.ress.items ++ t ∷ []) pushed
    ∙ ap (λ (rows : List (ℕ × ℕ × ℕ)). rows ++ row w ∷ []) c.node.invariant
    ∙ sym (map-append row (take i below) (w ∷ [])) ∙ ap (map row) (sym more)
