use Rattle.std.proofs.Common.{◌≡◌, ℕ, ◌+◌, ◌<◌, List, [], ◌∷◌, ◌++◌, take, length, map, slice_index, sym, ap, ◌∙◌, subst}
use Rattle.std.proofs.lemmas.List.{map-append, take_more}
use Rattle.vg_split.specs.Splits.{forest, head, place_in}
use Rattle.vg_split.specs.Stages.{members}
use Rattle.vg_split.proofs.PlaceLemmas.{member_at, placed}
use Rattle.vg_split.proofs.stage.push_numbers.Goals as goal

pub node-preserved : goal.node-preserved
node-preserved c =
    let x = c.args.x.now in
    let k = c.args.stage in
    let i = c.node.node-index in
    let places = c.args.places.now in
    let ws = members (forest x) (head x k) in
    let w = slice_index c.members-node-items.result.now i in
    let low : i < length ws = subst (λ (l : List ℕ). i < length l) c.members-node-items.ensures.are c.node-test.true in
    let at : slice_index ws i ≡ w = ap (λ (l : List ℕ). slice_index l i) (sym c.members-node-items.ensures.are) in
    let more : take (i + 1) ws ≡ take i ws ++ w ∷ [] = take_more ws i 0 low ∙ ap (λ u. take i ws ++ u ∷ []) at in
    c.in_ok-push.ensures.items
    ∙ ap (λ n. c.node.numbers.items ++ n ∷ []) (placed x k w places c.requires.numbered (member_at x k i w low at))
    ∙ ap (λ (ns : List ℕ). ns ++ place_in x k w ∷ []) c.node.invariant
    ∙ sym (map-append (place_in x k) (take i ws) (w ∷ [])) ∙ ap (map (place_in x k)) (sym more)
