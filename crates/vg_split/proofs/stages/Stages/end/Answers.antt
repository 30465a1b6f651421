use Rattle.std.proofs.Common.{◌≡◌, ℕ, ◌<◌, ◌∷◌, ◌++◌, [], List, length, map, get_or, set, slice_index, Vec, Global, sym, ap, ◌∙◌, subst, arith}
use Rattle.std.proofs.lemmas.List.{get_or-map, get_or_default, map-set}
use Rattle.elmore.proofs.TreeLemmas.{tree_falls}
use Rattle.elmore.specs.Trees.{parent_of}
use Rattle.cut_laws.specs.CutNets.{forest_of}
use Rattle.vg_split.specs.Stages.{heads_to, IsInStage}
use Rattle.vg_split.proofs.StageLists.{as_many, put_last}
use Rattle.vg_split.proofs.stages.Stages.end.Goals as goal

pub returns-clause-above : goal.returns-clause-above
returns-clause-above c = λ cells before.
    let f = forest_of c.args.p.now cells in
    let p_low : parent_of c.args.p.now.tree.nodes c.args.node < c.args.node = omega (arith, c.parent_of.ensures.parent, c.parent_of.ensures.less) in
    let told : slice_index c.args.self.now.stage_of.items (parent_of c.args.p.now.tree.nodes c.args.node) ≡ c.index-above.result.now
    = ap (λ m. slice_index c.args.self.now.stage_of.items m) (sym c.parent_of.ensures.parent)
    ∙ get_or_default c.args.self.now.stage_of.items c.parent_of.result 0 c.index-above.result.now (omega (arith, c.parent_of.ensures.less, before.one_each))
    ∙ sym c.index-above.ensures in
    subst (λ m. IsInStage f (heads_to f c.args.node) m (parent_of c.args.p.now.tree.nodes c.args.node)) told
    (before.each (parent_of c.args.p.now.tree.nodes c.args.node) p_low)

pub returns-clause-stages : goal.returns-clause-stages
returns-clause-stages c = λ cells before.
    let f = forest_of c.args.p.now cells in
    let old = map (λ (v : Vec ℕ Global). v.items) c.args.self.now.nodes.items in
    let p_low : parent_of c.args.p.now.tree.nodes c.args.node < c.args.node = omega (arith, c.parent_of.ensures.parent, c.parent_of.ensures.less) in
    let told : slice_index c.args.self.now.stage_of.items (parent_of c.args.p.now.tree.nodes c.args.node) ≡ c.index-above.result.now
    = ap (λ m. slice_index c.args.self.now.stage_of.items m) (sym c.parent_of.ensures.parent)
    ∙ get_or_default c.args.self.now.stage_of.items c.parent_of.result 0 c.index-above.result.now (omega (arith, c.parent_of.ensures.less, before.one_each))
    ∙ sym c.index-above.ensures in
    let is : IsInStage f (heads_to f c.args.node) c.index-above.result.now (parent_of c.args.p.now.tree.nodes c.args.node)
    = subst (λ m. IsInStage f (heads_to f c.args.node) m (parent_of c.args.p.now.tree.nodes c.args.node)) told
    (before.each (parent_of c.args.p.now.tree.nodes c.args.node) p_low) in
    let low : c.index-above.result.now < length c.args.self.now.nodes.items = omega (arith, is.number_is, as_many f c.args.node c.args.node c.args.self.now before) in
    let was : c.index_mut.result.now.items ≡ get_or old c.index-above.result.now []
    = ap (λ (v : Vec ℕ Global). v.items) c.index_mut.ensures.value
    ∙ sym (get_or-map (λ (v : Vec ℕ Global). v.items) c.args.self.now.nodes.items c.index-above.result.now c.index_mut.result.now [] low) in
    record {
      nodes_are =
          put_last f (tree_falls c.args.p.now.tree.nodes c.args.p.now.tree.a_tree) c.args.node c.index-above.result.now old
          (map (λ (v : Vec ℕ Global). v.items) (set c.args.self.now.nodes.items c.index-above.result.now c.push.new.self)) p_low is before.nodes_are
          (map-set (λ (v : Vec ℕ Global). v.items) c.args.self.now.nodes.items c.index-above.result.now c.push.new.self
          ∙ ap (set old c.index-above.result.now) (c.in_ok-push.ensures.items ∙ ap (λ (l : List ℕ). l ++ c.args.node ∷ []) was));
      one_each = before.one_each;
      each = before.each;
    }
