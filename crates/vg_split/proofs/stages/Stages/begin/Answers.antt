use Rattle.std.proofs.Common.{◌≡◌, ℕ, ◌+◌, List, [], ◌∷◌, ◌++◌, length, map, Vec, Global, ap, ◌∙◌, arith}
use Rattle.std.proofs.lemmas.List.{length_push, map-append}
use Rattle.vg_split.specs.Stages.{heads_to}
use Rattle.vg_split.proofs.StageLists.{begun_nodes, begun_each, few_heads, as_many}
use Rattle.vg_split.proofs.stages.Stages.begin.Goals as goal

pub overflow_cast-number : goal.overflow_cast-number
overflow_cast-number c =
    let (f, before) = c.requires.stages in
    omega (arith, c.requires.node, c.len-number.ensures, c.args.self.now.nodes.ok.0, as_many f c.args.node (c.args.node + 1) c.args.self.now before, few_heads f c.args.node)

pub returns : goal.returns
returns c = λ f falls head before.
    let old = c.args.self.now.nodes.items in
    let number_is : c.len-number.result ≡ length (heads_to f c.args.node)
    = omega (arith, c.len-number.ensures, c.args.self.now.nodes.ok.0, as_many f c.args.node (c.args.node + 1) c.args.self.now before) in
    record {
      nodes_are =
          begun_nodes f falls c.args.node (map (λ (v : Vec ℕ Global). v.items) old) (map (λ (v : Vec ℕ Global). v.items) c.push.new.self.items) head before.nodes_are
          (ap (map (λ (v : Vec ℕ Global). v.items)) c.in_ok-push.ensures.items ∙ map-append (λ (v : Vec ℕ Global). v.items) old (c.in_ok-begun.field-0 ∷ [])
          ∙ ap (λ (l : List ℕ). map (λ (v : Vec ℕ Global). v.items) old ++ l ∷ []) c.in_ok-begun.ensures);
      one_each = ap (λ (l : List ℕ). length l) c.in_ok-push-2.ensures.items ∙ length_push c.args.self.now.stage_of.items c.len-number.result ∙ ap (λ m. m + 1) before.one_each;
      each =
          begun_each f falls c.args.node c.len-number.result c.args.self.now.stage_of.items c.push-2.new.self.items head before.one_each before.each number_is
          c.in_ok-push-2.ensures.items;
    }
