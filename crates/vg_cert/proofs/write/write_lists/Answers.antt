use Rattle.std.proofs.Common.{◌++◌, ◌∙◌, ap, arith, false, flat_map, get_or, length, map, sym, []}
use Rattle.std.proofs.lemmas.Grind.{common_steps}
use Rattle.vg_cert.specs.Denoted.{both}
use Rattle.vg_cert.specs.Written.{line_text, node_lines, text_in}
use Rattle.vg_cert.proofs.WriteLemmas.{both_at, left_next, left_none, turn_more, turns_done}
use Rattle.vg_cert.proofs.write.write_lists.Goals as goal

pub write_live-requires : goal.write_live-requires
write_live-requires c =
    let next = left_next c.args.lists.items c.node.v c.in-Some.own c.next.new.self.rest.items (sym c.node.invariant.left ∙ c.in-Some.ensures.steps.0) in
    omega (arith, next.0, c.requires.each, c.requires.nodes)

pub overflow_add-v : goal.overflow_add-v
overflow_add-v c =
    let next = left_next c.args.lists.items c.node.v c.in-Some.own c.next.new.self.rest.items (sym c.node.invariant.left ∙ c.in-Some.ensures.steps.0) in
    omega (arith, next.0)

pub node-preserved : goal.node-preserved
node-preserved c =
    let lists = c.args.lists.items in
    let next = left_next lists c.node.v c.in-Some.own c.next.new.self.rest.items (sym c.node.invariant.left ∙ c.in-Some.ensures.steps.0) in
    record {
      left = next.2;
      text =
          turn_more (λ v. flat_map line_text (node_lines c.args.names.now v (get_or c.args.live.now v false) (get_or (map both lists) v ([], [])))) (length c.args.live.now) c.node.v (text_in c.args.to.now)
          (text_in c.node.to) (text_in c.write_live.new.to) (omega (arith, next.0, c.requires.each)) c.node.invariant.text
          (c.in_ok-write_live.ensures ∙ ap (λ x. text_in c.node.to ++ flat_map line_text (node_lines c.args.names.now c.node.v (get_or c.args.live.now c.node.v false) x)) (ap both (sym next.1) ∙ both_at lists c.node.v c.in-Some.own next.0));
    }

pub returns : goal.returns
returns c =
    turns_done (λ v. flat_map line_text (node_lines c.args.names.now v (get_or c.args.live.now v false) (get_or (map both c.args.lists.items) v ([], [])))) (length c.args.live.now) c.node.v (text_in c.args.to.now) (text_in c.node.to)
    (omega (arith, left_none c.args.lists.items c.node.v (sym c.node.invariant.left ∙ let is = c.node.own-iterator.rest.ok in let none = c.in-None.ensures.steps.0 in grind (arith, common_steps)), c.requires.each)) c.node.invariant.text
