use Rattle.vg_split.proofs.StageNetLemmas.{all_rows}
use Rattle.vg_split.proofs.stage.make_parts.Goals as goal

pub returns-clause-parts : goal.returns-clause-parts
returns-clause-parts c = record {
  numbered = c.in_ok-push_inners.ensures.numbered;
  name_is = c.in_ok-push_inners.ensures.name;
  nodes_are =
      all_rows c.args.chars.now c.args.x.now c.args.stage c.push_ends.new.nodes c.push_inners.new.nodes c.in_ok-push_ends.ensures.nodes
      c.in_ok-push_inners.ensures.nodes;
  conns_are = c.in_ok-push_ends.ensures.conns;
  cap_nodes_are = c.in_ok-push_numbers.ensures;
  ress_are = c.in_ok-push_ress.ensures;
}
