use Rattle.memchr.specs.Find.{OccursAt}
use Rattle.std.specs.Prelude.{codes}
use Rattle.std.proofs.Common.{ℕ, List, subst, sym, ◌∙◌, ap, drop, arith}
use Rattle.std.specs.List.{fold}
use Rattle.spef_file.specs.IndexFiles.{file_of}
use Rattle.spef_nodes.specs.Members.{with_node}
use Rattle.spef_net.specs.Statements.{statements_from}
use Rattle.spef_net.specs.Rows.{connected_of}
use Rattle.spef_net.proofs.LineLemmas.{one_later, none_left}
use Rattle.spef_net.proofs.PassLemmas.{passes}
use Rattle.spef_net.proofs.connections.find_connections.Goals as goal

pub line-preserved : goal.line-preserved
line-preserved c = record {
  within = omega (arith, c.in-Some.ensures.place);
  rest =
      one_later (file_of c.args.index.now) c.line.part c.in_ok-opened.opened c.args.bytes.now c.line.at c.in-Some.next c.text_at-text.result.now _ c.line.nodes c.gather_line.new.nodes c.in_ok-opened.ensures.0 c.in_ok-opened.ensures.1 c.text_at-text.ensures c.in-Some.ensures.line
      ∙ c.line.invariant.rest;
}

pub returns-then-not-may_connect : goal.returns-then-not-may_connect
returns-then-not-may_connect c =
    passes (file_of c.args.index.now) c.in_ok-opened.opened (drop c.in-Some.next c.args.bytes.now) c.gather_line.new.nodes (sym c.is_conns-then-is_conns.ensures ∙ c.if-not-is_conns.true)
    (λ k at. c.may_connect.ensures c.if-not-may_connect.true k (subst (λ (t : List ℕ). OccursAt t (codes "*CONN") k) (sym c.text_from.ensures) at))
    ∙ one_later (file_of c.args.index.now) c.line.part c.in_ok-opened.opened c.args.bytes.now c.line.at c.in-Some.next c.text_at-text.result.now _ c.line.nodes c.gather_line.new.nodes c.in_ok-opened.ensures.0 c.in_ok-opened.ensures.1 c.text_at-text.ensures c.in-Some.ensures.line
    ∙ c.line.invariant.rest

pub returns : goal.returns
returns c =
    sym (ap (λ ls. fold with_node c.line.nodes (connected_of (statements_from (file_of c.args.index.now) c.line.part ls))) c.in_default.ensures.line
    ∙ ap (λ ss. fold with_node c.line.nodes (connected_of ss)) (none_left (file_of c.args.index.now) c.line.part)) ∙ c.line.invariant.rest
