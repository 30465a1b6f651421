use Rattle.std.proofs.Common.{Some, arith, sym, ◌∙◌, ap}
use Rattle.std.proofs.lemmas.Bool.Decides.{nat_tests}
use Rattle.std.proofs.lemmas.Option.{slice_get_within}
use Rattle.vg_scan.specs.Nodes.{node_value}
use Rattle.vg_cons.specs.Named.{named}
use Rattle.vg_cons.proofs.RowLemmas.{no_value, none_at_all, value_at}
use Rattle.vg_cons.proofs.tables.NodeRows.get.Goals as goal

pub returns-then-is_empty : goal.returns-then-is_empty
returns-then-is_empty g c =
    sym (none_at_all c.self.inside.nodes c.self.inside.values.items (named c.args.node) (grind (arith, nat_tests, c.is_empty.ensures, c.if-is_empty.true)))
    ∙ ap (λ rows. node_value rows (named c.args.node)) c.self.view_is

pub returns-in-None : goal.returns-in-None
returns-in-None g c =
    sym (no_value c.self.inside.nodes c.self.inside.values.items (named c.args.node) c.self.invariant.1 c.in-None.ensures.absent)
    ∙ ap (λ rows. node_value rows (named c.args.node)) c.self.view_is

pub index-requires : goal.index-requires
index-requires g c = omega (arith, slice_get_within c.self.inside.nodes c.in-Some.id (named c.args.node) c.in-Some.ensures.found, c.self.invariant.1)

pub returns-in-Some : goal.returns-in-Some
returns-in-Some g c =
    ap Some c.index.ensures
    ∙ sym (value_at c.self.inside.nodes c.self.inside.values.items c.in-Some.id (named c.args.node) c.index.result.now c.self.invariant.0 c.self.invariant.1 c.in-Some.ensures.found)
    ∙ ap (λ rows. node_value rows (named c.args.node)) c.self.view_is
