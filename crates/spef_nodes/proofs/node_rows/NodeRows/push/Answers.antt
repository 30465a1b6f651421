use Rattle.std.proofs.Common.{◌≡◌, [], ◌∷◌, ◌++◌, None, Result, Ok, Err, length, refl, ap, ◌∙◌}
use Rattle.std.specs.Prelude.{OnErr}
use Rattle.std.proofs.lemmas.Result.{on_ok_weaker, on_err_weaker}
use Rattle.vg_scan.specs.Nodes.{same_node}
use Rattle.name_tables.proofs.FiledLemmas.{filed_chained, filed_count, filed_ordered, filed_same}
use Rattle.spef_nodes.specs.Members.{node_named}
use Rattle.spef_nodes.specs.NodeTables.{node_hash}
use Rattle.spef_nodes.specs.OrderedNodes.{node_row}
use Rattle.spef_nodes.proofs.NodeTableLemmas.{same_decides}
use Rattle.spef_nodes.proofs.node_rows.NodeRows.push.Goals as goal

on_err : {T E P : Type 0} (r : Result T E) → P → OnErr r P
on_err (Ok x) h = tt
on_err (Err e) h = h

pub returns-then-not-is_full-clause-last : goal.returns-then-not-is_full-clause-last
returns-then-not-is_full-clause-last c nodes h absent =
    let s = c.args.self.now in
    let node = node_named c.args.owner.now c.args.leaf.now in
    on_ok_weaker c.push.result
    (λ more. record {
      filed = filed_chained node_hash (node_row s.ordered) nodes node s.chains c.push.new.self c.args.hash h.filed absent c.requires.hash c.push.ensures.chains more;
      places = h.places;
    })
    c.push.ensures.last

pub returns-then-not-is_full-clause-unchanged : goal.returns-then-not-is_full-clause-unchanged
returns-then-not-is_full-clause-unchanged c nodes h =
    let s = c.args.self.now in
    let kept = node_row s.ordered in
    on_err_weaker c.push.result
    (λ same. record { filed = filed_same node_hash kept kept nodes s.chains c.push.new.self h.filed c.push.ensures.chains same (λ key. refl); places = h.places }) c.push.ensures.unchanged

pub returns-in_err-add-clause-unchanged : goal.returns-in_err-add-clause-unchanged
returns-in_err-add-clause-unchanged c nodes h =
    let s = c.args.self.now in
    on_err c.from_residual-in_err-add.result
    (record {
      filed = filed_same node_hash (node_row s.ordered) (node_row c.add.new.self) nodes s.chains c.reserve.new.self h.filed c.reserve.ensures.chains c.reserve.ensures.rows c.in_err-add.ensures.unchanged;
      places = c.add.ensures.places;
    })

pub returns-clause-last : goal.returns-clause-last
returns-clause-last c nodes h absent =
    let s = c.args.self.now in
    let kept = node_row s.ordered in
    let node = node_named c.args.owner.now c.args.leaf.now in
    let count : c.len-row.result ≡ length nodes = c.len-row.ensures ∙ filed_count node_hash kept nodes s.chains h.filed in
    on_ok_weaker c.push_outside.result
    (λ more. record {
      filed = filed_ordered node_hash kept (node_row c.add.new.self) (same_node node) nodes node c.len-row.result s.chains c.push_outside.new.self h.filed absent
          c.in_ok-add.ensures.added (same_decides node) count c.push_outside.ensures.chains (more ∙ ap (λ rows. rows ++ None ∷ []) c.reserve.ensures.rows);
      places = c.add.ensures.places;
    })
    c.push_outside.ensures.last
