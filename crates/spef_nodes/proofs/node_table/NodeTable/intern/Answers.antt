use Rattle.std.proofs.Common.{◌≡◌, ℕ, List, [], ◌∷◌, ◌++◌, length, sym, ap, ◌∙◌, Some, Ok, Err, Result}
use Rattle.std.specs.Prelude.{IfOk, OnOk}
use Rattle.std.specs.List.{slice_get}
use Rattle.vg_scan.specs.declared.name.NodeName.{NodeName}
use Rattle.vg_num.specs.declared.memory.Memory.{Memory}
use Rattle.spef_nodes.proofs.NodeTableLemmas.{with_there, slice_get_last, same_refl}
use Rattle.spef_nodes.proofs.node_table.NodeTable.intern.Goals as goal

pub returns-in-Some-clause-nodes : goal.returns-in-Some-clause-nodes
returns-in-Some-clause-nodes c = with_there c.args.self.now c.in-Some.id _ same_refl (ap (λ ns. slice_get ns c.in-Some.id) (sym c.self.view_is) ∙ c.in-Some.ensures.found)

number_is : (r : Result ℕ Memory) (old new : List NodeName) (node : NodeName) → IfOk r (λ id. id ≡ length old) → OnOk r (new ≡ old ++ node ∷ []) → IfOk r (λ id. slice_get new id ≡ Some node)
number_is (Ok id) old new node e f = ap (λ ns. slice_get ns id) f ∙ slice_get_last old node id e
number_is (Err m) old new node e f = tt

pub returns-in-None-clause-number : goal.returns-in-None-clause-number
returns-in-None-clause-number c = number_is c.add.result _ _ _ c.add.ensures.number c.add.ensures.nodes
