use Rattle.std.proofs.Common.{◌≡◌, ◌==◌, ℕ, ◌+◌, ◌<◌, List, length, find, slice_index, Some, sym, ap, ◌∙◌, arith}
use Rattle.std.specs.List.{slice_get}
use Rattle.std.proofs.lemmas.List.{take_all}
use Rattle.std.proofs.lemmas.List.FromFn.{get_or-range_with_len, length-range_with_len}
use Rattle.std.proofs.lemmas.Option.{slice_get-get_or}
use Rattle.elmore.specs.Path.{nodes}
use Rattle.vg_design.specs.Designs.{NO_NODE, is_port, name_of}
use Rattle.vg_change.proofs.FindLemmas.{found_next, none_more}
use Rattle.vg_change.proofs.keeper.port_node.Goals as goal

-- the node of a number
at_number : (n w : ℕ) → w < n → slice_get (nodes n) w ≡ Some w
at_number n w low =
    slice_get-get_or (nodes n) w 0 (omega (arith, low, length-range_with_len 0 n)) ∙ ap Some (get_or-range_with_len 0 n w 0 low ∙ (let e : 0 + w ≡ w = omega arith in e))

pub returns-then-is_empty : goal.returns-then-is_empty
returns-then-is_empty c =
    sym (found_next (λ w. is_port (name_of c.args.par.now (slice_index c.args.order.now w))) (nodes (length c.args.order.now)) c.node.w c.node.w
    (at_number (length c.args.order.now) c.node.w c.node-test.true)
    (ap (λ (l : List ℕ). length l == 0) (sym (c.leaf.ensures NO_NODE)) ∙ sym c.is_empty.ensures ∙ c.if-is_empty.true) c.node.invariant)

pub node-preserved : goal.node-preserved
node-preserved c =
    none_more (λ w. is_port (name_of c.args.par.now (slice_index c.args.order.now w))) (nodes (length c.args.order.now)) c.node.w c.node.w
    (at_number (length c.args.order.now) c.node.w c.node-test.true)
    (ap (λ (l : List ℕ). length l == 0) (sym (c.leaf.ensures NO_NODE)) ∙ sym c.is_empty.ensures ∙ c.if-is_empty.false) c.node.invariant

pub returns : goal.returns
returns c =
    sym (ap (find (λ w. is_port (name_of c.args.par.now (slice_index c.args.order.now w))))
    (sym (take_all c.node.w (nodes (length c.args.order.now)) (let high = c.node-test.false in omega (arith, high, length-range_with_len 0 (length c.args.order.now))))) ∙ c.node.invariant)
