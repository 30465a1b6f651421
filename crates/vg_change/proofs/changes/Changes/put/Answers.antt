use Rattle.std.proofs.Common.{◌≡◌, ℕ, ◌<◌, ◌^◌, List, length, get_or, slice_index, sym, ap, ◌∙◌, subst, arith}
use Rattle.std.proofs.lemmas.List.{get_or_default}
use Rattle.elmore.specs.Legal.{IsPlaced}
use Rattle.elmore.specs.Placements.{IsPlacement}
use Rattle.spef_net.specs.declared.net.ParNet.{ParNet}
use Rattle.vg_split.specs.Conditions.{IsSplit}
use Rattle.spef_write.specs.Charges.{AreSums}
use Rattle.spef_write.specs.Sections.{total}
use Rattle.vg_change.specs.Changes.{Changes as ChangesSpec, IsChange, IsSectionNamed}
use Rattle.vg_change.specs.Placed.{keeper_of}
use Rattle.vg_change.proofs.PosedLemmas.{is_split, keeper_found, small_charge}
use Rattle.vg_change.proofs.changes.Changes.put.Goals as goal

pub sums-requires-clause-few : goal.sums-requires-clause-few
sums-requires-clause-few c =
    omega (
      arith,
      ap total c.as_slice.ensures,
      ap (λ (p : ParNet). total p.caps) c.par_of-par.ensures,
      small_charge c.args.self.design c.requires.posed.0 c.args.net.now c.requires.posed.1,
    )

pub port_or_root-port-requires-clause-within : goal.port_or_root-port-requires-clause-within
port_or_root-port-requires-clause-within c = λ k d low.
    let lists = c.requires.posed.1.ready.a_tree.a_tree.lists in
    let order_is = c.as_slice-order.ensures in
    let here : get_or c.as_slice-order.result.now k d ≡ slice_index c.args.net.now.ready.order k
    = get_or_default c.as_slice-order.result.now k d 0 low ∙ ap (λ (l : List ℕ). slice_index l k) order_is in
    omega (
      arith,
      here,
      lists.within k (omega (arith, low, ap (λ (l : List ℕ). length l) order_is, lists.count)),
      ap (λ (p : ParNet). length p.nodes) c.par_of-par.ensures,
    )

pub invariant_of-split : goal.invariant_of-split
invariant_of-split c =
    let self = c.args.self in
    let posed = c.args.net.now in
    let view = c.self.view_is in
    let cs = c.as_slice-cells.result.now in
    let par_is = c.par_of-par.ensures in
    let order_is = c.as_slice-order.ensures in
    let reps_is : c.repeaters.result.now ≡ self.design.library.repeaters = c.repeaters.ensures ∙ ap (λ (s : ChangesSpec). s.design.library.repeaters) view in
    let prefix_is = ap (λ (s : ChangesSpec). s.prefix) view in
    let first_is : c.len-2.result ≡ length self.cells = omega (arith, c.len-2.ensures.is, ap (λ (s : ChangesSpec). length s.cells) view) in
    let keeper = keeper_found self.design c.requires.posed.0 posed c.requires.posed.1 cs c.par_of-par.result.now c.as_slice-order.result.now c.in_ok-stages.stages
    c.port_or_root-port.result c.index.result.now par_is order_is c.in_ok-stages.ensures.stages c.port_or_root-port.ensures.is c.port_or_root-port.ensures.node
    c.index.ensures in
    let was : IsChange self = subst IsChange view c.self.invariant in
    let placement = subst (IsPlacement posed.problem) (sym c.as_slice-cells.ensures) c.requires.placement in
    let placed = subst (IsPlaced posed.problem) (sym c.as_slice-cells.ensures) c.requires.placed in
    let few : length self.cells < 2 ^ 63 = omega (arith, first_is, c.len-2.ensures.few) in
    let own = is_split self was c.requires.posed.0 posed c.requires.posed.1 cs placement placed few keeper.1 in
    let split : IsSplit _ = subst IsSplit
    (λ k. record {
      par = sym par_is k;
      order = sym order_is k;
      problem = posed.problem;
      cells = cs;
      repeaters = sym reps_is k;
      prefix = sym prefix_is k;
      first = sym first_is k;
      keeper = sym keeper.0 k;
    }) own in
    let sums = c.in_ok-sums.ensures in (
      split,
      c.in_ok-stages.ensures.stages,
      subst (AreSums (length c.par_of-par.result.now.nodes) c.par_of-par.result.now.caps) (sym c.deref.ensures.value)
          (subst (λ (caps : List (ℕ × ℕ)). AreSums (length c.par_of-par.result.now.nodes) caps c.in_ok-sums.sums.items) c.as_slice.ensures
          (subst (λ (n : ℕ). AreSums n c.as_slice.result.now c.in_ok-sums.sums.items) c.len.ensures sums)),
    )

pub put_split-requires-clause-split : goal.put_split-requires-clause-split
put_split-requires-clause-split c =
    let self = c.args.self in
    let posed = c.args.net.now in
    let view = c.self.view_is in
    let cs = c.as_slice-cells.result.now in
    let par_is = c.par_of-par.ensures in
    let order_is = c.as_slice-order.ensures in
    let reps_is : c.repeaters.result.now ≡ self.design.library.repeaters = c.repeaters.ensures ∙ ap (λ (s : ChangesSpec). s.design.library.repeaters) view in
    let prefix_is = ap (λ (s : ChangesSpec). s.prefix) view in
    let first_is : c.len-2.result ≡ length self.cells = omega (arith, c.len-2.ensures.is, ap (λ (s : ChangesSpec). length s.cells) view) in
    let keeper = keeper_found self.design c.requires.posed.0 posed c.requires.posed.1 cs c.par_of-par.result.now c.as_slice-order.result.now c.in_ok-stages.stages
    c.port_or_root-port.result c.index.result.now par_is order_is c.in_ok-stages.ensures.stages c.port_or_root-port.ensures.is c.port_or_root-port.ensures.node
    c.index.ensures in
    record {
      par = par_is;
      is = λ k. record {
        par = par_is k;
        order = c.as_slice-order.result.now;
        problem = posed.problem;
        cells = cs;
        repeaters = reps_is k;
        prefix = prefix_is k;
        first = first_is k;
        keeper = (keeper.0 ∙ ap (λ (order : List ℕ). keeper_of (record { net = posed.ready.pinned.net; order = order; problem = posed.problem; cells = cs })) (sym order_is)) k;
      };
    }

pub put_split-requires-clause-behind : goal.put_split-requires-clause-behind
put_split-requires-clause-behind c = λ index section named.
    c.requires.behind index section (subst (λ (m : List ℕ). IsSectionNamed c.args.self.design.spef m index section) (ap (λ (p : ParNet). p.name) c.par_of-par.ensures) named)
