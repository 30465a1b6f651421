-- What is known of each net into which cells are put.
use Rattle.std.proofs.Common.{◌≡◌, ℕ, ◌+◌, ◌≤◌, List, length, take, sym, ap, ◌∙◌, subst, arith, refl}
use Rattle.std.specs.List.{flat_map}
use Rattle.std.proofs.lemmas.List.{length-take-le}
use Rattle.ver_patch.specs.NewCells.{NewCell}
use Rattle.ver_patch_text_laws.proofs.LawLemmas.{each_of}
use Rattle.ver_patch_laws.proofs.RelinkedLemmas.{In, each_in}
use Rattle.vg_change.specs.Changes.{Changes, IsChange, nothing}
use Rattle.vg_change.specs.Placed.{PlacedNet, keeper_of, split_of}
use Rattle.vg_change.specs.Steps.{placed_by, placed_net}
use Rattle.vg_change.proofs.PosedLemmas.{is_split, problem_size}
use Rattle.change_spef_laws.specs.Nets.{IsPlacedNet}
use Rattle.vg_design.specs.Designs.{Design}
use Rattle.vg_split.specs.Conditions.{IsSplit}
use Rattle.vg_split.specs.Splits.{Split}
use Rattle.change_netlist_laws.specs.Put.{IsWrittenAnew}
use Rattle.change_netlist_laws.proofs.PutLemmas.{Placing, Come, cells_by, come, count, placing, placings}
use Rattle.change_netlist_laws.proofs.StageLemmas.{keeper_low}

-- a net of the design, and how it is split
pub record IsOwn (d : Design) (prefix : List ℕ) (all : ℕ) (p : PlacedNet) (x : Split) : Type 0 where
  pub net : IsPlacedNet d p
  pub split : IsSplit x
  pub par : x.par ≡ p.net.par
  pub placed_is : p ≡ placed_by p.net x
  pub keeper : x.keeper ≡ keeper_of p
  pub prefix_is : x.prefix ≡ prefix
  pub repeaters : x.repeaters ≡ d.library.repeaters
  pub few : x.first + count x ≤ all

module _ (verilog : List ℕ) (d : Design) (prefix : List ℕ) (nets : List PlacedNet) (c : Changes) (new : List ℕ) (w : IsWrittenAnew verilog d prefix nets c new) where
  pub all_come : Come d prefix (nothing d prefix) nets c
  all_come = come d prefix nets (nothing d prefix) c refl refl w.put

  -- the change with fewer cells
  cut : ℕ → Changes
  cut n = record { design = d; prefix = prefix; sections = c.sections; rewires = c.rewires; cells = take n c.cells; wires = c.wires }

  cut_change : (n : ℕ) → IsChange (record { design = d; prefix = prefix; sections = c.sections; rewires = c.rewires; cells = take n c.cells; wires = c.wires })
  cut_change n =
      subst (λ (e : Design). IsChange (record { design = e; prefix = prefix; sections = c.sections; rewires = c.rewires; cells = take n c.cells; wires = c.wires })) all_come.design
      (subst (λ f. IsChange (record { design = c.design; prefix = f; sections = c.sections; rewires = c.rewires; cells = take n c.cells; wires = c.wires })) all_come.prefix_is
      (record { prefix = w.change.prefix; free = w.change.free; repeaters = w.change.repeaters; rise = w.change.rise; rewirable = w.change.rewirable }))

  own_of : (p : PlacedNet) (first : ℕ) → IsPlacedNet d p → first + count (split_of d prefix first p) ≤ length c.cells
      → IsOwn d prefix (length c.cells) p (split_of d prefix first p)
  own_of p first is few =
      let size : length (take first c.cells) ≡ first = length-take-le first c.cells (omega (arith, few)) in
      let lists = is.net.ready.a_tree.a_tree.lists in
      let tree = problem_size d is.name is.posed is.net in
      let whole = placed_net is.posed p.cells in
      let keeper = keeper_low whole (lists.count ∙ sym tree) in
      let made = is_split
      (record { design = d; prefix = prefix; sections = c.sections; rewires = c.rewires; cells = take first c.cells; wires = c.wires })
      (cut_change first) is.name is.posed is.net p.cells is.placement is.placed (omega (arith, w.few, size, few)) keeper in
      record {
        net = is;
        split = subst IsSplit (λ i. split_of d prefix (size i) (sym is.is i)) made;
        par = refl;
        placed_is = refl;
        keeper = refl;
        prefix_is = refl;
        repeaters = refl;
        few = few;
      }

  -- each of them
  pub own : (s : Placing) → In s (placings d prefix 0 nets) → IsOwn d prefix (length c.cells) s.p s.x
  own s i =
      let r = placing d prefix nets 0 s i in
      let is = each_in (IsPlacedNet d) nets s.p (each_of (IsPlacedNet d) nets w.nets_are) r.net in
      let total : 0 + length (flat_map (cells_by d prefix) (placings d prefix 0 nets)) ≡ length c.cells
      = omega (arith, ap (λ (l : List NewCell). length l) all_come.cells) in
      subst (IsOwn d prefix (length c.cells) s.p) (sym r.is)
      (own_of s.p s.x.first is (omega (arith, r.to, total, ap (λ (y : Split). count y) r.is)))
