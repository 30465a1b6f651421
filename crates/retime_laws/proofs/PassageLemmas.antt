-- The cells of stages are passed, and old pins are not.
use Rattle.std.proofs.Common.{◌≡◌, ◌≢◌, ℕ, ◌==◌, ◌&&◌, Bool, true, false, cond, List, [], ◌∷◌, ◌++◌, codes, refl, sym, ap, ◌∙◌, Option, Some, None, option_map, ◌<◌, length}
use Rattle.std.specs.Prelude.{option_and_then}
use Rattle.std.specs.Cmp.Lexicographic.{pointwise}
use Rattle.std.specs.Fmt.{decimal}
use Rattle.std.specs.List.{starts_with}
use Rattle.std.specs.Str.{bytes_eq}
use Rattle.std.proofs.Math.Seq.{take-append_seam}
use Rattle.std.proofs.lemmas.Bool.{eq-eqb, ne_eqb}
use Rattle.std.proofs.lemmas.List.{append_assoc}
use Rattle.std.proofs.lemmas.Slice.Eq.{bytes_eq-Decides}
use Rattle.lib_linear.specs.declared.repeater.Repeater.{Repeater}
use Rattle.spef_nodes.proofs.NodeListLemmas.{same_is}
use Rattle.ver_module.specs.Netlists.{Instance}
use Rattle.ver_net.specs.Connections.{pins_on}
use Rattle.ver_net.specs.declared.pin_ref.PinRef.{PinRef}
use Rattle.vg_design.proofs.ConnectedLemmas.{found_is}
use Rattle.vg_design.specs.Designs.{Design, Joined, instance_at, pin_name, pin_on}
use Rattle.vg_retime.specs.Passages.{Passage, from_at, into_at, only_if, passage_at, passage_of, put_in, repeater_of}
use Rattle.vg_scan.specs.Nodes.{same_node}
use Rattle.vg_scan.specs.declared.name.NodeName.{NodeName}
use Rattle.vg_split.specs.Conditions.{IsOld}
use Rattle.vg_split.specs.NewNames.{cell_name}
use Rattle.vg_split.specs.Splits.{Split, head, is_celled, name_in, net_of, number_of, old_node, pin_in, repeater_at, stage_from}
use Rattle.vg_split.specs.Splits.{forest}
use Rattle.vg_split.specs.Stages.{heads}
use Rattle.retime_laws.specs.NetlistStages.{HasCellPin}
use Rattle.retime_laws.specs.NewStages.{HasStages, IsPut, stage_net}
use Rattle.retime_laws.proofs.RepeaterLemmas.{found_repeater}

-- ---- old pins

module _ (d : Design) (prefix : List ℕ) (n : Joined) (at : NodeName) (old : IsOld prefix at.owner) where
  passage_old : passage_at d prefix n at ≡ None
  passage_old = by (pin_on d.netlist n.id at) refl
    where
      by : (o : Option PinRef) → pin_on d.netlist n.id at ≡ o → option_and_then (λ pin. passage_of d prefix (instance_at d.netlist pin)) o ≡ None
      by None e = refl
      by (Some pin) e =
          let found = found_is (λ pin. same_node at (pin_name d.netlist pin)) (pins_on d.netlist n.id) pin e in
          let name : at ≡ pin_name d.netlist pin = same_is at (pin_name d.netlist pin) found.passes in
          let begins : starts_with ◌==◌ (instance_at d.netlist pin).name prefix ≡ false
          = ap (λ (a : NodeName). starts_with ◌==◌ a.owner prefix) (sym name) ∙ old in
          ap
          (λ b. option_map (λ (r : Repeater). record { instance = instance_at d.netlist pin; repeater = r }) (cond b (repeater_of d.library (instance_at d.netlist pin).cell) None))
          begins

  -- an old pin is not that of a cell that was put in
  pub into_old : into_at d prefix n at ≡ None
  into_old = ap (option_and_then (λ (p : Passage). only_if (bytes_eq at.leaf p.repeater.input) p)) passage_old

  pub from_old : from_at d prefix n at ≡ None
  from_old = ap (option_and_then (λ (p : Passage). only_if (bytes_eq at.leaf p.repeater.output) p)) passage_old

-- ---- new cells

same_bytes : (bytes : List ℕ) → pointwise ◌==◌ bytes bytes ≡ true
same_bytes [] = refl
same_bytes (b ∷ bytes) = ap (λ t. t && pointwise ◌==◌ bytes bytes) (eq-eqb b b refl) ∙ same_bytes bytes

cell_begins : (prefix : List ℕ) (m : ℕ) → starts_with ◌==◌ (cell_name prefix m) prefix ≡ true
cell_begins prefix m =
    ap (λ name. starts_with ◌==◌ name prefix) (append_assoc prefix (codes "u") (decimal m))
    ∙ ap (λ front. pointwise ◌==◌ prefix front) (take-append_seam prefix (codes "u" ++ decimal m))
    ∙ same_bytes prefix

module _ (d : Design) (n : Joined) (x : Split) (new : Design) (put : IsPut d n x) (has : HasStages d n x new) (k : ℕ) (low : k < length (heads (forest x))) (w : ℕ)
    (celled : is_celled x w ≡ true) (cell : HasCellPin x new.netlist k w) where
  abbrev pub instance : Instance
  instance = instance_at new.netlist cell.pin

  abbrev pub passage : Passage
  passage = record { instance = instance; repeater = repeater_at x w }

  ours : put_in new x.prefix instance ≡ Some (repeater_at x w)
  ours =
      ap (λ b. cond b (repeater_of new.library instance.cell) None)
      (ap (λ name. starts_with ◌==◌ name x.prefix) cell.of_cell.name ∙ cell_begins x.prefix (number_of x (stage_from x w)))
      ∙ (λ i. repeater_of (has.library i) (cell.of_cell.cell i)) ∙ found_repeater d n x put w celled

  passage_new : passage_at new x.prefix (stage_net has k low) (name_in x k w) ≡ Some passage
  passage_new =
      ap (option_and_then (λ pin. passage_of new x.prefix (instance_at new.netlist pin))) cell.on
      ∙ ap (option_map (λ (r : Repeater). record { instance = instance; repeater = r })) ours

  leaf : (name_in x k w).leaf ≡ pin_in x k w
  leaf =
      ap
      (λ b.
      (cond b (record { owner = cell_name x.prefix (number_of x (stage_from x w)); leaf = pin_in x k w })
      (cond (old_node x w).inner (record { owner = net_of x k; leaf = (old_node x w).name.leaf }) (old_node x w).name)).leaf)
      celled

  pub leaf_at : (b : Bool) → (w == head x k) ≡ b → (name_in x k w).leaf ≡ cond b (repeater_at x w).output (repeater_at x w).input
  leaf_at b e = leaf ∙ ap (λ b. cond b (repeater_at x w).output (repeater_at x w).input) e

  -- a cell that ends the stage is passed
  pub into_new : w ≢ head x k → into_at new x.prefix (stage_net has k low) (name_in x k w) ≡ Some passage
  into_new other =
      ap (option_and_then (λ (p : Passage). only_if (bytes_eq (name_in x k w).leaf p.repeater.input) p)) passage_new
      ∙ ap (λ b. only_if b passage) ((bytes_eq-Decides (name_in x k w).leaf (repeater_at x w).input).1 (leaf_at false (ne_eqb w (head x k) other)))

  -- and one where the stage begins drives it
  pub from_new : w ≡ head x k → from_at new x.prefix (stage_net has k low) (name_in x k w) ≡ Some passage
  from_new here =
      ap (option_and_then (λ (p : Passage). only_if (bytes_eq (name_in x k w).leaf p.repeater.output) p)) passage_new
      ∙ ap (λ b. only_if b passage) ((bytes_eq-Decides (name_in x k w).leaf (repeater_at x w).output).1 (leaf_at true (eq-eqb w (head x k) here)))
