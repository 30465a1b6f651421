-- The cells that are put in: instances between the nets of two stages.
use Rattle.std.proofs.Common.{◌≡◌, ◌≢◌, ℕ, ◌<◌, Bool, true, false, cond, List, [], ◌∷◌, length, find, refl, sym, ap, ◌∙◌, subst, Some}
use Rattle.std.specs.Prelude.{if◌then◌else◌, option_and_then, slice_get}
use Rattle.std.specs.Str.{bytes_eq}
use Rattle.std.proofs.lemmas.Bool.{eq-eqb, false≢true, ne_eqb}
use Rattle.std.proofs.lemmas.Option.{get_or_from_slice_get, none-some, same_Some}
use Rattle.ver_file.specs.Modules.{Denotes}
use Rattle.ver_file.proofs.ListLemmas.{bytes_are, bytes_same}
use Rattle.ver_patch_laws.proofs.RelinkedLemmas.{In}
use Rattle.ver_module.specs.Netlists.{Instance, Netlist, Pin}
use Rattle.ver_module.specs.declared.link.Link.TheVariants.{One}
use Rattle.ver_net.specs.Laws.{HasLink}
use Rattle.ver_net.specs.declared.pin_ref.PinRef.{PinRef}
use Rattle.ver_patch.specs.NewCells.{NewCell}
use Rattle.ver_patch_laws.specs.Pins.{HasPin, PinName, input_name, output_name}
use Rattle.ver_patch_laws.specs.Renewed.{IsRenewed, new_pin}
use Rattle.ver_patch_laws.proofs.ShapeLemmas.{pins_are_renewed}
use Rattle.vg_change.specs.Changes.{Changes}
use Rattle.vg_change.specs.Placed.{PlacedNet, above, new_cell}
use Rattle.vg_design.specs.Designs.{Design, NO_INSTANCE, instance_at, pin_name}
use Rattle.vg_retime.specs.Passages.{net_at, one_net}
use Rattle.vg_split.specs.NewNames.{cell_name}
use Rattle.vg_split.specs.Splits.{Split, forest, head, is_celled, name_in, number_of, pin_in, repeater_at, stage_from}
use Rattle.vg_split.proofs.KindLemmas.{Kind, kind, pin_name as cell_pin_name}
use Rattle.vg_split.proofs.SplitLemmas.{from_head, from_low, from_some, head_celled}
use Rattle.vg_split.proofs.StageNumberLemmas.{head_number}
use Rattle.vg_split.specs.Stages.{heads, members}
use Rattle.retime_laws.specs.NetlistStages.{IsCellAt, stage_number}
use Rattle.change_netlist_laws.specs.Put.{IsWrittenAnew}
use Rattle.change_netlist_laws.proofs.ConsistentLemmas.{repeater_pins}
use Rattle.change_netlist_laws.proofs.LinkLemmas.{IsPinIn}
use Rattle.change_netlist_laws.proofs.NodeLemmas.{CellIn, above_is, cell_in, ends_above, of_members}
use Rattle.change_netlist_laws.proofs.NumberedLemmas.{PutCell, among, pin_linked, put_cell}
use Rattle.change_netlist_laws.proofs.OwnLemmas.{IsOwn}
use Rattle.change_netlist_laws.proofs.PinLemmas.{instance_is, pin_named}
use Rattle.change_netlist_laws.proofs.PutLemmas.{Placing}
use Rattle.change_netlist_laws.proofs.SameLemmas.{is_own}
use Rattle.change_netlist_laws.proofs.StageLemmas.{above_low}

-- ---- the net at a pin of an instance with two pins

find_first : (pins : List Pin) (name : List ℕ) (p : Pin) → slice_get pins 0 ≡ Some p → p.name ≡ name → find (λ (q : Pin). bytes_eq name q.name) pins ≡ Some p
find_first [] name p e f = absurd (none-some p e)
find_first (q ∷ pins) name p e f =
    let same : q ≡ p = same_Some q p e in
    let passes : bytes_eq name q.name ≡ true = ap (λ (r : Pin). bytes_eq name r.name) same ∙ ap (bytes_eq name) f ∙ bytes_same name in
    ap (λ b. cond b (Some q) (find (λ (q : Pin). bytes_eq name q.name) pins)) passes ∙ ap Some same

find_second : (pins : List Pin) (name : List ℕ) (p q : Pin) → slice_get pins 0 ≡ Some p → p.name ≢ name → slice_get pins 1 ≡ Some q → q.name ≡ name
    → find (λ (q : Pin). bytes_eq name q.name) pins ≡ Some q
find_second [] name p q e other f g = absurd (none-some p e)
find_second (r ∷ pins) name p q e other f g = by_test (bytes_eq name r.name) refl
  where
    by_test : (b : Bool) → bytes_eq name r.name ≡ b → cond b (Some r) (find (λ (q : Pin). bytes_eq name q.name) pins) ≡ Some q
    by_test true t = absurd (other (ap (λ (u : Pin). u.name) (sym (same_Some r p e)) ∙ sym (bytes_are name r.name t)))
    by_test false t = find_first pins name q f g

net_found : (instance : Instance) (name : List ℕ) (p : Pin) (id : ℕ) → find (λ (q : Pin). bytes_eq name q.name) instance.pins ≡ Some p → p.link ≡ One id → net_at instance name ≡ Some id
net_found instance name p id found link = ap (option_and_then (λ (q : Pin). one_net q.link)) found ∙ ap one_net link

-- the name of a cell's pin
cell_name_in : (x : Split) (k v : ℕ) → is_celled x v ≡ true → name_in x k v ≡ cell_pin_name x k v
cell_name_in x k v has = by_kind (kind x k v)
  where
    by_kind : Kind x k v → name_in x k v ≡ cell_pin_name x k v
    by_kind (Kind.pin p) = p.name
    by_kind (Kind.inner p) = absurd (false≢true (sym p.bare ∙ has))
    by_kind (Kind.kept p) = absurd (false≢true (sym p.bare ∙ has))

module _ (verilog : List ℕ) (d : Design) (prefix : List ℕ) (nets : List PlacedNet) (c : Changes) (new : List ℕ) (w : IsWrittenAnew verilog d prefix nets c new)
    (renewed : Netlist) (now : Denotes new renewed) (r : IsRenewed d.netlist c.rewires c.cells renewed) where
  abbrev put : Placing → Type 0
  put s = among verilog d prefix nets c new w s

  -- the instance of a stage's cell
  module _ (s : Placing) (i : put s) (j : ℕ) (some : 0 < j) (low : j < length (heads (forest s.x))) (of : PutCell verilog d prefix nets c new w s j) where
    abbrev cell : NewCell
    cell = new_cell d.netlist s.p.net.id s.x j

    abbrev instance : Instance
    instance = instance_at renewed (new_pin d.netlist of.m 0)

    has_input : HasPin renewed (new_pin d.netlist of.m 0) (input_name cell)
    has_input = (pins_are_renewed d.netlist c.rewires c.cells renewed r).inputs of.m cell of.get

    has_output : HasPin renewed (new_pin d.netlist of.m 1) (output_name cell)
    has_output = (pins_are_renewed d.netlist c.rewires c.cells renewed r).outputs of.m cell of.get

    enters : IsPinIn verilog d prefix nets c new w s (above s.x j) (new_pin d.netlist of.m 0)
    enters = IsPinIn.enters of.m j some low of.get refl refl

    leaves : IsPinIn verilog d prefix nets c new w s j (new_pin d.netlist of.m 1)
    leaves = IsPinIn.leaves of.m some of.get refl

    first_pin : slice_get instance.pins 0 ≡ Some has_input.pin
    first_pin = ap (λ (n : Instance). slice_get n.pins 0) (instance_is renewed (new_pin d.netlist of.m 0) (input_name cell) has_input) ∙ has_input.is_pin

    second_pin : slice_get instance.pins 1 ≡ Some has_output.pin
    second_pin = ap (λ (n : Instance). slice_get n.pins 1) (instance_is renewed (new_pin d.netlist of.m 1) (output_name cell) has_output) ∙ has_output.is_pin

    first_name : has_input.pin.name ≡ cell.input
    first_name = sym (ap (λ (n : PinName). n.pin) has_input.named)

    second_name : has_output.pin.name ≡ cell.output
    second_name = sym (ap (λ (n : PinName). n.pin) has_output.named)

    -- the link of a pin of the instance
    own_link : (k : ℕ) (p : Pin) (id : ℕ) → slice_get instance.pins k ≡ Some p → HasLink renewed (new_pin d.netlist of.m k) (One id) → p.link ≡ One id
    own_link k p id at h =
        let same : instance ≡ h.instance = get_or_from_slice_get renewed.instances (new_pin d.netlist of.m k).instance h.instance NO_INSTANCE h.is_instance in
        ap (λ (q : Pin). q.link) (same_Some p h.pin (sym at ∙ ap (λ (n : Instance). slice_get n.pins k) same ∙ h.is_pin)) ∙ h.has_link

    pub cell_at : IsCellAt s.x renewed (head s.x j) (instance_at renewed (new_pin d.netlist of.m 0))
    cell_at =
        let from : stage_from s.x (head s.x j) ≡ j = head_number (forest s.x) j low in
        record {
          name =
              ap (λ (n : Instance). n.name) (instance_is renewed (new_pin d.netlist of.m 0) (input_name cell) has_input)
              ∙ sym (ap (λ (n : PinName). n.instance) has_input.named) ∙ ap (λ k. cell_name s.x.prefix (number_of s.x k)) (sym from);
          cell =
              ap (λ (n : Instance). n.cell) (instance_is renewed (new_pin d.netlist of.m 0) (input_name cell) has_input)
              ∙ sym (ap (λ (n : PinName). n.cell) has_input.named);
          input = λ u u_low e.
              let o = is_own verilog d prefix nets c new w s i in
              let id = stage_number s.x renewed (above s.x j) in
              let link = pin_linked verilog d prefix nets c new w renewed now r s i (above s.x j) (new_pin d.netlist of.m 0) (above_low s.x j low) enters in
              net_found instance cell.input has_input.pin id (find_first instance.pins cell.input has_input.pin first_pin first_name) (own_link 0 has_input.pin id first_pin link)
              ∙ ap (λ k. Some (stage_number s.x renewed k)) (above_is s.x o.split u j u_low e);
          output =
              let id = stage_number s.x renewed j in
              let link = pin_linked verilog d prefix nets c new w renewed now r s i j (new_pin d.netlist of.m 1) low leaves in
              let other : has_input.pin.name ≢ cell.output = (λ e. (repeater_pins verilog d prefix nets c new w s i j some low).differ (sym first_name ∙ e)) in
              net_found instance cell.output has_output.pin id
              (find_second instance.pins cell.output has_input.pin has_output.pin first_pin other second_pin second_name) (own_link 1 has_output.pin id second_pin link)
              ∙ ap (λ k. Some (stage_number s.x renewed k)) (sym from);
        }

    -- the names of its pins in the stages
    pub input_in : (k : ℕ) → above s.x j ≡ k → name_in s.x k (head s.x j) ≡ pin_name renewed (new_pin d.netlist of.m 0)
    input_in k up =
        let o = is_own verilog d prefix nets c new w s i in
        let v = head s.x j in
        let other : v ≢ head s.x k = (λ e. (ends_above s.x o.split j some low).other (e ∙ ap (head s.x) (sym up))) in
        let leaf : pin_in s.x k v ≡ cell.input = ap (λ (b : Bool). if b then (repeater_at s.x v).output else (repeater_at s.x v).input) (ne_eqb v (head s.x k) other) in
        cell_name_in s.x k v (head_celled s.x j some low)
        ∙ (λ q. record { owner = cell_name s.x.prefix (number_of s.x (head_number (forest s.x) j low q)); leaf = leaf q })
        ∙ sym (pin_named renewed (new_pin d.netlist of.m 0) (input_name cell) has_input)

    pub output_in : name_in s.x j (head s.x j) ≡ pin_name renewed (new_pin d.netlist of.m 1)
    output_in =
        let v = head s.x j in
        let leaf : pin_in s.x j v ≡ cell.output = ap (λ (b : Bool). if b then (repeater_at s.x v).output else (repeater_at s.x v).input) (eq-eqb v v refl) in
        cell_name_in s.x j v (head_celled s.x j some low)
        ∙ (λ q. record { owner = cell_name s.x.prefix (number_of s.x (head_number (forest s.x) j low q)); leaf = leaf q })
        ∙ sym (pin_named renewed (new_pin d.netlist of.m 1) (output_name cell) has_output)

  -- ---- a cell in a stage

  -- its pin there
  pub record CellPin (s : Placing) (k v : ℕ) : Type 0 where
    pub pin : PinRef
    pub is : IsPinIn verilog d prefix nets c new w s k pin
    pub named : name_in s.x k v ≡ pin_name renewed pin
    pub of_cell : IsCellAt s.x renewed v (instance_at renewed pin)

  pub cell_pin : (s : Placing) → put s → (k v : ℕ) → k < length (heads (forest s.x)) → In v (members (forest s.x) (head s.x k)) → is_celled s.x v ≡ true → CellPin s k v
  cell_pin s i k v low inside has = by_case (cell_in s.x o.split k v low inside has)
    where
      o : IsOwn d prefix (length c.cells) s.p s.x
      o = is_own verilog d prefix nets c new w s i

      v_low : v < length s.x.problem.tree.nodes
      v_low = (of_members s.x o.split k v inside).0

      by_case : CellIn s.x o.split k v → CellPin s k v
      by_case (CellIn.begins some at from) =
          let of = put_cell verilog d prefix nets c new w s i k some low in
          subst (CellPin s k) (sym at) (record {
            pin = new_pin d.netlist of.m 1;
            is = leaves s i k some low of;
            named = output_in s i k some low of;
            of_cell = cell_at s i k some low of;
          })
      by_case (CellIn.ends other up e) =
          let j = stage_from s.x v in
          let some = from_some s.x o.split v has in
          let j_low = from_low s.x v v_low has in
          let of = put_cell verilog d prefix nets c new w s i j some j_low in
          subst (CellPin s k) (from_head s.x v v_low has) (record {
            pin = new_pin d.netlist of.m 0;
            is = subst (λ u. IsPinIn verilog d prefix nets c new w s u (new_pin d.netlist of.m 0)) up (enters s i j some j_low of);
            named = input_in s i j some j_low of k up;
            of_cell = cell_at s i j some j_low of;
          })
