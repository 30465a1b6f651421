-- The net of a stage in a new netlist: its ends, its port, its pins and its cells.
use Rattle.std.proofs.Common.{◌≡◌, ℕ, ◌<◌, ◌==◌, ◌||◌, not, Bool, true, false, List, [], length, map, get_or, slice_index, refl, sym, ap, ◌∙◌, subst, arith, inl, inr, ◌⊎◌, Option, Some, None}
use Rattle.std.specs.Prelude.{if◌then◌else◌, option_and_then, option_map, slice_get}
use Rattle.std.specs.List.{Contains}
use Rattle.std.proofs.lemmas.Bool.{eqb-true, false≢true, eq-eqb}
use Rattle.std.proofs.lemmas.List.Folds.{Any-from_list_any}
use Rattle.std.proofs.lemmas.Option.{same_Some, slice_get-get_or}
use Rattle.spef_net.specs.declared.net.ConnKind.{ConnKind}
use Rattle.spef_net.specs.declared.net.ConnKind.TheVariants.{Pin as PinKind, Port}
use Rattle.spef_net.specs.declared.net.ParNet.{ParNet}
use Rattle.spef_net.specs.Statements.{is_at}
use Rattle.spef_nodes.proofs.ApartLemmas.{has_at}
use Rattle.spef_nodes.proofs.NodeListLemmas.{same_is}
use Rattle.ver_file.specs.Modules.{Denotes}
use Rattle.ver_patch_laws.specs.Links.{NetName, name_of_net}
use Rattle.ver_patch_laws.proofs.PinLemmas.{get_mapped}
use Rattle.ver_patch_laws.proofs.RelinkedLemmas.{In}
use Rattle.ver_module.specs.Netlists.{Net, Netlist, net_name}
use Rattle.ver_module.specs.declared.direction.PortDir.{PortDir}
use Rattle.ver_module.specs.declared.link.Link.{Link}
use Rattle.ver_module.specs.declared.link.Link.TheVariants.{One}
use Rattle.ver_net.specs.Connections.{is_tied}
use Rattle.ver_net.specs.Laws.{HasLink}
use Rattle.ver_net.specs.declared.pin_ref.PinRef.{PinRef}
use Rattle.ver_patch_laws.specs.Consistent.{wire_name}
use Rattle.ver_patch_laws.specs.Laws.{AreAlike}
use Rattle.ver_patch_laws.specs.Names.{IsNumbered, name_at, port_at}
use Rattle.ver_patch_laws.specs.Pins.{HasPin}
use Rattle.ver_patch_laws.specs.Renewed.{IsRenewed}
use Rattle.ver_patch_laws.proofs.AlikeLemmas.{nets_are_alike, new_nets_are_bare}
use Rattle.ver_patch_laws.proofs.SetLemmas.{contains_in, in_get, in_mapped}
use Rattle.ver_patch_laws.proofs.ShapeLemmas.{pins_are_renewed}
use Rattle.vg_change.specs.Changes.{Changes}
use Rattle.vg_change.specs.Placed.{PlacedNet, is_old_end, stage_at}
use Rattle.vg_design.specs.Designs.{Design, IsEnd, IsLinked, IsPort, cell_on, instance_at, is_port, pin_name, pin_on, port_of}
use Rattle.vg_scan.specs.Nodes.{has_node, same_node}
use Rattle.vg_scan.specs.declared.name.NodeName.{NodeName}
use Rattle.vg_split.specs.Splits.{NO_CONN, ends_in, forest, head, is_celled, name_in, net_of, old_node, number_of}
use Rattle.vg_split.proofs.KindLemmas.{Kind, kind}
use Rattle.vg_split.proofs.SplitLemmas.{head_celled}
use Rattle.vg_split.specs.Stages.{heads, members}
use Rattle.spef_write.specs.Sections.{NO_NODE}
use Rattle.change_netlist_laws.specs.Laws.{StagesAreNets, StagesDiffer}
use Rattle.retime_laws.specs.NetlistStages.{HasCellPin, HasNoPort, IsStageIn, stage_number}
use Rattle.change_netlist_laws.specs.Put.{IsWrittenAnew}
use Rattle.change_netlist_laws.proofs.CellLemmas.{CellPin, cell_pin, input_in, output_in}
use Rattle.change_netlist_laws.proofs.ConsistentLemmas.{name_numbered, net_is}
use Rattle.change_netlist_laws.proofs.EndLemmas.{not_tied}
use Rattle.change_netlist_laws.proofs.LinkLemmas.{IsPinIn, old_name_in, stands_linked, stands_named}
use Rattle.change_netlist_laws.proofs.NodeLemmas.{bare_end, bare_stage, cell_begins, conn_of, end_bare, ends_above, in_ends, of_ends, of_members, own_stage}
use Rattle.change_netlist_laws.proofs.OldLemmas.{net_said}
use Rattle.change_netlist_laws.proofs.OwnLemmas.{IsOwn}
use Rattle.change_netlist_laws.proofs.PinLemmas.{cell_named, has_pin, linked_name, on_is, pin_named}
use Rattle.change_netlist_laws.proofs.PortLemmas.{node_end, port_of_node, port_stage}
use Rattle.change_netlist_laws.proofs.PutLemmas.{Placing, is_among}
use Rattle.change_netlist_laws.proofs.NumberedLemmas.{IsStageNumber, PutCell, among, linked_pin, numbered, numbers_differ, pin_linked, written}
use Rattle.change_netlist_laws.proofs.RewiredLemmas.{StandsIn}
use Rattle.change_netlist_laws.proofs.SameLemmas.{end_node, is_own, not_old, old_name}
use Rattle.change_netlist_laws.proofs.WireLemmas.{stage_name}
use Rattle.vg_split.specs.NewNames.{net_name as new_net_name}

-- the port of a net that has one
pub record HasPort (netlist : Netlist) (id : ℕ) (direction : PortDir) : Type 0 where
  pub net : Net
  pub is : slice_get netlist.nets id ≡ Some net
  pub port : net.port ≡ Some direction

pub port_there : (netlist : Netlist) (id : ℕ) (direction : PortDir) → port_at netlist id ≡ Some direction → HasPort netlist id direction
port_there netlist id direction e = by_net (slice_get netlist.nets id) refl e
  where
    by_net : (o : Option Net) → slice_get netlist.nets id ≡ o → option_and_then (λ (n : Net). n.port) o ≡ Some direction → HasPort netlist id direction
    by_net None f g = absurd (cc)
    by_net (Some n) f g = record { net = n; is = f; port = g }

module _ (verilog : List ℕ) (d : Design) (prefix : List ℕ) (nets : List PlacedNet) (c : Changes) (new : List ℕ) (w : IsWrittenAnew verilog d prefix nets c new)
    (renewed : Netlist) (now : Denotes new renewed) (r : IsRenewed d.netlist c.rewires c.cells renewed) where
  -- a pin that was there has its name and its cell
  old_pin : (at : PinRef) (link : Link) (h : HasLink d.netlist at link) → HasPin renewed at (linked_name d.netlist at link h)
  old_pin at link h = (pins_are_renewed d.netlist c.rewires c.cells renewed r).old at (linked_name d.netlist at link h) (has_pin d.netlist at link h)

  pub old_pin_name : (at : PinRef) (link : Link) → HasLink d.netlist at link → pin_name d.netlist at ≡ pin_name renewed at
  old_pin_name at link h = pin_named d.netlist at _ (has_pin d.netlist at link h) ∙ sym (pin_named renewed at _ (old_pin at link h))

  pub old_pin_cell : (at : PinRef) (link : Link) → HasLink d.netlist at link → (instance_at d.netlist at).cell ≡ (instance_at renewed at).cell
  old_pin_cell at link h = cell_named d.netlist at _ (has_pin d.netlist at link h) ∙ sym (cell_named renewed at _ (old_pin at link h))

  module _ (s : Placing) (i : among verilog d prefix nets c new w s) (k : ℕ) (low : k < length (heads (forest s.x))) where
    abbrev o : IsOwn d prefix (length c.cells) s.p s.x
    o = is_own verilog d prefix nets c new w s i

    abbrev id : ℕ
    id = stage_number s.x renewed k

    number : IsStageNumber verilog d prefix nets c new w renewed now r s k
    number = numbered verilog d prefix nets c new w renewed now r s i k low

    -- ---- the port

    alike : (k == s.x.keeper) ≡ true → AreAlike d.netlist s.p.net.id renewed id
    alike own =
        nets_are_alike verilog d.netlist c.rewires c.cells new renewed s.p.net.id id (name_at d.netlist s.p.net.id) w.denotes now r (name_numbered verilog d prefix nets c new w s i)
        (subst (λ (b : Bool). IsNumbered renewed id (if b then name_at d.netlist s.p.net.id else wire_name (net_of s.x k))) own number.number)

    bare : (k == s.x.keeper) ≡ false → (port_at renewed id ≡ None) × (is_tied renewed id ≡ false)
    bare other =
        new_nets_are_bare d.netlist c.rewires c.cells renewed id (wire_name (net_of s.x k)) r (not_old verilog d prefix nets c new w s i k low other)
        (subst (λ (b : Bool). IsNumbered renewed id (if b then name_at d.netlist s.p.net.id else wire_name (net_of s.x k))) other number.number)

    -- the net has the stage's name
    net_named : (n : Net) → slice_get renewed.nets id ≡ Some n → n.name ≡ net_of s.x k
    net_named n e =
        let same : name_of_net n ≡ stage_name d.netlist s.p.net.id s.x k = same_Some _ _ (sym (get_mapped name_of_net renewed.nets id n e) ∙ number.number) in
        net_said new renewed id n now e ∙ ap (λ (m : NetName). net_name m.base m.bit) same ∙ written verilog d prefix nets c new w s i k

    keeper_named : (k == s.x.keeper) ≡ true → (n : Net) → slice_get d.netlist.nets s.p.net.id ≡ Some n → net_of s.x k ≡ n.name
    keeper_named own n e =
        let net = net_is verilog d prefix nets c new w s i in
        ap (λ (b : Bool). if b then s.x.par.name else new_net_name s.x.prefix (number_of s.x (if k == 0 then s.x.keeper else k))) own
        ∙ ap (λ (p : ParNet). p.name) o.par ∙ sym net.named ∙ ap (λ (m : Net). m.name) (same_Some net.net n (sym net.is ∙ e))

    -- a port in the stage is the net's
    port_in : (v : ℕ) → In v (members (forest s.x) (head s.x k)) → is_celled s.x v ≡ false → IsPort d.netlist s.p.net.id (old_node s.x v).name → (k == s.x.keeper) ≡ true
    port_in v inside free p =
        let v_low = (of_members s.x o.split k v inside).0 in
        eq-eqb k s.x.keeper
        (sym (bare_stage s.x o.split k v low inside free) ∙ port_stage verilog d prefix nets c new w s i v v_low p)

    -- ---- the ends

    stand : (v : ℕ) → In v (members (forest s.x) (head s.x k)) → is_old_end s.x v ≡ true → (l : IsLinked d.netlist s.p.net.id (old_node s.x v).name) → StandsIn d.netlist s.p s.x k l.pin
    stand v inside end l = record {
      w = v;
      end = end;
      inside = inside;
      pin = on_is d.netlist s.p.net.id verilog w.denotes _ l.pin l.link (old_name verilog d prefix nets c new w s i v ∙ l.named);
    }

    end_there : (v : ℕ) → In v (ends_in s.x k) → IsEnd renewed id (name_in s.x k v)
    end_there v there = by_kind (kind s.x k v)
      where
        inside : In v (members (forest s.x) (head s.x k))
        inside = (of_ends s.x o.split k v there).0

        v_low : v < length s.x.problem.tree.nodes
        v_low = (of_members s.x o.split k v inside).0

        by_end : is_celled s.x v ≡ false → is_old_end s.x v ≡ true → IsEnd d.netlist s.p.net.id (old_node s.x v).name → IsEnd renewed id (old_node s.x v).name
        by_end free end (inl l) =
            inl (record {
              pin = l.pin;
              link = pin_linked verilog d prefix nets c new w renewed now r s i k l.pin low (IsPinIn.stands (stand v inside end l));
              named = l.named ∙ old_pin_name l.pin (One s.p.net.id) l.link;
            })
        by_end free end (inr p) =
            let own = port_in v inside free p in
            let port : port_at renewed id ≡ Some p.direction = (alike own).port ∙ ap (option_and_then (λ (n : Net). n.port)) p.is ∙ p.port in
            let has = port_there renewed id p.direction port in
            let names : p.net.name ≡ has.net.name = sym (keeper_named own p.net p.is) ∙ sym (net_named has.net has.is) in
            inr (record { net = has.net; is = has.is; direction = p.direction; port = has.port; named = p.named ∙ ap (λ n. record { owner = n; leaf = [] }) names })

        by_kind : Kind s.x k v → IsEnd renewed id (name_in s.x k v)
        by_kind (Kind.pin p) =
            let f : CellPin verilog d prefix nets c new w renewed now r s k v = cell_pin verilog d prefix nets c new w renewed now r s i k v low inside p.celled in
            inl (record { pin = f.pin; link = pin_linked verilog d prefix nets c new w renewed now r s i k f.pin low f.is; named = f.named })
        by_kind (Kind.inner p) = absurd (false≢true (sym p.end ∙ (of_ends s.x o.split k v there).1))
        by_kind (Kind.kept p) =
            let end = bare_end s.x o.split v p.bare p.end in
            subst (IsEnd renewed id) (sym p.name) (by_end p.bare end (node_end verilog d prefix nets c new w s i v v_low end))

    -- a name of the stage's ends
    has_end : (v : ℕ) → In v (ends_in s.x k) → has_node (map (name_in s.x k) (ends_in s.x k)) (name_in s.x k v) ≡ true
    has_end v there =
        let (m, e) = in_get (ends_in s.x k) v there in
        has_at (map (name_in s.x k) (ends_in s.x k)) m (name_in s.x k v) (get_mapped (name_in s.x k) (ends_in s.x k) m v e)

    abbrev Has : NodeName → Type 0
    Has at = has_node (map (name_in s.x k) (ends_in s.x k)) at ≡ true

    old_has : (v : ℕ) → In v (members (forest s.x) (head s.x k)) → is_old_end s.x v ≡ true → Has (old_node s.x v).name
    old_has v inside end =
        let (free, is) = end_bare s.x o.split v end in
        subst Has (old_name_in s.x k v free is) (has_end v (in_ends s.x o.split k v inside is))

    cell_has : (v : ℕ) → In v (members (forest s.x) (head s.x k)) → is_celled s.x v ≡ true → Has (name_in s.x k v)
    cell_has v inside has = has_end v (in_ends s.x o.split k v inside (ap (λ b. b || not (old_node s.x v).inner) has))

    linked_has : (pin : PinRef) → IsPinIn verilog d prefix nets c new w s k pin → Has (pin_name renewed pin)
    linked_has pin (IsPinIn.stands is) =
        subst Has (stands_named verilog d prefix nets c new w s i k pin is ∙ old_pin_name pin (One s.p.net.id) (stands_linked verilog d prefix nets c new w s i k pin is))
        (old_has is.w is.inside is.end)
    linked_has pin (IsPinIn.enters m j some j_low get up e) =
        let of : PutCell verilog d prefix nets c new w s j = record { m = m; get = get } in
        let inside = subst (λ u. In (head s.x j) (members (forest s.x) (head s.x u))) up (ends_above s.x o.split j some j_low).inside in
        subst Has (input_in verilog d prefix nets c new w renewed now r s i j some j_low of k up ∙ ap (pin_name renewed) (sym e)) (cell_has (head s.x j) inside (head_celled s.x j some j_low))
    linked_has pin (IsPinIn.leaves m some get e) =
        let of : PutCell verilog d prefix nets c new w s k = record { m = m; get = get } in
        subst Has (output_in verilog d prefix nets c new w renewed now r s i k some low of ∙ ap (pin_name renewed) (sym e))
        (cell_has (head s.x k) (cell_begins s.x o.split k low) (head_celled s.x k some low))

    port_has : (at : NodeName) → IsPort renewed id at → Has at
    port_has at p = by_keeper (k == s.x.keeper) refl
      where
        port : port_at renewed id ≡ Some p.direction
        port = ap (option_and_then (λ (n : Net). n.port)) p.is ∙ p.port

        by_keeper : (b : Bool) → (k == s.x.keeper) ≡ b → Has at
        by_keeper false e = absurd (let f : None ≡ Some p.direction = sym (bare e).0 ∙ port in cc)
        by_keeper true e =
            let has = port_there d.netlist s.p.net.id p.direction (sym (alike e).port ∙ port) in
            let old : IsPort d.netlist s.p.net.id (record { owner = has.net.name; leaf = [] }) = record { net = has.net; is = has.is; direction = p.direction; port = has.port; named = refl } in
            let (v, v_low, end, named) = end_node verilog d prefix nets c new w s i (record { owner = has.net.name; leaf = [] }) (inr old) in
            let stage : stage_at (forest s.x) v ≡ k = port_stage verilog d prefix nets c new w s i v v_low (subst (IsPort d.netlist s.p.net.id) named old) ∙ sym (eqb-true k s.x.keeper e) in
            let inside = subst (λ u. In v (members (forest s.x) (head s.x u))) stage (own_stage s.x o.split v v_low).1 in
            let names : has.net.name ≡ p.net.name = sym (keeper_named e has.net has.is) ∙ sym (net_named p.net p.is) in
            subst Has (sym p.named) (subst (λ n. Has (record { owner = n; leaf = [] })) names (subst Has (sym named) (old_has v inside end)))

    all_ends : (at : NodeName) → (Has at → IsEnd renewed id at) × (IsEnd renewed id at → Has at)
    all_ends at = (
      λ h. (let (m, q, q_low, is, same) = Any-from_list_any (same_node at) (map (name_in s.x k) (ends_in s.x k)) h in
          let (v, there, named) = in_mapped (name_in s.x k) (ends_in s.x k) q (contains_in (map (name_in s.x k) (ends_in s.x k)) q (m, q_low, is)) in
          subst (IsEnd renewed id) (sym (same_is at q same ∙ named)) (end_there v there)),
      λ end. elim end [
        | inl l ↦ subst Has (sym l.named) (linked_has l.pin (linked_pin verilog d prefix nets c new w renewed now r s i k l.pin low l.link))
        | inr p ↦ port_has at p
      ],
    )

    -- ---- old pins, and kinds

    no_leaf : (at : NodeName) → IsPort d.netlist s.p.net.id at → is_port at ≡ true
    no_leaf at p = ap is_port p.named

    all_pins : (v : ℕ) → Contains (ends_in s.x k) v → is_celled s.x v ≡ false → is_port (old_node s.x v).name ≡ false
        → cell_on renewed id (old_node s.x v).name ≡ cell_on d.netlist s.p.net.id (old_node s.x v).name
    all_pins v there free leaf =
        let (inside, is) = of_ends s.x o.split k v (contains_in (ends_in s.x k) v there) in
        let end = bare_end s.x o.split v free is in
        elim (node_end verilog d prefix nets c new w s i v (of_members s.x o.split k v inside).0 end) [
          | inr p ↦ absurd (false≢true (sym leaf ∙ no_leaf (old_node s.x v).name p))
          | inl l ↦
              let link = pin_linked verilog d prefix nets c new w renewed now r s i k l.pin low (IsPinIn.stands (stand v inside end l)) in
              let here : pin_on renewed id (old_node s.x v).name ≡ Some l.pin
              = on_is renewed id new now (old_node s.x v).name l.pin link (l.named ∙ old_pin_name l.pin (One s.p.net.id) l.link) in
              let was : pin_on d.netlist s.p.net.id (old_node s.x v).name ≡ Some l.pin = on_is d.netlist s.p.net.id verilog w.denotes (old_node s.x v).name l.pin l.link l.named in
              ap (option_map (λ pin. (instance_at renewed pin).cell)) here ∙ ap Some (sym (old_pin_cell l.pin (One s.p.net.id) l.link))
              ∙ sym (ap (option_map (λ pin. (instance_at d.netlist pin).cell)) was)
        ]

    all_cells : (v : ℕ) → Contains (ends_in s.x k) v → is_celled s.x v ≡ true → HasCellPin s.x renewed k v
    all_cells v there has =
        let inside = (of_ends s.x o.split k v (contains_in (ends_in s.x k) v there)).0 in
        let f : CellPin verilog d prefix nets c new w renewed now r s k v = cell_pin verilog d prefix nets c new w renewed now r s i k v low inside has in
        record {
          pin = f.pin;
          on = on_is renewed id new now (name_in s.x k v) f.pin (pin_linked verilog d prefix nets c new w renewed now r s i k f.pin low f.is) f.named;
          of_cell = f.of_cell;
        }

    no_port : (k == s.x.keeper) ≡ false → HasNoPort s.x k
    no_port other v there port = by_kind (kind s.x k v)
      where
        inside : In v (members (forest s.x) (head s.x k))
        inside = (of_ends s.x o.split k v (contains_in (ends_in s.x k) v there)).0

        v_low : v < length s.x.problem.tree.nodes
        v_low = (of_members s.x o.split k v inside).0

        pin_port : PinKind ≡ Port → ⊥
        pin_port e = cc

        by_kind : Kind s.x k v → ⊥
        by_kind (Kind.pin p) = pin_port (sym (ap (λ (b : Bool). if b then PinKind else (get_or s.x.par.conns (slice_index s.x.order v) NO_CONN).kind) p.celled) ∙ port)
        by_kind (Kind.inner p) = false≢true (sym p.end ∙ (of_ends s.x o.split k v (contains_in (ends_in s.x k) v there)).1)
        by_kind (Kind.kept p) =
            let end = bare_end s.x o.split v p.bare p.end in
            let at = slice_index s.x.order v in
            let conn_low = conn_of s.x o.split v v_low end in
            let conn = get_or s.x.par.conns at NO_CONN in
            let kinds : conn.kind ≡ Port = sym (ap (λ (b : Bool). if b then PinKind else conn.kind) p.bare) ∙ port in
            let few = s.x.par.sound.joined.few in
            let is = (s.x.par.sound.joined.ends at conn (get_or s.x.par.nodes at NO_NODE) (slice_get-get_or s.x.par.conns at NO_CONN conn_low)
            (slice_get-get_or s.x.par.nodes at NO_NODE (omega (arith, conn_low, few)))).1 in
            let none : (length (old_node s.x v).name.leaf == 0) ≡ true = subst (λ (kind : ConnKind). is_at kind (old_node s.x v).name ≡ true) kinds is in
            false≢true (sym other ∙ port_in v inside p.bare (port_of_node verilog d prefix nets c new w s i v v_low none))

    -- ---- the whole

    old_free : is_tied d.netlist s.p.net.id ≡ false
    old_free =
        let n = o.net.posed.ready.pinned.net in
        subst (λ (q : PlacedNet). is_tied d.netlist q.net.id ≡ false) (sym o.net.is) (not_tied d o.net.name n o.net.net.joined o.net.net.accepted)

    pub stage_in : IsStageIn d.netlist s.p.net.id s.x renewed k
    stage_in = record {
      named = number.named;
      ends = all_ends;
      port = by_port (k == s.x.keeper) refl;
      pins = all_pins;
      cells = all_cells;
      free = by_tied (k == s.x.keeper) refl;
    }
      where
        by_port : (b : Bool) → (k == s.x.keeper) ≡ b → (port_of renewed id ≡ port_of d.netlist s.p.net.id) ⊎ ((port_of renewed id ≡ None) × HasNoPort s.x k)
        by_port true e = inl (alike e).port
        by_port false e = inr ((bare e).0, no_port e)

        by_tied : (b : Bool) → (k == s.x.keeper) ≡ b → is_tied renewed id ≡ false
        by_tied true e = (alike e).tied ∙ old_free
        by_tied false e = (bare e).1

pub stages_are_nets : StagesAreNets
stages_are_nets verilog d prefix nets c new w renewed now r p x is k low =
    stage_in verilog d prefix nets c new w renewed now r (record { p = p; x = x }) (is_among d prefix nets c p x is) k low

pub stages_differ : StagesDiffer
stages_differ verilog d prefix nets c new w renewed now r p q x y is other k u k_low u_low e =
    let same = numbers_differ verilog d prefix nets c new w renewed now r (record { p = p; x = x }) (record { p = q; x = y })
    (is_among d prefix nets c p x is) (is_among d prefix nets c q y other) k u k_low u_low e in
    (ap (λ (s : Placing). s.p) same.placing, ap (λ (s : Placing). s.x) same.placing, same.stage)
