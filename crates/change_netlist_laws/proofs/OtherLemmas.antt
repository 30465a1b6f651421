-- The nets of a netlist into which nothing is put stay as they were.
use Rattle.std.proofs.Common.{◌≡◌, ◌≢◌, ℕ, ◌<◌, ◌==◌, Bool, true, false, List, [], length, map, refl, sym, ap, ◌∙◌, subst, inl, inr, Option, Some, None}
use Rattle.std.specs.Prelude.{if◌then◌else◌, option_and_then, option_map, slice_get}
use Rattle.std.specs.List.{All}
use Rattle.std.proofs.lemmas.Option.{same_Some}
use Rattle.ver_patch_text_laws.proofs.LawLemmas.{each_of}
use Rattle.ver_file.specs.Modules.{Denotes}
use Rattle.ver_patch_laws.specs.Links.{NetName, name_of_net}
use Rattle.ver_patch_laws.specs.Links.NamedLink.{one}
use Rattle.ver_patch_laws.proofs.PinLemmas.{get_mapped}
use Rattle.ver_patch_laws.proofs.RelinkedLemmas.{In, each_in}
use Rattle.ver_module.specs.Netlists.{Net, Netlist, net_name}
use Rattle.ver_module.specs.declared.link.Link.TheVariants.{One}
use Rattle.ver_net.specs.Laws.{HasLink}
use Rattle.ver_net.specs.declared.pin_ref.PinRef.{PinRef}
use Rattle.ver_patch.specs.NewCells.{NewCell}
use Rattle.ver_patch.specs.Rewires.{Rewire}
use Rattle.ver_patch_laws.specs.Consistent.{Writes, wire_name}
use Rattle.ver_patch_laws.specs.Laws.{AreAlike}
use Rattle.ver_patch_laws.specs.Names.{HasNamedLink, IsNumbered, name_at}
use Rattle.ver_patch_laws.specs.Renewed.{HasCause, IsKept, IsRenewed}
use Rattle.ver_patch_laws.proofs.AlikeLemmas.{nets_are_alike}
use Rattle.ver_patch_laws.proofs.NamedLemmas.{linked_nets_are_there, links_go_by_names, names_determine_nets}
use Rattle.ver_patch_laws.proofs.SetLemmas.{contains_in, each_all, each_from, get_in}
use Rattle.vg_change.specs.Changes.{Changes}
use Rattle.vg_change.specs.Placed.{PlacedNet, above, text_in}
use Rattle.vg_design.specs.Designs.{Design, IsEnd, cell_on, instance_at, net_number, pin_name, pin_on}
use Rattle.name_tables.specs.Distinct.{number_of}
use Rattle.vg_scan.specs.declared.name.NodeName.{NodeName}
use Rattle.vg_split.specs.Splits.{forest, net_of}
use Rattle.vg_split.specs.Stages.{heads}
use Rattle.change_netlist_laws.specs.Laws.{HasNetAsItWas, OtherNetsStay}
use Rattle.change_netlist_laws.specs.Put.{IsWrittenAnew}
use Rattle.change_netlist_laws.proofs.ConsistentLemmas.{cell_is, name_numbered, rewire_is, stage_written}
use Rattle.change_netlist_laws.proofs.LinkLemmas.{link_once, stands_linked}
use Rattle.change_netlist_laws.proofs.NewStageLemmas.{old_pin_cell, old_pin_name, port_there}
use Rattle.change_netlist_laws.proofs.OldLemmas.{net_said}
use Rattle.change_netlist_laws.proofs.PinLemmas.{on_is, on_linked, on_none}
use Rattle.change_netlist_laws.proofs.PutLemmas.{Placing, placing}
use Rattle.change_netlist_laws.proofs.SameLemmas.{not_old, puts}
use Rattle.change_netlist_laws.proofs.StageLemmas.{above_low}
use Rattle.change_netlist_laws.proofs.WireLemmas.{stage_name}
use Rattle.change_netlist_laws.proofs.WritesLemmas.{written_once}
use Rattle.ver_net.specs.Texts.{net_text}

module _ (verilog : List ℕ) (d : Design) (prefix : List ℕ) (nets : List PlacedNet) (c : Changes) (new : List ℕ) (w : IsWrittenAnew verilog d prefix nets c new)
    (renewed : Netlist) (now : Denotes new renewed) (r : IsRenewed d.netlist c.rewires c.cells renewed)
    (id : ℕ) (net : Net) (is : slice_get d.netlist.nets id ≡ Some net) (apart : All (λ (p : PlacedNet). p.net.id ≢ id) nets) where
  abbrev put : Placing → Type 0
  put s = In s (puts verilog d prefix nets c new w)

  abbrev name : NetName
  name = name_of_net net

  numbered : IsNumbered d.netlist id name
  numbered = get_mapped name_of_net d.netlist.nets id net is

  other_id : (s : Placing) → put s → s.p.net.id ≢ id
  other_id s i = each_in (λ (p : PlacedNet). p.net.id ≢ id) nets s.p (each_of (λ (p : PlacedNet). p.net.id ≢ id) nets apart) (placing d prefix nets 0 s i).net

  -- no stage's net has its name
  not_stage : (s : Placing) → put s → (k : ℕ) → k < length (heads (forest s.x)) → name ≢ stage_name d.netlist s.p.net.id s.x k
  not_stage s i k low = by_keeper (k == s.x.keeper) refl
    where
      by_keeper : (b : Bool) → (k == s.x.keeper) ≡ b → name ≢ (if b then name_at d.netlist s.p.net.id else wire_name (net_of s.x k))
      by_keeper true e f =
          other_id s i
          (same_Some s.p.net.id id
          (sym (names_determine_nets verilog d.netlist s.p.net.id (name_at d.netlist s.p.net.id) w.denotes (name_numbered verilog d prefix nets c new w s i))
          ∙ ap (λ (n : NetName). number_of (map (λ (m : Net). m.name) d.netlist.nets) (net_name n.base n.bit)) (sym f)
          ∙ names_determine_nets verilog d.netlist id name w.denotes numbered))
      by_keeper false e f = not_old verilog d prefix nets c new w s i k low e id (subst (IsNumbered d.netlist id) f numbered)

  -- ---- links

  kept : (at : PinRef) → HasLink d.netlist at (One id) → IsKept c.rewires at
  kept at h =
      each_all (λ (q : Rewire). q.at ≢ at) c.rewires (each_from (λ (q : Rewire). q.at ≢ at) c.rewires (λ q i e.
      let f = rewire_is verilog d prefix nets c new w q i in
      let link = stands_linked verilog d prefix nets c new w f.s f.among f.is.k q.at f.is.stands in
      other_id f.s f.among (link_once d.netlist at f.s.p.net.id id (subst (λ p. HasLink d.netlist p (One f.s.p.net.id)) e link) h)))

  stays : (at : PinRef) → HasLink d.netlist at (One id) → HasNamedLink renewed at (one name)
  stays at h = r.stay at (one name) ((links_go_by_names verilog d.netlist at id name w.denotes numbered).0 h) (kept at h)

  one_name : (a b : NetName) → one a ≡ one b → a ≡ b
  one_name a b e = cc

  stayed : (at : PinRef) → HasNamedLink renewed at (one name) → HasLink d.netlist at (One id)
  stayed at h = by_cause (r.caused at (one name) h)
    where
      by_cause : HasCause d.netlist c.rewires c.cells at (one name) → HasLink d.netlist at (One id)
      by_cause (HasCause.stays l keeps) = (links_go_by_names verilog d.netlist at id name w.denotes numbered).1 l
      by_cause (HasCause.rewired q other there same writes e) =
          let f = rewire_is verilog d prefix nets c new w q (contains_in c.rewires q there) in
          let own = stage_written verilog d prefix nets c new w f.s f.among f.is.k f.is.low in
          let text : text_in d.netlist f.s.p.net.id f.s.x f.is.k ≡ q.net
          = ap (λ (b : Bool). if b then net_text d.netlist f.s.p.net.id else net_of f.s.x f.is.k) f.is.other ∙ sym f.is.net in
          let stage = stage_name d.netlist f.s.p.net.id f.s.x f.is.k in
          absurd (not_stage f.s f.among f.is.k f.is.low (one_name name other e ∙ written_once q.net other stage writes (subst (λ t. Writes t stage) text own)))
      by_cause (HasCause.input m cell other get place writes e) =
          let f = cell_is verilog d prefix nets c new w cell (get_in c.cells m cell get) in
          let u = above f.s.x f.is.k in
          let low = above_low f.s.x f.is.k f.is.low in
          let text : cell.from ≡ text_in d.netlist f.s.p.net.id f.s.x u = ap (λ (n : NewCell). n.from) f.is.is in
          absurd (not_stage f.s f.among u low (one_name name other e
          ∙ written_once (text_in d.netlist f.s.p.net.id f.s.x u) other (stage_name d.netlist f.s.p.net.id f.s.x u) (subst (λ t. Writes t other) text writes) (stage_written verilog d prefix nets c new w f.s f.among u low)))
      by_cause (HasCause.output m cell other get place writes e) =
          let f = cell_is verilog d prefix nets c new w cell (get_in c.cells m cell get) in
          let u = f.is.k in
          let text : cell.to ≡ text_in d.netlist f.s.p.net.id f.s.x u = ap (λ (n : NewCell). n.to) f.is.is in
          absurd (not_stage f.s f.among u f.is.low (one_name name other e
          ∙ written_once (text_in d.netlist f.s.p.net.id f.s.x u) other (stage_name d.netlist f.s.p.net.id f.s.x u) (subst (λ t. Writes t other) text writes) (stage_written verilog d prefix nets c new w f.s f.among u f.is.low)))

  -- ---- its number, by some end

  record HasNumber : Type 0 where
    number : ℕ
    is_number : IsNumbered renewed number name

  has_number : (at : NodeName) → IsEnd d.netlist id at → HasNumber
  has_number at (inl l) = let (n, e) = linked_nets_are_there new renewed l.pin name now (stays l.pin l.link) in record { number = n; is_number = e }
  has_number at (inr p) =
      let q = (r.ports name p.direction).0 (record { net = id; number = numbered; port = ap (option_and_then (λ (n : Net). n.port)) p.is ∙ p.port }) in
      record { number = q.net; is_number = q.number }

  module _ (n : ℕ) (number : IsNumbered renewed n name) where
    links : (at : PinRef) → HasLink d.netlist at (One id) → HasLink renewed at (One n)
    links at h = (links_go_by_names new renewed at n name now number).1 (stays at h)

    linked : (at : PinRef) → HasLink renewed at (One n) → HasLink d.netlist at (One id)
    linked at h = stayed at ((links_go_by_names new renewed at n name now number).0 h)

    alike : AreAlike d.netlist id renewed n
    alike = nets_are_alike verilog d.netlist c.rewires c.cells new renewed id n name w.denotes now r numbered number

    pin_name_is : (at : PinRef) → HasLink d.netlist at (One id) → pin_name d.netlist at ≡ pin_name renewed at
    pin_name_is at h = old_pin_name verilog d prefix nets c new w renewed now r at (One id) h

    -- the net has its name
    same_name : (other : Net) → slice_get renewed.nets n ≡ Some other → net.name ≡ other.name
    same_name other e =
        let same : name ≡ name_of_net other = same_Some name (name_of_net other) (sym number ∙ get_mapped name_of_net renewed.nets n other e) in
        net_said verilog d.netlist id net w.denotes is ∙ ap (λ (m : NetName). net_name m.base m.bit) same ∙ sym (net_said new renewed n other now e)

    ends : (at : NodeName) → (IsEnd renewed n at → IsEnd d.netlist id at) × (IsEnd d.netlist id at → IsEnd renewed n at)
    ends at = (forth, back)
      where
        forth : IsEnd renewed n at → IsEnd d.netlist id at
        forth (inl l) = let h = linked l.pin l.link in inl (record { pin = l.pin; link = h; named = l.named ∙ sym (pin_name_is l.pin h) })
        forth (inr p) =
            let has = port_there d.netlist id p.direction (sym alike.port ∙ ap (option_and_then (λ (m : Net). m.port)) p.is ∙ p.port) in
            let one : has.net ≡ net = same_Some has.net net (sym has.is ∙ is) in
            let names : p.net.name ≡ has.net.name = sym (same_name p.net p.is) ∙ ap (λ (m : Net). m.name) (sym one) in
            inr (record { net = has.net; is = has.is; direction = p.direction; port = has.port; named = p.named ∙ ap (λ m. record { owner = m; leaf = [] }) names })

        back : IsEnd d.netlist id at → IsEnd renewed n at
        back (inl l) = inl (record { pin = l.pin; link = links l.pin l.link; named = l.named ∙ pin_name_is l.pin l.link })
        back (inr p) =
            let has = port_there renewed n p.direction (alike.port ∙ ap (option_and_then (λ (m : Net). m.port)) p.is ∙ p.port) in
            let one : p.net ≡ net = same_Some p.net net (sym p.is ∙ is) in
            let names : p.net.name ≡ has.net.name = ap (λ (m : Net). m.name) one ∙ same_name has.net has.is in
            inr (record { net = has.net; is = has.is; direction = p.direction; port = has.port; named = p.named ∙ ap (λ m. record { owner = m; leaf = [] }) names })

    -- a pin that was on it is found there, and no other
    pins : (at : NodeName) (o : Option PinRef) → pin_on d.netlist id at ≡ o → pin_on renewed n at ≡ o
    pins at (Some pin) e =
        let (h, named) = on_linked d.netlist id at pin e in
        on_is renewed n new now at pin (links pin h) (named ∙ pin_name_is pin h)
    pins at None e = by_found (pin_on renewed n at) refl
      where
        by_found : (o : Option PinRef) → pin_on renewed n at ≡ o → pin_on renewed n at ≡ None
        by_found None f = f
        by_found (Some pin) f =
            let (h, named) = on_linked renewed n at pin f in
            let l = linked pin h in
            absurd (on_none d.netlist id at pin e l (named ∙ sym (pin_name_is pin l)))

    cells : (at : NodeName) → cell_on renewed n at ≡ cell_on d.netlist id at
    cells at = by_pin (pin_on d.netlist id at) refl
      where
        by_pin : (o : Option PinRef) → pin_on d.netlist id at ≡ o → cell_on renewed n at ≡ cell_on d.netlist id at
        by_pin o e =
            ap (option_map (λ pin. (instance_at renewed pin).cell)) (pins at o e) ∙ same o e
            ∙ sym (ap (option_map (λ pin. (instance_at d.netlist pin).cell)) e)
          where
            same : (o : Option PinRef) → pin_on d.netlist id at ≡ o → option_map (λ pin. (instance_at renewed pin).cell) o ≡ option_map (λ pin. (instance_at d.netlist pin).cell) o
            same None f = refl
            same (Some pin) f = ap Some (sym (old_pin_cell verilog d prefix nets c new w renewed now r pin (One id) (on_linked d.netlist id at pin f).0))

  pub as_it_was : (at : NodeName) → IsEnd d.netlist id at → HasNetAsItWas d.netlist id renewed net.name
  as_it_was at end =
      let h = has_number at end in
      record {
        now = h.number;
        number = ap (net_number renewed) (net_said verilog d.netlist id net w.denotes is) ∙ names_determine_nets new renewed h.number name now h.is_number;
        is = record {
          ends = ends h.number h.is_number;
          pins = λ at. pins h.number h.is_number at (pin_on d.netlist id at) refl;
          cells = cells h.number h.is_number;
          port = (alike h.number h.is_number).port;
          tied = (alike h.number h.is_number).tied;
        };
      }

pub other_nets_stay : OtherNetsStay
other_nets_stay verilog d prefix nets c new w renewed now r id net at is apart end = as_it_was verilog d prefix nets c new w renewed now r id net is apart at end
