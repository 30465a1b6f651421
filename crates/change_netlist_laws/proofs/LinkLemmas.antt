-- The pins on the net of a stage, by its name: those of the net that stand in the stage, and those of the cells that
-- begin or end it.
use Rattle.std.proofs.Common.{◌≡◌, ◌≢◌, ℕ, ◌<◌, ◌==◌, Bool, true, false, List, length, refl, sym, ap, ◌∙◌, subst, Some}
use Rattle.std.specs.Prelude.{if◌then◌else◌, slice_get}
use Rattle.std.proofs.lemmas.Bool.{false≢true, eqb-true}
use Rattle.std.proofs.lemmas.Option.{same_Some}
use Rattle.ver_patch_text_laws.proofs.LawLemmas.{each_of}
use Rattle.ver_patch_laws.specs.Links.{NetName, NamedLink}
use Rattle.ver_patch_laws.specs.Links.NamedLink.{one}
use Rattle.ver_patch_laws.proofs.RelinkedLemmas.{In, each_in}
use Rattle.ver_module.specs.Netlists.{Netlist, Instance, Pin}
use Rattle.ver_module.specs.declared.link.Link.TheVariants.{One}
use Rattle.ver_net.specs.Laws.{HasLink}
use Rattle.ver_net.specs.declared.pin_ref.PinRef.{PinRef}
use Rattle.ver_patch.specs.NewCells.{NewCell}
use Rattle.ver_patch.specs.Rewires.{Rewire}
use Rattle.ver_patch_laws.specs.Consistent.{Writes, wire_name}
use Rattle.ver_patch_laws.specs.Names.{HasNamedLink, name_at}
use Rattle.ver_patch_laws.specs.Renewed.{HasCause, IsKept, IsRenewed, new_pin}
use Rattle.ver_patch_laws.proofs.NamedLemmas.{linked_nets_are_there, links_go_by_names}
use Rattle.ver_patch_laws.proofs.SetLemmas.{contains_in, each_all, each_from, get_in, in_contains, in_flat}
use Rattle.ver_patch_laws.proofs.WritableLemmas.{wires_may_be_written}
use Rattle.vg_change.specs.Changes.{Changes}
use Rattle.vg_change.specs.Placed.{PlacedNet, above, new_cell, text_in}
use Rattle.vg_design.specs.Designs.{Design, pin_name}
use Rattle.vg_split.specs.Splits.{Split, forest, head, is_celled, is_end, name_in, net_of, old_node}
use Rattle.vg_split.proofs.KindLemmas.{Kind, kind, same_name}
use Rattle.vg_split.specs.Stages.{heads, members}
use Rattle.change_netlist_laws.specs.Put.{IsWrittenAnew}
use Rattle.change_netlist_laws.proofs.ConsistentLemmas.{cell_is, name_numbered, rewire_is, stage_written, wire_simple}
use Rattle.change_netlist_laws.proofs.NodeLemmas.{end_bare, of_members, one_of}
use Rattle.change_netlist_laws.proofs.OwnLemmas.{all_come}
use Rattle.change_netlist_laws.proofs.PinLemmas.{on_linked}
use Rattle.change_netlist_laws.proofs.PutLemmas.{Placing, rewires_by}
use Rattle.change_netlist_laws.proofs.RewiredLemmas.{StandsIn, rewired_there}
use Rattle.change_netlist_laws.proofs.SameLemmas.{Stands, is_own, not_old, old_name, pin_stands, puts, same_id, same_stage}
use Rattle.change_netlist_laws.proofs.StageLemmas.{above_low}
use Rattle.change_netlist_laws.proofs.WireLemmas.{stage_name}
use Rattle.change_netlist_laws.proofs.WritesLemmas.{written_once}
use Rattle.ver_net.specs.Texts.{net_text}

-- a pin or a port of the net keeps its name
pub old_name_in : (x : Split) (k w : ℕ) → is_celled x w ≡ false → is_end x w ≡ true → name_in x k w ≡ (old_node x w).name
old_name_in x k w bare end = by_kind (kind x k w)
  where
    by_kind : Kind x k w → name_in x k w ≡ (old_node x w).name
    by_kind (Kind.pin p) = absurd (false≢true (sym bare ∙ p.celled))
    by_kind (Kind.inner p) = absurd (false≢true (sym p.end ∙ end))
    by_kind (Kind.kept p) = p.name

pub link_once : (netlist : Netlist) (at : PinRef) (a b : ℕ) → HasLink netlist at (One a) → HasLink netlist at (One b) → a ≡ b
link_once netlist at a b h l =
    let instance : h.instance ≡ l.instance = same_Some h.instance l.instance (sym h.is_instance ∙ l.is_instance) in
    let pin : h.pin ≡ l.pin = same_Some h.pin l.pin (sym h.is_pin ∙ ap (λ (i : Instance). slice_get i.pins at.pin) instance ∙ l.is_pin) in
    one_is a b (sym h.has_link ∙ ap (λ (p : Pin). p.link) pin ∙ l.has_link)
  where
    one_is : (a b : ℕ) → One a ≡ One b → a ≡ b
    one_is a b e = cc

module _ (verilog : List ℕ) (d : Design) (prefix : List ℕ) (nets : List PlacedNet) (c : Changes) (new : List ℕ) (w : IsWrittenAnew verilog d prefix nets c new) where
  -- the pin's name is that of its node
  pub stands_named : (s : Placing) (i : In s (puts verilog d prefix nets c new w)) (k : ℕ) (at : PinRef) (is : StandsIn d.netlist s.p s.x k at) → (old_node s.x is.w).name ≡ pin_name d.netlist at
  stands_named s i k at is = sym (old_name verilog d prefix nets c new w s i is.w) ∙ (on_linked d.netlist s.p.net.id _ at is.pin).1

  pub stands_linked : (s : Placing) (i : In s (puts verilog d prefix nets c new w)) (k : ℕ) (at : PinRef) → StandsIn d.netlist s.p s.x k at → HasLink d.netlist at (One s.p.net.id)
  stands_linked s i k at is = (on_linked d.netlist s.p.net.id _ at is.pin).0

  -- a pin stands in one stage
  pub stands_once : (s : Placing) (i : In s (puts verilog d prefix nets c new w)) (k u : ℕ) (at : PinRef) → k < length (heads (forest s.x)) → u < length (heads (forest s.x))
      → StandsIn d.netlist s.p s.x k at → StandsIn d.netlist s.p s.x u at → k ≡ u
  stands_once s i k u at k_low u_low a b =
      let o = is_own verilog d prefix nets c new w s i in
      let (a_bare, a_end) = end_bare s.x o.split a.w a.end in
      let (b_bare, b_end) = end_bare s.x o.split b.w b.end in
      let names : name_in s.x k a.w ≡ name_in s.x k b.w
      = old_name_in s.x k a.w a_bare a_end ∙ stands_named s i k at a ∙ sym (stands_named s i u at b) ∙ sym (old_name_in s.x k b.w b_bare b_end) in
      let one : a.w ≡ b.w = same_name s.x o.split k k_low a.w b.w (of_members s.x o.split k a.w a.inside).0 (of_members s.x o.split u b.w b.inside).0 names in
      one_of s.x o.split k u a.w k_low u_low a_bare a.inside (subst (λ v. In v (members (forest s.x) (head s.x u))) (sym one) b.inside)

  -- the pins of a stage
  pub data IsPinIn (s : Placing) (k : ℕ) (at : PinRef) : Type 0 where
    stands : StandsIn d.netlist s.p s.x k at → IsPinIn s k at
    enters : (m j : ℕ) → 0 < j → j < length (heads (forest s.x)) → slice_get c.cells m ≡ Some (new_cell d.netlist s.p.net.id s.x j) → above s.x j ≡ k
        → at ≡ new_pin d.netlist m 0 → IsPinIn s k at
    leaves : (m : ℕ) → 0 < k → slice_get c.cells m ≡ Some (new_cell d.netlist s.p.net.id s.x k) → at ≡ new_pin d.netlist m 1 → IsPinIn s k at

  pub rewire_in : (s : Placing) (i : In s (puts verilog d prefix nets c new w)) (k : ℕ) (at : PinRef) → k < length (heads (forest s.x)) → (k == s.x.keeper) ≡ false → StandsIn d.netlist s.p s.x k at
      → In (record { at = at; net = net_of s.x k }) c.rewires
  rewire_in s i k at low other is =
      subst (In (record { at = at; net = net_of s.x k })) (sym (all_come verilog d prefix nets c new w).rewires)
      (in_flat (rewires_by d prefix) (puts verilog d prefix nets c new w) s (record { at = at; net = net_of s.x k }) i (rewired_there d.netlist s.p s.x k at low other is))

  -- a pin of the stage that keeps the name is not linked anew
  keeps : (s : Placing) (i : In s (puts verilog d prefix nets c new w)) (k : ℕ) (at : PinRef) → k < length (heads (forest s.x)) → (k == s.x.keeper) ≡ true → StandsIn d.netlist s.p s.x k at → IsKept c.rewires at
  keeps s i k at low own is =
      each_all (λ (r : Rewire). r.at ≢ at) c.rewires (each_from (λ (r : Rewire). r.at ≢ at) c.rewires (λ r j e.
      let f = rewire_is verilog d prefix nets c new w r j in
      let there : StandsIn d.netlist f.s.p f.s.x f.is.k at = subst (StandsIn d.netlist f.s.p f.s.x f.is.k) e f.is.stands in
      let ids = link_once d.netlist at s.p.net.id f.s.p.net.id (stands_linked s i k at is) (stands_linked f.s f.among f.is.k at there) in
      let same = same_id verilog d prefix nets c new w s f.s i f.among ids in
      other f.s f.among f.is.k (sym same) f.is.low f.is.other there))
    where
      other : (t : Placing) → In t (puts verilog d prefix nets c new w) → (u : ℕ) → t ≡ s → u < length (heads (forest t.x)) → (u == t.x.keeper) ≡ false → StandsIn d.netlist t.p t.x u at → ⊥
      other t j u same u_low not_own there =
          let keeper : (u == s.x.keeper) ≡ false = subst (λ (t : Placing). (u == t.x.keeper) ≡ false) same not_own in
          let stage = stands_once s i k u at low (subst (λ (t : Placing). u < length (heads (forest t.x))) same u_low) is (subst (λ (t : Placing). StandsIn d.netlist t.p t.x u at) same there) in
          false≢true (sym keeper ∙ ap (λ n. n == s.x.keeper) (sym stage) ∙ own)

  module _ (renewed : Netlist) (r : IsRenewed d.netlist c.rewires c.cells renewed) where
    abbrev pub named : Placing → ℕ → NamedLink
    named s k = one (stage_name d.netlist s.p.net.id s.x k)

    pub in_link : (s : Placing) (i : In s (puts verilog d prefix nets c new w)) (k : ℕ) (at : PinRef) → k < length (heads (forest s.x)) → IsPinIn s k at → HasNamedLink renewed at (named s k)
    in_link s i k at low (IsPinIn.stands is) = by_keeper (k == s.x.keeper) refl
      where
        by_keeper : (b : Bool) → (k == s.x.keeper) ≡ b → HasNamedLink renewed at (one (if b then name_at d.netlist s.p.net.id else wire_name (net_of s.x k)))
        by_keeper true e =
            r.stay at (one (name_at d.netlist s.p.net.id))
            ((links_go_by_names verilog d.netlist at s.p.net.id (name_at d.netlist s.p.net.id) w.denotes (name_numbered verilog d prefix nets c new w s i)).0 (stands_linked s i k at is))
            (keeps s i k at low e is)
        by_keeper false e =
            r.rewired (record { at = at; net = net_of s.x k }) (wire_name (net_of s.x k)) (in_contains c.rewires _ (rewire_in s i k at low e is))
            (wires_may_be_written (net_of s.x k) (wire_simple verilog d prefix nets c new w s i k low e))
    in_link s i k at low (IsPinIn.enters m j some j_low get is e) =
        subst (λ p. HasNamedLink renewed p (named s k)) (sym e)
        (r.inputs m (new_cell d.netlist s.p.net.id s.x j) (stage_name d.netlist s.p.net.id s.x k) get
        (subst (λ u. Writes (text_in d.netlist s.p.net.id s.x (above s.x j)) (stage_name d.netlist s.p.net.id s.x u)) is (stage_written verilog d prefix nets c new w s i (above s.x j) (above_low s.x j j_low))))
    in_link s i k at low (IsPinIn.leaves m some get e) =
        subst (λ p. HasNamedLink renewed p (named s k)) (sym e)
        (r.outputs m (new_cell d.netlist s.p.net.id s.x k) (stage_name d.netlist s.p.net.id s.x k) get (stage_written verilog d prefix nets c new w s i k low))

    one_name : (a b : NetName) → one a ≡ one b → a ≡ b
    one_name a b e = cc

    pub link_in : (s : Placing) (i : In s (puts verilog d prefix nets c new w)) (k : ℕ) (at : PinRef) → k < length (heads (forest s.x)) → HasNamedLink renewed at (named s k) → IsPinIn s k at
    link_in s i k at low h = by_cause (r.caused at (named s k) h)
      where
        by_cause : HasCause d.netlist c.rewires c.cells at (named s k) → IsPinIn s k at
        by_cause (HasCause.stays is kept) = by_keeper (k == s.x.keeper) refl is
          where
            by_keeper : (b : Bool) → (k == s.x.keeper) ≡ b → HasNamedLink d.netlist at (one (if b then name_at d.netlist s.p.net.id else wire_name (net_of s.x k))) → IsPinIn s k at
            by_keeper false e l =
                let (id, number) = linked_nets_are_there verilog d.netlist at (wire_name (net_of s.x k)) w.denotes l in
                absurd (not_old verilog d prefix nets c new w s i k low e id number)
            by_keeper true e l =
                let link = (links_go_by_names verilog d.netlist at s.p.net.id (name_at d.netlist s.p.net.id) w.denotes (name_numbered verilog d prefix nets c new w s i)).1 l in
                let f = pin_stands verilog d prefix nets c new w s i at link in
                own f (f.k == s.x.keeper) refl
              where
                own : (f : Stands verilog d prefix nets c new w s at) (b : Bool) → (f.k == s.x.keeper) ≡ b → IsPinIn s k at
                own f true g =
                    IsPinIn.stands (subst (λ u. StandsIn d.netlist s.p s.x u at) (eqb-true f.k s.x.keeper g ∙ sym (eqb-true k s.x.keeper e)) f.stands)
                own f false g =
                    absurd (each_in (λ (q : Rewire). q.at ≢ at) c.rewires (record { at = at; net = net_of s.x f.k }) (each_of (λ (q : Rewire). q.at ≢ at) c.rewires kept) (rewire_in s i f.k at f.low g f.stands) refl)
        by_cause (HasCause.rewired q name there same writes e) =
            let f = rewire_is verilog d prefix nets c new w q (contains_in c.rewires q there) in
            let own = stage_written verilog d prefix nets c new w f.s f.among f.is.k f.is.low in
            let text : text_in d.netlist f.s.p.net.id f.s.x f.is.k ≡ q.net
            = ap (λ (b : Bool). if b then net_text d.netlist f.s.p.net.id else net_of f.s.x f.is.k) f.is.other ∙ sym f.is.net in
            let names = one_name _ name e ∙ written_once q.net name (stage_name d.netlist f.s.p.net.id f.s.x f.is.k) writes (subst (λ t. Writes t (stage_name d.netlist f.s.p.net.id f.s.x f.is.k)) text own) in
            let one = same_stage verilog d prefix nets c new w s f.s i f.among k f.is.k low f.is.low names in
            let stand : StandsIn d.netlist f.s.p f.s.x f.is.k at = subst (StandsIn d.netlist f.s.p f.s.x f.is.k) same f.is.stands in
            IsPinIn.stands (subst (λ (t : Placing). StandsIn d.netlist t.p t.x k at) (sym one.placing) (subst (λ u. StandsIn d.netlist f.s.p f.s.x u at) (sym one.stage) stand))
        by_cause (HasCause.input m cell name get place writes e) =
            let f = cell_is verilog d prefix nets c new w cell (get_in c.cells m cell get) in
            let u = above f.s.x f.is.k in
            let u_low = above_low f.s.x f.is.k f.is.low in
            let own = stage_written verilog d prefix nets c new w f.s f.among u u_low in
            let text : cell.from ≡ text_in d.netlist f.s.p.net.id f.s.x u = ap (λ (n : NewCell). n.from) f.is.is in
            let names = one_name _ name e ∙ written_once _ name (stage_name d.netlist f.s.p.net.id f.s.x u) (subst (λ t. Writes t name) text writes) own in
            let one = same_stage verilog d prefix nets c new w s f.s i f.among k u low u_low names in
            entered f.s f.is.k (sym one.placing) f.is.some f.is.low (get ∙ ap Some f.is.is) (sym one.stage) place
          where
            entered : (t : Placing) (j : ℕ) → t ≡ s → 0 < j → j < length (heads (forest t.x)) → slice_get c.cells m ≡ Some (new_cell d.netlist t.p.net.id t.x j) → above t.x j ≡ k
                → at ≡ new_pin d.netlist m 0 → IsPinIn s k at
            entered t j same = subst (λ (t : Placing). 0 < j → j < length (heads (forest t.x)) → slice_get c.cells m ≡ Some (new_cell d.netlist t.p.net.id t.x j) → above t.x j ≡ k
                → at ≡ new_pin d.netlist m 0 → IsPinIn s k at) (sym same) (IsPinIn.enters m j)
        by_cause (HasCause.output m cell name get place writes e) =
            let f = cell_is verilog d prefix nets c new w cell (get_in c.cells m cell get) in
            let own = stage_written verilog d prefix nets c new w f.s f.among f.is.k f.is.low in
            let text : cell.to ≡ text_in d.netlist f.s.p.net.id f.s.x f.is.k = ap (λ (n : NewCell). n.to) f.is.is in
            let names = one_name _ name e ∙ written_once _ name (stage_name d.netlist f.s.p.net.id f.s.x f.is.k) (subst (λ t. Writes t name) text writes) own in
            let one = same_stage verilog d prefix nets c new w s f.s i f.among k f.is.k low f.is.low names in
            left f.s f.is.k (sym one.placing) (sym one.stage) f.is.some (get ∙ ap Some f.is.is) place
          where
            left : (t : Placing) (j : ℕ) → t ≡ s → j ≡ k → 0 < j → slice_get c.cells m ≡ Some (new_cell d.netlist t.p.net.id t.x j) → at ≡ new_pin d.netlist m 1 → IsPinIn s k at
            left t j same stage =
                subst (λ (t : Placing). 0 < j → slice_get c.cells m ≡ Some (new_cell d.netlist t.p.net.id t.x j) → at ≡ new_pin d.netlist m 1 → IsPinIn s k at) (sym same)
                (subst (λ j. 0 < j → slice_get c.cells m ≡ Some (new_cell d.netlist s.p.net.id s.x j) → at ≡ new_pin d.netlist m 1 → IsPinIn s k at) (sym stage) (IsPinIn.leaves m))
