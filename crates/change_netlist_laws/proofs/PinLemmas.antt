-- The pins of a netlist by their names: a pin on a net is found by its name.
use Rattle.std.proofs.Common.{◌≡◌, ℕ, Bool, true, false, cond, List, [], ◌∷◌, find, refl, sym, ap, ◌∙◌, inl, inr, Option, Some, None, get_or}
use Rattle.std.proofs.lemmas.Bool.{false≢true}
use Rattle.std.proofs.lemmas.Option.{get_or_from_slice_get}
use Rattle.spef_nodes.proofs.NodeListLemmas.{same_is}
use Rattle.spef_nodes.proofs.NodeTableLemmas.{same_refl}
use Rattle.ver_file.specs.Modules.{Denotes}
use Rattle.ver_patch_laws.proofs.RelinkedLemmas.{In}
use Rattle.ver_module.specs.Netlists.{Instance, Netlist}
use Rattle.ver_module.specs.declared.link.Link.{Link}
use Rattle.ver_module.specs.declared.link.Link.TheVariants.{One}
use Rattle.ver_net.specs.Connections.{pins_on}
use Rattle.ver_net.specs.Laws.{HasLink}
use Rattle.ver_net.specs.declared.pin_ref.PinRef.{PinRef}
use Rattle.ver_net.proofs.LawLemmas.{pins_are_linked}
use Rattle.ver_patch_laws.specs.Pins.{HasPin, PinName}
use Rattle.ver_patch_laws.proofs.SetLemmas.{contains_in}
use Rattle.ver_patch_laws.proofs.ShapeLemmas.{pins_differ}
use Rattle.vg_change.proofs.NameLemmas.{found_in}
use Rattle.vg_design.specs.Designs.{NO_INSTANCE, NO_PIN, instance_at, pin_name, pin_on}
use Rattle.vg_scan.specs.Nodes.{same_node}
use Rattle.vg_scan.specs.declared.name.NodeName.{NodeName}

abbrev pub node_name : PinName → NodeName
node_name p = record { owner = p.instance; leaf = p.pin }

abbrev pub linked_name : (netlist : Netlist) (at : PinRef) (link : Link) → HasLink netlist at link → PinName
linked_name netlist at link h = record { instance = h.instance.name; cell = h.instance.cell; pin = h.pin.name }

pub has_pin : (netlist : Netlist) (at : PinRef) (link : Link) (h : HasLink netlist at link) → HasPin netlist at (linked_name netlist at link h)
has_pin netlist at link h = record { instance = h.instance; pin = h.pin; is_instance = h.is_instance; is_pin = h.is_pin; named = refl }

pub instance_is : (netlist : Netlist) (at : PinRef) (name : PinName) (h : HasPin netlist at name) → instance_at netlist at ≡ h.instance
instance_is netlist at name h = get_or_from_slice_get netlist.instances at.instance h.instance NO_INSTANCE h.is_instance

pub pin_named : (netlist : Netlist) (at : PinRef) (name : PinName) → HasPin netlist at name → pin_name netlist at ≡ node_name name
pin_named netlist at name h =
    let i = instance_is netlist at name h in
    let p = get_or_from_slice_get h.instance.pins at.pin h.pin NO_PIN h.is_pin in
    (λ j. record { owner = (i j).name; leaf = (get_or (i j).pins at.pin NO_PIN).name })
    ∙ (λ j. record { owner = h.instance.name; leaf = (p j).name }) ∙ ap node_name (sym h.named)

pub cell_named : (netlist : Netlist) (at : PinRef) (name : PinName) → HasPin netlist at name → (instance_at netlist at).cell ≡ name.cell
cell_named netlist at name h = ap (λ (i : Instance). i.cell) (instance_is netlist at name h) ∙ ap (λ (p : PinName). p.cell) (sym h.named)

pub find_some : {X : Type 0} (p : X → Bool) (xs : List X) (x : X) → In x xs → p x ≡ true → find p xs ≡ None → ⊥
find_some p [] x i e none = absurd i
find_some p (y ∷ ys) x i e none = by_test (p y) refl i none (find_some p ys x)
  where
    by_test : (b : Bool) → p y ≡ b → In x (y ∷ ys) → cond b (Some y) (find p ys) ≡ None → (In x ys → p x ≡ true → find p ys ≡ None → ⊥) → ⊥
    by_test true f j none more = absurd (cc)
    by_test false f (inl same) none more = false≢true (sym f ∙ ap p (sym same) ∙ e)
    by_test false f (inr j) none more = more j e none

module _ (netlist : Netlist) (id : ℕ) where
  pub on_linked : (at : NodeName) (pin : PinRef) → pin_on netlist id at ≡ Some pin → HasLink netlist pin (One id) × (at ≡ pin_name netlist pin)
  on_linked at pin e =
      let (there, same) = found_in (λ p. same_node at (pin_name netlist p)) (pins_on netlist id) pin e in
      ((pins_are_linked netlist id pin).0 there, same_is at (pin_name netlist pin) same)

  pub on_none : (at : NodeName) (pin : PinRef) → pin_on netlist id at ≡ None → HasLink netlist pin (One id) → at ≡ pin_name netlist pin → ⊥
  on_none at pin e h named =
      find_some (λ p. same_node at (pin_name netlist p)) (pins_on netlist id) pin (contains_in (pins_on netlist id) pin ((pins_are_linked netlist id pin).1 h))
      (ap (λ n. same_node n (pin_name netlist pin)) named ∙ same_refl (pin_name netlist pin)) e

  -- a pin on the net is the one of its name
  pub on_is : (text : List ℕ) → Denotes text netlist → (at : NodeName) (pin : PinRef) → HasLink netlist pin (One id) → at ≡ pin_name netlist pin → pin_on netlist id at ≡ Some pin
  on_is text d at pin h named = by_found (pin_on netlist id at) refl
    where
      by_found : (o : Option PinRef) → pin_on netlist id at ≡ o → pin_on netlist id at ≡ Some pin
      by_found None e = absurd (on_none at pin e h named)
      by_found (Some b) e =
          let (l, same) = on_linked at b e in
          let a_pin = has_pin netlist pin (One id) h in
          let b_pin = has_pin netlist b (One id) l in
          let a_name = linked_name netlist pin (One id) h in
          let b_name = linked_name netlist b (One id) l in
          let names : node_name b_name ≡ node_name a_name = sym (pin_named netlist b b_name b_pin) ∙ sym same ∙ named ∙ pin_named netlist pin a_name a_pin in
          e ∙ ap Some (pins_differ text netlist b pin b_name a_name d b_pin a_pin (ap (λ (n : NodeName). n.owner) names) (ap (λ (n : NodeName). n.leaf) names))
