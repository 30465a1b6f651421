-- The nets of a renewed netlist beside those of the old one.
use Rattle.std.proofs.Common.{◌≡◌, ℕ, Bool, true, false, List, map, Option, Some, None, refl, sym, ap, ◌∙◌, subst}
use Rattle.std.proofs.lemmas.Option.{same_Some}
use Rattle.ver_module.specs.declared.direction.PortDir.{PortDir}
use Rattle.ver_module.specs.Netlists.{Net, Netlist}
use Rattle.ver_file.specs.Modules.{Denotes}
use Rattle.ver_net.specs.Connections.{is_tied}
use Rattle.ver_patch_text_laws.proofs.SectionLemmas.{get_map}
use Rattle.ver_patch_laws.specs.Links.{NetName, name_of_net}
use Rattle.ver_patch_laws.proofs.RelinkedLemmas.{In}
use Rattle.ver_patch_laws.specs.Consistent.{taken_in}
use Rattle.ver_patch_laws.specs.Laws.{NetsAreAlike, NewNetsAreBare, WiresAreNew}
use Rattle.ver_patch_laws.specs.Names.{IsNumbered, IsPort, IsTied, port_at}
use Rattle.ver_patch_laws.proofs.ApartLemmas.{new_apart}
use Rattle.ver_patch_laws.proofs.NamedLemmas.{names_determine_nets}
use Rattle.ver_patch_laws.proofs.SetLemmas.{contains_in, get_in, in_map, in_right}

same_option : {X : Type 0} (a b : Option X) → ((x : X) → a ≡ Some x → b ≡ Some x) → ((x : X) → b ≡ Some x → a ≡ Some x) → a ≡ b
same_option None None f g = refl
same_option None (Some x) f g = g x refl
same_option (Some x) b f g = sym (f x refl)

same_bool : (a b : Bool) → (a ≡ true → b ≡ true) → (b ≡ true → a ≡ true) → a ≡ b
same_bool true b f g = sym (f refl)
same_bool false true f g = g refl
same_bool false false f g = refl

one_number : (text : List ℕ) (netlist : Netlist) (name : NetName) (i j : ℕ) → Denotes text netlist → IsNumbered netlist i name → IsNumbered netlist j name → i ≡ j
one_number text netlist name i j d e f =
    same_Some i j (sym (names_determine_nets text netlist i name d e) ∙ names_determine_nets text netlist j name d f)

-- a port, or a tied net, by its number
module _ (text : List ℕ) (netlist : Netlist) (d : Denotes text netlist) (net : ℕ) (name : NetName) (number : IsNumbered netlist net name) where
  port_number : (direction : PortDir) → IsPort netlist name direction → port_at netlist net ≡ Some direction
  port_number direction h = ap (port_at netlist) (one_number text netlist name net h.net d number h.number) ∙ h.port

  tied_number : IsTied netlist name → is_tied netlist net ≡ true
  tied_number h = ap (is_tied netlist) (one_number text netlist name net h.net d number h.number) ∙ h.tied

pub nets_are_alike : NetsAreAlike
nets_are_alike text netlist rewires cells new renewed net now name d e r old number = record {
  port =
      same_option (port_at renewed now) (port_at netlist net)
      (λ direction f. port_number text netlist d net name old direction ((r.ports name direction).1 (record { net = now; number = number; port = f })))
      (λ direction f. port_number new renewed e now name number direction ((r.ports name direction).0 (record { net = net; number = old; port = f })));
  tied =
      same_bool (is_tied renewed now) (is_tied netlist net)
      (λ f. tied_number text netlist d net name old ((r.tied name).1 (record { net = now; number = number; tied = f })))
      (λ f. tied_number new renewed e now name number ((r.tied name).0 (record { net = net; number = old; tied = f })));
}

pub new_nets_are_bare : NewNetsAreBare
new_nets_are_bare netlist rewires cells renewed now name r none number = (
  same_option (port_at renewed now) None
      (λ direction f. (let p = (r.ports name direction).1 (record { net = now; number = number; port = f }) in absurd (none p.net p.number)))
      (λ direction f. absurd (cc)),
  same_bool (is_tied renewed now) false (λ f. (let t = (r.tied name).1 (record { net = now; number = number; tied = f }) in absurd (none t.net t.number)))
      (λ f. absurd (cc)),
)

pub wires_are_new : WiresAreNew
wires_are_new netlist rewires cells wires wire net h i e =
    let (n, f, g) = get_map name_of_net netlist.nets net (record { base = wire; bit = None }) e in
    let among : In wire (map (λ (m : Net). m.base) netlist.nets)
    = subst (λ x. In x (map (λ (m : Net). m.base) netlist.nets)) (sym (ap (λ (a : NetName). a.base) g)) (in_map (λ (m : Net). m.base) netlist.nets n (get_in netlist.nets net n f)) in
    (new_apart wires (taken_in netlist) h.wires_new).1 wire (in_right (map (λ (m : Net). m.name) netlist.nets) (map (λ (m : Net). m.base) netlist.nets) wire among)
    (contains_in wires wire i)
