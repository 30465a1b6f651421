-- The laws of the links of every netlist by names.
use Rattle.std.proofs.Common.{◌≡◌, ℕ, ◌<◌, List, [], ◌∷◌, map, length, Some, refl, sym, ap, ◌∙◌, subst, arith}
use Rattle.std.specs.Prelude.{slice_get, ◌↔◌}
use Rattle.std.specs.List.{All}
use Rattle.std.proofs.lemmas.List.{length-map}
use Rattle.std.proofs.lemmas.List.Elements.{All-contains}
use Rattle.std.proofs.lemmas.Option.{get_or_from_slice_get, slice_get-get_or}
use Rattle.name_tables.specs.Distinct.{number_of}
use Rattle.ver_items.specs.Connections.{expression_of}
use Rattle.ver_items.specs.Sections.{Section, items}
use Rattle.ver_module.specs.declared.link.Link.{Link}
use Rattle.ver_module.specs.declared.link.Link.TheVariants.{Open, One, Many}
use Rattle.ver_module.specs.Netlists.{AreWithin, Instance, IsWithin, Net, Netlist, Pin, net_name}
use Rattle.ver_file.specs.Modules.{Denotes}
use Rattle.ver_file.specs.Nets.{nets_of}
use Rattle.ver_file.specs.Netlists.{instances_of, link_of, netlist_of, pin_of}
use Rattle.ver_file.proofs.LinkLemmas.{links_within}
use Rattle.ver_net.specs.Laws.{HasLink}
use Rattle.ver_net.specs.declared.pin_ref.PinRef.{PinRef}
use Rattle.ver_patch_text_laws.proofs.LawLemmas.{each_of}
use Rattle.ver_patch_text_laws.proofs.SectionLemmas.{get_map}
use Rattle.ver_patch_text_laws.proofs.TextLemmas.{Each}
use Rattle.ver_patch_laws.specs.Links.{IsLinked, NamedLink, NetName, link_at, name_of_net}
use Rattle.ver_patch_laws.specs.Links.NamedLink.{one}
use Rattle.ver_patch_laws.proofs.PinLemmas.{IsPin, get_mapped, instances_pins, linked_section, pin_section, pin_sections, section_linked}
use Rattle.ver_patch_laws.specs.Names.{HasNamedLink, IsNumbered, NO_NET, name_at, named_link_of}
use Rattle.ver_patch_laws.specs.Laws.{LinkedNetsAreThere, LinksAreNamed, LinksGoByNames, NamesAreLinked, NamesDetermineNets}
use Rattle.ver_patch_laws.proofs.NetLemmas.{nets_named, number_there, same_number}
use Rattle.ver_patch_laws.proofs.SetLemmas.{get_in, in_contains}
use Rattle.ver_patch_laws.proofs.SoundLemmas.{pin_in, pin_right}
use Rattle.ver_patch_laws.proofs.TieLemmas.{link_right}

-- a text that denotes a netlist denotes that of its rows
pub own_netlist : (text : List ℕ) (netlist : Netlist) → Denotes text netlist → Denotes text (netlist_of text)
own_netlist text netlist d = record { tokens = d.tokens; grammar = d.grammar; flawless = d.flawless; is = refl }

module _ (text : List ℕ) (d : Denotes text (netlist_of text)) where
  section_named : (at : PinRef) (s : Section) → IsPin (pin_sections (items text)) at s → link_at text s ≡ named_link_of (netlist_of text) (link_of text (expression_of s))
  section_named at s p = link_right text d (expression_of s) (pin_right text d.flawless s (pin_in text at s p))

  has_named : (at : PinRef) (link : Link) → HasLink (netlist_of text) at link → IsLinked text at (named_link_of (netlist_of text) link)
  has_named at link h =
      let s = pin_section text at h.instance h.pin h.is_instance h.is_pin in
      let own : link_of text (expression_of s.section) ≡ link = ap (λ (p : Pin). p.link) (sym s.is) ∙ h.has_link in
      subst (IsLinked text at) (section_named at s.section s.is_pin ∙ ap (named_link_of (netlist_of text)) own) (section_linked text at s.section s.is_pin)

  -- the link of a pin's section
  pub pin_has : (at : PinRef) (s : Section) → IsPin (pin_sections (items text)) at s → HasLink (netlist_of text) at (link_of text (expression_of s))
  pin_has at s p =
      let whole : slice_get (map (λ (i : Instance). i.pins) (instances_of text)) at.instance ≡ Some (map (pin_of text) p.pins)
      = ap (λ xs. slice_get xs at.instance) (instances_pins text (items text))
      ∙ get_mapped (map (pin_of text)) (pin_sections (items text)) at.instance p.pins p.instance in
      let (i, e, f) = get_map (λ (i : Instance). i.pins) (instances_of text) at.instance (map (pin_of text) p.pins) whole in
      record {
        instance = i;
        pin = pin_of text s;
        is_instance = e;
        is_pin = ap (λ ps. slice_get ps at.pin) (sym f) ∙ get_mapped (pin_of text) p.pins at.pin s p.pin;
        has_link = refl;
      }

  pub named_has : (at : PinRef) (named : NamedLink) → IsLinked text at named → HasNamedLink (netlist_of text) at named
  named_has at named h =
      let (s, p, e) = linked_section text at named h in
      record { link = link_of text (expression_of s); has = pin_has at s p; is = sym (section_named at s p) ∙ sym e }

  -- ---- names determine links

  pub at_number : (net : ℕ) → net < length (nets_of text) → slice_get (nets_named text) net ≡ Some (name_at (netlist_of text) net)
  at_number net low = slice_get-get_or (nets_named text) net NO_NET (omega (arith, low, length-map (nets_of text) name_of_net))

  same_net : (i j : ℕ) → i < length (nets_of text) → j < length (nets_of text) → name_at (netlist_of text) i ≡ name_at (netlist_of text) j → i ≡ j
  same_net i j low high e = same_number text d i j (name_at (netlist_of text) j) (at_number i low ∙ ap Some e) (at_number j high)

  same_nets : (xs ys : List ℕ) → Each (λ n. n < length (nets_of text)) xs → Each (λ n. n < length (nets_of text)) ys
      → map (name_at (netlist_of text)) xs ≡ map (name_at (netlist_of text)) ys → xs ≡ ys
  same_nets [] [] h k e = refl
  same_nets [] (y ∷ ys) h k e = absurd (cc)
  same_nets (x ∷ xs) [] h k e = absurd (cc)
  same_nets (x ∷ xs) (y ∷ ys) h k e =
      let one : name_at (netlist_of text) x ≡ name_at (netlist_of text) y = cc in
      let more : map (name_at (netlist_of text)) xs ≡ map (name_at (netlist_of text)) ys = cc in
      λ i. same_net x y h.0 k.0 one i ∷ same_nets xs ys h.1 k.1 more i

  same_link : (a b : Link) → IsWithin (length (nets_of text)) a → IsWithin (length (nets_of text)) b
      → named_link_of (netlist_of text) a ≡ named_link_of (netlist_of text) b → a ≡ b
  same_link Open Open h k e = refl
  same_link Open (One n) h k e = absurd (cc)
  same_link Open (Many ns) h k e = absurd (cc)
  same_link (One m) Open h k e = absurd (cc)
  same_link (One m) (One n) h k e =
      let f : name_at (netlist_of text) m ≡ name_at (netlist_of text) n = cc in ap One (same_net m n h k f)
  same_link (One m) (Many ns) h k e = absurd (cc)
  same_link (Many ms) Open h k e = absurd (cc)
  same_link (Many ms) (One n) h k e = absurd (cc)
  same_link (Many ms) (Many ns) h k e =
      let f : map (name_at (netlist_of text)) ms ≡ map (name_at (netlist_of text)) ns = cc in
      ap Many (same_nets ms ns (each_of (λ n. n < length (nets_of text)) ms h) (each_of (λ n. n < length (nets_of text)) ns k) f)

  -- a pin is linked within the netlist
  pub within : (at : PinRef) (link : Link) → HasLink (netlist_of text) at link → IsWithin (length (nets_of text)) link
  within at link h =
      let all : AreWithin (length (nets_of text)) (instances_of text) = links_within text d.flawless in
      let pins = All-contains (λ (i : Instance). All (λ (p : Pin). IsWithin (length (nets_of text)) p.link) i.pins) (instances_of text) h.instance all
      (in_contains (instances_of text) h.instance (get_in (instances_of text) at.instance h.instance h.is_instance)) in
      subst (IsWithin (length (nets_of text))) h.has_link
      (All-contains (λ (p : Pin). IsWithin (length (nets_of text)) p.link) h.instance.pins h.pin pins
      (in_contains h.instance.pins h.pin (get_in h.instance.pins at.pin h.pin h.is_pin)))

  pub own_links : (at : PinRef) (link : Link) → IsWithin (length (nets_of text)) link
      → HasLink (netlist_of text) at link ↔ IsLinked text at (named_link_of (netlist_of text) link)
  own_links at link w = (
    has_named at link,
    λ h. (let n = named_has at (named_link_of (netlist_of text) link) h in
        subst (HasLink (netlist_of text) at) (same_link n.link link (within at n.link n.has) w n.is) n.has),
  )

  pub own_names : (at : PinRef) (named : NamedLink) → HasNamedLink (netlist_of text) at named ↔ IsLinked text at named
  own_names at named = (λ h. subst (IsLinked text at) h.is (has_named at h.link h.has), named_has at named)

  -- a pin that is linked to one net
  pub one_linked : (at : PinRef) (name : NetName) → HasNamedLink (netlist_of text) at (one name)
      → (net : ℕ) × (slice_get (nets_named text) net ≡ Some name) × HasLink (netlist_of text) at (One net)
  one_linked at name h = by_link h.link h.has h.is
    where
      by_link : (link : Link) → HasLink (netlist_of text) at link → named_link_of (netlist_of text) link ≡ one name
          → (net : ℕ) × (slice_get (nets_named text) net ≡ Some name) × HasLink (netlist_of text) at (One net)
      by_link Open k e = absurd (cc)
      by_link (One n) k e =
          let f : name_at (netlist_of text) n ≡ name = cc in (n, at_number n (within at (One n) k) ∙ ap Some f, k)
      by_link (Many ns) k e = absurd (cc)

  pub one_named : (at : PinRef) (net : ℕ) (name : NetName) → slice_get (nets_named text) net ≡ Some name → HasLink (netlist_of text) at (One net)
      ↔ HasNamedLink (netlist_of text) at (one name)
  one_named at net name e = (
    λ h. record { link = One net; has = h; is = ap one (get_or_from_slice_get (nets_named text) net name NO_NET e) },
    λ h. (let (n, f, k) = one_linked at name h in subst (λ m. HasLink (netlist_of text) at (One m)) (same_number text d n net name f e) k),
  )

-- ---- the laws

pub links_are_named : LinksAreNamed
links_are_named text netlist at link d =
    subst (λ (n : Netlist). IsWithin (length n.nets) link → HasLink n at link ↔ IsLinked text at (named_link_of n link)) (sym d.is)
    (own_links text (own_netlist text netlist d) at link)

pub names_are_linked : NamesAreLinked
names_are_linked text netlist at named d =
    subst (λ (n : Netlist). HasNamedLink n at named ↔ IsLinked text at named) (sym d.is) (own_names text (own_netlist text netlist d) at named)

pub linked_nets_are_there : LinkedNetsAreThere
linked_nets_are_there text netlist at name d =
    subst (λ (n : Netlist). HasNamedLink n at (one name) → (net : ℕ) × IsNumbered n net name) (sym d.is)
    (λ h. (let (net, e, k) = one_linked text (own_netlist text netlist d) at name h in (net, e)))

pub names_determine_nets : NamesDetermineNets
names_determine_nets text netlist net name d =
    subst (λ (n : Netlist). IsNumbered n net name → number_of (map (λ (m : Net). m.name) n.nets) (net_name name.base name.bit) ≡ Some net) (sym d.is)
    (λ e. sym (number_there text (own_netlist text netlist d) net name e))

pub links_go_by_names : LinksGoByNames
links_go_by_names text netlist at net name d =
    subst (λ (n : Netlist). IsNumbered n net name → HasLink n at (One net) ↔ HasNamedLink n at (one name)) (sym d.is)
    (one_named text (own_netlist text netlist d) at net name)
