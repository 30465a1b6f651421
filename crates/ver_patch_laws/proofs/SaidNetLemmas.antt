-- Ports and ties by the names of nets.
use Rattle.std.proofs.Common.{◌≡◌, ℕ, ◌<◌, true, List, map, length, Some, refl, sym, ap, ◌∙◌, subst}
use Rattle.std.specs.Prelude.{option_and_then, slice_get}
use Rattle.std.specs.List.{All}
use Rattle.std.proofs.lemmas.List.Elements.{All-contains}
use Rattle.std.proofs.lemmas.Option.{same_Some}
use Rattle.ver_module.specs.Ranges.{bits_of}
use Rattle.ver_items.specs.Declarations.{declared_of, direction_in, is_supply_in}
use Rattle.ver_module.specs.declared.direction.PortDir.{PortDir}
use Rattle.ver_module.specs.declared.link.Link.{Link}
use Rattle.ver_module.specs.declared.link.Link.TheVariants.{Open, One, Many}
use Rattle.ver_module.specs.Netlists.{Net}
use Rattle.ver_file.specs.Modules.{Denotes}
use Rattle.ver_file.specs.Nets.{nets_of}
use Rattle.ver_file.specs.Netlists.{assigned_of, netlist_of}
use Rattle.ver_file.specs.Said.{identifiers_of}
use Rattle.ver_file.proofs.LinkLemmas.{assigned_within}
use Rattle.ver_net.specs.Laws.{HasLink, IsTied as IsTiedNet}
use Rattle.ver_net.specs.declared.pin_ref.PinRef.{PinRef}
use Rattle.ver_net.proofs.TiedLemmas.{tied_nets_are_shared}
use Rattle.ver_patch_laws.specs.Links.{NetName}
use Rattle.ver_patch_laws.specs.Links.NamedLink.{several}
use Rattle.ver_patch_laws.proofs.NameLemmas.{HaveRanges}
use Rattle.ver_patch_laws.proofs.RelinkedLemmas.{In}
use Rattle.ver_patch_laws.specs.Names.{HasNamedLink, IsPort, IsTied, name_at, named_link_of}
use Rattle.ver_patch_laws.proofs.DeclaredLemmas.{declared_known, direction_said, supply_said}
use Rattle.ver_patch_laws.proofs.ItemFromLemmas.{assigned_named, names_assigned}
use Rattle.ver_patch_laws.proofs.NamedLemmas.{at_number, within}
use Rattle.ver_patch_laws.proofs.NetLemmas.{net_at, net_there, nets_named, there_known}
use Rattle.ver_patch_laws.proofs.SetLemmas.{contains_in, get_in, in_contains, in_get, in_map, in_mapped}

-- ---- nets by names

-- an identifier that is declared has a net for each of its bits
declared_net : (text new : List ℕ) → HaveRanges text new → (name : NetName) → In name (nets_named text) → In name.base (identifiers_of new) → In name (nets_named new)
declared_net text new ranges name i known =
    net_there new name.base name.bit known (subst (λ r. In name.bit (bits_of r)) (ranges name.base) (there_known text name i).1)

port_is : (text : List ℕ) (net : ℕ) (name : NetName) → slice_get (nets_named text) net ≡ Some name
    → option_and_then (λ (n : Net). n.port) (slice_get (nets_of text) net) ≡ direction_in (declared_of text) name.base
port_is text net name e =
    let n = net_at text net name e in
    ap (option_and_then (λ (n : Net). n.port)) n.is ∙ n.said.port ∙ ap (λ (a : NetName). direction_in (declared_of text) a.base) (sym n.named)

-- ports of a text are those of another that says the same of identifiers
pub port_moves : (text new : List ℕ) → HaveRanges text new → ((name : List ℕ) → direction_in (declared_of text) name ≡ direction_in (declared_of new) name)
    → (name : NetName) (direction : PortDir) → IsPort (netlist_of text) name direction → IsPort (netlist_of new) name direction
port_moves text new ranges directions name direction h =
    let said : direction_in (declared_of text) name.base ≡ Some direction = sym (port_is text h.net name h.number) ∙ h.port in
    let now : direction_in (declared_of new) name.base ≡ Some direction = sym (directions name.base) ∙ said in
    let known = declared_known new name.base (direction_said name.base (declared_of new) direction now) in
    let (k, e) = in_get (nets_named new) name (declared_net text new ranges name (get_in (nets_named text) h.net name h.number) known) in
    record { net = k; number = e; port = port_is new k name e ∙ now }

-- ---- ties by names

-- a net is a supply, or stands in an assignment, or in a link to several nets
pub data IsShared (text : List ℕ) (name : NetName) : Type 0 where
  supplied : In name (nets_named text) → is_supply_in (declared_of text) name.base ≡ true → IsShared text name
  assigned : In name (names_assigned text) → IsShared text name
  linked : (at : PinRef) (names : List NetName) → HasNamedLink (netlist_of text) at (several names) → In name names → IsShared text name

pub supply_moves : (text new : List ℕ) → HaveRanges text new → ((name : List ℕ) → is_supply_in (declared_of text) name ≡ is_supply_in (declared_of new) name)
    → (name : NetName) → In name (nets_named text) → is_supply_in (declared_of text) name.base ≡ true → IsShared new name
supply_moves text new ranges supplies name i e =
    let now = sym (supplies name.base) ∙ e in
    IsShared.supplied (declared_net text new ranges name i (declared_known new name.base (supply_said name.base (declared_of new) now))) now

module _ (text : List ℕ) (d : Denotes text (netlist_of text)) where
  -- a net of a list by its number
  name_is : (net : ℕ) (name : NetName) → slice_get (nets_named text) net ≡ Some name → net < length (nets_of text) → name_at (netlist_of text) net ≡ name
  name_is net name e low = same_Some (name_at (netlist_of text) net) name (sym (at_number text d net low) ∙ e)

  -- a net among some numbers, and its name among their names
  names_in : (nets : List ℕ) → All (λ n. n < length (nets_of text)) nets → (net : ℕ) (name : NetName) → slice_get (nets_named text) net ≡ Some name → In net nets
      → In name (map (name_at (netlist_of text)) nets)
  names_in nets all net name e i =
      let low : net < length (nets_of text) = All-contains (λ n. n < length (nets_of text)) nets net all (in_contains nets net i) in
      subst (λ (a : NetName). In a (map (name_at (netlist_of text)) nets)) (name_is net name e low) (in_map (name_at (netlist_of text)) nets net i)

  number_in : (nets : List ℕ) → All (λ n. n < length (nets_of text)) nets → (name : NetName) → In name (map (name_at (netlist_of text)) nets)
      → (net : ℕ) × (slice_get (nets_named text) net ≡ Some name) × In net nets
  number_in nets all name i =
      let (n, j, e) = in_mapped (name_at (netlist_of text)) nets name i in
      let low : n < length (nets_of text) = All-contains (λ m. m < length (nets_of text)) nets n all (in_contains nets n j) in
      (n, at_number text d n low ∙ ap Some (sym e), j)

  pub tied_shared : (name : NetName) → IsTied (netlist_of text) name → IsShared text name
  tied_shared name h = by_tie ((tied_nets_are_shared (netlist_of text) h.net).0 h.tied)
    where
      by_tie : IsTiedNet (netlist_of text) h.net → IsShared text name
      by_tie (IsTiedNet.by_supply n e s) =
          let a = net_at text h.net name h.number in
          let same : n ≡ a.net = same_Some n a.net (sym e ∙ a.is) in
          IsShared.supplied (get_in (nets_named text) h.net name h.number)
          (ap (λ (x : NetName). is_supply_in (declared_of text) x.base) a.named ∙ sym a.said.supply ∙ ap (λ (x : Net). x.supply) (sym same) ∙ s)
      by_tie (IsTiedNet.by_assignment i) =
          IsShared.assigned (subst (In name) (assigned_named text d)
          (names_in (assigned_of text) (assigned_within text d.flawless) h.net name h.number (contains_in (assigned_of text) h.net i)))
      by_tie (IsTiedNet.by_link at nets k i) =
          IsShared.linked at (map (name_at (netlist_of text)) nets) (record { link = Many nets; has = k; is = refl })
          (names_in nets (within text d at (Many nets) k) h.net name h.number (contains_in nets h.net i))

  tie : (net : ℕ) (name : NetName) → slice_get (nets_named text) net ≡ Some name → IsTiedNet (netlist_of text) net → IsTied (netlist_of text) name
  tie net name e t = record { net = net; number = e; tied = (tied_nets_are_shared (netlist_of text) net).1 t }

  pub shared_tied : (name : NetName) → IsShared text name → IsTied (netlist_of text) name
  shared_tied name (IsShared.supplied i e) =
      let (k, f) = in_get (nets_named text) name i in
      let a = net_at text k name f in
      tie k name f (IsTiedNet.by_supply a.net a.is (a.said.supply ∙ ap (λ (x : NetName). is_supply_in (declared_of text) x.base) (sym a.named) ∙ e))
  shared_tied name (IsShared.assigned i) =
      let (k, f, j) = number_in (assigned_of text) (assigned_within text d.flawless) name (subst (In name) (sym (assigned_named text d)) i) in
      tie k name f (IsTiedNet.by_assignment (in_contains (assigned_of text) k j))
  shared_tied name (IsShared.linked at names h i) = by_link h.link h.has h.is
    where
      by_link : (link : Link) → HasLink (netlist_of text) at link → named_link_of (netlist_of text) link ≡ several names → IsTied (netlist_of text) name
      by_link Open k e = absurd (cc)
      by_link (One n) k e = absurd (cc)
      by_link (Many nets) k e =
          let same : map (name_at (netlist_of text)) nets ≡ names = cc in
          let (n, f, j) = number_in nets (within text d at (Many nets) k) name (subst (In name) (sym same) i) in
          tie n name f (IsTiedNet.by_link at nets k (in_contains nets n j))
