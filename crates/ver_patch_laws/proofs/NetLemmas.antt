-- The nets of a text by their names.
use Rattle.std.proofs.Common.{◌≡◌, ℕ, List, [], map, Option, Some, refl, sym, ap, ◌∙◌, subst}
use Rattle.std.specs.Prelude.{slice_get}
use Rattle.std.specs.List.{flat_map}
use Rattle.std.proofs.lemmas.Option.{get_or_from_slice_get, same_Some, slice_get_within}
use Rattle.name_tables.specs.Distinct.{number_in, number_of}
use Rattle.name_tables.proofs.NameTableLemmas.{is_number, number_known}
use Rattle.ver_syntax.specs.declared.row.Row.{Row}
use Rattle.ver_module.specs.Ranges.{bits_of}
use Rattle.ver_items.specs.Declarations.{declared_of, direction_in, is_supply_in, range_in}
use Rattle.ver_items.specs.Sections.{name_at}
use Rattle.ver_module.specs.Netlists.{Net, net_name}
use Rattle.ver_file.specs.Modules.{Denotes}
use Rattle.ver_file.specs.Nets.{net, net_names, nets_at, nets_of, tokens_of_nets}
use Rattle.ver_file.specs.Netlists.{netlist_of, number_of_bit}
use Rattle.ver_file.specs.Said.{identifiers_of}
use Rattle.ver_file.proofs.LawLemmas.{names_are_distinct}
use Rattle.ver_patch_text_laws.proofs.SectionLemmas.{get_map}
use Rattle.ver_patch_text_laws.proofs.TextLemmas.{Each}
use Rattle.ver_patch_laws.specs.Links.{NetName, name_of_net}
use Rattle.ver_patch_laws.proofs.PinLemmas.{get_mapped}
use Rattle.ver_patch_laws.proofs.RelinkedLemmas.{In, each_in}
use Rattle.ver_patch_laws.proofs.SetLemmas.{each_flat, each_from, each_map, get_in, in_flat, in_flattened, in_get, in_map, in_mapped}

-- the names of the nets of a text
abbrev pub nets_named : List ℕ → List NetName
nets_named text = map name_of_net (nets_of text)

-- an identifier with this name would have this bit
abbrev pub HasBit : List ℕ → List ℕ → Option ℕ → Type 0
HasBit text base bit = In bit (bits_of (range_in (declared_of text) base))

module _ (text : List ℕ) where
  abbrev made : List Row → List Net
  made tokens = flat_map (nets_at text (declared_of text)) tokens

  net_made : (tokens : List Row) (base : List ℕ) (bit : Option ℕ) → In base (map (name_at text) tokens) → HasBit text base bit
      → In (record { base = base; bit = bit }) (map name_of_net (made tokens))
  net_made tokens base bit known has =
      let (r, i, e) = in_mapped (name_at text) tokens base known in
      let own : In bit (bits_of (range_in (declared_of text) (name_at text r))) = subst (λ b. HasBit text b bit) e has in
      let n = net text (declared_of text) r bit in
      let among = in_flat (nets_at text (declared_of text)) tokens r n i
      (in_map (net text (declared_of text) r) (bits_of (range_in (declared_of text) (name_at text r))) bit own) in
      subst (λ b. In (record { base = b; bit = bit }) (map name_of_net (made tokens))) (sym e) (in_map name_of_net (made tokens) n among)

  made_known : (tokens : List Row) (name : NetName) → In name (map name_of_net (made tokens)) → In name.base (map (name_at text) tokens) × HasBit text name.base name.bit
  made_known tokens name h =
      let (n, i, e) = in_mapped name_of_net (made tokens) name h in
      let (r, j, k) = in_flattened (nets_at text (declared_of text)) tokens n i in
      let (bit, l, f) = in_mapped (net text (declared_of text) r) (bits_of (range_in (declared_of text) (name_at text r))) n k in
      let same : name ≡ record { base = name_at text r; bit = bit } = e ∙ ap name_of_net f in (
        subst (λ (m : NetName). In m.base (map (name_at text) tokens)) (sym same) (in_map (name_at text) tokens r j),
        subst (λ (m : NetName). HasBit text m.base m.bit) (sym same) l,
      )

  -- an identifier of nets has a net for each of its bits
  pub net_there : (base : List ℕ) (bit : Option ℕ) → In base (identifiers_of text) → HasBit text base bit → In (record { base = base; bit = bit }) (nets_named text)
  net_there base bit known has = net_made (tokens_of_nets text) base bit known has

  -- and each net is one of those
  pub there_known : (name : NetName) → In name (nets_named text) → In name.base (identifiers_of text) × HasBit text name.base name.bit
  there_known name h = made_known (tokens_of_nets text) name h

  -- what is said of a net is what its text says of its identifier
  pub record IsSaid (n : Net) : Type 0 where
    pub named : n.name ≡ net_name n.base n.bit
    pub port : n.port ≡ direction_in (declared_of text) n.base
    pub supply : n.supply ≡ is_supply_in (declared_of text) n.base

  pub nets_said : Each IsSaid (nets_of text)
  nets_said =
      each_flat IsSaid (nets_at text (declared_of text)) (tokens_of_nets text)
      (each_from (λ r. Each IsSaid (nets_at text (declared_of text) r)) (tokens_of_nets text)
      (λ r i. each_map IsSaid (net text (declared_of text) r) (bits_of (range_in (declared_of text) (name_at text r)))
      (each_from (λ bit. IsSaid (net text (declared_of text) r bit)) (bits_of (range_in (declared_of text) (name_at text r)))
      (λ bit j. record { named = refl; port = refl; supply = refl }))))

  -- the net of a number
  pub record IsAt (id : ℕ) (name : NetName) : Type 0 where
    pub net : Net
    pub is : slice_get (nets_of text) id ≡ Some net
    pub named : name ≡ name_of_net net
    pub said : IsSaid net

  pub net_at : (id : ℕ) (name : NetName) → slice_get (nets_named text) id ≡ Some name → IsAt id name
  net_at id name e =
      let (n, f, g) = get_map name_of_net (nets_of text) id name e in
      record { net = n; is = f; named = g; said = each_in IsSaid (nets_of text) n nets_said (get_in (nets_of text) id n f) }

module _ (text : List ℕ) (d : Denotes text (netlist_of text)) where
  -- its name leads to its number
  pub number_there : (id : ℕ) (name : NetName) → slice_get (nets_named text) id ≡ Some name → Some id ≡ number_of (net_names text) (net_name name.base name.bit)
  number_there id name e =
      let a = net_at text id name e in
      let own : slice_get (net_names text) id ≡ Some a.net.name = get_mapped (λ (n : Net). n.name) (nets_of text) id a.net a.is in
      let said : a.net.name ≡ net_name name.base name.bit = a.said.named ∙ ap (λ (m : NetName). net_name m.base m.bit) (sym a.named) in
      is_number (net_names text) (net_name name.base name.bit) id (names_are_distinct text (netlist_of text) d) (slice_get_within (net_names text) id a.net.name own)
      (get_or_from_slice_get (net_names text) id a.net.name [] own ∙ said)

  pub number_is : (id : ℕ) (name : NetName) → slice_get (nets_named text) id ≡ Some name → id ≡ number_of_bit text name.base name.bit
  number_is id name e = number_known (net_names text) (net_name name.base name.bit) id (number_there id name e)

  pub same_number : (i j : ℕ) (name : NetName) → slice_get (nets_named text) i ≡ Some name → slice_get (nets_named text) j ≡ Some name → i ≡ j
  same_number i j name e f = number_is i name e ∙ sym (number_is j name f)

  -- two nets whose names are written alike are one
  pub same_name : (a b : NetName) → In a (nets_named text) → In b (nets_named text) → net_name a.base a.bit ≡ net_name b.base b.bit → a ≡ b
  same_name a b h k e =
      let (i, f) = in_get (nets_named text) a h in
      let (j, g) = in_get (nets_named text) b k in
      let same : i ≡ j = number_is i a f ∙ ap (number_in (net_names text)) e ∙ sym (number_is j b g) in
      same_Some a b (sym f ∙ ap (slice_get (nets_named text)) same ∙ g)

  -- a net of an identifier by its number
  pub bit_numbered : (base : List ℕ) (bit : Option ℕ) → In base (identifiers_of text) → HasBit text base bit
      → slice_get (nets_named text) (number_of_bit text base bit) ≡ Some (record { base = base; bit = bit })
  bit_numbered base bit known has =
      let name : NetName = record { base = base; bit = bit } in
      let (k, e) = in_get (nets_named text) name (net_there text base bit known has) in
      ap (slice_get (nets_named text)) (sym (number_is k name e)) ∙ e
