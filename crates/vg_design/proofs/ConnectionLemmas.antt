-- The connections that a design keeps are those of its netlist.
use Rattle.std.proofs.Common.{◌≡◌, ℕ, ◌<◌, false, [], length, get_or, ap, ◌∙◌, arith}
use Rattle.std.proofs.lemmas.List.FromFn.{get_or-map-range_with_len, length-map-range_with_len}
use Rattle.ver_module.specs.Netlists.{Netlist}
use Rattle.ver_net.specs.Connections.{Connections, connections, is_tied, pins_on}

module _ (netlist : Netlist) (found : Connections) (are : found ≡ connections netlist) where
  pub tied_size : length found.tied ≡ length netlist.nets
  tied_size = ap (λ (c : Connections). length c.tied) are ∙ length-map-range_with_len (is_tied netlist) 0 (length netlist.nets)

  pub pins_size : length found.pins ≡ length netlist.nets
  pins_size = ap (λ (c : Connections). length c.pins) are ∙ length-map-range_with_len (pins_on netlist) 0 (length netlist.nets)

  module _ (id : ℕ) (h : id < length netlist.nets) where
    pub tied_is : get_or found.tied id false ≡ is_tied netlist id
    tied_is = ap (λ (c : Connections). get_or c.tied id false) are ∙ get_or-map-range_with_len (is_tied netlist) 0 (length netlist.nets) id id false h (omega arith)

    pub pins_are : get_or found.pins id [] ≡ pins_on netlist id
    pins_are = ap (λ (c : Connections). get_or c.pins id []) are ∙ get_or-map-range_with_len (pins_on netlist) 0 (length netlist.nets) id id [] h (omega arith)

    pub tied_within : id < length found.tied
    tied_within = let size = tied_size in omega (arith, size, h)

    pub pins_within : id < length found.pins
    pins_within = let size = pins_size in omega (arith, size, h)
