-- What a caller knows of the connections of a module.
use Rattle.std.proofs.Common.{arith, ◌≡◌, ℕ, ◌<◌, false, [], length}
use Rattle.std.specs.Prelude.{slice_index_or}
use Rattle.std.proofs.lemmas.List.FromFn.{length-map-range_with_len, get_or-map-range_with_len}
use Rattle.ver_module.specs.Netlists.{Netlist}
use Rattle.ver_net.specs.Connections.{connections, pins_on, is_tied}

pub length-pins : (m : Netlist) → length (connections m).pins ≡ length m.nets
length-pins m = length-map-range_with_len (pins_on m) 0 (length m.nets)

pub length-tied : (m : Netlist) → length (connections m).tied ≡ length m.nets
length-tied m = length-map-range_with_len (is_tied m) 0 (length m.nets)

-- what `pins_of` answers
pub pins_at : (m : Netlist) (net : ℕ) → net < length m.nets → slice_index_or (connections m).pins net [] ≡ pins_on m net
pins_at m net h = get_or-map-range_with_len (pins_on m) 0 (length m.nets) net net [] h (omega arith)

-- what `is_tied` answers
pub tied_at : (m : Netlist) (net : ℕ) → net < length m.nets → slice_index_or (connections m).tied net false ≡ is_tied m net
tied_at m net h = get_or-map-range_with_len (is_tied m) 0 (length m.nets) net net false h (omega arith)
