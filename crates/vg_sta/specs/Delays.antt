-- The delays of a net while they are summed up: for the functions between.
use Rattle.std.specs.Prelude.{◌≡◌, ℕ, ◌<◌, ◌≤◌, ◌*◌, List, length, slice_index_or, ℤ, pos, ◌+ℤ◌}
use Rattle.elmore.specs.Trees.{total_capacitance}
use Rattle.elmore.specs.Wire.{delay_in}
use Rattle.vg_design.specs.declared.bare_parts.BareNet.{BareNet}

-- the delay of the driver into all of the net, and those of the wire to each node
pub record AreDelays (net : BareNet) (driven : ℤ) (delays : List ℤ) : Type 0 where
  pub driver : driven ≡ net.driver.k +ℤ pos (net.driver.r * total_capacitance net.tree.nodes)
  pub long : length net.tree.nodes ≤ length delays
  pub wire : (u : ℕ) → u < length net.tree.nodes → slice_index_or delays u (pos 0) ≡ pos (delay_in net.tree.nodes u)
