-- What a net that is split into stages keeps.
use Rattle.std.specs.Prelude.{◌≡◌, ℕ, ◌+◌, ◌-◌, ◌<◌, ◌≤◌, ◌^◌, ◌==◌, true, false, List, length, slice_index, slice_index_or, Some, None}
use Rattle.std.specs.List.{All, AllPass, starts_with}
use Rattle.lib_linear.specs.declared.repeater.Repeater.{Repeater}
use Rattle.rc_tree.specs.Answers.{ListsAll}
use Rattle.spef_net.specs.Lines.{is_space}
use Rattle.vg_scan.specs.Printed.{is_solid, IsPrintable}
use Rattle.vg_split.specs.Stages.{heads}
use Rattle.spef_write.specs.Sections.{total}
use Rattle.vg_split.specs.Splits.{Split, forest, is_celled, old_node}

-- the names of a repeater can be words; a note ends with the cell's, and so it has no carriage return at its end
pub record IsNamed (r : Repeater) : Type 0 where
  pub cell : IsPrintable r.cell
  pub ends : is_space (slice_index r.cell (length r.cell - 1)) ≡ false
  pub input : IsPrintable r.input
  pub output : IsPrintable r.output

-- a name does not begin with the prefix
abbrev pub IsOld : List ℕ → List ℕ → Type 0
IsOld prefix name = starts_with ◌==◌ name prefix ≡ false

-- new names can be words, and are none that the net has
pub record AreNewNames (x : Split) : Type 0 where
  pub prefix : AllPass is_solid x.prefix
  pub name : IsOld x.prefix x.par.name
  pub owners : All (λ node. IsOld x.prefix node.name.owner) x.par.nodes

-- the net's tree has all its nodes; cells stand at inner nodes below its root, each a repeater by its number
pub record IsSplit (x : Split) : Type 0 where
  pub order : ListsAll (length x.par.nodes) x.order
  pub tree : length x.problem.tree.nodes ≡ length x.par.nodes
  pub one_each : length x.cells ≡ length x.par.nodes
  pub root : slice_index_or x.cells 0 None ≡ None
  pub numbered : (w b : ℕ) → slice_index_or x.cells w None ≡ Some b → b < length x.repeaters
  pub inner : (w : ℕ) → is_celled x w ≡ true → (old_node x w).inner ≡ true
  pub repeaters : All IsNamed x.repeaters
  pub keeper : x.keeper < length (heads (forest x))
  pub few : x.first + length x.cells < 2 ^ 64
  pub charge : total x.par.caps ≤ 10 ^ 15
  pub new : AreNewNames x
