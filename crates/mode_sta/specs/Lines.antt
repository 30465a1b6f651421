-- The lines of mode `sta`.
use Rattle.std.specs.Prelude.{ℕ, ℤ, List, ◌++◌, codes}
use Rattle.std.specs.Fmt.{signed_decimal}
use Rattle.std.specs.List.{flat_map}
use Rattle.vg_report.specs.Reports.{printed_node}
use Rattle.vg_scan.specs.declared.name.NodeName.{NodeName}
use Rattle.vg_sta.specs.declared.answer.Sta.{Sta}
use Rattle.vg_sta.specs.declared.answer.StaNet.{StaNet}

-- `design worst S end PIN`, with S in zs
abbrev pub worst_line : ℤ → NodeName → List ℕ
worst_line worst end =
    codes "design worst " ++ (signed_decimal worst ++ (codes " end " ++ (printed_node end ++ codes "\n")))

-- `net NAME slack S`, with S in zs
abbrev pub net_line : StaNet → List ℕ
net_line n = codes "net " ++ (n.net ++ (codes " slack " ++ (signed_decimal n.slack ++ codes "\n")))

-- the least slack of all paths and the first endpoint of one with it, and then the least slack through each net
abbrev pub sta_report : Sta → List ℕ
sta_report found = worst_line found.worst found.end ++ flat_map net_line found.nets

-- `design refused Cycle NAME`
abbrev pub cycle_line : List ℕ → List ℕ
cycle_line name = codes "design refused Cycle " ++ (name ++ codes "\n")

-- `design refused NoPath`
abbrev pub no_path_line : List ℕ
no_path_line = codes "design refused NoPath\n"
