-- Read again, each net re-times to the slack of its placement.
use Rattle.std.proofs.Common.{◌≡◌, ℕ, ◌<◌, List, length, refl, sym, ap, subst, arith, ℤ}
use Rattle.std.specs.List.{Contains}
use Rattle.elmore.specs.Placements.{HasPolarity, IsSlack}
use Rattle.spef_file.specs.Files.{file_lines}
use Rattle.spef_file.specs.HeaderLines.{chars_of}
use Rattle.ver_patch_laws.proofs.RelinkedLemmas.{In}
use Rattle.retime_laws.proofs.RetimeLemmas.{placed_nets_are_refused, placed_nets_retime as chains_retime, placed_nets_time}
use Rattle.retime_laws.specs.NetlistStages.{IsStageIn}
use Rattle.retime_laws.specs.NewStages.{HasStages, IsPut, IsStageInParasitics}
use Rattle.vg_change.proofs.PairLemmas.{of_all}
use Rattle.vg_change.proofs.RowLemmas.{name_is}
use Rattle.vg_change.specs.Placed.{PlacedNet, split_of}
use Rattle.change_spef_laws.proofs.PieceLemmas.{nets_split}
use Rattle.change_spef_laws.specs.Nets.{IsPlacedNet, IsStageRead}
use Rattle.vg_design.specs.Designs.{Design}
use Rattle.vg_design.specs.Refusals.{IsJoined}
use Rattle.design_read.proofs.LawLemmas.{one_is}
use Rattle.design_read.specs.Designs.{Texts}
use Rattle.split_laws.specs.StagePieces.{IsSplitOf}
use Rattle.change_netlist_laws.proofs.NewStageLemmas.{stages_are_nets}
use Rattle.change_netlist_laws.proofs.PrefixLemmas.{nets_are_split}
use Rattle.change_netlist_laws.proofs.PutLemmas.{is_among, placing, placings}
use Rattle.change_netlist_laws.specs.Put.{IsSplitAs}
use Rattle.vg_scan.specs.Comments.{without_comments}
use Rattle.vg_scan.specs.declared.chars.Chars.{Chars}
use Rattle.vg_scan.specs.declared.comments.Comments.TheVariants.{Spef}
use Rattle.vg_split.specs.Splits.{Split, forest}
use Rattle.vg_split.specs.Stages.{heads}
use Rattle.change_laws.proofs.DesignLemmas.{again, by, is_design, netlist, renewed, stages}
use Rattle.change_laws.proofs.LibraryLemmas.{of_cells}
use Rattle.change_laws.proofs.PlacingLemmas.{of_splits, of_zipped}
use Rattle.change_laws.specs.Laws.{PlacedNetsRetimeInTexts}
use Rattle.change_laws.specs.Written.{AreWrittenAnew, RetimesTo}

module _ (texts : Texts) (d : Design) (prefix : List ℕ) (nets : List PlacedNet) (new : Texts) (w : AreWrittenAnew texts d prefix nets new) (p : PlacedNet)
    (there : Contains nets p) (x : Split) (how : IsSplitAs d prefix nets w.changes p x) where
  abbrev now : Design
  now = again texts d prefix nets new w

  abbrev chars : Chars
  chars = chars_of (file_lines d.spef)

  among : In (record { p = p; x = x }) (placings d prefix 0 nets)
  among = is_among d prefix nets w.changes p x how

  x_is : x ≡ split_of d prefix x.first p
  x_is = (placing d prefix nets 0 (record { p = p; x = x }) among).is

  own : IsPlacedNet d p
  own = of_all (IsPlacedNet d) nets p w.nets_are there

  -- ---- the net, as it is split

  split : IsSplitOf d p.net x
  split =
      of_zipped d prefix (λ q y. IsSplitOf d q.net y) 0 nets (record { p = p; x = x }) among
      (nets_split d prefix nets w.changes (by texts d prefix nets new w))

  put : IsPut d p.net x
  put = record {
    split = split;
    name = own.name;
    joined = subst (λ (q : PlacedNet). IsJoined d own.name q.net) (sym own.is) own.net.joined;
    accepted = λ r low. own.net.accepted r (omega (arith, low));
    library = of_cells texts.lib d.library w.design.library;
  }

  -- ---- the nets of its stages

  stage_read : (k : ℕ) → k < length (heads (forest x)) → IsStageRead (without_comments Spef new.spef) chars x k
  stage_read =
      of_splits d prefix (λ y. (k : ℕ) → k < length (heads (forest y)) → IsStageRead (without_comments Spef new.spef) chars y k) 0 nets
      (record { p = p; x = x }) among (stages texts d prefix nets new w).stages

  in_parasitics : (k : ℕ) → k < length (heads (forest x)) → IsStageInParasitics d p.net x now k
  in_parasitics k low =
      let is = stage_read k low in
      record {
        read = is.read;
        named = is.named;
        is_read = record {
          net = is.net;
          stage = record { split = split; number = low; chars = chars; of_stage = is.stage_net };
          again = is.again is.read is.named;
        };
      }

  in_netlist : (k : ℕ) → k < length (heads (forest x)) → IsStageIn d.netlist p.net.id x now.netlist k
  in_netlist k low =
      let r = renewed texts d prefix nets new w in
      stages_are_nets texts.verilog d prefix nets w.changes new.verilog (netlist texts d prefix nets new w) r.renewed r.denotes r.is p x how k low

  has : HasStages d p.net x now
  has = record { library = refl; rows = refl; parasitics = in_parasitics; netlist = in_netlist }

  -- ---- its slack

  module _ (slack : ℤ) (is : IsSlack p.problem p.cells slack) (wanted : (v : ℕ) → HasPolarity p.problem p.cells v) where
    is_slack : IsSlack x.problem x.cells slack
    is_slack = subst (λ (y : Split). IsSlack y.problem y.cells slack) (sym x_is) is

    are_wanted : (v : ℕ) → HasPolarity x.problem x.cells v
    are_wanted = subst (λ (y : Split). (v : ℕ) → HasPolarity y.problem y.cells v) (sym x_is) wanted

    by_split : RetimesTo now x.prefix put.name slack
    by_split = record {
      retimes = chains_retime d p.net x now put has slack is_slack are_wanted;
      told = placed_nets_time d p.net x now put has slack is_slack are_wanted;
      refused = placed_nets_are_refused d p.net x now put has slack is_slack are_wanted;
    }

    pub retimes_now : RetimesTo now prefix p.net.par.name slack
    retimes_now =
        subst (λ (q : List ℕ). RetimesTo now q p.net.par.name slack) (ap (λ (y : Split). y.prefix) x_is)
        (subst (λ (m : List ℕ). RetimesTo now x.prefix m slack) (name_is d.spef put.name p.net.par put.joined.named) by_split)

pub placed_nets_retime : PlacedNetsRetimeInTexts
placed_nets_retime texts d prefix nets new w other is_other p there slack is wanted =
    let (x, how) = nets_are_split d prefix nets w.changes p w.put there in
    subst (λ (e : Design). RetimesTo e prefix p.net.par.name slack)
    (one_is new (again texts d prefix nets new w) other (is_design texts d prefix nets new w) is_other)
    (retimes_now texts d prefix nets new w p there x how slack is wanted)
