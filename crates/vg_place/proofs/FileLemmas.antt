-- What is replaced in the texts of a design.
use Rattle.std.proofs.Common.{◌≡◌, ℕ, Bool, true, false, List, [], ◌∷◌, refl, sym, ap, ◌∙◌, subst, arith, length}
use Rattle.ver_file.specs.Modules.{Denotes}
use Rattle.vg_change.specs.Changes.{Changes, HavePut, nothing}
use Rattle.vg_change.specs.Patches.{ArePatchesOf}
use Rattle.vg_change.specs.Placed.{PlacedNet}
use Rattle.vg_change.specs.declared.changes.Patches.{Patches}
use Rattle.vg_design.specs.Designs.{Design}
use Rattle.vg_patch.specs.Edits.{Edit, Rise, patched}
use Rattle.vg_place.proofs.PutLemmas.{put_stays}
use Rattle.vg_place.specs.Placings.{AreFilesOf, Files}
use Rattle.vg_place.specs.Steps.{ArePatchesFor, ArePut, FitIn, HaveChange, files_with, has_any}

module _ (patches : Patches) (verilog : patches.verilog ≡ []) (spef : patches.spef ≡ []) where
  -- nothing can be replaced in every text, which then stays
  nothing_fits : (d : Design) → FitIn d patches
  nothing_fits d = record {
    verilog = λ text _. subst (λ (edits : List Edit). Rise 0 (length text) edits) (sym verilog) (omega arith);
    spef = subst (λ (edits : List Edit). Rise 0 (length d.spef) edits) (sym spef) (omega arith);
  }

  files_stay : (read : Files) → files_with patches read ≡ read
  files_stay read = λ i. record { verilog = ap (patched read.verilog) verilog i; spef = ap (patched read.spef) spef i }

module _ (d : Design) (prefix : List ℕ) (nets : List PlacedNet) (c : Changes) (patches : Patches) where
  same_netlist : HavePut (nothing d prefix) nets c → c.design.netlist ≡ d.netlist
  same_netlist put = ap (λ (x : Design). x.netlist) (put_stays (nothing d prefix) nets c put).0

  no_change : nets ≡ [] → (patches.verilog ≡ []) × (patches.spef ≡ []) → ArePatchesFor d prefix nets patches
  no_change none (verilog, spef) = record {
    fit = nothing_fits patches verilog spef d;
    make = λ read _.
        subst (AreFilesOf read d prefix nets) (sym (files_stay patches verilog spef read)) (record { bare = λ _. refl; changed = λ some. absurd (some none) });
  }

  some_change : (nets ≡ [] → ⊥) → HavePut (nothing d prefix) nets c → ArePatchesOf c patches → ArePatchesFor d prefix nets patches
  some_change some put are = record {
    fit = record {
      verilog = λ text denotes. are.fit_verilog text (subst (Denotes text) (sym (same_netlist put)) denotes);
      spef = subst (λ (x : Design). Rise 0 (length x.spef) patches.spef) (put_stays (nothing d prefix) nets c put).0 are.fit_spef;
    };
    make = λ read denotes. record {
      bare = λ none. absurd (some none);
      changed = λ _. record { changes = c; put = put; made = are.make read.spef read.verilog (subst (Denotes read.verilog) (sym (same_netlist put)) denotes) };
    };
  }

  pub patches_are : (changed : Bool) → ArePut (nothing d prefix) nets c changed → HaveChange c changed patches → ArePatchesFor d prefix nets patches
  patches_are true put have = some_change (λ none. (let e : true ≡ false = put.told ∙ ap has_any none in absurd cc)) put.put have
  patches_are false put have = no_change (by_any nets (sym put.told)) have
    where
      by_any : (ps : List PlacedNet) → has_any ps ≡ false → ps ≡ []
      by_any [] e = refl
      by_any (p ∷ ps) e = absurd cc
