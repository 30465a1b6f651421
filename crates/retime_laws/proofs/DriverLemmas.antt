-- What drives the net of a stage: the driver of the net that is split, or the output of a cell.
use Rattle.std.proofs.Common.{◌<◌, ◌≡◌, ℕ, true, false, cond, length, refl, sym, ap, ◌∙◌, inl, inr, pos}
use Rattle.std.specs.Prelude.{unwrap_or}
use Rattle.std.proofs.lemmas.Bool.{cases_Bool}
use Rattle.vg_cons.specs.Rows.{arrival_of}
use Rattle.vg_design.specs.Designs.{Design, Joined, driver_at, is_port, pin_driver, pin_drive_of, pin_limit_of, port_driver}
use Rattle.vg_scan.specs.declared.name.NodeName.{NodeName}
use Rattle.vg_split.specs.Splits.{Split, forest, head, is_celled, name_in, old_node, repeater_at}
use Rattle.vg_split.specs.Stages.{heads}
use Rattle.retime_laws.specs.NewStages.{HasStages, IsPut, stage_net}
use Rattle.retime_laws.proofs.AcceptLemmas.{head_is_end, head_there, old_root_name}
use Rattle.retime_laws.proofs.EndLemmas.{kept}
use Rattle.retime_laws.proofs.PinLemmas.{drive_kept, drive_new, limit_kept, no_port_head}

module _ (d : Design) (n : Joined) (x : Split) (new : Design) (put : IsPut d n x) (has : HasStages d n x new) (k : ℕ) (low : k < length (heads (forest x))) where
  abbrev net : Joined
  net = stage_net has k low

  same_driver : (at : NodeName)
      → (is_port at ≡ false → (pin_drive_of new net at ≡ pin_drive_of d n at) × (pin_limit_of new net at ≡ pin_limit_of d n at))
      → driver_at d n at ≡ driver_at new net at
  same_driver at pin = elim (cases_Bool (is_port at)) [
    | inl port ↦
        ap (λ b. cond b (port_driver d.rows at) (pin_driver d n at)) port ∙ ap (λ rows. port_driver rows at) (sym has.rows)
        ∙ ap (λ b. cond b (port_driver new.rows at) (pin_driver new net at)) (sym port)
    | inr leafy ↦
        let (drive, limit) = pin leafy in
        ap (λ b. cond b (port_driver d.rows at) (pin_driver d n at)) leafy
        ∙ (λ i. record {
          k = pos (unwrap_or (sym drive i) (0, 0)).0;
          r = (unwrap_or (sym drive i) (0, 0)).1;
          arrival = arrival_of (sym has.rows i) at;
          limit = sym limit i;
        })
        ∙ ap (λ b. cond b (port_driver new.rows at) (pin_driver new net at)) (sym leafy)
  ]

  -- without a cell where the stage begins, the driver of the net that is split
  pub old_driver : is_celled x (head x k) ≡ false → x.problem.driver ≡ driver_at new net (name_in x k (head x k))
  old_driver bare =
      let was = kept d n x put.split k low (head x k) (head_is_end d n x new put has k low) bare in
      let there = head_there d n x new put has k low in
      put.split.problem.driver ∙ ap (driver_at d n) (old_root_name d n x new put has k low bare)
      ∙ same_driver (old_node x (head x k)).name
      (λ leafy. (drive_kept d n x new put has k low (head x k) there bare leafy, limit_kept d n x new put has k low (head x k) there bare leafy))
      ∙ ap (driver_at new net) (sym was.name)

  -- with one, its output
  pub cell_driver : (celled : is_celled x (head x k) ≡ true)
      → driver_at new net (name_in x k (head x k)) ≡ record {
        k = pos (repeater_at x (head x k)).rep.k;
        r = (repeater_at x (head x k)).rep.r;
        arrival = arrival_of new.rows (name_in x k (head x k));
        limit = pin_limit_of new net (name_in x k (head x k));
      }
  cell_driver celled =
      let there = head_there d n x new put has k low in
      let drive = drive_new d n x new put has k low (head x k) there celled refl in
      ap (λ b. cond b (port_driver new.rows (name_in x k (head x k))) (pin_driver new net (name_in x k (head x k))))
      (no_port_head d n x new put has k low (head x k) there celled refl)
      ∙ (λ i. record {
        k = pos (unwrap_or (drive i) (0, 0)).0;
        r = (unwrap_or (drive i) (0, 0)).1;
        arrival = arrival_of new.rows (name_in x k (head x k));
        limit = pin_limit_of new net (name_in x k (head x k));
      })
