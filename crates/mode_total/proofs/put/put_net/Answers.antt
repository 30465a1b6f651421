use Rattle.std.proofs.Common.{◌≡◌, arith, List, [], Some, slice_get, subst, sym, ℕ}
use Rattle.std.proofs.lemmas.Option.{get_or_from_slice_get}
use Rattle.std.proofs.lemmas.Result.{IfOk-weaker}
use Rattle.vg_design.specs.Designs.{Design, net_names}
use Rattle.vg_design.specs.Nets.{IsPosedNet}
use Rattle.vg_design.specs.Refusals.{IsFirstRefusal, IsJoined}
use Rattle.vg_design.specs.declared.net_problem.PosedNet.{PosedNet}
use Rattle.vg_place.specs.Placings.{put_of}
use Rattle.vg_place.specs.Steps.{ArePut}
use Rattle.mode_total.specs.Steps.{kept_name}
use Rattle.mode_total.proofs.PutLemmas.{not_refused, posed_by, posed_good}
use Rattle.mode_total.proofs.put.put_net.Goals as goal

pub put_cells-requires-clause-good : goal.put_cells-requires-clause-good
put_cells-requires-clause-good c =
    let d = c.args.design.now in
    let (own, kept, good) = c.requires.good in
    let posed = c.in-Ok.posed in
    let of = subst (λ (name : List ℕ). IsPosedNet d name posed) c.in_ok-name.ensures c.in-Ok.ensures.posed in
    posed_good d own c.args.net.now kept posed c.args.placement.now.cells (posed_by d own c.args.net.now kept c.net_name.result.now posed c.net_name.ensures of) good

pub put_cells-requires-clause-behind : goal.put_cells-requires-clause-behind
put_cells-requires-clause-behind c =
    let name = c.net_name.result.now in
    let place = c.args.net.now.place in
    let posed = c.in-Ok.posed in
    let here = subst (λ (d : Design). slice_get (net_names d.spef) place ≡ Some name) (sym c.requires.design) c.net_name.ensures in
    let is = subst (λ (n : List ℕ). IsPosedNet c.args.design.now n posed) c.in_ok-name.ensures c.in-Ok.ensures.posed in
    let joined = subst (λ (d : Design). IsJoined d name posed.ready.pinned.net) (sym c.requires.design) is.joined in
    (c.requires.free place name (omega arith) here posed.ready.pinned.net joined).0

pub put_cells-requires-clause-fresh : goal.put_cells-requires-clause-fresh
put_cells-requires-clause-fresh c =
    let name = c.net_name.result.now in
    let place = c.args.net.now.place in
    let posed = c.in-Ok.posed in
    let here = subst (λ (d : Design). slice_get (net_names d.spef) place ≡ Some name) (sym c.requires.design) c.net_name.ensures in
    let is = subst (λ (n : List ℕ). IsPosedNet c.args.design.now n posed) c.in_ok-name.ensures c.in-Ok.ensures.posed in
    let joined = subst (λ (d : Design). IsJoined d name posed.ready.pinned.net) (sym c.requires.design) is.joined in
    (c.requires.free place name (omega arith) here posed.ready.pinned.net joined).1

pub returns-in-Ok : goal.returns-in-Ok
returns-in-Ok c =
    let d = c.args.design.now in
    let net = c.args.net.now in
    let cells = c.args.placement.now.cells in
    let name = c.net_name.result.now in
    let posed = c.in-Ok.posed in
    let of = subst (λ (n : List ℕ). IsPosedNet d n posed) c.in_ok-name.ensures c.in-Ok.ensures.posed in
    let named = subst (λ (n : List ℕ). IsPosedNet d n posed) (sym (get_or_from_slice_get (net_names d.spef) net.place name [] c.net_name.ensures)) of in
    IfOk-weaker c.put_cells.result (λ made. ArePut c.args.changes (put_of posed cells) made.0 made.1)
    (λ made. (x : PosedNet) × IsPosedNet d (kept_name d net) x × ArePut c.args.changes (put_of x cells) made.0 made.1)
    (λ made put. (posed, named, put)) c.put_cells.ensures

pub unreachable-requires : goal.unreachable-requires
unreachable-requires c =
    let d = c.args.design.now in
    let (own, kept, good) = c.requires.good in
    let refused = rw c.in-Err-Net.field-0-is at c.in-Err-Net.ensures.refused in
    let first = subst (λ (n : List ℕ). IsFirstRefusal d n c.in-Err-Net.field-0-0) c.in_ok-name.ensures refused in
    not_refused d own c.args.net.now kept c.net_name.result.now c.in-Err-Net.field-0-0 c.net_name.ensures first
