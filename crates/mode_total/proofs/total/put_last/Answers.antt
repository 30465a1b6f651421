use Rattle.std.proofs.Common.{◌≡◌, ◌∙◌, ap, false, List, subst, sym, zip}
use Rattle.std.proofs.lemmas.List.{nil_from_length}
use Rattle.std.proofs.lemmas.Result.{IfOk-weaker}
use Rattle.ver_file.specs.Modules.{Denotes}
use Rattle.vg_change.specs.Changes.{Changes, nothing}
use Rattle.vg_design.specs.Designs.{Design}
use Rattle.vg_place.specs.Steps.{HaveChange}
use Rattle.vg_place.proofs.PutLemmas.{put_stays}
use Rattle.vg_front.specs.declared.root.Point.{Point as Pick}
use Rattle.vg_total.specs.declared.pick.TotalPoint.{TotalPoint}
use Rattle.mode_total.specs.Picked.{picks_in}
use Rattle.mode_total.specs.Steps.{ArePatched, ArePutInto, last_found}
use Rattle.mode_total.specs.declared.nets.Net.{Net}
use Rattle.mode_total.proofs.AnswerLemmas.{last_of, no_rows, patched}
use Rattle.mode_total.proofs.PutLemmas.{put_none}
use Rattle.mode_total.proofs.total.put_last.Goals as goal

pub returns-then-count-eq0 : goal.returns-then-count-eq0
returns-then-count-eq0 c =
    let d = c.args.design.now in
    let found = c.args.found.now in
    let changes = c.args.changes in
    let rows = zip found.nets.items (last_found found) in
    let none = sym c.as_slice-points.ensures.value ∙ nil_from_length c.as_slice-points.result.now c.if-count-eq0.true in
    let put = subst (λ (first : Changes). ArePutInto d rows first changes false) c.requires.none (put_none d changes rows (no_rows d changes.prefix found none)) in
    IfOk-weaker c.patches_of.result (HaveChange changes false) (ArePatched d changes.prefix found)
    (λ patches have. patched d changes.prefix found changes false patches put have) c.patches_of.ensures

pub patches_of-requires-2 : goal.patches_of-requires-2
patches_of-requires-2 c =
    let put = c.in_ok-changes.ensures.put.put in
    let stays = (put_stays c.args.changes _ c.in_ok-changes.changes put).0 ∙ ap (λ (changes : Changes). changes.design) c.requires.none in
    record { read = (c.requires.read.0, subst (λ (d : Design). Denotes c.requires.read.0 d.netlist) (sym stays) c.requires.read.1) }

pub returns : goal.returns
returns c =
    let d = c.args.design.now in
    let found = c.args.found.now in
    let changes = c.args.changes in
    let new = c.in_ok-changes.changes in
    let changed = c.in_ok-changes.changed in
    let fronts = found.fronts.items in
    let last =
    last_of fronts found.points.items c.as_slice-points.result.now c.index-points-count.result c.as_slice-points.ensures.value c.if-count-eq0.false c.index-points-count.is in
    let rows : zip c.deref.result.now (picks_in c.deref-2.result.now c.deref-3.result.now) ≡ zip found.nets.items (last_found found) =
    (λ i. zip (c.deref.ensures.value i) (picks_in (c.deref-2.ensures.value i) (c.deref-3.ensures.value i)))
    ∙ ap (λ (x : TotalPoint). zip found.nets.items (picks_in fronts x.picks.items)) (sym c.index-points-count.is) ∙ ap (zip found.nets.items) (sym last) in
    let put = subst (λ (some : List (Net × Pick)). ArePutInto d some (nothing d changes.prefix) new changed) rows
    (subst (λ (first : Changes). ArePutInto d (zip c.deref.result.now (picks_in c.deref-2.result.now c.deref-3.result.now)) first new changed) c.requires.none c.in_ok-changes.ensures) in
    IfOk-weaker c.patches_of-2.result (HaveChange new changed) (ArePatched d changes.prefix found)
    (λ patches have. patched d changes.prefix found new changed patches put have) c.patches_of-2.ensures
