use Rattle.std.proofs.Common.{◌≡◌, ◌<◌, ◌+◌, ◌||◌, ◌++◌, ◌∷◌, ◌∙◌, ap, arith, Bool, length, List, [], refl, subst, sym, take, take_all, zip, ℕ}
use Rattle.std.proofs.lemmas.List.{take_more}
use Rattle.std.proofs.lemmas.Option.{slice_get_read}
use Rattle.std.proofs.lemmas.Slice.Zip.{length-zip}
use Rattle.vg_design.specs.Nets.{IsPosedNet}
use Rattle.vg_front.specs.declared.root.Point.{Point as Pick}
use Rattle.vg_place.specs.Placings.{put_of}
use Rattle.vg_place.proofs.PutLemmas.{put_stays}
use Rattle.mode_total.specs.Picked.{picks_in}
use Rattle.mode_total.specs.Steps.{ArePutInto}
use Rattle.mode_total.specs.declared.nets.Net.{Net}
use Rattle.mode_total.proofs.PickLemmas.{row_at, row_good, row_long}
use Rattle.mode_total.proofs.PutLemmas.{open_first, open_next, posed_good, put_more, put_none}
use Rattle.mode_total.proofs.TellLemmas.{name_is}
use Rattle.mode_total.proofs.put.put_picks.Goals.{then-changed, else-changed}
use Rattle.mode_total.proofs.put.put_picks.Goals as goal

pub net-init : goal.net-init
net-init c = record {
  put = put_none c.args.design.now c.args.changes [] refl;
  design = c.requires.design;
  free = open_first c.args.design.now c.args.nets.now c.requires.rising c.args.changes c.requires.free;
}

pub put_net-requires-clause-design : goal.put_net-requires-clause-design
put_net-requires-clause-design c = c.net.invariant.design

pub put_net-requires-clause-good : goal.put_net-requires-clause-good
put_net-requires-clause-good c =
    row_good c.args.design.now c.args.nets.now c.args.fronts.now c.args.picks.now c.requires.picks c.net.at c.index-nets-at.result c.picked.result.now
    (omega (arith, c.net-test.true)) c.index-nets-at.is c.picked.ensures

pub put_net-requires-clause-free : goal.put_net-requires-clause-free
put_net-requires-clause-free c =
    let nets = c.args.nets.now in
    c.net.invariant.free c.net.at c.index-nets-at.result (omega arith)
    (slice_get_read nets (length nets) c.net.at c.index-nets-at.result refl (omega (arith, c.net-test.true)) c.index-nets-at.is)

pub net-preserved : goal.net-preserved
net-preserved c =
    let d = c.args.design.now in
    let nets = c.args.nets.now in
    let fronts = c.args.fronts.now in
    let picks = c.args.picks.now in
    let at = c.net.at in
    let net = c.index-nets-at.result in
    let pick = c.picked.result.now in
    let cells = pick.placement.cells in
    let old = c.net.all in
    let new = c.in_ok-made.made in
    let before = c.net.invariant in
    let low : at < length nets = omega (arith, c.net-test.true) in
    let rows = zip nets (picks_in fronts picks) in
    let long = row_long d nets fronts picks c.requires.picks at net pick low c.index-nets-at.is c.picked.ensures in
    let here = row_at d nets fronts picks c.requires.picks at net pick low c.index-nets-at.is c.picked.ensures in
    let (own, kept, good) = row_good d nets fronts picks c.requires.picks at net pick low c.index-nets-at.is c.picked.ensures in
    let (posed, of, put) = c.in_ok-made.ensures in
    let named = subst (λ (name : List ℕ). IsPosedNet d name posed) (name_is d own net kept) of in
    let more : take (at + 1) rows ≡ take at rows ++ (net, pick) ∷ [] =
    take_more rows at (net, pick) long ∙ ap (λ (row : Net × Pick). take at rows ++ row ∷ []) (sym here) in
    let joined : (c.net.changed || c.in_ok-made.put) ≡ c.if-changed.changed =
    elim c.if-changed.branch [
      | then-changed w ↦ ap (λ (b : Bool). b || c.in_ok-made.put) w.if-changed.true ∙ sym w.if-changed.true ∙ sym w.changed-is
      | else-changed w ↦ ap (λ (b : Bool). b || c.in_ok-made.put) w.if-changed.false ∙ sym w.changed-is
    ] in
    record {
      put =
          subst (λ (some : List (Net × Pick)). ArePutInto d some c.args.changes new c.if-changed.changed) (sym more)
          (subst (λ (b : Bool). ArePutInto d (take at rows ++ (net, pick) ∷ []) c.args.changes new b) joined
          (put_more d (take at rows) c.args.changes old new c.net.changed c.in_ok-made.put (net, pick) posed before.put of put));
      design = (put_stays old (put_of posed cells) new put.put).0 ∙ before.design;
      free =
          open_next d nets c.requires.rising old new at own net posed cells before.design before.free
          (slice_get_read nets (length nets) at net refl low c.index-nets-at.is) kept named (posed_good d own net kept posed cells named good) put.put;
    }

pub returns : goal.returns
returns c =
    let rows = zip c.args.nets.now (picks_in c.args.fronts.now c.args.picks.now) in
    let count = length-zip c.args.nets.now (picks_in c.args.fronts.now c.args.picks.now) in
    subst (λ (some : List (Net × Pick)). ArePutInto c.args.design.now some c.args.changes c.net.all c.net.changed)
    (take_all c.net.at rows (omega (arith, c.net-test.false, count))) c.net.invariant.put
