use Rattle.std.proofs.Common.{rules, ◌<◌, length, get_or}
use Rattle.std.proofs.lemmas.List.Elements.{Contains-get_or}
use Rattle.vg_front.proofs.CellLemmas.{drive_begins, drive_next, drive_ends}
use Rattle.vg_front.proofs.tries.drive.Goals as goal

pub drive_one-requires-clause-bounded : goal.drive_one-requires-clause-bounded
drive_one-requires-clause-bounded c =
    let inside : c.candidates.x-index < length c.args.xs.now = search rules in
    c.requires.bounded (get_or c.args.xs.now c.candidates.x-index _) (Contains-get_or c.args.xs.now c.candidates.x-index _ inside)

pub candidates-preserved : goal.candidates-preserved
candidates-preserved c =
    let inside : c.candidates.x-index < length c.args.xs.now = search rules in
    record {
      best = c.in_ok-drive_one.ensures.best;
      made = drive_next _ c.args.site.cap c.args.xs.now c.candidates.x-index _ c.args.made.now.items
          c.candidates.made.items c.drive_one.new.made.items inside c.candidates.invariant.made c.in_ok-drive_one.ensures.tried;
    }

pub candidates-init : goal.candidates-init
candidates-init c = record { best = c.requires.best; made = drive_begins _ c.args.site.cap c.args.xs.now c.args.made.now.items }

pub returns-clause-driven : goal.returns-clause-driven
returns-clause-driven c =
    drive_ends _ c.args.site.cap c.args.xs.now c.candidates.x-index c.args.made.now.items c.candidates.made.items (search rules)
    c.candidates.invariant.made
