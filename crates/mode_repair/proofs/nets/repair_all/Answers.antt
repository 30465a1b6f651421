use Rattle.std.proofs.Common.{ap, ℕ, List, Some, ◌≡◌, ◌∙◌, arith, subst, sym, take}
use Rattle.std.specs.List.{slice_get}
use Rattle.std.proofs.lemmas.List.{length-take, take_all}
use Rattle.change_spef_laws.specs.Order.{AreOpenFrom}
use Rattle.change_spef_laws.proofs.OrderLemmas.{all_open}
use Rattle.vg_change.specs.Changes.{Changes}
use Rattle.vg_design.specs.Designs.{Design, net_names}
use Rattle.vg_place.proofs.PutLemmas.{open_more, put_stays}
use Rattle.vg_answer.proofs.VerdictLemmas.{take_next}
use Rattle.mode_repair.specs.Steps.{AreRepaired}
use Rattle.mode_repair.proofs.RepairLemmas.{has_room, nothing_repaired, repair_put, repaired_more}
use Rattle.mode_repair.proofs.nets.repair_all.Goals as goal

pub net-init : goal.net-init
net-init c =
    let d = c.args.design.now in
    let begun = c.requires.begun in
    record {
      repaired = nothing_repaired d c.args.goal c.args.judging c.new.result begun c.new.ensures;
      design = ap (λ (changes : Changes). changes.design) begun.same;
      free = subst (λ (changes : Changes). AreOpenFrom changes 0) (sym begun.same) (all_open d c.args.judging.changes.prefix);
    }

pub with_net-requires-clause-room : goal.with_net-requires-clause-room
with_net-requires-clause-room c =
    let names = net_names c.args.design.now.spef in
    let at = c.net.at in
    has_room c.args.design.now c.args.goal c.args.judging.changes.prefix (take at names) c.net.all c.net.invariant.repaired
    (let shorter = length-take at names in omega (arith, shorter, c.net-test.true, c.net_count-at-end.ensures))

pub with_net-requires-clause-free : goal.with_net-requires-clause-free
with_net-requires-clause-free c = λ n joined.
    let name = c.net_name-name.result.now in
    let here = subst (λ (d : Design). slice_get (net_names d.spef) c.net.at ≡ Some name) (sym c.net.invariant.design) c.net_name-name.ensures in
    c.net.invariant.free c.net.at name (omega arith) here n joined

pub net-preserved : goal.net-preserved
net-preserved c =
    let d = c.args.design.now in
    let prefix = c.args.judging.changes.prefix in
    let names = net_names d.spef in
    let at = c.net.at in
    let name = c.net_name-name.result.now in
    let old = c.net.all in
    let made = c.in_ok-all.all in
    let one = c.in_ok-all.ensures in
    let before = c.net.invariant in
    record {
      repaired =
          subst (λ (some : List (List ℕ)). AreRepaired d c.args.goal prefix some made) (sym (take_next names at name c.net_name-name.ensures))
          (repaired_more d c.args.goal prefix (take at names) old before.repaired made name one);
      design = (put_stays old.judging.changes one.verdict.put made.judging.changes one.more.put).0 ∙ before.design;
      free =
          open_more d old.judging.changes made.judging.changes at name one.verdict before.design before.free c.net_name-name.ensures
          (repair_put d c.args.goal name one.verdict one.says) one.more.put;
    }

pub returns : goal.returns
returns c =
    let names = net_names c.args.design.now.spef in
    subst (λ (some : List (List ℕ)). AreRepaired c.args.design.now c.args.goal c.args.judging.changes.prefix some c.net.all)
    (take_all c.net.at names (omega (arith, c.net-test.false, c.net_count-at-end.ensures))) c.net.invariant.repaired
