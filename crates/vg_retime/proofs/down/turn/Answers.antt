use Rattle.std.proofs.Common.{◌^◌, length, refl, subst, arith}
use Rattle.std.proofs.lemmas.Result.{err_from_is_err_and}
use Rattle.ver_module.specs.Netlists.{IsSound}
use Rattle.vg_retime.specs.Steps.{signal_of}
use Rattle.vg_retime.proofs.ClimbLemmas.{was_new, was_there}
use Rattle.vg_retime.proofs.DownLemmas.{few_turns, more_signal, next_sized, signal_at, stops_again, stops_refused, under_next}
use Rattle.vg_retime.proofs.WalkNetLemmas.{more_sized}
use Rattle.vg_retime.proofs.down.turn.Goals as goal

pub returns-then-not-branch-clause-refused : goal.returns-then-not-branch-clause-refused
returns-then-not-branch-clause-refused c =
    stops_again c.args.design.now c.args.prefix.now c.args.at c.args.walk.now (signal_of c.index.result.now) c.requires.walk
    (signal_at c.args.walk.now c.args.at c.index.result.now c.requires.at c.index.ensures)
    (was_there _ _ c.in_ok-note.ensures.first c.if-not-branch.true)

pub known_net-requires-clause-id : goal.known_net-requires-clause-id
known_net-requires-clause-id c =
    let next = next_sized c.args.design.now c.args.prefix.now c.args.at c.args.walk.now (signal_of c.index.result.now) c.requires.walk (signal_at c.args.walk.now c.args.at c.index.result.now c.requires.at c.index.ensures) in
    next.net

pub known_net-requires-clause-known : goal.known_net-requires-clause-known
known_net-requires-clause-known c =
    c.requires.known (signal_of c.index.result.now) (signal_at c.args.walk.now c.args.at c.index.result.now c.requires.at c.index.ensures)

pub returns-in_err-net-clause-refused : goal.returns-in_err-net-clause-refused
returns-in_err-net-clause-refused c =
    let p = err_from_is_err_and c.from_residual-in_err-net.result c.from_residual-in_err-net.ensures.1 in
    rw (p.1, p.2) (stops_refused c.args.design.now c.args.prefix.now c.args.at c.args.walk.now (signal_of c.index.result.now) c.requires.walk
    (signal_at c.args.walk.now c.args.at c.index.result.now c.requires.at c.index.ensures)
    (was_new _ _ c.in_ok-note.ensures.first c.if-not-branch.false) c.in_err-net.field-0.0 c.in_err-net.ensures.refused)

pub visit-requires-clause-net : goal.visit-requires-clause-net
visit-requires-clause-net c =
    let sound : IsSound c.args.design.now.netlist = subst IsSound c.netlist.ensures c.is_sound.ensures in
    let few = sound.few_nets in
    more_sized (length c.args.design.now.netlist.nets) (2 ^ 32) c.in_ok-net.net (omega (arith, few)) c.in_ok-net.ensures.sized

pub visit-requires-clause-signal : goal.visit-requires-clause-signal
visit-requires-clause-signal c =
    let sound : IsSound c.args.design.now.netlist = subst IsSound c.netlist.ensures c.is_sound.ensures in
    let few = sound.few_nets in
    let turns = few_turns c.args.design.now c.args.prefix.now c.args.at c.args.walk.now c.requires.walk in
    more_signal (length c.args.design.now.netlist.nets) (2 ^ 32) c.args.at (2 ^ 32) (signal_of c.index.result.now) (omega (arith, few)) (omega (arith, few, turns))
    (next_sized c.args.design.now c.args.prefix.now c.args.at c.args.walk.now (signal_of c.index.result.now) c.requires.walk (signal_at c.args.walk.now c.args.at c.index.result.now c.requires.at c.index.ensures))

pub returns-clause-walk : goal.returns-clause-walk
returns-clause-walk c =
    under_next c.args.design.now c.args.prefix.now c.args.at c.args.walk.now (signal_of c.index.result.now) c.requires.walk
    (signal_at c.args.walk.now c.args.at c.index.result.now c.requires.at c.index.ensures)
    (was_new _ _ c.in_ok-note.ensures.first c.if-not-branch.false) c.in_ok-net.net c.in_ok-net.ensures.net c.in_ok-net.ensures.sized
    (record c.args.walk.now { come = c.note.new.self }) c.visit.new.walk
    (record {
      first = refl;
      signals = refl;
      least = refl;
      wrong = refl;
      come = c.in_ok-note.ensures.last c.if-not-branch.false;
      once = c.note.ensures.once;
    }) c.in_ok-visit.ensures

pub returns-clause-first : goal.returns-clause-first
returns-clause-first c = c.in_ok-visit.ensures.first
