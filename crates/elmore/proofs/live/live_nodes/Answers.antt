use Rattle.std.proofs.Common.{◌≡◌, ◌∙◌, false, arith, length, vec_len}
use Rattle.std.proofs.lemmas.List.{take_at}
use Rattle.std.proofs.lemmas.List.FromFn.{fill_by_all}
use Rattle.elmore.specs.Problems.{is_live}
use Rattle.elmore.proofs.live.live_nodes.Goals as goal

pub returns : goal.returns
returns c =
    let room : vec_len c.in_ok-live.live ≡ length c.args.nodes.now = c.in_ok-live.ensures.len in
    let one_each : length c.mark_above.new.live ≡ length c.args.nodes.now = omega arith in
    c.from_vec.ensures
    ∙ take_at c.mark_above.new.live _ c.in_ok-live.live.len (omega arith)
    ∙ fill_by_all (is_live c.args.nodes.now c.args.sinks.now) c.mark_above.new.live (length c.args.nodes.now) false one_each c.mark_above.ensures
