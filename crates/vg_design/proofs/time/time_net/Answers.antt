use Rattle.std.proofs.Common.{◌<◌, ℕ, sym, subst, rules, IfSome, SFits}
use Rattle.std.specs.Int.{w128}
use Rattle.std.proofs.lemmas.Int.{to_z-of_z}
use Rattle.vg_design.specs.Nets.{IsBareTiming}
use Rattle.vg_design.proofs.TimeLemmas.{names_size}
use Rattle.vg_design.proofs.time.time_net.Goals as goal

pub name_in-requires : goal.name_in-requires
name_in-requires c =
    subst (λ (n : ℕ). IfSome c.in_ok-slack.node (λ i. i < n)) (sym (names_size c.args.design.now c.args.net.now c.in_ok-found.found c.in_ok-found.ensures.problem)) c.in_ok-slack.ensures.node

pub returns-clause-timed : goal.returns-clause-timed
returns-clause-timed c =
    let fits : SFits w128 c.in_ok-slack.slack = search rules in
    record {
      found = c.in_ok-found.found;
      problem = c.in_ok-found.ensures.problem;
      wrong = c.in_ok-slack.node;
      timing = subst (λ x. IsBareTiming c.in_ok-found.found.problem x c.in_ok-slack.node) (sym (to_z-of_z w128 c.in_ok-slack.slack fits)) c.in_ok-slack.ensures.timing;
      named = c.in_ok-wrong.ensures;
    }
