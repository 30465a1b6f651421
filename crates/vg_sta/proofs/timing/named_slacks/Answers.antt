use Rattle.std.proofs.Common.{◌≡◌, ◌∙◌, ◌++◌, ◌∷◌, [], map, get_or, pos, sym, ap, rules, arith}
use Rattle.std.proofs.lemmas.Int.{to_z-of_z}
use Rattle.std.proofs.lemmas.List.{map_push, take_more}
use Rattle.std.proofs.lemmas.Option.{get_or_from_slice_get}
use Rattle.vg_design.specs.Designs.{net_names}
use Rattle.vg_sta.specs.declared.answer.StaNet.{StaNet}
use Rattle.vg_sta.proofs.timing.named_slacks.Goals as goal
use mir.Syntax.{w128}

pub section-preserved : goal.section-preserved
section-preserved c =
    let names = net_names c.args.design.now.spef in
    let test = c.section-test.true in
    let all = c.requires in
    let slack = to_z-of_z w128 (get_or c.args.slacks.now c.section.at (pos 0)) (search rules) in
    let name : get_or names c.section.at [] ≡ c.in_ok-from_bytes.field-0 =
    get_or_from_slice_get names c.section.at c.net_name.result.now [] c.net_name.ensures ∙ sym c.in_ok-from_bytes.ensures in
    record {
      names = ap (map (λ (n : StaNet). n.net)) c.in_ok-push.ensures.items
          ∙ map_push (λ (n : StaNet). n.net) c.section.nets.items _
          ∙ (λ i. c.section.invariant.names i ++ sym name i ∷ [])
          ∙ sym (take_more names c.section.at [] (omega (arith, test, all)));
      slacks = ap (map (λ (n : StaNet). n.slack)) c.in_ok-push.ensures.items
          ∙ map_push (λ (n : StaNet). n.slack) c.section.nets.items _
          ∙ (λ i. c.section.invariant.slacks i ++ slack i ∷ [])
          ∙ sym (take_more c.args.slacks.now c.section.at (pos 0) test);
    }
