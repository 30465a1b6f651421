use Rattle.std.proofs.Common.{◌∙◌, ap, arith, length, sym, is_some, List, Option, ℤ, None, get_or}
use Rattle.std.proofs.lemmas.Bool.Decides.{Decides-ltb}
use Rattle.std.proofs.lemmas.List.{length-append}
use Rattle.vg_sta.specs.Steps.{leads_at}
use Rattle.vg_sta.proofs.AddLemmas.{bound_by_leads, bound_by_time}
use Rattle.vg_sta.proofs.build.add_sink.Goals as goal

pub returns-then-before-len-clause-bound : goal.returns-then-before-len-clause-bound
returns-then-before-len-clause-bound c =
    let more = ap length c.in_ok-add_leads.ensures.leads ∙ length-append c.args.lists.now.leads.items (leads_at c.args.outputs.now c.args.net.now c.args.at c.len-2.result) in
    let before = c.len-before.ensures in
    let after = c.len-3.ensures in
    let longer = c.if-before-len.true in
    (Decides-ltb c.len-before.result c.len-3.result).1 longer
    ∙ sym (bound_by_leads c.args.outputs.now c.args.net.now c.args.at c.len-2.result (omega (arith, more, before, after, longer)))

pub returns-else-before-len-clause-bound : goal.returns-else-before-len-clause-bound
returns-else-before-len-clause-bound c =
    let more = ap length c.in_ok-add_leads.ensures.leads ∙ length-append c.args.lists.now.leads.items (leads_at c.args.outputs.now c.args.net.now c.args.at c.len-2.result) in
    let before = c.len-before.ensures in
    let after = c.len-3.ensures in
    let shorter = c.if-before-len.false in
    c.is_some.ensures ∙ ap (λ (ts : List (Option ℤ)). is_some (get_or ts c.args.at None)) c.as_slice.ensures
    ∙ sym (bound_by_time c.args.outputs.now c.args.net.now c.args.at c.len-2.result (omega (arith, more, before, after, shorter)))
