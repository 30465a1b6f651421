use Rattle.std.proofs.Common.{◌≡◌, ◌≤◌, ◌^◌, ◌++◌, length, take}
use Rattle.vg_sta.specs.Steps.{leads_by}
use Rattle.vg_sta.proofs.leads.push_leads.Given as goal

abbrev pub invariant-output : goal.invariant-output
invariant-output l = record {
  leads : l.leads.items ≡ l.initial.leads.items ++ leads_by (take l.output-index l.outputs) l.pin l.sink;
  few : length l.leads.items ≤ 2 ^ 30;
}
