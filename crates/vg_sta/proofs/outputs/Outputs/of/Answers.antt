use Rattle.std.proofs.Common.{◌<◌, ◌∙◌, ◌++◌, ◌∷◌, [], List, length, sym, ap, subst, arith}
use Rattle.std.proofs.lemmas.List.{map_more}
use Rattle.ver_module.specs.Netlists.{Netlist}
use Rattle.vg_design.specs.Designs.{NO_INSTANCE}
use Rattle.vg_sta.specs.Outputs.{onward_at, onward_of}
use Rattle.vg_sta.specs.Spans.{AreSpans, parts_of}
use Rattle.vg_sta.specs.declared.outputs.OutputSpan.{OutputSpan}
use Rattle.vg_sta.proofs.SpanLemmas.{parts_more}
use Rattle.vg_sta.proofs.outputs.Outputs.of.Goals as goal

pub instance-preserved : goal.instance-preserved
instance-preserved c =
    let d = c.args.design.now in
    let put = c.in_ok-push_instance.ensures in
    let both = parts_more c.instance.spans.items c.in_ok-push_instance.field-0 (onward_at d c.instance.at) c.instance.outputs.items c.push_instance.new.outputs.items c.instance.invariant.spans put in
    let test = c.instance-test.true in
    let count = c.instance_count-count.ensures in
    let netlist = ap (λ (n : Netlist). length n.instances) c.netlist.ensures in
    let low : c.instance.at < length d.netlist.instances = omega (arith, test, count, netlist) in
    record {
      parts = ap (λ (ss : List OutputSpan). parts_of ss c.push_instance.new.outputs.items) c.in_ok-push.ensures.items ∙ both.0
          ∙ (λ i. c.instance.invariant.parts i ++ onward_at d c.instance.at ∷ []) ∙ sym (map_more (onward_of d) d.netlist.instances c.instance.at NO_INSTANCE low);
      spans = subst (λ (ss : List OutputSpan). AreSpans ss c.push_instance.new.outputs.items) (sym c.in_ok-push.ensures.items) both.1;
    }
