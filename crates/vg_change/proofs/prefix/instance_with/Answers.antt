use Rattle.std.proofs.Common.{ℕ, List, Some, sym, ap, ◌∙◌}
use Rattle.std.specs.Prelude.{option_map}
use Rattle.std.proofs.lemmas.Option.{slice_get-map}
use Rattle.ver_module.specs.Netlists.{Instance}
use Rattle.vg_change.specs.Named.{begins}
use Rattle.vg_change.proofs.FindLemmas.{found_next, none_more}
use Rattle.vg_change.proofs.prefix.instance_with.Goals as goal

pub returns-then-starts_with : goal.returns-then-starts_with
returns-then-starts_with c =
    let here = slice_get-map (λ (i : Instance). i.name) c.args.netlist.now.instances c.instance.at ∙ ap (option_map (λ (i : Instance). i.name)) c.instance-in-instance.ensures ∙ sym (ap (λ (x : Instance). Some x.name) c.instance-in-instance-2.view_is) in
    sym (found_next (λ (name : List ℕ). begins name c.args.prefix.now) _ c.instance.at _ here (sym c.starts_with.ensures.value ∙ c.if-starts_with.true) c.instance.invariant)

pub instance-preserved : goal.instance-preserved
instance-preserved c =
    let here = slice_get-map (λ (i : Instance). i.name) c.args.netlist.now.instances c.instance.at ∙ ap (option_map (λ (i : Instance). i.name)) c.instance-in-instance.ensures ∙ sym (ap (λ (x : Instance). Some x.name) c.instance-in-instance-2.view_is) in
    none_more (λ (name : List ℕ). begins name c.args.prefix.now) _ c.instance.at _ here (sym c.starts_with.ensures.value ∙ c.if-starts_with.false) c.instance.invariant
