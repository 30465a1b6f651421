use Rattle.std.proofs.Common.{◌≡◌, ℕ, ◌<◌, ◌||◌, not, is_some, true, List, length, get_or, inl, inr, sym, ap, ◌∙◌, subst, arith}
use Rattle.std.proofs.lemmas.Bool.{cases_lt, or_left, or_right}
use Rattle.spef_net.specs.declared.net.ParConn.{ParConn}
use Rattle.spef_net.specs.declared.net.ParNet.{ParNet}
use Rattle.ver_module.specs.Netlists.{Net}
use Rattle.vg_design.specs.Designs.{name_of}
use Rattle.vg_design.specs.Steps.{is_port_end, pin_at}
use Rattle.vg_design.proofs.EndLemmas.{conn_node}
use Rattle.vg_design.proofs.connected.are_ends.Goals as goal
use Rattle.vg_design.proofs.connected.are_ends.Goals.{else-is_none-via-then-is_none+else-not-is_port_end, else-is_none-via-else-is_none}

-- a connection has its place as its node
port_there : (port : Net) (net : ParNet) (conns : List ParConn) (i : ℕ) (d : ParConn) → conns ≡ net.conns → i < length net.conns
    → is_port_end port (name_of net (get_or conns i d).node) ≡ true → is_port_end port (name_of net i) ≡ true
port_there port net conns i d are low there =
    ap (λ (v : ℕ). is_port_end port (name_of net v)) (sym (conn_node net i d low))
    ∙ ap (λ (cs : List ParConn). is_port_end port (name_of net (get_or cs i d).node)) (sym are) ∙ there

pub end-preserved : goal.end-preserved
end-preserved c i low =
    let port = c.args.module_net.now in
    let net = c.args.net.now in
    let pins = c.args.pins.now in
    let at = c.end.at in
    let is_end : ℕ → Type 0 = λ k. (is_some (pin_at pins k) || is_port_end port (name_of net k)) ≡ true in
    let here : is_end at = elim c.else-is_none.branch [
      | else-is_none-via-then-is_none+else-not-is_port_end w ↦
          or_right (is_some (pin_at pins at)) (is_port_end port (name_of net at))
          (port_there port net w.as_slice.result.now at _ w.as_slice.ensures (omega (arith, c.end-test.true, c.requires)) (sym w.is_port_end.ensures ∙ w.if-not-is_port_end.false))
      | else-is_none-via-else-is_none w ↦ or_left (is_some (pin_at pins at)) (is_port_end port (name_of net at)) (c.is_none.ensures ∙ ap not w.if-is_none.false)
    ] in
    elim (cases_lt i at) [
      | inl before ↦ c.end.invariant i before
      | inr past ↦ (let same : at ≡ i = omega (arith, low, past) in subst is_end same here)
    ]
