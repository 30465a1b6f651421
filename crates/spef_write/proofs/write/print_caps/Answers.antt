use Rattle.std.proofs.Common.{◌≡◌, ℕ, ◌+◌, ◌<◌, true, false, not, ◌++◌, length, filter, map, take, take_all, get_or, codes, sym, ap, ◌∙◌, arith, Vec, Global}
use Rattle.std.proofs.lemmas.Bool.{eq-eqb, ne_eqb}
use Rattle.std.proofs.lemmas.List.{get_or-map, length-map}
use Rattle.spef_write.specs.Printed.{NO_PRINTED, behind, cap_row, cap_rows, is_loaded, printed_at}
use Rattle.spef_write.specs.Sections.{headed, numbered}
use Rattle.spef_write.specs.Texts.{lined}
use Rattle.spef_write.proofs.PrintLemmas.{caps_more, count_more, none_more}
use Rattle.spef_write.proofs.write.print_caps.Goals as goal
use Rattle.spef_write.proofs.write.print_caps.Goals.{then-charge-ne0+in_ok-print_next_cap, else-charge-ne0}

pub node-preserved : goal.node-preserved
node-preserved c =
    let header = c.args.header.now in
    let nodes = c.args.nodes.now in
    let ks = c.args.cap_nodes.now in
    let i = c.node.i in
    let at = get_or ks i 0 in
    let rows = map (printed_at nodes) ks in
    let before = filter is_loaded (take i rows) in
    let was = c.node.invariant in
    let ks_low : i < length ks = c.node-test.true in
    let low : i < length rows = omega (arith, ks_low, length-map ks (printed_at nodes)) in
    let is : get_or rows i NO_PRINTED ≡ printed_at nodes at = get_or-map (printed_at nodes) ks i 0 NO_PRINTED ks_low in
    let items = λ (v : Vec ℕ Global). v.items in
    elim c.if-charge-ne0.branch [
      | then-charge-ne0+in_ok-print_next_cap w ↦
          let some = w.if-charge-ne0.true in
          let loaded : is_loaded (printed_at nodes at) ≡ true = ap not (ne_eqb (printed_at nodes at).charge 0 (λ e. some (c.charge.ensures ∙ e))) in
          record {
            low = omega (arith, w.count-is, was.low);
            count_is = w.count-is ∙ ap (λ n. n + 1) was.count_is ∙ sym (count_more rows i NO_PRINTED (printed_at nodes at) low is loaded);
            said =
                ap items w.to-is ∙ w.in_ok-print_next_cap.ensures
                ∙ ap (λ n. c.node.to.items ++ lined (behind n (codes "*CAP") (cap_row header (n + 1) (printed_at nodes at)))) was.count_is
                ∙ ap (λ xs. xs ++ lined (behind (length before) (codes "*CAP") (cap_row header (length before + 1) (printed_at nodes at)))) was.said
                ∙ caps_more header c.args.to.now.items rows i NO_PRINTED (printed_at nodes at) low is loaded;
          }
      | else-charge-ne0 w ↦
          let empty : is_loaded (printed_at nodes at) ≡ false = ap not (eq-eqb (printed_at nodes at).charge 0 (sym c.charge.ensures ∙ w.if-charge-ne0.false)) in
          let same = none_more rows i NO_PRINTED (printed_at nodes at) low is empty in
          record {
            low = omega (arith, w.count-is, was.low);
            count_is = w.count-is ∙ was.count_is ∙ ap length (sym same);
            said = ap items w.to-is ∙ was.said ∙ ap (λ ns. c.args.to.now.items ++ lined (headed (codes "*CAP") (numbered (cap_row header) 1 ns))) (sym same);
          }
    ]

pub returns : goal.returns
returns c =
    let rows = map (printed_at c.args.nodes.now) c.args.cap_nodes.now in
    let whole : take c.node.i rows ≡ rows = take_all c.node.i rows (omega (arith, c.node-test.false, length-map c.args.cap_nodes.now (printed_at c.args.nodes.now))) in
    c.node.invariant.said ∙ ap (λ ns. c.args.to.now.items ++ lined (cap_rows c.args.header.now ns)) whole
