use Rattle.std.proofs.Common.{◌≡◌, ◌∷◌, List, [], take, drop, sym, ◌∙◌, ap, refl, arith, subst, Ok, Err}
use Rattle.std.specs.Str.Lines.{lines}
use Rattle.spef_net.specs.Statements.{Nothing}
use Rattle.spef_net.specs.Statements.{Stated, statement_of, part_after, statements, statements_from}
use Rattle.spef_net.specs.Rows.{connected_of}
use Rattle.spef_net.specs.Builders.{PartialNet, IsPartialNet}
use Rattle.vg_scan.proofs.FaultLemmas.{clear_more}
use Rattle.vg_scan.proofs.ItemLemmas.{next_is, all_read, take_whole}
use Rattle.spef_net.specs.Faults.{fault_of, fault_at}
use Rattle.spef_net.proofs.WordLemmas.{follows_of}
use Rattle.spef_net.proofs.LineLemmas.{left, none_left, is_counted, no_lines, first_fault}
use Rattle.spef_net.proofs.read.read_lines.Goals as goal

pub line-init : goal.line-init
line-init c = record {
  within = omega arith;
  counted = omega arith;
  rest = refl;
  clear = λ i h. absurd (omega arith);
  file = ap (λ (d : PartialNet). d.file) c.in-Ok.ensures;
  net = ap (λ (d : PartialNet). d.net) c.in-Ok.ensures;
  partial = subst (λ (d : PartialNet). IsPartialNet (connected_of (statements c.args.nodes.file (lines c.args.bytes.now))) c.args.nodes.net [] d) (sym c.in-Ok.ensures)
      (no_lines (connected_of (statements c.args.nodes.file (lines c.args.bytes.now))) c.args.nodes c.requires.nodes);
}

pub returns-in-Err-clause-fault : goal.returns-in-Err-clause-fault
returns-in-Err-clause-fault c =
    let index = c.args.nodes.file in
    let all = statements index (lines c.args.bytes.now) in
    let n = c.line.count in
    let line = statement_of index c.line.part c.text_at-text.result.now in
    let others = statements_from index (part_after c.line.part line) (lines (drop c.in-Some.next c.args.bytes.now)) in
    let e : drop n all ≡ line ∷ others =
    sym c.line.invariant.rest ∙ ap (statements_from index c.line.part) (c.in-Some.ensures.line ∙ ap (λ l. l ∷ lines (drop c.in-Some.next c.args.bytes.now)) (sym c.text_at-text.ensures))
    ∙ left index c.line.part c.text_at-text.result.now (lines (drop c.in-Some.next c.args.bytes.now)) in
    let x = next_is all n (Ok Nothing) line others e in
    let f = follows_of (Err c.in-Err.kind) index c.line.builder.file c.args.nodes.net c.line.builder.net c.line.part c.text_at-text.result.now c.line.builder c.take_line.new.builder c.line.invariant.file c.line.invariant.net c.in-Err.ensures.taken in
    first_fault c.args.nodes.net all n c.args.first line c.in-Err.kind x.within x.here c.line.invariant.clear
    (f (connected_of all) (take n all) (is_counted all n line others e) c.line.invariant.partial)

pub line-preserved : goal.line-preserved
line-preserved c =
    let index = c.args.nodes.file in
    let all = statements index (lines c.args.bytes.now) in
    let n = c.line.count in
    let line = statement_of index c.line.part c.text_at-text.result.now in
    let others = statements_from index (part_after c.line.part line) (lines (drop c.in-Some.next c.args.bytes.now)) in
    let e : drop n all ≡ line ∷ others =
    sym c.line.invariant.rest ∙ ap (statements_from index c.line.part) (c.in-Some.ensures.line ∙ ap (λ l. l ∷ lines (drop c.in-Some.next c.args.bytes.now)) (sym c.text_at-text.ensures))
    ∙ left index c.line.part c.text_at-text.result.now (lines (drop c.in-Some.next c.args.bytes.now)) in
    let x = next_is all n (Ok Nothing) line others e in
    let f = follows_of (Ok c.in-Ok-take_line.opened) index c.line.builder.file c.args.nodes.net c.line.builder.net c.line.part c.text_at-text.result.now c.line.builder c.take_line.new.builder c.line.invariant.file c.line.invariant.net c.in-Ok-take_line.ensures.taken in
    let t = f.1 (connected_of all) (take n all) (is_counted all n line others e) c.line.invariant.partial in
    record {
      within = omega (arith, c.in-Some.ensures.place);
      counted = omega (arith, c.in-Some.ensures.place);
      rest = ap (λ p. statements_from index p (lines (drop c.in-Some.next c.args.bytes.now))) f.0 ∙ sym x.rest;
      clear = clear_more (fault_at c.args.nodes.net all) n c.line.invariant.clear (ap (fault_of (connected_of all) c.args.nodes.net (take n all)) x.here ∙ t.0);
      file = c.in-Ok-take_line.ensures.source.0 ∙ c.line.invariant.file;
      net = c.in-Ok-take_line.ensures.source.1 ∙ c.line.invariant.net;
      partial = subst (λ (ls : List Stated). IsPartialNet (connected_of all) c.args.nodes.net ls c.take_line.new.builder) (sym x.front) t.1;
    }

pub returns-clause-faultless : goal.returns-clause-faultless
returns-clause-faultless c =
    let index = c.args.nodes.file in
    let all = statements index (lines c.args.bytes.now) in
    let e : drop c.line.count all ≡ [] = sym c.line.invariant.rest ∙ ap (statements_from index c.line.part) c.in_default-next_line.ensures.line ∙ none_left index c.line.part in
    λ i h. c.line.invariant.clear i (omega (arith, all_read all c.line.count e))

pub returns-clause-builder : goal.returns-clause-builder
returns-clause-builder c =
    let index = c.args.nodes.file in
    let all = statements index (lines c.args.bytes.now) in
    let e : drop c.line.count all ≡ [] = sym c.line.invariant.rest ∙ ap (statements_from index c.line.part) c.in_default-next_line.ensures.line ∙ none_left index c.line.part in
    subst (λ (ls : List Stated). IsPartialNet (connected_of all) c.args.nodes.net ls c.line.builder) (take_whole all c.line.count e) c.line.invariant.partial
