use Rattle.std.proofs.Common.{get_or, true, ◌<◌, ◌≤◌, ◌∷◌, length, length-drop, ◌-◌, arith, ◌≡◌, ◌+◌, drop, sym, ◌∙◌, refl, ap, subst, Option, not, Bor, option_map, List, ℕ}
use Rattle.std.proofs.lemmas.List.{take_all}
use Rattle.std.specs.Prelude.{codes}
use Rattle.std.specs.Str.{bytes_eq}
use Rattle.vg_scan.specs.Lines.{Line, lines_of, part}
use Rattle.spef_file.specs.NetSpans.{up_to_end}
use Rattle.spef_file.proofs.SpanLemmas.{net_words, net_solid, keeps_net}
use Rattle.vg_scan.specs.Parts.{IsFirstSolid}
use Rattle.vg_scan.specs.Printed.{is_solid}
use Rattle.vg_scan.specs.Spans.{words_at}
use Rattle.spef_file.specs.declared.section.Section.{Section}
use Rattle.spef_file.specs.declared.keyword.Region.TheVariants.{Outside}
use Rattle.spef_file.specs.Machine.{State}
use Rattle.spef_file.specs.Machine.{read}
use Rattle.spef_file.specs.Words.{first_word, second_word, has_words}
use Rattle.spef_file.specs.Views.{state_of, heads_in, IsHead}
use Rattle.spef_file.proofs.StepLemmas.{no_end_fails, no_name_fails, twice_fails, net_goes, not_is}
use Rattle.spef_file.proofs.lines.take_named_net.Goals as goal

pub returns-in_default-clause-goes : goal.returns-in_default-clause-goes
returns-in_default-clause-goes c =
    no_end_fails (state_of c.args.reader.now) (words_at c.args.bytes.now c.args.words.now) (lines_of (drop c.args.next c.args.bytes.now)) (option_map (λ (n : Bor (List ℕ)). n.now) c.args.name) refl c.requires.headed c.requires.opens c.requires.name (sym c.in_default.ensures.lines)

pub returns-in_default-name-clause-goes : goal.returns-in_default-name-clause-goes
returns-in_default-name-clause-goes c =
    let s : State = state_of c.args.reader.now in
    let line : Line = words_at c.args.bytes.now c.args.words.now in
    no_name_fails s line (lines_of (drop c.args.next c.args.bytes.now)) c.in-Some.end.lines refl c.requires.headed c.requires.opens
    (subst (λ (o : Option (Bor (List ℕ))). IsHead s.heading.chars s.names (second_word line) (option_map (λ (n : Bor (List ℕ)). n.now) o)) c.in_default-name.is c.requires.name) (sym c.in-Some.ensures.lines)

pub returns-in-Ok-false-clause-goes : goal.returns-in-Ok-false-clause-goes
returns-in-Ok-false-clause-goes c =
    let s : State = state_of c.args.reader.now in
    let line : Line = words_at c.args.bytes.now c.args.words.now in
    twice_fails s line (lines_of (drop c.args.next c.args.bytes.now)) c.in-Some-name.name.now c.in-Some.end.lines c.args.reader.now.nets refl c.requires.headed c.requires.opens
    (subst (λ (o : Option (Bor (List ℕ))). IsHead s.heading.chars s.names (second_word line) (option_map (λ (n : Bor (List ℕ)). n.now) o)) c.in-Some-name.is c.requires.name) (sym c.in-Some.ensures.lines)
    refl (not_is _ c.in-Ok-false.ensures.fresh ∙ ap not c.in-Ok-false.field-0-test)

pub returns-in-Ok-true-clause-goes : goal.returns-in-Ok-true-clause-goes
returns-in-Ok-true-clause-goes c =
    let s : State = state_of c.args.reader.now in
    let line : Line = words_at c.args.bytes.now c.args.words.now in
    let later = lines_of (drop c.args.next c.args.bytes.now) in
    let sections = c.args.reader.now.nets in
    let section : Section = record { reduced = c.same.result; from = c.start_of.result; to = c.in-Some.end.to; line = c.args.reader.now.count + 1 } in
    let name = c.in-Some-name.name.now in
    let reduced : c.same.result ≡ bytes_eq (first_word line) (codes "*R_NET") = c.same.ensures ∙ ap (λ word. bytes_eq word (codes "*R_NET")) c.first_word.ensures in
    net_goes s line later c.in-Some-name.name.now c.in-Some.end.lines sections (name, section) refl c.requires.headed c.requires.opens
    (subst (λ (o : Option (Bor (List ℕ))). IsHead s.heading.chars s.names (second_word line) (option_map (λ (n : Bor (List ℕ)). n.now) o)) c.in-Some-name.is c.requires.name) (sym c.in-Some.ensures.lines)
    refl (not_is _ c.in-Ok-true.ensures.fresh ∙ ap not c.in-Ok-true.field-0-test) (λ i. record { name = c.in-Some-name.name.now; reduced = reduced i; line = c.args.reader.now.count + 1 })
    ∙ ap (λ rows. read (record s { region = Outside; count = s.count + (c.in-Some.end.lines + 2); nets = heads_in rows }) (drop (c.in-Some.end.lines + 1) later)) (sym (c.in-Ok-true.ensures.last c.in-Ok-true.field-0-test))
    ∙ ap (read (record s { region = Outside; count = s.count + (c.in-Some.end.lines + 2); nets = heads_in c.add.new.self })) (sym c.in-Some.ensures.rest)

pub returns-in-Ok-true-clause-spans : goal.returns-in-Ok-true-clause-spans
returns-in-Ok-true-clause-spans c =
    let text = c.args.bytes.now in
    let line : Line = words_at text c.args.words.now in
    let next = c.args.next in
    let end = c.in-Some.end in
    let section : Section = record { reduced = c.same.result; from = c.start_of.result; to = end.to; line = c.args.reader.now.count + 1 } in
    let order : (section.from < section.to) × (section.to ≤ length text) = (omega (arith, c.start_of.ensures.place, c.requires.line.order, c.in-Some.ensures.place), omega (arith, c.in-Some.ensures.place)) in
    let net : lines_of (part text section.from section.to) ≡ line ∷ up_to_end (lines_of (drop next text)) =
    c.start_of.ensures.starts section.to order.0 order.1 ∙ c.requires.line.on section.to (omega (arith, c.in-Some.ensures.place)) ∙ ap (λ xs. line ∷ xs) c.in-Some.ensures.span in
    let byte = c.start_of.ensures.word (ap has_words (sym c.requires.line.here) ∙ net_words line c.requires.opens) in
    let solid : is_solid (get_or text section.from 0) ≡ true = ap is_solid byte ∙ ap (λ ws. is_solid (get_or (first_word ws) 0 0)) (sym c.requires.line.here) ∙ net_solid (first_word line) c.requires.opens in
    let first : IsFirstSolid text section.from = record { line = c.args.line.from; begins = c.requires.line.begins.0; order = c.start_of.ensures.place.0; blank = c.start_of.ensures.blank; solid = solid } in
    let whole : part text section.from (length text) ≡ drop section.from text = take_all (length text - section.from) (drop section.from text) (omega (arith, length-drop section.from text)) in
    let later : part text next (length text) ≡ drop next text = take_all (length text - next) (drop next text) (omega (arith, length-drop next text)) in
    let on : lines_of (drop section.from text) ≡ line ∷ lines_of (drop next text) =
    ap lines_of (sym whole) ∙ c.start_of.ensures.starts (length text) (omega (arith, order)) (omega arith) ∙ c.requires.line.on (length text) (omega (arith, c.requires.line.order)) ∙ ap (λ t. line ∷ lines_of t) later in
    keeps_net text next end.next end.lines c.args.reader.now.count (c.args.reader.now.count + (end.lines + 2)) c.args.reader.now.nets c.add.new.self line c.in-Some-name.name.now section (c.in-Ok-true.ensures.last c.in-Ok-true.field-0-test) refl refl net on first c.in-Some.ensures.solid order (omega (arith, c.requires.few))
    c.in-Some.ensures.rest
