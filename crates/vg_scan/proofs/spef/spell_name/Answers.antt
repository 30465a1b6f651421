use Rattle.std.proofs.Common.{◌≡◌, ◌∷◌, [], ◌++◌, length, true, false, Some, inl, inr, sym, ◌∙◌, ap, arith}
use Rattle.vg_scan.specs.Names.{canonical, is_escaped, spelled}
use Rattle.vg_scan.proofs.SpelledLemmas.{onto, onto-before, full, whole_text, read_on, quote_found, canonical_end, canonical_open, canonical_whole, canonical-ordinary}
use Rattle.vg_scan.proofs.spef.spell_name.Goals as goal
use Rattle.vg_scan.proofs.spef.spell_name.Goals.{in-Escape, in-Stands+in-Ok}

pub byte-preserved : goal.byte-preserved
byte-preserved c =
    let chars = c.args.chars.now in
    let text = c.args.text.now in
    let bytes = c.byte.name.items in
    let at = c.byte.byte-index in
    elim c.match-read_byte.branch [
      | in-Escape w ↦
          rw (w.name-is, w.escaped-is)
          (read_on chars text bytes bytes at c.byte.escaped true c.byte.invariant c.byte-test.true (λ rest. ap (onto bytes) (w.in-Escape.ensures.spells rest)) w.in-Escape.ensures.read.0 w.in-Escape.ensures.read.1)
      | in-Stands+in-Ok w ↦
          rw (w.name-is, w.escaped-is, w.in-Ok.ensures.items)
          (read_on chars text bytes (bytes ++ w.in-Stands.byte ∷ []) at c.byte.escaped false c.byte.invariant c.byte-test.true
          (λ rest. ap (onto bytes) (w.in-Stands.ensures.spells rest) ∙ onto-before bytes w.in-Stands.byte (spelled chars false rest)) w.in-Stands.ensures.read.0 w.in-Stands.ensures.read.1)
    ]

pub returns-in-Quote-clause-bad : goal.returns-in-Quote-clause-bad
returns-in-Quote-clause-bad c = λ _.
    let text = c.args.text.now in
    quote_found c.args.chars.now text c.byte.name.items c.byte.byte-index c.byte.escaped c.byte.invariant (full (length text) (sym c.is_empty.ensures ∙ c.if-is_empty.false)) c.byte-test.true c.in-Quote.ensures.spells c.in-Quote.ensures.read

pub returns-then-escaped-clause-bad : goal.returns-then-escaped-clause-bad
returns-then-escaped-clause-bad c = λ _.
    let text = c.args.text.now in
    let some = full (length text) (sym c.is_empty.ensures ∙ c.if-is_empty.false) in
    let e = canonical_end c.args.chars.now text c.byte.name.items c.byte.byte-index c.byte.escaped some (omega arith) c.byte.invariant.spells in
    let end : c.byte.byte-index ≡ length text = omega arith in
    (canonical_open c.args.chars.now text c.byte.name.items c.byte.escaped c.if-escaped.true e, inr (inl (ap (is_escaped text) (sym end) ∙ sym c.byte.invariant.escaped_here ∙ c.if-escaped.true)))

pub returns-clause-name : goal.returns-clause-name
returns-clause-name c =
    let text = c.args.text.now in
    let some = full (length text) (sym c.is_empty.ensures ∙ c.if-is_empty.false) in
    let e = canonical_end c.args.chars.now text c.byte.name.items c.byte.byte-index c.byte.escaped some (omega arith) c.byte.invariant.spells in
    canonical_whole c.args.chars.now text c.byte.name.items c.byte.escaped c.if-escaped.false e

pub returns-clause-good : goal.returns-clause-good
returns-clause-good c =
    let text = c.args.text.now in
    let some = full (length text) (sym c.is_empty.ensures ∙ c.if-is_empty.false) in
    whole_text text c.byte.byte-index c.byte.escaped some (omega arith) c.byte.invariant.escaped_here c.if-escaped.false c.byte.invariant.quotes

pub returns-clause-ordinary : goal.returns-clause-ordinary
returns-clause-ordinary c = λ all.
    let text = c.args.text.now in
    let some = full (length text) (sym c.is_empty.ensures ∙ c.if-is_empty.false) in
    let e = canonical-ordinary c.args.chars.now text some all in
    let f : canonical c.args.chars.now text ≡ Some c.byte.name.items = returns-clause-name c in
    cc
