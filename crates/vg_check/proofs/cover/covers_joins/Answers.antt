use Rattle.std.proofs.Common.{◌∙◌, refl, sym, true, false}
use Rattle.std.proofs.lemmas.Bool.{false≢true}
use Rattle.cand_pairs.specs.Parts.{list_of}
use Rattle.vg_cert.specs.Fits.{list_of as entries_of}
use Rattle.vg_check.proofs.CoverLemmas.{both_bare}
use Rattle.vg_check.proofs.cover.covers_joins.Goals as goal

pub covers-requires-clause-entries : goal.covers-requires-clause-entries
covers-requires-clause-entries c = rw c.deref.ensures.value (c.requires.lists false)

pub covers-requires-clause-pairs : goal.covers-requires-clause-pairs
covers-requires-clause-pairs c = rw c.deref-2.ensures.value (c.requires.joins false).rising

pub covers-requires-then-covers-clause-entries : goal.covers-requires-then-covers-clause-entries
covers-requires-then-covers-clause-entries c = rw c.deref-then-covers.ensures.value (c.requires.lists true)

pub covers-requires-then-covers-clause-pairs : goal.covers-requires-then-covers-clause-pairs
covers-requires-then-covers-clause-pairs c = rw c.deref-then-covers-2.ensures.value (c.requires.joins true).rising

pub returns-then-covers : goal.returns-then-covers
returns-then-covers c =
    let even = rw (c.deref-2.ensures.value, c.deref.ensures.value) at c.if-covers.ensures in
    let odd = rw (c.deref-then-covers-2.ensures.value, c.deref-then-covers.ensures.value) at c.covers-then-covers.ensures in (
      λ is. both_bare (list_of c.args.joins.now) (entries_of c.args.lists.now) (even.0 refl) (odd.0 is),
      λ covers. odd.1 (covers true),
    )

pub returns-else-covers : goal.returns-else-covers
returns-else-covers c =
    let even = rw (c.deref-2.ensures.value, c.deref.ensures.value) at c.if-covers.ensures in
    (λ is. absurd (false≢true (sym c.if-covers.false ∙ is)), λ covers. absurd (false≢true (even.1 (covers false))))
