use Rattle.std.proofs.Common.{refl}
use Rattle.elmore.specs.Cells.{rep_at}
use Rattle.vg_check.proofs.cover.covers_rep.Goals as goal

pub covers_greatest-requires : goal.covers_greatest-requires
covers_greatest-requires c = record { entries = rw c.above.ensures (c.requires.lists _) }

pub returns-clause-covers : goal.returns-clause-covers
returns-clause-covers c =
    let found = rw c.as_slice.ensures at c.in_ok-found.ensures.found in
    let e = rw (c.above.ensures, c.as_slice.ensures) at c.covers_greatest.ensures (rep_at c.args.p.now.reps c.args.rep) c.args.pairs.now found in
    (λ is allowed. e.0 is, λ covers. e.1 (covers (c.if-not-allows.ensures.0 refl)))
