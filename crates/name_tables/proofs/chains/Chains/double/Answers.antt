use Rattle.std.proofs.Common.{◌≡◌, ◌≤◌, ◌*◌, ap, refl, sym, subst, ◌∙◌, length, arith}
use Rattle.std.proofs.lemmas.List.{length-map, take_all}
use Rattle.name_tables.specs.Chains.{buckets_of, AreLinks, AreShort, hash_in, rows_of}
use Rattle.name_tables.proofs.ChainLemmas.{chains_same, short_halved}
use Rattle.name_tables.proofs.chains.Chains.double.Goals as goal

pub returns-in_default-clause-chains : goal.returns-in_default-clause-chains
returns-in_default-clause-chains c = chains_same c.args.self.now _ c.requires.chains c.in_default.ensures.items refl

pub returns-clause-chains : goal.returns-clause-chains
returns-clause-chains c =
    let s = c.args.self.now in
    let new = c.row.self in
    let count : length new.links.items ≡ length s.links.items = sym (length-map new.links.items hash_in) ∙ ap length c.row.invariant.rows ∙ length-map s.links.items hash_in in
    let all : length new.links.items ≤ c.row.row = omega (arith, count, c.len-row-end.ensures, c.row-test.false) in
    record {
      linked = subst (λ links. AreLinks (buckets_of new) new.lasts.items links) (take_all c.row.row new.links.items all) c.row.invariant.linked;
      short = subst (λ n. AreShort n (rows_of new)) (sym c.row.invariant.buckets)
          (subst (λ rows. AreShort (2 * buckets_of s) rows) (sym c.row.invariant.rows) (short_halved (buckets_of s) (rows_of s) c.requires.halves c.requires.chains.short));
    }
