use Rattle.std.proofs.Common.{◌∷◌, [], ap, refl, sym, subst, ◌∙◌, length}
use Rattle.std.proofs.lemmas.List.{map-append}
use Rattle.name_tables.specs.Chains.{AreLinks, AreShort, hash_in, hashes_in, outside}
use Rattle.name_tables.specs.declared.chains.Link.{Link}
use Rattle.name_tables.proofs.ChainLemmas.{chains_same, one_outside, short_outside}
use Rattle.name_tables.proofs.chains.Chains.push_outside.Goals as goal

pub returns-in_default-clause-chains : goal.returns-in_default-clause-chains
returns-in_default-clause-chains c = chains_same c.args.self.now _ c.requires refl c.in_default.ensures.items

pub returns-clause-chains : goal.returns-clause-chains
returns-clause-chains c =
    let s = c.args.self.now in
    let buckets = length s.lasts.items in
    let new : Link = record { before = outside; hash = 0 } in
    let rows = ap hashes_in c.in-Ok.ensures.items ∙ map-append hash_in s.links.items (new ∷ []) in
    record {
      linked = subst (λ links. AreLinks buckets s.lasts.items links) (sym c.in-Ok.ensures.items) (one_outside buckets s.lasts.items s.links.items new c.requires.linked refl);
      short = subst (λ rows. AreShort buckets rows) (sym rows) (short_outside buckets (hashes_in s.links.items) c.requires.short);
    }
