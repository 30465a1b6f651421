use Rattle.std.proofs.Common.{◌≡◌, ◌<◌, ◌+◌, ◌++◌, ◌∷◌, [], ap, refl, sym, subst, ◌∙◌, length, length-append, arith}
use Rattle.std.proofs.Math.ListN.{length-set, set}
use Rattle.std.proofs.lemmas.List.{length-map, map-append}
use Rattle.name_tables.specs.Chains.{bucket_of, AreLinks, AreShort, hash_in, hashes_in, outside, rows_of}
use Rattle.name_tables.specs.declared.chains.Link.{Link}
use Rattle.name_tables.proofs.ChainLemmas.{chains_same, hash_put, put_last, short_more}
use Rattle.name_tables.proofs.chains.Chains.push.Goals as goal

pub returns-in_default-clause-chains : goal.returns-in_default-clause-chains
returns-in_default-clause-chains c = chains_same c.args.self.now _ c.requires.chains refl c.in_default.ensures.items

pub returns-clause-last : goal.returns-clause-last
returns-clause-last c =
    let s = c.args.self.now in
    let new : Link = record { before = c.index-before.result.now; hash = c.args.hash } in
    let within : c.bucket_of-bucket.result < length s.lasts.items = omega (arith, c.bucket_of-bucket.ensures.within, c.len.ensures) in
    let few : length s.links.items < outside = omega (arith, c.requires.few, length-map s.links.items hash_in) in
    ap hashes_in c.in-Ok.ensures.items ∙ map-append hash_in s.links.items (new ∷ [])
    ∙ ap (λ o. rows_of s ++ o ∷ []) (hash_put s.lasts.items s.links.items c.bucket_of-bucket.result c.index-before.result.now c.args.hash c.requires.chains.linked within c.index-before.ensures few)

pub returns-clause-chains : goal.returns-clause-chains
returns-clause-chains c =
    let s = c.args.self.now in
    let lasts = s.lasts.items in
    let links = s.links.items in
    let new : Link = record { before = c.index-before.result.now; hash = c.args.hash } in
    let bucket = c.bucket_of-bucket.result in
    let count : c.len.result ≡ length lasts = omega (arith, c.len.ensures) in
    let bucket_is : bucket ≡ bucket_of (length lasts) c.args.hash = c.bucket_of-bucket.ensures.bucket ∙ ap (λ n. bucket_of n c.args.hash) count in
    let within : bucket < length lasts = omega (arith, c.bucket_of-bucket.ensures.within, c.len.ensures) in
    let few : length links < outside = omega (arith, c.requires.few, length-map links hash_in) in
    let next : c.len-2.result ≡ length links + 1 = omega (arith, c.len-2.ensures, ap length c.in-Ok.ensures.items, length-append links (new ∷ [])) in
    record {
      linked = subst (λ ls. AreLinks (length (set lasts bucket c.len-2.result)) (set lasts bucket c.len-2.result) ls) (sym c.in-Ok.ensures.items)
          (put_last lasts links c.args.hash bucket c.index-before.result.now c.len-2.result c.requires.chains.linked bucket_is within c.index-before.ensures few next);
      short = subst (λ n. AreShort n (hashes_in c.push.new.self.items)) (sym (length-set lasts bucket c.len-2.result))
          (subst (λ rows. AreShort (length lasts) rows) (sym (returns-clause-last c)) (short_more (length lasts) (rows_of s) c.args.hash c.requires.chains.short c.requires.short));
    }
