use Rattle.std.proofs.Common.{◌≡◌, ◌<◌, ◌+◌, ◌++◌, ◌∷◌, [], suc, Some, ap, sym, subst, ◌∙◌, length, length-take, get_or, take, arith}
use Rattle.std.proofs.Math.ListN.{set}
use Rattle.std.proofs.Math.Seq.{map-set_same, take-suc}
use Rattle.std.proofs.lemmas.List.{get_or_default, take_more_set}
use Rattle.name_tables.specs.Chains.{bucket_of, AreLinks, hash_in}
use Rattle.name_tables.specs.declared.chains.Link.{Link}
use Rattle.name_tables.proofs.ChainLemmas.{hash_put, hash_some, one_outside, put_last}
use Rattle.name_tables.proofs.chains.Chains.relink.Goals as goal

pub returns-then-before-clause-linked : goal.returns-then-before-clause-linked
returns-then-before-clause-linked c =
    let s = c.args.self.now in
    let buckets = length s.lasts.items in
    let row = c.args.row in
    let link = c.index.result.now in
    let last : take (row + 1) s.links.items ≡ take row s.links.items ++ link ∷ [] =
    ap (λ n. take n s.links.items) (let e : row + 1 ≡ suc row = omega arith in e) ∙ take-suc s.links.items row link c.requires.row.0 ∙ ap (λ l. take row s.links.items ++ l ∷ []) (sym c.index.ensures) in
    subst (λ links. AreLinks buckets s.lasts.items links) (sym last) (one_outside buckets s.lasts.items (take row s.links.items) link c.requires.linked c.if-before.true)

pub returns-clause-linked : goal.returns-clause-linked
returns-clause-linked c =
    let s = c.args.self.now in
    let lasts = s.lasts.items in
    let links = s.links.items in
    let row = c.args.row in
    let new : Link = record { before = c.index-before.result.now; hash = c.index.result.now.hash } in
    let bucket = c.bucket_of-bucket.result in
    let count : c.len.result ≡ length lasts = omega (arith, c.len.ensures) in
    let bucket_is : bucket ≡ bucket_of (length lasts) new.hash = c.bucket_of-bucket.ensures.bucket ∙ ap (λ n. bucket_of n new.hash) count in
    let within : bucket < length lasts = omega (arith, c.bucket_of-bucket.ensures.within, c.len.ensures) in
    let so_far : length (take row links) ≡ row = omega (arith, length-take row links, c.requires.row.0) in
    subst (λ ls. AreLinks (length (set lasts bucket (row + 1))) (set lasts bucket (row + 1)) ls) (sym (take_more_set links row new c.requires.row.0))
    (put_last lasts (take row links) new.hash bucket new.before (row + 1) c.requires.linked bucket_is within c.index-before.ensures (omega (arith, so_far, c.requires.row.1)) (omega (arith, so_far)))

pub returns-clause-rows : goal.returns-clause-rows
returns-clause-rows c =
    let s = c.args.self.now in
    let lasts = s.lasts.items in
    let links = s.links.items in
    let row = c.args.row in
    let link = c.index.result.now in
    let none : Link = record { before = 0; hash = 0 } in
    let new : Link = record { before = c.index-before.result.now; hash = link.hash } in
    let within : c.bucket_of-bucket.result < length lasts = omega (arith, c.bucket_of-bucket.ensures.within, c.len.ensures) in
    let count : length (take row links) ≡ row = omega (arith, length-take row links, c.requires.row.0) in
    let is_new : hash_in new ≡ Some link.hash =
    hash_put lasts (take row links) c.bucket_of-bucket.result new.before link.hash c.requires.linked within c.index-before.ensures (omega (arith, count, c.requires.row.1)) in
    let read : link ≡ get_or links row none = c.index.ensures ∙ get_or_default links row link none c.requires.row.0 in
    map-set_same hash_in links row new none (is_new ∙ sym (hash_some link c.if-before.false) ∙ ap hash_in read)
