use Rattle.std.proofs.Common.{◌≡◌, ◌+◌, ◌-◌, ◌<◌, ◌≤◌, Some, length, get_or, sym, ap, subst, ◌∙◌, arith, rules, ℕ, List}
use Rattle.std.specs.Prelude.{slice_get, vec_len}
use Rattle.std.proofs.lemmas.Option.{slice_get-get_or}
use Rattle.ver_module.specs.Netlists.{nets_by, nets_in, nets_with}
use Rattle.ver_module.specs.Flat.{IsPlace}
use Rattle.ver_module.proofs.NetLemmas.{fewer, first_low, firsts_as_many, get_or_same, net_at, owner, some_first}
use Rattle.ver_module.proofs.nets.Nets.get.Goals as goal

pub last_up_to-at-requires-clause-some : goal.last_up_to-at-requires-clause-some
last_up_to-at-requires-clause-some c =
    let names = c.self.inside.names in
    let is = c.self.inside.identifiers.items in
    let firsts = c.self.inside.firsts.items in
    let count = c.self.inside.count in
    let h = c.self.invariant in
    let low : c.args.id < length (nets_with names is) = omega (arith, c.requires, ap (λ t. length (nets_in t)) c.self.view_is) in
    omega (arith, some_first names is firsts count h c.args.id low, ap length c.deref.ensures.value)

pub last_up_to-at-requires-clause-first : goal.last_up_to-at-requires-clause-first
last_up_to-at-requires-clause-first c =
    let names = c.self.inside.names in
    let is = c.self.inside.identifiers.items in
    let firsts = c.self.inside.firsts.items in
    let count = c.self.inside.count in
    let h = c.self.invariant in
    let low : c.args.id < length (nets_with names is) = omega (arith, c.requires, ap (λ t. length (nets_in t)) c.self.view_is) in
    omega (arith, first_low names is firsts count h c.args.id low, ap (λ (ns : List ℕ). get_or ns 0 0) c.deref.ensures.value)

pub index-requires-2 : goal.index-requires-2
index-requires-2 c =
    let names = c.self.inside.names in
    let is = c.self.inside.identifiers.items in
    let firsts = c.self.inside.firsts.items in
    let count = c.self.inside.count in
    let h = c.self.invariant in
    let low : c.args.id < length (nets_with names is) = omega (arith, c.requires, ap (λ t. length (nets_in t)) c.self.view_is) in
    let all : vec_len c.self.inside.identifiers ≡ length is = search rules in
    omega (arith, all, c.last_up_to-at.ensures.within, ap length c.deref.ensures.value, firsts_as_many names is firsts count h c.args.id low)

pub overflow_cast-at : goal.overflow_cast-at
overflow_cast-at c =
    let names = c.self.inside.names in
    let is = c.self.inside.identifiers.items in
    let firsts = c.self.inside.firsts.items in
    let count = c.self.inside.count in
    let h = c.self.invariant in
    let low : c.args.id < length (nets_with names is) = omega (arith, c.requires, ap (λ t. length (nets_in t)) c.self.view_is) in
    omega (arith, c.last_up_to-at.ensures.within, ap length c.deref.ensures.value, firsts_as_many names is firsts count h c.args.id low, fewer is, h.counts, h.few)

pub name-requires : goal.name-requires
name-requires c =
    let names = c.self.inside.names in
    let is = c.self.inside.identifiers.items in
    let firsts = c.self.inside.firsts.items in
    let count = c.self.inside.count in
    let h = c.self.invariant in
    let low : c.args.id < length (nets_with names is) = omega (arith, c.requires, ap (λ t. length (nets_in t)) c.self.view_is) in
    omega (arith, c.last_up_to-at.ensures.within, ap length c.deref.ensures.value, firsts_as_many names is firsts count h c.args.id low, h.named)

pub net-requires : goal.net-requires
net-requires c =
    let names = c.self.inside.names in
    let is = c.self.inside.identifiers.items in
    let firsts = c.self.inside.firsts.items in
    let count = c.self.inside.count in
    let h = c.self.invariant in
    let low : c.args.id < length (nets_with names is) = omega (arith, c.requires, ap (λ t. length (nets_in t)) c.self.view_is) in
    let values = c.deref.ensures.value in
    let at = c.last_up_to-at.result in
    let first : c.index.result.now ≡ get_or firsts at 0 = get_or_same firsts at c.index.result.now 0 (omega (arith, c.last_up_to-at.ensures.within, ap length values)) c.index.ensures in
    let within : at < length is = omega (arith, c.last_up_to-at.ensures.within, ap length values, firsts_as_many names is firsts count h c.args.id low) in
    let place : IsPlace is c.args.id at (c.args.id - get_or firsts at 0) c.index-2.result.now =
    owner names is firsts count h c.args.id low at c.index-2.result.now (slice_get-get_or is at c.index-2.result.now within ∙ ap Some (sym c.index-2.ensures))
    (subst (λ (ns : List ℕ). get_or ns at 0 ≤ c.args.id) values c.last_up_to-at.ensures.from)
    (subst (λ (ns : List ℕ). at + 1 < length ns → c.args.id < get_or ns (at + 1) 0) values c.last_up_to-at.ensures.next)
    in
    omega (arith, place.within, first)

pub returns : goal.returns
returns c =
    let names = c.self.inside.names in
    let is = c.self.inside.identifiers.items in
    let firsts = c.self.inside.firsts.items in
    let count = c.self.inside.count in
    let h = c.self.invariant in
    let low : c.args.id < length (nets_with names is) = omega (arith, c.requires, ap (λ t. length (nets_in t)) c.self.view_is) in
    let values = c.deref.ensures.value in
    let at = c.last_up_to-at.result in
    let first : c.index.result.now ≡ get_or firsts at 0 = get_or_same firsts at c.index.result.now 0 (omega (arith, c.last_up_to-at.ensures.within, ap length values)) c.index.ensures in
    let within : at < length is = omega (arith, c.last_up_to-at.ensures.within, ap length values, firsts_as_many names is firsts count h c.args.id low) in
    let place : IsPlace is c.args.id at (c.args.id - get_or firsts at 0) c.index-2.result.now =
    owner names is firsts count h c.args.id low at c.index-2.result.now (slice_get-get_or is at c.index-2.result.now within ∙ ap Some (sym c.index-2.ensures))
    (subst (λ (ns : List ℕ). get_or ns at 0 ≤ c.args.id) values c.last_up_to-at.ensures.from)
    (subst (λ (ns : List ℕ). at + 1 < length ns → c.args.id < get_or ns (at + 1) 0) values c.last_up_to-at.ensures.next)
    in
    ap (λ t. slice_get (nets_in t) c.args.id) (sym c.self.view_is)
    ∙ net_at names is c.args.id at (c.args.id - get_or firsts at 0) c.index-2.result.now h.named place
    ∙ (λ i. slice_get (nets_by (sym c.name.ensures i) c.index-2.result.now) (c.args.id - sym first i))
    ∙ c.net.ensures
