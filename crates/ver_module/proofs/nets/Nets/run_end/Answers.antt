use Rattle.std.proofs.Common.{◌+◌, ◌-◌, ◌<◌, ◌≤◌, None, false, length, get_or, sym, ap, subst, ◌∙◌, arith, ℕ, List}
use Rattle.std.proofs.lemmas.Bool.{ltb-true}
use Rattle.std.proofs.lemmas.Option.{slice_get-get_or}
use Rattle.ver_module.specs.Netlists.{NetTable, nets_in, nets_with}
use Rattle.ver_module.specs.Flat.{IsPlace}
use Rattle.ver_module.specs.Runs.{IsRun}
use Rattle.ver_module.specs.declared.net.Identifier.{Identifier}
use Rattle.ver_module.proofs.NetLemmas.{first_low, firsts_as_many, get_or_same, not_below, owner, last_end, next_end, run_to, some_first}
use Rattle.ver_module.proofs.nets.Nets.run_end.Goals as goal

plain : Identifier
plain = record { range = None; escaped = false; port = None; supply = false }

pub last_up_to-next-requires-clause-some : goal.last_up_to-next-requires-clause-some
last_up_to-next-requires-clause-some c =
    let names = c.self.inside.names in
    let is = c.self.inside.identifiers.items in
    let firsts = c.self.inside.firsts.items in
    let count = c.self.inside.count in
    let h = c.self.invariant in
    let low : c.args.id < length (nets_with names is) = omega (arith, c.requires, ap (λ t. length (nets_in t)) c.self.view_is) in
    omega (arith, some_first names is firsts count h c.args.id low, ap length c.deref.ensures.value)

pub last_up_to-next-requires-clause-first : goal.last_up_to-next-requires-clause-first
last_up_to-next-requires-clause-first c =
    let names = c.self.inside.names in
    let is = c.self.inside.identifiers.items in
    let firsts = c.self.inside.firsts.items in
    let count = c.self.inside.count in
    let h = c.self.invariant in
    let low : c.args.id < length (nets_with names is) = omega (arith, c.requires, ap (λ t. length (nets_in t)) c.self.view_is) in
    omega (arith, first_low names is firsts count h c.args.id low, ap (λ (ns : List ℕ). get_or ns 0 0) c.deref.ensures.value)

pub returns-in-Some : goal.returns-in-Some
returns-in-Some c =
    let names = c.self.inside.names in
    let is = c.self.inside.identifiers.items in
    let firsts = c.self.inside.firsts.items in
    let count = c.self.inside.count in
    let h = c.self.invariant in
    let low : c.args.id < length (nets_with names is) = omega (arith, c.requires, ap (λ t. length (nets_in t)) c.self.view_is) in
    let values = c.deref.ensures.value in
    let at = c.last_up_to-next.result in
    let within : at < length is = omega (arith, c.last_up_to-next.ensures.within, ap length values, firsts_as_many names is firsts count h c.args.id low) in
    let identifier = get_or is at plain in
    let from : get_or firsts at 0 ≤ c.args.id = subst (λ (ns : List ℕ). get_or ns at 0 ≤ c.args.id) values c.last_up_to-next.ensures.from in
    let there = slice_get-get_or is at plain within in
    let place : IsPlace is c.args.id at (c.args.id - get_or firsts at 0) identifier =
    owner names is firsts count h c.args.id low at identifier there from
    (subst (λ (ns : List ℕ). at + 1 < length ns → c.args.id < get_or ns (at + 1) 0) values c.last_up_to-next.ensures.next)
    in
    let lookup = c.in-Some.ensures.lookup in
    let next_low : at + 1 < length firsts = omega (arith, ltb-true (at + 1) (length c.deref-2.result.now) (sym lookup.0), ap length c.deref-2.ensures.value) in
    subst (λ (t : NetTable). IsRun (nets_in t) c.args.id c.in-Some.first.now) c.self.view_is
    (run_to names is firsts count h c.args.id low at identifier c.in-Some.first.now place from
    (get_or_same firsts (at + 1) c.in-Some.first.now 0 next_low (lookup.1 ∙ ap (λ (ns : List ℕ). get_or ns (at + 1) c.in-Some.first.now) c.deref-2.ensures.value) ∙ next_end names is firsts count h c.args.id low at identifier there
    (omega (arith, next_low, firsts_as_many names is firsts count h c.args.id low))))

pub returns-in-None : goal.returns-in-None
returns-in-None c =
    let names = c.self.inside.names in
    let is = c.self.inside.identifiers.items in
    let firsts = c.self.inside.firsts.items in
    let count = c.self.inside.count in
    let h = c.self.invariant in
    let low : c.args.id < length (nets_with names is) = omega (arith, c.requires, ap (λ t. length (nets_in t)) c.self.view_is) in
    let values = c.deref.ensures.value in
    let at = c.last_up_to-next.result in
    let within : at < length is = omega (arith, c.last_up_to-next.ensures.within, ap length values, firsts_as_many names is firsts count h c.args.id low) in
    let identifier = get_or is at plain in
    let from : get_or firsts at 0 ≤ c.args.id = subst (λ (ns : List ℕ). get_or ns at 0 ≤ c.args.id) values c.last_up_to-next.ensures.from in
    let there = slice_get-get_or is at plain within in
    let place : IsPlace is c.args.id at (c.args.id - get_or firsts at 0) identifier =
    owner names is firsts count h c.args.id low at identifier there from
    (subst (λ (ns : List ℕ). at + 1 < length ns → c.args.id < get_or ns (at + 1) 0) values c.last_up_to-next.ensures.next)
    in
    let past : length firsts ≤ at + 1 = omega (arith, not_below (at + 1) (length c.deref-2.result.now) (sym c.in-None.ensures.lookup.0), ap length c.deref-2.ensures.value) in
    subst (λ (t : NetTable). IsRun (nets_in t) c.args.id count) c.self.view_is
    (run_to names is firsts count h c.args.id low at identifier count place from
    (last_end names is firsts count h c.args.id low at identifier there (omega (arith, past, firsts_as_many names is firsts count h c.args.id low))))
