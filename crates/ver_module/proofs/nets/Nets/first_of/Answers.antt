use Rattle.std.proofs.Common.{◌≡◌, ◌<◌, ◌+◌, List, ◌∙◌, length, take, get_or, ap, arith, rules, ℕ}
use Rattle.std.specs.Prelude.{vec_len}
use Rattle.ver_module.specs.Netlists.{NetTable}
use Rattle.ver_module.specs.Flat.{count_in}
use Rattle.ver_module.proofs.NetLemmas.{count_firsts, first_at, get_or_same}
use Rattle.ver_module.proofs.nets.Nets.first_of.Goals as goal

pub index-requires : goal.index-requires
index-requires c =
    let is = c.self.inside.identifiers.items in
    let all : vec_len c.self.inside.firsts ≡ length c.self.inside.firsts.items = search rules in
    omega (arith, all, c.requires, ap (λ (t : NetTable). length t.identifiers) c.self.view_is, ap length c.self.invariant.numbers, count_firsts 0 is)

pub returns : goal.returns
returns c =
    let is = c.self.inside.identifiers.items in
    let firsts = c.self.inside.firsts.items in
    let at = c.args.at in
    let low : at < length is = omega (arith, c.requires, ap (λ (t : NetTable). length t.identifiers) c.self.view_is) in
    let within : at < length firsts = omega (arith, low, ap length c.self.invariant.numbers, count_firsts 0 is) in
    let number : get_or firsts at 0 ≡ 0 + count_in (take at is) = ap (λ (ns : List ℕ). get_or ns at 0) c.self.invariant.numbers ∙ first_at 0 is at low in
    let its : c.index.result.now ≡ get_or firsts at 0 = get_or_same firsts at c.index.result.now 0 within c.index.ensures in
    let same : count_in (take at is) ≡ count_in (take at c.args.self.now.identifiers) = ap (λ (t : NetTable). count_in (take at t.identifiers)) c.self.view_is in
    omega (arith, number, its, same)
