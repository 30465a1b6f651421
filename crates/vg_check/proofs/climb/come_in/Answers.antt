use Rattle.std.proofs.Common.{◌≡◌, arith, length, rules}
use Rattle.vg_cert.specs.Fits.{lists_in}
use Rattle.vg_check.proofs.ClimbLemmas.{parts_on, upper_part}
use Rattle.vg_check.proofs.climb.come_in.Goals as goal

pub take-requires-clause-upper : goal.take-requires-clause-upper
take-requires-clause-upper c =
    let number : c.len-node.result ≡ length c.args.parts.now.items = search rules in
    upper_part c.args.p.now (lists_in c.args.lists.now) c.args.parts.now.items c.len-node.result number
    (omega (arith, number, c.if-node-eq0.false)) c.requires.node c.requires.parts c.as_slice.result.now
    (record { parent = 0; r = 0; c = 0 }) c.as_slice.ensures c.replace-upper.result c.index_mut.result.now
    c.replace-upper.ensures.value c.index_mut.ensures.value

pub returns-clause-parts : goal.returns-clause-parts
returns-clause-parts c =
    let number : c.len-node.result ≡ length c.args.parts.now.items = search rules in
    parts_on c.args.p.now (lists_in c.args.lists.now) c.args.parts.now.items c.len-node.result number
    (omega (arith, number, c.if-node-eq0.false)) c.requires.node c.requires.parts c.as_slice.result.now
    (record { parent = 0; r = 0; c = 0 }) c.as_slice.ensures c.replace-upper.new.dest c.in_ok-parts.field-0
    c.in_ok-parts.ensures
