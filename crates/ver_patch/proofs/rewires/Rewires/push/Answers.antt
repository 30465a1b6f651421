use Rattle.std.proofs.Common.{◌≡◌, ◌+◌, ap, arith, length, length-append}
use Rattle.ver_patch.proofs.PlaceLemmas.{rewires_more}
use Rattle.ver_patch.proofs.rewires.Rewires.push.Goals as goal

pub returns-in-Ok-push-clause-last : goal.returns-in-Ok-push-clause-last
returns-in-Ok-push-clause-last c =
    let text = c.self.inside.text.items in
    let net = c.args.net.now in
    let begin : c.len-from.result ≡ length text = omega (arith, c.len-from.ensures, c.self.inside.text.ok) in
    let end : c.len-to.result ≡ c.len-from.result + length net = omega (arith, begin, ap length c.in-Ok.ensures.items, length-append text net) in
    rewires_more text c.extend_from_slice.new.self.items c.self.inside.places.items c.push.new.self.items _ c.args.self.now net c.self.invariant c.self.view_is
    c.in-Ok.ensures.items begin end c.in-Ok-push.ensures.items
