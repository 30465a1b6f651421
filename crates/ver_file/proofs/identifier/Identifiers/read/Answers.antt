use Rattle.std.proofs.Common.{◌≡◌, ◌++◌, ◌∷◌, [], ◌<◌, Option, Some, length, set, slice_get, true, refl, sym, ap, ◌∙◌, subst, arith}
use Rattle.std.proofs.lemmas.Option.{slice_get-get_or}
use Rattle.std.specs.Vec.{with_item}
use Rattle.ver_items.specs.declared.heading.Heading.{Heading}
use Rattle.ver_file.specs.declared.identifier.Identifiers.{Identifiers}
use Rattle.ver_file.specs.Firsts.{declared_under}
use Rattle.ver_file.specs.Tables.{AreRead}
use Rattle.ver_file.proofs.ReadLemmas.{declared, passed_over, undeclared}
use Rattle.ver_file.proofs.identifier.Identifiers.read.Goals as goal

pub returns-then-not-is_net_name-clause-read : goal.returns-then-not-is_net_name-clause-read
returns-then-not-is_net_name-clause-read c = λ left ds h.
    passed_over c.args.text.now c.args.heading c.args.row left ds c.args.self.now (sym c.is_net_name.ensures ∙ c.if-not-is_net_name.true) h

pub returns-in-Some-clause-read : goal.returns-in-Some-clause-read
returns-in-Some-clause-read c = λ left ds h.
    let text = c.args.text.now in
    let e = c.in_ok-at.ensures in
    let at = c.in_ok-at.at in
    let old = c.intern.new.self in
    let new : Identifiers = record old { all = with_item old.all at c.with_heading.result; declared = with_item old.declared at true } in
    let all_low : at < length old.all.items = omega (arith, e.within, e.count.all) in
    let declared_low : at < length old.declared.items = omega (arith, e.within, e.count.declared) in
    let identifier : slice_get old.all.items at ≡ Some c.index.result.now =
    slice_get-get_or old.all.items at c.index.result.now all_low ∙ ap Some (sym c.index.ensures) in
    let was : slice_get old.declared.items at ≡ Some c.index-in-Some.result.now =
    slice_get-get_or old.declared.items at c.index-in-Some.result.now declared_low ∙ ap Some (sym c.index-in-Some.ensures) in
    subst (λ (heading : Option Heading). AreRead text left (ds ++ declared_under text heading (c.args.row ∷ [])) new) (sym c.in-Some.is)
    (declared text c.in-Some.heading c.args.row left ds old (e.read left ds h) at e.within e.is new
    (sym c.is_net_name.ensures ∙ c.if-not-is_net_name.false) refl refl refl c.index.result.now c.index-in-Some.result.now identifier was
    (ap (set old.all.items at) c.with_heading.ensures) refl)

pub returns-in_default-clause-read : goal.returns-in_default-clause-read
returns-in_default-clause-read c = λ left ds h.
    subst (λ (heading : Option Heading). AreRead c.args.text.now left (ds ++ declared_under c.args.text.now heading (c.args.row ∷ [])) c.intern.new.self) (sym c.in_default.is)
    (undeclared c.args.text.now left ds c.intern.new.self (c.in_ok-at.ensures.read left ds h))
