use Rattle.std.proofs.Common.{◌≡◌, arith, ◌∙◌, rules, ap, Ok}
use Rattle.std.proofs.lemmas.Int.{to_z-of_z}
use mir.Syntax.{w32}
use Rattle.vg_num.proofs.NearestLemmas.{exact_form, exact_negative, exact_large, exact_ok}
use Rattle.vg_num.proofs.read.read_scaled.Goals as goal

pub returns-then-not-is_number-clause-exact : goal.returns-then-not-is_number-clause-exact
returns-then-not-is_number-clause-exact c = exact_form c.args.places 1000000000000000 c.args.text.now (search rules)

pub returns-then-is_negative-clause-exact : goal.returns-then-is_negative-clause-exact
returns-then-is_negative-clause-exact c = exact_negative c.args.places 1000000000000000 c.args.text.now (search rules) (search rules)

pub returns-then-size-gt1000000000000000-clause-exact : goal.returns-then-size-gt1000000000000000-clause-exact
returns-then-size-gt1000000000000000-clause-exact c =
    let (n, near, e) = rw (to_z-of_z w32 c.args.places c.ranges.places) at c.size_of-size.ensures in
    exact_large c.args.places 1000000000000000 c.args.text.now n (search rules) (search rules) near (omega (arith, e))

pub returns-clause-exact : goal.returns-clause-exact
returns-clause-exact c =
    let (n, near, e) = rw (to_z-of_z w32 c.args.places c.ranges.places) at c.size_of-size.ensures in
    let same : c.size_of-size.result ≡ n = omega (arith, e) in
    ap Ok same ∙ exact_ok c.args.places 1000000000000000 c.args.text.now n (search rules) (search rules) near (omega (arith, e))

pub returns-in-Some-clause-exact : goal.returns-in-Some-clause-exact
returns-in-Some-clause-exact c =
    let h = rw (to_z-of_z w32 c.args.places c.ranges.places) at c.in-Some.ensures in
    exact_ok c.args.places 1000000000000000 c.args.text.now c.in-Some.number h.number h.sign h.value h.small
