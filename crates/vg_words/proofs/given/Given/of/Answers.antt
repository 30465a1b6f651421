use Rattle.std.proofs.Common.{subst, sym}
use Rattle.clap.specs.Words.{found_of, one_text}
use Rattle.vg_words.specs.Request.{texts}
use Rattle.vg_words.proofs.ReadLemmas.{Tells, fails, other_unread, taken_values}
use Rattle.vg_words.proofs.given.Given.of.Goals as goal

pub returns-then-not-are_values_or_long : goal.returns-then-not-are_values_or_long
returns-then-not-are_values_or_long c = other_unread (texts c.args.words.now) (sym c.if-not-are_values_or_long.ensures)

pub returns-in_err-matches : goal.returns-in_err-matches
returns-in_err-matches c =
    fails (texts c.args.words.now) c.from_residual.result c.in_err-matches.field-0.0 c.from_residual.ensures.1 c.in_err-matches.ensures.fault

pub returns : goal.returns
returns c =
    let told = c.in_ok-matches.ensures in
    let flag = c.get_flag-all in
    let found = found_of c.in_ok-matches.matches in
    let tells = subst (λ name. Tells (one_text found name) flag.result) c.long.ensures (flag.ensures.value, flag.ensures.other) in
    taken_values (texts c.args.words.now) (record { matches = c.in_ok-matches.matches; all = flag.result })
    (sym c.if-not-are_values_or_long.ensures) told.fault told.matches tells
