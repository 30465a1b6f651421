use Rattle.vg_words.specs.Request.{texts}
use Rattle.vg_words.specs.Views.{given_by}
use Rattle.vg_words.proofs.JudgeLemmas.{refused, requested}
use Rattle.vg_words.proofs.judge.read_words.Goals as goal

pub returns-in_err-mode : goal.returns-in_err-mode
returns-in_err-mode c =
    let told = c.from_residual-in_err-mode in
    refused (texts c.args.words.now) (given_by c.in_ok-given.given) told.result c.in_err-mode.field-0.0 told.ensures.1
    c.in_ok-given.ensures c.in_err-mode.ensures

pub returns : goal.returns
returns c =
    let told = c.in_ok-ask_of.ensures in
    requested (texts c.args.words.now) (given_by c.in_ok-given.given) c.in_ok-mode.mode c.in_ok-ask_of.field-0 c.in_ok-given.ensures c.in_ok-mode.ensures
    told.mode told.spef told.lib told.verilog told.cons told.net told.all told.out_spef told.out_verilog told.cert told.cap told.prefix told.size told.parts
    told.target told.widths
