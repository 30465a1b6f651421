use Rattle.std.proofs.Common.{◌∙◌}
use Rattle.vg_verdict.proofs.MadeLemmas.{claim_is, claim_stays}
use Rattle.vg_verdict.proofs.certify.certified.Goals as goal

pub returns-clause-found : goal.returns-clause-found
returns-clause-found c =
    c.claim.ensures ∙ claim_stays c.in_ok-cert.cert c.take_text.new.cert c.take_text.ensures.slack c.take_text.ensures.placement
    ∙ claim_is c.args.answer.found c.in_ok-cert.cert c.in_ok-cert.ensures.found

pub returns-clause-text : goal.returns-clause-text
returns-clause-text c = record {
  cert = c.in_ok-cert.cert;
  fits = c.in_ok-cert.ensures.fits;
  valid = c.in_ok-cert.ensures.valid;
  claims = c.in_ok-cert.ensures.found;
  kept = c.in_ok-cert.ensures.lists;
  text_is = c.in_ok-text.ensures.text;
}
