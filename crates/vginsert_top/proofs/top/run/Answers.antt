use Rattle.std.proofs.Common.{arith, inl, inr, ◌∙◌}
use Rattle.vg_run.proofs.CompleteLemmas.{run_complete}
use Rattle.vginsert_top.proofs.HeadlineLemmas.{run_certified, run_headline, run_shown}
use Rattle.vg_words.specs.Request.{texts}
use Rattle.vg_run.proofs.RequestLemmas.{outputs_apart, prefix_is_solid, size_is}
use Rattle.vg_run.proofs.RunLemmas.{run_line, run_printed, run_not_three, run_unreadable, run_read_fault, run_write_fault, run_status, run_untouched, run_unprinted, run_exact, fault_two, fault_exact}
use Rattle.vg_answer.specs.declared.kind.AnswerKind.TheVariants.{Report, NoneGood, Refusal, Invalid}
use Rattle.vginsert_top.proofs.top.run.Goals as goal

pub returns-in-Ok-clause-done : goal.returns-in-Ok-clause-done
returns-in-Ok-clause-done g c = λ e. (c.in-Ok.ask, c.in-Ok.ensures, run_printed c.run_request.ensures.ends Report e)

pub returns-in-Ok-clause-refused : goal.returns-in-Ok-clause-refused
returns-in-Ok-clause-refused g c = λ e. (c.in-Ok.ask, c.in-Ok.ensures, run_printed c.run_request.ensures.ends Refusal e)

pub returns-in-Ok-clause-none_good : goal.returns-in-Ok-clause-none_good
returns-in-Ok-clause-none_good g c = λ e. (c.in-Ok.ask, c.in-Ok.ensures, run_printed c.run_request.ensures.ends NoneGood e)

pub returns-in-Ok-clause-invalid : goal.returns-in-Ok-clause-invalid
returns-in-Ok-clause-invalid g c = λ e. (c.in-Ok.ask, c.in-Ok.ensures, run_printed c.run_request.ensures.ends Invalid e)

pub returns-in-Ok-clause-unread : goal.returns-in-Ok-clause-unread
returns-in-Ok-clause-unread g c = λ e. absurd (run_not_three c.run_request.ensures.ends e)

pub returns-in-Ok-clause-no_request : goal.returns-in-Ok-clause-no_request
returns-in-Ok-clause-no_request g c = λ none. absurd (none c.in-Ok.ask c.in-Ok.ensures)

pub returns-in-Ok-clause-unreadable : goal.returns-in-Ok-clause-unreadable
returns-in-Ok-clause-unreadable g c = λ e. (c.in-Ok.ask, c.in-Ok.ensures, run_unreadable c.run_request.ensures.ends e)

pub returns-in-Ok-clause-read_fault : goal.returns-in-Ok-clause-read_fault
returns-in-Ok-clause-read_fault g c = λ e. (c.in-Ok.ask, c.in-Ok.ensures, (run_read_fault c.run_request.ensures.ends e).1)

pub returns-in-Ok-clause-read_cause : goal.returns-in-Ok-clause-read_cause
returns-in-Ok-clause-read_cause g c = λ e. (run_read_fault c.run_request.ensures.ends e).0

pub returns-in-Ok-clause-write_fault : goal.returns-in-Ok-clause-write_fault
returns-in-Ok-clause-write_fault g c = λ e. (c.in-Ok.ask, c.in-Ok.ensures, run_write_fault c.run_request.ensures.ends e)

pub returns-in-Ok-clause-statuses : goal.returns-in-Ok-clause-statuses
returns-in-Ok-clause-statuses g c = run_status c.run_request.ensures.ends

pub returns-in-Ok-clause-nothing_printed : goal.returns-in-Ok-clause-nothing_printed
returns-in-Ok-clause-nothing_printed g c = λ e. run_unprinted c.run_request.ensures.ends e

pub returns-in-Ok-clause-nothing_written : goal.returns-in-Ok-clause-nothing_written
returns-in-Ok-clause-nothing_written g c = λ e. run_untouched c.run_request.ensures.ends e

pub returns-in-Ok-clause-exact : goal.returns-in-Ok-clause-exact
returns-in-Ok-clause-exact g c = run_exact c.run_request.ensures.ends (texts c.args.words.now) c.in-Ok.ensures

pub returns-in-Err-clause-unread : goal.returns-in-Err-clause-unread
returns-in-Err-clause-unread g c = λ three. fault_exact (texts c.args.words.now) c.in-Err.fault c.in-Err.ensures (λ seven. omega (arith, c.fault_status.ensures, three))

pub returns-in-Err-clause-no_request : goal.returns-in-Err-clause-no_request
returns-in-Err-clause-no_request g c = λ none.
    elim (fault_two c.in-Err.fault) [
      | inl e ↦ inl (c.fault_status.ensures ∙ e)
      | inr e ↦ inr (c.fault_status.ensures ∙ e)
    ]

pub returns-in-Err-clause-exact : goal.returns-in-Err-clause-exact
returns-in-Err-clause-exact g c = λ request is read told five six seven.
    absurd (fault_exact (texts c.args.words.now) c.in-Err.fault c.in-Err.ensures (λ e. seven (c.fault_status.ensures ∙ e)) request is)

pub run_request-requires-clause-apart : goal.run_request-requires-clause-apart
run_request-requires-clause-apart g c = outputs_apart (texts c.args.words.now) c.in-Ok.ask c.in-Ok.ensures

pub run_request-requires-clause-prefix : goal.run_request-requires-clause-prefix
run_request-requires-clause-prefix g c = prefix_is_solid (texts c.args.words.now) c.in-Ok.ask c.in-Ok.ensures

pub run_request-requires-clause-size : goal.run_request-requires-clause-size
run_request-requires-clause-size g c = size_is (texts c.args.words.now) c.in-Ok.ask c.in-Ok.ensures

pub returns-in-Ok-clause-unread_line : goal.returns-in-Ok-clause-unread_line
returns-in-Ok-clause-unread_line g c = λ e. absurd (run_not_three c.run_request.ensures.ends e)

pub returns-in-Ok-clause-error_line : goal.returns-in-Ok-clause-error_line
returns-in-Ok-clause-error_line g c = run_line c.run_request.ensures.ends

pub returns-in-Ok-clause-kept : goal.returns-in-Ok-clause-kept
returns-in-Ok-clause-kept g c = λ file none. c.run_request.ensures.kept file (none c.in-Ok.ask c.in-Ok.ensures)

pub returns-in-Ok-clause-complete : goal.returns-in-Ok-clause-complete
returns-in-Ok-clause-complete g c = run_complete (texts c.args.words.now) c.in-Ok.ensures c.run_request.ensures.ends

pub returns-in-Ok-clause-headline : goal.returns-in-Ok-clause-headline
returns-in-Ok-clause-headline g c = λ e.
    (c.in-Ok.ask, c.in-Ok.ensures, run_headline (texts c.args.words.now) c.in-Ok.ensures c.run_request.ensures.ends e)

pub returns-in-Ok-clause-certified : goal.returns-in-Ok-clause-certified
returns-in-Ok-clause-certified g c = λ e.
    (c.in-Ok.ask, c.in-Ok.ensures, run_certified (texts c.args.words.now) c.in-Ok.ensures c.run_request.ensures.ends e)

pub returns-in-Ok-clause-shown : goal.returns-in-Ok-clause-shown
returns-in-Ok-clause-shown g c = λ e.
    (c.in-Ok.ask, c.in-Ok.ensures, run_shown (texts c.args.words.now) c.in-Ok.ensures c.run_request.ensures.ends e)

pub returns-in-Err-clause-complete : goal.returns-in-Err-clause-complete
returns-in-Err-clause-complete g c = λ request is read fit fine.
    elim (fault_two c.in-Err.fault) [
      | inl three ↦ absurd (fault_exact (texts c.args.words.now) c.in-Err.fault c.in-Err.ensures (λ seven. omega (arith, three, seven)) request is)
      | inr seven ↦ inr (c.fault_status.ensures ∙ seven)
    ]

pub returns-in-Err-clause-headline : goal.returns-in-Err-clause-headline
returns-in-Err-clause-headline g c = λ e. absurd (omega (arith, c.fault_status.ensures, fault_two c.in-Err.fault, e))

pub returns-in-Err-clause-certified : goal.returns-in-Err-clause-certified
returns-in-Err-clause-certified g c = λ e. absurd (omega (arith, c.fault_status.ensures, fault_two c.in-Err.fault, e))
