-- How delivering an answer ends for a request.
use Rattle.std.proofs.Common.{inl, inr, ℕ, List, sym, subst}
use Rattle.vg_store.specs.Causes.{Rose}
use Rattle.vg_store.specs.Reading.{FilesState}
use Rattle.vg_store.specs.States.{KeepsWriting}
use Rattle.vg_store.specs.Writing.{FilesStay, OutState, WriteFaultAt}
use Rattle.vg_words.specs.declared.ask.Ask.{Ask}
use Rattle.vg_run.specs.Modes.{IsAnswerFor}
use Rattle.vg_answer.specs.Answers.{said_by, Written}
use Rattle.vg_run.specs.Inputs.{AreRead, Change}
use Rattle.vg_run.specs.Outcomes.{Ends, IsDelivered}
use Rattle.vg_run.specs.Run.{AreWritten}
use Rattle.vg_run.proofs.InputLemmas.{writing_kept}
use Rattle.vg_run.proofs.WriteLemmas.{held_since, others_since}
use Rattle.vg_answer.specs.declared.answer.Answer.{Answer}
use Rattle.vg_answer.specs.declared.input.Input.{Input}
use Rattle.vg_run.specs.declared.outcome.Outcome.{Outcome}

-- reading the inputs changed no file, and nothing that is told of writing
module _ (old mid new : FilesState) (kept : FilesStay old mid) (writing : KeepsWriting old mid) where
  written_since : (ask : Ask) (said : List Written) → AreWritten (mid, new) ask said → AreWritten (old, new) ask said
  written_since ask said written = record {
    whole = written.whole;
    others = others_since old mid new kept ask said written.others;
    none = λ empty. writing_kept old mid new writing (written.none empty);
  }

  fault_since : (IsBlamed : List ℕ → Type 0) → WriteFaultAt mid new IsBlamed → WriteFaultAt old new IsBlamed
  fault_since IsBlamed (rose, blamed) = (subst (λ (before : ℕ). Rose before new.write_faults) writing.same_faults rose, blamed)

  pub delivered : (ask : Ask) (out : Change OutState) (texts : Input → List ℕ) (answer : Answer) (outcome : Outcome) → AreRead old ask texts
      → IsAnswerFor ask texts answer.kind (said_by answer) → IsDelivered ask (mid, new) out answer outcome → Ends ask (old, new) out outcome
  delivered ask out texts answer outcome read is (inl (inl (e, gains), written)) =
      subst (λ (o : Outcome). Ends ask (old, new) out o) (sym e) (texts, read, (said_by answer, is, gains, written_since ask (said_by answer).files written))
  delivered ask out texts answer outcome read is (inl (inr (e, rose, prefix), written)) =
      subst (λ (o : Outcome). Ends ask (old, new) out o) (sym e) (rose, (answer.kind, (texts, read, (said_by answer, is, prefix, written_since ask (said_by answer).files written))))
  delivered ask out texts answer outcome read is (inr (output, e, same, unwritten)) =
      subst (λ (o : Outcome). Ends ask (old, new) out o) (sym e) (
        record {
          texts = texts;
          read = read;
          kind = answer.kind;
          said = said_by answer;
          is = is;
          hold = held_since old mid new kept ask (said_by answer).files output unwritten.hold;
          fault = fault_since _ unwritten.fault;
        },
        same,
      )
