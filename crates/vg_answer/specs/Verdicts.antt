-- What is said of nets, one after another.
use Rattle.std.specs.Prelude.{◌≡◌, ℕ, Bool, true, false, List, [], ◌∷◌, ◌++◌, map, if◌then◌else◌}
use Rattle.std.specs.List.{AllZip, flat_map, list_any}
use Rattle.vg_change.specs.Placed.{PlacedNet}
use Rattle.vg_answer.specs.declared.kind.AnswerKind.{AnswerKind}
use Rattle.vg_answer.specs.declared.kind.AnswerKind.TheVariants.{Report, NoneGood, Refusal, Invalid}

-- What is said of one net: the kind of the answer, its lines, and the net with its new cells, where it gets any.
pub record Verdict : Type 0 where
  pub kind : AnswerKind
  pub text : List ℕ
  pub put : List PlacedNet

abbrev pub kind_in : Verdict → AnswerKind
kind_in verdict = verdict.kind

abbrev pub text_in : Verdict → List ℕ
text_in verdict = verdict.text

abbrev pub put_in : Verdict → List PlacedNet
put_in verdict = verdict.put

-- no cells are put into the net
abbrev pub bare_verdict : AnswerKind → List ℕ → Verdict
bare_verdict kind text = record { kind = kind; text = text; put = [] }

abbrev pub is_refusal : AnswerKind → Bool
is_refusal Report = false
is_refusal NoneGood = false
is_refusal Refusal = true
is_refusal Invalid = false

abbrev pub is_none_good : AnswerKind → Bool
is_none_good Report = false
is_none_good NoneGood = true
is_none_good Refusal = false
is_none_good Invalid = false

abbrev pub is_invalid : AnswerKind → Bool
is_invalid Report = false
is_invalid NoneGood = false
is_invalid Refusal = false
is_invalid Invalid = true

-- the kind of all answers together: a refusal where one net is refused, else that a certificate is not valid where one
-- is not, else that no placement is good where one net has none, else a report
abbrev pub kind_of : List AnswerKind → AnswerKind
kind_of kinds =
    if list_any is_refusal kinds then Refusal
    else (if list_any is_invalid kinds then Invalid
    else (if list_any is_none_good kinds then NoneGood else Report))

-- that of two answers
abbrev pub worse : AnswerKind → AnswerKind → AnswerKind
worse one other = kind_of (one ∷ other ∷ [])

-- the status where an answer of a kind was printed
abbrev pub status_for : AnswerKind → ℕ
status_for Report = 0
status_for NoneGood = 1
status_for Refusal = 2
status_for Invalid = 8

-- of the nets of these names this is said, one after another: together it has this kind and this text
pub record AreSaid (Says : List ℕ → Verdict → Type 0) (names : List (List ℕ)) (kind : AnswerKind)
    (text : List ℕ) : Type 0 where
  pub verdicts : List Verdict
  pub each : AllZip Says names verdicts
  pub kind_is : kind ≡ kind_of (map kind_in verdicts)
  pub text_is : text ≡ flat_map text_in verdicts

-- this is said of one net, and a text grew by it
pub record SaysOfNet (Says : Verdict → Type 0) (kind : AnswerKind) (old new : List ℕ) : Type 0 where
  pub text : List ℕ
  pub says : Says (bare_verdict kind text)
  pub is : new ≡ old ++ text
