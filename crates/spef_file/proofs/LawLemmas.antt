-- A text says one thing.
use Rattle.std.proofs.Common.{◌≡◌, ℕ, ◌≤◌, ◌⊎◌, inl, inr, List, length, take, drop, map, sym, ap, ◌∙◌, subst, arith}
use Rattle.std.specs.Prelude.{unwrap_or}
use Rattle.std.specs.Str.Lines.{lines}
use Rattle.vg_scan.specs.Lines.{Line, words}
use Rattle.vg_scan.specs.Comments.{without_comments}
use Rattle.vg_scan.specs.declared.comments.Comments.TheVariants.{Spef}
use Rattle.vg_scan.specs.declared.fault.LineFault.{LineFault}
use Rattle.vg_scan.specs.Faults.{IsClear, IsFirstFault}
use Rattle.vg_scan.proofs.FaultLemmas.{never_both, first_fault-unique}
use Rattle.spef_file.specs.declared.fault.SpefKind.{SpefKind}
use Rattle.spef_file.specs.Faults.{fault_at}
use Rattle.spef_file.specs.HeaderLines.{spoken}
use Rattle.spef_file.specs.Nets.{end_at}
use Rattle.spef_file.specs.Files.{File, file_lines, said_by, IsFileOf, IsHeaderless, IsFileFault}
use Rattle.spef_file.specs.Indexes.{lines_after}

-- the first fault of some lines, or of a header that is missing
abbrev IsFaultOf : List Line → LineFault SpefKind → Type 0
IsFaultOf lines fault = IsFirstFault (fault_at lines) (length lines) 1 fault ⊎ IsHeaderless lines fault

same_fields : (one other : LineFault SpefKind) → one.kind ≡ other.kind → one.line ≡ other.line → one ≡ other
same_fields one other e f = λ i. record { kind = e i; line = f i }

one_of : (lines : List Line) (one other : LineFault SpefKind) → IsFaultOf lines one → IsFaultOf lines other → one ≡ other
one_of lines one other (inl f) (inl g) = first_fault-unique (fault_at lines) (length lines) 1 one other f g
one_of lines one other (inl f) (inr g) = absurd (never_both (fault_at lines) (length lines) 1 one g.clear f)
one_of lines one other (inr f) (inl g) = absurd (never_both (fault_at lines) (length lines) 1 other f.clear g)
one_of lines one other (inr f) (inr g) = same_fields one other (f.kind ∙ sym g.kind) (f.last ∙ sym g.last)

pub one_fault : (text : List ℕ) (one other : LineFault SpefKind) → IsFileFault text one → IsFileFault text other → one ≡ other
one_fault text one other f g = one_of (file_lines text) one other f g

faultless : (text : List ℕ) (file : File) (fault : LineFault SpefKind) → IsFileOf text file → IsFaultOf (file_lines text) fault → ⊥
faultless text file fault f (inl first) = never_both (fault_at (file_lines text)) (length (file_lines text)) 1 fault f.clear first
faultless text file fault f (inr missing) = (let a = f.headed in let b = missing.short in omega arith)

-- and has no fault where it says something
pub file_or_fault : (text : List ℕ) (file : File) (fault : LineFault SpefKind) → IsFileOf text file → IsFileFault text fault → ⊥
file_or_fault text file fault f g = faultless text file fault f g

-- texts of the same lines say the same
pub file_along : (one other : List ℕ) (file : File) → file_lines one ≡ file_lines other → IsFileOf one file → IsFileOf other file
file_along one other file e f = record {
  clear = subst (λ lines. IsClear (fault_at lines) (length lines)) e f.clear;
  headed = subst (λ lines. 14 ≤ length (spoken lines)) e f.headed;
  says = f.says ∙ ap said_by e;
}

pub fault_along : (one other : List ℕ) (fault : LineFault SpefKind) → file_lines one ≡ file_lines other → IsFileFault one fault → IsFileFault other fault
fault_along one other fault e f = subst (λ lines. IsFaultOf lines fault) e f

-- and have the same nets
pub lines_along : (one other : List ℕ) (line : ℕ) → without_comments Spef one ≡ without_comments Spef other → lines_after one line ≡ lines_after other line
lines_along one other line e = ap (λ t. take (unwrap_or (end_at (map words (drop line (lines t)))) 0) (drop line (lines t))) e
