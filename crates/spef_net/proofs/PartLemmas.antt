-- What reading a section's lines says of the file.
use Rattle.std.proofs.Common.{◌≡◌, ℕ, zero, suc, ◌+◌, Bool, true, false, cond, List, [], ◌∷◌, refl, sym, ap, ◌∙◌, subst, Some, Result, Ok, Err, ◌⊎◌, inl, inr, arith}
use Rattle.std.specs.Prelude.{option_map, IfOk, IfErr}
use Rattle.std.specs.List.{All, slice_get}
use Rattle.vg_scan.specs.Printed.{IsPrintable}
use Rattle.std.specs.Str.Lines.{lines}
use Rattle.spef_file.specs.Indexes.{lines_after}
use Rattle.spef_file.specs.Files.{File}
use Rattle.spef_file.specs.Nets.{NetHead}
use Rattle.spef_file.specs.Views.{head_in, heads_in}
use Rattle.spef_file.specs.declared.section.Section.{Section}
use Rattle.spef_file.specs.Tables.{NetRow}
use Rattle.vg_scan.specs.declared.fault.LineFault.{LineFault}
use Rattle.spef_net.specs.declared.fault.NetKind.{NetKind}
use Rattle.spef_net.specs.declared.fault.NetKind.TheVariants.{Memory}
use Rattle.spef_net.specs.declared.net.ParNet.{ParNet}
use Rattle.spef_net.specs.Statements.{Stated, statements, statements_from}
use Rattle.spef_net.specs.Faults.{IsFaultless, IsFirstFaultIn}
use Rattle.spef_net.specs.Denoted.{IsNet}
use Rattle.spef_net.specs.Sections.{statements_in, IsNetOf, IsFaultOf}

nothing_said : (file : File) → statements file (lines []) ≡ []
unfolding statements_from
nothing_said file = refl

pub reduced_statements : (text : List ℕ) (file : File) (head : NetHead) → head.reduced ≡ true → statements file (lines []) ≡ statements_in text file head
reduced_statements text file head e = nothing_said file ∙ sym (ap (λ t. cond t [] (statements file (lines_after text head.line))) e)

pub read_statements : (text inner : List ℕ) (file : File) (head : NetHead) → head.reduced ≡ false → lines inner ≡ lines_after text head.line → statements file (lines inner) ≡ statements_in text file head
read_statements text inner file head e f = ap (statements file) f ∙ sym (ap (λ t. cond t [] (statements file (lines_after text head.line))) e)

pub net_of : (text : List ℕ) (file : File) (head : NetHead) (reduced : Bool) (all : List Stated) (r : Result ParNet (LineFault NetKind)) → head.reduced ≡ reduced → all ≡ statements_in text file head
    → IfOk r (λ net. IsFaultless head.name all) → IfOk r (IsNet head.name reduced all) → IfOk r (IsNetOf text file head)
net_of text file head reduced all (Ok net) e f h k = record {
  faultless = subst (IsFaultless head.name) f h;
  denoted = subst (λ t. IsNet head.name t (statements_in text file head) net) (sym e) (subst (λ ss. IsNet head.name reduced ss net) f k);
}
net_of text file head reduced all (Err fault) e f h k = tt

pub fault_of_part : (text : List ℕ) (file : File) (head : NetHead) (all : List Stated) (r : Result ParNet (LineFault NetKind)) → all ≡ statements_in text file head
    → IfErr r (λ fault. (fault.kind ≡ Memory) ⊎ IsFirstFaultIn head.name all (head.line + 1) fault) → IfErr r (λ fault. (fault.kind ≡ Memory) ⊎ IsFaultOf text file head fault)
fault_of_part text file head all r f h = subst (λ ss. IfErr r (λ fault. (fault.kind ≡ Memory) ⊎ IsFirstFaultIn head.name ss (head.line + 1) fault)) f h

some_is : {A : Type 0} (a b : A) → Some a ≡ Some b → a ≡ b
some_is a b e = cc

-- the head at a net's place
head_is : (nets : List NetRow) (at : ℕ) (head : NetHead) (name : List ℕ) (section : Section)
    → slice_get (heads_in nets) at ≡ Some head → option_map (λ (net : NetRow). net.0) (slice_get nets at) ≡ Some name → option_map (λ (net : NetRow). net.1) (slice_get nets at) ≡ Some section
    → head_in (name, section) ≡ head
head_is [] at head name section e f g = absurd (cc)
head_is (net ∷ nets) zero head name section e f g =
    ap (λ (n : List ℕ). head_in (n, section)) (sym (some_is net.0 name f)) ∙ ap (λ (s : Section). head_in (net.0, s)) (sym (some_is net.1 section g)) ∙ some_is (head_in net) head e
head_is (net ∷ nets) (suc at) head name section e f g = head_is nets at head name section e f g

module _ (text : List ℕ) (file : File) (nets : List NetRow) (at : ℕ) (name : List ℕ) (section : Section) where
  pub net_at_place : (r : Result ParNet (LineFault NetKind))
      → option_map (λ (net : NetRow). net.0) (slice_get nets at) ≡ Some name → option_map (λ (net : NetRow). net.1) (slice_get nets at) ≡ Some section
      → IfOk r (IsNetOf text file (head_in (name, section))) → IfOk r (λ net. (head : NetHead) → slice_get (heads_in nets) at ≡ Some head → IsNetOf text file head net)
  net_at_place (Ok net) f g h = λ head e. subst (λ s. IsNetOf text file s net) (head_is nets at head name section e f g) h
  net_at_place (Err fault) f g h = tt

  pub fault_at_place : (r : Result ParNet (LineFault NetKind))
      → option_map (λ (net : NetRow). net.0) (slice_get nets at) ≡ Some name → option_map (λ (net : NetRow). net.1) (slice_get nets at) ≡ Some section
      → IfErr r (λ fault. (fault.kind ≡ Memory) ⊎ IsFaultOf text file (head_in (name, section)) fault)
      → IfErr r (λ fault. (fault.kind ≡ Memory) ⊎ ((head : NetHead) → slice_get (heads_in nets) at ≡ Some head → IsFaultOf text file head fault))
  fault_at_place (Ok net) f g h = tt
  fault_at_place (Err fault) f g h = elim h [
    | inl memory ↦ inl memory
    | inr first ↦ inr (λ head e. subst (λ s. IsFaultOf text file s fault) (head_is nets at head name section e f g) first)
  ]

-- the name at a net's place can be a word, where each net's can
pub name_printable : (nets : List NetRow) (at : ℕ) (name : List ℕ) → All (λ head. IsPrintable head.name) (heads_in nets) → option_map (λ (net : NetRow). net.0) (slice_get nets at) ≡ Some name → IsPrintable name
name_printable [] at name h e = absurd (cc)
name_printable (net ∷ nets) zero name h e = subst IsPrintable (some_is net.0 name e) (h 0 (head_in net) (omega arith))
name_printable (net ∷ nets) (suc at) name h e = name_printable nets at name (λ k d l. h (suc k) d (omega arith)) e
