-- The net of a name.
use Rattle.std.proofs.Common.{◌≡◌, ℕ, zero, suc, ◌+◌, ◌<◌, ◌≤◌, Bool, true, false, cond, not, List, [], ◌∷◌, length, refl, sym, arith, Some, None, ◌⊎◌, inl, inr, ltb}
use Rattle.std.proofs.lemmas.Bool.{ltb-true, ltb-false}
use Rattle.std.proofs.lemmas.List.Sums.{prefix_len-le-length}
use Rattle.std.specs.List.{position, position_or_len, slice_get, find}
use Rattle.std.specs.Str.{bytes_eq}
use Rattle.spef_file.specs.Indexes.{IsIndexOf}
use Rattle.spef_file.specs.IndexFiles.{file_of}
use Rattle.spef_file.specs.Nets.{NetHead}
use Rattle.spef_file.specs.Tables.{NetRow, names_of}
use Rattle.spef_file.specs.Views.{head_in, heads_in}
use Rattle.spef_file.specs.declared.spef_index.SpefIndex.{SpefIndex}
use Rattle.spef_net.specs.Sections.{IsNetOf, IsFaultOf}
use Rattle.vg_scan.specs.declared.fault.LineFault.{LineFault}
use Rattle.spef_net.specs.declared.fault.NetKind.{NetKind}
use Rattle.spef_net.specs.declared.fault.NetKind.TheVariants.{Memory}
use Rattle.spef_net.specs.declared.net.ParNet.{ParNet}
use Rattle.spef_wire.specs.Nets.{IsMissing, IsNetNamed, IsFaultNamed}

-- where a first place is, in terms of the place or the length
cond_some : (b : Bool) (j i : ℕ) → cond b (Some j) None ≡ Some i → (b ≡ true) × (j ≡ i)
cond_some true j i e = (refl, cc)
cond_some false j i e = absurd (cc)

cond_none : (b : Bool) (j : ℕ) → cond b (Some j) None ≡ None → b ≡ false
cond_none true j e = absurd (cc)
cond_none false j e = refl

-- the head at a place, which is the first of its name
record IsHeadAt (name : List ℕ) (heads : List NetHead) (at : ℕ) : Type 0 where
  head : NetHead
  is : slice_get heads at ≡ Some head
  first : find (λ h. bytes_eq name h.name) heads ≡ Some head

here : (name : List ℕ) (head : NetHead) (heads : List NetHead) → bytes_eq name head.name ≡ true → IsHeadAt name (head ∷ heads) 0
here name head heads e = record { head = head; is = refl; first = rw e refl }

later : (name : List ℕ) (head : NetHead) (heads : List NetHead) (at : ℕ) → bytes_eq name head.name ≡ false → IsHeadAt name heads at → IsHeadAt name (head ∷ heads) (suc at)
later name head heads at e h = record { head = h.head; is = h.is; first = rw e h.first }

head_step : (name : List ℕ) (net : NetRow) (nets : List NetRow) (at : ℕ) (t : Bool) → bytes_eq name net.0 ≡ t
    → cond (not t) (1 + position_or_len (bytes_eq name) (names_of nets)) 0 ≡ at → at < suc (length (names_of nets))
    → ((k : ℕ) → position_or_len (bytes_eq name) (names_of nets) ≡ k → k < length (names_of nets) → IsHeadAt name (heads_in nets) k)
    → IsHeadAt name (head_in net ∷ heads_in nets) at
head_step name net nets zero true e f l more = here name (head_in net) (heads_in nets) e
head_step name net nets (suc at) true e f l more = absurd (omega (arith, f))
head_step name net nets zero false e f l more = absurd (omega (arith, f))
head_step name net nets (suc at) false e f l more = later name (head_in net) (heads_in nets) at e (more at (omega (arith, f)) (omega arith))

head_at : (name : List ℕ) (nets : List NetRow) (at : ℕ) → position_or_len (bytes_eq name) (names_of nets) ≡ at → at < length (names_of nets) → IsHeadAt name (heads_in nets) at
head_at name [] at e l = absurd (omega arith)
head_at name (net ∷ nets) at e l = head_step name net nets at (bytes_eq name net.0) refl e l (head_at name nets)

no_head_step : (name : List ℕ) (net : NetRow) (nets : List NetRow) (t : Bool) → bytes_eq name net.0 ≡ t
    → cond (not t) (1 + position_or_len (bytes_eq name) (names_of nets)) 0 ≡ suc (length (names_of nets))
    → (position_or_len (bytes_eq name) (names_of nets) ≡ length (names_of nets) → find (λ h. bytes_eq name h.name) (heads_in nets) ≡ None)
    → find (λ h. bytes_eq name h.name) (head_in net ∷ heads_in nets) ≡ None
no_head_step name net nets true e f more = absurd (omega (arith, f))
no_head_step name net nets false e f more = rw e (more (omega (arith, f)))

no_head : (name : List ℕ) (nets : List NetRow) → position_or_len (bytes_eq name) (names_of nets) ≡ length (names_of nets) → find (λ h. bytes_eq name h.name) (heads_in nets) ≡ None
no_head name [] e = refl
no_head name (net ∷ nets) e = no_head_step name net nets (bytes_eq name net.0) refl e (no_head name nets)

prefix_le : (p : List ℕ → Bool) (xs : List (List ℕ)) → position_or_len p xs ≤ length xs
prefix_le p xs = prefix_len-le-length (λ x. not (p x)) xs

module _ (text : List ℕ) (index : SpefIndex) (name : List ℕ) (of : IsIndexOf text index) where
  pub none_named : None ≡ position (bytes_eq name) (names_of index.sections) → IsMissing text name
  none_named e =
      let names = names_of index.sections in
      let h = ltb-false (position_or_len (bytes_eq name) names) (length names) (cond_none (ltb (position_or_len (bytes_eq name) names) (length names)) (position_or_len (bytes_eq name) names) (sym e)) in
      record { file = file_of index; said = of.said; none = no_head name index.sections (omega (arith, h, prefix_le (bytes_eq name) names)) }

  found : (at : ℕ) → Some at ≡ position (bytes_eq name) (names_of index.sections) → IsHeadAt name (heads_in index.sections) at
  found at e =
      let names = names_of index.sections in
      let h = cond_some (ltb (position_or_len (bytes_eq name) names) (length names)) (position_or_len (bytes_eq name) names) at (sym e) in
      let l = ltb-true (position_or_len (bytes_eq name) names) (length names) h.0 in
      head_at name index.sections at h.1 (omega (arith, h.1, l))

  pub net_named : (at : ℕ) (net : ParNet) → Some at ≡ position (bytes_eq name) (names_of index.sections)
      → ((head : NetHead) → slice_get (file_of index).nets at ≡ Some head → IsNetOf text (file_of index) head net)
      → IsNetNamed text name net
  net_named at net e reads =
      let f = found at e in
      record { file = file_of index; head = f.head; head_of = record { said = of.said; named = f.first }; read = reads f.head f.is }

  pub fault_named : (at : ℕ) (fault : LineFault NetKind) → Some at ≡ position (bytes_eq name) (names_of index.sections)
      → (fault.kind ≡ Memory → ⊥)
      → (fault.kind ≡ Memory) ⊎ ((head : NetHead) → slice_get (file_of index).nets at ≡ Some head → IsFaultOf text (file_of index) head fault)
      → IsFaultNamed text name fault
  fault_named at fault e room (inl memory) = absurd (room memory)
  fault_named at fault e room (inr reads) =
      let f = found at e in
      record { file = file_of index; head = f.head; head_of = record { said = of.said; named = f.first }; first = reads f.head f.is }
