-- Sections are replaced by those of cut nets: by nets that can be written, and that keep their names.
use Rattle.std.proofs.Common.{◌≡◌, ℕ, zero, suc, ◌<◌, true, false, List, [], ◌∷◌, length, get_or, map, refl, sym, ap, ◌∙◌, subst, arith, inl, inr, Some}
use Rattle.std.specs.List.{All, Contains, slice_get}
use Rattle.std.proofs.lemmas.Bool.{false≢true}
use Rattle.std.proofs.lemmas.List.Elements.{All-weaker, All-nil, All-cons}
use Rattle.name_tables.specs.Distinct.{AreNew}
use Rattle.spef_file.specs.declared.spef_index.SpefIndex.{SpefIndex}
use Rattle.spef_file.specs.Tables.{NetRow, is_section, names_of as row_names}
use Rattle.spef_net.specs.declared.net.ParNet.{ParNet}
use Rattle.spef_patch_laws.specs.Replacements.{Replacement, AreReplacements, IsQuietNet, IsReplacement}
use Rattle.spef_patch_laws.specs.ReplacementLaws.{HaveOwnNames, names_in, written_nets}
use Rattle.spef_patch_laws.proofs.ApartLemmas.{In, in_any, in_left, in_map, in_right}
use Rattle.spef_patch_laws.proofs.NamedLemmas.{found_in}
use Rattle.spef_patch_laws.proofs.NetNoteLemmas.{named_notes}
use Rattle.spef_wire.specs.Nets.{IsNetNamed}
use Rattle.vg_segment.specs.Texts.{AreCutSections, IsCutSection}
use Rattle.segment_laws.proofs.CutNetLemmas.{quiet_cut}

-- the name by which a net is sought is its own
pub name_is : (text name : List ℕ) (net : ParNet) → IsNetNamed text name net → name ≡ net.name
name_is text name net named =
    (found_in name named.file.nets named.head named.head_of.named).1 ∙ sym named.read.denoted.named

-- a row of a list is in it
got_in : {X : Type 0} (xs : List X) (k : ℕ) (x : X) → slice_get xs k ≡ Some x → In x xs
got_in [] k x e = absurd (cc)
got_in (y ∷ xs) zero x e = inl (let same : Some y ≡ Some x = e in let is : x ≡ y = cc in is)
got_in (y ∷ xs) (suc k) x e = inr (got_in xs k x e)

module _ (text : List ℕ) (index : SpefIndex) (parts : ℕ) (some : 0 < parts) where
  -- a cut net has the name of the section that it replaces
  pub cut_name : (r : Replacement) (c : IsCutSection text index parts r) → c.cut.name ≡ r.row.0
  cut_name r c = c.cut_of.named ∙ sym (name_is text r.row.0 c.net c.fit.named)

  pub names_are : (r : Replacement) → IsCutSection text index parts r → names_in r ≡ r.row.0 ∷ []
  names_are r c = ap (map (λ (net : ParNet). net.name)) c.is ∙ ap (λ (name : List ℕ). name ∷ []) (cut_name r c)

  replaces : (r : Replacement) → IsCutSection text index parts r → IsReplacement index r
  replaces r c = record {
    at = c.at;
    some = omega (arith, ap (λ (nets : List ParNet). length nets) c.is);
    nets = subst (All IsQuietNet) (sym c.is)
        (All-cons IsQuietNet c.cut []
        (quiet_cut c.net parts c.cut c.cut_of some c.fit.accepted c.fit.few
        (named_notes text r.row.0 c.net c.fit.named))
        (All-nil IsQuietNet));
  }

  abbrev IsOwn : Replacement → ParNet → Type 0
  IsOwn r net = is_section index.sections net.name ≡ true → net.name ≡ r.row.0

  own : (r : Replacement) → IsCutSection text index parts r → All (IsOwn r) r.nets
  own r c = subst (All (IsOwn r)) (sym c.is) (All-cons (IsOwn r) c.cut [] (λ _. cut_name r c) (All-nil (IsOwn r)))

  section_here : (r : Replacement) → IsCutSection text index parts r → is_section index.sections r.row.0 ≡ true
  section_here r c =
      in_any r.row.0 (row_names index.sections)
      (in_map (λ (n : NetRow). n.0) r.row index.sections (got_in index.sections r.number r.row c.at))

  -- so no name in place of a section is new
  abbrev IsOld : Replacement → List ℕ → Type 0
  IsOld other name = is_section index.sections name ≡ false → Contains (names_in other) name → ⊥

  none_new : (r other : Replacement) → IsCutSection text index parts r → All (IsOld other) (names_in r)
  none_new r other c =
      subst (All (IsOld other)) (sym (names_are r c))
      (All-cons (IsOld other) r.row.0 [] (λ new _. false≢true (sym new ∙ section_here r c)) (All-nil (IsOld other)))

  module _ (names : List (List ℕ)) (rs : List Replacement) (are : AreCutSections text index parts names rs) where
    pub replacements : AreReplacements index rs
    replacements = record {
      rise = are.rise;
      each = All-weaker (IsCutSection text index parts) (IsReplacement index) replaces rs are.each;
    }

    pub own_names : HaveOwnNames index rs
    own_names = record {
      own = All-weaker (IsCutSection text index parts) (λ r. All (IsOwn r) r.nets) own rs are.each;
      inside = All-weaker (IsCutSection text index parts) (λ r. AreNew [] (names_in r))
          (λ r c. subst (AreNew []) (sym (names_are r c)) (refl, tt)) rs are.each;
      between = λ i j d less low. none_new (get_or rs i d) (get_or rs j d) (are.each i d (omega (arith, less, low)));
    }

-- the nets that are written are those of the sections
pub written_in : (rs : List Replacement) (r : Replacement) (net : ParNet) → In r rs → In net r.nets
    → In net (written_nets rs)
written_in [] r net there inside = absurd there
written_in (x ∷ rs) r net (inl e) inside =
    in_left net x.nets (written_nets rs) (subst (λ (y : Replacement). In net y.nets) e inside)
written_in (x ∷ rs) r net (inr h) inside = in_right net x.nets (written_nets rs) (written_in rs r net h inside)
