-- A text in which sections are replaced by those of cut nets, as it is read.
use Rattle.std.proofs.Common.{◌≡◌, ℕ, ◌<◌, ◌≤◌, Bool, true, false, cond, List, [], ◌∷◌, ◌++◌, length, map, filter, refl, sym, ap, ◌∙◌, subst, arith, inl}
use Rattle.std.specs.List.{All, Contains}
use Rattle.std.proofs.lemmas.List.{length-map, map-append}
use Rattle.std.proofs.lemmas.List.Elements.{All-contains, All-head, All-map, All-tail}
use Rattle.divided_net_laws.proofs.JoinedLemmas.{divided_has_tree}
use Rattle.spef_file.specs.declared.spef_index.SpefIndex.{SpefIndex}
use Rattle.spef_net.specs.declared.net.ParNet.{ParNet}
use Rattle.spef_net.specs.Denoted.{cap_at}
use Rattle.spef_patch_laws.specs.Replacements.{Replacement, replaced}
use Rattle.spef_patch_laws.specs.ReplacementLaws.{HasReplacements, IsReadAgain, replaced_names, written_names, written_nets}
use Rattle.spef_patch_laws.proofs.ApartLemmas.{In, contains_in, from_map, in_contains}
use Rattle.spef_patch_laws.proofs.OwnNameLemmas.{own_names as own_names_are_free}
use Rattle.spef_patch_laws.proofs.ReplacedLemmas.{replacements_read}
use Rattle.spef_wire.specs.Nets.{IsNetNamed}
use Rattle.spef_wire.specs.Refusals.{PassesUpTo, most_nodes}
use Rattle.spef_wire.specs.Wires.{IsWire, IsWireOf}
use Rattle.spef_wire.specs.declared.wire.WireNet.{WireNet}
use Rattle.spef_wire.proofs.AnswerLemmas.{nets_are}
use Rattle.spef_write.specs.Sections.{cap_nodes, charged, is_charged, sums, total_at}
use Rattle.spef_write.specs.SectionLaws.{IsWrittenAgain, names_of}
use Rattle.spef_write.proofs.OnceLemmas.{once_few}
use Rattle.vg_segment.specs.Segments.{IsSegmented}
use Rattle.vg_segment.specs.Texts.{IsCutSection, cut_count}
use Rattle.segment_laws.specs.SegmentedTexts.{CutSectionsAreRead, HasSameDelays, IsCutIn}
use Rattle.segment_laws.proofs.AcceptedNetLemmas.{driven_low}
use Rattle.segment_laws.proofs.CutNetLemmas.{caps_low, node_count}
use Rattle.segment_laws.proofs.CutWireLemmas.{read_accepted, read_wire, same_delays, wire_is}
use Rattle.segment_laws.proofs.ReadCutLemmas.{divided_read}
use Rattle.segment_laws.proofs.ReplacedLemmas.{cut_name, names_are, own_names, replacements, written_in}

-- ---- capacitors

filter_few : {X : Type 0} (p : X → Bool) (xs : List X) → length (filter p xs) ≤ length xs
filter_few p [] = omega arith
filter_few p (x ∷ xs) = either (p x) (filter_few p xs)
  where
    either : (b : Bool) → length (filter p xs) ≤ length xs
        → length (cond b (x ∷ filter p xs) (filter p xs)) ≤ length (x ∷ xs)
    either true few = omega (arith, few)
    either false few = omega (arith, few)

-- what is read of a net has a capacitor at each node at most
caps_few : (cut read : ParNet) → IsWrittenAgain cut read → length read.caps ≤ length cut.nodes
caps_few cut read again =
    omega (
      arith,
      length-map read.caps (cap_at (names_of read.nodes)),
      ap (λ l. length l) again.caps,
      length-map (charged cut) (cap_at (names_of cut.nodes)),
      filter_few is_charged (sums cut.caps),
      length-map {B = ℕ × ℕ} (cap_nodes cut.caps) (λ k. (k, total_at cut.caps k)),
      once_few (length cut.nodes) (map (λ (cap : ℕ × ℕ). cap.0) cut.caps)
          (All-map (λ k. k < length cut.nodes) (λ (cap : ℕ × ℕ). cap.0) cut.caps
          (caps_low cut (length cut.nodes) (omega arith))),
    )

-- ---- one net

-- the wire delays of a net are those of what is read of the cut net
delays : (old new : List ℕ) (name : List ℕ) (parts : ℕ) → 0 < parts → (net cut read : ParNet) → IsNetNamed old name net
    → IsNetNamed new name read → PassesUpTo 17 net → cut_count parts net ≤ most_nodes → IsSegmented net parts cut
    → IsWrittenAgain cut read
    → (wire : WireNet) → IsWireOf old name wire → (other : WireNet) × IsWireOf new name other × HasSameDelays wire other
delays old new name parts some net cut read was is passed few s again wire of =
    let w : IsWire net wire =
    subst (λ (m : ParNet). IsWire m wire) (nets_are old name of.net net of.named was) of.wire_is in
    let root = w.a_tree.root in
    let driven = w.a_tree.driven in
    let t = w.a_tree.a_tree in
    let d = divided_read net parts cut s some root (driven_low net root driven) w.tree w.order t read again in
    let (tree, order, n) = divided_has_tree parts _ _ _ _ d.divided w.tree w.order t in
    let nodes : length read.nodes ≡ length cut.nodes = d.divided.nodes ∙ sym (node_count net parts cut s some) in (
      read_wire parts net read root _ _ d driven w.tree w.order t tree order n,
      record {
        net = read;
        named = is;
        accepted = read_accepted parts net read root _ _ d driven w.tree w.order t tree order n passed
            (omega (arith, nodes, node_count net parts cut s some, few))
            (omega (arith, nodes, caps_few cut read again));
        wire_is = wire_is parts net read root _ _ d driven w.tree w.order t tree order n;
      },
      same_delays parts net read root _ _ d driven w.tree w.order t tree order n wire w.total w.sinks,
    )

module _ (text : List ℕ) (index : SpefIndex) (parts : ℕ) (some : 0 < parts) where
  cut_in : (new : List ℕ) (r : Replacement) (c : IsCutSection text index parts r) → IsReadAgain new c.cut
      → IsCutIn text new parts r.row.0
  cut_in new r c read =
      let is : IsNetNamed new r.row.0 read.read =
      subst (λ (name : List ℕ). IsNetNamed new name read.read) (cut_name text index parts some r c) read.named in
      let again : IsWrittenAgain c.cut read.read = read.again read.read read.named in
      record {
        net = c.net;
        was = c.fit.named;
        cut = c.cut;
        cut_of = c.cut_of;
        read = read.read;
        is = is;
        again = again;
        delays =
            delays text new r.row.0 parts some c.net c.cut read.read c.fit.named is c.fit.accepted c.fit.few c.cut_of
            again;
      }

  -- ---- all of them

  -- the nets that are written have the names of those that they replace
  same_names : (rs : List Replacement) → All (IsCutSection text index parts) rs → written_names rs ≡ replaced_names rs
  same_names [] each = refl
  same_names (r ∷ rs) each =
      map-append (λ (net : ParNet). net.name) r.nets (written_nets rs)
      ∙ ap (λ (names : List (List ℕ)). names ++ written_names rs)
      (names_are text index parts some r (All-head (IsCutSection text index parts) r rs each))
      ∙ ap (λ (names : List (List ℕ)). r.row.0 ∷ names)
      (same_names rs (All-tail (IsCutSection text index parts) r rs each))

pub cut_sections_are_read : CutSectionsAreRead
cut_sections_are_read text index parts names rs of some few are =
    let repl = replacements text index parts some names rs are in
    let has : HasReplacements text (replaced text index rs) index rs =
    replacements_read text index rs of repl
    (own_names_are_free text index rs of repl (own_names text index parts some names rs are)) in
    record {
      said = _;
      file = has.said;
      cut = λ name there.
          let (r, r_in, e) =
          from_map (λ (x : Replacement). x.row.0) name rs (contains_in name (replaced_names rs) there) in
          let c = All-contains (IsCutSection text index parts) rs r are.each (in_contains r rs r_in) in
          subst (IsCutIn text (replaced text index rs) parts) e
          (cut_in text index parts some (replaced text index rs) r c
          (All-contains (IsReadAgain (replaced text index rs)) (written_nets rs) c.cut has.written
          (in_contains c.cut (written_nets rs) (written_in rs r c.cut r_in (subst (In c.cut) (sym c.is) (inl refl))))));
      kept = λ name other.
          has.kept name other
          (λ written. other
          (subst (λ (l : List (List ℕ)). Contains l name) (same_names text index parts some rs are.each) written));
    }
