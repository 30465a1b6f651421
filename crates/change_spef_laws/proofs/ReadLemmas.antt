-- The nets of stages, read from the text in which sections are replaced by them.
use Rattle.std.proofs.Common.{◌≡◌, ◌≢◌, ℕ, zero, suc, ◌+◌, ◌<◌, ◌==◌, cond, inl, inr, Some, List, [], ◌∷◌, ◌++◌, length, refl, sym, ap, ◌∙◌, arith, subst, All}
use Rattle.std.specs.List.{AllZip, Contains, slice_get}
use Rattle.std.proofs.lemmas.Bool.{eq-eqb}
use Rattle.std.proofs.lemmas.List.Elements.{All-cons, All-head, All-nil, All-tail, All-weaker}
use Rattle.vg_scan.specs.Comments.{without_comments}
use Rattle.vg_scan.specs.declared.chars.Chars.{Chars}
use Rattle.vg_scan.specs.declared.comments.Comments.TheVariants.{Spef}
use Rattle.vg_scan.proofs.AgainLemmas.{without_again}
use Rattle.spef_file.specs.Files.{File, IsFileOf, file_lines, said_by}
use Rattle.spef_file.specs.HeaderLines.{chars_of}
use Rattle.spef_file.specs.IndexFiles.{file_of}
use Rattle.spef_file.specs.Indexes.{IsIndexOf}
use Rattle.spef_file.specs.declared.spef_index.SpefIndex.{SpefIndex}
use Rattle.spef_net.specs.declared.net.ParNet.{ParNet}
use Rattle.vg_change.specs.Changes.{Changes}
use Rattle.vg_change.specs.Placed.{PlacedNet, cell_stages, split_of}
use Rattle.vg_design.specs.Designs.{Design}
use Rattle.vg_change.proofs.NameLemmas.{got_in}
use Rattle.vg_change.proofs.PairLemmas.{of_all}
use Rattle.vg_patch.specs.Edits.{Edit, patched}
use Rattle.vg_split.proofs.NewNameLemmas.{old_net}
use Rattle.vg_split.specs.Conditions.{IsOld}
use Rattle.vg_split.specs.NewNames.{net_name}
use Rattle.vg_split.specs.Splits.{IsStageNet, Split, forest, net_of, number_of}
use Rattle.spef_patch_laws.specs.Replacements.{Replacement}
use Rattle.spef_patch_laws.specs.ReplacementLaws.{HasReplacements, HasSameNet, IsReadAgain, replaced_names, written_names, written_nets}
use Rattle.spef_patch_laws.proofs.ApartLemmas.{In, contains_in, from_map, in_contains, in_left, in_one}
use Rattle.spef_patch_laws.proofs.OwnNameLemmas.{own_names}
use Rattle.spef_patch_laws.proofs.ReplacedLemmas.{replacements_read}
use Rattle.vg_split.specs.Stages.{heads}
use Rattle.spef_wire.specs.Nets.{IsFaultNamed, IsNetNamed}
use Rattle.change_spef_laws.specs.Laws.{ChangedNetsAreRead, OtherNetsStay}
use Rattle.change_spef_laws.specs.Nets.{HasStages, IsChangeBy, IsStageName, IsStageRead, splits}
use Rattle.change_spef_laws.specs.Replaced.{IsReplacedBy}
use Rattle.change_spef_laws.proofs.ClearLemmas.{fault_stays, file_stays, index_stays, net_stays, same_stays}
use Rattle.change_spef_laws.proofs.FewLemmas.{IsOwnSplit}
use Rattle.change_spef_laws.proofs.NameLemmas.{StageName, is_new, keeps, named_old, stage_name}
use Rattle.change_spef_laws.proofs.OwnLemmas.{net_at}
use Rattle.change_spef_laws.proofs.ReplacedLemmas.{all_own, none_taken, sections_replaced}

-- ---- the net of a stage

-- a net that is read again by its own name is read by the stage's
stage_read : (text : List ℕ) (chars : Chars) (x : Split) (k : ℕ) (net : ParNet) → IsStageNet chars x k net → IsReadAgain text net → IsStageRead text chars x k
stage_read text chars x k net stage again = record {
  net = net;
  stage_net = stage;
  read = again.read;
  named = subst (λ (name : List ℕ). IsNetNamed text name again.read) stage.name again.named;
  again = λ other named. again.again other (subst (λ (name : List ℕ). IsNetNamed text name other) (sym stage.name) named);
  clear = λ fault named. again.clear fault (subst (λ (name : List ℕ). IsFaultNamed text name fault) (sym stage.name) named);
}

-- of a text without comments the same is read
stage_stays : (a b : List ℕ) → without_comments Spef a ≡ without_comments Spef b → (chars : Chars) (x : Split) (k : ℕ) → IsStageRead a chars x k → IsStageRead b chars x k
stage_stays a b e chars x k is = record {
  net = is.net;
  stage_net = is.stage_net;
  read = is.read;
  named = net_stays a b e (net_of x k) is.read is.named;
  again = λ other named. is.again other (net_stays b a (sym e) (net_of x k) other named);
  clear = λ fault named. is.clear fault (fault_stays b a (sym e) (net_of x k) fault named);
}

-- ---- of all nets

abbrev AreRead : List ℕ → Chars → Split → Type 0
AreRead text chars x = (k : ℕ) → k < length (heads (forest x)) → IsStageRead text chars x k

all_right : {A : Type 0} (P : A → Type 0) (xs ys : List A) → All P (xs ++ ys) → All P ys
all_right P [] ys all = all
all_right P (x ∷ xs) ys all = all_right P xs ys (All-tail P x (xs ++ ys) all)

some_at : {A : Type 0} (xs : List A) (k : ℕ) → k < length xs → (x : A) × (slice_get xs k ≡ Some x)
some_at [] k low = absurd (omega (arith, low))
some_at (x ∷ xs) zero low = (x, refl)
some_at (x ∷ xs) (suc k) low = some_at xs k (omega (arith, low))

later : (x : Split) (xs : List Split) (name : List ℕ) → IsStageName xs name → IsStageName (x ∷ xs) name
later x xs name is = record { x = is.x; there = (let (i, low, at) = is.there in (suc i, omega (arith, low), at)); stage = is.stage; low = is.low; is = is.is }

module _ (chars : Chars) where
  all_read : (text : List ℕ) (xs : List Split) (rs : List Replacement) → AllZip (IsReplacedBy chars) xs rs → All (IsReadAgain text) (written_nets rs) → All (AreRead text chars) xs
  all_read text [] [] each read = All-nil (AreRead text chars)
  all_read text [] (r ∷ rs) each read = absurd each
  all_read text (x ∷ xs) [] each read = absurd each
  all_read text (x ∷ xs) (r ∷ rs) each read =
      All-cons (AreRead text chars) x xs
      (λ k low.
      let by = each.0 in
      let (net, at) = some_at r.nets k (omega (arith, low, by.stages.count)) in
      let there = in_contains net (written_nets (r ∷ rs)) (in_left net r.nets (written_nets rs) (contains_in net r.nets (got_in r.nets k net at))) in
      stage_read text chars x k net (by.stages.each k net at) (of_all (IsReadAgain text) (written_nets (r ∷ rs)) net read there))
      (all_read text xs rs each.1 (all_right (IsReadAgain text) r.nets (written_nets rs) read))

  -- the name of a written net is that of a stage's net
  written_name : (xs : List Split) (rs : List Replacement) → AllZip (IsReplacedBy chars) xs rs → (net : ParNet) → In net (written_nets rs) → IsStageName xs net.name
  written_name [] [] each net there = absurd there
  written_name [] (r ∷ rs) each net there = absurd each
  written_name (x ∷ xs) [] each net there = absurd each
  written_name (x ∷ xs) (r ∷ rs) each net there = elim (in_one net r.nets (written_nets rs) there) as (λ _. IsStageName (x ∷ xs) net.name) [
    | inl here ↦
        (let (k, low, at) = in_contains net r.nets here in
        let stage_low : k < length (heads (forest x)) = omega (arith, low, each.0.stages.count) in
        record {
          x = x;
          there = (0, omega arith, refl);
          stage = k;
          low = stage_low;
          is = ap (λ (n : ParNet). n.name) (sym at) ∙ (net_at chars x r each.0 k net stage_low).name;
        })
    | inr behind ↦ later x xs net.name (written_name xs rs each.1 net behind)
  ]

  -- the name of a section that is replaced is that of the net of the stage that keeps it
  replaced_name : (prefix : List ℕ) (xs : List Split) (rs : List Replacement) → AllZip (IsReplacedBy chars) xs rs → All (IsOwnSplit prefix) xs → (r : Replacement) → In r rs
      → IsStageName xs r.row.0
  replaced_name prefix [] [] each own r there = absurd there
  replaced_name prefix [] (s ∷ rs) each own r there = absurd each
  replaced_name prefix (x ∷ xs) [] each own r there = absurd each
  replaced_name prefix (x ∷ xs) (s ∷ rs) each own r there = elim there as (λ _. IsStageName (x ∷ xs) r.row.0) [
    | inl same ↦ record {
      x = x;
      there = (0, omega arith, refl);
      stage = x.keeper;
      low = (All-head (IsOwnSplit prefix) x xs own).split.keeper;
      is =
          ap (λ (t : Replacement). t.row.0) same ∙ each.0.name
          ∙ sym (ap (λ t. cond t x.par.name (net_name x.prefix (number_of x (cond (x.keeper == 0) x.keeper x.keeper)))) (eq-eqb x.keeper x.keeper refl));
    }
    | inr behind ↦ later x xs r.row.0 (replaced_name prefix xs rs each.1 (All-tail (IsOwnSplit prefix) x xs own) r behind)
  ]

-- ---- the changed text

module _ (d : Design) (prefix : List ℕ) (nets : List PlacedNet) (c : Changes) (spef : List ℕ) (clear : d.spef ≡ without_comments Spef spef) where
  abbrev xs : List Split
  xs = splits d prefix 0 nets

  abbrev new : List ℕ
  new = patched spef c.sections

  same : without_comments Spef d.spef ≡ without_comments Spef spef
  same = ap (without_comments Spef) clear ∙ without_again Spef spef

  back : without_comments Spef new ≡ without_comments Spef (without_comments Spef new)
  back = sym (without_again Spef new)

  with_index : (index : SpefIndex) → IsIndexOf d.spef index → IsChangeBy d prefix nets c → ((said : File) × IsFileOf new said) × HasStages d.spef (without_comments Spef new) xs
  with_index index of by =
      let (rs, are) = sections_replaced d prefix nets c index by of in
      let own = all_own d prefix nets c by in
      let of_spef = index_stays d.spef spef same index of in
      let has : HasReplacements spef new index rs = subst (λ (es : List Edit). HasReplacements spef (patched spef es) index rs) (sym are.edits_are)
      (replacements_read spef index rs of_spef are.are (own_names spef index rs of_spef are.are are.own)) in
      let file : File = record (file_of index) { nets = has.nets } in
      let chars = index.header.chars in
      let chars_are : chars ≡ chars_of (file_lines d.spef) = ap (λ (f : File). f.chars) of.said.says in
      let read : All (AreRead (without_comments Spef new) chars) xs =
      All-weaker (AreRead new chars) (AreRead (without_comments Spef new) chars) (λ x h k low. stage_stays new (without_comments Spef new) back chars x k (h k low)) xs
      (all_read chars new xs rs are.each has.written) in (
        (file, has.said),
        record {
          said = file;
          file = file_stays new (without_comments Spef new) back file has.said;
          same = ap (λ (f : File). record f { nets = has.nets }) of.said.says;
          stages = subst (λ (cs : Chars). All (AreRead (without_comments Spef new) cs) xs) chars_are read;
          kept = λ name other.
              same_stays spef new d.spef (without_comments Spef new) (sym same) back name
              (has.kept name
              (λ there.
              let (r, in_rs, is) = from_map (λ (t : Replacement). t.row.0) name rs (contains_in name (replaced_names rs) there) in
              other (subst (IsStageName xs) is (replaced_name chars prefix xs rs are.each own r in_rs)))
              (λ there.
              let (net, in_nets, is) = from_map (λ (n : ParNet). n.name) name (written_nets rs) (contains_in name (written_names rs) there) in
              other (subst (IsStageName xs) is (written_name chars xs rs are.each net in_nets))));
        },
      )

  -- where nothing changes the text stays
  unchanged : (file : File) → IsFileOf spef file → c.sections ≡ [] → xs ≡ [] → ((said : File) × IsFileOf new said) × HasStages d.spef (without_comments Spef new) xs
  unchanged file of none no_nets =
      let is : new ≡ spef = ap (patched spef) none in
      let here : IsFileOf new file = subst (λ t. IsFileOf t file) (sym is) of in (
        (file, here),
        record {
          said = file;
          file = file_stays new (without_comments Spef new) back file here;
          same = (let says : file ≡ said_by (file_lines d.spef) = (file_stays spef d.spef (sym same) file of).says in ap (λ (f : File). record f { nets = file.nets }) says);
          stages = subst (All (AreRead (without_comments Spef new) (chars_of (file_lines d.spef)))) (sym no_nets) (All-nil (AreRead (without_comments Spef new) (chars_of (file_lines d.spef))));
          kept = λ name other.
              same_stays spef new d.spef (without_comments Spef new) (sym same) back name
              (subst (λ t. HasSameNet spef t name) (sym is) (record { stays = λ net h. h; stood = λ net h. h; missing = λ h. h; was_missing = λ h. h }));
        },
      )

pub changed_nets : ChangedNetsAreRead
changed_nets d prefix [] c spef file clear of by = unchanged d prefix [] c spef clear file of (ap (λ (s : Changes). s.sections) by.put) refl
changed_nets d prefix (p ∷ nets) c spef file clear of by = with_index d prefix (p ∷ nets) c spef clear (by.put.1.is_section.index) (by.put.1.is_section.named.index_of) by

-- ---- other nets

-- an old name that no split net has is no stage's
no_stage : (prefix name : List ℕ) (xs : List Split) → All (IsOwnSplit prefix) xs → IsOld prefix name → All (λ (x : Split). name ≢ x.par.name) xs → IsStageName xs name → ⊥
no_stage prefix name xs own old apart is =
    let here = of_all (IsOwnSplit prefix) xs is.x own is.there in
    by_name (stage_name is.x here.split is.stage is.low) here.prefix_is (of_all (λ (x : Split). name ≢ x.par.name) xs is.x apart is.there)
  where
    by_name : StageName is.x is.stage → is.x.prefix ≡ prefix → (name ≢ is.x.par.name) → ⊥
    by_name (keeps e kept) p other = other (is.is ∙ kept)
    by_name (is_new e one) p other = old_net prefix name (number_of is.x one.cell) old (is.is ∙ one.is ∙ ap (λ q. net_name q (number_of is.x one.cell)) p)

apart_from : (d : Design) (prefix name : List ℕ) (first : ℕ) (nets : List PlacedNet) → ((p : PlacedNet) → Contains nets p → name ≢ p.net.par.name)
    → All (λ (x : Split). name ≢ x.par.name) (splits d prefix first nets)
apart_from d prefix name first [] other = All-nil (λ (x : Split). name ≢ x.par.name)
apart_from d prefix name first (p ∷ nets) other =
    let x = split_of d prefix first p in
    let next = first + length (cell_stages x) in
    All-cons (λ (y : Split). name ≢ y.par.name) x (splits d prefix next nets) (other p (0, omega arith, refl))
    (apart_from d prefix name next nets (λ q (i, low, at). other q (suc i, omega (arith, low), at)))

pub others_stay : OtherNetsStay
others_stay d prefix nets c text name net by has named other =
    let xs = splits d prefix 0 nets in
    (has.kept name
    (no_stage prefix name xs (all_own d prefix nets c by) (named_old d prefix name net (none_taken d prefix nets c by) named) (apart_from d prefix name 0 nets other))).stays
    net named
