-- The edits of the parasitics, one for each net.
use Rattle.std.proofs.Common.{◌≡◌, ℕ, ◌+◌, ◌<◌, ◌≤◌, List, [], ◌∷◌, ◌++◌, length, map, refl, sym, ap, ◌∙◌, subst, arith, append_assoc, Some, All, inl, inr}
use Rattle.std.specs.List.{AllZip, slice_get}
use Rattle.std.proofs.lemmas.Bool.{cases_lt, cases_eq}
use Rattle.std.proofs.lemmas.List.{append-nil, length-append, length-map}
use Rattle.std.proofs.lemmas.List.Elements.{All-cons, All-head, All-nil, All-tail}
use Rattle.std.proofs.lemmas.Option.{slice_get-get_or, same_Some}
use Rattle.spef_file.specs.Indexes.{IsIndexOf}
use Rattle.spef_file.specs.Tables.{NetRow}
use Rattle.spef_file.specs.declared.spef_index.SpefIndex.{SpefIndex}
use Rattle.vg_change.specs.Changes.{Changes, HavePut, IsSectionEdit, split_behind}
use Rattle.vg_change.specs.Placed.{PlacedNet, cell_stages, cells_of, new_cell}
use Rattle.vg_design.specs.Designs.{Design}
use Rattle.vg_patch.specs.Edits.{Edit, Rise}
use Rattle.vg_split.specs.Splits.{Split}
use Rattle.spef_patch_laws.specs.Replacements.{Replacement, NumbersRise, change_of}
use Rattle.spef_patch_laws.specs.Sections.{edit_of}
use Rattle.spef_patch_laws.proofs.IndexLemmas.{rows_rise, span_at}
use Rattle.change_spef_laws.specs.Laws.{SplitsGoOn}
use Rattle.change_spef_laws.specs.Nets.{splits}
use Rattle.change_spef_laws.specs.Replaced.{IsReplacedBy}
use Rattle.change_spef_laws.proofs.IndexLemmas.{one_index}

-- ---- the edits that are put

-- behind those of what changed before, each is the edit of a net
pub record ArePutEdits (old : Changes) (nets : List PlacedNet) (all : List Edit) : Type 0 where
  pub edits : List Edit
  pub behind : all ≡ old.sections ++ edits
  pub each : AllZip (IsSectionEdit old.design.spef) (splits old.design old.prefix (length old.cells) nets) edits

pub cell_count : (old : Changes) (p : PlacedNet) (x : Split)
    → length (old.cells ++ cells_of old.design.netlist p.net.id x) ≡ length old.cells + length (cell_stages x)
cell_count old p x =
    omega (arith, length-append old.cells (cells_of old.design.netlist p.net.id x), length-map (cell_stages x) (new_cell old.design.netlist p.net.id x))

-- the next net is split behind this one
pub go_on : SplitsGoOn
go_on old new p nets put =
    let x = split_behind old p in
    let design = ap (λ (s : Changes). s.design) put.is in
    let prefix = ap (λ (s : Changes). s.prefix) put.is in
    let cells : length new.cells ≡ length old.cells + length (cell_stages x) = ap (λ (s : Changes). length s.cells) put.is ∙ cell_count old p x in
    λ j. x ∷ splits (sym design j) (sym prefix j) (sym cells j) nets

put_edits : (old : Changes) (nets : List PlacedNet) (c : Changes) → HavePut old nets c → ArePutEdits old nets c.sections
put_edits old [] c put = record { edits = []; behind = ap (λ (s : Changes). s.sections) put ∙ sym (append-nil old.sections); each = tt }
put_edits old (p ∷ nets) c (mid, one, more) =
    let rest = put_edits mid nets c more in
    let design = ap (λ (s : Changes). s.design) one.is in
    record {
      edits = one.section ∷ rest.edits;
      behind = rest.behind ∙ ap (λ (s : Changes). s.sections ++ rest.edits) one.is ∙ append_assoc old.sections (one.section ∷ []) rest.edits;
      each =
          subst (λ xs. AllZip (IsSectionEdit old.design.spef) xs (one.section ∷ rest.edits)) (sym (go_on old mid p nets one))
          (one.is_section, subst (λ (e : Design). AllZip (IsSectionEdit e.spef) (splits mid.design mid.prefix (length mid.cells) nets) rest.edits) design rest.each);
    }

-- ---- as replacements

-- a section has a number
abbrev pub HasRow : SpefIndex → Replacement → Type 0
HasRow index r = slice_get index.sections r.number ≡ Some r.row

pub record AreEdits (index : SpefIndex) (xs : List Split) (edits : List Edit) : Type 0 where
  pub rs : List Replacement
  pub each : AllZip (IsReplacedBy index.header.chars) xs rs
  pub edits_are : edits ≡ map (edit_of index.header) (map change_of rs)
  pub rows : All (HasRow index) rs

-- one edit is a replacement
record IsEdit (index : SpefIndex) (x : Split) (e : Edit) : Type 0 where
  r : Replacement
  by : IsReplacedBy index.header.chars x r
  is : e ≡ edit_of index.header (change_of r)
  row : HasRow index r

edit_is : (text : List ℕ) (index : SpefIndex) → IsIndexOf text index → (x : Split) (e : Edit) → IsSectionEdit text x e → IsEdit index x e
edit_is text index of x e edit = subst (λ (a : SpefIndex). IsEdit a x e) (one_index text edit.index index edit.named.index_of of) here
  where
    here : IsEdit edit.index x e
    here =
        let (k, low, at) = edit.named.row in
        record {
          r = record { number = k; row = (x.par.name, edit.section); nets = edit.nets };
          by = record { name = refl; stages = edit.stages };
          is = edit.is;
          row = slice_get-get_or edit.index.sections k (x.par.name, edit.section) low ∙ ap Some at;
        }

edits_are : (text : List ℕ) (index : SpefIndex) → IsIndexOf text index → (xs : List Split) (edits : List Edit) → AllZip (IsSectionEdit text) xs edits → AreEdits index xs edits
edits_are text index of [] [] each = record { rs = []; each = tt; edits_are = refl; rows = All-nil (HasRow index) }
edits_are text index of [] (e ∷ edits) each = absurd each
edits_are text index of (x ∷ xs) [] each = absurd each
edits_are text index of (x ∷ xs) (e ∷ edits) each =
    let one = edit_is text index of x e each.0 in
    let more = edits_are text index of xs edits each.1 in
    record {
      rs = one.r ∷ more.rs;
      each = (one.by, more.each);
      edits_are = λ j. one.is j ∷ more.edits_are j;
      rows = All-cons (HasRow index) one.r more.rs one.row more.rows;
    }

-- ---- in the order of the index

module _ (text : List ℕ) (index : SpefIndex) (of : IsIndexOf text index) where
  -- sections one behind another have rising numbers
  behind_rises : (j k : ℕ) (a b : NetRow) → slice_get index.sections j ≡ Some a → slice_get index.sections k ≡ Some b → a.1.to ≤ b.1.from → j < k
  behind_rises j k a b e f l = elim (cases_lt j k) [
    | inl less ↦ less
    | inr high ↦ elim (cases_eq j k) [
      | inl same ↦ absurd (
          let one : a ≡ b = same_Some a b (sym e ∙ ap (slice_get index.sections) same ∙ f) in
          let order = (span_at text index of j a e).order in
          omega (arith, order, l, ap (λ (r : NetRow). r.1.from) one))
      | inr other ↦ absurd (
          let back = rows_rise text index of k j b a f e (omega (arith, high, other)) in
          let order_a = (span_at text index of j a e).order in
          let order_b = (span_at text index of k b f).order in
          omega (arith, back, l, order_a, order_b))
    ]
  ]

  numbers_rise : (at low end : ℕ) (rs : List Replacement) → All (HasRow index) rs → Rise at end (map (edit_of index.header) (map change_of rs))
      → ((k : ℕ) (row : NetRow) → slice_get index.sections k ≡ Some row → at ≤ row.1.from → low ≤ k) → NumbersRise low rs
  numbers_rise at low end [] rows rise past = tt
  numbers_rise at low end (r ∷ rs) rows rise past =
      let here = All-head (HasRow index) r rs rows in (
        past r.number r.row here rise.0,
        numbers_rise r.row.1.to (r.number + 1) end rs (All-tail (HasRow index) r rs rows) rise.2
            (λ k row e l. let up = behind_rises r.number k r.row row here e l in omega (arith, up)),
      )

pub rising_edits : (text : List ℕ) (index : SpefIndex) (old c : Changes) (nets : List PlacedNet) (end : ℕ) → IsIndexOf text index → HavePut old nets c → old.sections ≡ []
    → old.design.spef ≡ text → Rise 0 end c.sections
    → (are : AreEdits index (splits old.design old.prefix (length old.cells) nets) c.sections) × NumbersRise 0 are.rs
rising_edits text index old c nets end of put none text_is rise =
    let all = put_edits old nets c put in
    let whole : c.sections ≡ all.edits = all.behind ∙ ap (λ (es : List Edit). es ++ all.edits) none in
    let xs = splits old.design old.prefix (length old.cells) nets in
    let are = subst (AreEdits index xs) (sym whole) (edits_are text index of xs all.edits (subst (λ (t : List ℕ). AllZip (IsSectionEdit t) xs all.edits) text_is all.each)) in
    (are, numbers_rise text index of 0 0 end are.rs are.rows (subst (Rise 0 end) are.edits_are rise) (λ k row e l. omega arith))
