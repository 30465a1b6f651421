-- Cells that are put into nets of a file are few enough to be numbered, and so each net can be split.
use Rattle.std.proofs.Common.{◌≡◌, ℕ, suc, ◌+◌, ◌-◌, ◌*◌, ◌<◌, ◌≤◌, ◌^◌, List, [], ◌∷◌, length, sym, ap, ◌∙◌, subst, arith, refl, Some, All}
use Rattle.std.specs.List.{slice_get}
use Rattle.std.specs.Prelude.{option_map}
use Rattle.std.proofs.lemmas.List.Elements.{All-cons, All-head, All-nil, All-tail}
use Rattle.std.proofs.lemmas.List.FromFn.{length-range_with_len}
use Rattle.std.proofs.lemmas.Option.{slice_get-map}
use Rattle.spef_file.specs.Files.{File, file_lines}
use Rattle.spef_file.specs.Indexes.{IsIndexOf}
use Rattle.spef_file.specs.Statements.{gathered, net_in, nets_of}
use Rattle.spef_file.specs.Tables.{NetRow}
use Rattle.spef_file.specs.Views.{head_in, heads_in}
use Rattle.spef_file.specs.declared.spef_index.SpefIndex.{SpefIndex}
use Rattle.vg_change.specs.Changes.{Changes, IsChange}
use Rattle.vg_change.specs.Placed.{PlacedNet, cell_stages, split_of}
use Rattle.vg_design.specs.Designs.{Design}
use Rattle.vg_split.specs.Conditions.{IsSplit}
use Rattle.vg_split.specs.Splits.{Split, forest}
use Rattle.spef_patch_laws.specs.Replacements.{HasQuietNotes, NumbersRise, Replacement}
use Rattle.spef_patch_laws.proofs.HeadLemmas.{heads_rise}
use Rattle.spef_patch_laws.proofs.IndexLemmas.{span_at}
use Rattle.spef_patch_laws.proofs.NetNoteLemmas.{named_notes}
use Rattle.vg_split.specs.Stages.{heads}
use Rattle.vg_split.proofs.StageLists.{few_heads}
use Rattle.change_spef_laws.specs.Nets.{IsPlacedNet, splits}
use Rattle.change_spef_laws.proofs.EditLemmas.{HasRow}
use Rattle.change_spef_laws.proofs.SplitLemmas.{split_is}

-- ---- the sections of a file are few

module _ (text : List ℕ) (index : SpefIndex) (of : IsIndexOf text index) where
  heads_are : heads_in index.sections ≡ gathered net_in [] (file_lines text)
  unfolding nets_of
  heads_are = ap (λ (f : File). f.nets) of.said.says

  head_at : (k : ℕ) (row : NetRow) → slice_get index.sections k ≡ Some row → slice_get (gathered net_in [] (file_lines text)) k ≡ Some (head_in row)
  head_at k row e = ap (λ hs. slice_get hs k) (sym heads_are) ∙ slice_get-map head_in index.sections k ∙ ap (option_map head_in) e

  -- later sections stand on later lines
  pub lines_rise : (j k : ℕ) (a b : NetRow) → slice_get index.sections j ≡ Some a → slice_get index.sections k ≡ Some b → j < k → a.1.line < b.1.line
  lines_rise j k a b e f l = heads_rise [] (file_lines text) j k (head_in a) (head_in b) (head_at j a e) (head_at k b f) l

  few_from : (low line : ℕ) (rs : List Replacement) → NumbersRise low rs → All (HasRow index) rs → line ≤ 2 ^ 28
      → ((k : ℕ) (row : NetRow) → low ≤ k → slice_get index.sections k ≡ Some row → line < row.1.line) → line + length rs ≤ 2 ^ 28
  few_from low line [] rise rows l past = omega (arith, l)
  few_from low line (r ∷ rs) rise rows l past =
      let here = All-head (HasRow index) r rs rows in
      let number = (span_at text index of r.number r.row here).number in
      let more = few_from (r.number + 1) r.row.1.line rs rise.1 (All-tail (HasRow index) r rs rows) number.1
      (λ k row m e. lines_rise r.number k r.row row here e (omega (arith, m))) in
      let first = past r.number r.row rise.0 here in
      omega (arith, more, first)

  pub few_sections : (rs : List Replacement) → NumbersRise 0 rs → All (HasRow index) rs → length rs ≤ 2 ^ 28
  few_sections rs rise rows =
      let few = few_from 0 0 rs rise rows (omega arith) (λ k row m e. let n = (span_at text index of k row e).number in omega (arith, n)) in omega (arith, few)

-- ---- each net can be split

-- a net that can be split, with notes that stay where comments are made blank; new names begin with this prefix
pub record IsOwnSplit (prefix : List ℕ) (x : Split) : Type 0 where
  pub split : IsSplit x
  pub notes : HasQuietNotes x.par
  pub prefix_is : x.prefix ≡ prefix

pub split_count : (d : Design) (prefix : List ℕ) (first : ℕ) (nets : List PlacedNet) → length (splits d prefix first nets) ≡ length nets
split_count d prefix first [] = refl
split_count d prefix first (p ∷ nets) = ap suc (split_count d prefix (first + length (cell_stages (split_of d prefix first p))) nets)

pub few_cells : (x : Split) → length (cell_stages x) ≤ 65536
few_cells x =
    omega (arith, length-range_with_len 1 (length (heads (forest x)) - 1), few_heads (forest x) (length x.problem.tree.nodes), x.problem.within.nodes)

module _ (c : Changes) (keeps : IsChange c) where
  own_split : (p : PlacedNet) → IsPlacedNet c.design p → (first : ℕ) → first < 2 ^ 63 → IsOwnSplit c.prefix (split_of c.design c.prefix first p)
  own_split p is first few = record {
    split = split_is c keeps p is first few;
    notes = subst (λ (q : PlacedNet). HasQuietNotes q.net.par) (sym is.is) (named_notes c.design.spef is.name is.posed.ready.pinned.net.par is.net.joined.named);
    prefix_is = refl;
  }

  pub own_splits : (first : ℕ) (nets : List PlacedNet) → All (IsPlacedNet c.design) nets → first + 65536 * length nets < 2 ^ 63
      → All (IsOwnSplit c.prefix) (splits c.design c.prefix first nets)
  own_splits first [] each few = All-nil (IsOwnSplit c.prefix)
  own_splits first (p ∷ nets) each few =
      let x = split_of c.design c.prefix first p in
      All-cons (IsOwnSplit c.prefix) x (splits c.design c.prefix (first + length (cell_stages x)) nets)
      (own_split p (All-head (IsPlacedNet c.design) p nets each) first (omega (arith, few)))
      (own_splits (first + length (cell_stages x)) nets (All-tail (IsPlacedNet c.design) p nets each) (omega (arith, few, few_cells x)))
