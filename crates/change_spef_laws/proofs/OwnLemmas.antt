-- Sections of an index are replaced by nets that can be written and have names of their own.
use Rattle.std.proofs.Common.{◌≡◌, ℕ, suc, ◌+◌, ◌-◌, ◌<◌, ◌≤◌, ◌^◌, true, false, List, [], ◌∷◌, length, get_or, map, sym, ap, ◌∙◌, arith, None, All}
use Rattle.std.specs.List.{AllPairs, AllZip, Contains}
use Rattle.std.proofs.lemmas.Bool.{false≢true}
use Rattle.std.proofs.lemmas.List.Elements.{All-cons, All-head, All-nil, All-tail, All-weaker}
use Rattle.std.proofs.lemmas.List.FromFn.{length-range_with_len}
use Rattle.std.proofs.lemmas.List.Kept.{AllPairs-cons}
use Rattle.std.proofs.lemmas.List.{get_or-map, get_or_default, length-map}
use Rattle.std.proofs.lemmas.Option.{slice_get-get_or}
use Rattle.spef_file.specs.Indexes.{IsIndexOf}
use Rattle.spef_file.specs.Tables.{NetRow, is_section, names_of as row_names}
use Rattle.spef_file.specs.declared.spef_index.SpefIndex.{SpefIndex}
use Rattle.spef_net.specs.declared.net.ParNet.{ParNet}
use Rattle.vg_change.specs.Placed.{PlacedNet, cell_stages, split_of}
use Rattle.vg_change.specs.Taken.{taken}
use Rattle.vg_change.proofs.NameLemmas.{got_in}
use Rattle.vg_design.specs.Designs.{Design}
use Rattle.name_tables.specs.Distinct.{AreNew}
use Rattle.vg_scan.specs.declared.chars.Chars.{Chars}
use Rattle.vg_split.specs.NewNames.{net_name}
use Rattle.vg_split.specs.Splits.{IsStageNet, Split, forest, net_of, number_of}
use Rattle.vg_split.proofs.NewNameLemmas.{old_net}
use Rattle.vg_split.proofs.SplitLemmas.{number_fits}
use Rattle.spef_patch_laws.specs.Replacements.{IsReplacement, Replacement}
use Rattle.spef_patch_laws.specs.ReplacementLaws.{HaveOwnNames, names_in}
use Rattle.spef_patch_laws.proofs.ApartLemmas.{Apart, In, apart_new, contains_in, from_map, in_any, in_contains, in_map}
use Rattle.vg_split.specs.Stages.{heads}
use Rattle.change_spef_laws.specs.Nets.{splits}
use Rattle.change_spef_laws.specs.Replaced.{IsReplacedBy}
use Rattle.change_spef_laws.proofs.EditLemmas.{HasRow}
use Rattle.change_spef_laws.proofs.FewLemmas.{IsOwnSplit}
use Rattle.change_spef_laws.proofs.NameLemmas.{StageName, keeps, is_new, names_differ, one_net, section_old, stage_name}
use Rattle.change_spef_laws.proofs.QuietLemmas.{quiet_net}

-- ---- lists

-- no item stands twice where no two of different numbers are the same
apart_by : (names : List (List ℕ)) → ((i j : ℕ) → i < j → j < length names → get_or names i [] ≡ get_or names j [] → ⊥) → Apart names
apart_by [] differ = tt
apart_by (name ∷ names) differ = (
  (λ there.
      let (k, low, at) = in_contains name names there in
      differ 0 (suc k) (omega arith) (omega (arith, low)) (sym (get_or_default names k [] name low ∙ at))),
  apart_by names (λ i j less low. differ (suc i) (suc j) (omega (arith, less)) (omega (arith, low))),
)

module _ (chars : Chars) (x : Split) (r : Replacement) (by : IsReplacedBy chars x r) where
  -- the net of a number is that of the stage of this number
  pub net_at : (k : ℕ) (net : ParNet) → k < length (heads (forest x)) → IsStageNet chars x k (get_or r.nets k net)
  net_at k net low = by.stages.each k (get_or r.nets k net) (slice_get-get_or r.nets k net (omega (arith, low, by.stages.count)))

  -- a name of a net in place of the section is that of a stage's net
  pub name_in : (name : List ℕ) → In name (names_in r) → (k : ℕ) × (k < length (heads (forest x))) × (name ≡ net_of x k)
  name_in name there =
      let (net, net_in, is) = from_map (λ (n : ParNet). n.name) name r.nets there in
      let (k, low, at) = in_contains net r.nets net_in in
      let stage = net_at k net (omega (arith, low, by.stages.count)) in
      (k, omega (arith, low, by.stages.count), sym is ∙ ap (λ (n : ParNet). n.name) (sym at) ∙ stage.name)

  name_at : (k : ℕ) → k < length (names_in r) → get_or (names_in r) k [] ≡ net_of x k
  name_at k low = name_of_net r.nets k low (λ net net_low. (net_at k net (omega (arith, net_low, by.stages.count))).name)
    where
      name_of_net : (nets : List ParNet) (k : ℕ) → k < length (map (λ (n : ParNet). n.name) nets)
          → ((net : ParNet) → k < length nets → (get_or nets k net).name ≡ net_of x k) → get_or (map (λ (n : ParNet). n.name) nets) k [] ≡ net_of x k
      name_of_net [] k low is = absurd (omega (arith, low))
      name_of_net (n ∷ nets) k low is =
          let net_low : k < length (n ∷ nets) = omega (arith, low, length-map (n ∷ nets) (λ (m : ParNet). m.name)) in
          get_or-map (λ (m : ParNet). m.name) (n ∷ nets) k n [] net_low ∙ is n net_low

  module _ (prefix : List ℕ) (own : IsOwnSplit prefix x) (index : SpefIndex) (row : HasRow index r) where
    pub replaces : IsReplacement index r
    replaces = record {
      at = row;
      some = omega (arith, by.stages.count, own.split.keeper);
      nets = λ k net low. quiet_net x k own.split chars (get_or r.nets k net) (net_at k net (omega (arith, low, by.stages.count))) own.notes;
    }

    pub inside : AreNew [] (names_in r)
    inside =
        apart_new [] (names_in r)
        (apart_by (names_in r) (λ i j less low e.
        names_differ x own.split i j less (omega (arith, low, length-map r.nets (λ (n : ParNet). n.name), by.stages.count))
        (sym (name_at i (omega (arith, less, low))) ∙ e ∙ name_at j low))) (λ y a b. a)

    section_here : is_section index.sections r.row.0 ≡ true
    section_here =
        in_any r.row.0 (row_names index.sections)
        (in_map (λ (n : NetRow). n.0) r.row index.sections (contains_in r.row index.sections (got_in index.sections r.number r.row row)))

    -- a net has the name of its section, or a new one
    pub own_names : (d : Design) → IsIndexOf d.spef index → taken d prefix ≡ None → All (λ (net : ParNet). is_section index.sections net.name ≡ true → net.name ≡ r.row.0) r.nets
    own_names d of free k net low section = by_stage (stage_name x own.split k stage_low)
      where
        stage_low : k < length (heads (forest x))
        stage_low = omega (arith, low, by.stages.count)

        name : (get_or r.nets k net).name ≡ net_of x k
        name = (net_at k net stage_low).name

        by_stage : StageName x k → (get_or r.nets k net).name ≡ r.row.0
        by_stage (keeps e is) = name ∙ is ∙ sym by.name
        by_stage (is_new apart new) =
            absurd (old_net prefix (get_or r.nets k net).name (number_of x new.cell) (section_old d prefix index (get_or r.nets k net).name of free section)
            (name ∙ new.is ∙ ap (λ p. net_name p (number_of x new.cell)) own.prefix_is))

    -- a new one is that of one of its cells
    pub new_name : (name : List ℕ) → In name (names_in r) → is_section index.sections name ≡ false
        → (m : ℕ) × (x.first ≤ m) × (m < x.first + length (cell_stages x)) × (m < 2 ^ 64) × (name ≡ net_name prefix m)
    new_name name there new =
        let (k, low, is) = name_in name there in
        by_stage k is (stage_name x own.split k low)
      where
        by_stage : (k : ℕ) → name ≡ net_of x k → StageName x k
            → (m : ℕ) × (x.first ≤ m) × (m < x.first + length (cell_stages x)) × (m < 2 ^ 64) × (name ≡ net_name prefix m)
        by_stage k is (keeps e kept) = absurd (false≢true (sym new ∙ ap (is_section index.sections) (is ∙ kept ∙ sym by.name) ∙ section_here))
        by_stage k is (is_new apart one) = (
          number_of x one.cell,
          omega arith,
          omega (arith, one.low, one.some, length-range_with_len 1 (length (heads (forest x)) - 1)),
          number_fits x own.split one.cell one.low,
          is ∙ one.is ∙ ap (λ p. net_name p (number_of x one.cell)) own.prefix_is,
        )

-- ---- all sections

module _ (d : Design) (prefix : List ℕ) (index : SpefIndex) (of : IsIndexOf d.spef index) (free : taken d prefix ≡ None) where
  -- what is known of a section
  record IsKnown (x : Split) (r : Replacement) : Type 0 where
    by : IsReplacedBy index.header.chars x r
    own : IsOwnSplit prefix x
    row : HasRow index r

  known : (xs : List Split) (rs : List Replacement) → AllZip (IsReplacedBy index.header.chars) xs rs → All (IsOwnSplit prefix) xs → All (HasRow index) rs → AllZip IsKnown xs rs
  known [] [] each own rows = tt
  known [] (r ∷ rs) each own rows = absurd each
  known (x ∷ xs) [] each own rows = absurd each
  known (x ∷ xs) (r ∷ rs) each own rows = (
    record { by = each.0; own = All-head (IsOwnSplit prefix) x xs own; row = All-head (HasRow index) r rs rows },
    known xs rs each.1 (All-tail (IsOwnSplit prefix) x xs own) (All-tail (HasRow index) r rs rows),
  )

  all_known : (P : Replacement → Type 0) → ((x : Split) (r : Replacement) → IsKnown x r → P r) → (xs : List Split) (rs : List Replacement) → AllZip IsKnown xs rs → All P rs
  all_known P one [] [] each = All-nil P
  all_known P one [] (r ∷ rs) each = absurd each
  all_known P one (x ∷ xs) [] each = absurd each
  all_known P one (x ∷ xs) (r ∷ rs) each = All-cons P r rs (one x r each.0) (all_known P one xs rs each.1)

  pub all_replace : (xs : List Split) (rs : List Replacement) → AllZip (IsReplacedBy index.header.chars) xs rs → All (IsOwnSplit prefix) xs → All (HasRow index) rs → All (IsReplacement index) rs
  all_replace xs rs each own rows =
      all_known (IsReplacement index) (λ x r k. replaces index.header.chars x r k.by prefix k.own index k.row) xs rs (known xs rs each own rows)

  -- the new names in place of a section are of cells from this number on
  abbrev IsFrom : ℕ → Replacement → Type 0
  IsFrom first r = (name : List ℕ) → In name (names_in r) → is_section index.sections name ≡ false → (m : ℕ) × (first ≤ m) × (m < 2 ^ 64) × (name ≡ net_name prefix m)

  from_later : (first later : ℕ) → first ≤ later → (r : Replacement) → IsFrom later r → IsFrom first r
  from_later first later less r from name there new = let (m, low, fits, is) = from name there new in (m, omega (arith, low, less), fits, is)

  all_from : (first : ℕ) (nets : List PlacedNet) (rs : List Replacement) → AllZip IsKnown (splits d prefix first nets) rs → All (IsFrom first) rs
  all_from first [] [] each = All-nil (IsFrom first)
  all_from first [] (r ∷ rs) each = absurd each
  all_from first (p ∷ nets) [] each = absurd each
  all_from first (p ∷ nets) (r ∷ rs) each =
      let x = split_of d prefix first p in
      let next = first + length (cell_stages x) in
      All-cons (IsFrom first) r rs
      (λ name there new.
      let (m, low, high, fits, is) = new_name index.header.chars x r each.0.by prefix each.0.own index each.0.row name there new in
      (m, low, fits, is))
      (All-weaker (IsFrom next) (IsFrom first) (from_later first next (omega arith)) rs (all_from next nets rs each.1))

  abbrev AreBetween : Replacement → Replacement → Type 0
  AreBetween r other = All (λ name. is_section index.sections name ≡ false → Contains (names_in other) name → ⊥) (names_in r)

  all_between : (first : ℕ) (nets : List PlacedNet) (rs : List Replacement) → AllZip IsKnown (splits d prefix first nets) rs → AllPairs AreBetween rs
  all_between first [] [] each = λ i j d less low. absurd (omega (arith, low))
  all_between first [] (r ∷ rs) each = absurd each
  all_between first (p ∷ nets) [] each = absurd each
  all_between first (p ∷ nets) (r ∷ rs) each =
      let x = split_of d prefix first p in
      let next = first + length (cell_stages x) in
      AllPairs-cons AreBetween r rs
      (All-weaker (IsFrom next) (AreBetween r) (λ other from k name low new there.
      let here = get_or (names_in r) k name in
      let in_r = contains_in here (names_in r) (k, low, get_or_default (names_in r) k here name low) in
      let (m, m_low, m_high, m_fits, m_is) = new_name index.header.chars x r each.0.by prefix each.0.own index each.0.row here in_r new in
      let (n, n_low, n_fits, n_is) = from here (contains_in here (names_in other) there) new in
      omega (arith, one_net prefix m n m_fits n_fits (sym m_is ∙ n_is), m_high, n_low)) rs (all_from next nets rs each.1))
      (all_between next nets rs each.1)

  pub have_own_names : (nets : List PlacedNet) (rs : List Replacement) → AllZip (IsReplacedBy index.header.chars) (splits d prefix 0 nets) rs
      → All (IsOwnSplit prefix) (splits d prefix 0 nets) → All (HasRow index) rs → HaveOwnNames index rs
  have_own_names nets rs each own rows =
      let xs = splits d prefix 0 nets in
      let all = known xs rs each own rows in
      record {
        own =
            all_known (λ r. All (λ (net : ParNet). is_section index.sections net.name ≡ true → net.name ≡ r.row.0) r.nets)
            (λ x r k. own_names index.header.chars x r k.by prefix k.own index k.row d of free) xs rs all;
        inside = all_known (λ r. AreNew [] (names_in r)) (λ x r k. inside index.header.chars x r k.by prefix k.own index k.row) xs rs all;
        between = all_between 0 nets rs all;
      }
