-- The names of a net of a design are such that a certificate can be written with them.
use Rattle.std.proofs.Common.{◌≡◌, ℕ, ◌<◌, ◌||◌, Bool, true, false, List, [], ◌∷◌, length, get_or, refl, sym, ap, ◌∙◌, subst, arith, inl, inr}
use Rattle.std.specs.Prelude.{not}
use Rattle.std.specs.List.{All, AllPairs, AllPass, list_any, flat_map}
use Rattle.std.specs.Str.{bytes_eq}
use Rattle.std.proofs.lemmas.Bool.{cases_lt}
use Rattle.std.proofs.lemmas.Bool.Decides.{nat_tests}
use Rattle.std.proofs.lemmas.List.{get_or-map, length-map}
use Rattle.std.proofs.lemmas.List.Elements.{All-get_or, All-head, All-map, All-tail, All-weaker}
use Rattle.std.proofs.lemmas.List.FromFn.{length-map-range_with_len}
use Rattle.std.proofs.lemmas.Slice.Eq.{bytes_eq-Decides}
use Rattle.elmore.specs.declared.tree.Node.{Node}
use Rattle.lib_cells.proofs.NameLemmas.{no_part}
use Rattle.lib_cells.specs.Cells.{cell_groups}
use Rattle.lib_cells.specs.Flaws.{cell_flaws, twice_flaws}
use Rattle.lib_cells.specs.Units.{units_of}
use Rattle.lib_linear.proofs.RepeaterLaws.{none_twice}
use Rattle.lib_linear.proofs.RepeaterOrder.{found_distinct, ordered_distinct}
use Rattle.lib_linear.specs.Libraries.{Cells, Denotes, library_in_bytes}
use Rattle.lib_linear.specs.declared.repeater.Repeater.{Repeater}
use Rattle.lib_laws.proofs.NameLemmas.{are_words}
use Rattle.lib_laws.specs.NameLaws.{HasPrintableNames}
use Rattle.rc_tree.specs.Answers.{ListsAll}
use Rattle.spef_file.specs.Nets.{NetHead}
use Rattle.spef_net.specs.Nets.{IsNamed}
use Rattle.spef_net.specs.declared.net.ParNet.{ParNet}
use Rattle.vg_cert.specs.Lines.{is_empty}
use Rattle.vg_cert.specs.Names.{IsNodeWord, IsWord, is_gap}
use Rattle.vg_design.proofs.ConnectedLemmas.{found_is}
use Rattle.vg_design.specs.Designs.{Design, Joined, NO_NODE, name_of}
use Rattle.vg_design.specs.Nets.{names_of}
use Rattle.vg_design.specs.Parts.{cells_of, loaded_tree}
use Rattle.vg_scan.specs.Printed.{IsPrintable, is_solid}
use Rattle.vg_scan.specs.declared.name.NodeName.{NodeName}
use Rattle.spef_wire.specs.Nets.{IsNetNamed}
use Rattle.vg_design.specs.Nets.{IsPosedNet}
use Rattle.vg_design.specs.declared.net_problem.PosedNet.{PosedNet}
use Rattle.vg_cert.specs.Names.{AreNamesOf}
use Rattle.vg_scan.specs.declared.name.NetNames.{NetNames}
use Rattle.vg_verdict.specs.Laws.{AreFitNames, NamesFit, names_in}
use Rattle.vg_verdict.specs.Lines.{names_for}

-- ---- words

solid_byte : (gap : Bool) → not gap ≡ true → gap ≡ false
solid_byte true e = absurd (cc)
solid_byte false e = refl

gapless : (bytes : List ℕ) → AllPass is_solid bytes → list_any is_gap bytes ≡ false
gapless [] solid = refl
gapless (b ∷ bytes) solid =
    let first : is_gap b ≡ false = solid_byte (is_gap b) (All-head (λ (x : ℕ). is_solid x ≡ true) b bytes solid) in
    let rest : list_any is_gap bytes ≡ false = gapless bytes (All-tail (λ (x : ℕ). is_solid x ≡ true) b bytes solid) in
    λ i. first i || rest i

some_byte : (bytes : List ℕ) → 0 < length bytes → is_empty bytes ≡ false
some_byte bytes some = grind (arith, nat_tests)

word_of : (name : List ℕ) → IsPrintable name → IsWord name
word_of name is = record { some = some_byte name is.some; solid = gapless name is.solid }

-- ---- the library

repeater_words : (bytes : List ℕ) (said : Cells) → Denotes bytes said → All IsWord (cells_of said.repeaters)
repeater_words bytes said is =
    All-map IsWord (λ (r : Repeater). r.cell) said.repeaters
    (All-weaker HasPrintableNames (λ (r : Repeater). IsWord r.cell) (λ r named. word_of r.cell named.cell) said.repeaters (are_words bytes said is))

repeaters_differ : (bytes : List ℕ) (said : Cells) → Denotes bytes said → AllPairs (λ (a b : List ℕ). a ≡ b → ⊥) (cells_of said.repeaters)
repeaters_differ bytes said is =
    let units = units_of (library_in_bytes bytes) in
    let cells = cell_groups (library_in_bytes bytes) in
    let reps = is.says.repeaters in
    ordered_distinct reps.found said.repeaters reps.order
    (found_distinct units reps.are (none_twice cells (no_part (twice_flaws [] cells) (flat_map (cell_flaws units) cells) is.says.values)))

-- ---- the net

-- its name is its own
own_name : (text name : List ℕ) (net : ParNet) → IsNetNamed text name net → net.name ≡ name
own_name text name net named =
    let found = found_is (λ (head : NetHead). bytes_eq name head.name) named.file.nets named.head named.head_of.named in
    named.read.denoted.named ∙ sym ((bytes_eq-Decides name named.head.name).0 found.passes)

net_word : (text name : List ℕ) (net : ParNet) → IsNetNamed text name net → IsWord name
net_word text name net named = subst IsWord (own_name text name net named) (word_of net.name net.sound.named)

-- ---- its nodes

module _ (net : ParNet) (order : List ℕ) (lists : ListsAll (length net.nodes) order) where
  -- the number of a node of the tree
  within : (i : ℕ) → i < length order → get_or order i 0 < length net.nodes
  within i low = lists.within i (omega (arith, low, lists.count))

  named_at : (i : ℕ) (d : NodeName) → i < length order → get_or (names_of net order) i d ≡ name_of net (get_or order i 0)
  named_at i d low = get_or-map (name_of net) order i 0 d low

  node_word : (v : ℕ) → v < length net.nodes → IsNodeWord (name_of net v)
  node_word v low =
      let is : IsNamed (get_or net.nodes v NO_NODE) = All-get_or IsNamed net.nodes v NO_NODE low net.sound.nodes_named in
      record { owner = word_of (name_of net v).owner is.0; leaf = gapless (name_of net v).leaf is.1 }

  nodes_are_words : All IsNodeWord (names_of net order)
  nodes_are_words i d low =
      let here : i < length order = omega (arith, low, length-map order (name_of net)) in
      subst IsNodeWord (sym (named_at i d here)) (node_word (get_or order i 0) (within i here))

  -- no two nodes of the net have one name
  names_differ : (v w : ℕ) → v < length net.nodes → w < length net.nodes → (v ≡ w → ⊥) → name_of net v ≡ name_of net w → ⊥
  names_differ v w v_n w_n other same = elim (cases_lt v w) [
    | inl less ↦ net.sound.distinct v w NO_NODE less w_n same
    | inr more ↦ elim (cases_lt w v) [
      | inl less ↦ net.sound.distinct w v NO_NODE less v_n (sym same)
      | inr less ↦ other (omega (arith, more, less))
    ]
  ]

  nodes_differ : AllPairs (λ (a b : NodeName). a ≡ b → ⊥) (names_of net order)
  nodes_differ i j d i_j j_n same =
      let j_low : j < length order = omega (arith, j_n, length-map order (name_of net)) in
      let i_low : i < length order = omega (arith, i_j, j_low) in
      names_differ (get_or order i 0) (get_or order j 0) (within i i_low) (within j j_low) (lists.once i j i_j (omega (arith, j_low, lists.count)))
      (sym (named_at i d i_low) ∙ same ∙ named_at j d j_low)

-- ---- the whole

tree_count : (d : Design) (n : Joined) (tree : List Node) (order : List ℕ) → length (loaded_tree d n tree order) ≡ length tree
tree_count d n tree order = length-map-range_with_len _ 0 (length tree)

pub names_fit : NamesFit
names_fit texts d name posed design is =
    let net = posed.ready.pinned.net in
    let tree = posed.ready.tree.nodes in
    let order = posed.ready.order in
    let lists : ListsAll (length net.par.nodes) order = is.ready.a_tree.a_tree.lists in
    let count : length posed.problem.tree.nodes ≡ length net.par.nodes
    = ap (λ (nodes : List Node). length nodes) is.problem.tree_is ∙ tree_count d net tree order ∙ is.ready.a_tree.a_tree.count in
    record {
      nodes_each = length-map order (name_of net.par) ∙ lists.count ∙ sym count;
      cells_each =
          length-map d.library.repeaters (λ (r : Repeater). r.cell)
          ∙ sym (ap (λ reps. length reps) is.problem.reps ∙ length-map d.library.repeaters (λ (r : Repeater). r.rep));
      nodes_differ = nodes_differ net.par order lists;
      cells_differ = repeaters_differ texts.lib d.library design.library;
      net = net_word d.spef name net.par is.joined.named;
      nodes = nodes_are_words net.par order lists;
      cells = repeater_words texts.lib d.library design.library;
    }

-- ---- names that were made

-- the names that were made of a net can stand in its certificate
pub names_are : (d : Design) (name : List ℕ) (net : PosedNet) (names : NetNames) (repeaters : List Repeater) → repeaters ≡ d.library.repeaters
    → names ≡ names_for name (cells_of repeaters) (names_of net.ready.pinned.net.par net.ready.order) → names ≡ names_in d name net
names_are d name net names repeaters all made =
    made ∙ ap (λ (some : List Repeater). names_for name (cells_of some) (names_of net.ready.pinned.net.par net.ready.order)) all

pub names_stand : (d : Design) (name : List ℕ) (net : PosedNet) (names : NetNames) → AreFitNames d → IsPosedNet d name net → names ≡ names_in d name net
    → AreNamesOf net.problem names
names_stand d name net names fit of is = subst (λ (some : NetNames). AreNamesOf net.problem some) (sym is) (fit name net of)
