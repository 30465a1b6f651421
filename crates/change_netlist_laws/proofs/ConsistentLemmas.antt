-- What is written into the netlist may be written, and keeps names apart.
use Rattle.std.proofs.Common.{◌≡◌, ◌≢◌, ℕ, ◌<◌, ◌^◌, ◌==◌, Bool, true, false, List, [], ◌∷◌, ◌++◌, length, map, refl, sym, ap, ◌∙◌, subst, arith, inl, inr, Option, Some, None}
use Rattle.std.specs.Prelude.{if◌then◌else◌, is_some, slice_index_or, unwrap_or}
use Rattle.std.specs.Fmt.{decimal}
use Rattle.std.specs.List.{list_all, starts_with}
use Rattle.std.proofs.lemmas.Bool.{and_parts, false≢true}
use Rattle.std.proofs.lemmas.Bool.Decides.{nat_tests}
use Rattle.std.proofs.lemmas.List.{append-nil, append_assoc}
use Rattle.std.proofs.lemmas.Option.{get_or_from_slice_get, slice_get-get_or}
use Rattle.elmore.specs.Cells.{rep_of}
use Rattle.lib_linear.specs.Libraries.{IsOfCells}
use Rattle.lib_linear.specs.declared.repeater.Repeater.{Repeater}
use Rattle.lib_laws.specs.NameLaws.{HasNames}
use Rattle.lib_text.specs.Arguments.{is_name}
use Rattle.ver_patch_text_laws.specs.Laws.{IsChanged}
use Rattle.ver_patch_text_laws.proofs.LawLemmas.{each_of}
use Rattle.ver_patch_laws.specs.Links.{name_of_net}
use Rattle.ver_patch_laws.proofs.RelinkedLemmas.{In, each_in}
use Rattle.ver_module.specs.Netlists.{Instance, Net, net_name as written_name}
use Rattle.ver_net.specs.Texts.{net_text}
use Rattle.ver_patch.specs.Pins.{AreRewirable}
use Rattle.ver_patch.specs.NewCells.{NewCell}
use Rattle.ver_patch.specs.Rewires.{Rewire}
use Rattle.ver_patch_laws.specs.Consistent.{IsConsistent, IsThere, Writes, WritesOne, taken_in, wire_name}
use Rattle.ver_patch_laws.specs.Names.{IsNumbered, NO_NET, name_at, names_of}
use Rattle.ver_patch_laws.proofs.ApartLemmas.{apart_map, apart_new}
use Rattle.ver_patch_laws.proofs.SetLemmas.{each_all, each_from, get_in, in_contains, in_either, in_flat, in_flattened, in_get, in_map, in_mapped}
use Rattle.ver_patch_laws.proofs.WritableLemmas.{nets_may_be_written, wires_may_be_written}
use Rattle.ver_patch_laws.proofs.RenewedLemmas.{netlists_are_renewed}
use Rattle.ver_text.specs.Bytes.{is_printable}
use Rattle.ver_text.specs.Names.{is_simple}
use Rattle.ver_patch_text_laws.specs.Texts.{AreWritten, IsNetText, IsNewCell, IsPrinted}
use Rattle.vg_change.specs.Changes.{Changes, nothing}
use Rattle.vg_change.specs.Placed.{PlacedNet, above, text_in}
use Rattle.vg_design.specs.Designs.{Design}
use Rattle.name_tables.specs.Distinct.{AreNew}
use Rattle.vg_split.specs.Conditions.{IsSplit}
use Rattle.vg_split.specs.NewNames.{cell_name, net_name}
use Rattle.vg_split.specs.Splits.{NO_REPEATER, Split, forest, head, is_celled, net_of, number_of, repeater_at}
use Rattle.vg_split.proofs.NewNameLemmas.{old_cell, one_cell}
use Rattle.vg_split.proofs.SplitLemmas.{head_celled, number_fits}
use Rattle.vg_split.specs.Stages.{heads}
use Rattle.change_netlist_laws.specs.Laws.{ChangesAreConsistent, NetlistsAreReadAgain}
use Rattle.change_netlist_laws.specs.Put.{IsWrittenAnew}
use Rattle.change_netlist_laws.proofs.NewNameLemmas.{cell_simple, net_begins, net_simple, one_net}
use Rattle.change_netlist_laws.proofs.NumbersLemmas.{names_are, numbers, numbers_apart, numbers_within, wires_are}
use Rattle.change_netlist_laws.proofs.OldLemmas.{IsNetOf, instance_old, net_of_joined, net_old, net_said}
use Rattle.change_netlist_laws.proofs.OwnLemmas.{all_come, own}
use Rattle.change_netlist_laws.proofs.PutLemmas.{Placing, cells_by, placings, rewires_by, wires_by, Come}
use Rattle.change_netlist_laws.proofs.RewiredLemmas.{IsPutCell, IsRewired, put_is, rewired_is}
use Rattle.change_netlist_laws.proofs.StageLemmas.{above_low}
use Rattle.change_netlist_laws.proofs.WireLemmas.{stage_name, wire_among, wire_fits, wire_is, wire_stage}
use Rattle.vg_change.specs.Taken.{taken}

printed_name : (name : List ℕ) → is_name name ≡ true → IsPrinted name
unfolding is_name
printed_name name e =
    let (some, all) = and_parts _ (list_all is_printable name) e in
    record { some = grind (arith, nat_tests); printable = all }

module _ (verilog : List ℕ) (d : Design) (prefix : List ℕ) (nets : List PlacedNet) (c : Changes) (new : List ℕ) (w : IsWrittenAnew verilog d prefix nets c new) where
  abbrev all : List Placing
  all = placings d prefix 0 nets

  come_is : Come d prefix (nothing d prefix) nets c
  come_is = all_come verilog d prefix nets c new w

  pub free : taken d prefix ≡ None
  free = (λ i. taken (sym come_is.design i) (sym come_is.prefix_is i)) ∙ w.change.free

  -- ---- new names are new

  few_numbers : (n : ℕ) → In n (numbers d prefix 0 nets) → n < 2 ^ 64
  few_numbers n i =
      let (low, high) = numbers_within d prefix nets 0 n i in
      omega (arith, high, w.few, ap (λ (l : List NewCell). length l) come_is.cells)

  no_net : (name : List ℕ) → In name (taken_in d.netlist) → In name (map (net_name prefix) (numbers d prefix 0 nets)) → ⊥
  no_net name i j =
      let (n, k, e) = in_mapped (net_name prefix) (numbers d prefix 0 nets) name j in
      elim (in_either (map (λ (m : Net). m.name) d.netlist.nets) (map (λ (m : Net). m.base) d.netlist.nets) name i) as (λ _. ⊥) [
        | inl l ↦
            (let (m, h, f) = in_mapped (λ (m : Net). m.name) d.netlist.nets name l in
            begins m [] n h (append-nil (net_name prefix n) ∙ sym e ∙ f))
        | inr l ↦
            (let (m, h, f) = in_mapped (λ (m : Net). m.base) d.netlist.nets name l in
            by_bit m n h (sym e ∙ f) m.bit (net_in m h))
      ]
    where
      begins : (m : Net) (more : List ℕ) (n : ℕ) → In m d.netlist.nets → net_name prefix n ++ more ≡ m.name → ⊥
      begins m more n h e = false≢true (sym (net_old d prefix free m h) ∙ ap (λ x. starts_with ◌==◌ x prefix) (sym e) ∙ net_begins prefix n more)

      net_in : (m : Net) → In m d.netlist.nets → m.name ≡ written_name m.base m.bit
      net_in m h = let (id, e) = in_get d.netlist.nets m h in net_said verilog d.netlist id m w.denotes e

      by_bit : (m : Net) (n : ℕ) → In m d.netlist.nets → net_name prefix n ≡ m.base → (bit : Option ℕ) → m.name ≡ written_name m.base bit → ⊥
      by_bit m n h e None f = begins m [] n h (append-nil (net_name prefix n) ∙ e ∙ sym f)
      by_bit m n h e (Some bit) f =
          let more : List ℕ = (91 ∷ decimal bit) ++ (93 ∷ []) in
          begins m more n h (ap (λ b. b ++ more) e ∙ sym (append_assoc m.base (91 ∷ decimal bit) (93 ∷ [])) ∙ sym f)

  pub wires_named : c.wires ≡ map (net_name prefix) (numbers d prefix 0 nets)
  wires_named = come_is.wires ∙ wires_are d prefix nets 0

  pub cells_named : map (λ (m : NewCell). m.name) c.cells ≡ map (cell_name prefix) (numbers d prefix 0 nets)
  cells_named = ap (map (λ (m : NewCell). m.name)) come_is.cells ∙ names_are d prefix nets 0

  -- ---- what is written

  pub net_is : (s : Placing) → In s all → IsNetOf d.netlist s.p.net
  net_is s i =
      let o = own verilog d prefix nets c new w s i in
      subst (IsNetOf d.netlist) (ap (λ (q : PlacedNet). q.net) (sym o.net.is)) (net_of_joined verilog d o.net.name o.net.posed.ready.pinned.net w.denotes o.net.net.joined)

  pub name_is : (s : Placing) (i : In s all) → name_at d.netlist s.p.net.id ≡ name_of_net (net_is s i).net
  name_is s i = get_or_from_slice_get (names_of d.netlist) s.p.net.id (name_of_net (net_is s i).net) NO_NET (net_is s i).numbered

  pub name_numbered : (s : Placing) → In s all → IsNumbered d.netlist s.p.net.id (name_at d.netlist s.p.net.id)
  name_numbered s i = (net_is s i).numbered ∙ ap Some (sym (name_is s i))

  pub wire_there : (s : Placing) → In s all → (k : ℕ) → k < length (heads (forest s.x)) → (k == s.x.keeper) ≡ false → In (net_of s.x k) c.wires
  wire_there s i k low other =
      let o = own verilog d prefix nets c new w s i in
      subst (In (net_of s.x k)) (sym come_is.wires) (in_flat (wires_by d prefix) all s (net_of s.x k) i (wire_among s.x o.split k low other))

  pub wire_simple : (s : Placing) → In s all → (k : ℕ) → k < length (heads (forest s.x)) → (k == s.x.keeper) ≡ false → is_simple (net_of s.x k) ≡ true
  wire_simple s i k low other =
      let o = own verilog d prefix nets c new w s i in
      ap is_simple (wire_is s.x o.split k low other ∙ ap (λ q. net_name q (number_of s.x (wire_stage s.x k))) o.prefix_is) ∙ net_simple prefix (number_of s.x (wire_stage s.x k)) w.word (wire_fits s.x o.split k low other)

  -- the text of a stage's net is that of a net of its name
  pub stage_written : (s : Placing) → In s all → (k : ℕ) → k < length (heads (forest s.x))
      → Writes (text_in d.netlist s.p.net.id s.x k) (stage_name d.netlist s.p.net.id s.x k)
  stage_written s i k low = by_keeper (k == s.x.keeper) refl
    where
      by_keeper : (b : Bool) → (k == s.x.keeper) ≡ b
          → Writes (if b then net_text d.netlist s.p.net.id else net_of s.x k) (if b then name_at d.netlist s.p.net.id else wire_name (net_of s.x k))
      by_keeper true e = nets_may_be_written verilog d.netlist s.p.net.id (name_at d.netlist s.p.net.id) w.denotes (name_numbered s i)
      by_keeper false e = wires_may_be_written (net_of s.x k) (wire_simple s i k low e)

  -- which is there
  stage_there : (s : Placing) → In s all → (k : ℕ) → k < length (heads (forest s.x)) → IsThere d.netlist c.wires (stage_name d.netlist s.p.net.id s.x k)
  stage_there s i k low = by_keeper (k == s.x.keeper) refl
    where
      by_keeper : (b : Bool) → (k == s.x.keeper) ≡ b → IsThere d.netlist c.wires (if b then name_at d.netlist s.p.net.id else wire_name (net_of s.x k))
      by_keeper true e = inl (in_contains (names_of d.netlist) _ (get_in (names_of d.netlist) s.p.net.id _ (name_numbered s i)))
      by_keeper false e = inr (in_contains (map wire_name c.wires) _ (in_map wire_name c.wires (net_of s.x k) (wire_there s i k low e)))

  writes_one : (s : Placing) → In s all → (k : ℕ) → k < length (heads (forest s.x)) → WritesOne d.netlist c.wires (text_in d.netlist s.p.net.id s.x k)
  writes_one s i k low = record { name = stage_name d.netlist s.p.net.id s.x k; writes = stage_written s i k low; there = stage_there s i k low }

  wire_written : (s : Placing) → In s all → (k : ℕ) → k < length (heads (forest s.x)) → (k == s.x.keeper) ≡ false → WritesOne d.netlist c.wires (net_of s.x k)
  wire_written s i k low other =
      subst (WritesOne d.netlist c.wires) (ap (λ (b : Bool). if b then net_text d.netlist s.p.net.id else net_of s.x k) other) (writes_one s i k low)

  -- ---- rewires and cells

  pub record IsRewire (r : Rewire) : Type 0 where
    pub s : Placing
    pub among : In s all
    pub is : IsRewired d.netlist s.p s.x r

  pub rewire_is : (r : Rewire) → In r c.rewires → IsRewire r
  rewire_is r i =
      let (s, j, k) = in_flattened (rewires_by d prefix) all r (subst (In r) come_is.rewires i) in
      record { s = s; among = j; is = rewired_is d.netlist s.p s.x r k }

  pub record IsCell (cell : NewCell) : Type 0 where
    pub s : Placing
    pub among : In s all
    pub is : IsPutCell d.netlist s.p s.x cell

  pub cell_is : (cell : NewCell) → In cell c.cells → IsCell cell
  cell_is cell i =
      let (s, j, k) = in_flattened (cells_by d prefix) all cell (subst (In cell) come_is.cells i) in
      record { s = s; among = j; is = put_is d.netlist s.p s.x cell k }

  -- the repeater at which a stage begins is one of the library
  pub repeater_in : (s : Placing) → In s all → (k : ℕ) → 0 < k → k < length (heads (forest s.x)) → In (repeater_at s.x (head s.x k)) d.library.repeaters
  repeater_in s i k some low =
      let o = own verilog d prefix nets c new w s i in
      subst (In (repeater_at s.x (head s.x k))) o.repeaters
      (celled s.x o.split (head s.x k) (head_celled s.x k some low))
    where
      at : (xs : List Repeater) (b : ℕ) → b < length xs → In (slice_index_or xs b NO_REPEATER) xs
      at xs b low = get_in xs b _ (slice_get-get_or xs b NO_REPEATER low)

      celled : (x : Split) → IsSplit x → (v : ℕ) → is_celled x v ≡ true → In (repeater_at x v) x.repeaters
      celled x is v has = by_cell (slice_index_or x.cells v None) refl has
        where
          by_cell : (o : Option ℕ) → slice_index_or x.cells v None ≡ o → is_some (rep_of x.problem.reps o) ≡ true → In (slice_index_or x.repeaters (unwrap_or o 0) NO_REPEATER) x.repeaters
          by_cell None e h = absurd (cc)
          by_cell (Some b) e h = at x.repeaters b (is.numbered v b e)

  pub repeater_names : (s : Placing) → In s all → (k : ℕ) → 0 < k → k < length (heads (forest s.x)) → HasNames (repeater_at s.x (head s.x k))
  repeater_names s i k some low = each_in HasNames d.library.repeaters _ (each_of HasNames d.library.repeaters w.names) (repeater_in s i k some low)

  pub repeater_pins : (s : Placing) → In s all → (k : ℕ) → 0 < k → k < length (heads (forest s.x)) → IsOfCells d.library (repeater_at s.x (head s.x k))
  repeater_pins s i k some low =
      each_in (IsOfCells d.library) d.library.repeaters _ (each_of (IsOfCells d.library) d.library.repeaters w.cells.each) (repeater_in s i k some low)

  -- ---- the law

  pub consistent : IsConsistent d.netlist c.rewires c.cells c.wires
  consistent = record {
    wires_new =
        subst (AreNew (taken_in d.netlist)) (sym wires_named)
        (apart_new (map (net_name prefix) (numbers d prefix 0 nets)) (taken_in d.netlist)
        (apart_map (net_name prefix) (numbers d prefix 0 nets) (numbers_apart d prefix nets 0) (λ m n i j e. one_net prefix m n (few_numbers m i) (few_numbers n j) e)) no_net);
    cells_new =
        subst (AreNew (map (λ (i : Instance). i.name) d.netlist.instances)) (sym cells_named)
        (apart_new (map (cell_name prefix) (numbers d prefix 0 nets)) (map (λ (i : Instance). i.name) d.netlist.instances)
        (apart_map (cell_name prefix) (numbers d prefix 0 nets) (numbers_apart d prefix nets 0) (λ m n i j e. one_cell prefix m n (few_numbers m i) (few_numbers n j) e)) no_cell);
    linked =
        each_all (λ (r : Rewire). WritesOne d.netlist c.wires r.net) c.rewires
        (each_from (λ (r : Rewire). WritesOne d.netlist c.wires r.net) c.rewires
        (λ r i. let f = rewire_is r i in subst (WritesOne d.netlist c.wires) (sym f.is.net) (wire_written f.s f.among f.is.k f.is.low f.is.other)));
    from =
        each_all (λ (m : NewCell). WritesOne d.netlist c.wires m.from) c.cells
        (each_from (λ (m : NewCell). WritesOne d.netlist c.wires m.from) c.cells
        (λ m i. let f = cell_is m i in
        subst (WritesOne d.netlist c.wires) (sym (ap (λ (x : NewCell). x.from) f.is.is)) (writes_one f.s f.among (above f.s.x f.is.k) (above_low f.s.x f.is.k f.is.low))));
    to =
        each_all (λ (m : NewCell). WritesOne d.netlist c.wires m.to) c.cells
        (each_from (λ (m : NewCell). WritesOne d.netlist c.wires m.to) c.cells
        (λ m i. let f = cell_is m i in subst (WritesOne d.netlist c.wires) (sym (ap (λ (x : NewCell). x.to) f.is.is)) (writes_one f.s f.among f.is.k f.is.low)));
    pins =
        each_all (λ (m : NewCell). m.input ≢ m.output) c.cells
        (each_from (λ (m : NewCell). m.input ≢ m.output) c.cells
        (λ m i e. let f = cell_is m i in
        (repeater_pins f.s f.among f.is.k f.is.some f.is.low).differ (sym (ap (λ (x : NewCell). x.input) f.is.is) ∙ e ∙ ap (λ (x : NewCell). x.output) f.is.is)));
  }
    where
      no_cell : (name : List ℕ) → In name (map (λ (i : Instance). i.name) d.netlist.instances) → In name (map (cell_name prefix) (numbers d prefix 0 nets)) → ⊥
      no_cell name i j =
          let (n, k, e) = in_mapped (cell_name prefix) (numbers d prefix 0 nets) name j in
          old_cell prefix name n (instance_old d prefix free name i) e

  new_cell_written : (m : NewCell) → In m c.cells → IsNewCell m
  new_cell_written m i =
      let f = cell_is m i in
      let o = own verilog d prefix nets c new w f.s f.among in
      let names = repeater_names f.s f.among f.is.k f.is.some f.is.low in
      subst IsNewCell (sym f.is.is) (record {
        cell = printed_name _ names.cell;
        name = ap (λ q. is_simple (cell_name q (number_of f.s.x f.is.k))) o.prefix_is ∙ cell_simple prefix (number_of f.s.x f.is.k) w.word (number_fits f.s.x o.split f.is.k f.is.low);
        input = printed_name _ names.input;
        output = printed_name _ names.output;
        from = (stage_written f.s f.among (above f.s.x f.is.k) (above_low f.s.x f.is.k f.is.low)).net;
        to = (stage_written f.s f.among f.is.k f.is.low).net;
      })

  written : AreWritten c.rewires c.cells c.wires
  written = record {
    linked =
        each_all (λ (r : Rewire). IsNetText r.net) c.rewires
        (each_from (λ (r : Rewire). IsNetText r.net) c.rewires
        (λ r i. let f = rewire_is r i in subst IsNetText (sym f.is.net) (wire_written f.s f.among f.is.k f.is.low f.is.other).writes.net));
    made = each_all IsNewCell c.cells (each_from IsNewCell c.cells new_cell_written);
    declared =
        each_all (λ name. is_simple name ≡ true) c.wires
        (each_from (λ name. is_simple name ≡ true) c.wires
        (λ name i. (let (n, j, e) = in_mapped (net_name prefix) (numbers d prefix 0 nets) name (subst (In name) wires_named i) in
        ap is_simple e ∙ net_simple prefix n w.word (few_numbers n j))));
  }

  pub changed : IsChanged verilog d.netlist c.rewires c.cells c.wires new
  changed = record {
    denotes = w.denotes;
    rewirable = subst (λ (e : Design). AreRewirable e.netlist c.rewires) come_is.design w.change.rewirable;
    written = written;
    patched = w.patched;
  }

pub changes_are_consistent : ChangesAreConsistent
changes_are_consistent verilog d prefix nets c new w = (changed verilog d prefix nets c new w, consistent verilog d prefix nets c new w)

pub netlists_are_read_again : NetlistsAreReadAgain
netlists_are_read_again verilog d prefix nets c new w =
    netlists_are_renewed verilog d.netlist c.rewires c.cells c.wires new (changed verilog d prefix nets c new w) (consistent verilog d prefix nets c new w)
