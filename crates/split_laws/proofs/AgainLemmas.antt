-- What is read again of a net has its nodes by other numbers.
use Rattle.std.proofs.Common.{◌≡◌, ◌≢◌, ℕ, ◌+◌, ◌<◌, ◌==◌, ◌||◌, Bool, true, false, not, cond, List, [], ◌∷◌, length, get_or, map, filter, refl, sym, ap, ◌∙◌, arith, inl, inr, Option, Some}
use Rattle.std.specs.List.{list_any, slice_get, sum_by, All}
use Rattle.std.proofs.lemmas.Bool.{cases_eq, eq-eqb, ne_eqb}
use Rattle.std.proofs.lemmas.List.{ext_get_or, get_or-map, get_or_default, length-map}
use Rattle.std.proofs.lemmas.List.Elements.{All-head, All-tail, All-weaker}
use Rattle.std.proofs.lemmas.List.Sums.{sum_by-cons}
use Rattle.elmore.proofs.SumLemmas.{sum_of_filter, sum_of_none, sum_of_same}
use Rattle.rc_tree.specs.Chains.{edge_at}
use Rattle.rc_tree.specs.Nets.{capacitance_at}
use Rattle.spef_net.specs.declared.net.ConnKind.{ConnKind}
use Rattle.spef_net.specs.declared.net.Direction.{Direction}
use Rattle.spef_net.specs.declared.net.ParNet.{ParNet}
use Rattle.spef_net.specs.Denoted.{cap_at, conn_at, res_at}
use Rattle.spef_net.specs.Nets.{IsCapOf}
use Rattle.spef_nodes.specs.Nodes.{ParNode}
use Rattle.vg_design.specs.Designs.{NO_NODE, name_of}
use Rattle.vg_scan.specs.declared.name.NodeName.{NodeName}
use Rattle.vg_split.specs.Splits.{NO_CONN}
use Rattle.spef_write.specs.Sections.{cap_nodes, charged, each_once, is_charged, sums, total_at}
use Rattle.spef_write.specs.SectionLaws.{IsWrittenAgain, is_named, names_of}
use Rattle.spef_write.proofs.ChargeLemmas.{IsRowOf, rows_are}
use Rattle.spef_write.proofs.ClearLemmas.{conn_number, one_node}
use Rattle.spef_write.proofs.OnceLemmas.{names, total_none}
use Rattle.split_laws.specs.ReadNets.{IsSameByNames, ReadNetsAreTheSame, number_in}
use Rattle.split_laws.proofs.ListLemmas.{no_fewer}
use Rattle.split_laws.proofs.NameLemmas.{IsNumberOf, name_at, number_is}

-- ---- capacitors

abbrev value_at : ℕ → ℕ × ℕ → ℕ
value_at k cap = cond (cap.0 == k) cap.1 0

pub sum_total : (caps : List (ℕ × ℕ)) (k : ℕ) → total_at caps k ≡ capacitance_at caps k
sum_total caps k = sum_of_filter (λ (cap : ℕ × ℕ). cap.1) (λ cap. cap.0 == k) caps

sum_map : {X Y : Type 0} (f : Y → ℕ) (g : X → Y) (xs : List X) → sum_by f (map g xs) ≡ sum_by (λ x. f (g x)) xs
sum_map f g [] = refl
sum_map f g (x ∷ xs) = sum_by-cons f (g x) (map g xs) ∙ ap (λ n. f (g x) + n) (sum_map f g xs) ∙ sym (sum_by-cons (λ y. f (g y)) x xs)

-- at a number, of numbers each once
sum_once : (f : ℕ → ℕ) (k : ℕ) (ks : List ℕ) → sum_by (λ j. cond (j == k) (f j) 0) (each_once ks) ≡ cond (list_any (λ j. j == k) ks) (f k) 0
sum_once f k [] = refl
sum_once f k (j ∷ ks) =
    let at : ℕ → ℕ = λ i. cond (i == k) (f i) 0 in
    let others = each_once ks in
    sum_by-cons at j (filter (λ i. not (j == i)) others)
    ∙ ap (λ n. at j + n) (sum_of_filter at (λ i. not (j == i)) others)
    ∙ elim (cases_eq j k) as (λ _. at j + sum_by (λ i. cond (not (j == i)) (at i) 0) others ≡ cond ((j == k) || list_any (λ i. i == k) ks) (f k) 0) [
      | inl same ↦
          omega (
            arith,
            ap (λ b. cond b (f j) 0) (eq-eqb j k same),
            ap f same,
            sum_of_same (λ i. cond (not (j == i)) (at i) 0) (λ i. 0) others (none same),
            sum_of_none others,
            ap (λ b. cond (b || list_any (λ i. i == k) ks) (f k) 0) (eq-eqb j k same),
          )
      | inr other ↦
          omega (
            arith,
            ap (λ b. cond b (f j) 0) (ne_eqb j k other),
            sum_of_same (λ i. cond (not (j == i)) (at i) 0) at others (all other),
            sum_once f k ks,
            ap (λ b. cond (b || list_any (λ i. i == k) ks) (f k) 0) (ne_eqb j k other),
          )
    ]
  where
    none : j ≡ k → (i : ℕ) → cond (not (j == i)) (cond (i == k) (f i) 0) 0 ≡ 0
    none same i = elim (cases_eq j i) [
      | inl here ↦ ap (λ b. cond (not b) (cond (i == k) (f i) 0) 0) (eq-eqb j i here)
      | inr apart ↦
          ap (λ b. cond (not b) (cond (i == k) (f i) 0) 0) (ne_eqb j i apart)
          ∙ ap (λ b. cond b (f i) 0) (ne_eqb i k (λ e. apart (same ∙ sym e)))
    ]

    all : j ≢ k → (i : ℕ) → cond (not (j == i)) (cond (i == k) (f i) 0) 0 ≡ cond (i == k) (f i) 0
    all other i = elim (cases_eq j i) [
      | inl here ↦
          ap (λ b. cond (not b) (cond (i == k) (f i) 0) 0) (eq-eqb j i here)
          ∙ sym (ap (λ b. cond b (f i) 0) (ne_eqb i k (λ e. other (here ∙ e))))
      | inr apart ↦ ap (λ b. cond (not b) (cond (i == k) (f i) 0) 0) (ne_eqb j i apart)
    ]

-- the nodes with a capacitance have what there is at them
charged_total : (net : ParNet) (k : ℕ) → capacitance_at (charged net) k ≡ capacitance_at net.caps k
charged_total net k =
    sum_of_filter (value_at k) is_charged (sums net.caps)
    ∙ sum_of_same (λ (row : ℕ × ℕ). cond (is_charged row) (value_at k row) 0) (value_at k) (sums net.caps) none
    ∙ sum_map (value_at k) (λ j. (j, total_at net.caps j)) (cap_nodes net.caps)
    ∙ sum_once (total_at net.caps) k (map (λ (cap : ℕ × ℕ). cap.0) net.caps)
    ∙ there (names k net.caps) refl
    ∙ sum_total net.caps k
  where
    there : (b : Bool) → names k net.caps ≡ b → cond b (total_at net.caps k) 0 ≡ total_at net.caps k
    there true e = refl
    there false e = sym (total_none net.caps k e)

    none : (row : ℕ × ℕ) → cond (is_charged row) (value_at k row) 0 ≡ value_at k row
    none row = elim (cases_eq row.1 0) [
      | inl zero ↦ ap (λ b. cond (not b) (value_at k row) 0) (eq-eqb row.1 0 zero) ∙ at (row.0 == k) zero
      | inr some ↦ ap (λ b. cond (not b) (value_at k row) 0) (ne_eqb row.1 0 some)
    ]
      where
        at : (b : Bool) → row.1 ≡ 0 → 0 ≡ cond b row.1 0
        at true zero = sym zero
        at false zero = refl

-- ---- the nets

module _ (net read : ParNet) (named : (k : ℕ) → k < length net.nodes → is_named net k ≡ true) (again : IsWrittenAgain net read) where
  abbrev to : ℕ → ℕ
  to = number_in read net

  abbrev back : ℕ → ℕ
  back = number_in net read

  to_is : (k : ℕ) → k < length net.nodes → IsNumberOf read (name_of net k)
  to_is k low =
      let (i, i_low, is) = again.kept k low (named k low) in
      number_is read (name_of net k) i i_low (ap (λ (node : ParNode). node.name) (get_or_default read.nodes i NO_NODE (get_or net.nodes k NO_NODE) i_low ∙ is))

  back_is : (j : ℕ) → j < length read.nodes → IsNumberOf net (name_of read j)
  back_is j low =
      let (i, i_low, is) = again.nodes j NO_NODE low in
      number_is net (name_of read j) i i_low (ap (λ (node : ParNode). node.name) (get_or_default net.nodes i NO_NODE (get_or read.nodes j NO_NODE) i_low ∙ is))

  back_to : (k : ℕ) → k < length net.nodes → back (to k) ≡ k
  back_to k low =
      let there = to_is k low in
      let here = back_is (to k) there.low in
      one_node net (back (to k)) k here.low low (here.is ∙ there.is)

  to_back : (j : ℕ) → j < length read.nodes → to (back j) ≡ j
  to_back j low =
      let there = back_is j low in
      let here = to_is (back j) there.low in
      one_node read (to (back j)) j here.low low (here.is ∙ there.is)

  pub as_many : length read.nodes ≡ length net.nodes
  as_many =
      let few = no_fewer (length read.nodes) (length net.nodes) back (λ j low. (back_is j low).low) back_apart in
      let many = no_fewer (length net.nodes) (length read.nodes) to (λ k low. (to_is k low).low) to_apart in
      omega (arith, few, many)
    where
      to_apart : (i k : ℕ) → i < k → k < length net.nodes → to i ≢ to k
      to_apart i k less low e = omega (arith, less, back_to i (omega (arith, less, low)), back_to k low, ap back e)

      back_apart : (i j : ℕ) → i < j → j < length read.nodes → back i ≢ back j
      back_apart i j less low e = omega (arith, less, to_back i (omega (arith, less, low)), to_back j low, ap to e)

  -- nodes of one name
  moved : (i k : ℕ) → i < length read.nodes → k < length net.nodes → slice_get (names_of read.nodes) i ≡ slice_get (names_of net.nodes) k → i ≡ to k
  moved i k i_low k_low e =
      let same : Some (name_of read i) ≡ Some (name_of net k) = sym (name_at read i i_low) ∙ e ∙ name_at net k k_low in
      let names : name_of read i ≡ name_of net k = cc in
      one_node read i (to k) i_low (to_is k k_low).low (names ∙ sym (to_is k k_low).is)

  -- ---- connections

  conn_count : length read.conns ≡ length net.conns
  conn_count =
      sym (length-map read.conns (conn_at (names_of read.nodes))) ∙ ap (λ l. length l) again.conns ∙ length-map net.conns (conn_at (names_of net.nodes))

  conn_same : (i : ℕ) → i < length net.conns
      → conn_at (names_of read.nodes) (get_or read.conns i NO_CONN) ≡ conn_at (names_of net.nodes) (get_or net.conns i NO_CONN)
  conn_same i low =
      let none : ConnKind × Option NodeName × Direction = conn_at (names_of net.nodes) NO_CONN in
      sym (get_or-map (conn_at (names_of read.nodes)) read.conns i NO_CONN none (omega (arith, low, conn_count)))
      ∙ ap (λ l. get_or l i none) again.conns
      ∙ get_or-map (conn_at (names_of net.nodes)) net.conns i NO_CONN none low

  conns_same : read.conns ≡ net.conns
  conns_same = ext_get_or NO_CONN read.conns net.conns conn_count each
    where
      each : (i : ℕ) → i < length read.conns → get_or read.conns i NO_CONN ≡ get_or net.conns i NO_CONN
      each i low =
          let i_low : i < length net.conns = omega (arith, low, conn_count) in
          let e = conn_same i i_low in
          let kind : (get_or read.conns i NO_CONN).kind ≡ (get_or net.conns i NO_CONN).kind = ap (λ (c : ConnKind × Option NodeName × Direction). c.0) e in
          let way : (get_or read.conns i NO_CONN).direction ≡ (get_or net.conns i NO_CONN).direction
          = ap (λ (c : ConnKind × Option NodeName × Direction). c.2) e in
          let at : (get_or read.conns i NO_CONN).node ≡ (get_or net.conns i NO_CONN).node
          = conn_number read i NO_CONN low ∙ sym (conn_number net i NO_CONN i_low) in
          λ t. record { kind = kind t; node = at t; direction = way t }

  -- a connection keeps its number
  end_same : (i : ℕ) → i < length net.conns → to i ≡ i
  end_same i low =
      let r_low : i < length read.conns = omega (arith, low, conn_count) in
      let e : slice_get (names_of read.nodes) (get_or read.conns i NO_CONN).node ≡ slice_get (names_of net.nodes) (get_or net.conns i NO_CONN).node
      = ap (λ (c : ConnKind × Option NodeName × Direction). c.1) (conn_same i low) in
      sym (moved i i (omega (arith, r_low, read.sound.joined.few)) (omega (arith, low, net.sound.joined.few))
      (ap (slice_get (names_of read.nodes)) (sym (conn_number read i NO_CONN r_low)) ∙ e ∙ ap (slice_get (names_of net.nodes)) (conn_number net i NO_CONN low)))

  back_end : (i : ℕ) → i < length net.conns → back i ≡ i
  back_end i low = ap back (sym (end_same i low)) ∙ back_to i (omega (arith, low, net.sound.joined.few))

  -- ---- capacitors

  value_same : (cap other : ℕ × ℕ) (k : ℕ) → cap.0 < length read.nodes → other.0 < length net.nodes → k < length net.nodes
      → cap_at (names_of read.nodes) cap ≡ cap_at (names_of net.nodes) other → value_at (to k) cap ≡ value_at k other
  value_same cap other k low o_low k_low e =
      let at : cap.0 ≡ to other.0 = moved cap.0 other.0 low o_low (ap (λ (c : Option NodeName × ℕ). c.0) e) in
      let value : cap.1 ≡ other.1 = ap (λ (c : Option NodeName × ℕ). c.1) e in
      ap (λ v. cond (cap.0 == to k) v 0) value ∙ ap (λ b. cond b other.1 0) (elim (cases_eq other.0 k) as (λ _. (cap.0 == to k) ≡ (other.0 == k)) [
        | inl same ↦ eq-eqb cap.0 (to k) (at ∙ ap to same) ∙ sym (eq-eqb other.0 k same)
        | inr differ ↦
            ne_eqb cap.0 (to k) (λ clash. differ (sym (back_to other.0 o_low) ∙ ap back (sym at ∙ clash) ∙ back_to k k_low))
            ∙ sym (ne_eqb other.0 k differ)
      ])

  -- a capacitor at a node of read, and one at a node of the net
  abbrev IsHere : ℕ × ℕ → Type 0
  IsHere cap = cap.0 < length read.nodes

  abbrev IsThere : ℕ × ℕ → Type 0
  IsThere cap = cap.0 < length net.nodes

  caps_same : (k : ℕ) → k < length net.nodes → (caps others : List (ℕ × ℕ)) → All IsHere caps → All IsThere others
      → map (cap_at (names_of read.nodes)) caps ≡ map (cap_at (names_of net.nodes)) others → capacitance_at caps (to k) ≡ capacitance_at others k
  caps_same k low [] [] a b e = refl
  caps_same k low [] (o ∷ os) a b e = absurd (cc)
  caps_same k low (c ∷ cs) [] a b e = absurd (cc)
  caps_same k low (c ∷ cs) (o ∷ os) a b e =
      let first : cap_at (names_of read.nodes) c ≡ cap_at (names_of net.nodes) o = cc in
      let rest : map (cap_at (names_of read.nodes)) cs ≡ map (cap_at (names_of net.nodes)) os = cc in
      sum_by-cons (value_at (to k)) c cs
      ∙ ap (λ n. n + capacitance_at cs (to k))
      (value_same c o k (All-head IsHere c cs a) (All-head IsThere o os b) low first)
      ∙ ap (λ n. value_at k o + n)
      (caps_same k low cs os (All-tail IsHere c cs a) (All-tail IsThere o os b) rest)
      ∙ sym (sum_by-cons (value_at k) o os)

  sums_same : (k : ℕ) → k < length net.nodes → capacitance_at read.caps (to k) ≡ capacitance_at net.caps k
  sums_same k low =
      caps_same k low read.caps (charged net)
      (All-weaker (IsCapOf (length read.nodes)) IsHere (λ cap is. is.0) read.caps read.sound.caps_at)
      (All-weaker (IsRowOf net.caps (length net.nodes)) IsThere (λ cap is. is.within) (charged net) (rows_are net))
      again.caps
      ∙ charged_total net k

  -- ---- resistors

  res_count : length read.ress ≡ length net.ress
  res_count = sym (length-map read.ress (res_at (names_of read.nodes))) ∙ ap (λ l. length l) again.ress ∙ length-map net.ress (res_at (names_of net.nodes))

  res_same : (j : ℕ) → j < length net.ress → edge_at read.ress j ≡ (to (edge_at net.ress j).0, to (edge_at net.ress j).1, (edge_at net.ress j).2)
  res_same j low =
      let none : Option NodeName × Option NodeName × ℕ = res_at (names_of net.nodes) (0, 0, 0) in
      let r_low : j < length read.ress = omega (arith, low, res_count) in
      let e : res_at (names_of read.nodes) (edge_at read.ress j) ≡ res_at (names_of net.nodes) (edge_at net.ress j)
      = sym (get_or-map (res_at (names_of read.nodes)) read.ress j (0, 0, 0) none r_low)
      ∙ ap (λ l. get_or l j none) again.ress
      ∙ get_or-map (res_at (names_of net.nodes)) net.ress j (0, 0, 0) none low in
      let r = read.sound.ress_at j (0, 0, 0) r_low in
      let s = net.sound.ress_at j (0, 0, 0) low in
      let from : (edge_at read.ress j).0 ≡ to (edge_at net.ress j).0
      = moved (edge_at read.ress j).0 (edge_at net.ress j).0 r.0 s.0 (ap (λ (t : Option NodeName × Option NodeName × ℕ). t.0) e) in
      let on : (edge_at read.ress j).1 ≡ to (edge_at net.ress j).1
      = moved (edge_at read.ress j).1 (edge_at net.ress j).1 r.1 s.1 (ap (λ (t : Option NodeName × Option NodeName × ℕ). t.1) e) in
      let value : (edge_at read.ress j).2 ≡ (edge_at net.ress j).2 = ap (λ (t : Option NodeName × Option NodeName × ℕ). t.2) e in
      λ i. (from i, on i, value i)

  pub same_by_names : IsSameByNames net read
  same_by_names = record {
    conns = conns_same;
    names = λ j low. (back_is j low).is;
    ends = back_end;
    renumbered = λ root low. record {
      nodes = as_many;
      root = sym (end_same root low);
      within = λ k k_low. omega (arith, (to_is k k_low).low, as_many);
      within_back = λ k k_low. (back_is k (omega (arith, k_low, as_many))).low;
      there = λ k k_low. to_back k (omega (arith, k_low, as_many));
      again = λ k k_low. back_to k k_low;
      sums = sums_same;
      count = res_count;
      resistors = res_same;
    };
  }

pub read_nets_are_the_same : ReadNetsAreTheSame
read_nets_are_the_same net read named again = same_by_names net read named again
