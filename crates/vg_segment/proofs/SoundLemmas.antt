-- A net with its resistors cut keeps what the type of a net keeps.
use Rattle.std.proofs.Common.{◌≡◌, ℕ, zero, suc, ◌+◌, ◌-◌, ◌*◌, ◌<◌, ◌≤◌, ◌^◌, true, List, [], ◌∷◌, ◌++◌, length, get_or, map, refl, sym, ap, ◌∙◌, subst, arith, inl, inr, ◌⊎◌, Some, length-append}
use Rattle.std.specs.Fmt.{decimal}
use Rattle.std.specs.List.{All, AllPass, slice_get}
use Rattle.std.specs.List.Sorted.{IsPermutation}
use Rattle.std.specs.Str.{bytes_eq}
use Rattle.std.proofs.lemmas.Bool.{cases_lt}
use Rattle.std.proofs.lemmas.Bool.Decides.{nat_tests}
use Rattle.std.proofs.lemmas.Fmt.{decimal_injective}
use Rattle.std.proofs.lemmas.List.{length-map, get_or_append_left, get_or-append_right, get_or-map}
use Rattle.std.proofs.lemmas.List.Elements.{All-append, All-map, All-weaker}
use Rattle.std.proofs.lemmas.List.Sorted.{All-permutation}
use Rattle.std.proofs.lemmas.List.Sums.{AllPass-from_list_all}
use Rattle.std.proofs.lemmas.Option.{slice_get-get_or, slice_get_within, same_Some}
use Rattle.std.proofs.lemmas.Slice.Eq.{bytes_eq-Decides}
use Rattle.vg_num.specs.Number.{is_digit}
use Rattle.vg_num.proofs.ReadingLemmas.{decimal_writes, are_some}
use Rattle.vg_scan.specs.declared.name.NodeName.{NodeName}
use Rattle.vg_scan.specs.Printed.{is_solid, IsPrintable}
use Rattle.spef_nodes.specs.Nodes.{ParNode}
use Rattle.spef_nodes.specs.Members.{is_inner}
use Rattle.spef_net.specs.declared.net.ParConn.{ParConn}
use Rattle.spef_net.specs.declared.net.ParNet.{ParNet}
use Rattle.spef_net.specs.Nets.{IsNamed, AreDistinct, IsInside, AreJoined, IsNote, IsCapOf, IsResOf, IsSound}
use Rattle.vg_segment.specs.Segments.{new_node, node_of, AreLeastFree, chains}
use Rattle.vg_segment.proofs.ChainLemmas.{chains_fit}

digit_solid : (b : ℕ) → is_digit b ≡ true → is_solid b ≡ true
digit_solid b e = grind (arith, nat_tests)

solid_leaf : (leaf : ℕ) → leaf ≤ 65536 → AllPass is_solid (decimal leaf)
solid_leaf leaf few = All-weaker (λ b. is_digit b ≡ true) (λ b. is_solid b ≡ true) digit_solid (decimal leaf) (AllPass-from_list_all is_digit (decimal leaf) (decimal_writes leaf (omega (arith, few))).all)

inside_leaf : (net : List ℕ) (leaf : ℕ) → leaf ≤ 65536 → is_inner net (node_of net leaf) ≡ true
inside_leaf net leaf few =
    let w = decimal_writes leaf (omega (arith, few)) in
    let own : bytes_eq net net ≡ true = (bytes_eq-Decides net net).1 refl in
    rw own (are_some (decimal leaf) w.some w.all)

no_note : IsNote []
no_note = record {
  one_line = λ k d l. absurd (omega (arith, l));
  begins = λ l. absurd (omega (arith, l));
  ends = λ l. absurd (omega (arith, l));
}

-- the new nodes
module _ (net : ParNet) (leaves : List ℕ) (few : All (λ leaf. leaf ≤ 65536) leaves) (free : AreLeastFree net leaves) where
  new_named : IsPrintable net.name → All IsNamed (map (new_node net.name) leaves)
  new_named h = All-map IsNamed (new_node net.name) leaves (All-weaker (λ leaf. leaf ≤ 65536) (λ leaf. IsNamed (new_node net.name leaf)) (λ leaf l. (h, solid_leaf leaf l)) leaves few)

  new_inside : All (IsInside net.name) (map (new_node net.name) leaves)
  new_inside = All-map (IsInside net.name) (new_node net.name) leaves (All-weaker (λ leaf. leaf ≤ 65536) (λ leaf. IsInside net.name (new_node net.name leaf)) (λ leaf l _. inside_leaf net.name leaf l) leaves few)

  new_notes : All (λ (node : ParNode). IsNote node.note) (map (new_node net.name) leaves)
  new_notes = All-map (λ (node : ParNode). IsNote node.note) (new_node net.name) leaves (λ k d l. no_note)

  -- two nodes: both old, an old one and a new one, or both new
  distinct : AreDistinct net.nodes → AreDistinct (net.nodes ++ map (new_node net.name) leaves)
  distinct h i j d l m e = elim (cases_lt j (length net.nodes)) as (λ _. ⊥) [
    | inl old ↦
        h i j d l old
        (ap name_of (sym (get_or_append_left net.nodes added d i (omega (arith, l, old)))) ∙ e ∙ ap name_of (get_or_append_left net.nodes added d j old))
    | inr new ↦ elim (cases_lt i (length net.nodes)) as (λ _. ⊥) [
      | inl old ↦
          (free.free (j - length net.nodes) 0 (in_leaves j new m)).1 i d old
          (ap name_of (sym (get_or_append_left net.nodes added d i old)) ∙ e ∙ new_name j new m)
      | inr both ↦
          let low : i < length (net.nodes ++ added) = omega (arith, l, m) in
          let same : get_or leaves (i - length net.nodes) 0 ≡ get_or leaves (j - length net.nodes) 0 =
          decimal_injective _ _ (few_leaf i both low) (few_leaf j new m) (ap (λ (n : NodeName). n.leaf) (sym (new_name i both low) ∙ e ∙ new_name j new m)) in
          let up = free.rise (i - length net.nodes) (j - length net.nodes) 0 (omega (arith, l, both)) (in_leaves j new m) in
          omega (arith, same, up)
    ]
  ]
    where
      added : List ParNode
      added = map (new_node net.name) leaves

      name_of : ParNode → NodeName
      name_of node = node.name

      in_leaves : (k : ℕ) → length net.nodes ≤ k → k < length (net.nodes ++ added) → k - length net.nodes < length leaves
      in_leaves k a b = omega (arith, a, b, length-append net.nodes added, length-map leaves (new_node net.name))

      new_name : (k : ℕ) → length net.nodes ≤ k → (b : k < length (net.nodes ++ added)) → (get_or (net.nodes ++ added) k d).name ≡ node_of net.name (get_or leaves (k - length net.nodes) 0)
      new_name k a b =
          ap name_of (get_or-append_right net.nodes added (length net.nodes) k d refl a ∙ get_or-map (new_node net.name) leaves (k - length net.nodes) 0 d (in_leaves k a b))

      few_leaf : (k : ℕ) → length net.nodes ≤ k → k < length (net.nodes ++ added) → get_or leaves (k - length net.nodes) 0 < 2 ^ 64
      few_leaf k a b = (let h = few (k - length net.nodes) 0 (in_leaves k a b) in omega (arith, h))

-- the connections stay where they are
got_left : {X : Type 0} (xs ys : List X) (i : ℕ) (x : X) → i < length xs → slice_get (xs ++ ys) i ≡ Some x → slice_get xs i ≡ Some x
got_left [] ys i x l e = absurd (omega (arith, l))
got_left (y ∷ xs) ys zero x l e = e
got_left (y ∷ xs) ys (suc i) x l e = got_left xs ys i x (omega (arith, l)) e

got_right : {X : Type 0} (P : X → Type 0) (xs ys : List X) (i : ℕ) (x : X) → length xs ≤ i → All P ys → slice_get (xs ++ ys) i ≡ Some x → P x
got_right P [] ys i x l h e =
    let low = slice_get_within ys i x e in
    subst P (same_Some _ _ (sym (slice_get-get_or ys i x low) ∙ e)) (h i x low)
got_right P (y ∷ xs) ys zero x l h e = absurd (omega (arith, l))
got_right P (y ∷ xs) ys (suc i) x l h e = got_right P xs ys i x (omega (arith, l)) h e

joined : (conns : List ParConn) (nodes added : List ParNode) → All (λ (node : ParNode). node.inner ≡ true) added → AreJoined conns nodes → AreJoined conns (nodes ++ added)
joined conns nodes added new h = record {
  few = omega (arith, h.few, length-append nodes added);
  numbers = h.numbers;
  ends = λ i conn node e f. h.ends i conn node e (got_left nodes added i node (let low = slice_get_within conns i conn e in omega (arith, low, h.few)) f);
  inner = λ i node l e. by_place i node l e (cases_lt i (length nodes));
}
  where
    by_place : (i : ℕ) (node : ParNode) → length conns ≤ i → slice_get (nodes ++ added) i ≡ Some node → (i < length nodes) ⊎ (length nodes ≤ i) → node.inner ≡ true
    by_place i node l e (inl old) = h.inner i node l (got_left nodes added i node old e)
    by_place i node l e (inr right) = got_right (λ (n : ParNode). n.inner ≡ true) nodes added i node right new e

pub cut_sound : (net : ParNet) (parts : ℕ) (leaves : List ℕ) (caps : List (ℕ × ℕ)) → 0 < parts → length net.nodes + length net.ress * (parts - 1) ≤ 65536 → All (λ leaf. leaf ≤ 65536) leaves → AreLeastFree net leaves
    → length leaves ≡ length net.ress * (parts - 1) → IsPermutation net.caps caps
    → IsSound net.name (net.nodes ++ map (new_node net.name) leaves) net.conns caps (chains parts (length net.nodes) net.ress)
cut_sound net parts leaves caps some size few free count same = record {
  named = s.named;
  nodes_named = All-append IsNamed net.nodes added s.nodes_named (new_named net leaves few free s.named);
  distinct = distinct net leaves few free s.distinct;
  joined = joined net.conns net.nodes added (All-map (λ (node : ParNode). node.inner ≡ true) (new_node net.name) leaves (λ k d l. refl)) s.joined;
  inside = All-append (IsInside net.name) net.nodes added s.inside (new_inside net leaves few free);
  notes = All-append (λ (node : ParNode). IsNote node.note) net.nodes added s.notes (new_notes net leaves few free);
  caps_at =
      All-permutation (IsCapOf (length all)) net.caps caps same
      (All-weaker (IsCapOf (length net.nodes)) (IsCapOf (length all)) (λ cap h. (omega (arith, h.0, more), h.1)) net.caps s.caps_at);
  ress_at =
      chains_fit parts (length net.nodes) (length all) net.ress some (omega (arith, more))
      (All-weaker (IsResOf (length net.nodes)) (IsResOf (length all)) (λ res h. (omega (arith, h.0, more), omega (arith, h.1, more), h.2)) net.ress s.ress_at);
}
  where
    added : List ParNode
    added = map (new_node net.name) leaves

    all : List ParNode
    all = net.nodes ++ added

    s : IsSound net.name net.nodes net.conns net.caps net.ress
    s = net.sound

    more : length all ≡ length net.nodes + length net.ress * (parts - 1)
    more = length-append net.nodes added ∙ ap (λ n. length net.nodes + n) (length-map leaves (new_node net.name) ∙ count)
