-- One pin more is seen of the ends of a net.
use Rattle.std.proofs.Common.{◌≡◌, ℕ, ◌<◌, ◌≤◌, Bool, true, false, cond, List, [], ◌∷◌, ◌++◌, length, take, get_or, refl, sym, ap, ◌∙◌, arith, inl, inr, Option, Some}
use Rattle.std.proofs.lemmas.Bool.{cases_eq}
use Rattle.std.proofs.lemmas.Int.{clamps}
use Rattle.std.proofs.lemmas.List.{get_or_default, get_or-take, length-append, length-take, take-append-le}
use Rattle.std.proofs.lemmas.List.Folds.{Any-from_list_any}
use Rattle.std.proofs.lemmas.Option.{slice_get-get_or, get_or_from_slice_get}
use Rattle.std.specs.List.{slice_get}
use Rattle.spef_nodes.proofs.ApartLemmas.{apart_if, has_at, one_number}
use Rattle.spef_nodes.proofs.NodeListLemmas.{same_is}
use Rattle.spef_nodes.proofs.NodeTableLemmas.{same_refl}
use Rattle.spef_nodes.specs.Members.{with_node, AreApart}
use Rattle.ver_net.specs.declared.pin_ref.PinRef.{PinRef}
use Rattle.vg_scan.specs.Nodes.{has_node, same_node}
use Rattle.vg_scan.specs.declared.name.NodeName.{NodeName}
use Rattle.vg_design.specs.Steps.{IsSeen, pin_at, pin_or}

longer_if : (b : Bool) (xs : List NodeName) (x : NodeName) → length xs ≤ length (cond b xs (xs ++ x ∷ []))
longer_if true xs x = omega arith
longer_if false xs x = let size = length-append xs (x ∷ []) in omega (arith, size)

take_if : (b : Bool) (xs : List NodeName) (x : NodeName) (n : ℕ) → n ≤ length xs → take n (cond b xs (xs ++ x ∷ [])) ≡ take n xs
take_if true xs x n h = refl
take_if false xs x n h = take-append-le n xs (x ∷ []) h

module _ (table : List NodeName) (n : ℕ) (name : NodeName) (apart : AreApart table) (few : n ≤ length table) where
  pub apart_more : AreApart (with_node table name)
  apart_more = apart_if (has_node table name) table name refl apart

  pub longer : length table ≤ length (with_node table name)
  longer = longer_if (has_node table name) table name

  pub ends_kept : take n (with_node table name) ≡ take n table
  ends_kept = take_if (has_node table name) table name n few

  ends_size : length (take n table) ≡ n
  ends_size = let size = length-take n table in omega (arith, clamps, size, few)

  -- an end, in the table
  pub end_there : (i : ℕ) (d : NodeName) → i < n → get_or (take n table) i d ≡ get_or (with_node table name) i d
  end_there i d h = ap (λ (xs : List NodeName). get_or xs i d) (sym ends_kept) ∙ get_or-take n (with_node table name) i d h

  in_table : (i : ℕ) (end : NodeName) → i < n → get_or (take n table) i end ≡ end → slice_get (with_node table name) i ≡ Some end
  in_table i end h is =
      let more = longer in
      slice_get-get_or (with_node table name) i end (omega (arith, h, few, more)) ∙ ap (λ (x : NodeName). Some x) (sym (end_there i end h) ∙ is)

  module _ (id : ℕ) (found : slice_get (with_node table name) id ≡ Some name) where
    -- the name is past the ends
    pub not_among : n ≤ id → (b : Bool) → has_node (take n table) name ≡ b → b ≡ false
    not_among past false e = refl
    not_among past true e =
        let (k, q, low, is, same) = Any-from_list_any (same_node name) (take n table) e in
        let size = ends_size in
        let within : k < n = omega (arith, low, size) in
        let own : get_or (take n table) k name ≡ name = get_or_default (take n table) k name q low ∙ is ∙ sym (same_is name q same) in
        let at : k ≡ id = one_number (with_node table name) k id name apart_more (in_table k name within own) found in
        absurd (omega (arith, at, within, past))

    module _ (low : id < n) where
      own_end : get_or (take n table) id name ≡ name
      own_end = end_there id name low ∙ get_or_from_slice_get (with_node table name) id name name found

      pub among : has_node (take n table) name ≡ true
      among =
          let size = ends_size in
          has_at (take n table) id name (slice_get-get_or (take n table) id name (omega (arith, low, size)) ∙ ap (λ (x : NodeName). Some x) own_end)

      -- of the ends one alone has the name
      pub other_end : (i : ℕ) (end : NodeName) → i < n → get_or (take n table) i end ≡ end → (b : Bool) → same_node end name ≡ b → (i ≡ id → ⊥) → b ≡ false
      other_end i end h is false e differs = refl
      other_end i end h is true e differs =
          let same : end ≡ name = same_is end name e in
          absurd (differs (one_number (with_node table name) i id name apart_more (in_table i end h is ∙ ap (λ (x : NodeName). Some x) same) found))

      pub this_end : (i : ℕ) (end : NodeName) → get_or (take n table) i end ≡ end → i ≡ id → same_node end name ≡ true
      this_end i end is at =
          let size = ends_size in
          let own : end ≡ name = sym is ∙ ap (λ k. get_or (take n table) k end) at ∙ get_or_default (take n table) id end name (omega (arith, low, size)) ∙ own_end in
          ap (λ (x : NodeName). same_node x name) own ∙ same_refl name

      -- the pins, where the one of this end is seen
      pub seen_pins : (old new : List (Option PinRef)) (pin : PinRef) → pin_at new id ≡ pin_or (pin_at old id) pin → ((i : ℕ) → (i ≡ id → ⊥) → pin_at new i ≡ pin_at old i)
          → (i : ℕ) (end : NodeName) → get_or (take n table) i end ≡ end → i < n
          → pin_at new i ≡ cond (same_node end name) (pin_or (pin_at old i) pin) (pin_at old i)
      seen_pins old new pin own others i end is h = elim (cases_eq i id) [
        | inl at ↦ ap (pin_at new) at ∙ own ∙ ap (λ k. pin_or (pin_at old k) pin) (sym at) ∙ ap (λ b. cond b (pin_or (pin_at old i) pin) (pin_at old i)) (sym (this_end i end is at))
        | inr differs ↦ others i differs ∙ ap (λ b. cond b (pin_or (pin_at old i) pin) (pin_at old i)) (sym (other_end i end h is (same_node end name) refl differs))
      ]

-- one pin more was seen, where its name is that of an end
pub is_seen : (table : List NodeName) (name : NodeName) (apart : AreApart table) (old new : List (Option PinRef)) (few : length old ≤ length table) (id : ℕ) (pin : PinRef)
    → slice_get (with_node table name) id ≡ Some name → id < length old → length new ≡ length old
    → pin_at new id ≡ pin_or (pin_at old id) pin → ((i : ℕ) → (i ≡ id → ⊥) → pin_at new i ≡ pin_at old i)
    → IsSeen (record { ends = take (length old) table; pins = old }) (record { ends = take (length new) (with_node table name); pins = new }) name pin
is_seen table name apart old new few id pin found low size own others = record {
  end = among table (length old) name apart few id found low;
  ends = ap (λ k. take k (with_node table name)) size ∙ ends_kept table (length old) name apart few;
  size = size;
  pins = λ i end is h.
      let count = ends_size table (length old) name apart few in
      seen_pins table (length old) name apart few id found low old new pin own others i end is (omega (arith, h, count));
}
