-- Links, as resistors are put before them one by one.
use Rattle.std.proofs.Common.{◌≡◌, ◌≢◌, ◌⊎◌, ℕ, ◌+◌, ◌<◌, List, sym, ap, ◌∙◌, arith, inl, inr, length, get_or, set, subst}
use Rattle.std.proofs.lemmas.Bool.{cases_eq}
use Rattle.std.proofs.lemmas.List.{get_or-set_same, get_or-set_other}
use Rattle.std.proofs.lemmas.List.{length-set}
use Rattle.rc_tree.specs.Chains.{edge_at}
use Rattle.rc_tree.specs.Links.{IsEndOf, IsNextAt, AreLinksFrom, next_at}
use Rattle.rc_tree.specs.declared.links.Next.{Next}

-- a resistor at v is the first from its own number on
pub next_here : (edges : List (ℕ × ℕ × ℕ)) (v j : ℕ) → j < length edges → IsEndOf (edge_at edges j) v → IsNextAt edges v j j
next_here edges v j j_m at = record {
  from = omega arith;
  within = omega arith;
  here = λ _. at;
  none = λ k low below _. absurd (omega arith);
}

-- another resistor is passed over
pub next_same : (edges : List (ℕ × ℕ × ℕ)) (v j next : ℕ) → (IsEndOf (edge_at edges j) v → ⊥) → IsNextAt edges v (j + 1) next → IsNextAt edges v j next
next_same edges v j next other above = record {
  from = omega (arith, above.from);
  within = above.within;
  here = above.here;
  none = λ k low below at. elim (cases_eq k j) [
    | inl e ↦ other (subst (λ (i : ℕ). IsEndOf (edge_at edges i) v) e at)
    | inr e ↦ above.none k (omega arith) below at
  ];
}

-- the resistor j is put before
pub links_more : (edges : List (ℕ × ℕ × ℕ)) (first : List ℕ) (next : List Next) (n j after : ℕ) → after ≡ j + 1 → length first ≡ n → j < length edges → length next ≡ length edges
    → (edge_at edges j).0 < n → (edge_at edges j).1 < n
    → AreLinksFrom after n edges first next
    → AreLinksFrom j n edges (set (set first (edge_at edges j).0 j) (edge_at edges j).1 j)
    (set next j (record { at_from = get_or first (edge_at edges j).0 0; at_to = get_or first (edge_at edges j).1 0 }))
links_more edges first next n j after is count j_m room from_n to_n above = record {
  firsts = λ v v_n. firsts v (cases_eq v (edge_at edges j).1) (cases_eq v (edge_at edges j).0) v_n;
  after_from = λ k low k_m. elim (cases_eq k j) [
    | inl e ↦
        subst (λ (i : ℕ). IsNextAt edges (edge_at edges i).0 (i + 1) (next_at (set next j (record { at_from = get_or first (edge_at edges j).0 0; at_to = get_or first (edge_at edges j).1 0 })) i).at_from) (sym e)
        (subst (λ (x : Next). IsNextAt edges (edge_at edges j).0 (j + 1) x.at_from) (sym (get_or-set_same next j (record { at_from = get_or first (edge_at edges j).0 0; at_to = get_or first (edge_at edges j).1 0 }) (record { at_from = 0; at_to = 0 }) (omega arith)))
        (first_at (edge_at edges j).0 from_n))
    | inr e ↦
        subst (λ (x : Next). IsNextAt edges (edge_at edges k).0 (k + 1) x.at_from) (sym (get_or-set_other next j k (record { at_from = get_or first (edge_at edges j).0 0; at_to = get_or first (edge_at edges j).1 0 }) (record { at_from = 0; at_to = 0 }) e))
        (above.after_from k (omega arith) k_m)
  ];
  after_to = λ k low k_m. elim (cases_eq k j) [
    | inl e ↦
        subst (λ (i : ℕ). IsNextAt edges (edge_at edges i).1 (i + 1) (next_at (set next j (record { at_from = get_or first (edge_at edges j).0 0; at_to = get_or first (edge_at edges j).1 0 })) i).at_to) (sym e)
        (subst (λ (x : Next). IsNextAt edges (edge_at edges j).1 (j + 1) x.at_to) (sym (get_or-set_same next j (record { at_from = get_or first (edge_at edges j).0 0; at_to = get_or first (edge_at edges j).1 0 }) (record { at_from = 0; at_to = 0 }) (omega arith)))
        (first_at (edge_at edges j).1 to_n))
    | inr e ↦
        subst (λ (x : Next). IsNextAt edges (edge_at edges k).1 (k + 1) x.at_to) (sym (get_or-set_other next j k (record { at_from = get_or first (edge_at edges j).0 0; at_to = get_or first (edge_at edges j).1 0 }) (record { at_from = 0; at_to = 0 }) e))
        (above.after_to k (omega arith) k_m)
  ];
}
  where
    first_at : (v : ℕ) → v < n → IsNextAt edges v (j + 1) (get_or first v 0)
    first_at v v_n = subst (λ (low : ℕ). IsNextAt edges v low (get_or first v 0)) is (above.firsts v v_n)

    firsts : (v : ℕ) → (v ≡ (edge_at edges j).1) ⊎ (v ≢ (edge_at edges j).1) → (v ≡ (edge_at edges j).0) ⊎ (v ≢ (edge_at edges j).0) → v < n
        → IsNextAt edges v j (get_or (set (set first (edge_at edges j).0 j) (edge_at edges j).1 j) v 0)
    firsts v (inl e) _ v_n =
        subst (λ (x : ℕ). IsNextAt edges v j x)
        (sym (ap (λ (u : ℕ). get_or (set (set first (edge_at edges j).0 j) (edge_at edges j).1 j) u 0) e
        ∙ get_or-set_same (set first (edge_at edges j).0 j) (edge_at edges j).1 j 0 (omega (arith, length-set first (edge_at edges j).0 j))))
        (next_here edges v j j_m (inr (sym e)))
    firsts v (inr ne) (inl e) v_n =
        subst (λ (x : ℕ). IsNextAt edges v j x)
        (sym (get_or-set_other (set first (edge_at edges j).0 j) (edge_at edges j).1 v j 0 ne
        ∙ ap (λ (u : ℕ). get_or (set first (edge_at edges j).0 j) u 0) e
        ∙ get_or-set_same first (edge_at edges j).0 j 0 (omega arith)))
        (next_here edges v j j_m (inl (sym e)))
    firsts v (inr ne) (inr ne2) v_n =
        subst (λ (x : ℕ). IsNextAt edges v j x)
        (sym (get_or-set_other (set first (edge_at edges j).0 j) (edge_at edges j).1 v j 0 ne
        ∙ get_or-set_other first (edge_at edges j).0 v j 0 ne2))
        (next_same edges v j (get_or first v 0) (λ at. elim at [ inl e ↦ ne2 (sym e) | inr e ↦ ne (sym e) ]) (first_at v v_n))
