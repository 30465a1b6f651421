-- The two moves of links: a first slot is cut off, and a chain is put after the end of another one.
use Rattle.std.proofs.Common.{◌≡◌, ◌≢◌, ℕ, ◌<◌, ◌≤◌, ◌⊎◌, List, [], ◌∷◌, ◌++◌, refl, sym, ap, ◌∙◌, subst, arith, inl, inr}
use Rattle.std.proofs.lemmas.Bool.Decides.{eqb_tells}
use Rattle.cand_pool.specs.Links.{none, IsChain, IsIn, last_of, AreLinks, IsWhole, IsRelinked, Keeps}
use Rattle.cand_pool.proofs.LinkLaws.{apart, chain_stays, first_once, last_links, last_in, last_low}

pub is_same : (a b : ℕ) → (a ≡ b) ⊎ (a ≢ b)
is_same a b = elim (eqb_tells a b) [ inl same ↦ inl same.1 | inr differ ↦ inr differ.1 ]

pub record IsCut (next : ℕ → ℕ) (n x : ℕ) (slots : List ℕ) (next' : ℕ → ℕ) : Type 0 where
  pub block : AreLinks next' n
  pub one : IsWhole next' n x (x ∷ [])
  pub rest : IsWhole next' n (next x) slots
  pub others : Keeps next n (x ∷ []) next' n (x ∷ next x ∷ [])

pub cut : (next next' : ℕ → ℕ) (n x : ℕ) (slots : List ℕ) → AreLinks next n → IsWhole next n x (x ∷ slots) → IsRelinked next x none next' → IsCut next n x slots next'
cut next next' n x slots block whole relinked =
    let few : n ≤ none = block.few in
    let low : x < n = whole.chain.1 in
    let some : x ≢ none = λ (z : x ≡ none). absurd (omega arith) in
    let came : (i : ℕ) → (next' i ≡ none) ⊎ ((i ≢ x) × (next' i ≡ next i)) = λ (i : ℕ). elim (is_same i x) [ inl e ↦ inl (ap next' e ∙ relinked.here) | inr d ↦ inr (d, relinked.others i d) ] in
    record {
      block = record {
        few = few;
        single = λ i j e s. elim (came i) [
          | inl z ↦ absurd (s z)
          | inr a ↦ elim (came j) [
            | inl z ↦ absurd (s (e ∙ z))
            | inr b ↦ block.single i j (sym a.1 ∙ e ∙ b.1) (λ z. s (a.1 ∙ z))
          ]
        ];
        inside = λ i s. elim (came i) [ inl z ↦ absurd (s z) | inr a ↦ subst (λ (k : ℕ). k < n) (sym a.1) (block.inside i (λ z. s (a.1 ∙ z))) ];
        outside = λ i out. elim (came i) [ inl z ↦ z | inr a ↦ a.1 ∙ block.outside i out ];
      };
      one = record {
        chain = (refl, low, relinked.here);
        top = λ s i e. elim (came i) [ inl z ↦ s (sym e ∙ z) | inr a ↦ whole.top s i (sym a.1 ∙ e) ];
      };
      rest = record {
        chain = chain_stays next next' n (next x) slots (λ y y_in. relinked.others y (λ e. first_once next n x slots block whole (subst (λ (k : ℕ). IsIn k slots) e y_in))) whole.chain.2;
        top = λ s i e. elim (came i) [ inl z ↦ s (sym e ∙ z) | inr a ↦ a.0 (block.single i x (sym a.1 ∙ e) (λ z. s (sym e ∙ a.1 ∙ z))) ];
      };
      others = record {
        stays = λ k zs other s out. record {
          chain = chain_stays next next' n k zs (λ y y_in. relinked.others y (λ e. apart next n k x zs (x ∷ slots) y block other whole (λ d. out (inl d)) y_in (inl e))) other.chain;
          top = λ _ i e. elim (came i) [ inl z ↦ s (sym e ∙ z) | inr a ↦ other.top s i (sym a.1 ∙ e) ];
        };
        fresh = λ k zs other s out is_new. elim is_new [
          | inl e ↦ out (inl e)
          | inr (inl e) ↦ other.top s x (sym e)
          | inr (inr z) ↦ z
        ];
      };
    }

-- the chain whose last slot got the link to another chain
chain_joined : (next next' : ℕ → ℕ) (n first slot : ℕ) (slots : List ℕ) (b : ℕ) (ys : List ℕ) → IsChain next n first (slot ∷ slots) → next (last_of slot slots) ≡ none → n ≤ none
    → IsRelinked next (last_of slot slots) b next' → IsChain next' n b ys → IsChain next' n first ((slot ∷ slots) ++ ys)
chain_joined next next' n first slot [] b ys chain ends few relinked more =
    (chain.0, chain.1, subst (λ (y : ℕ). IsChain next' n y ys) (sym relinked.here) more)
chain_joined next next' n first slot (after ∷ slots) b ys chain ends few relinked more =
    let low : after < n = chain.2.1 in
    let differ : slot ≢ last_of after slots = λ (e : slot ≡ last_of after slots).
    let z : after ≡ none = sym chain.2.0 ∙ ap next e ∙ ends in absurd (omega arith) in
    (chain.0, chain.1, subst (λ (y : ℕ). IsChain next' n y ((after ∷ slots) ++ ys)) (sym (relinked.others slot differ)) (chain_joined next next' n (next slot) after slots b ys chain.2 ends few relinked more))

pub record IsJoined (next : ℕ → ℕ) (n a : ℕ) (xs : List ℕ) (b : ℕ) (ys : List ℕ) (next' : ℕ → ℕ) : Type 0 where
  pub block : AreLinks next' n
  pub whole : IsWhole next' n a (xs ++ ys)
  pub others : Keeps next n (a ∷ b ∷ []) next' n (a ∷ [])

pub join : (next next' : ℕ → ℕ) (n a slot : ℕ) (slots : List ℕ) (b y : ℕ) (ys : List ℕ) → AreLinks next n → IsWhole next n a (slot ∷ slots) → IsWhole next n b (y ∷ ys) → a ≢ b
    → IsRelinked next (last_of slot slots) b next' → IsJoined next n a (slot ∷ slots) b (y ∷ ys) next'
join next next' n a slot slots b y ys block one two differ relinked =
    let few : n ≤ none = block.few in
    let last : ℕ = last_of slot slots in
    let ends : next (last_of slot slots) ≡ none = last_links next n a slot slots one.chain in
    let low_b : b < n = subst (λ (k : ℕ). k < n) (sym two.chain.0) two.chain.1 in
    let low_a : a < n = subst (λ (k : ℕ). k < n) (sym one.chain.0) one.chain.1 in
    let some_b : b ≢ none = λ (z : b ≡ none). absurd (omega arith) in
    let some_a : a ≢ none = λ (z : a ≡ none). absurd (omega arith) in
    let came : (i : ℕ) → ((i ≡ last_of slot slots) × (next' i ≡ b)) ⊎ (next' i ≡ next i) = λ (i : ℕ). elim (is_same i (last_of slot slots)) [ inl e ↦ inl (e, ap next' e ∙ relinked.here) | inr d ↦ inr (relinked.others i d) ] in
    let is_in : IsIn (last_of slot slots) (slot ∷ slots) = last_in slot slots in
    record {
      block = record {
        few = few;
        single = λ i j e s. elim (came i) [
          | inl p ↦ elim (came j) [
            | inl q ↦ p.0 ∙ sym q.0
            | inr q ↦ absurd (two.top some_b j (sym q ∙ sym e ∙ p.1))
          ]
          | inr p ↦ elim (came j) [
            | inl q ↦ absurd (two.top some_b i (sym p ∙ e ∙ q.1))
            | inr q ↦ block.single i j (sym p ∙ e ∙ q) (λ z. s (p ∙ z))
          ]
        ];
        inside = λ i s. elim (came i) [ inl p ↦ subst (λ (k : ℕ). k < n) (sym p.1) low_b | inr p ↦ subst (λ (k : ℕ). k < n) (sym p) (block.inside i (λ z. s (p ∙ z))) ];
        outside = λ i out. elim (came i) [
          | inl p ↦ let low : last_of slot slots < n = last_low next n a slot slots one.chain in absurd (omega (arith, p.0))
          | inr p ↦ p ∙ block.outside i out
        ];
      };
      whole = record {
        chain = chain_joined next next' n a slot slots b (y ∷ ys) one.chain ends few relinked
            (chain_stays next next' n b (y ∷ ys) (λ z z_in. relinked.others z (λ e. apart next n a b (slot ∷ slots) (y ∷ ys) z block one two differ (subst (λ (k : ℕ). IsIn k (slot ∷ slots)) (sym e) is_in) z_in)) two.chain);
        top = λ s i e. elim (came i) [ inl p ↦ differ (sym e ∙ p.1) | inr p ↦ one.top s i (sym p ∙ e) ];
      };
      others = record {
        stays = λ k zs other s out. record {
          chain = chain_stays next next' n k zs (λ z z_in. relinked.others z (λ e. apart next n k a zs (slot ∷ slots) z block other one (λ d. out (inl d)) z_in (subst (λ (k : ℕ). IsIn k (slot ∷ slots)) (sym e) is_in))) other.chain;
          top = λ _ i e. elim (came i) [ inl p ↦ out (inr (inl (sym e ∙ p.1))) | inr p ↦ other.top s i (sym p ∙ e) ];
        };
        fresh = λ k zs other s out is_new. elim is_new [ inl e ↦ out (inl e) | inr z ↦ z ];
      };
    }
