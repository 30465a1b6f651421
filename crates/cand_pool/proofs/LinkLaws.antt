-- Two whole chains share no slot; one is cut after its first slot, or put after the end of another one.
use Rattle.std.proofs.Common.{◌≡◌, ◌≢◌, ℕ, zero, suc, ◌<◌, ◌≤◌, List, [], ◌∷◌, refl, sym, ap, ◌∙◌, subst, arith, inl, inr}
use Rattle.cand_pool.specs.Links.{none, IsChain, IsIn, last_of, AreLinks, IsWhole}

hop : (ℕ → ℕ) → ℕ → ℕ → ℕ
hop next first zero = first
hop next first (suc i) = next (hop next first i)

hop_next : (next : ℕ → ℕ) (first i : ℕ) → hop next (next first) i ≡ next (hop next first i)
unfolding hop
hop_next next first zero = refl
hop_next next first (suc i) = ap next (hop_next next first i)

-- a slot of a chain is some hops from its first
in_hops : (next : ℕ → ℕ) (n first : ℕ) (slots : List ℕ) (x : ℕ) → IsChain next n first slots → IsIn x slots → (i : ℕ) × (hop next first i ≡ x) × (x < n)
unfolding hop
in_hops next n first [] x chain is_in = absurd is_in
in_hops next n first (slot ∷ slots) x chain (inl e) = (0, chain.0 ∙ sym e, subst (λ (y : ℕ). y < n) (sym e) chain.1)
in_hops next n first (slot ∷ slots) x chain (inr more) =
    let (i, there, low) = in_hops next n (next slot) slots x chain.2 more in
    (suc i, ap (λ (y : ℕ). next (hop next y i)) chain.0 ∙ sym (hop_next next slot i) ∙ there, low)

meet : (next : ℕ → ℕ) (n a b : ℕ) → AreLinks next n → (a ≢ none → (i : ℕ) → next i ≢ a) → (b ≢ none → (i : ℕ) → next i ≢ b) → a ≢ b
    → (i j : ℕ) → hop next a i ≡ hop next b j → hop next a i ≢ none → ⊥
unfolding hop
meet next n a b block top_a top_b differ zero zero e some = differ e
meet next n a b block top_a top_b differ zero (suc j) e some = top_a some (hop next b j) (sym e)
meet next n a b block top_a top_b differ (suc i) zero e some = top_b (λ z. some (e ∙ z)) (hop next a i) e
meet next n a b block top_a top_b differ (suc i) (suc j) e some =
    meet next n a b block top_a top_b differ i j (block.single (hop next a i) (hop next b j) e some)
    (λ z. some (ap next z ∙ block.outside none block.few))

-- whole chains with different firsts share no slot
pub apart : (next : ℕ → ℕ) (n a b : ℕ) (xs ys : List ℕ) (x : ℕ) → AreLinks next n → IsWhole next n a xs → IsWhole next n b ys → a ≢ b → IsIn x xs → IsIn x ys → ⊥
apart next n a b xs ys x block one two differ in_one in_two =
    let (i, at_i, low) = in_hops next n a xs x one.chain in_one in
    let (j, at_j, _) = in_hops next n b ys x two.chain in_two in
    let few : n ≤ none = block.few in
    meet next n a b block one.top two.top differ i j (at_i ∙ sym at_j)
    (λ z. let e : x ≡ none = sym at_i ∙ z in absurd (omega arith))

-- a chain none of whose slots got another link
pub chain_stays : (next next' : ℕ → ℕ) (n first : ℕ) (slots : List ℕ) → ((x : ℕ) → IsIn x slots → next' x ≡ next x) → IsChain next n first slots → IsChain next' n first slots
chain_stays next next' n first [] same chain = chain
chain_stays next next' n first (slot ∷ slots) same chain =
    (chain.0, chain.1, chain_stays next next' n (next' slot) slots (λ x m. same x (inr m)) (subst (λ (y : ℕ). IsChain next n y slots) (sym (same slot (inl refl))) chain.2))

-- the chain after a slot has only slots to which some slot links
linked_to : (next : ℕ → ℕ) (n p : ℕ) (slots : List ℕ) (x : ℕ) → IsChain next n (next p) slots → IsIn x slots → (i : ℕ) × (next i ≡ x)
linked_to next n p [] x chain is_in = absurd is_in
linked_to next n p (slot ∷ slots) x chain (inl e) = (p, chain.0 ∙ sym e)
linked_to next n p (slot ∷ slots) x chain (inr more) = linked_to next n slot slots x chain.2 more

-- the first slot of a whole chain does not come again
pub first_once : (next : ℕ → ℕ) (n x : ℕ) (slots : List ℕ) → AreLinks next n → IsWhole next n x (x ∷ slots) → IsIn x slots → ⊥
first_once next n x slots block whole again =
    let (i, e) = linked_to next n x slots x whole.chain.2 again in
    let few : n ≤ none = block.few in
    let low : x < n = whole.chain.1 in
    whole.top (λ (z : x ≡ none). absurd (omega arith)) i e

-- the last slot links to none
pub last_links : (next : ℕ → ℕ) (n first : ℕ) (slot : ℕ) (slots : List ℕ) → IsChain next n first (slot ∷ slots) → next (last_of slot slots) ≡ none
last_links next n first slot [] chain = chain.2
last_links next n first slot (more ∷ slots) chain = last_links next n (next slot) more slots chain.2

pub last_in : (slot : ℕ) (slots : List ℕ) → IsIn (last_of slot slots) (slot ∷ slots)
last_in slot [] = inl refl
last_in slot (more ∷ slots) = inr (last_in more slots)

pub last_low : (next : ℕ → ℕ) (n first slot : ℕ) (slots : List ℕ) → IsChain next n first (slot ∷ slots) → last_of slot slots < n
last_low next n first slot [] chain = chain.1
last_low next n first slot (more ∷ slots) chain = last_low next n (next slot) more slots chain.2
