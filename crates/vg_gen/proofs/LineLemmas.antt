-- Lists of lines that grow.
use Rattle.std.proofs.Common.{◌≡◌, ℕ, ◌+◌, List, [], ◌∷◌, ◌++◌, map, filter, sym, ap, ◌∙◌, arith}
use Rattle.std.proofs.lemmas.List.{append-nil, append_assoc, flat_map_more, map-append, map-id}
use Rattle.std.proofs.lemmas.List.Concat.{flat_map-append}
use Rattle.std.proofs.lemmas.List.Elements.{filter-append}
use Rattle.std.proofs.lemmas.List.FromFn.{map-range_with_len_more}
use Rattle.vg_gen.specs.Nets.{up_to}
use Rattle.vg_gen.specs.Lines.{ended, lined, want_line}
use Rattle.vg_gen.specs.Texts.{is_odd, wants}

-- one line more
pub lines_more : (line : ℕ → List ℕ) (start : List ℕ) (k : ℕ)
    → (start ++ lined (map line (up_to k))) ++ ended (line (k + 1)) ≡ start ++ lined (map line (up_to (k + 1)))
lines_more line start k =
    flat_map_more ended start (map line (up_to k)) (line (k + 1))
    ∙ ap (λ ls. start ++ lined ls) (sym (map-range_with_len_more line 1 k (k + 1) (omega arith)))

up_to_more : (k : ℕ) → up_to (k + 1) ≡ up_to k ++ (k + 1) ∷ []
up_to_more k = sym (map-id (up_to (k + 1))) ∙ map-range_with_len_more (λ n. n) 1 k (k + 1) (omega arith) ∙ ap (λ ns. ns ++ (k + 1) ∷ []) (map-id (up_to k))

wants_append : (js ks : List ℕ) → wants (js ++ ks) ≡ wants js ++ wants ks
wants_append js ks = ap (map want_line) (filter-append is_odd js ks) ∙ map-append want_line (filter is_odd js) (filter is_odd ks)

-- one branch more, with its line if it wants something
pub wants_more : (start : List ℕ) (k : ℕ)
    → (start ++ lined (wants (up_to k))) ++ lined (wants ((k + 1) ∷ [])) ≡ start ++ lined (wants (up_to (k + 1)))
wants_more start k =
    append_assoc start (lined (wants (up_to k))) (lined (wants ((k + 1) ∷ [])))
    ∙ ap (λ xs. start ++ xs)
    (sym (ap (λ js. lined (wants js)) (up_to_more k)
    ∙ ap lined (wants_append (up_to k) ((k + 1) ∷ []))
    ∙ flat_map-append ended (wants (up_to k)) (wants ((k + 1) ∷ []))))

-- pieces behind a text, one after another
pub three_joined : (start a b c : List ℕ) → ((start ++ a) ++ b) ++ c ≡ start ++ (a ++ (b ++ c))
three_joined start a b c = append_assoc (start ++ a) b c ∙ append_assoc start a (b ++ c)

-- the parts of the SPEF text
pub spef_joined : (header : List (List ℕ)) (head : List ℕ) (conns : List (List ℕ)) (title : List ℕ) (caps ress : List (List ℕ)) (end : List ℕ)
    → (((((lined header ++ ended head) ++ lined conns) ++ ended title) ++ lined caps) ++ lined ress) ++ ended end
    ≡ lined (header ++ (head ∷ (conns ++ ((title ∷ caps) ++ (ress ++ end ∷ [])))))
spef_joined header head conns title caps ress end = simp (flat_map-append {X = List ℕ} {A = ℕ}, append_assoc {A = ℕ}, append-nil {A = ℕ})
