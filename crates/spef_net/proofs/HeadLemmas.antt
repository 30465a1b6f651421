-- Lines that are no head, by their first byte.
use Rattle.std.proofs.Common.{◌≡◌, ℕ, suc, get_or, Bool, true, false, ◌||◌, cond, eqb, List, [], ◌∷◌, length, refl, sym, ap, ◌∙◌, arith, None, Ok}
use Rattle.std.proofs.lemmas.Bool.Decides.{nat_tests}
use Rattle.std.proofs.lemmas.Slice.Eq.{bytes_eq-Decides}
use Rattle.std.specs.Prelude.{codes, filter, nat_lt, Some}
use Rattle.std.specs.List.{slice_split, onto_first}
use Rattle.std.specs.Str.{bytes_eq}
use Rattle.vg_scan.specs.Lines.{is_blank, words, Line}
use Rattle.vg_scan.specs.declared.name.NodeName.{NodeName}
use Rattle.spef_file.specs.Files.{File}
use Rattle.spef_net.specs.declared.part.Part.{Part}
use Rattle.spef_net.specs.declared.part.Part.TheVariants.{Conns, Caps, Ress, Inducs}
use Rattle.spef_net.specs.Lines.{head_of, part_named}
use Rattle.spef_net.specs.Statements.{Stated, Nothing, statement_in, statement_of_words, statement_of}
use Rattle.spef_net.specs.Connections.{is_conns, Gathers}
use Rattle.spef_net.proofs.WordLemmas.{no_length, gathers_quiet}

other : (b : ℕ) (w tail : List ℕ) → eqb b 42 ≡ false → (t : Bool) → bytes_eq (b ∷ w) (42 ∷ tail) ≡ t → t ≡ false
other b w tail e false f = refl
other b w tail e true f = absurd (let s : b ∷ w ≡ 42 ∷ tail = (bytes_eq-Decides (b ∷ w) (42 ∷ tail)).0 f in let h : b ≡ 42 = cc in let x : true ≡ false = sym (ap (λ n. eqb n 42) h) ∙ e in cc)

no_part : (b : ℕ) (w : List ℕ) → eqb b 42 ≡ false → part_named (b ∷ w) ≡ None
no_part b w e =
    let c1 : bytes_eq (b ∷ w) (codes "*CONN") ≡ false = other b w _ e _ refl in
    let c2 : bytes_eq (b ∷ w) (codes "*CAP") ≡ false = other b w _ e _ refl in
    let c3 : bytes_eq (b ∷ w) (codes "*RES") ≡ false = other b w _ e _ refl in
    let c4 : bytes_eq (b ∷ w) (codes "*INDUC") ≡ false = other b w _ e _ refl in
    ap (λ t. cond t (Some Conns) (cond (bytes_eq (b ∷ w) (codes "*CAP")) (Some Caps) (cond (bytes_eq (b ∷ w) (codes "*RES")) (Some Ress) (cond (bytes_eq (b ∷ w) (codes "*INDUC")) (Some Inducs) None)))) c1
    ∙ ap (λ t. cond t (Some Caps) (cond (bytes_eq (b ∷ w) (codes "*RES")) (Some Ress) (cond (bytes_eq (b ∷ w) (codes "*INDUC")) (Some Inducs) None))) c2
    ∙ ap (λ t. cond t (Some Ress) (cond (bytes_eq (b ∷ w) (codes "*INDUC")) (Some Inducs) None)) c3
    ∙ ap (λ t. cond t (Some Inducs) None) c4

no_head : (b : ℕ) (w : List ℕ) (others : Line) → eqb b 42 ≡ false → head_of ((b ∷ w) ∷ others) ≡ None
no_head b w [] e = no_part b w e
no_head b w (x ∷ xs) e = refl

lt_more : (n : ℕ) → nat_lt 0 (suc n) ≡ true
lt_more n = grind (arith, nat_tests)

kept_here : (b : ℕ) (w : List ℕ) (parts : Line) → eqb b 42 ≡ false → head_of (filter (λ w. nat_lt 0 (length w)) ((b ∷ w) ∷ parts)) ≡ None
kept_here b w parts e =
    ap (λ t. head_of (cond t ((b ∷ w) ∷ filter (λ w. nat_lt 0 (length w)) parts) (filter (λ w. nat_lt 0 (length w)) parts))) (lt_more (length w)) ∙ no_head b w (filter (λ w. nat_lt 0 (length w)) parts) e

first_kept : (b : ℕ) (parts : List (List ℕ)) → eqb b 42 ≡ false → head_of (filter (λ w. nat_lt 0 (length w)) (onto_first b parts)) ≡ None
first_kept b [] e = kept_here b [] [] e
first_kept b (part ∷ parts) e = kept_here b part parts e

split_kept : (t : Bool) (b : ℕ) (parts : List (List ℕ)) → t ≡ false → eqb b 42 ≡ false → head_of (filter (λ w. nat_lt 0 (length w)) (cond t ([] ∷ parts) (onto_first b parts))) ≡ None
split_kept true b parts f e = absurd (cc)
split_kept false b parts f e = first_kept b parts e

not_number : (a b : ℕ) → (a ≡ b → ⊥) → eqb a b ≡ false
not_number a b h = grind (arith, nat_tests)

none : (a b : Bool) → a ≡ false → b ≡ false → (a || b) ≡ false
none true b e f = e
none false b e f = f

pub no_head_by : (line : List ℕ) → eqb (length line) 0 ≡ false → (get_or line 0 0 ≡ 42 → ⊥) → (get_or line 0 0 ≡ 32 → ⊥) → (get_or line 0 0 ≡ 9 → ⊥) → head_of (words line) ≡ None
unfolding words
no_head_by [] h k l m = absurd (cc)
no_head_by (b ∷ bs) h k l m = split_kept (is_blank b) b (slice_split is_blank bs) (none (eqb b 32) (eqb b 9) (not_number b 32 l) (not_number b 9 m)) (not_number b 42 k)

pub no_head_none : (line : List ℕ) → eqb (length line) 0 ≡ true → head_of (words line) ≡ None
unfolding words
no_head_none [] e = refl
no_head_none (b ∷ bs) e = absurd (let n = no_length (length (b ∷ bs)) e in omega arith)

passed_if : (file : File) (part : Part) (line : List ℕ) (ws : Line) (nodes : List NodeName) → is_conns part ≡ false → head_of ws ≡ None → Gathers (Ok part) nodes nodes part (statement_of_words file part line ws)
unfolding statement_of_words
passed_if file part line [] nodes n h = (refl, refl)
passed_if file part line (w ∷ ws) nodes n h =
    gathers_quiet file part line (w ∷ ws) nodes _ (ap (λ o. Rattle.spef_net.specs.Statements.statement_or_opens o (statement_in part file line (w ∷ ws))) h) n

-- such a line changes nothing in the gather
pub gathers_passed : (file : File) (part : Part) (line : List ℕ) (nodes : List NodeName) → is_conns part ≡ false → head_of (words line) ≡ None → Gathers (Ok part) nodes nodes part (statement_of file part line)
gathers_passed file part line nodes n h = passed_if file part line (words line) nodes n h

pub is_not : (a b : ℕ) → eqb a b ≡ false → a ≡ b → ⊥
is_not a b e h = let x : ⊥ = grind (arith, nat_tests) in x
