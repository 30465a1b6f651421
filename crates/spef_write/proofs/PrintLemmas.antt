-- Texts that are printed piece by piece, and lists of lines that grow.
use Rattle.std.proofs.Common.{◌≡◌, ◌≢◌, ℕ, zero, suc, ◌+◌, ◌<◌, true, false, cond, List, [], ◌∷◌, ◌++◌, map, filter, codes, refl, sym, ap, ◌∙◌, arith, length, take, get_or}
use Rattle.std.proofs.lemmas.List.{append-nil, append_assoc, length-take, length_push, take_more, map-append, map_more, flat_map_more}
use Rattle.std.proofs.lemmas.List.Elements.{filter-append, filter_more}
use Rattle.vg_scan.specs.declared.chars.Chars.{Chars}
use Rattle.spef_file.specs.declared.header.Header.{Header}
use Rattle.spef_write.specs.Printed.{PrintedNode, behind, cap_row, cap_rows, is_loaded, is_starred, star_row, star_rows}
use Rattle.spef_write.specs.Sections.{numbered, headed}
use Rattle.spef_write.specs.Texts.{spaced, ended, lined, noted, printed_node_with}
use Rattle.vg_scan.specs.Printed.{printed}

-- pieces behind a text, one after another
pub two_words : (o a b : List ℕ) → ((o ++ a) ++ 32 ∷ []) ++ b ≡ o ++ spaced (a ∷ b ∷ [])
two_words o a b = append_assoc (o ++ a) (32 ∷ []) b ∙ append_assoc o a (32 ∷ b)

pub three_words : (o a b c : List ℕ) → ((((o ++ a) ++ 32 ∷ []) ++ b) ++ 32 ∷ []) ++ c ≡ o ++ spaced (a ∷ b ∷ c ∷ [])
three_words o a b c = two_words ((o ++ a) ++ 32 ∷ []) b c ∙ two_words o a (b ++ 32 ∷ c)

pub four_words : (o a b c d : List ℕ) → ((((((o ++ a) ++ 32 ∷ []) ++ b) ++ 32 ∷ []) ++ c) ++ 32 ∷ []) ++ d ≡ o ++ spaced (a ∷ b ∷ c ∷ d ∷ [])
four_words o a b c d = three_words ((o ++ a) ++ 32 ∷ []) b c d ∙ two_words o a (b ++ 32 ∷ (c ++ 32 ∷ d))

pub newline_after : (o line : List ℕ) → (o ++ line) ++ 10 ∷ [] ≡ o ++ ended line
newline_after o line = append_assoc o line (10 ∷ [])

-- the name of a node with a leaf
pub node_printed : (chars : Chars) (old owner leaf : List ℕ) → 0 < length leaf
    → ((old ++ printed chars owner) ++ chars.delimiter ∷ []) ++ printed chars leaf ≡ old ++ printed_node_with chars owner leaf
node_printed chars old owner [] some = absurd (omega (arith, some))
node_printed chars old owner (b ∷ leaf) some =
    append_assoc (old ++ printed chars owner) (chars.delimiter ∷ []) (printed chars (b ∷ leaf))
    ∙ append_assoc old (printed chars owner) (chars.delimiter ∷ printed chars (b ∷ leaf))

-- a note behind a line, where something stands before the line
pub noted_after : (a line note : List ℕ) → ended (noted (a ++ line) note) ≡ a ++ ended (noted line note)
noted_after a line [] = append_assoc a line (10 ∷ [])
noted_after a line (b ∷ note) = ap (λ xs. xs ++ 10 ∷ []) (append_assoc a line (32 ∷ b ∷ note)) ∙ append_assoc a (line ++ 32 ∷ b ∷ note) (10 ∷ [])

-- one line more
pub lines_more : {X : Type 0} (line : X → List ℕ) (start : List ℕ) (xs : List X) (i : ℕ) (d : X) → i < length xs
    → (start ++ lined (map line (take i xs))) ++ ended (line (get_or xs i d)) ≡ start ++ lined (map line (take (i + 1) xs))
lines_more line start xs i d l =
    flat_map_more ended start (map line (take i xs)) (line (get_or xs i d)) ∙ ap (λ ls. start ++ lined ls) (sym (map_more line xs i d l))

numbered_push : {X : Type 0} (line : ℕ → X → List ℕ) (n : ℕ) (xs : List X) (x : X) (k : ℕ) → n + length xs ≡ k
    → numbered line n (xs ++ x ∷ []) ≡ numbered line n xs ++ line k x ∷ []
numbered_push line n [] x k e =
    let same : n ≡ k = omega (arith, e) in
    ap (λ (m : ℕ). line m x ∷ []) same
numbered_push line n (y ∷ ys) x k e = ap (λ ls. line n y ∷ ls) (numbered_push line (n + 1) ys x k (omega (arith, e)))

-- one numbered line more
pub numbers_more : {X : Type 0} (line : ℕ → X → List ℕ) (start : List ℕ) (xs : List X) (i : ℕ) (d : X) → i < length xs
    → (start ++ lined (numbered line 1 (take i xs))) ++ ended (line (i + 1) (get_or xs i d)) ≡ start ++ lined (numbered line 1 (take (i + 1) xs))
numbers_more line start xs i d l =
    flat_map_more ended start (numbered line 1 (take i xs)) (line (i + 1) (get_or xs i d))
    ∙ ap (λ ls. start ++ lined ls)
    (sym (ap (numbered line 1) (take_more xs i d l) ∙ numbered_push line 1 (take i xs) (get_or xs i d) (i + 1) (omega (arith, length-take i xs))))

stars_append : (xs ys : List PrintedNode) → star_rows (xs ++ ys) ≡ star_rows xs ++ star_rows ys
stars_append xs ys = ap (map star_row) (filter-append is_starred xs ys) ∙ map-append star_row (filter is_starred xs) (filter is_starred ys)

lined_append : (ls more : List (List ℕ)) → lined (ls ++ more) ≡ lined ls ++ lined more
lined_append [] more = refl
lined_append (l ∷ ls) more = ap (λ xs. ended l ++ xs) (lined_append ls more) ∙ sym (append_assoc (ended l) (lined ls) (lined more))

-- one node more, with its line if it has one
pub stars_more : (start : List ℕ) (xs : List PrintedNode) (i : ℕ) (d : PrintedNode) → i < length xs
    → (start ++ lined (star_rows (take i xs))) ++ lined (star_rows (get_or xs i d ∷ [])) ≡ start ++ lined (star_rows (take (i + 1) xs))
stars_more start xs i d l =
    append_assoc start (lined (star_rows (take i xs))) (lined (star_rows (get_or xs i d ∷ [])))
    ∙ ap (λ ls. start ++ ls)
    (sym (ap (λ ns. lined (star_rows ns)) (take_more xs i d l)
    ∙ ap lined (stars_append (take i xs) (get_or xs i d ∷ []))
    ∙ lined_append (star_rows (take i xs)) (star_rows (get_or xs i d ∷ []))))

headed_more : {X : Type 0} (line : ℕ → X → List ℕ) (head : List ℕ) (xs : List X) (x : X)
    → headed head (numbered line 1 (xs ++ x ∷ [])) ≡ headed head (numbered line 1 xs) ++ behind (length xs) head (line (length xs + 1) x)
headed_more line head [] x = refl
headed_more line head (y ∷ ys) x =
    ap (λ ls. head ∷ line 1 y ∷ ls) (numbered_push line 2 ys x (length (y ∷ ys) + 1) (omega arith))

-- one node more, with the line of its capacitance if it has one
loaded_more : (nodes : List PrintedNode) (i : ℕ) (d node : PrintedNode) → i < length nodes → get_or nodes i d ≡ node
    → filter is_loaded (take (i + 1) nodes) ≡ filter is_loaded (take i nodes) ++ cond (is_loaded node) (node ∷ []) []
loaded_more nodes i d node low is =
    filter_more is_loaded nodes i d low ∙ ap (λ (n : PrintedNode). filter is_loaded (take i nodes) ++ cond (is_loaded n) (n ∷ []) []) is

pub caps_more : (header : Header) (start : List ℕ) (nodes : List PrintedNode) (i : ℕ) (d node : PrintedNode) → i < length nodes → get_or nodes i d ≡ node → is_loaded node ≡ true
    → (start ++ lined (cap_rows header (take i nodes)))
    ++ lined (behind (length (filter is_loaded (take i nodes))) (codes "*CAP") (cap_row header (length (filter is_loaded (take i nodes)) + 1) node))
    ≡ start ++ lined (cap_rows header (take (i + 1) nodes))
caps_more header start nodes i d node low is loaded =
    let before = filter is_loaded (take i nodes) in
    let more : filter is_loaded (take (i + 1) nodes) ≡ before ++ node ∷ []
    = loaded_more nodes i d node low is ∙ ap (λ t. before ++ cond t (node ∷ []) []) loaded in
    append_assoc start (lined (cap_rows header (take i nodes))) (lined (behind (length before) (codes "*CAP") (cap_row header (length before + 1) node)))
    ∙ ap (λ ls. start ++ ls)
    (sym (lined_append (cap_rows header (take i nodes)) (behind (length before) (codes "*CAP") (cap_row header (length before + 1) node)))
    ∙ ap lined (sym (ap (λ ns. headed (codes "*CAP") (numbered (cap_row header) 1 ns)) more ∙ headed_more (cap_row header) (codes "*CAP") before node)))

-- a line behind the head of its part, and one behind other lines
pub first_behind : (count : ℕ) (old head line : List ℕ) → count ≡ 0 → (old ++ ended head) ++ ended line ≡ old ++ lined (behind count head line)
first_behind count old head line none =
    append_assoc old (ended head) (ended line)
    ∙ ap (λ xs. old ++ (ended head ++ xs)) (sym (append-nil (ended line)))
    ∙ ap (λ n. old ++ lined (behind n head line)) (sym none)

pub other_behind : (count : ℕ) (old head line : List ℕ) → count ≢ 0 → old ++ ended line ≡ old ++ lined (behind count head line)
other_behind zero old head line some = absurd (some refl)
other_behind (suc n) old head line some = ap (λ xs. old ++ xs) (sym (append-nil (ended line)))

pub count_more : (nodes : List PrintedNode) (i : ℕ) (d node : PrintedNode) → i < length nodes → get_or nodes i d ≡ node → is_loaded node ≡ true
    → length (filter is_loaded (take (i + 1) nodes)) ≡ length (filter is_loaded (take i nodes)) + 1
count_more nodes i d node low is loaded =
    let before = filter is_loaded (take i nodes) in
    ap length (loaded_more nodes i d node low is ∙ ap (λ t. before ++ cond t (node ∷ []) []) loaded) ∙ length_push before node

pub none_more : (nodes : List PrintedNode) (i : ℕ) (d node : PrintedNode) → i < length nodes → get_or nodes i d ≡ node → is_loaded node ≡ false
    → filter is_loaded (take (i + 1) nodes) ≡ filter is_loaded (take i nodes)
none_more nodes i d node low is empty =
    let before = filter is_loaded (take i nodes) in
    loaded_more nodes i d node low is ∙ ap (λ t. before ++ cond t (node ∷ []) []) empty ∙ append-nil before

-- a part with its head, which is left out where there are no rows
pub part_printed : {X : Type 0} (line : ℕ → X → List ℕ) (old head : List ℕ) (xs : List X) → 0 < length xs
    → (old ++ ended head) ++ lined (numbered line 1 xs) ≡ old ++ lined (headed head (numbered line 1 xs))
part_printed line old head [] some = absurd (omega (arith, some))
part_printed line old head (x ∷ xs) some = append_assoc old (ended head) (lined (numbered line 1 (x ∷ xs)))

-- the parts of a section, one after another
pub parts_printed : (old head conn_head conns stars caps ress : List ℕ)
    → (((((old ++ head) ++ conn_head) ++ conns) ++ stars) ++ caps) ++ ress ≡ old ++ (head ++ (conn_head ++ (conns ++ (stars ++ (caps ++ ress)))))
parts_printed old head conn_head conns stars caps ress =
    append_assoc (((((old ++ head) ++ conn_head) ++ conns) ++ stars)) caps ress
    ∙ append_assoc (((old ++ head) ++ conn_head) ++ conns) stars (caps ++ ress)
    ∙ append_assoc ((old ++ head) ++ conn_head) conns (stars ++ (caps ++ ress))
    ∙ append_assoc (old ++ head) conn_head (conns ++ (stars ++ (caps ++ ress)))
    ∙ append_assoc old head (conn_head ++ (conns ++ (stars ++ (caps ++ ress))))

pub section_lined : (head conn_head : List ℕ) (conns stars caps ress : List (List ℕ))
    → ended head ++ (ended conn_head ++ (lined conns ++ (lined stars ++ (lined caps ++ lined ress)))) ≡ lined (head ∷ conn_head ∷ (conns ++ (stars ++ (caps ++ ress))))
section_lined head conn_head conns stars caps ress =
    ap (λ xs. ended head ++ (ended conn_head ++ xs))
    (sym (lined_append conns (stars ++ (caps ++ ress)) ∙ ap (λ xs. lined conns ++ xs) (lined_append stars (caps ++ ress) ∙ ap (λ xs. lined stars ++ xs) (lined_append caps ress))))
