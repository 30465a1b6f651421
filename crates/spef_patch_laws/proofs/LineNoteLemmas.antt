-- Notes in lines in which no comment begins.
use Rattle.std.proofs.Common.{◌≡◌, ℕ, zero, suc, ◌+◌, ◌-◌, ◌≤◌, ◌⊎◌, inl, inr, Bool, true, false, ◌&&◌, ◌||◌, not, cond, eqb, List, [], ◌∷◌, ◌++◌, length, take, drop, get_or, codes, refl, sym, ap, ◌∙◌, arith, subst, append_assoc, length-drop, drop-drop, Option, Some, None, All}
use Rattle.std.proofs.lemmas.Bool.Decides.{nat_tests}
use Rattle.std.proofs.lemmas.List.{append-nil, take-append-drop, drop_all}
use Rattle.std.proofs.lemmas.Slice.Eq.{bytes_eq-Decides}
use Rattle.std.proofs.Math.Seq.{drop-cons}
use Rattle.std.specs.List.{list_all, position, position_or_len, suffix_len}
use Rattle.std.specs.Str.{bytes_eq}
use Rattle.std.specs.Str.Lines.{lines, strip_carriage_return}
use Rattle.vg_num.specs.Number.{is_digit, are_digits}
use Rattle.vg_scan.specs.declared.chars.Chars.{Chars}
use Rattle.vg_scan.specs.declared.name.NodeName.{NodeName}
use Rattle.vg_scan.specs.Lines.{Line, words, is_blank, is_ink, is_newline}
use Rattle.vg_scan.specs.Names.{canonical, spelled, before, plain, is_backslash, is_quote}
use Rattle.vg_scan.specs.Nodes.{leaf_at, node_of_parts}
use Rattle.vg_scan.specs.References.{is_reference, index_of}
use Rattle.vg_scan.specs.Separators.{is_separator}
use Rattle.vg_scan.proofs.BareLemmas.{some_bare}
use Rattle.vg_scan.proofs.ClearedLemmas.{eq_of, ne_of_false}
use Rattle.vg_scan.proofs.LineLemmas.{first_at, first_none, ended_line, last_line, newline_found}
use Rattle.vg_scan.proofs.WordLemmas.{words_none, word_some, word_none, no_word}
use Rattle.spef_file.specs.Files.{File}
use Rattle.spef_nodes.specs.Names.{node_in, owner_in, indexed}
use Rattle.spef_nodes.proofs.NodeLemmas.{node_in-None, node_in-parts}
use Rattle.spef_net.specs.declared.net.Direction.{Direction}
use Rattle.spef_net.specs.declared.net.Direction.TheVariants.{In, Out, Both}
use Rattle.spef_net.specs.Lines.{is_space, is_solid, after_word, trimmed}
use Rattle.spef_net.specs.Statements.{direction_in}
use Rattle.spef_net.proofs.StatementLemmas.{is_conn_tag, IsLine}
use Rattle.spef_write.proofs.WordLemmas.{both_true}
use Rattle.spef_patch_laws.proofs.BlankLemmas.{found_or_none}
use Rattle.spef_patch_laws.proofs.WrittenLemmas.{all_none, all_more}
use Rattle.spef_patch_laws.proofs.CalmLemmas.{calm, kind_of, escapes, quotes, line, block, other, never, calm_plain, calm_escape, calm_quote, calm_line, calm_block, calm_front, IsBare, calm_byte}

-- ---- what follows a byte, and what follows a newline

calm_tail : (b : ℕ) (xs : List ℕ) → calm false (b ∷ xs) ≡ true → (b ≡ 92 → ⊥) → (b ≡ 34 → ⊥) → calm false xs ≡ true
unfolding calm
calm_tail b [] h e f = refl
calm_tail b (c ∷ xs) h e f = elim (kind_of b c) as (λ _. calm false (c ∷ xs) ≡ true) [
  | escapes k ↦ absurd (e k)
  | quotes k ↦ absurd (f k)
  | line k m ↦ never (sym h ∙ calm_line b c xs k m)
  | block k m ↦ never (sym h ∙ calm_block b c xs k m)
  | other k m o p ↦ sym (calm_plain b c xs k m o p) ∙ h
]

after_newline : (inside : Bool) (front rest : List ℕ) → calm inside (front ++ 10 ∷ rest) ≡ true → calm false rest ≡ true
unfolding calm
after_newline true [] rest h = h
after_newline false [] rest h = calm_tail 10 rest h (λ e. omega (arith, e)) (λ e. omega (arith, e))
after_newline true (b ∷ front) rest h = after_newline (not _) front rest h
after_newline false (b ∷ []) rest h = elim (kind_of b 10) as (λ _. calm false rest ≡ true) [
  | escapes k ↦ sym (calm_escape b 10 rest k) ∙ h
  | quotes k ↦ sym (calm_quote b 10 rest k) ∙ h
  | line k m ↦ absurd (omega (arith, m))
  | block k m ↦ absurd (omega (arith, m))
  | other k m o p ↦ calm_tail 10 rest (sym (calm_plain b 10 rest k m o p) ∙ h) (λ e. omega (arith, e)) (λ e. omega (arith, e))
]
after_newline false (b ∷ c ∷ front) rest h = elim (kind_of b c) as (λ _. calm false rest ≡ true) [
  | escapes k ↦ after_newline false front rest (sym (calm_escape b c (front ++ 10 ∷ rest) k) ∙ h)
  | quotes k ↦ after_newline true (c ∷ front) rest (sym (calm_quote b c (front ++ 10 ∷ rest) k) ∙ h)
  | line k m ↦ never (sym h ∙ calm_line b c (front ++ 10 ∷ rest) k m)
  | block k m ↦ never (sym h ∙ calm_block b c (front ++ 10 ∷ rest) k m)
  | other k m o p ↦ after_newline false (c ∷ front) rest (sym (calm_plain b c (front ++ 10 ∷ rest) k m o p) ∙ h)
]

calm_take : (n : ℕ) (text : List ℕ) → calm false text ≡ true → calm false (take n text) ≡ true
calm_take n text h = calm_front false (take n text) (drop n text) (ap (calm false) (take-append-drop n text) ∙ h)

-- ---- lines

strip_by : (l : List ℕ) (t : Bool) → eqb (get_or l (length l - 1) 0) 13 ≡ t → calm false l ≡ true → calm false (strip_carriage_return l) ≡ true
strip_by l true e h = ap (λ t. calm false (cond t (take (length l - 1) l) l)) e ∙ calm_take (length l - 1) l h
strip_by l false e h = ap (λ t. calm false (cond t (take (length l - 1) l) l)) e ∙ h

calm_strip : (l : List ℕ) → calm false l ≡ true → calm false (strip_carriage_return l) ≡ true
calm_strip l h = strip_by l (eqb (get_or l (length l - 1) 0) 13) refl h

-- each line of a calm text is calm
pub lines_calm : (n : ℕ) (text : List ℕ) → length text ≤ n → calm false text ≡ true → All (λ l. calm false l ≡ true) (lines text)
lines_calm n [] l h = all_none (λ l. calm false l ≡ true)
lines_calm zero (b ∷ bs) l h = absurd (omega arith)
lines_calm (suc n) (b ∷ bs) l h = elim (found_or_none (position is_newline (b ∷ bs))) as (λ _. All (λ l. calm false l ≡ true) (lines (b ∷ bs))) [
  | inl none ↦ subst (All (λ l. calm false l ≡ true)) (sym (last_line (b ∷ bs) (omega arith) none)) (all_more (λ l. calm false l ≡ true) (b ∷ bs) [] h (all_none (λ l. calm false l ≡ true)))
  | inr (e, found) ↦ (
      let text = b ∷ bs in
      let f = first_at is_newline text e found in
      let ten : get_or text e 0 ≡ 10 = ap (λ k. get_or text k 0) (let x : e ≡ e + 1 - 1 = omega arith in x) ∙ newline_found text e found in
      let d : drop e text ≡ 10 ∷ drop (e + 1) text = drop-cons text e 0 f.1 ∙ (λ i. ten i ∷ drop (let x : suc e ≡ e + 1 = omega arith in x i) text) in
      let whole : take e text ++ 10 ∷ drop (e + 1) text ≡ text = ap (λ ys. take e text ++ ys) (sym d) ∙ take-append-drop e text in
      let rest : calm false (drop (e + 1) text) ≡ true = after_newline false (take e text) (drop (e + 1) text) (ap (calm false) whole ∙ h) in
      subst (All (λ l. calm false l ≡ true)) (sym (ended_line text e found))
      (all_more (λ l. calm false l ≡ true) (strip_carriage_return (take e text)) (lines (drop (e + 1) text)) (calm_strip (take e text) (calm_take e text h))
      (lines_calm n (drop (e + 1) text) (omega (arith, l, length-drop (e + 1) text)) rest)))
]

-- ---- names

before_some : (b : ℕ) (o : Option (List ℕ)) (name : List ℕ) → before b o ≡ Some name → (n : List ℕ) × (o ≡ Some n)
before_some b None name e = absurd (cc)
before_some b (Some n) name e = (n, refl)

-- the text of a byte, where a backslash may stand before it
abbrev behind : Bool → List ℕ → List ℕ
behind true text = 92 ∷ text
behind false text = text

spelled_step : (chars : Chars) (b : ℕ) (bs name rest : List ℕ) (s t : Bool) → is_backslash b ≡ s → is_quote b ≡ t
    → cond s (spelled chars true bs) (cond t None (before (plain chars b) (spelled chars false bs))) ≡ Some name → calm false (b ∷ (bs ++ rest)) ≡ true
    → ((escaped : Bool) (n : List ℕ) → spelled chars escaped bs ≡ Some n → calm false (behind escaped (bs ++ rest)) ≡ true → calm false rest ≡ true) → calm false rest ≡ true
spelled_step chars b bs name rest true t e f g h more = more true name g (ap (λ x. calm false (x ∷ (bs ++ rest))) (sym (eq_of b 92 e)) ∙ h)
spelled_step chars b bs name rest false true e f g h more = absurd (cc)
spelled_step chars b bs name rest false false e f g h more =
    let (n, some) = before_some (plain chars b) (spelled chars false bs) name g in
    more false n some (calm_tail b (bs ++ rest) h (ne_of_false b 92 e) (ne_of_false b 34 f))

-- what follows a text that spells a name
after_spelled : (chars : Chars) (escaped : Bool) (text name rest : List ℕ) → spelled chars escaped text ≡ Some name → calm false (behind escaped (text ++ rest)) ≡ true
    → calm false rest ≡ true
unfolding spelled
after_spelled chars true [] name rest e h = absurd (cc)
after_spelled chars false [] name rest e h = h
after_spelled chars true (b ∷ bs) name rest e h =
    let (n, some) = before_some b (spelled chars false bs) name e in
    after_spelled chars false bs n rest some (sym (calm_escape 92 b (bs ++ rest) refl) ∙ h)
after_spelled chars false (b ∷ bs) name rest e h =
    spelled_step chars b bs name rest (is_backslash b) (is_quote b) refl refl e h (λ escaped n some calm_rest. after_spelled chars escaped bs n rest some calm_rest)

after_name : (chars : Chars) (text name rest : List ℕ) → canonical chars text ≡ Some name → calm false (text ++ rest) ≡ true → calm false rest ≡ true
after_name chars [] name rest e h = absurd (cc)
after_name chars (b ∷ bs) name rest e h = after_spelled chars false (b ∷ bs) name rest e h

digit_bare : (b : ℕ) → is_digit b ≡ true → IsBare b
digit_bare b e = record { escape = λ f. grind (arith, nat_tests); quote = λ f. grind (arith, nat_tests); slash = λ f. grind (arith, nat_tests); newline = λ f. grind (arith, nat_tests) }

after_digits : (bs rest : List ℕ) → list_all is_digit bs ≡ true → calm false (bs ++ rest) ≡ true → calm false rest ≡ true
after_digits [] rest e h = h
after_digits (b ∷ bs) rest e h =
    let d = both_true (is_digit b) (list_all is_digit bs) e in
    after_digits bs rest d.1 (sym (calm_byte false b (bs ++ rest) (digit_bare b d.0)) ∙ h)

index_some : (names : List (List ℕ × List ℕ)) (b : ℕ) (bs name : List ℕ) (t : Bool) → (eqb b 42 && are_digits bs) ≡ t → indexed names (cond t (Some bs) None) ≡ Some name → (eqb b 42 && are_digits bs) ≡ true
index_some names b bs name true e f = e
index_some names b bs name false e f = absurd (cc)

after_index : (file : File) (text name rest : List ℕ) → indexed file.names (index_of text) ≡ Some name → calm false (text ++ rest) ≡ true → calm false rest ≡ true
after_index file [] name rest e h = absurd (cc)
after_index file (b ∷ bs) name rest e h =
    let t = both_true (eqb b 42) (are_digits bs) (index_some file.names b bs name (eqb b 42 && are_digits bs) refl e) in
    let star : b ≡ 42 = eq_of b 42 t.0 in
    after_digits bs rest (both_true _ (list_all is_digit bs) t.1).1
    (calm_tail b (bs ++ rest) h (λ f. omega (arith, f, star)) (λ f. omega (arith, f, star)))

owner_by : (file : File) (text name rest : List ℕ) (t : Bool) → is_reference text ≡ t → cond t (indexed file.names (index_of text)) (canonical file.chars text) ≡ Some name
    → calm false (text ++ rest) ≡ true → calm false rest ≡ true
owner_by file text name rest true f e h = after_index file text name rest e h
owner_by file text name rest false f e h = after_name file.chars text name rest e h

after_owner : (file : File) (text name rest : List ℕ) → owner_in file text ≡ Some name → calm false (text ++ rest) ≡ true → calm false rest ≡ true
unfolding owner_in
after_owner file text name rest e h = owner_by file text name rest (is_reference text) refl e h

parts_some : (o p : Option (List ℕ)) (node : NodeName) → node_of_parts o p ≡ Some node → ((a : List ℕ) × (o ≡ Some a)) × ((b : List ℕ) × (p ≡ Some b))
parts_some (Some a) (Some b) node e = ((a, refl), (b, refl))
parts_some (Some a) None node e = absurd (cc)
parts_some None p node e = absurd (cc)

separator_bare : (d : ℕ) → is_separator d ≡ true → (d ≡ 92 → ⊥) × (d ≡ 34 → ⊥)
separator_bare d e = (λ f. grind (arith, nat_tests), λ f. grind (arith, nat_tests))

-- what follows a text that names a node
pub after_node : (file : File) (text : List ℕ) (node : NodeName) (rest : List ℕ) → node_in file text ≡ Some node → calm false (text ++ rest) ≡ true → calm false rest ≡ true
after_node file text node rest e h = by_leaf (leaf_at file.chars text) refl
  where
    by_leaf : (o : Option ℕ) → leaf_at file.chars text ≡ o → calm false rest ≡ true
    by_leaf None f =
        let p = parts_some (owner_in file text) (Some []) node (sym (node_in-None file text f) ∙ e) in
        after_owner file text p.0.0 rest p.0.1 h
    by_leaf (Some at) f =
        let p = parts_some (owner_in file (take at text)) (canonical file.chars (drop (at + 1) text)) node (sym (node_in-parts file text (take at text) (drop (at + 1) text) at f refl refl) ∙ e) in
        let b = some_bare file.chars.delimiter text (length text) at f in
        let d : get_or text at 0 ≡ file.chars.delimiter = eq_of (get_or text at 0) file.chars.delimiter (both_true (eqb (get_or text at 0) file.chars.delimiter) _ b.here).0 in
        let leaf = drop (at + 1) text in
        let split : text ≡ take at text ++ file.chars.delimiter ∷ leaf =
        sym (take-append-drop at text) ∙ ap (λ ys. take at text ++ ys) (drop-cons text at 0 b.within ∙ (λ i. d i ∷ drop (let x : suc at ≡ at + 1 = omega arith in x i) text)) in
        let whole : calm false (take at text ++ (file.chars.delimiter ∷ (leaf ++ rest))) ≡ true =
        ap (calm false) (sym (ap (λ t. t ++ rest) split ∙ append_assoc (take at text) (file.chars.delimiter ∷ leaf) rest)) ∙ h in
        let bare = separator_bare file.chars.delimiter file.chars.delimits in
        after_name file.chars leaf p.1.0 rest p.1.1
        (calm_tail file.chars.delimiter (leaf ++ rest) (after_owner file (take at text) p.0.0 (file.chars.delimiter ∷ (leaf ++ rest)) p.0.1 whole) bare.0 bare.1)

-- ---- words

-- a calm text without the bytes before the first that passes a test is calm, if those begin nothing
calm_skip : (test : ℕ → Bool) → ((b : ℕ) → test b ≡ false → (b ≡ 92 → ⊥) × (b ≡ 34 → ⊥)) → (text : List ℕ) → calm false text ≡ true
    → calm false (drop (position_or_len test text) text) ≡ true
calm_skip test bare [] h = h
calm_skip test bare (b ∷ bs) h = by_test (test b) refl (calm_skip test bare bs)
  where
    by_test : (t : Bool) → test b ≡ t → (calm false bs ≡ true → calm false (drop (position_or_len test bs) bs) ≡ true) → calm false (drop (position_or_len test (b ∷ bs)) (b ∷ bs)) ≡ true
    by_test true e more = ap (λ t. calm false (drop (cond (not t) (1 + position_or_len test bs) 0) (b ∷ bs))) e ∙ h
    by_test false e more =
        ap (λ t. calm false (drop (cond (not t) (1 + position_or_len test bs) 0) (b ∷ bs))) e
        ∙ ap (λ n. calm false (drop n (b ∷ bs))) (let x : 1 + position_or_len test bs ≡ suc (position_or_len test bs) = omega arith in x)
        ∙ more (calm_tail b bs h (bare b e).0 (bare b e).1)

no_ink : (b : ℕ) → is_ink b ≡ false → (b ≡ 92 → ⊥) × (b ≡ 34 → ⊥)
no_ink b e = (λ f. grind (arith, nat_tests), λ f. grind (arith, nat_tests))

no_solid : (b : ℕ) → is_solid b ≡ false → (b ≡ 92 → ⊥) × (b ≡ 34 → ⊥)
no_solid b e = (λ f. grind (arith, nat_tests), λ f. grind (arith, nat_tests))

-- a text of which this is the first word, and what follows it
record IsWordThen (text word : List ℕ) (more : Line) : Type 0 where
  whole : word ++ after_word text ≡ drop (position_or_len is_ink text) text
  more_is : words (after_word text) ≡ more

same_words : (w x : List ℕ) (ws xs : Line) → w ∷ ws ≡ x ∷ xs → (w ≡ x) × (ws ≡ xs)
same_words w x ws xs e = (ap (λ l. get_or l 0 []) e, ap (drop 1) e)

word_then : (text word : List ℕ) (more : Line) → words text ≡ word ∷ more → IsWordThen text word more
unfolding after_word
word_then text word more e = elim (found_or_none (position is_ink text)) as (λ _. IsWordThen text word more) [
  | inl none ↦ absurd (let x : [] ≡ word ∷ more = sym (no_word text none) ∙ e in cc)
  | inr (from, at) ↦ (
      let ink = (first_at is_ink text from at).0 in
      let rest = drop from text in
      let rest_is : drop (position_or_len is_ink text) text ≡ rest = ap (λ n. drop n text) ink in
      elim (found_or_none (position is_blank rest)) as (λ _. IsWordThen text word more) [
        | inl none ↦ (
            let s = same_words rest word [] more (sym (word_none text from at none) ∙ e) in
            let n = first_none is_blank rest none in
            let after : drop (position_or_len is_blank (drop (position_or_len is_ink text) text)) (drop (position_or_len is_ink text) text) ≡ [] =
            ap (λ t. drop (position_or_len is_blank t) t) rest_is ∙ ap (λ m. drop m rest) n ∙ drop_all (length rest) rest (omega arith) in
            record {
              whole = ap (λ t. word ++ t) after ∙ append-nil word ∙ sym s.0 ∙ sym rest_is;
              more_is = ap words after ∙ words_none ∙ s.1;
            })
        | inr (n, there) ↦ (
            let w = word_some text from n at there in
            let s = same_words (take n rest) word (words (drop (from + n) text)) more (sym w.0 ∙ e) in
            let p = (first_at is_blank rest n there).0 in
            let after : drop (position_or_len is_blank (drop (position_or_len is_ink text) text)) (drop (position_or_len is_ink text) text) ≡ drop n rest =
            ap (λ t. drop (position_or_len is_blank t) t) rest_is ∙ ap (λ m. drop m rest) p in
            record {
              whole = ap (λ t. word ++ t) after ∙ ap (λ x. x ++ drop n rest) (sym s.0) ∙ take-append-drop n rest ∙ sym rest_is;
              more_is = ap words (after ∙ drop-drop n from text) ∙ s.1;
            })
      ])
]

-- what follows the first word of a calm text is calm, if it is so behind that word
next_calm : (text word : List ℕ) (more : Line) → words text ≡ word ∷ more → ((rest : List ℕ) → calm false (word ++ rest) ≡ true → calm false rest ≡ true) → calm false text ≡ true
    → (calm false (after_word text) ≡ true) × (words (after_word text) ≡ more)
next_calm text word more e after h =
    let w = word_then text word more e in
    (after (after_word text) (ap (calm false) w.whole ∙ calm_skip is_ink no_ink text h), w.more_is)

trimmed_calm : (text : List ℕ) → calm false text ≡ true → calm false (trimmed text) ≡ true
unfolding trimmed
trimmed_calm text h =
    let rest = drop (position_or_len is_solid text) text in
    calm_take (length rest - suffix_len is_space rest) rest (calm_skip is_solid no_solid text h)

-- ---- notes

two_bare : (a b : ℕ) (rest : List ℕ) → IsBare a → IsBare b → calm false (a ∷ b ∷ rest) ≡ true → calm false rest ≡ true
two_bare a b rest p q h = sym (calm_byte false b rest q) ∙ sym (calm_byte false a (b ∷ rest) p) ∙ h

bare_42 : IsBare 42
bare_42 = record { escape = λ e. omega (arith, e); quote = λ e. omega (arith, e); slash = λ e. omega (arith, e); newline = λ e. omega (arith, e) }

letter : (b : ℕ) → (65 ≤ b) × (b ≤ 90) → IsBare b
letter b l = record { escape = λ e. omega (arith, e, l); quote = λ e. omega (arith, e, l); slash = λ e. omega (arith, e, l); newline = λ e. omega (arith, e, l) }

after_tag : (b : ℕ) (tag rest : List ℕ) → (65 ≤ b) × (b ≤ 90) → bytes_eq tag (42 ∷ b ∷ []) ≡ true → calm false (tag ++ rest) ≡ true → calm false rest ≡ true
after_tag b tag rest l e h = two_bare 42 b rest bare_42 (letter b l) (ap (λ t. calm false (t ++ rest)) (sym ((bytes_eq-Decides tag (42 ∷ b ∷ [])).0 e)) ∙ h)

one_of : (a b : Bool) → (a || b) ≡ true → (a ≡ true) ⊎ (b ≡ true)
one_of true b e = inl refl
one_of false b e = inr e

after_conn_tag : (tag rest : List ℕ) → is_conn_tag tag ≡ true → calm false (tag ++ rest) ≡ true → calm false rest ≡ true
after_conn_tag tag rest e h = elim (one_of (bytes_eq tag (codes "*I")) (bytes_eq tag (codes "*P")) e) as (λ _. calm false rest ≡ true) [
  | inl i ↦ after_tag 73 tag rest (omega arith, omega arith) i h
  | inr p ↦ after_tag 80 tag rest (omega arith, omega arith) p h
]

after_letter : (b : ℕ) (word rest : List ℕ) → (65 ≤ b) × (b ≤ 90) → bytes_eq word (b ∷ []) ≡ true → calm false (word ++ rest) ≡ true → calm false rest ≡ true
after_letter b word rest l e h = sym (calm_byte false b rest (letter b l)) ∙ ap (λ t. calm false (t ++ rest)) (sym ((bytes_eq-Decides word (b ∷ [])).0 e)) ∙ h

way_by : (word rest : List ℕ) (way : Direction) (i o b : Bool) → bytes_eq word (codes "I") ≡ i → bytes_eq word (codes "O") ≡ o → bytes_eq word (codes "B") ≡ b
    → cond i (Some In) (cond o (Some Out) (cond b (Some Both) None)) ≡ Some way → calm false (word ++ rest) ≡ true → calm false rest ≡ true
way_by word rest way true o b e f g h c = after_letter 73 word rest (omega arith, omega arith) e c
way_by word rest way false true b e f g h c = after_letter 79 word rest (omega arith, omega arith) f c
way_by word rest way false false true e f g h c = after_letter 66 word rest (omega arith, omega arith) g c
way_by word rest way false false false e f g h c = absurd (cc)

after_way : (word rest : List ℕ) (way : Direction) → direction_in word ≡ Some way → calm false (word ++ rest) ≡ true → calm false rest ≡ true
after_way word rest way e h = way_by word rest way (bytes_eq word (codes "I")) (bytes_eq word (codes "O")) (bytes_eq word (codes "B")) refl refl refl e h

-- the note of a calm line is calm
abbrev pub IsCalmNote : List ℕ → Type 0
IsCalmNote note = calm false note ≡ true

abbrev pub any_node : NodeName → Type 0
any_node node = Unit {0}

pub line_is : (file : File) (l : List ℕ) → calm false l ≡ true → IsLine any_node IsCalmNote file l (words l)
line_is file l h = record {
  names = λ k d m. record { name = λ node e. tt };
  notes = record {
    conn = λ tag node direction rest name way e t n w.
        let a = next_calm l tag (node ∷ direction ∷ rest) e (λ r. after_conn_tag tag r t) h in
        let b = next_calm (after_word l) node (direction ∷ rest) a.1 (λ r. after_node file node name r n) a.0 in
        let c = next_calm (after_word (after_word l)) direction rest b.1 (λ r. after_way direction r way w) b.0 in
        trimmed_calm (after_word (after_word (after_word l))) c.0;
    star = λ tag node rest name e t n.
        let a = next_calm l tag (node ∷ rest) e (λ r. after_tag 78 tag r (omega arith, omega arith) t) h in
        let b = next_calm (after_word l) node rest a.1 (λ r. after_node file node name r n) a.0 in
        trimmed_calm (after_word (after_word l)) b.0;
  };
}
