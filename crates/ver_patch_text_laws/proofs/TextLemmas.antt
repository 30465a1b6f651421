-- The words of what is put into a module.
use Rattle.std.proofs.Common.{◌≡◌, ℕ, ◌+◌, ◌-◌, ◌<◌, ◌^◌, Bool, true, false, List, [], ◌∷◌, ◌++◌, length, map, take, Option, Some, None, refl, sym, ap, ◌∙◌, subst, arith, append_assoc, not, if◌then◌else◌}
use Rattle.std.specs.Prelude.{⊤, codes, IfSome}
use Rattle.std.specs.Fmt.{decimal}
use Rattle.std.specs.List.{flat_map, list_all}
use Rattle.std.proofs.lemmas.List.{append-nil}
use Rattle.std.proofs.lemmas.Bool.{and_parts}
use Rattle.std.proofs.Math.Seq.{take-append_seam}
use Rattle.vg_num.proofs.ReadingLemmas.{decimal_writes}
use Rattle.vg_scan.specs.Lines.{part}
use Rattle.ver_text.specs.declared.kind.Kind.{Kind}
use Rattle.ver_text.specs.declared.kind.Kind.TheVariants.{Wire, Identifier, Open, Close, OpenSquare, CloseSquare, Comma, Semicolon, Dot}
use Rattle.ver_text.specs.declared.token.TokenKind.{TokenKind}
use Rattle.ver_text.specs.declared.token.TokenKind.TheVariants.{Word as AWord, Escaped, Digits}
use Rattle.ver_text.specs.Bytes.{is_letter, is_word_byte}
use Rattle.ver_text.specs.Kinds.{digits_kind, grammar_kind, word_kind}
use Rattle.ver_text.specs.Names.{escaped, is_identifier, is_simple, is_word, printed}
use Rattle.ver_text.specs.Tokens.{directive_length}
use Rattle.ver_text.specs.Written.{BeginsToken, begins_with}
use Rattle.ver_text.proofs.WrittenLemmas.{words_are_tokens, escaped_names_are_tokens, digits_are_tokens}
use Rattle.ver_module.specs.Netlists.{Net}
use Rattle.ver_net.specs.ReadAgain.{IsWritable}
use Rattle.ver_net.specs.Texts.{identifier_text, select_text, text_of}
use Rattle.ver_patch.specs.Texts.{cell_text, cell_texts, pin_text, wire_text, wire_texts}
use Rattle.ver_patch.specs.NewCells.{NewCell}
use Rattle.ver_patch_text_laws.specs.Texts.{IsNetText, IsNewCell, IsPrinted}
use Rattle.ver_patch_text_laws.specs.NewWords.{cell_words, identifier_bytes, net_words, pin_words, printed_word, select_words, wire_words, word}
use Rattle.ver_patch_text_laws.specs.Words.{Word, word_in, words_of}
use Rattle.ver_patch_text_laws.proofs.ChainLemmas.{IsNewName}
use Rattle.ver_patch_text_laws.proofs.PatchLemmas.{IsPutBefore, IsRead}
use Rattle.ver_patch_text_laws.proofs.PlaceLemmas.{BeginsName, backslash_begins, letter_begins}
use Rattle.ver_patch_text_laws.proofs.ScanLemmas.{words_from}
use Rattle.ver_patch_text_laws.proofs.WordLemmas.{words_are, words_of_are}

-- each of a list has this
abbrev pub Each : {X : Type 0} → (X → Type 0) → List X → Type 0
Each P [] = ⊤
Each P (x ∷ xs) = P x × Each P xs

no_directive : (y : ℕ) (ys : List ℕ) → BeginsName y → directive_length (y ∷ ys) ≡ 0
no_directive y ys s = rw (s.blank, s.tick) refl

-- ---- one token

token_word : (own rest : List ℕ) (kind : TokenKind) → BeginsToken kind 0 (length own) (own ++ rest) rest
    → words_from 0 (own ++ rest) ≡ word (grammar_kind kind own) own ∷ words_from 0 rest
token_word own rest kind h =
    let bytes : part (own ++ rest) 0 (0 + length own) ≡ own
    = ap (λ (n : ℕ). take n (own ++ rest)) (let n : 0 + length own - 0 ≡ length own = omega arith in n) ∙ take-append_seam own rest in
    sym (words_are (own ++ rest) [] 0 0 refl)
    ∙ ap (map (word_in (own ++ rest))) h
    ∙ (λ i. word (grammar_kind kind (bytes i)) (bytes i) ∷ words_are rest own 0 (0 + length own) (let n : 0 + length own ≡ length own = omega arith in n) i)

identifier_from : (kind : Kind) → is_identifier kind ≡ true → kind ≡ Identifier
identifier_from Identifier h = refl
identifier_from _ h = absurd (cc)

simple_kind : (name : List ℕ) → is_simple name ≡ true → word_kind name ≡ Identifier
simple_kind name e = identifier_from (word_kind name) (and_parts (is_word name) (is_identifier (word_kind name)) e).1

simple_word : (name : List ℕ) → is_simple name ≡ true → (rest : List ℕ) → begins_with is_word_byte rest ≡ false
    → words_from 0 (name ++ rest) ≡ word Identifier name ∷ words_from 0 rest
simple_word name e rest ends =
    token_word name rest AWord (words_are_tokens 0 name rest (and_parts (is_word name) (is_identifier (word_kind name)) e).0 ends)
    ∙ ap (λ k. word k name ∷ words_from 0 rest) (simple_kind name e)

blank_passed : (rest : List ℕ) → words_from 0 (32 ∷ rest) ≡ words_from 0 rest
unfolding words_from
blank_passed rest = refl

escaped_word : (name : List ℕ) → IsPrinted name → (rest : List ℕ) → words_from 0 (escaped name ++ rest) ≡ word Identifier (92 ∷ name) ∷ words_from 0 rest
escaped_word name p rest =
    let h : BeginsToken Escaped 0 (length (92 ∷ name)) ((92 ∷ name) ++ 32 ∷ rest) (32 ∷ rest)
    = let n : 1 + length name ≡ length (92 ∷ name) = omega arith in
    subst (λ n. BeginsToken Escaped 0 n ((92 ∷ name) ++ 32 ∷ rest) (32 ∷ rest)) n (escaped_names_are_tokens 0 name rest p.some p.printable) in
    ap (words_from 0) (append_assoc (92 ∷ name) (32 ∷ []) rest)
    ∙ token_word (92 ∷ name) (32 ∷ rest) Escaped h
    ∙ ap (λ ws. word Identifier (92 ∷ name) ∷ ws) (blank_passed rest)

-- ---- names

pub identifier_word : (escape : Bool) (name : List ℕ) → (escape ≡ false → is_simple name ≡ true) → (escape ≡ true → IsPrinted name) → (rest : List ℕ)
    → begins_with is_word_byte rest ≡ false → words_from 0 (identifier_text escape name ++ rest) ≡ word Identifier (identifier_bytes escape name) ∷ words_from 0 rest
identifier_word true name plain print rest ends = escaped_word name (print refl) rest
identifier_word false name plain print rest ends = simple_word name (plain refl) rest ends

printed_as : (name : List ℕ) → printed name ≡ identifier_text (not (is_simple name)) name
printed_as name = by_test (is_simple name)
  where
    by_test : (b : Bool) → (if b then name else escaped name) ≡ identifier_text (not b) name
    by_test true = refl
    by_test false = refl

pub name_printed : (name : List ℕ) → IsPrinted name → (rest : List ℕ) → begins_with is_word_byte rest ≡ false
    → words_from 0 (printed name ++ rest) ≡ word Identifier (identifier_bytes (not (is_simple name)) name) ∷ words_from 0 rest
name_printed name p rest ends =
    ap (λ xs. words_from 0 (xs ++ rest)) (printed_as name)
    ∙ identifier_word (not (is_simple name)) name (not_false (is_simple name)) (λ e. p) rest ends
  where
    not_false : (b : Bool) → not b ≡ false → b ≡ true
    not_false true e = refl
    not_false false e = absurd (cc)

word_first : (name : List ℕ) → is_word name ≡ true → (y : ℕ) × (ys : List ℕ) × (name ≡ y ∷ ys) × BeginsName y
word_first [] e = absurd (cc)
word_first (b ∷ bs) e = (b, bs, refl, letter_begins b (and_parts (is_letter b) (list_all is_word_byte bs) e).0)

identifier_first : (escape : Bool) (name : List ℕ) → (escape ≡ false → is_simple name ≡ true)
    → (y : ℕ) × (ys : List ℕ) × (identifier_text escape name ≡ y ∷ ys) × BeginsName y
identifier_first true name plain = (92, name ++ 32 ∷ [], refl, backslash_begins)
identifier_first false name plain = word_first name (and_parts (is_word name) (is_identifier (word_kind name)) (plain refl)).0

-- ---- nets

square_word : (rest : List ℕ) → words_from 0 (91 ∷ rest) ≡ word OpenSquare (91 ∷ []) ∷ words_from 0 rest
unfolding words_from
square_word rest = refl

close_word : (rest : List ℕ) → words_from 0 (93 ∷ rest) ≡ word CloseSquare (93 ∷ []) ∷ words_from 0 rest
unfolding words_from
close_word rest = refl

digits_word : (bit : ℕ) (rest : List ℕ) → bit < 2 ^ 32
    → words_from 0 (decimal bit ++ 93 ∷ rest) ≡ word (digits_kind (decimal bit)) (decimal bit) ∷ words_from 0 (93 ∷ rest)
digits_word bit rest few =
    let w = decimal_writes bit (omega (arith, few)) in
    token_word (decimal bit) (93 ∷ rest) Digits (digits_are_tokens 0 (decimal bit) (93 ∷ rest) w.some w.all refl refl)

select_read : (bit : Option ℕ) → IfSome bit (λ k. k < 2 ^ 32) → (rest : List ℕ) → words_from 0 (select_text bit ++ rest) ≡ select_words bit ++ words_from 0 rest
select_read None few rest = refl
select_read (Some bit) few rest =
    square_word ((decimal bit ++ 93 ∷ []) ++ rest)
    ∙ ap (λ ws. word OpenSquare (91 ∷ []) ∷ ws)
    (ap (words_from 0) (append_assoc (decimal bit) (93 ∷ []) rest) ∙ digits_word bit rest few
    ∙ ap (λ ws. word (digits_kind (decimal bit)) (decimal bit) ∷ ws) (close_word rest))

select_ends : (bit : Option ℕ) (rest : List ℕ) → begins_with is_word_byte rest ≡ false → begins_with is_word_byte (select_text bit ++ rest) ≡ false
select_ends None rest e = e
select_ends (Some bit) rest e = refl

pub net_read : (net : Net) → IsWritable net → (rest : List ℕ) → begins_with is_word_byte rest ≡ false
    → words_from 0 (text_of net ++ rest) ≡ net_words net ++ words_from 0 rest
net_read net w rest ends =
    ap (words_from 0) (append_assoc (identifier_text net.escaped net.base) (select_text net.bit) rest)
    ∙ identifier_word net.escaped net.base w.plain (λ e. record { some = w.some; printable = w.printable e }) (select_text net.bit ++ rest) (select_ends net.bit rest ends)
    ∙ ap (λ ws. word Identifier (identifier_bytes net.escaped net.base) ∷ ws) (select_read net.bit w.few rest)

-- the words of a text that is read as such alone
words_alone : (text : List ℕ) (y : ℕ) (ys : List ℕ) (ws : List Word) → text ≡ y ∷ ys → BeginsName y
    → ((rest : List ℕ) → begins_with is_word_byte rest ≡ false → words_from 0 (text ++ rest) ≡ ws ++ words_from 0 rest) → words_of text ≡ ws
unfolding words_from
words_alone text y ys ws is s reads =
    words_of_are text
    ∙ ap (λ (n : ℕ). words_from n text) (ap directive_length is ∙ no_directive y ys s)
    ∙ ap (words_from 0) (sym (append-nil text))
    ∙ reads [] refl
    ∙ append-nil ws

pub net_named : (text : List ℕ) → (t : IsNetText text) → words_of text ≡ net_words t.net
net_named text t =
    let (y, ys, is, s) = identifier_first t.net.escaped t.net.base t.writable.plain in
    words_alone text y (ys ++ select_text t.net.bit) (net_words t.net) (t.is ∙ ap (λ xs. xs ++ select_text t.net.bit) is) s
    (λ rest ends. ap (λ xs. words_from 0 (xs ++ rest)) t.is ∙ net_read t.net t.writable rest ends)

-- a net may stand in the place of a name
pub net_is_new : (text : List ℕ) → IsNetText text → IsNewName text (words_of text)
net_is_new text t =
    let (y, ys, is, s) = identifier_first t.net.escaped t.net.base t.writable.plain in
    record {
      first = y;
      more = ys ++ select_text t.net.bit;
      is = t.is ∙ ap (λ xs. xs ++ select_text t.net.bit) is;
      begins = s;
      reads = λ rest ends. ap (λ xs. words_from 0 (xs ++ rest)) t.is ∙ net_read t.net t.writable rest ends
          ∙ ap (λ ws. ws ++ words_from 0 rest) (sym (net_named text t));
    }

-- ---- declarations

wire_begins : (rest : List ℕ) → words_from 0 (codes "\nwire " ++ rest) ≡ word Wire (codes "wire") ∷ words_from 0 rest
unfolding words_from
wire_begins rest = refl

semicolon_word : (rest : List ℕ) → words_from 0 (59 ∷ rest) ≡ word Semicolon (59 ∷ []) ∷ words_from 0 rest
unfolding words_from
semicolon_word rest = refl

wire_read : (name : List ℕ) → is_simple name ≡ true → IsRead (wire_text name) (wire_words name)
wire_read name e rest =
    ap (words_from 0) (regroup (codes "\nwire ") name (59 ∷ []) rest)
    ∙ wire_begins (name ++ 59 ∷ rest)
    ∙ ap (λ ws. word Wire (codes "wire") ∷ ws) (simple_word name e (59 ∷ rest) refl ∙ ap (λ ws. word Identifier name ∷ ws) (semicolon_word rest))
  where
    regroup : (a b c d : List ℕ) → ((a ++ b) ++ c) ++ d ≡ a ++ (b ++ (c ++ d))
    regroup a b c d = simp append_assoc

pub wires_read : (names : List (List ℕ)) → Each (λ name. is_simple name ≡ true) names → IsRead (wire_texts names) (flat_map wire_words names)
wires_read [] h rest = refl
wires_read (name ∷ names) h rest =
    ap (words_from 0) (append_assoc (wire_text name) (wire_texts names) rest)
    ∙ wire_read name h.0 (wire_texts names ++ rest)
    ∙ ap (λ ws. wire_words name ++ ws) (wires_read names h.1 rest)

-- ---- instances

open_word : (y : ℕ) (rest : List ℕ) → BeginsName y → words_from 0 (40 ∷ y ∷ rest) ≡ word Open (40 ∷ []) ∷ words_from 0 (y ∷ rest)
unfolding words_from
open_word y rest s = rw s.star refl

open_dot : (rest : List ℕ) → words_from 0 (40 ∷ 46 ∷ rest) ≡ word Open (40 ∷ []) ∷ words_from 0 (46 ∷ rest)
unfolding words_from
open_dot rest = refl

dot_word : (rest : List ℕ) → words_from 0 (46 ∷ rest) ≡ word Dot (46 ∷ []) ∷ words_from 0 rest
unfolding words_from
dot_word rest = refl

shut_word : (rest : List ℕ) → words_from 0 (41 ∷ rest) ≡ word Close (41 ∷ []) ∷ words_from 0 rest
unfolding words_from
shut_word rest = refl

comma_word : (rest : List ℕ) → words_from 0 (44 ∷ 32 ∷ rest) ≡ word Comma (44 ∷ []) ∷ words_from 0 rest
unfolding words_from
comma_word rest = refl

-- a line's end before a name
line_end : (b : ℕ) (bs : List ℕ) → BeginsName b → words_from 0 (10 ∷ b ∷ bs) ≡ words_from 0 (b ∷ bs)
unfolding words_from
line_end b bs s = ap (λ (n : ℕ). words_from n (b ∷ bs)) (no_directive b bs s)

pin_read : (pin net : List ℕ) → IsPrinted pin → IsNetText net → (rest : List ℕ)
    → words_from 0 (pin_text pin net ++ rest) ≡ pin_words pin (words_of net) ++ words_from 0 rest
pin_read pin net p t rest =
    let n = net_is_new net t in
    ap (words_from 0) (regroup (46 ∷ []) (printed pin) (40 ∷ []) net (41 ∷ []) rest)
    ∙ dot_word (printed pin ++ 40 ∷ (net ++ 41 ∷ rest))
    ∙ ap (λ ws. word Dot (46 ∷ []) ∷ ws)
    (name_printed pin p (40 ∷ (net ++ 41 ∷ rest)) refl
    ∙ ap (λ ws. printed_word pin ∷ ws)
    (ap (λ xs. words_from 0 (40 ∷ (xs ++ 41 ∷ rest))) n.is
    ∙ open_word n.first (n.more ++ 41 ∷ rest) n.begins
    ∙ ap (λ xs. word Open (40 ∷ []) ∷ words_from 0 (xs ++ 41 ∷ rest)) (sym n.is)
    ∙ ap (λ ws. word Open (40 ∷ []) ∷ ws)
    (n.reads (41 ∷ rest) refl ∙ ap (λ ws. words_of net ++ ws) (shut_word rest) ∙ sym (append_assoc (words_of net) (word Close (41 ∷ []) ∷ []) (words_from 0 rest)))))
  where
    regroup : (a b c d e f : List ℕ) → ((((a ++ b) ++ c) ++ d) ++ e) ++ f ≡ a ++ (b ++ (c ++ (d ++ (e ++ f))))
    regroup a b c d e f = simp append_assoc

-- an instance, up to its line's end
cell_read : (c : NewCell) → IsNewCell c → (rest : List ℕ) → words_from 0 (cell_text c ++ rest) ≡ cell_words c ++ words_from 0 (10 ∷ rest)
cell_read c h rest =
    let input = pin_text c.input c.from in
    let output = pin_text c.output c.to in
    let tail : List ℕ = 41 ∷ 59 ∷ 10 ∷ rest in
    ap (words_from 0) (regroup (printed c.cell) (32 ∷ []) c.name (32 ∷ 40 ∷ []) input (44 ∷ 32 ∷ []) output (41 ∷ 59 ∷ 10 ∷ []) rest)
    ∙ name_printed c.cell h.cell (32 ∷ (c.name ++ 32 ∷ 40 ∷ (input ++ 44 ∷ 32 ∷ (output ++ tail)))) refl
    ∙ ap (λ ws. printed_word c.cell ∷ ws)
    (blank_passed (c.name ++ 32 ∷ 40 ∷ (input ++ 44 ∷ 32 ∷ (output ++ tail)))
    ∙ simple_word c.name h.name (32 ∷ 40 ∷ (input ++ 44 ∷ 32 ∷ (output ++ tail))) refl
    ∙ ap (λ ws. word Identifier c.name ∷ ws)
    (blank_passed (40 ∷ (input ++ 44 ∷ 32 ∷ (output ++ tail)))
    ∙ ap (λ xs. words_from 0 (40 ∷ xs)) (dotted c.input c.from (44 ∷ 32 ∷ (output ++ tail)))
    ∙ open_dot (pin_rest c.input c.from (44 ∷ 32 ∷ (output ++ tail)))
    ∙ ap (λ xs. word Open (40 ∷ []) ∷ words_from 0 xs) (sym (dotted c.input c.from (44 ∷ 32 ∷ (output ++ tail))))
    ∙ ap (λ ws. word Open (40 ∷ []) ∷ ws)
    (pin_read c.input c.from h.input h.from (44 ∷ 32 ∷ (output ++ tail))
    ∙ ap (λ ws. pin_words c.input (words_of c.from) ++ ws)
    (comma_word (output ++ tail)
    ∙ ap (λ ws. word Comma (44 ∷ []) ∷ ws)
    (pin_read c.output c.to h.output h.to tail
    ∙ ap (λ ws. pin_words c.output (words_of c.to) ++ ws) (shut_word (59 ∷ 10 ∷ rest) ∙ ap (λ ws. word Close (41 ∷ []) ∷ ws) (semicolon_word (10 ∷ rest)))))
    ∙ words_regroup (pin_words c.input (words_of c.from)) (word Comma (44 ∷ [])) (pin_words c.output (words_of c.to))
    (word Close (41 ∷ [])) (word Semicolon (59 ∷ [])) (words_from 0 (10 ∷ rest)))))
  where
    pin_rest : (pin net more : List ℕ) → List ℕ
    pin_rest pin net more = (((printed pin ++ 40 ∷ []) ++ net) ++ 41 ∷ []) ++ more

    dotted : (pin net more : List ℕ) → pin_text pin net ++ more ≡ 46 ∷ pin_rest pin net more
    dotted pin net more = refl

    regroup : (a b c d e f g i rest : List ℕ)
        → (((((((a ++ b) ++ c) ++ d) ++ e) ++ f) ++ g) ++ i) ++ rest ≡ a ++ (b ++ (c ++ (d ++ (e ++ (f ++ (g ++ (i ++ rest)))))))
    regroup a b c d e f g i rest = simp append_assoc

    words_regroup : (a : List Word) (x : Word) (b : List Word) (y z : Word) (rest : List Word)
        → a ++ x ∷ (b ++ y ∷ z ∷ rest) ≡ (a ++ x ∷ (b ++ y ∷ z ∷ [])) ++ rest
    words_regroup a x b y z rest = simp append_assoc

printed_first : (name : List ℕ) → (y : ℕ) × (ys : List ℕ) × (printed name ≡ y ∷ ys) × BeginsName y
printed_first name =
    let (y, ys, is, s) = identifier_first (not (is_simple name)) name (not_false (is_simple name)) in (y, ys, printed_as name ∙ is, s)
  where
    not_false : (b : Bool) → not b ≡ false → b ≡ true
    not_false true e = refl
    not_false false e = absurd (cc)

cells_begin : (cells : List NewCell) (b : ℕ) (bs : List ℕ) → BeginsName b → (y : ℕ) × (ys : List ℕ) × BeginsName y × (cell_texts cells ++ b ∷ bs ≡ y ∷ ys)
cells_begin [] b bs s = (b, bs, s, refl)
cells_begin (c ∷ cells) b bs s =
    let (y, ys, is, t) = printed_first c.cell in
    let after : List ℕ
    = codes " " ++ (c.name ++ (codes " (" ++ (pin_text c.input c.from ++ (codes ", " ++ (pin_text c.output c.to ++ (codes ");\n" ++ (cell_texts cells ++ b ∷ bs))))))) in (
      y,
      ys ++ after,
      t,
      regroup (printed c.cell) (codes " ") c.name (codes " (") (pin_text c.input c.from) (codes ", ") (pin_text c.output c.to) (codes ");\n") (cell_texts cells) (b ∷ bs)
          ∙ ap (λ xs. xs ++ after) is,
    )
  where
    regroup : (a b c d e f g h i rest : List ℕ)
        → ((((((((a ++ b) ++ c) ++ d) ++ e) ++ f) ++ g) ++ h) ++ i) ++ rest ≡ a ++ (b ++ (c ++ (d ++ (e ++ (f ++ (g ++ (h ++ (i ++ rest))))))))
    regroup a b c d e f g h i rest = simp append_assoc

cells_read : (cells : List NewCell) → Each IsNewCell cells → (b : ℕ) (bs : List ℕ) → BeginsName b
    → words_from 0 (cell_texts cells ++ b ∷ bs) ≡ flat_map cell_words cells ++ words_from 0 (b ∷ bs)
cells_read [] h b bs s = refl
cells_read (c ∷ cells) h b bs s =
    let (y, ys, t, is) = cells_begin cells b bs s in
    ap (words_from 0) (append_assoc (cell_text c) (cell_texts cells) (b ∷ bs))
    ∙ cell_read c h.0 (cell_texts cells ++ b ∷ bs)
    ∙ ap (λ ws. cell_words c ++ ws)
    (ap (λ xs. words_from 0 (10 ∷ xs)) is ∙ line_end y ys t ∙ ap (words_from 0) (sym is) ∙ cells_read cells h.1 b bs s)
    ∙ sym (append_assoc (cell_words c) (flat_map cell_words cells) (words_from 0 (b ∷ bs)))

pub cells_are_put : (cells : List NewCell) → Each IsNewCell cells → IsPutBefore (cell_texts cells) (flat_map cell_words cells)
cells_are_put cells h = record { begins = λ b bs s. cells_begin cells b bs s; reads = λ b bs s. cells_read cells h b bs s }
